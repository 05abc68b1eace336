-- What a node came to, with the history that accounts for it.
use Rattle.std.proofs.Common.{◌≡◌, ℕ, zero, suc, ◌-◌, ◌<◌, ◌≤◌, cond, ◌⊎◌, inl, inr, Some, None, List, [], ◌∷◌, ◌++◌, length, take, drop, refl, sym, ◌∙◌, ap, subst, arith}
use Rattle.std.specs.Prelude.{nat_lt}
use Rattle.std.proofs.lemmas.List.{length-drop}
use Rattle.raft_model.specs.Log.{term_at}
use Rattle.raft_model.proofs.Logs.{agree_length}
use Rattle.raft_model.proofs.Election.{at_eq, put_same}
use Rattle.raft_model.proofs.Moves.{sound_rise}
use Rattle.raft_model.proofs.Going.{goes_nowhere, goes_further}
use Rattle.raft_model.proofs.History.{History, Sound, rise}
use Rattle.cat_model.specs.declared.reply.Role.TheVariants.{Follower, Leader}
use Rattle.raft_model.specs.Rules.{append_to, append_all, risen}
use Rattle.raft_model.specs.Limits.{batch}
use Rattle.raft_model.specs.declared.message.Message.{Message}
use Rattle.raft_model.specs.declared.message.Sent.{Sent}
use Rattle.raft_model.specs.Node.{Node, Done, to_others, quiet, reply, of_server}
use Rattle.raft_model.proofs.Sound.{IsTrueOf, AllTrue, Runs, GoesOn}
use Rattle.raft_model.proofs.Moved.{goes_rise}
use Rattle.raft_model.proofs.Tests.{at_bool, batch_front, batch_short, lt_tells}

-- a node has come to this value, and has sent these
pub record Came (servers : ℕ) (h : History) (i : ℕ) (d : Done) : Type 0 where
  pub after : History
  pub goes : GoesOn i h after
  pub sound : Sound servers after
  pub runs : Runs servers after i d.node
  pub told : AllTrue after i d.sent
  -- what is agreed grew at most to the node's commit
  pub grew : (after.agreed ≡ h.agreed) ⊎ (length after.agreed ≤ d.node.commit)

pub AllTrue-append : (h : History) (i : ℕ) (xs ys : List Sent) → AllTrue h i xs → AllTrue h i ys → AllTrue h i (xs ++ ys)
AllTrue-append h i [] ys a b = b
AllTrue-append h i (x ∷ xs) ys a b = (a.0, AllTrue-append h i xs ys a.1 b)

pub all_others : (h : History) (i id : ℕ) (f : ℕ → Message) → ((p : ℕ) → IsTrueOf h i p (f p)) → (k : ℕ) → AllTrue h i (to_others id f k)
all_others h i id f t zero = tt
all_others h i id f t (suc k) = at_eq (λ b. AllTrue h i (cond b (to_others id f k) (to_others id f k ++ record { to = suc k; message = f (suc k) } ∷ []))) (suc k) id
    (λ _. all_others h i id f t k)
    (λ _. AllTrue-append h i (to_others id f k) (record { to = suc k; message = f (suc k) } ∷ []) (all_others h i id f t k) (t (suc k), tt))

module _ (servers : ℕ) (h : History) (s : Sound servers h) (i : ℕ) where
  pub came_quiet : (n : Node) → Runs servers h i n → Came servers h i (quiet n)
  came_quiet n r = record { after = h; goes = goes_nowhere i h; sound = s; runs = r; grew = inl refl; told = tt }

  pub came_reply : (n : Node) → Runs servers h i n → (to : ℕ) (m : Message) → IsTrueOf h i to m → Came servers h i (reply n to m)
  came_reply n r to m t = record { after = h; goes = goes_nowhere i h; sound = s; runs = r; grew = inl refl; told = (t, tt) }

  -- a higher term
  pub came_risen : (n : Node) (t : ℕ) → Runs servers h i n → Came servers h i (quiet (risen n t))
  came_risen n t r = at_bool (λ b. Came servers h i (quiet (cond b (record n { term = t; vote = None; role = Follower; leader = None }) n))) (nat_lt n.term t)
      (λ e. let l : h.terms i < t = let q = r.term in let k = lt_tells n.term t e in omega arith in
      record {
        after = rise i t h;
        goes = goes_rise servers h s i t l;
        sound = sound_rise servers h s i t l;
        grew = inl refl;
        told = tt;
        runs = record {
          id = r.id;
          count = r.count;
          place = r.place;
          running = r.running;
          term = put_same h.terms i t;
          vote = s.votes.later i t l;
          log = r.log;
          role = put_same h.roles i Follower;
          commit_within = r.commit_within;
          commit_agrees = r.commit_agrees;
          votes = λ e. cc e;
          matched = λ e. cc e;
          next = λ e. cc e;
          round = λ e. cc e;
          acked = λ e. cc e;
          own = λ e. cc e;
        };
      })
      (λ _. came_quiet n r)

  -- a leader's Append is true
  pub append_is_true : (n : Node) → Runs servers h i n → n.role ≡ Leader → (p : ℕ) → IsTrueOf h i p (append_to n p)
  append_is_true n r lead p = record {
    leads = subst (λ z. h.leaders z ≡ Some i) r.term (s.roles.elected i role);
    within = let q = ap length same in omega (arith, batch_short (drop (of_server n.next p - 1) n.log), length-drop (of_server n.next p - 1) n.log, fits, q);
    before = ap (term_at (of_server n.next p - 1)) (sym same);
    entries_are = batch_front (drop (of_server n.next p - 1) n.log) ∙ ap (λ x. take (length (batch (drop (of_server n.next p - 1) n.log))) (drop (of_server n.next p - 1) x)) (sym same);
    commit_within = r.commit_within;
    commit_agrees = ap (take n.commit) same ∙ r.commit_agrees;
    begun = let k = r.round lead in omega arith;
  }
    where
      role : h.roles i ≡ Leader
      role = r.role ∙ lead

      same : h.ledger n.term ≡ n.log
      same = ap h.ledger (sym r.term) ∙ s.roles.leading i role ∙ r.log

      fits : of_server n.next p - 1 ≤ length n.log
      fits = let q = r.next lead p in omega arith

  pub came_append_all : (n : Node) → Runs servers h i n → n.role ≡ Leader → Came servers h i (append_all n)
  came_append_all n r lead = record { after = h; goes = goes_nowhere i h; sound = s; runs = r; grew = inl refl; told = all_others h i n.id (append_to n) (append_is_true n r lead) n.servers }

  pub commit_long : (n : Node) → Runs servers h i n → n.commit ≤ length n.log
  commit_long n r = agree_length n.commit n.log h.agreed r.commit_agrees r.commit_within

-- one after the other
grown_by : (h a b : History) (m k : ℕ) → m ≤ k → (a.agreed ≡ h.agreed) ⊎ (length a.agreed ≤ m) → (b.agreed ≡ a.agreed) ⊎ (length b.agreed ≤ k) → (b.agreed ≡ h.agreed) ⊎ (length b.agreed ≤ k)
grown_by h a b m k l x (inr y) = inr y
grown_by h a b m k l (inl x) (inl y) = inl (y ∙ x)
grown_by h a b m k l (inr x) (inl y) = inr (let q = ap length y in omega arith)

-- no step lowers the commit
pub then : (servers : ℕ) (h : History) (i : ℕ) (n : Node) (d : Done) (a : Came servers h i (quiet n)) → n.commit ≤ d.node.commit → Came servers a.after i d → Came servers h i d
then servers h i n d a up b = record { after = b.after; goes = goes_further i h a.after b.after a.goes b.goes; sound = b.sound; runs = b.runs; grew = grown_by h a.after b.after n.commit d.node.commit up a.grew b.grew; told = b.told }
