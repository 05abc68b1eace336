-- In a cluster that serves no answer tells of a server that failed or that lost its leadership.
use Rattle.std.proofs.Common.{◌≡◌, ℕ, suc, ◌≤◌, ◌⊎◌, inl, inr, Bool, true, false, cond, List, [], ◌∷◌, ◌++◌, length, take, Option, Some, None, refl, sym, ◌∙◌, ap, subst, arith}
use Rattle.std.specs.Prelude.{◌==◌}
use Rattle.std.specs.List.{AllByRecursion as Each}
use Rattle.std.proofs.Math.Seq.{take-length}
use Rattle.std.proofs.lemmas.List.{length-append, length-take}
use Rattle.cat_model.specs.declared.command.Entry.{Entry}
use Rattle.cat_model.specs.declared.reply.Kind.{Kind}
use Rattle.cat_model.specs.declared.reply.Kind.TheVariants.{Acked, Refused}
use Rattle.cat_model.specs.declared.reply.Mark.{Mark}
use Rattle.cat_model.specs.declared.reply.Mark.TheVariants as mark
use Rattle.cat_model.specs.declared.reply.Refusal.{Refusal}
use Rattle.cat_model.specs.declared.reply.Refusal.TheVariants as refusal
use Rattle.cat_model.specs.declared.reply.Role.TheVariants.{Leader}
use Rattle.raft_model.specs.Log.{Log, entry_at, term_at}
use Rattle.raft_model.specs.Node.{Node}
use Rattle.raft_model.specs.Rules.{Input}
use Rattle.raft_model.specs.World.{Acts as NodeActs, World}
use Rattle.raft_model.proofs.Going.{longer_length}
use Rattle.raft_model.proofs.Logs.{agree_term, front_take}
use Rattle.raft_model.proofs.Tests.{at_bool, eq_tells}
use Rattle.cluster_rules.specs.Offices.{Office, office_from}
use Rattle.cluster_rules.specs.Cluster.{AtPlace, Cluster, Ended, ForIndex, InRound, Pending, Server, Stand, applied_of, clock_of, no_server, node_of, runs_leading, seated, server_of, took_office, with_office}
use Rattle.cluster_rules.specs.Due.{Applies, Closes, Holds, IsDue, Replies, Work, Works, answered, applies_entry, did, landed, none, waiting, work}
use Rattle.cluster_rules.specs.Proposals.{looked}
use Rattle.cluster_rules.specs.Replies.{Question}
use Rattle.cluster_rules.specs.Requests.{entries_past, halted_now, halts_past, joined, moved, moved_with}
use Rattle.cluster_rules.specs.Sound.{IsAmong}
use Rattle.cluster_rules.proofs.Boundary.{leader_there, leading_tells}
use Rattle.cluster_rules.proofs.Cases.{Leaves, due_cases}
use Rattle.cluster_rules.proofs.Entries.{take_next}
use Rattle.cluster_rules.proofs.Tools.{at_item, each_map, eq_tells_not, is_place, there_or_none}
use Rattle.cluster_rules.proofs.Works.{each_kept, each_with}
use Rattle.rerun_rules.specs.Leading.{CameBad}
use Rattle.rerun_rules.proofs.Ahead.{IsAhead, May, StaysAhead, acts_ahead}

-- What a held request waits for at server 1 while it leads.
abbrev pub StandsWell : Node → ℕ → Stand → Type 0
StandsWell first server (AtPlace index term) = (server ≡ 1) × (first.role ≡ Leader) × (term ≡ first.term) × (index ≤ length first.log) × (term_at index first.log ≡ first.term)
StandsWell first server (InRound round deadline) = (server ≡ 1) × (first.role ≡ Leader) × (round.term ≡ first.term)
StandsWell first server other = Unit {0}

abbrev pub AreWell : Node → List Pending → Type 0
AreWell first held = Each (λ (h : Pending). StandsWell first h.server h.stand) held

-- server 1 has applied a front of its log
abbrev pub AppliesFront : Node → Server → Type 0
AppliesFront first s = s.applied ≡ take (length s.applied) first.log

-- no server is halted
pub none_halted : (w : World) → IsAhead w → (i : ℕ) → (node_of w i).halted ≡ false
none_halted w a i = elim (there_or_none w i) [
  | inl n ↦ ap (λ (z : Node). z.halted) n
  | inr at ↦ let p = is_place w i (node_of w i) at in (a.well i p.0 p.1).runs
]

-- only server 1 leads
pub leader_is : (w : World) → IsAhead w → (i : ℕ) → runs_leading w i ≡ true → i ≡ 1
leader_is w a i l = at_bool (λ b. (i == 1) ≡ b → i ≡ 1) (i == 1) (λ _ e. eq_tells i 1 e)
    (λ _ e. let p = is_place w i (node_of w i) (leader_there w i l) in absurd (let f = (a.follow i p.0 p.1 (eq_tells_not i 1 e)).0 in let r = (leading_tells w i l).1 in cc (f, r))) refl

pub front_long : (applied log : Log) → applied ≡ take (length applied) log → length applied ≤ length log
front_long applied log e = omega (arith, length-take (length applied) log, ap length e)

-- an entry that is applied
applied_next : (first : Node) (clock : ℕ) (s : Server) (o : Option Entry) → entry_at (suc (length s.applied)) first.log ≡ o → AppliesFront first s → AppliesFront first (applies_entry clock s o)
applied_next first clock s None e f = f
applied_next first clock s (Some x) e f =
    ap (λ (z : Log). z ++ x ∷ []) f ∙ sym (take_next (length s.applied) first.log x e) ∙ ap (λ n. take n first.log) (let n = length-append s.applied (x ∷ []) in let same : suc (length s.applied) ≡ length (s.applied ++ x ∷ []) = omega arith in same)

-- The world goes on.
stands_on : (w w' : World) → StaysAhead w w' → (server : ℕ) (st : Stand) → StandsWell (node_of w 1) server st → StandsWell (node_of w' 1) server st
stands_on w w' x server (AtPlace index term) s =
    let o = x.on s.1 in (
      s.0,
      o.0,
      s.2 ∙ sym o.1,
      let n = longer_length (node_of w 1).log (node_of w' 1).log x.grows in let l = s.3 in omega arith,
      agree_term index (length (node_of w 1).log) (node_of w' 1).log (node_of w 1).log s.3 (x.grows ∙ sym (take-length (node_of w 1).log)) ∙ s.4 ∙ sym o.1,
    )
stands_on w w' x server (InRound round deadline) s = let o = x.on s.1 in (s.0, o.0, s.2 ∙ sym o.1)
stands_on w w' x server (ForIndex deadline looked) s = tt
stands_on w w' x server (Ended event) s = tt

front_on : (w w' : World) → StaysAhead w w' → (s : Server) → AppliesFront (node_of w 1) s → AppliesFront (node_of w' 1) s
front_on w w' x s f = f ∙ sym (front_take (length s.applied) (node_of w 1).log (node_of w' 1).log x.grows (front_long s.applied (node_of w 1).log f))

-- what is told: a loss, and where `all` is so also that a leader is not ready yet
abbrev pub Where : Bool → Type 0
Where true = Unit {0}
Where false = ⊥

abbrev pub Tells : Bool → Refusal → Type 0
Tells all (refusal.Halted server) = Unit {0}
Tells all (refusal.Lost old found) = Unit {0}
Tells all (refusal.NotReady term last) = Where all
Tells all other = ⊥

module _ (all : Bool) (old : List Mark) where
  -- no answer among these marks tells it, but to a request that came so, or one of before
  abbrev pub TellNoLoss : List Mark → Type 0
  TellNoLoss past = (number : ℕ) (why : Refusal) (known : Bool) (contact : ℕ) → IsAmong (mark.Answered number (Refused why) known contact) past → Tells all why → CameBad number why past ⊎ IsAmong (mark.Answered number (Refused why) known contact) old

  pub record IsKept (c : Cluster) : Type 0 where
    pub ahead : IsAhead c.world
    pub told : TellNoLoss c.past
    pub held : AreWell (node_of c.world 1) c.held
    pub front : AppliesFront (node_of c.world 1) (server_of c.servers 1)

  -- One mark more.
  came_more : (number : ℕ) (why : Refusal) (m : Mark) (past : List Mark) → CameBad number why past → CameBad number why (m ∷ past)
  came_more number why m past b = (b.0, b.1, inr b.2)

  pub more_told : (m : Mark) (past : List Mark) → ((number : ℕ) (why : Refusal) (known : Bool) (contact : ℕ) → mark.Answered number (Refused why) known contact ≡ m → Tells all why → CameBad number why (m ∷ past)) → TellNoLoss past → TellNoLoss (m ∷ past)
  more_told m past f t number why known contact (inl e) l = inl (f number why known contact e l)
  more_told m past f t number why known contact (inr x) l = elim (t number why known contact x l) [ inl b ↦ inl (came_more number why m past b) | inr o ↦ inr o ]

  entries_told : (es : Log) (past : List Mark) → TellNoLoss past → TellNoLoss (entries_past es past)
  entries_told [] past t = t
  entries_told (e ∷ es) past t = entries_told es (mark.Entry e ∷ past) (more_told (mark.Entry e) past (λ number why known contact q l. absurd (cc q)) t)

  halts_told : (i : ℕ) (b : Bool) (past : List Mark) → TellNoLoss past → TellNoLoss (halts_past i b past)
  halts_told i true past t = more_told (mark.Halted i) past (λ number why known contact q l. absurd (cc q)) t
  halts_told i false past t = t

  -- an answer that tells none
  abbrev pub NoLoss : Kind → Type 0
  NoLoss kind = (why : Refusal) → kind ≡ Refused why → Tells all why → ⊥

  answer_told : (number : ℕ) (kind : Kind) (known : Bool) (contact : ℕ) (past : List Mark) → NoLoss kind → TellNoLoss past → TellNoLoss (mark.Answered number kind known contact ∷ past)
  answer_told number kind known contact past n t = more_told (mark.Answered number kind known contact) past (λ m why k c q l. let same : kind ≡ Refused why = cc q in absurd (n why same l)) t

  pub answered_kept : (q : Question) (kind : Kind) (known : Bool) (contact : ℕ) (log : Log) (c : Cluster) → NoLoss kind → IsKept c → IsKept (answered q kind known contact log c)
  answered_kept q kind known contact log c n k = record {
    ahead = k.ahead;
    told = answer_told q.number kind known contact c.past n k.told;
    held = each_kept (λ (h : Pending). StandsWell (node_of c.world 1) h.server h.stand) q.number c.held k.held;
    front = k.front;
  }

  -- What is due.
  abbrev pub WorkIsWell : Node → Work → Type 0
  WorkIsWell first (Replies q kind) = NoLoss kind
  WorkIsWell first (Holds h) = StandsWell first h.server h.stand
  WorkIsWell first (Closes number event) = Unit {0}
  WorkIsWell first Applies = Unit {0}

  -- where the position is applied at server 1, it is this term's
  landed_well : (index term : ℕ) (applied log : Log) → index ≤ length applied → applied ≡ take (length applied) log → term_at index log ≡ term → NoLoss (landed index term applied)
  landed_well index term applied log l f t why = at_bool (λ b. (term_at index applied == term) ≡ b → landed index term applied ≡ Refused why → Tells all why → ⊥) (term_at index applied == term)
      (λ _ e q. let z = ap (λ b. cond b (Acked index) (Refused (refusal.Lost term (term_at index applied)))) e in absurd (cc (z, q)))
      (λ _ e. absurd (eq_tells_not (term_at index applied) term e
      (agree_term index (length applied) applied log l (take-length applied ∙ f) ∙ t))) refl

  leaves_well : (c : Cluster) → IsKept c → (i : ℕ) (h : Pending) → StandsWell (node_of c.world 1) h.server h.stand → h.server ≡ i → Leaves c i (WorkIsWell (node_of c.world 1)) h
  leaves_well c k i h x at = record {
    halted = λ e _. absurd (let n = none_halted c.world k.ahead i in cc (e, n));
    closes = λ event e. tt;
    lands = λ index term e l.
        let s = subst (StandsWell (node_of c.world 1) h.server) e x in
        let first : 1 ≡ i = sym s.0 ∙ at in
        subst (λ z. index ≤ length (applied_of c z) → NoLoss (landed index term (applied_of c z))) first
        (λ l. landed_well index term (applied_of c 1) (node_of c.world 1).log l k.front (s.4 ∙ sym s.2)) l;
    rises = λ round deadline e l. absurd (let s = subst (StandsWell (node_of c.world 1) h.server) e x in let t = ap (λ z. (node_of c.world z).term) (sym s.0 ∙ at) in let u = s.2 in omega arith);
    answers = λ deadline looked query mode least wait raw e asked l why q. absurd (cc q);
    refuses = λ deadline query mode least wait raw e asked l m n why q t. let same : why ≡ refusal.TooMany (waiting i c.held) = cc q in subst (Tells all) same t;
    sees = λ deadline query mode least wait raw e asked l. tt;
    runs = λ deadline looked name limit mode e asked why q. absurd (cc q);
    turns = λ round deadline e up sure l. tt;
  }

  pub due_well : (c : Cluster) → IsKept c → (i : ℕ) (w : Work) → IsDue i c w → WorkIsWell (node_of c.world 1) w
  due_well c k i w e = due_cases c i (WorkIsWell (node_of c.world 1)) (λ (h : Pending). StandsWell (node_of c.world 1) h.server h.stand) k.held (λ h x at. leaves_well c k i h x at) (λ _. tt) w e

  pub did_kept : (i : ℕ) (w : Work) (c : Cluster) → WorkIsWell (node_of c.world 1) w → IsKept c → IsKept (did i w c)
  unfolding did
  did_kept i (Replies q kind) c x k = answered_kept q kind _ _ _ c x k
  did_kept i (Holds h) c x k = record { ahead = k.ahead; told = k.told; held = each_with (λ (g : Pending). StandsWell (node_of c.world 1) g.server g.stand) h c.held x k.held; front = k.front }
  did_kept i (Closes number event) c x k = record { ahead = k.ahead; told = k.told; held = each_kept (λ (g : Pending). StandsWell (node_of c.world 1) g.server g.stand) number c.held k.held; front = k.front }
  did_kept i Applies c x k = record {
    ahead = k.ahead;
    told = k.told;
    held = k.held;
    front = at_item (AppliesFront (node_of c.world 1)) no_server c.servers i (applies_entry (clock_of c.world i) (server_of c.servers i) (entry_at (suc (length (applied_of c i))) (node_of c.world i).log)) 1
        (λ e. subst (λ z. AppliesFront (node_of c.world 1) (applies_entry (clock_of c.world z) (server_of c.servers z) (entry_at (suc (length (applied_of c z))) (node_of c.world z).log))) e
        (applied_next (node_of c.world 1) (clock_of c.world 1) (server_of c.servers 1) (entry_at (suc (length (applied_of c 1))) (node_of c.world 1).log) refl k.front)) k.front;
  }

  pub works_kept : (i : ℕ) (c c' : Cluster) → Works i c c' → IsKept c → IsKept c'
  works_kept i c c' none k = k
  works_kept i c c' (work w e more) k = works_kept i (did i w c) c' more (did_kept i w c (due_well c k i w e) k)

  pub with_kept : (failed : Bool) (i : ℕ) (w' : World) (c : Cluster) → StaysAhead c.world w' → IsKept c → IsKept (moved_with failed i w' c)
  with_kept failed i w' c x k = record {
    ahead = x.ahead;
    told = entries_told (joined c.world w') (halts_past i failed c.past) (halts_told i failed c.past k.told);
    held = each_map (λ (h : Pending). StandsWell (node_of c.world 1) h.server h.stand) (λ (h : Pending). StandsWell (node_of w' 1) h.server h.stand) (λ h s. stands_on c.world w' x h.server h.stand s) c.held k.held;
    front = front_on c.world w' x (server_of c.servers 1) k.front;
  }

  pub moved_kept : (c : Cluster) (i : ℕ) (input : Input) (w' : World) → NodeActs c.world i input w' → May c.world i input → IsKept c → IsKept (moved i w' c)
  moved_kept c i input w' a m k = with_kept (halted_now c.world w' i) i w' c (acts_ahead c.world i input w' a m k.ahead) k

  pub office_kept : (i : ℕ) (o : Office) (c : Cluster) → IsKept c → IsKept (with_office i o c)
  office_kept i o c k = record {
    ahead = k.ahead;
    told = k.told;
    held = k.held;
    front = at_item (AppliesFront (node_of c.world 1)) no_server c.servers i (record (server_of c.servers i) { office = o }) 1
        (λ e. subst (λ z. AppliesFront (node_of c.world 1) (record (server_of c.servers z) { office = o })) e k.front) k.front;
  }

  pub seated_kept : (w : World) (i : ℕ) (c : Cluster) → IsKept c → IsKept (seated w i c)
  seated_kept w i c k = at_bool (λ x. IsKept (cond x (with_office i (office_from (clock_of c.world i)) c) c)) (took_office w c.world i) (λ _. office_kept i _ c k) (λ _. k)
