-- The history of an earlier run accounts for the beginning of a later one over its stores, with what was agreed then.
use Rattle.std.proofs.Common.{ℕ, List, None, Some, [], ap, arith, false, get_or, inl, length, refl, subst, suc, sym, zero, ◌+◌, ◌<◌, ◌∙◌, ◌∷◌, ◌≡◌, ◌≤◌, Bool, Option, true}
use Rattle.cat_model.specs.declared.reply.Role.TheVariants.{Follower}
use Rattle.raft_model.specs.Node.{begun, Kept, Node, Store}
use Rattle.raft_model.specs.Step.{Starts, as_before}
use Rattle.raft_model.specs.World.{Bag, Begins, HoldAll, StartAll, World}
use Rattle.raft_model.proofs.History.{History, Sound}
use Rattle.raft_model.proofs.Moving.{changed_some, durable, reads_told}
use Rattle.raft_model.proofs.Sound.{AllPackets, Fits, IsSound, IsTrueOf, Runs}

-- a term that has a leader
abbrev pub is_led : Option ℕ → Bool
is_led None = false
is_led (Some c) = true

pub is_unled : (o : Option ℕ) → is_led o ≡ false → o ≡ None
is_unled None e = refl
is_unled (Some c) e = cc e

-- all servers start again, and the terms that were led are spent
abbrev pub rested : History → History
rested h = record h { roles = λ i. Follower; spent = λ t. is_led (h.leaders t); greatest = 0 }

sound_rested : (servers : ℕ) (h : History) → Sound servers h → Sound servers (rested h)
sound_rested servers h s = record {
  votes = s.votes;
  roles = record { term = s.roles.term; vote = λ _ e. cc e; log = λ _ e. cc e; unelected = λ _ e. cc e; elected = λ _ e. cc e; leading = λ _ e. cc e };
  ledgers = s.ledgers;
  logs = s.logs;
  acks = record { within = s.acks.within; reached = s.acks.reached; kept = s.acks.kept; voted = s.acks.voted; elected = s.acks.elected; leader = λ _ e. cc e };
  rounds = s.rounds;
  numbers = record {
    apart = s.numbers.apart;
    known = λ t m e p l. absurd (gone t m e p l);
    across = λ t u m k _ e _ p l _ _ _. absurd (gone t m e p l);
    leading = λ _ e. cc e;
    unled = λ t e. ap is_led e;
  };
  opens = s.opens;
  agreed = s.agreed;
}
  where
    gone : (t m : ℕ) → is_led (h.leaders t) ≡ false → length (h.first t) < m → m ≤ length (h.ledger t) → ⊥
    gone t m e p l = let q = ap length (s.ledgers.none t (is_unled (h.leaders t) e)) in omega arith

-- a server that starts over what an earlier one held
fits_begun : (servers id : ℕ) (h : History) (s : Store) (old n : Node) → Fits servers h id old → s.contents ≡ old.store.contents → Starts id servers s n → Fits servers (rested h) id n
fits_begun servers id h s old n f held (read, c, reads, e) =
    let d = durable servers h id old f in
    let told : s.contents ≡ Some d.kept = held ∙ d.holds in
    let q : n.store.contents ≡ Some d.kept = changed_some as_before s.contents n.store.contents d.kept c.contents told in
    let r : read ≡ d.kept = reads_told s d.kept read told reads in
    subst (λ z. Fits servers (rested h) id z) (sym (e ∙ ap (λ z. begun id servers n.store z) r)) (inl (q, runs d.kept d.term d.vote d.log d.place, λ e. cc e))
  where
    runs : (k : Kept) → h.terms id ≡ k.term → h.votes id k.term ≡ k.vote → h.logs id ≡ k.log → (0 < id) × (id ≤ servers) → Runs servers (rested h) id (begun id servers n.store k)
    runs k t v l p = record {
      id = refl;
      count = refl;
      place = p;
      running = refl;
      term = t;
      vote = v;
      log = l;
      role = refl;
      commit_within = omega arith;
      commit_agrees = refl;
      votes = λ e. cc e;
      matched = λ e. cc e;
      next = λ e. cc e;
      round = λ e. cc e;
      acked = λ e. cc e;
      own = λ e. cc e;
    }

-- each place of the old nodes fits
abbrev AllFit : ℕ → History → ℕ → List Node → Type 0
AllFit servers h id ns = (j m : ℕ) (d : Node) → m ≡ id + j → j < length ns → Fits servers h m (get_or ns j d)

fits_all : (servers id : ℕ) (h : History) (ss : List Store) (old ns : List Node) → StartAll servers id ss ns → HoldAll ss old → AllFit servers h id old → AllFit servers (rested h) id ns
fits_all servers id h [] old [] a b f j m d e l = absurd (omega arith)
fits_all servers id h [] old (n ∷ ns) a b f j m d e l = absurd a
fits_all servers id h (s ∷ ss) old [] a b f j m d e l = absurd a
fits_all servers id h (s ∷ ss) [] (n ∷ ns) a b f j m d e l = absurd b
fits_all servers id h (s ∷ ss) (o ∷ old) (n ∷ ns) a b f zero m d e l =
    let q : id ≡ m = omega arith in
    subst (λ z. Fits servers (rested h) z n) q (fits_begun servers id h s o n (f 0 id o (omega arith) (omega arith)) b.0 a.0)
fits_all servers id h (s ∷ ss) (o ∷ old) (n ∷ ns) a b f (suc j) m d e l =
    fits_all servers (suc id) h ss old ns a.1 b.1 (λ j m d e l. f (suc j) m d (omega arith) (omega arith)) j m d (omega arith) (omega arith)

pub start_length : (servers id : ℕ) (ss : List Store) (ns : List Node) → StartAll servers id ss ns → length ns ≡ length ss
start_length servers id [] [] a = refl
start_length servers id [] (n ∷ ns) a = absurd a
start_length servers id (s ∷ ss) [] a = absurd a
start_length servers id (s ∷ ss) (n ∷ ns) a = ap suc (start_length servers (suc id) ss ns a.1)

hold_length : (ss : List Store) (ns : List Node) → HoldAll ss ns → length ns ≡ length ss
hold_length [] [] a = refl
hold_length [] (n ∷ ns) a = absurd a
hold_length (s ∷ ss) [] a = absurd a
hold_length (s ∷ ss) (n ∷ ns) a = ap suc (hold_length ss ns a.1)

-- the beginning with what the earlier run agreed
pub rested_sound : (ss : List Store) (v w : World) (s : IsSound v) → HoldAll ss v.nodes → Begins ss w → IsSound (record w { agreed = v.agreed })
rested_sound ss v w s held b =
    let hold = hold_length ss v.nodes held in
    let same : length v.nodes ≡ length w.nodes = hold ∙ sym (start_length (length ss) 1 ss w.nodes b.nodes) in
    record {
      history = rested s.history;
      sound = subst (λ z. Sound z (rested s.history)) same (sound_rested (length v.nodes) s.history s.sound);
      fits = λ j d l. subst (λ z. Fits z (rested s.history) (suc j) (get_or w.nodes j d)) same
          (fits_all (length v.nodes) 1 s.history ss v.nodes w.nodes (subst (λ z. StartAll z 1 ss w.nodes) (sym hold) b.nodes) held
          (λ j m d e l. subst (λ z. Fits (length v.nodes) s.history z (get_or v.nodes j d)) (let k : suc j ≡ m = omega arith in k) (s.fits j d l)) j (suc j) d (omega arith) l);
      told = subst (λ (z : Bag). AllPackets (λ p. IsTrueOf (rested s.history) p.from p.to p.message) z.packets) (sym b.bag) tt;
      agreed = s.agreed;
      greatest = omega arith;
    }

pub spent_then : (ss : List Store) (v w : World) (s : IsSound v) (held : HoldAll ss v.nodes) (b : Begins ss w) (t : ℕ) → (rested_sound ss v w s held b).history.spent t ≡ is_led (s.history.leaders t)
unfolding rested_sound
spent_then ss v w s held b t = refl
