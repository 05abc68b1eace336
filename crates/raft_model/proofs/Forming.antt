-- The agreed log is well formed.
use Rattle.std.proofs.Common.{ℕ, arith, false, inl, inr, length, subst, sym, ◌<◌, ◌∙◌, ◌≡◌, ◌≤◌, ◌⊎◌}
use Rattle.raft_model.proofs.Logs.{agree_length, agree_term}
use Rattle.raft_model.proofs.Matching.{ledger_bound}
use Rattle.raft_model.proofs.Numbers.{agree_number}
use Rattle.raft_model.proofs.Opening.{opens_follows}
use Rattle.raft_model.proofs.Places.{agreed_follows, own_of}
use Rattle.raft_model.proofs.Sound.{IsSound}
use Rattle.raft_model.proofs.Starts.{begins_sound, begins_unspent}
use Rattle.raft_model.proofs.Worlds.{reach_goes}
use Rattle.raft_model.specs.Log.{number_at, term_at}
use Rattle.raft_model.proofs.Pairs.{HasNumbersOnce, IsOrdered}
use Rattle.raft_model.specs.World.{IsOfFirstRun, World}
use Rattle.std.proofs.lemmas.Bool.{cases_lt}

module _ (w : World) (s : IsSound w) where
  -- what place n of the agreed log is in the ledger of its term
  record Place (n : ℕ) : Type 0 where
    within : n ≤ length (s.history.ledger (term_at n w.agreed))
    term : term_at n (s.history.ledger (term_at n w.agreed)) ≡ term_at n w.agreed
    number : number_at n (s.history.ledger (term_at n w.agreed)) ≡ number_at n w.agreed
    own : length (s.history.first (term_at n w.agreed)) < n

  place : (n : ℕ) → 0 < n → n ≤ length w.agreed → Place n
  place n p l =
      let t = term_at n w.agreed in
      let f = agreed_follows w s n l in
      let within = agree_length n (s.history.ledger t) w.agreed (sym f) l in
      let e = sym (agree_term n n w.agreed (s.history.ledger t) (omega arith) f) in
      record { within = within; term = e; number = sym (agree_number n n w.agreed (s.history.ledger t) (omega arith) f); own = own_of (length w.nodes) s.history s.sound t n p within e }

  rises : (m n : ℕ) → 0 < m → m ≤ n → n ≤ length w.agreed → term_at m w.agreed ≤ term_at n w.agreed
  rises m n p mn l =
      let t = term_at n w.agreed in
      let f = agreed_follows w s n l in
      let within = agree_length n (s.history.ledger t) w.agreed (sym f) l in
      let e = agree_term m n w.agreed (s.history.ledger t) mn f in
      let b = ledger_bound s.history.leaders s.history.first s.history.ledger s.sound.ledgers t m p (omega arith) in
      omega arith

  numbers : (m n : ℕ) → 0 < m → m < n → n ≤ length w.agreed → term_at m w.agreed ≡ term_at n w.agreed → number_at m w.agreed ≡ number_at n w.agreed → number_at m w.agreed ≡ 0
  numbers m n p mn l et en =
      let t = term_at n w.agreed in
      let f = agreed_follows w s n l in
      let a = place m p (omega arith) in
      let b = place n (omega arith) l in
      let c = agree_number m n w.agreed (s.history.ledger t) (omega arith) f in
      let own : length (s.history.first t) < m = subst (λ z. length (s.history.first z) < m) et a.own in
      c ∙ s.sound.numbers.apart t m n own mn b.within (sym c ∙ en ∙ sym b.number)

  pub agreed_well_formed : IsOrdered w.agreed
  agreed_well_formed = record {
    opens = opens_follows s.history.ledger s.sound.opens w.agreed (agreed_follows w s);
    rises = rises;
    numbers = numbers;
  }

  -- where no term is of an earlier run
  pub apart_all : ((t : ℕ) → s.history.spent t ≡ false) → HasNumbersOnce w.agreed
  apart_all new m n p mn l en = go (cases_lt (term_at m w.agreed) (term_at n w.agreed)) (rises m n p (omega arith) l)
    where
      go : (term_at m w.agreed < term_at n w.agreed) ⊎ (term_at n w.agreed ≤ term_at m w.agreed) → term_at m w.agreed ≤ term_at n w.agreed → number_at m w.agreed ≡ 0
      go (inr k) k' = numbers m n p mn l (omega arith) en
      go (inl k) k' =
          let a = place m p (omega arith) in
          let b = place n (omega arith) l in
          sym a.number ∙ s.sound.numbers.across (term_at m w.agreed) (term_at n w.agreed) m n (λ z. omega arith) (new (term_at m w.agreed)) (new (term_at n w.agreed)) a.own a.within b.own b.within (a.number ∙ en ∙ sym b.number)

-- In a run from empty stores no number but 0 comes twice.
pub numbers_once : (w : World) → IsOfFirstRun w → HasNumbersOnce w.agreed
numbers_once w f =
    let s = begins_sound f.stores f.start f.are_empty f.begins in
    let g = reach_goes f.start w f.reaches s in
    apart_all w g.sound (λ t. g.spent t ∙ begins_unspent f.stores f.start f.are_empty f.begins t)
