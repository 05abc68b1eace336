use Rattle.std.proofs.Common.{◌≡◌, ◌≢◌, ℕ, ◌<◌, List, true, false, Bool, length, get_or, refl, sym, arith, ap}
use Rattle.std.specs.List.{position_or_len}
use Rattle.std.proofs.lemmas.List.Sums.{position_or_len_is}
use Rattle.http_wire.specs.Head.{is_space}
use Rattle.http_wire.proofs.head.first_space.Invariants.{Passed}
use Rattle.http_wire.proofs.head.first_space.Goals as goal

other : (b : ℕ) → b ≢ 32 → is_space b ≡ false
other b e = by_test (is_space b) refl
  where
    by_test : (t : Bool) → is_space b ≡ t → t ≡ false
    by_test true is = absurd (e (grind (arith, is)))
    by_test false is = refl

place_of : (buf : List ℕ) (i : ℕ) → Passed buf i → (i < length buf → get_or buf i 0 ≡ 32) → i ≡ position_or_len is_space buf
place_of buf i passed here =
    sym (position_or_len_is is_space buf i 0 passed.within (λ k less. other (get_or buf k 0) (passed.none k less)) (λ less. ap is_space (here less)))

pub returns-after-scan : goal.returns-after-scan
returns-after-scan c = place_of c.args.buf.now c.scan.place c.scan.invariant (λ less. absurd (omega (arith, less, c.scan-test.false)))

pub returns-then-buf-place-eq32 : goal.returns-then-buf-place-eq32
returns-then-buf-place-eq32 c = place_of c.args.buf.now c.scan.place c.scan.invariant (λ _. c.if-buf-place-eq32.true)
