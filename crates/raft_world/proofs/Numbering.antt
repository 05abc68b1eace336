-- Messages in the order of their numbers: where a number stands, and what is left without it.
use Rattle.std.proofs.Common.{◌≡◌, ◌≢◌, ℕ, zero, suc, ◌+◌, ◌-◌, ◌<◌, ◌≤◌, ◌==◌, true, false, if◌then◌else◌, List, [], ◌∷◌, ◌++◌, length, get_or, refl, sym, ap, ◌∙◌, arith, Option, Some, None, IsSome, subst, ◌^◌, ◌⊎◌, Bor}
use Rattle.std.specs.List.{remove}
use Rattle.std.proofs.lemmas.List.{get_or_default}
use Rattle.raft_world.specs.Weights.{capped}
use Rattle.std.specs.List.Sorted.{IsNonDecreasingBy}
use Rattle.std.proofs.lemmas.Bool.Decides.{nat_tests}
use Rattle.std.specs.Prelude.{IfSome}
use Rattle.std.specs.Option.{option_copied}
use Rattle.raft_model.specs.declared.message.Sent.{Sent}
use Rattle.raft_model.specs.World.{Packet, Bag, numbered, without, message_bytes, packets_bytes, takes, posted, posted_all}
use Rattle.raft_world.specs.Packets.{Rises, InOrder, HasPlace, IsLowest}

pub rises_more : (low last : ℕ) (ps : List Packet) (p : Packet) → p.number ≡ suc last → Rises low ps last → Rises low (ps ++ p ∷ []) (suc last)
rises_more low last [] p is r = (omega (arith, is, r), omega (arith, is))
rises_more low last (q ∷ qs) p is r = (r.0, rises_more q.number last qs p is r.1)

rises_lower : (low below last : ℕ) (ps : List Packet) → below ≤ low → Rises low ps last → Rises below ps last
rises_lower low below last [] h r = omega (arith, r)
rises_lower low below last (p ∷ ps) h r = (omega (arith, r.0), r.1)

pub rises_without : (k low last : ℕ) (ps : List Packet) → Rises low ps last → Rises low (without k ps) last
rises_without k low last [] r = r
rises_without k low last (p ∷ ps) r =
    elim (p.number == k) as (λ b. Rises low (if b then ps else p ∷ without k ps) last) [
      | true ↦ rises_lower p.number low last ps (omega (arith, r.0)) r.1
      | false ↦ (r.0, rises_without k p.number last ps r.1)
    ]

rises_at : (low last : ℕ) (ps : List Packet) (i : ℕ) (d : Packet) → i < length ps → Rises low ps last → low < (get_or ps i d).number
rises_at low last [] i d h r = absurd (omega arith)
rises_at low last (p ∷ ps) zero d h r = r.0
rises_at low last (p ∷ ps) (suc i) d h r = let ih = rises_at p.number last ps i d (omega arith) r.1 in omega (arith, r.0)

rising : (low last : ℕ) (ps : List Packet) (i j : ℕ) (d : Packet) → i ≤ j → j < length ps → Rises low ps last → (get_or ps i d).number ≤ (get_or ps j d).number
rising low last [] i j d h g r = absurd (omega arith)
rising low last (p ∷ ps) zero zero d h g r = omega arith
rising low last (p ∷ ps) zero (suc j) d h g r = let above = rises_at p.number last ps j d (omega arith) r.1 in omega arith
rising low last (p ∷ ps) (suc i) zero d h g r = absurd (omega arith)
rising low last (p ∷ ps) (suc i) (suc j) d h g r = rising p.number last ps i j d (omega arith) (omega arith) r.1

pub non_decreasing : (last : ℕ) (ps : List Packet) → Rises 0 ps last → IsNonDecreasingBy (λ p. p.number) ps
non_decreasing last ps r = λ i j d h g. rising 0 last ps i j d h g r

pub numbered_at : (k : ℕ) (ps : List Packet) (at : ℕ) (d : Packet) → at < length ps → (get_or ps at d).number ≡ k → ((i : ℕ) → i < at → (get_or ps i d).number < k) → numbered k ps ≡ Some (get_or ps at d)
numbered_at k [] at d h is below = absurd (omega arith)
numbered_at k (p ∷ ps) zero d h is below = grind (arith, nat_tests)
numbered_at k (p ∷ ps) (suc at) d h is below =
    let first : p.number < k = below 0 (omega arith) in
    let ih = numbered_at k ps at d (omega arith) is (λ i g. below (suc i) (omega arith)) in
    grind (arith, nat_tests)

pub without_at : (k : ℕ) (ps : List Packet) (at : ℕ) (d : Packet) → at < length ps → (get_or ps at d).number ≡ k → ((i : ℕ) → i < at → (get_or ps i d).number < k) → without k ps ≡ remove ps at
without_at k [] at d h is below = absurd (omega arith)
without_at k (p ∷ ps) zero d h is below = grind (arith, nat_tests)
without_at k (p ∷ ps) (suc at) d h is below =
    let first : p.number < k = below 0 (omega arith) in
    let ih = without_at k ps at d (omega arith) is (λ i g. below (suc i) (omega arith)) in
    let step : p ∷ without k ps ≡ remove (p ∷ ps) (suc at) = ap (λ l. p ∷ l) ih in
    grind (arith, nat_tests)

pub numbered_none : (k : ℕ) (ps : List Packet) → ((i : ℕ) (d : Packet) → i < length ps → (get_or ps i d).number ≢ k) → numbered k ps ≡ None
numbered_none k [] other = refl
numbered_none k (p ∷ ps) other =
    let first : p.number ≢ k = other 0 p (omega arith) in
    let ih = numbered_none k ps (λ i d g. other (suc i) d (omega arith)) in
    grind (arith, nat_tests)

-- what none has is not taken out
pub without_none : (k : ℕ) (ps : List Packet) → numbered k ps ≡ None → without k ps ≡ ps
without_none k [] none = refl
without_none k (p ∷ ps) none =
    (elim (p.number == k) as (λ b. (if b then Some p else numbered k ps) ≡ None → (if b then ps else p ∷ without k ps) ≡ p ∷ ps) [
      | true ↦ λ e. cc
      | false ↦ λ e. ap (λ l. p ∷ l) (without_none k ps e)
    ]) none

pub without_bytes : (k : ℕ) (ps : List Packet) (q : Packet) → numbered k ps ≡ Some q → packets_bytes (without k ps) + message_bytes q.message ≡ packets_bytes ps
without_bytes k [] q found = cc
without_bytes k (p ∷ ps) q found =
    (elim (p.number == k) as (λ b. (if b then Some p else numbered k ps) ≡ Some q → packets_bytes (if b then ps else p ∷ without k ps) + message_bytes q.message ≡ message_bytes p.message + packets_bytes ps) [
      | true ↦ λ e. let same : p ≡ q = cc in let bytes : message_bytes p.message ≡ message_bytes q.message = ap (λ r. message_bytes r.message) same in omega arith
      | false ↦ λ e. let ih = without_bytes k ps q e in omega arith
    ]) found

-- each number that a message has is above those below which all are
above : (k low last : ℕ) (ps : List Packet) → Rises low ps last → IsSome (numbered k ps) → low < k
above k low last [] r some = cc
above k low last (p ∷ ps) r some =
    (elim (p.number == k) as (λ b. (p.number == k) ≡ b → IsSome (if b then Some p else numbered k ps) → low < k) [
      | true ↦ λ is e. grind (arith, nat_tests, r.0)
      | false ↦ λ is e. let ih = above k p.number last ps r.1 e in omega (arith, r.0)
    ]) refl some

pub lowest_first : (last : ℕ) (p : Packet) (ps : List Packet) → Rises 0 (p ∷ ps) last → IsLowest (Some p.number) (p ∷ ps)
lowest_first last p ps r = (
  (elim (p.number == p.number) as (λ b. (p.number == p.number) ≡ b → IsSome (if b then Some p else numbered p.number ps)) [ true ↦ λ is. refl | false ↦ λ is. absurd (grind (arith, nat_tests)) ]) refl,
  λ j some. (elim (p.number == j) as (λ b. (p.number == j) ≡ b → IsSome (if b then Some p else numbered j ps) → p.number ≤ j) [
    | true ↦ λ is e. grind (arith, nat_tests)
    | false ↦ λ is e. let ih = above j p.number last ps r.1 e in omega arith
  ]) refl some,
)

pub found : (k : ℕ) (ps : List Packet) (at : ℕ) (r : Option (Bor Packet)) → HasPlace k ps at → IfSome r (λ x. x.now ≡ get_or ps at x.now) → IsSome r → option_copied r ≡ numbered k ps
found k ps at None has look some = cc
found k ps at (Some x) has look some = ap (λ p. Some p) look ∙ sym (numbered_at k ps at x.now has.within (has.is x.now) (λ i g. has.below i x.now g))

-- a message goes into a bag that takes it, and else is lost
pub posted_takes : (from : ℕ) (s : Sent) (bag : Bag) → length bag.packets < 4096 → packets_bytes bag.packets + message_bytes s.message ≤ 67108864 → bag.last < 2 ^ 64 - 1
    → posted from s bag ≡ record { packets = bag.packets ++ record { number = suc bag.last; from = from; to = s.to; message = s.message } ∷ []; last = suc bag.last }
posted_takes from s bag a b c =
    let passes : takes bag s.message ≡ true = grind (arith, nat_tests) in
    ap (λ t. if t then record { packets = bag.packets ++ record { number = suc bag.last; from = from; to = s.to; message = s.message } ∷ []; last = suc bag.last } else bag) passes

pub posted_lost : (from : ℕ) (s : Sent) (bag : Bag) → (4096 ≤ length bag.packets) ⊎ (67108864 < packets_bytes bag.packets + message_bytes s.message) ⊎ (2 ^ 64 - 1 ≤ bag.last) → posted from s bag ≡ bag
posted_lost from s bag h =
    let fails : takes bag s.message ≡ false = grind (arith, nat_tests) in
    ap (λ t. if t then record { packets = bag.packets ++ record { number = suc bag.last; from = from; to = s.to; message = s.message } ∷ []; last = suc bag.last } else bag) fails

pub posted_more : (from : ℕ) (ss : List Sent) (s : Sent) (bag : Bag) → posted_all from (ss ++ s ∷ []) bag ≡ posted from s (posted_all from ss bag)
posted_more from [] s bag = refl
posted_more from (t ∷ ts) s bag = posted_more from ts s (posted from t bag)

pub bytes_more : (ps : List Packet) (p : Packet) → packets_bytes (ps ++ p ∷ []) ≡ packets_bytes ps + message_bytes p.message
bytes_more [] p = omega arith
bytes_more (q ∷ qs) p = let ih = bytes_more qs p in omega arith

-- the message at a place, in a list that is not empty
nth : (ps : List Packet) (at : ℕ) → at < length ps → (q : Packet) × (get_or ps at q ≡ q)
nth [] at h = absurd (omega arith)
nth (p ∷ ps) at h = (get_or (p ∷ ps) at p, get_or_default (p ∷ ps) at (get_or (p ∷ ps) at p) p h)

numbered_place : (k : ℕ) (ps : List Packet) (at : ℕ) (q : Packet) → HasPlace k ps at → get_or ps at q ≡ q → numbered k ps ≡ Some q
numbered_place k ps at q has here = numbered_at k ps at q has.within (has.is q) (λ i g. has.below i q g) ∙ ap (λ p. Some p) here

pub without_place : (k : ℕ) (ps : List Packet) (at : ℕ) → HasPlace k ps at → without k ps ≡ remove ps at
without_place k ps at has = let found = nth ps at has.within in without_at k ps at found.0 has.within (has.is found.0) (λ i g. has.below i found.0 g)

-- what a message that is taken out took
left_over : (k bytes last : ℕ) (ps : List Packet) (at count : ℕ) → HasPlace k ps at → InOrder bytes last ps → ((p : Packet) → count ≡ capped (message_bytes (get_or ps at p).message))
    → packets_bytes (remove ps at) + count ≡ packets_bytes ps
left_over k bytes last ps at count has order is =
    let found = nth ps at has.within in
    let rest = without_bytes k ps found.0 (numbered_place k ps at found.0 has found.1) in
    let same : count ≡ capped (message_bytes found.0.message) = is found.0 ∙ ap (λ p. capped (message_bytes p.message)) found.1 in
    rw (← without_place k ps at has) (omega (arith, rest, same, order.counted, order.within))

pub taken_bytes : (k bytes last : ℕ) (ps : List Packet) (at count : ℕ) → HasPlace k ps at → InOrder bytes last ps → ((p : Packet) → count ≡ capped (message_bytes (get_or ps at p).message)) → count ≤ bytes
taken_bytes k bytes last ps at count has order is = let rest = left_over k bytes last ps at count has order is in omega (arith, rest, order.counted)

pub taken_order : (k bytes last : ℕ) (ps : List Packet) (at count : ℕ) → HasPlace k ps at → InOrder bytes last ps → ((p : Packet) → count ≡ capped (message_bytes (get_or ps at p).message)) → InOrder (bytes - count) last (remove ps at)
taken_order k bytes last ps at count has order is =
    let rest = left_over k bytes last ps at count has order is in
    record {
      counted = omega (arith, rest, order.counted);
      within = omega (arith, order.within);
      rises = rw (← without_place k ps at has) (rises_without k 0 last ps order.rises);
    }

pub lowest_at : (last : ℕ) (ps : List Packet) (p : Packet) → Rises 0 ps last → 0 < length ps → p ≡ get_or ps 0 p → IsLowest (Some p.number) ps
lowest_at last [] p r h is = absurd (omega arith)
lowest_at last (q ∷ qs) p r h is = subst (λ x. IsLowest (Some x.number) (q ∷ qs)) (sym is) (lowest_first last q qs r)
