-- The place of the first operation that locks a key.
use Rattle.std.proofs.Common.{◌≡◌, ℕ, ◌≤◌, suc, ◌+◌, Bool, true, false, not, cond, nat_lt, List, [], ◌∷◌, length, Some, None, refl, arith}
use Rattle.std.specs.Prelude.{◌&&◌}
use Rattle.std.proofs.lemmas.Bool.Decides.{nat_tests}
use Rattle.std.specs.List.{position, position_or_len}
use Rattle.cat_model.specs.Keys.{same_text}
use Rattle.cat_model.specs.declared.command.TxnOp.{TxnOp}
use Rattle.cluster_rules.specs.Locks.{is_lock}
use Rattle.reply_body.specs.Others.{locking_place}

-- the operation locks the key
abbrev pub locks : List ℕ → TxnOp → Bool
locks key o = is_lock o.verb && same_text o.key key

next_place : (b : Bool) (at n rest : ℕ) → rest ≡ at + 1 + n → cond b at rest ≡ at + cond (not b) (1 + n) 0
next_place true at n rest h = omega arith
next_place false at n rest h = omega (arith, h)

place_from : (key : List ℕ) (at : ℕ) (ops : List TxnOp) → locking_place key at ops ≡ at + position_or_len (locks key) ops
place_from key at [] = omega arith
place_from key at (o ∷ ops) = next_place (locks key o) at (position_or_len (locks key) ops) (locking_place key (at + 1) ops) (place_from key (at + 1) ops)

bounded : (b : Bool) (n m : ℕ) → n ≤ m → cond (not b) (1 + n) 0 ≤ suc m
bounded true n m h = omega arith
bounded false n m h = omega arith

place_within : (p : TxnOp → Bool) (ops : List TxnOp) → position_or_len p ops ≤ length ops
place_within p [] = omega arith
place_within p (o ∷ ops) = bounded (p o) (position_or_len p ops) (length ops) (place_within p ops)

some_is : (b : Bool) (n i : ℕ) → cond b (Some n) None ≡ Some i → i ≡ n
some_is true n i h = cc
some_is false n i h = cc

none_is : (b : Bool) (n : ℕ) → cond b (Some n) None ≡ None → b ≡ false
none_is true n h = cc
none_is false n h = refl

-- it is found
pub some_locking : (key : List ℕ) (ops : List TxnOp) (at : ℕ) → position (locks key) ops ≡ Some at → at ≡ locking_place key 0 ops
some_locking key ops at h =
    let found : at ≡ position_or_len (locks key) ops = some_is (nat_lt (position_or_len (locks key) ops) (length ops)) (position_or_len (locks key) ops) at h in
    omega (arith, found, place_from key 0 ops)

-- there is none
pub no_locking : (key : List ℕ) (ops : List TxnOp) → position (locks key) ops ≡ None → length ops ≡ locking_place key 0 ops
no_locking key ops h =
    let less : nat_lt (position_or_len (locks key) ops) (length ops) ≡ false = none_is (nat_lt (position_or_len (locks key) ops) (length ops)) (position_or_len (locks key) ops) h in
    let within = place_within (locks key) ops in
    let all : length ops ≡ position_or_len (locks key) ops = grind (arith, nat_tests) in
    omega (arith, all, place_from key 0 ops)
