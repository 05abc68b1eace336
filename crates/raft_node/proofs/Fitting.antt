-- Logs after a cut and an append: their bytes, their limits and the front that stays.
use Rattle.std.proofs.Common.{◌≡◌, ◌≢◌, ℕ, zero, suc, ◌+◌, ◌-◌, ◌^◌, ◌<◌, ◌≤◌, nat_le, min, max, not, ◌&&◌, ◌||◌, Bool, true, false, [], ◌∷◌, ◌++◌, length, take, drop, get_or, refl, sym, ◌∙◌, ap, inl, inr, add_assoc, length-append, length-drop, arith}
use Rattle.std.proofs.lemmas.List.{append-nil, take-append-drop, length-take-le, drop-take, drop_all, drop_more, take-take, take_all, take_rest}
use Rattle.std.proofs.lemmas.Bool.{cases_lt}
use Rattle.std.proofs.lemmas.Bool.Decides.{nat_tests}
use Rattle.cat_model.specs.declared.command.Entry.{Entry}
use Rattle.command_codec.specs.Counts.{capped}
use Rattle.raft_model.specs.Log.{Log}
use Rattle.raft_model.specs.Limits.{most_entries, most_bytes, log_bytes, keeps_limits}
use Rattle.raft_model.specs.Rules.{keeps_front}
use Rattle.raft_model.proofs.Election.{at_eq}
use Rattle.raft_model.proofs.Tests.{keeps_tells, le_is}
use Rattle.raft_node.specs.Accepting.{counted_bytes, refuses, IsChanged}
use Rattle.raft_node.specs.Counts.{bytes_of}

pub bytes_append : (x y : Log) → log_bytes (x ++ y) ≡ log_bytes x + log_bytes y
bytes_append [] y = omega arith
bytes_append (e ∷ x) y = ap (λ n. counted_bytes e + n) (bytes_append x y) ∙ sym (add_assoc (counted_bytes e) (log_bytes x) (log_bytes y))

pub bytes_split : (m : ℕ) (x : Log) → log_bytes x ≡ log_bytes (take m x) + log_bytes (drop m x)
bytes_split m x = ap (λ (z : Log). log_bytes z) (sym (take-append-drop m x)) ∙ bytes_append (take m x) (drop m x)

pub bytes_next : (x : Log) (i : ℕ) (d : Entry) → i < length x → log_bytes (drop i x) ≡ counted_bytes (get_or x i d) + log_bytes (drop (i + 1) x)
bytes_next x i d l = ap (λ (z : Log). log_bytes z) (drop_more x i d l)

-- the bytes of a front by those of a shorter one
pub bytes_between : (c k : ℕ) (x : Log) → c ≤ k → log_bytes (take k x) ≡ log_bytes (take c x) + log_bytes (take (k - c) (drop c x))
bytes_between c k x l =
    let q : k ≡ c + (k - c) = omega arith in
    bytes_split c (take k x)
    ∙ ap (λ (z : Log). log_bytes z + log_bytes (drop c (take k x))) (take-take c k x l)
    ∙ ap (λ (z : Log). log_bytes (take c x) + log_bytes z) (ap (λ j. drop c (take j x)) q ∙ drop-take c (k - c) x)

pub count_more : (x : Log) (i total bytes : ℕ) (d : Entry) → i < length x → bytes ≡ capped (counted_bytes (get_or x i d)) → bytes_of x ≡ min (total + log_bytes (drop i x)) (2 ^ 64 - 1) → bytes_of x ≡ min (min (total + bytes) (2 ^ 64 - 1) + log_bytes (drop (i + 1) x)) (2 ^ 64 - 1)
count_more x i total bytes d l e h = let n = bytes_next x i d l in omega (arith, n, e, h)

pub count_step : (x : Log) (i total bytes new : ℕ) (item : Entry) → i < length x → bytes ≡ capped (counted_bytes item) → item ≡ get_or x i item → new ≡ min (total + bytes) (2 ^ 64 - 1) → bytes_of x ≡ min (total + log_bytes (drop i x)) (2 ^ 64 - 1) → bytes_of x ≡ min (new + log_bytes (drop (i + 1) x)) (2 ^ 64 - 1)
count_step x i total bytes new item l e at n h =
    let g : ℕ → ℕ = λ t. min (t + log_bytes (drop (i + 1) x)) (2 ^ 64 - 1) in
    count_more x i total bytes item l (e ∙ ap (λ (z : Entry). capped (counted_bytes z)) at) h ∙ ap g (sym n)

pub count_end : (x : Log) (i total : ℕ) → length x ≤ i → total < 2 ^ 64 → bytes_of x ≡ min (total + log_bytes (drop i x)) (2 ^ 64 - 1) → total ≡ bytes_of x
count_end x i total l f h = let n = ap (λ (z : Log). log_bytes z) (drop_all i x l) in omega (arith, n, f, h)

pub count_on : (x : Log) (c k bytes more : ℕ) → c ≤ k → bytes ≡ bytes_of (take c x) → more ≡ bytes_of (take (k - c) (drop c x)) → min (bytes + more) (2 ^ 64 - 1) ≡ bytes_of (take k x)
count_on x c k bytes more l e f = let b = bytes_between c k x l in omega (arith, b, e, f)

pub count_back : (x : Log) (c k bytes cut : ℕ) → k ≤ c → bytes < 2 ^ 64 - 1 → bytes ≡ bytes_of (take c x) → cut ≡ bytes_of (take (c - k) (drop k x)) → (cut ≤ bytes) × (bytes - cut ≡ bytes_of (take k x))
count_back x c k bytes cut l m e f = let b = bytes_between k c x l in (omega (arith, b, e, f, m), omega (arith, b, e, f, m))

le_not : (a b : ℕ) → b < a → nat_le a b ≡ false
le_not a b l = grind (arith, nat_tests, l)

and_false : (b : Bool) → b && false ≡ false
and_false true = refl
and_false false = refl

or_true : (b : Bool) → b || true ≡ true
or_true true = refl
or_true false = refl

pub too_long : (x : Log) → most_entries < length x → keeps_limits x ≡ false
too_long x l = ap (λ t. t && nat_le (log_bytes x) most_bytes) (le_not (length x) most_entries l)

pub too_heavy : (x : Log) → most_bytes < log_bytes x → keeps_limits x ≡ false
too_heavy x l = ap (λ t. nat_le (length x) most_entries && t) (le_not (log_bytes x) most_bytes l) ∙ and_false (nat_le (length x) most_entries)

-- the limits of a front of a log with more behind it
length_with : (x y : Log) (k : ℕ) → k ≤ length x → length (take k x ++ y) ≡ k + length y
length_with x y k l = let a = length-append (take k x) y in let b = length-take-le k x l in omega (arith, a, b)

pub with_too_long : (x y : Log) (k : ℕ) → k ≤ length x → most_entries < k + length y → keeps_limits (take k x ++ y) ≡ false
with_too_long x y k l m = let a = length_with x y k l in too_long (take k x ++ y) (omega (arith, a, m))

pub with_too_heavy : (x y : Log) (k bytes more : ℕ) → bytes ≡ bytes_of (take k x) → more ≡ bytes_of y → most_bytes < bytes + more → keeps_limits (take k x ++ y) ≡ false
with_too_heavy x y k bytes more e f m = let a = bytes_append (take k x) y in too_heavy (take k x ++ y) (omega (arith, a, e, f, m))

pub front_too_heavy : (x y : Log) (k bytes : ℕ) → bytes ≡ bytes_of (take k x) → most_bytes < bytes → keeps_limits (take k x ++ y) ≡ false
front_too_heavy x y k bytes e m = let a = bytes_append (take k x) y in too_heavy (take k x ++ y) (omega (arith, a, e, m))

pub with_within : (x y : Log) (k bytes more : ℕ) → k ≤ length x → k + length y ≤ most_entries → bytes ≡ bytes_of (take k x) → more ≡ bytes_of y → bytes + more ≤ most_bytes → keeps_limits (take k x ++ y) ≡ true
with_within x y k bytes more l w e f m =
    let a = length_with x y k l in let b = bytes_append (take k x) y in
    ap (λ t. t && nat_le (log_bytes (take k x ++ y)) most_bytes) (le_is (length (take k x ++ y)) most_entries (omega (arith, a, w)))
    ∙ le_is (log_bytes (take k x ++ y)) most_bytes (omega (arith, b, e, f, m))

pub limit_is : (x y : Log) (k bytes more : ℕ) → k ≤ length x → k + length y ≤ most_entries → bytes ≡ bytes_of (take k x) → more ≡ bytes_of y → bytes ≤ most_bytes → nat_le more (most_bytes - bytes) ≡ keeps_limits (take k x ++ y)
limit_is x y k bytes more l w e f m = elim (cases_lt (most_bytes - bytes) more) [
  | inl g ↦ le_not more (most_bytes - bytes) g ∙ sym (with_too_heavy x y k bytes more e f (omega (arith, g, m)))
  | inr g ↦ le_is more (most_bytes - bytes) g ∙ sym (with_within x y k bytes more l w e f (omega (arith, g, m)))
]

-- a log, and the rest of a list, as slices have them
pub whole : (x : Log) → take (length x) x ++ [] ≡ x
whole x = append-nil (take (length x) x) ∙ take_all (length x) x (omega arith)

pub count_rest : (x y : Log) (k i : ℕ) (keeps : Bool) → keeps ≡ keeps_limits (take k x ++ take (length y - i) (drop i y)) → keeps ≡ keeps_limits (take k x ++ drop i y)
count_rest x y k i keeps e = e ∙ ap (λ (z : Log). keeps_limits (take k x ++ z)) (take_rest y i)

-- the refusal
pub front_self : (k : ℕ) (x : Log) → keeps_front k x x ≡ true
front_self zero x = refl
front_self (suc k) [] = refl
front_self (suc k) (e ∷ x) = at_eq (λ b. b && keeps_front k x x ≡ true) e.term e.term (λ _. front_self k x) (λ ne. absurd (ne refl))

pub refused_limits : (commit : ℕ) (old new : Log) → keeps_limits new ≡ false → refuses commit old new ≡ true
refused_limits commit old new e = ap (λ t. not t || not (keeps_front commit old new)) e

pub refused_front : (commit : ℕ) (old new : Log) → keeps_front commit old new ≡ false → refuses commit old new ≡ true
refused_front commit old new e = ap (λ t. not (keeps_limits new) || not t) e ∙ or_true (not (keeps_limits new))

pub not_refused : (commit : ℕ) (old new : Log) → keeps_limits new ≡ true → keeps_front commit old new ≡ true → refuses commit old new ≡ false
not_refused commit old new e f = ap (λ t. not t || not (keeps_front commit old new)) e ∙ ap (λ t. not t) f

pub not_refused_self : (commit : ℕ) (log : Log) → keeps_limits log ≡ true → refuses commit log log ≡ false
not_refused_self commit log e = not_refused commit log log e (front_self commit log)

pub refused_below : (commit : ℕ) (old new : Log) (kept : ℕ) → keeps_front commit old new ≡ nat_le commit kept → kept < commit → refuses commit old new ≡ true
refused_below commit old new kept e l = refused_front commit old new (e ∙ le_not commit kept l)

pub refused_long : (commit : ℕ) (old new : Log) (new' : Log) (keeps : Bool) → new ≡ new' → keeps ≡ keeps_limits new' → keeps ≡ false → refuses commit old new ≡ true
refused_long commit old new new' keeps e f g = refused_limits commit old new (ap (λ (z : Log). keeps_limits z) e ∙ sym f ∙ g)

pub changed : (commit prev : ℕ) (log new entries : Log) (kept passed : ℕ) (keeps : Bool) → passed < length entries → prev + passed ≡ kept → kept ≤ length log → new ≡ take kept log ++ drop passed entries → new ≢ log
    → keeps_front commit log new ≡ nat_le commit kept → commit ≤ kept → keeps ≡ keeps_limits (take kept log ++ drop passed entries) → keeps ≡ true
    → IsChanged commit prev log new entries kept passed
changed commit prev log new entries kept passed keeps l p f e ne front c k t =
    let n = ap (λ (z : Log). length z) e ∙ length_with log (drop passed entries) kept f in let m = length-drop passed entries in
    record {
      within = omega (arith, l);
      fits = f;
      same = e;
      differs = ne;
      allowed = not_refused commit log new (ap (λ (z : Log). keeps_limits z) e ∙ sym k ∙ t) (front ∙ le_is commit kept c);
      reaches = omega (arith, n, m, l, p);
    }

-- what is taken keeps the limits and the committed front
pub taken_limits : (commit : ℕ) (old new : Log) → refuses commit old new ≡ false → keeps_limits new ≡ true
taken_limits commit old new e = go (keeps_limits new) (not (keeps_front commit old new)) e
  where
    go : (a b : Bool) → not a || b ≡ false → a ≡ true
    go true b e = refl
    go false b e = cc e

pub taken_front : (commit : ℕ) (old new : Log) → refuses commit old new ≡ false → keeps_front commit old new ≡ true
taken_front commit old new e = go (not (keeps_limits new)) (keeps_front commit old new) e
  where
    go : (a b : Bool) → a || not b ≡ false → b ≡ true
    go a true e = refl
    go true false e = cc e
    go false false e = cc e

pub commit_within : (commit sent last : ℕ) (old new : Log) → refuses commit old new ≡ false → last ≤ length new → commit ≤ length old → max commit (min sent last) ≤ length new
commit_within commit sent last old new e l c = let k = (keeps_tells commit old new c (taken_front commit old new e)).0 in omega (arith, k, l)
