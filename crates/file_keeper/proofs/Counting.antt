-- The bytes of a log as they are counted.
use Rattle.std.proofs.Common.{◌≡◌, ℕ, zero, suc, ◌+◌, ◌-◌, ◌^◌, ◌<◌, ◌≤◌, nat_le, min, cond, Bool, true, false, List, [], ◌∷◌, ◌++◌, length, take, drop, get_or, refl, sym, ap, subst, ◌∙◌, arith, Option}
use Rattle.std.specs.Prelude.{◌&&◌}
use Rattle.std.proofs.lemmas.Bool.Decides.{nat_tests}
use Rattle.std.proofs.lemmas.List.{length-append, length-take, length-take-le, take-append-drop, take_all}
use Rattle.std.proofs.Math.Seq.{take-suc, take-append_seam}
use Rattle.cat_model.specs.declared.command.Entry.{Entry}
use Rattle.cat_model.specs.declared.kept.Kept.{Kept}
use Rattle.cat_model.specs.Keeping.{with_entries}
use Rattle.cat_model.specs.LogLimits.{command_bytes, is_noop, log_bytes, keeps_limits}
use Rattle.store_records.specs.declared.records.Record.TheVariants.{Store}
use Rattle.file_keeper.specs.Journal.{may_make}

abbrev pub entry_cost : Entry → ℕ
entry_cost e = cond (is_noop e.command) 0 (command_bytes e.command)

pub bytes_append : (a b : List Entry) → log_bytes (a ++ b) ≡ log_bytes a + log_bytes b
bytes_append [] b = omega arith
bytes_append (e ∷ a) b = let more : log_bytes (a ++ b) ≡ log_bytes a + log_bytes b = bytes_append a b in omega arith

pub bytes_push : (a : List Entry) (e : Entry) → log_bytes (a ++ e ∷ []) ≡ log_bytes a + entry_cost e
bytes_push a e = let both : log_bytes (a ++ e ∷ []) ≡ log_bytes a + (entry_cost e + 0) = bytes_append a (e ∷ []) in omega arith

pub bytes_take : (k : ℕ) (log : List Entry) → log_bytes (take k log) ≤ log_bytes log
bytes_take k log =
    let both : log_bytes (take k log ++ drop k log) ≡ log_bytes (take k log) + log_bytes (drop k log) = bytes_append (take k log) (drop k log) in
    let same : log_bytes (take k log ++ drop k log) ≡ log_bytes log = ap log_bytes (take-append-drop k log) in
    omega arith

-- the condition of a call, as it is tested
pub tested : (term : ℕ) (vote : Option ℕ) (log entries : List Entry) (keep : ℕ) → keep ≤ length log
    → may_make (Store (keep + 1) entries) (record { term = term; vote = vote; log = log }) ≡ (nat_le (keep + length entries) 262144 && nat_le (log_bytes (take keep log) + log_bytes entries) 67108864)
tested term vote log entries keep within =
    by_tests (keep + 1) (keep + 1) (length log + 1) (keeps_limits (take (keep + 1 - 1) log ++ entries)) (nat_le (keep + length entries) 262144 && nat_le (log_bytes (take keep log) + log_bytes entries) 67108864) (omega arith) (omega arith)
    (ap (λ (k : ℕ). keeps_limits (take k log ++ entries)) back ∙ limits)
  where
    by_tests : (a b c : ℕ) (p q : Bool) → 1 ≤ a → b ≤ c → p ≡ q → (nat_le 1 a && (nat_le b c && p)) ≡ q
    by_tests a b c p q f g h = grind (arith, nat_tests, h)

    back : keep + 1 - 1 ≡ keep
    back = omega arith

    counts : (a b c d : ℕ) → a ≡ b → c ≡ d → (nat_le a 262144 && nat_le c 67108864) ≡ (nat_le b 262144 && nat_le d 67108864)
    counts a b c d e f = (λ i. nat_le (e i) 262144 && nat_le (f i) 67108864)

    limits : keeps_limits (take keep log ++ entries) ≡ (nat_le (keep + length entries) 262144 && nat_le (log_bytes (take keep log) + log_bytes entries) 67108864)
    limits = counts (length (take keep log ++ entries)) (keep + length entries) (log_bytes (take keep log ++ entries)) (log_bytes (take keep log) + log_bytes entries)
        (length-append (take keep log) entries ∙ ap (λ (n : ℕ). n + length entries) (length-take-le keep log within))
        (bytes_append (take keep log) entries)

pub both_yes : (a b c d more : ℕ) → a ≤ 262144 - b → b ≤ 262144 → more ≡ min c (2 ^ 64 - 1) → more ≤ 67108864 - d → d ≤ 67108864 → (nat_le (b + a) 262144 && nat_le (d + c) 67108864) ≡ true
both_yes a b c d more h g e f k = grind (arith, nat_tests, e)

pub first_no : (a b c d : ℕ) → 262144 - b < a → (nat_le (b + a) 262144 && nat_le (d + c) 67108864) ≡ false
first_no a b c d h = grind (arith, nat_tests)

pub second_no : (a b c d more : ℕ) → more ≡ min c (2 ^ 64 - 1) → 67108864 - d < more → (nat_le (b + a) 262144 && nat_le (d + c) 67108864) ≡ false
second_no a b c d more e h = grind (arith, nat_tests, e)

-- no call leaves a gap, or has the index 0
pub at_zero : (entries : List Entry) (kept : Kept) → may_make (Store 0 entries) kept ≡ false
at_zero entries kept = refl

pub past_end : (index : ℕ) (entries : List Entry) (kept : Kept) → length kept.log < index - 1 → may_make (Store index entries) kept ≡ false
past_end index entries kept h = gap index (length kept.log + 1) (nat_le 1 index) (keeps_limits (with_entries index entries kept).log) (omega arith)
  where
    gap : (a b : ℕ) (p q : Bool) → b < a → (p && (nat_le a b && q)) ≡ false
    gap a b false q h = refl
    gap a b true q h = grind (arith, nat_tests)

-- ---- counting one by one
pub take_one : (x : List Entry) (i : ℕ) (item : Entry) → i < length x → item ≡ get_or x i item → take (i + 1) x ≡ take i x ++ item ∷ []
take_one x i item l at = let k : i + 1 ≡ suc i = omega arith in ap (λ (n : ℕ). take n x) k ∙ take-suc x i item l ∙ ap (λ (e : Entry). take i x ++ e ∷ []) (sym at)

pub counted_more : (x : List Entry) (i total cost new : ℕ) (item : Entry) → i < length x → total ≡ min (log_bytes (take i x)) (2 ^ 64 - 1) → cost ≡ min (entry_cost item) (2 ^ 64 - 1) → item ≡ get_or x i item
    → new ≡ min (total + cost) (2 ^ 64 - 1) → new ≡ min (log_bytes (take (i + 1) x)) (2 ^ 64 - 1)
counted_more x i total cost new item l t c at n =
    let sum : log_bytes (take (i + 1) x) ≡ log_bytes (take i x) + entry_cost item = ap log_bytes (take_one x i item l at) ∙ bytes_push (take i x) item in
    omega (arith, t, c, n, sum)

pub counted_all : (x : List Entry) (i total : ℕ) → length x ≤ i → total ≡ min (log_bytes (take i x)) (2 ^ 64 - 1) → total ≡ min (log_bytes x) (2 ^ 64 - 1)
counted_all x i total l t = t ∙ ap (λ (z : List Entry). min (log_bytes z) (2 ^ 64 - 1)) (take_all i x l)

-- ---- cutting one by one
pub cut_one : (x before after : List Entry) (e : Entry) → before ≡ take (length before) x → before ≡ after ++ e ∷ [] → after ≡ take (length after) x
cut_one x before after e h p =
    let long : length before ≡ length after + 1 = ap length p ∙ length-append after (e ∷ []) in
    sym (take-append_seam after (e ∷ [])) ∙ ap (take (length after)) (sym p ∙ h) ∙ take_twice (length after) (length before) x (omega arith)
  where
    take_twice : (a b : ℕ) (l : List Entry) → a ≤ b → take a (take b l) ≡ take a l
    take_twice zero b l h = refl
    take_twice (suc a) zero l h = absurd (omega arith)
    take_twice (suc a) (suc b) [] h = refl
    take_twice (suc a) (suc b) (y ∷ l) h = ap (λ m. y ∷ m) (take_twice a b l (omega arith))

pub uncounted : (before after : List Entry) (e : Entry) (bytes cost : ℕ) → before ≡ after ++ e ∷ [] → bytes ≡ log_bytes before → bytes ≤ 67108864 → cost ≡ min (entry_cost e) (2 ^ 64 - 1) → (cost ≤ bytes) × (bytes - cost ≡ log_bytes after)
uncounted before after e bytes cost p b most c =
    let sum : log_bytes before ≡ log_bytes after + entry_cost e = ap log_bytes p ∙ bytes_push after e in
    (omega (arith, b, c, sum, most), omega (arith, b, c, sum, most))

-- ---- what a log is once it was cut, and once entries were put behind
pub cut_stands : (log new : List Entry) (keep bytes old : ℕ) → bytes ≡ log_bytes (take keep log) → new ≡ take keep log → old ≡ log_bytes log → old ≤ 67108864 → length log ≤ 262144
    → (bytes ≡ log_bytes new) × (bytes ≤ 67108864) × (length new ≤ 262144)
cut_stands log new keep bytes old b n o most few =
    let less : log_bytes (take keep log) ≤ log_bytes log = bytes_take keep log in
    let short : length (take keep log) ≤ length log = omega (arith, length-take keep log) in
    let same : length new ≡ length (take keep log) = ap length n in
    (b ∙ ap log_bytes (sym n), omega arith, omega arith)

pub put_stands : (log new entries all : List Entry) (keep bytes more : ℕ) → keep ≤ length log → bytes ≡ log_bytes (take keep log) → new ≡ take keep log → all ≡ new ++ entries → more ≡ min (log_bytes entries) (2 ^ 64 - 1)
    → length entries ≤ 262144 - keep → keep ≤ 262144 → more ≤ 67108864 - bytes → bytes ≤ 67108864 → (bytes + more ≡ log_bytes all) × (bytes + more ≤ 67108864) × (length all ≤ 262144)
put_stands log new entries all keep bytes more within b n a m few low room most =
    let sum : log_bytes all ≡ log_bytes new + log_bytes entries = ap log_bytes a ∙ bytes_append new entries in
    let front : log_bytes new ≡ log_bytes (take keep log) = ap log_bytes n in
    let count : length all ≡ length new + length entries = ap length a ∙ length-append new entries in
    let long : length new ≡ keep = ap length n ∙ length-take-le keep log within in
    (omega (arith, m, sum, front, b, room, most), omega (arith, room, most), omega (arith, count, long, few, low))

-- ---- whether a call may be made
store_tested : (index : ℕ) (entries : List Entry) (kept : Kept) → 1 ≤ index → index - 1 ≤ length kept.log
    → may_make (Store index entries) kept ≡ (nat_le (index - 1 + length entries) 262144 && nat_le (log_bytes (take (index - 1) kept.log) + log_bytes entries) 67108864)
store_tested index entries kept some within =
    let back : index ≡ index - 1 + 1 = omega arith in
    ap (λ (i : ℕ). may_make (Store i entries) kept) back ∙ tested kept.term kept.vote kept.log entries (index - 1) within

pub refuses_bytes : (index : ℕ) (entries : List Entry) (kept : Kept) (bytes more : ℕ) → 1 ≤ index → index - 1 ≤ length kept.log → bytes ≡ log_bytes (take (index - 1) kept.log) → more ≡ min (log_bytes entries) (2 ^ 64 - 1)
    → 67108864 - bytes < more → false ≡ may_make (Store index entries) kept
refuses_bytes index entries kept bytes more some within b m above =
    let high : 67108864 - log_bytes (take (index - 1) kept.log) < more = subst (λ (n : ℕ). 67108864 - n < more) b above in
    sym (store_tested index entries kept some within ∙ second_no (length entries) (index - 1) (log_bytes entries) (log_bytes (take (index - 1) kept.log)) more m high)

pub accepts : (index : ℕ) (entries : List Entry) (kept : Kept) (bytes more : ℕ) → 1 ≤ index → index - 1 ≤ length kept.log → length kept.log ≤ 262144 → bytes ≡ log_bytes (take (index - 1) kept.log) → bytes ≤ 67108864
    → more ≡ min (log_bytes entries) (2 ^ 64 - 1) → length entries ≤ 262144 - (index - 1) → more ≤ 67108864 - bytes → true ≡ may_make (Store index entries) kept
accepts index entries kept bytes more some within few b most m short room =
    let low : more ≤ 67108864 - log_bytes (take (index - 1) kept.log) = subst (λ (n : ℕ). more ≤ 67108864 - n) b room in
    let front : log_bytes (take (index - 1) kept.log) ≤ 67108864 = subst (λ (n : ℕ). n ≤ 67108864) b most in
    sym (store_tested index entries kept some within ∙ both_yes (length entries) (index - 1) (log_bytes entries) (log_bytes (take (index - 1) kept.log)) more short (omega arith) m low front)
