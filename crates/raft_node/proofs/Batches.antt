-- The entries of an Append, one by one.
use Rattle.std.proofs.Common.{◌≡◌, ℕ, zero, suc, ◌+◌, ◌-◌, ◌^◌, ◌<◌, ◌≤◌, nat_le, inl, inr, true, false, cond, [], ◌∷◌, ◌++◌, length, take, drop, get_or, refl, sym, ◌∙◌, ap, arith}
use Rattle.std.proofs.lemmas.List.{drop_more, drop_all, take_more, append_assoc, append-nil}
use Rattle.std.proofs.lemmas.Bool.{cases_lt}
use Rattle.std.proofs.lemmas.Bool.Decides.{nat_tests}
use Rattle.cat_model.specs.declared.command.Entry.{Entry}
use Rattle.command_codec.specs.Counts.{capped}
use Rattle.raft_model.specs.Log.{Log}
use Rattle.raft_model.specs.Limits.{batch, joining, command_bytes, most_sent_bytes}

pub joining_none : (room before : ℕ) (es : Log) → room ≡ 0 → joining room before es ≡ []
joining_none room before es e = ap (λ r. joining r before es) e

pub joining_end : (room before : ℕ) (es : Log) → es ≡ [] → joining room before es ≡ []
joining_end zero before es e = refl
joining_end (suc room) before es e = ap (λ z. joining (suc room) before z) e

pub joining_full : (room before : ℕ) (e : Entry) (es : Log) → most_sent_bytes < before + command_bytes e.command → joining room before (e ∷ es) ≡ []
joining_full zero before e es l = refl
joining_full (suc room) before e es l = ap (λ t. cond t (e ∷ joining room (before + command_bytes e.command) es) []) (over (before + command_bytes e.command) l)
  where
    over : (n : ℕ) → most_sent_bytes < n → nat_le n most_sent_bytes ≡ false
    over n l = grind (arith, nat_tests, l)

joining_heavy : (room before : ℕ) (es : Log) → most_sent_bytes < before → joining room before es ≡ []
joining_heavy room before [] l = joining_end room before [] refl
joining_heavy room before (e ∷ es) l = joining_full room before e es (omega (arith, l))

-- a count that stops is as good
joining_capped : (room before : ℕ) (es : Log) → joining room before es ≡ joining room (capped before) es
joining_capped room before es = elim (cases_lt before (2 ^ 64)) [
  | inl l ↦ let same : before ≡ capped before = omega (arith, l) in ap (λ n. joining room n es) same
  | inr g ↦ joining_heavy room before es (omega (arith, g)) ∙ sym (joining_heavy room (capped before) es (omega (arith, g)))
]

pub joining_more : (room before : ℕ) (e : Entry) (es : Log) → 0 < room → before + command_bytes e.command ≤ most_sent_bytes → joining room before (e ∷ es) ≡ e ∷ joining (room - 1) (before + command_bytes e.command) es
joining_more zero before e es p l = absurd (omega (arith, p))
joining_more (suc room) before e es p l = let q : room ≡ suc room - 1 = omega arith in
    ap (λ t. cond t (e ∷ joining room (before + command_bytes e.command) es) []) (under (before + command_bytes e.command) l) ∙ ap (λ r. e ∷ joining r (before + command_bytes e.command) es) q
  where
    under : (n : ℕ) → n ≤ most_sent_bytes → nat_le n most_sent_bytes ≡ true
    under n l = grind (arith, nat_tests, l)

-- how far a batch was counted
pub batch_start : (es : Log) (d : Entry) (bytes : ℕ) → 0 < length es → bytes ≡ capped (command_bytes (get_or es 0 d).command) → batch es ≡ take 1 es ++ joining 63 bytes (drop 1 es)
batch_start [] d bytes l e = absurd (omega (arith, l))
batch_start (x ∷ es) d bytes l e = ap (λ z. x ∷ z) (joining_capped 63 (command_bytes x.command) es) ∙ ap (λ n. x ∷ joining 63 n es) (sym e)

pub batch_more : (b es : Log) (n total : ℕ) (d : Entry) (bytes new : ℕ) → n < length es → n < 64 → bytes ≡ capped (command_bytes (get_or es n d).command) → new ≡ capped (total + bytes) → new ≤ most_sent_bytes →
    b ≡ take n es ++ joining (64 - n) total (drop n es) →
    b ≡ take (n + 1) es ++ joining (64 - (n + 1)) new (drop (n + 1) es)
batch_more b es n total d bytes new l m f g w h =
    let e = get_or es n d in let rest = drop (n + 1) es in
    let exact : total + command_bytes e.command ≡ new = omega (arith, f, g, w) in
    let w' : total + command_bytes e.command ≤ most_sent_bytes = omega (arith, exact, w) in
    let q : 64 - n - 1 ≡ 64 - (n + 1) = omega arith in
    h ∙ ap (λ z. take n es ++ joining (64 - n) total z) (drop_more es n d l)
    ∙ ap (λ z. take n es ++ z) (joining_more (64 - n) total e rest (omega (arith, m)) w')
    ∙ sym (append_assoc (take n es) (e ∷ []) (joining (64 - n - 1) (total + command_bytes e.command) rest))
    ∙ ap (λ z. z ++ joining (64 - n - 1) (total + command_bytes e.command) rest) (sym (take_more es n d l))
    ∙ ap (λ r. take (n + 1) es ++ joining r (total + command_bytes e.command) rest) q
    ∙ ap (λ j. take (n + 1) es ++ joining (64 - (n + 1)) j rest) exact

pub batch_ends : (b es : Log) (n room total : ℕ) → b ≡ take n es ++ joining room total (drop n es) → joining room total (drop n es) ≡ [] → take n es ≡ b
batch_ends b es n room total h e = sym (append-nil (take n es)) ∙ ap (λ z. take n es ++ z) (sym e) ∙ sym h

pub batch_stops : (b es : Log) (n room total : ℕ) (d : Entry) (bytes new : ℕ) → n < length es → bytes ≡ capped (command_bytes (get_or es n d).command) → new ≡ capped (total + bytes) → most_sent_bytes < new →
    b ≡ take n es ++ joining room total (drop n es) → take n es ≡ b
batch_stops b es n room total d bytes new l f g w h =
    let w' : most_sent_bytes < total + command_bytes (get_or es n d).command = omega (arith, f, g, w) in
    batch_ends b es n room total h (ap (λ z. joining room total z) (drop_more es n d l) ∙ joining_full room total (get_or es n d) (drop (n + 1) es) w')

pub batch_whole : (b es : Log) (n room total : ℕ) → length es ≤ n → b ≡ take n es ++ joining room total (drop n es) → take n es ≡ b
batch_whole b es n room total l h = batch_ends b es n room total h (joining_end room total (drop n es) (drop_all n es l))

pub batch_full : (b es : Log) (n room total : ℕ) → room ≡ 0 → b ≡ take n es ++ joining room total (drop n es) → take n es ≡ b
batch_full b es n room total z h = batch_ends b es n room total h (joining_none room total (drop n es) z)
