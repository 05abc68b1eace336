-- The totals of a log that is cut, or to which an entry is added.
use Rattle.std.proofs.Common.{◌≡◌, ℕ, zero, suc, ◌+◌, ◌-◌, ◌^◌, ◌≤◌, min, List, [], ◌∷◌, ◌++◌, length, take, refl, sym, ap, ◌∙◌, arith}
use Rattle.std.specs.List.{slice_index_or}
use Rattle.cat_model.specs.declared.command.Entry.{Entry}
use Rattle.cat_model.specs.LogLimits.{log_bytes}
use Rattle.command_codec.specs.Counts.{capped}
use Rattle.host_keeper.specs.Tallies.{cost, last_or, totals_from}

pub totals_push : (b : ℕ) (log : List Entry) (e : Entry) → totals_from b (log ++ e ∷ []) ≡ totals_from b log ++ capped (last_or b (totals_from b log) + cost e) ∷ []
totals_push b [] e = refl
totals_push b (x ∷ log) e = ap (λ ts. capped (b + cost x) ∷ ts) (totals_push (capped (b + cost x)) log e)

pub totals_cut : (k b : ℕ) (log : List Entry) → take k (totals_from b log) ≡ totals_from b (take k log)
totals_cut zero b log = refl
totals_cut (suc k) b [] = refl
totals_cut (suc k) b (x ∷ log) = ap (λ ts. capped (b + cost x) ∷ ts) (totals_cut k (capped (b + cost x)) log)

pub totals_length : (b : ℕ) (log : List Entry) → length (totals_from b log) ≡ length log
totals_length b [] = refl
totals_length b (x ∷ log) = ap suc (totals_length (capped (b + cost x)) log)

pub totals_last : (b : ℕ) (log : List Entry) → b ≤ 2 ^ 64 - 1 → last_or b (totals_from b log) ≡ capped (b + log_bytes log)
totals_last b [] h = omega (arith, h)
totals_last b (x ∷ log) h = let more : last_or (capped (b + cost x)) (totals_from (capped (b + cost x)) log) ≡ capped (capped (b + cost x) + log_bytes log) = totals_last (capped (b + cost x)) log (omega arith) in omega (arith, more, h)

pub totals_bytes : (log : List Entry) → last_or 0 (totals_from 0 log) ≡ capped (log_bytes log)
totals_bytes log = let all : last_or 0 (totals_from 0 log) ≡ capped (0 + log_bytes log) = totals_last 0 log (omega arith) in omega (arith, all)

-- the element that stands last
pub last_at : (n : ℕ) (ts : List ℕ) (b : ℕ) → length ts ≡ suc n → slice_index_or ts n 0 ≡ last_or b ts
last_at n [] b h = absurd (omega (arith, h))
last_at zero (t ∷ []) b h = refl
last_at zero (t ∷ u ∷ ts) b h = absurd (omega (arith, h))
last_at (suc n) (t ∷ ts) b h = last_at n ts t (omega (arith, h))

pub pushed : (log : List Entry) (e : Entry) (last bytes total : ℕ) (old new : List ℕ) → old ≡ totals_from 0 log → last ≡ last_or 0 old → bytes ≡ min (cost e) (2 ^ 64 - 1) → total ≡ min (last + bytes) (2 ^ 64 - 1)
    → new ≡ old ++ total ∷ [] → new ≡ totals_from 0 (log ++ e ∷ [])
pushed log e last bytes total old new is l b t n =
    let before : last ≡ last_or 0 (totals_from 0 log) = l ∙ ap (last_or 0) is in
    let sum : total ≡ capped (last_or 0 (totals_from 0 log) + cost e) = omega (arith, before, b, t) in
    n ∙ ap (λ (ts : List ℕ). ts ++ total ∷ []) is ∙ ap (λ (m : ℕ). totals_from 0 log ++ m ∷ []) sum ∙ sym (totals_push 0 log e)
