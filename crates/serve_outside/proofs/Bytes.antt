-- The bytes that were read.
use Rattle.std.proofs.Common.{◌≡◌, ℕ, ◌+◌, List, ◌++◌, take, drop, ap, sym, ◌∙◌, take-add}

-- what was read before, and then what stands in the buffer's front
pub read_on : (at count : ℕ) (bytes into : List ℕ) → take count into ≡ take count (drop at bytes) → take (at + count) bytes ≡ take at bytes ++ take count into
read_on at count bytes into same = take-add at count bytes ∙ ap (λ l. take at bytes ++ l) (sym same)
