-- The ends of lock delays by key. (Consul, Sessions: "Session Design", lock-delay.)
use Rattle.std.specs.Prelude.{◌≡◌, ℕ, if◌then◌else◌, List, Option, Some, None}
use Rattle.std.proofs.Common.{max}
use Rattle.cat_model.specs.Keys.{same_text, text_cmp}
use Rattle.cat_model.specs.Tables.{row_at}

abbrev pub delay_key : List ℕ × ℕ → List ℕ
delay_key d = d.0

abbrev pub end_in : Option (List ℕ × ℕ) → ℕ
end_in None = 0
end_in (Some d) = d.1

-- the end of the key, or 0
abbrev pub end_of : List ℕ → List (List ℕ × ℕ) → ℕ
end_of key delays = end_in (row_at text_cmp delay_key key delays)

-- the key's end is this one, and others keep theirs
abbrev pub Puts : List ℕ → ℕ → List (List ℕ × ℕ) → List (List ℕ × ℕ) → Type 0
Puts key end old new = (k : List ℕ) → end_of k new ≡ (if same_text key k then end else end_of k old)

-- the key's end is this one, if that is later, and others keep theirs
abbrev pub BeginsDelay : List ℕ → ℕ → List (List ℕ × ℕ) → List (List ℕ × ℕ) → Type 0
BeginsDelay key end old new = (k : List ℕ) → end_of k new ≡ (if same_text key k then max end (end_of k old) else end_of k old)
