-- The first member whose name is like another.
use Rattle.std.proofs.Common.{◌≡◌, ℕ, List, [], ◌∷◌, true, false, refl, sym, ap, ◌∙◌, Some, None, String, Global, string_bytes}
use Rattle.std.specs.Str.{str_eq_ignore_ascii_case}
use Rattle.serde_json.specs.View.{view, members_view}
use Rattle.serde_json.specs.declared.value.Value.{Value}
use Rattle.json_bodies.specs.Members.{like}

pub like_first : (name : List ℕ) (t u : List (String Global × Value)) (k : String Global) (v : Value) → t ≡ (k, v) ∷ u → str_eq_ignore_ascii_case (string_bytes k) name ≡ true
    → like name (members_view t) ≡ Some (view v)
like_first name t u k v e yes' = ap (λ l. like name (members_view l)) e ∙ rw yes' refl

pub like_later : (name : List ℕ) (t u : List (String Global × Value)) (k : String Global) (v : Value) → t ≡ (k, v) ∷ u → str_eq_ignore_ascii_case (string_bytes k) name ≡ false
    → like name (members_view u) ≡ like name (members_view t)
like_later name t u k v e no' = sym (ap (λ l. like name (members_view l)) e ∙ rw no' refl)

pub like_none : (name : List ℕ) (t : List (String Global × Value)) → t ≡ [] → like name (members_view t) ≡ None
like_none name t e = ap (λ l. like name (members_view l)) e
