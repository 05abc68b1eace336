-- The JSON of a body that is a text, and of one that is none.
use Rattle.std.proofs.Common.{◌≡◌, ℕ, List, ap, ◌∙◌, Some, None, Ok, Err, IsUtf8, inl, inr}
use Rattle.std.proofs.lemmas.Bool.{cond-true, cond-false, cases_Bool}
use Rattle.std.specs.Str.{is_utf8}
use Rattle.std.proofs.lemmas.Str.{IsUtf8-from_is_utf8, is_utf8-from_IsUtf8}
use Rattle.serde_json.specs.Data.{Data}
use Rattle.serde_json.specs.Read.{read}
use Rattle.json_bodies.specs.declared.error.ReadError.TheVariants.{Invalid}
use Rattle.json_bodies.specs.declared.field.Field.TheVariants.{Body}
use Rattle.json_bodies.specs.Errors.{or_refuse}
use Rattle.json_bodies.specs.Members.{json_of}

pub json_ok : (body : List ℕ) (d : Data) → IsUtf8 body → read body ≡ Some d → json_of body ≡ Ok d
unfolding json_of
json_ok body d text is = cond-true _ _ _ (is_utf8-from_IsUtf8 body text) ∙ ap (or_refuse Body) is

pub json_err : (body : List ℕ) → (IsUtf8 body → read body ≡ None) → json_of body ≡ Err (Invalid Body)
unfolding json_of
json_err body none =
    elim (cases_Bool (is_utf8 body)) [
      | inl text ↦ cond-true _ _ _ text ∙ ap (or_refuse Body) (none (IsUtf8-from_is_utf8 body text))
      | inr other ↦ cond-false _ _ _ other
    ]
