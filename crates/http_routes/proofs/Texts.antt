-- A path's parameter that is a text, and one that is none.
use Rattle.std.proofs.Common.{◌≡◌, ℕ, List, Ok, Err, IsUtf8, inl, inr}
use Rattle.std.proofs.lemmas.Bool.{cond-true, cond-false, cases_Bool}
use Rattle.std.specs.Str.{is_utf8}
use Rattle.std.proofs.lemmas.Str.{IsUtf8-from_is_utf8, is_utf8-from_IsUtf8}
use Rattle.percent_encoding.specs.Percent.{percent_decode}
use Rattle.http_routes.specs.declared.error.Parameter.{Parameter}
use Rattle.http_routes.specs.declared.error.RouteError.TheVariants.{Target}
use Rattle.http_routes.specs.Targets.{text_of}

pub text_ok : (parameter : Parameter) (part : List ℕ) → IsUtf8 (percent_decode part) → text_of parameter part ≡ Ok (percent_decode part)
unfolding text_of
text_ok parameter part text = cond-true _ _ _ (is_utf8-from_IsUtf8 (percent_decode part) text)

pub text_err : (parameter : Parameter) (part : List ℕ) → (IsUtf8 (percent_decode part) → ⊥) → text_of parameter part ≡ Err (Target parameter)
unfolding text_of
text_err parameter part none =
    elim (cases_Bool (is_utf8 (percent_decode part))) [
      | inl text ↦ absurd (none (IsUtf8-from_is_utf8 (percent_decode part) text))
      | inr other ↦ cond-false _ _ _ other
    ]
