-- The checks of a service are named one after the other.
use Rattle.std.proofs.Common.{◌≡◌, ℕ, ◌+◌, ◌<◌, ◌≤◌, List, [], ◌∷◌, ◌++◌, length, drop, get_or, Bool, sym, ap, ◌∙◌, append_assoc, append-nil}
use Rattle.std.proofs.lemmas.List.{drop_more, drop_all}
use Rattle.cat_model.specs.declared.request.ServiceDef.{ServiceDef}
use Rattle.cat_model.specs.declared.request.TtlDef.{TtlDef}
use Rattle.json_bodies.specs.AgentServices.{named, named_from}

pub next_named : (s : ServiceDef) (b : Bool) (front ts : List TtlDef) (i : ℕ) (t n : TtlDef) → t ≡ get_or ts i t → i < length ts → n ≡ named s b (i + 1) t
    → (front ++ n ∷ []) ++ named_from s b (i + 1 + 1) (drop (i + 1) ts) ≡ front ++ named_from s b (i + 1) (drop i ts)
next_named s b front ts i t n is less e =
    append_assoc front (n ∷ []) (named_from s b (i + 1 + 1) (drop (i + 1) ts))
    ∙ ap (λ m. front ++ m ∷ named_from s b (i + 1 + 1) (drop (i + 1) ts)) e
    ∙ sym (ap (λ us. front ++ named_from s b (i + 1) us) (drop_more ts i t less ∙ ap (λ u. u ∷ drop (i + 1) ts) (sym is)))

pub last_named : (s : ServiceDef) (b : Bool) (front ts : List TtlDef) (i : ℕ) → length ts ≤ i → front ++ named_from s b (i + 1) (drop i ts) ≡ front
last_named s b front ts i past = ap (λ us. front ++ named_from s b (i + 1) us) (drop_all i ts past) ∙ append-nil front
