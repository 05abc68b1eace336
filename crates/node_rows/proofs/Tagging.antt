-- Tags written at a place of a list.
use Rattle.std.proofs.Common.{◌≡◌, ◌<◌, ◌≤◌, ℕ, zero, suc, List, [], ◌∷◌, length, get_or, slice_set, refl, ap, arith}
use Rattle.cat_model.specs.declared.row.ServiceRow.{ServiceRow}
use Rattle.node_rows.specs.Tags.{tagged_at}

pub set_tagged : (services : List ServiceRow) (at : ℕ) (tags : List (List ℕ)) (s : ServiceRow) → at < length services → s ≡ get_or services at s → slice_set services at (record s { tags = tags }) ≡ tagged_at at tags services
set_tagged [] at tags s low is = absurd (omega arith)
set_tagged (r ∷ services) zero tags s low is = ap (λ (q : ServiceRow). record q { tags = tags } ∷ services) is
set_tagged (r ∷ services) (suc at) tags s low is = ap (λ l. r ∷ l) (set_tagged services at tags s (omega arith) is)

pub none_tagged : (services : List ServiceRow) (at : ℕ) (tags : List (List ℕ)) → length services ≤ at → services ≡ tagged_at at tags services
none_tagged [] at tags h = refl
none_tagged (r ∷ services) zero tags h = absurd (omega arith)
none_tagged (r ∷ services) (suc at) tags h = ap (λ l. r ∷ l) (none_tagged services at tags (omega arith))
