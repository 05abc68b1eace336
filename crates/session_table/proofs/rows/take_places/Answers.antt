use Rattle.std.proofs.Common.{◌≡◌, ◌∙◌, sym, ap, subst, Option, Some}
use Rattle.std.specs.Option.{option_copied}
use Rattle.std.specs.Ordering.{nat_cmp}
use Rattle.std.proofs.lemmas.Cmp.{nat_cmp_total}
use Rattle.std.proofs.lemmas.Map.Lookups.{exact_unsigned}
use Rattle.cat_model.specs.Catalog.{session_at, session_key}
use Rattle.cat_model.specs.declared.row.SessionRow.{SessionRow}
use Rattle.cat_model.proofs.InOrder.{key_of_found}
use Rattle.session_table.specs.Nodes.{is_on}
use Rattle.session_table.specs.Places.{Entries, stands_at, Takes}
use Rattle.session_table.proofs.rows.take_places.Goals as goal

pub returns-in-Some-clause-now : goal.returns-in-Some-clause-now
returns-in-Some-clause-now c =
    let old : Entries = c.args.places.now.now in let new : Entries = c.unfile.new.places.now in let row : SessionRow = c.in-Some.row.now in
    let found : session_at c.args.id c.args.rows.now.now ≡ Some row = sym c.get.ensures ∙ ap option_copied c.in-Some.is in
    let own : c.args.id ≡ row.id = key_of_found nat_cmp session_key nat_cmp_total exact_unsigned c.args.id c.args.rows.now.now row found in
    subst (λ (o : Option SessionRow). Takes (λ p. stands_at p o) c.args.id old new) (sym found) (subst (λ i. Takes (λ p. is_on p.0 p.1 row) i old new) (sym own) c.unfile.ensures.now)
