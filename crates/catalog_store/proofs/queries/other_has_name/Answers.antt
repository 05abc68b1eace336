use Rattle.std.proofs.Common.{◌∙◌, sym, ap, find}
use Rattle.std.specs.Option.{option_copied}
use Rattle.query_table.specs.States.{is_named}
use Rattle.catalog_store.proofs.Settings.{full_name, named_none, named_some}
use Rattle.catalog_store.proofs.queries.other_has_name.Goals as goal

pub returns-in-None : goal.returns-in-None
returns-in-None c = named_none c.args.row.now c.args.queries.now.now (ap (λ n. find (is_named n) c.args.queries.now.now) (sym c.as_str.ensures) ∙ sym c.by_name.ensures.row ∙ ap option_copied c.in-None.is)

pub returns-in-Some : goal.returns-in-Some
returns-in-Some c = named_some c.args.position c.args.row.now c.in-Some.found.now c.args.queries.now.now c.requires (full_name c.args.row.now.name (λ e. c.if-len-eq0.false (c.len.ensures ∙ e))) (ap (λ n. find (is_named n) c.args.queries.now.now) (sym c.as_str.ensures) ∙ sym c.by_name.ensures.row ∙ ap option_copied c.in-Some.is)
