use Rattle.std.proofs.Common.{◌++◌, ◌∙◌, sym}
use Rattle.catalog_table.proofs.OwnChecks.{counts_sorted}
use Rattle.catalog_table.proofs.served.counting_for.Goals as goal

pub returns : goal.returns
returns c =
    counts_sorted c.args.node.now c.args.service.now c.args.rows.now.now c.append.new.self.items c.sort.new.rows.items (sym c.is_blank.ensures ∙ c.if-is_blank.false) c.in_order.ensures
    (c.in_ok-append.ensures.items ∙ (λ i. c.in_ok-found.ensures i ++ c.in_ok-own.ensures i)) c.in_ok-sort.ensures.moved c.in_ok-sort.ensures.sorted
