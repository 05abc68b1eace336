use Rattle.std.proofs.Common.{◌≡◌, ◌∙◌, sym, ap, get_or, rules, arith}
use Rattle.std.specs.Ordering.{is_eq, is_lt}
use Rattle.std.specs.declared.cmp.Ordering.TheVariants.{Equal}
use Rattle.std.proofs.lemmas.Bool.{true≢false}
use Rattle.std.proofs.lemmas.List.{get_or_default}
use Rattle.std.proofs.lemmas.List.Sorted.{IsPartitionPoint-from_clause}
use Rattle.cat_model.proofs.TableLemmas.{eq_is}
use Rattle.node_rows.proofs.Places.{parted, point_is, found_there, found_none}
use Rattle.node_rows.proofs.order.find_row.Goals.{else-at-rows-via-then-at-rows+else-is_eq, else-at-rows-via-else-at-rows}
use Rattle.node_rows.proofs.order.find_row.Goals as goal

pub returns-then-is_eq : goal.returns-then-is_eq
returns-then-is_eq g c =
    let rows = c.args.rows.now in
    let k = g.P.Probe.sought c.args.probe.now in
    let at = c.partition_point-at.result in
    let r = c.index-rows-at-then-is_eq.result in
    let part = IsPartitionPoint-from_clause (λ s. is_lt (g.R.Row.cmp (g.R.Row.key s) k)) rows at c.partition_point-at.ensures.partitioned (parted g.R.Row.cmp g.R.Row.key g.met.R.Row.total k rows c.requires) (λ a b f called. search rules) in
    let rank = point_is (λ s. is_lt (g.R.Row.cmp (g.R.Row.key s) k)) rows at c.partition_point-at.ensures.bound (λ i d below within. part.0 i d (omega arith) below) (λ i d from within. part.1 i d from within) in
    let here : get_or rows at r ≡ r = sym (c.index-rows-at-then-is_eq.is ∙ get_or_default rows at c.index-rows-at-then-is_eq.result r c.if-at-rows.true) in
    let same : c.index-rows-at.result ≡ r = c.index-rows-at.is ∙ get_or_default rows at c.index-rows-at.result r c.if-at-rows.true ∙ here in
    let tie : g.R.Row.cmp (g.R.Row.key r) k ≡ Equal = eq_is g.R.Row.cmp g.R.Row.key g.met.R.Row.total _ (ap (λ q. is_eq (g.R.Row.cmp (g.R.Row.key q) k)) (sym same) ∙ ap is_eq (sym c.place.ensures) ∙ sym c.is_eq.ensures ∙ c.if-is_eq.true) in
    sym (found_there g.R.Row.cmp g.R.Row.key g.met.R.Row.total k rows at r c.requires rank c.if-at-rows.true here tie)

pub returns-else-at-rows : goal.returns-else-at-rows
returns-else-at-rows g c =
    let rows = c.args.rows.now in
    let k = g.P.Probe.sought c.args.probe.now in
    let at = c.partition_point-at.result in
    let part = IsPartitionPoint-from_clause (λ s. is_lt (g.R.Row.cmp (g.R.Row.key s) k)) rows at c.partition_point-at.ensures.partitioned (parted g.R.Row.cmp g.R.Row.key g.met.R.Row.total k rows c.requires) (λ a b f called. search rules) in
    let rank = point_is (λ s. is_lt (g.R.Row.cmp (g.R.Row.key s) k)) rows at c.partition_point-at.ensures.bound (λ i d below within. part.0 i d (omega arith) below) (λ i d from within. part.1 i d from within) in
    sym (found_none g.R.Row.cmp g.R.Row.key g.met.R.Row.total k rows at c.requires rank (λ r low here tie.
    elim c.else-at-rows.branch [
      | else-at-rows-via-then-at-rows+else-is_eq w ↦
          let same : w.index-rows-at.result ≡ r = w.index-rows-at.is ∙ get_or_default rows at w.index-rows-at.result r low ∙ here in
          true≢false (sym (ap is_eq (ap (λ q. g.R.Row.cmp (g.R.Row.key q) k) same ∙ tie)) ∙ ap is_eq (sym w.place.ensures) ∙ sym w.is_eq.ensures ∙ w.if-is_eq.false)
      | else-at-rows-via-else-at-rows w ↦ omega (arith, low, w.if-at-rows.false)
    ]))
