use Rattle.std.proofs.Common.{◌≡◌, ◌∙◌, if◌then◌else◌, not, sym, ap, subst, arith}
use Rattle.std.specs.List.{insert}
use Rattle.std.specs.Ordering.{is_eq}
use Rattle.std.proofs.lemmas.Bool.{true≢false}
use Rattle.std.proofs.lemmas.List.{get_or_default}
use Rattle.cat_model.specs.Tables.{Ascends}
use Rattle.cat_model.proofs.TableLemmas.{Ascends-put, eq_is}
use Rattle.cat_model.proofs.PutLemmas.{put_over, put_between}
use Rattle.node_rows.specs.Order.{rank}
use Rattle.node_rows.proofs.order.place_in_room.Goals.{else-at-len-via-then-at-len+else-is_eq, else-at-len-via-else-at-len}
use Rattle.node_rows.proofs.order.place_in_room.Goals as goal

pub returns-then-is_eq-clause-rows : goal.returns-then-is_eq-clause-rows
returns-then-is_eq-clause-rows g c =
    let old = c.index.result.now in
    put_over g.R.Row.cmp g.R.Row.key g.met.R.Row.total c.args.new c.args.rows.now.items c.place_of-at.result old c.requires.order
    (c.place_of-at.ensures.rank ∙ ap (rank g.R.Row.cmp g.R.Row.key c.args.new) c.as_slice.ensures.value) (omega (arith, c.if-at-len.true)) (sym c.index.ensures)
    (eq_is g.R.Row.cmp g.R.Row.key g.met.R.Row.total _ (ap is_eq (sym c.order.ensures) ∙ sym c.is_eq.ensures ∙ c.if-is_eq.true))

pub returns-then-is_eq-clause-order : goal.returns-then-is_eq-clause-order
returns-then-is_eq-clause-order g c =
    subst (Ascends g.R.Row.cmp g.R.Row.key) (sym (returns-then-is_eq-clause-rows g c)) (Ascends-put g.R.Row.cmp g.R.Row.key g.met.R.Row.total c.args.new c.args.rows.now.items c.requires.order)

pub returns-clause-rows : goal.returns-clause-rows
returns-clause-rows g c =
    let rows = c.args.rows.now.items in
    let at = c.place_of-at.result in
    let done : c.insert.new.self.items ≡ insert rows at c.args.new = c.insert.ensures.items ∙ ap (λ b. if b then insert rows at c.args.new else rows) (c.is_err.ensures.negation ∙ ap not c.if-is_err.false) in
    done
    ∙ put_between g.R.Row.cmp g.R.Row.key g.met.R.Row.total c.args.new rows at c.requires.order (c.place_of-at.ensures.rank ∙ ap (rank g.R.Row.cmp g.R.Row.key c.args.new) c.as_slice.ensures.value) (λ old low found tie.
    elim c.else-at-len.branch [
      | else-at-len-via-then-at-len+else-is_eq w ↦
          let here : w.index.result.now ≡ old = w.index.ensures ∙ get_or_default rows at w.index.result.now old low ∙ found in
          true≢false (sym (ap is_eq (ap (λ q. g.R.Row.cmp (g.R.Row.key q) (g.R.Row.key c.args.new)) here ∙ tie)) ∙ ap is_eq (sym w.order.ensures) ∙ sym w.is_eq.ensures ∙ w.if-is_eq.false)
      | else-at-len-via-else-at-len w ↦ omega (arith, low, w.if-at-len.false)
    ])

pub returns-clause-order : goal.returns-clause-order
returns-clause-order g c = subst (Ascends g.R.Row.cmp g.R.Row.key) (sym (returns-clause-rows g c)) (Ascends-put g.R.Row.cmp g.R.Row.key g.met.R.Row.total c.args.new c.args.rows.now.items c.requires.order)
