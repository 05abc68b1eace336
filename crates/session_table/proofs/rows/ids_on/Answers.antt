use Rattle.std.proofs.Common.{◌≡◌, true, [], ◌∷◌, ◌++◌, ◌∙◌, sym, ap, append-nil}
use Rattle.cat_model.specs.Keys.{pair_cmp}
use Rattle.row_table.proofs.FiledUnder.{is_mine}
use Rattle.session_table.specs.Places.{Place}
use Rattle.session_table.proofs.Entries.{same_place}
use Rattle.session_table.proofs.Finding.{ids_from, ids_left, walk_more, walk_over, walked}
use Rattle.session_table.proofs.rows.ids_on.Goals.{in-None, in-Some+then-not-is_at}
use Rattle.session_table.proofs.rows.ids_on.Goals as goal

pub loop-entry-preserved : goal.loop-entry-preserved
loop-entry-preserved c =
    let q : Place = (c.args.node.now, c.args.check.now) in
    let mine : is_mine pair_cmp q c.in-Some.entry.now ≡ true = same_place q c.in-Some.entry.now.0 ∙ sym c.is_at.ensures ∙ c.if-not-is_at.false in
    walk_more q c.loop-entry.found.items c.push.new.self.items c.in-Some.entry.now c.loop-entry.entry-iterator c.next.new.self (ids_from q c.args.places.now.now)
    (c.in_ok-push.ensures.items ∙ ap (λ h. c.loop-entry.found.items ++ h.1 ∷ []) c.entry.view_is) c.in-Some.ensures.steps mine c.loop-entry.invariant

pub returns : goal.returns
returns c =
    let q : Place = (c.args.node.now, c.args.check.now) in
    let done : ids_left q c.loop-entry.entry-iterator ≡ [] =
    elim c.match-next.branch [
      | in-None w ↦ ap (ids_left q) w.in-None.ensures.steps.0
      | in-Some+then-not-is_at w ↦ walk_over q w.in-Some.entry.now c.loop-entry.entry-iterator c.next.new.self w.in-Some.ensures.steps (same_place q w.in-Some.entry.now.0 ∙ sym w.is_at.ensures ∙ w.if-not-is_at.true)
    ] in
    sym (append-nil c.loop-entry.found.items) ∙ ap (λ l. c.loop-entry.found.items ++ l) (sym done) ∙ c.loop-entry.invariant ∙ walked q c.args.rows.now.now c.args.places.now.now c.in_order.ensures c.in_order-2.ensures c.requires
