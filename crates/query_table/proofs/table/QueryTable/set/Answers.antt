use Rattle.std.proofs.Common.{◌≢◌, ◌∙◌, refl, sym, ap}
use Rattle.std.specs.Ordering.{nat_cmp}
use Rattle.row_table.specs.Filing.{unfiled}
use Rattle.query_table.proofs.Renaming.{either}
use Rattle.query_table.proofs.Binding.{back, both_stay, kept, moved, sessions_differ, sessions_same}
use Rattle.query_table.proofs.table.QueryTable.set.Goals as goal

pub invariant_of-self : goal.invariant_of-self
invariant_of-self c =
    let rows = c.self.inside.rows in let bound = c.self.inside.bound in
    let same = sym c.session_of-old.ensures ∙ sessions_same c.session_of-old.result c.args.row.session (sym c.eq.ensures ∙ c.if-eq.true) in (
      either c.set.result _ _ _ c.set.ensures.ok c.set.ensures.err (λ made. kept rows.now c.set.new.self.now bound.now c.args.row c.self.invariant.0 same made)
          (λ stays. both_stay rows.now c.set.new.self.now bound.now bound.now c.self.invariant.0 stays refl),
      both_stay rows.before c.set.new.self.before bound.before bound.before c.self.invariant.1 c.set.ensures.before refl,
    )

pub invariant_of-self-in-Err : goal.invariant_of-self-in-Err
invariant_of-self-in-Err c =
    let rows = c.self.inside.rows in let bound = c.self.inside.bound in let id = c.args.row.id in let session = c.args.row.session in
    let differ : c.session_of-old.result ≢ session = sessions_differ c.session_of-old.result session (sym c.eq.ensures ∙ c.if-eq.false) in (
      back rows.now c.set-2.new.self.now bound.now c.unbind.new.bound.now id c.session_of-old.result session c.self.invariant.0 c.session_of-old.ensures differ c.in-Err.ensures.err (c.unbind.ensures.now ∙ ap (unfiled nat_cmp nat_cmp session id) c.in_ok-bind.ensures.ok),
      both_stay rows.before c.set-2.new.self.before bound.before c.unbind.new.bound.before c.self.invariant.1 c.in-Err.ensures.before (c.unbind.ensures.before ∙ c.in_ok-bind.ensures.before),
    )

pub invariant_of-self-2 : goal.invariant_of-self-2
invariant_of-self-2 c =
    let rows = c.self.inside.rows in let bound = c.self.inside.bound in let id = c.args.row.id in let session = c.args.row.session in
    let old = c.session_of-old.result in
    let differ : old ≢ session = sessions_differ old session (sym c.eq.ensures ∙ c.if-eq.false) in (
      moved rows.now c.set-2.new.self.now bound.now c.unbind-2.new.bound.now c.args.row old c.self.invariant.0 c.session_of-old.ensures differ c.in_default.ensures.ok (c.unbind-2.ensures.now ∙ ap (unfiled nat_cmp nat_cmp old id) c.in_ok-bind.ensures.ok),
      both_stay rows.before c.set-2.new.self.before bound.before c.unbind-2.new.bound.before c.self.invariant.1 c.in_default.ensures.before (c.unbind-2.ensures.before ∙ c.in_ok-bind.ensures.before),
    )
