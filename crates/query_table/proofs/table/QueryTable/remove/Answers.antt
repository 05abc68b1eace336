use Rattle.query_table.proofs.Binding.{both_stay, gone}
use Rattle.query_table.proofs.table.QueryTable.remove.Goals as goal

pub invariant_of-self : goal.invariant_of-self
invariant_of-self c =
    let rows = c.self.inside.rows in let bound = c.self.inside.bound in (
      gone rows.now c.remove.new.self.now bound.now c.unbind.new.bound.now c.args.id c.session_of-old.result c.self.invariant.0 c.session_of-old.ensures c.remove.ensures.rows c.unbind.ensures.now,
      both_stay rows.before c.remove.new.self.before bound.before c.unbind.new.bound.before c.self.invariant.1 c.remove.ensures.before c.unbind.ensures.before,
    )
