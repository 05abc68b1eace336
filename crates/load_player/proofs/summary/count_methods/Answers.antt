use Rattle.std.proofs.Common.{arith, ap, ◌∙◌, ◌+◌, cond}
use Rattle.load_player.specs.Summary.{is_put, is_get, is_delete}
use Rattle.load_player.proofs.Drawing.{count_step, count_none, one_more}
use Rattle.load_player.proofs.summary.count_methods.Goals as goal

pub loop-done-preserved : goal.loop-done-preserved
loop-done-preserved c =
    let inv = c.loop-done.invariant in
    let now = c.counted-counts.ensures in
    let had = c.loop-done.counts in
    let more = c.loop-done-test.true in
    let drawn = c.next_word.ensures in
    let kind = c.method_of.ensures in (
      omega (arith, more),
      one_more c.method_of.result _ _ _ _ _ _ c.loop-done.done now.puts now.gets now.deletes inv.1,
      count_step is_put _ had.puts _ _ c.loop-done.done _ _ _ more drawn (now.puts ∙ ap (λ m. had.puts + cond (is_put m) 1 0) kind) inv.2,
      count_step is_get _ had.gets _ _ c.loop-done.done _ _ _ more drawn (now.gets ∙ ap (λ m. had.gets + cond (is_get m) 1 0) kind) inv.3,
      count_step is_delete _ had.deletes _ _ c.loop-done.done _ _ _ more drawn (now.deletes ∙ ap (λ m. had.deletes + cond (is_delete m) 1 0) kind) inv.4,
    )

pub returns-clause-puts : goal.returns-clause-puts
returns-clause-puts c = count_none is_put _ _ _ c.loop-done.done _ c.loop-done-test.false c.loop-done.invariant.2

pub returns-clause-gets : goal.returns-clause-gets
returns-clause-gets c = count_none is_get _ _ _ c.loop-done.done _ c.loop-done-test.false c.loop-done.invariant.3

pub returns-clause-deletes : goal.returns-clause-deletes
returns-clause-deletes c = count_none is_delete _ _ _ c.loop-done.done _ c.loop-done-test.false c.loop-done.invariant.4
