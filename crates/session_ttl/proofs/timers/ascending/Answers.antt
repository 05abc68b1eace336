use Rattle.std.proofs.Common.{ℕ, List, get_or, sym, subst, take, ◌∙◌, ap}
use Rattle.std.specs.List.Sorted.{IsStrictlySortedBy}
use Rattle.std.specs.Ordering.{nat_cmp}
use Rattle.std.proofs.lemmas.List.{take_more}
use Rattle.std.proofs.lemmas.Result.{IfOk-weaker}
use Rattle.session_ttl.specs.Timed.{is_one_of}
use Rattle.session_ttl.proofs.Among.{ascend_from, one_of_more}
use Rattle.session_ttl.proofs.timers.ascending.Goals as goal

pub loop-id-preserved : goal.loop-id-preserved
loop-id-preserved c = λ id.
    let ids : List ℕ = c.args.ids.now in let i = c.loop-id.id-index in
    one_of_more id (get_or ids i 0) (take i ids) c.loop-id.set.keys c.insert.new.self.keys (c.loop-id.invariant id) (c.in_ok-insert.ensures.updates.0 id) ∙ ap (is_one_of id) (sym (take_more ids i 0 c.loop-id-test.true))

pub returns-clause-ascend : goal.returns-clause-ascend
returns-clause-ascend c = IfOk-weaker c.listed.result _ _ (λ v e. ascend_from v.items (subst (IsStrictlySortedBy nat_cmp) (sym e) c.listed.ensures.ordered)) c.listed.ensures.keys
