use Rattle.std.proofs.Common.{◌≡◌, ◌<◌, None, subst, arith, rules}
use Rattle.std.specs.Option.{ForSome}
use Rattle.host_keeper.specs.Folders.{HasReason, IsThere}
use Rattle.host_keeper.proofs.Asking.{if_err, more}
use Rattle.host_keeper.proofs.folder.refuse_surplus.Goals as goal

pub returns-in_err-is_there-clause-err : goal.returns-in_err-is_there-clause-err
returns-in_err-is_there-clause-err g c =
    if_err (λ refusal. ForSome (g.F.JournalFiles.files c.args.files.now) (λ all. HasReason (all c.args.folder.now) c.args.servers refusal)) c.from_residual.result c.in_err-is_there.field-0.0 (search rules)
    (λ x e. c.in_err-is_there.ensures.err x e c.args.servers)

pub returns-then-branch-clause-err : goal.returns-then-branch-clause-err
returns-then-branch-clause-err g c = let below : c.loop-server.server < 8 = omega (arith, c.loop-server-test.true) in λ x e. (
  c.loop-server.invariant.0 below,
  omega (arith, below),
  subst (λ z. IsThere z (x c.args.folder.now c.loop-server.server)) c.if-branch.true (c.in_ok-is_there.ensures.ok x e),
)

pub loop-server-preserved : goal.loop-server-preserved
loop-server-preserved g c = let now : c.loop-server.server < 8 = omega (arith, c.loop-server-test.true) in let above_all = c.loop-server.invariant.0 now in (
  (λ next. omega (arith, above_all)),
  (λ x e s above below. more (λ n. x c.args.folder.now n ≡ None) c.loop-server.server s below (λ b. c.loop-server.invariant.1 x e s above b)
      (subst (λ z. IsThere z (x c.args.folder.now c.loop-server.server)) c.if-branch.false (c.in_ok-is_there.ensures.ok x e))),
)

pub returns-clause-ok : goal.returns-clause-ok
returns-clause-ok g c = λ x e s above most. c.loop-server.invariant.1 x e s above (omega (arith, most, c.loop-server-test.false))
