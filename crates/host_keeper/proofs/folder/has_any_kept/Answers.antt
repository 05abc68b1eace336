use Rattle.std.proofs.Common.{◌≡◌, [], subst, arith}
use Rattle.host_keeper.specs.Folders.{HasBytes, bytes_in}
use Rattle.host_keeper.proofs.Asking.{more}
use Rattle.host_keeper.proofs.folder.has_any_kept.Goals as goal

pub returns-then-branch-clause-ok : goal.returns-then-branch-clause-ok
returns-then-branch-clause-ok g c = λ x e. record {
  server = c.loop-server.server;
  from = c.loop-server.invariant.0;
  to = omega (arith, c.loop-server-test.true);
  some = subst (λ z. HasBytes z (x c.args.folder.now c.loop-server.server)) c.if-branch.true (c.in_ok-has_kept.ensures.ok x e);
}

pub loop-server-preserved : goal.loop-server-preserved
loop-server-preserved g c = (
  omega (arith, c.loop-server.invariant.0),
  (λ x e s from below. more (λ n. bytes_in (x c.args.folder.now n) ≡ []) c.loop-server.server s below (λ b. c.loop-server.invariant.1 x e s from b)
      (subst (λ z. HasBytes z (x c.args.folder.now c.loop-server.server)) c.if-branch.false (c.in_ok-has_kept.ensures.ok x e))),
)
