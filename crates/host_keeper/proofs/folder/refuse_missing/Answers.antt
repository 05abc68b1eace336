use Rattle.std.proofs.Common.{subst}
use Rattle.host_keeper.specs.Folders.{IsKept, IsThere}
use Rattle.host_keeper.proofs.folder.refuse_missing.Goals as goal

pub returns-then-branch-clause-ok : goal.returns-then-branch-clause-ok
returns-then-branch-clause-ok g c = λ x e none. absurd (subst (λ z. IsThere z (x c.args.folder.now c.args.server)) c.if-branch.true (c.in_ok-is_there.ensures.ok x e) none)

pub returns-then-branch-2-clause-err : goal.returns-then-branch-2-clause-err
returns-then-branch-2-clause-err g c = λ x e servers. (
  subst (λ z. IsThere z (x c.args.folder.now c.args.server)) c.if-branch.false (c.in_ok-is_there.ensures.ok x e),
  subst (λ z. IsKept z (x c.args.folder.now)) c.if-branch-2.true (c.in_ok-has_any_kept.ensures.ok x e),
)

pub returns-clause-ok : goal.returns-clause-ok
returns-clause-ok g c = λ x e none. subst (λ z. IsKept z (x c.args.folder.now)) c.if-branch-2.false (c.in_ok-has_any_kept.ensures.ok x e)
