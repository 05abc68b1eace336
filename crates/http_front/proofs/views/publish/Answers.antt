use Rattle.std.proofs.Common.{sym, subst}
use mathlib.Core.List.{IsPrefix}
use Rattle.http_front.proofs.Agreeing.{all_shown}
use Rattle.http_front.proofs.views.publish.Goals as goal

pub returns-clause-begins : goal.returns-clause-begins
returns-clause-begins g c = λ m. subst (IsPrefix c.publish.new.self.taken) (sym (c.agreed.ensures.log m)) (c.publish.ensures.taken (subst (IsPrefix c.args.publisher.now.taken) (c.agreed.ensures.log m) (c.requires.begins m)))

pub returns-clause-all : goal.returns-clause-all
returns-clause-all g c = all_shown c.publish.result _ _ _ _ _ c.agreed.ensures.log c.requires.begins c.publish.ensures.ok
