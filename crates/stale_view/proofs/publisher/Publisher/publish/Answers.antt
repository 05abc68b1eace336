use Rattle.std.proofs.Common.{◌∙◌, List, sym, ap, subst}
use mathlib.Core.List.{IsPrefix}
use Rattle.cat_model.specs.Log.{commands_of}
use Rattle.cat_model.specs.declared.command.Command.{Command}
use Rattle.stale_view.proofs.publisher.Publisher.publish.Goals as goal

pub returns-in_err-take_all-clause-taken : goal.returns-in_err-take_all-clause-taken
returns-in_err-take_all-clause-taken g c = λ p. c.take_all.ensures.front (subst (λ (l : List Command). IsPrefix l (commands_of c.args.log.now)) (sym (ap (λ v. v.taken) c.self.view_is)) p)

pub returns-in_err-prepare-clause-taken : goal.returns-in_err-prepare-clause-taken
returns-in_err-prepare-clause-taken g c =
    λ p. subst (λ (l : List Command). IsPrefix l (commands_of c.args.log.now)) (sym c.prepare.ensures.all)
    (c.take_all.ensures.front (subst (λ (l : List Command). IsPrefix l (commands_of c.args.log.now)) (sym (ap (λ v. v.taken) c.self.view_is)) p))

pub returns-clause-taken : goal.returns-clause-taken
returns-clause-taken g c =
    λ p. subst (λ (l : List Command). IsPrefix l (commands_of c.args.log.now)) (sym (c.show_all.ensures.all ∙ c.prepare.ensures.all))
    (c.take_all.ensures.front (subst (λ (l : List Command). IsPrefix l (commands_of c.args.log.now)) (sym (ap (λ v. v.taken) c.self.view_is)) p))
