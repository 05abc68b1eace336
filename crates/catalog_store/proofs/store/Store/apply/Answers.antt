use Rattle.std.proofs.Common.{ℕ, ◌+◌, List, [], ◌∷◌, ◌++◌, sym, ◌∙◌, ap, subst, length}
use Rattle.cat_model.specs.declared.command.Command.{Command}
use Rattle.catalog_store.specs.States.{now_of}
use Rattle.catalog_store.specs.Standing.{Ready, Holds}
use Rattle.catalog_store.specs.Whole.{TablesStep}
use Rattle.catalog_store.proofs.Keeping.{ready, fires_just, holds_more}
use Rattle.catalog_store.proofs.store.Store.apply.Goals as goal

pub advance-requires-clause-ready : goal.advance-requires-clause-ready
advance-requires-clause-ready c =
    let holds : Holds c.self.inside.tables c.args.self.now = subst (Holds c.self.inside.tables) c.self.view_is c.self.invariant in
    subst (λ (n : ℕ). Ready n (now_of c.self.inside.tables)) (sym c.requires.place) (ready (now_of c.self.inside.tables) c.args.self.now holds.now)

pub invariant_of-self : goal.invariant_of-self
invariant_of-self c =
    let holds : Holds c.self.inside.tables c.args.self.now = subst (Holds c.self.inside.tables) c.self.view_is c.self.invariant in
    let step : TablesStep (length c.args.self.now + 1) c.args.command.now (now_of c.self.inside.tables) (now_of c.advance.new.tables) c.in-Ok.done.0 c.in-Ok.done.1 =
    subst (λ (n : ℕ). TablesStep n c.args.command.now (now_of c.self.inside.tables) (now_of c.advance.new.tables) c.in-Ok.done.0 c.in-Ok.done.1) c.requires.place c.in-Ok.ensures.step in
    subst (Holds c.keep.new.self) (sym (c.in-Ok.ensures.ok ∙ ap (λ (l : List Command). l ++ c.args.command.now ∷ []) c.self.view_is))
    (holds_more (now_of c.self.inside.tables) (now_of c.advance.new.tables) c.args.self.now c.args.command.now c.in-Ok.done.0 c.in-Ok.done.1 holds.now step c.keep.new.self c.keep.ensures.now c.keep.ensures.before)

pub returns-in-Ok-clause-fired : goal.returns-in-Ok-clause-fired
returns-in-Ok-clause-fired c =
    let holds : Holds c.self.inside.tables c.args.self.now = subst (Holds c.self.inside.tables) c.self.view_is c.self.invariant in
    let step : TablesStep (length c.args.self.now + 1) c.args.command.now (now_of c.self.inside.tables) (now_of c.advance.new.tables) c.in-Ok.done.0 c.in-Ok.done.1 =
    subst (λ (n : ℕ). TablesStep n c.args.command.now (now_of c.self.inside.tables) (now_of c.advance.new.tables) c.in-Ok.done.0 c.in-Ok.done.1) c.requires.place c.in-Ok.ensures.step in
    fires_just (now_of c.self.inside.tables) (now_of c.advance.new.tables) c.args.self.now c.args.command.now c.in-Ok.done.0 c.in-Ok.done.1 holds.now step
