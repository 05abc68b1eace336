use Rattle.std.proofs.Common.{◌≡◌, ◌++◌, [], ◌∷◌, ◌∙◌, inr, List, drop, length, refl, sym, ap, subst, arith, length-append}
use mathlib.Core.List.{IsPrefix}
use Rattle.cat_model.specs.declared.command.Command.{Command}
use Rattle.stale_view.specs.Sides.{all_of}
use Rattle.stale_view.proofs.Folding.{all_with_command}
use Rattle.stale_view.proofs.Fronts.{prefix_self}
use Rattle.stale_view.proofs.publisher.take_one.Goals as goal

pub returns-then-add-clause-count : goal.returns-then-add-clause-count
returns-then-add-clause-count g c =
    let w = c.args.writer.now in let before = drop w.behind w.log.items in let all = all_of w.desk.shown.value before in let command = c.args.command.now in
    let is : all_of c.file.new.writer.desk.shown.value (drop c.file.new.writer.behind c.file.new.writer.log.items) ≡ all ++ command ∷ [] = rw (c.in_ok-file.ensures.desk, c.in_ok-file.ensures.ok) (all_with_command w.desk.shown.value before command) in
    rw is (omega (arith, c.requires.count, length-append all (command ∷ [])))

pub returns-else-add-clause-count : goal.returns-else-add-clause-count
returns-else-add-clause-count g c =
    let w = c.args.writer.now in let before = drop w.behind w.log.items in let all = all_of w.desk.shown.value before in let command = c.args.command.now in
    let is : all_of c.file.new.writer.desk.shown.value (drop c.file.new.writer.behind c.file.new.writer.log.items) ≡ all ++ command ∷ [] = rw (c.in_ok-file.ensures.desk, c.in_ok-file.ensures.ok) (all_with_command w.desk.shown.value before command) in
    rw is (omega (arith, c.requires.count, length-append all (command ∷ [])))

pub returns-then-add-clause-taken : goal.returns-then-add-clause-taken
returns-then-add-clause-taken g c =
    let w = c.args.writer.now in let before = drop w.behind w.log.items in
    inr (rw (c.in_ok-file.ensures.desk, c.in_ok-file.ensures.ok) (all_with_command w.desk.shown.value before c.args.command.now))

pub returns-else-add-clause-taken : goal.returns-else-add-clause-taken
returns-else-add-clause-taken g c =
    let w = c.args.writer.now in let before = drop w.behind w.log.items in
    inr (rw (c.in_ok-file.ensures.desk, c.in_ok-file.ensures.ok) (all_with_command w.desk.shown.value before c.args.command.now))

pub returns-then-add-clause-front : goal.returns-then-add-clause-front
returns-then-add-clause-front g c =
    let w = c.args.writer.now in let before = drop w.behind w.log.items in let all = all_of w.desk.shown.value before in let command = c.args.command.now in
    let new = all_of c.file.new.writer.desk.shown.value (drop c.file.new.writer.behind c.file.new.writer.log.items) in
    let is : new ≡ all ++ command ∷ [] = rw (c.in_ok-file.ensures.desk, c.in_ok-file.ensures.ok) (all_with_command w.desk.shown.value before command) in
    let whole : c.add.new.self.list ≡ all ++ command ∷ [] = c.add.ensures.added c.if-add.true ∙ (ap (λ (x : Command). c.args.front.now.list ++ x ∷ []) c.deref.ensures ∙ ap (λ (l : List Command). l ++ command ∷ []) c.requires.whole) in
    subst (λ (l : List Command). IsPrefix l new) (is ∙ sym whole) (prefix_self new)

pub returns-then-add-clause-ok : goal.returns-then-add-clause-ok
returns-then-add-clause-ok g c =
    let w = c.args.writer.now in let before = drop w.behind w.log.items in let all = all_of w.desk.shown.value before in let command = c.args.command.now in
    let is : all_of c.file.new.writer.desk.shown.value (drop c.file.new.writer.behind c.file.new.writer.log.items) ≡ all ++ command ∷ [] = rw (c.in_ok-file.ensures.desk, c.in_ok-file.ensures.ok) (all_with_command w.desk.shown.value before command) in
    let whole : c.add.new.self.list ≡ all ++ command ∷ [] = c.add.ensures.added c.if-add.true ∙ (ap (λ (x : Command). c.args.front.now.list ++ x ∷ []) c.deref.ensures ∙ ap (λ (l : List Command). l ++ command ∷ []) c.requires.whole) in
    (is, whole ∙ sym is)

pub returns-else-add-clause-front : goal.returns-else-add-clause-front
returns-else-add-clause-front g c =
    let w = c.args.writer.now in let before = drop w.behind w.log.items in let all = all_of w.desk.shown.value before in let command = c.args.command.now in
    let new = all_of c.file.new.writer.desk.shown.value (drop c.file.new.writer.behind c.file.new.writer.log.items) in
    let is : new ≡ all ++ command ∷ [] = rw (c.in_ok-file.ensures.desk, c.in_ok-file.ensures.ok) (all_with_command w.desk.shown.value before command) in
    subst (λ (l : List Command). IsPrefix l new) (sym (c.add.ensures.behind c.if-add.false ∙ c.requires.whole)) (subst (IsPrefix all) (sym is) (command ∷ [], refl))
