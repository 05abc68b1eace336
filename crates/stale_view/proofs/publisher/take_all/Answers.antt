use Rattle.std.proofs.Common.{◌≡◌, ◌++◌, [], ◌∷◌, ◌∙◌, ◌≤◌, ⊎_elim, ℕ, List, drop, length, get_or, sym, subst}
use mathlib.Core.List.{IsPrefix}
use Rattle.cat_model.specs.Log.{commands_of}
use Rattle.cat_model.specs.declared.command.Command.{Command}
use Rattle.stale_view.specs.Sides.{all_of}
use Rattle.stale_view.proofs.Fronts.{prefix_next, prefix_all, prefix_more}
use Rattle.stale_view.proofs.publisher.take_all.Goals as goal

pub loop-taken-preserved : goal.loop-taken-preserved
loop-taken-preserved g c =
    let log = c.args.log.now in let i = c.loop-taken.invariant in let e = c.in_ok-take_one.ensures in
    let all = all_of c.loop-taken.writer.desk.shown.value (drop c.loop-taken.writer.behind c.loop-taken.writer.log.items) in
    let first = all_of c.args.writer.now.desk.shown.value (drop c.args.writer.now.behind c.args.writer.now.log.items) in
    let command : Command = (get_or log c.loop-taken.taken c.index-log-taken.result).command in
    record {
      desk = e.desk ∙ i.desk;
      count = e.count;
      front = λ p. subst (λ (l : List Command). IsPrefix l (commands_of log)) (sym e.ok.0) (prefix_next all log c.index-log-taken.result c.loop-taken.taken i.count c.loop-taken-test.true (i.front p));
      grown = subst (λ (l : List Command). IsPrefix first l) (sym e.ok.0) (prefix_more first all (command ∷ []) i.grown);
      whole = e.ok.1;
      book = e.book ∙ i.book;
    }

pub returns-in_err-take_one-clause-front : goal.returns-in_err-take_one-clause-front
returns-in_err-take_one-clause-front g c =
    let log = c.args.log.now in let i = c.loop-taken.invariant in
    let all = all_of c.loop-taken.writer.desk.shown.value (drop c.loop-taken.writer.behind c.loop-taken.writer.log.items) in
    let new = all_of c.take_one.new.writer.desk.shown.value (drop c.take_one.new.writer.behind c.take_one.new.writer.log.items) in
    let command : Command = (get_or log c.loop-taken.taken c.index-log-taken.result).command in
    λ p. ⊎_elim (λ (e : new ≡ all). subst (λ (l : List Command). IsPrefix l (commands_of log)) (sym e) (i.front p))
    (λ (e : new ≡ all ++ command ∷ []). subst (λ (l : List Command). IsPrefix l (commands_of log)) (sym e) (prefix_next all log c.index-log-taken.result c.loop-taken.taken i.count c.loop-taken-test.true (i.front p))) c.take_one.ensures.taken

pub returns-in_err-take_one-clause-grown : goal.returns-in_err-take_one-clause-grown
returns-in_err-take_one-clause-grown g c =
    let log = c.args.log.now in let i = c.loop-taken.invariant in
    let all = all_of c.loop-taken.writer.desk.shown.value (drop c.loop-taken.writer.behind c.loop-taken.writer.log.items) in
    let new = all_of c.take_one.new.writer.desk.shown.value (drop c.take_one.new.writer.behind c.take_one.new.writer.log.items) in
    let first = all_of c.args.writer.now.desk.shown.value (drop c.args.writer.now.behind c.args.writer.now.log.items) in
    let command : Command = (get_or log c.loop-taken.taken c.index-log-taken.result).command in
    ⊎_elim (λ (e : new ≡ all). subst (λ (l : List Command). IsPrefix first l) (sym e) i.grown)
    (λ (e : new ≡ all ++ command ∷ []). subst (λ (l : List Command). IsPrefix first l) (sym e) (prefix_more first all (command ∷ []) i.grown)) c.take_one.ensures.taken

pub returns-clause-ok : goal.returns-clause-ok
returns-clause-ok g c =
    let all = all_of c.loop-taken.writer.desk.shown.value (drop c.loop-taken.writer.behind c.loop-taken.writer.log.items) in let i = c.loop-taken.invariant in
    (i.whole, λ p. prefix_all all c.args.log.now (i.front p) (subst (λ (n : ℕ). length c.args.log.now ≤ n) i.count c.loop-taken-test.false))
