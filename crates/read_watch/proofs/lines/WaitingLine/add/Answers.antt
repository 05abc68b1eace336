use Rattle.std.proofs.Common.{◌≡◌, ◌⊎◌, ◌∙◌, sym, subst, Contains}
use Rattle.std.specs.Result.{is_ok}
use Rattle.read_watch.specs.Lines.{Waiter}
use Rattle.read_watch.proofs.Waiting.{tried, tried_there, tried_kept, tried_only}
use Rattle.read_watch.proofs.lines.WaitingLine.add.Goals as goal

pub returns-clause-there : goal.returns-clause-there
returns-clause-there c = λ h.
    let k : Waiter = (c.args.term, c.args.number, c.args.request) in
    tried_there (is_ok c.insert.result) k c.self.inside.entries.keys c.insert.new.self.keys (tried c.insert.result k c.self.inside.entries.keys c.insert.new.self.keys c.insert.ensures.keys c.insert.ensures.err) (sym c.is_ok.ensures.value ∙ h)

pub returns-clause-kept : goal.returns-clause-kept
returns-clause-kept c = λ e h.
    let k : Waiter = (c.args.term, c.args.number, c.args.request) in
    tried_kept (is_ok c.insert.result) k c.self.inside.entries.keys c.insert.new.self.keys (tried c.insert.result k c.self.inside.entries.keys c.insert.new.self.keys c.insert.ensures.keys c.insert.ensures.err) e (subst (λ l. Contains l e) (sym c.self.view_is) h)

pub returns-clause-alone : goal.returns-clause-alone
returns-clause-alone c = λ e h.
    let k : Waiter = (c.args.term, c.args.number, c.args.request) in
    subst (λ l. Contains l e ⊎ (e ≡ k)) c.self.view_is
    (tried_only (is_ok c.insert.result) k c.self.inside.entries.keys c.insert.new.self.keys (tried c.insert.result k c.self.inside.entries.keys c.insert.new.self.keys c.insert.ensures.keys c.insert.ensures.err) e h)
