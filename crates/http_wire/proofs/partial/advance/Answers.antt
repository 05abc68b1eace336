use Rattle.std.proofs.Common.{ℕ, ◌∙◌, sym, List, subst, ◌++◌}
use Rattle.http_wire.proofs.Steps as steps
use Rattle.http_wire.specs.Reader.{Moves}
use Rattle.http_wire.proofs.partial.advance.Goals as goal

pub returns-then-is_some-clause-moves : goal.returns-then-is_some-clause-moves
returns-then-is_some-clause-moves c =
    let old = c.args.partial.now in
    let new = c.feed_body.new.partial in
    (steps.known old.top.items old.head old.body.items c.args.piece.now c.feed_body.result new.top.items new.head new.body.items (sym c.is_some.ensures ∙ c.if-is_some.true) c.requires.is c.feed_body.ensures.moves).0

pub returns-then-is_some-clause-keeps : goal.returns-then-is_some-clause-keeps
returns-then-is_some-clause-keeps c =
    let old = c.args.partial.now in
    let new = c.feed_body.new.partial in
    (steps.known old.top.items old.head old.body.items c.args.piece.now c.feed_body.result new.top.items new.head new.body.items (sym c.is_some.ensures ∙ c.if-is_some.true) c.requires.is c.feed_body.ensures.moves).1

pub returns-in-Refused-clause-moves : goal.returns-in-Refused-clause-moves
returns-in-Refused-clause-moves c =
    let old = c.args.partial.now in
    let none = steps.none_held old.top.items old.head old.body.items (sym c.is_some.ensures ∙ c.if-is_some.false) c.requires.is in
    steps.none_refused old.top.items c.seek_head.new.top.items old.body.items c.args.piece.now c.in-Refused.rejection none.1 none.2 c.in-Refused.ensures.0 c.in-Refused.ensures.1

pub returns-in-Found-clause-moves : goal.returns-in-Found-clause-moves
returns-in-Found-clause-moves c =
    let old = c.args.partial.now in
    let none = steps.none_held old.top.items old.head old.body.items (sym c.is_some.ensures ∙ c.if-is_some.false) c.requires.is in
    let new = c.feed_found.new.partial in
    let fed = c.feed_found.result in
    let start = steps.found_start old.top.items c.seek_head.new.top.items c.args.piece.now c.in-Found.head c.size-before.result c.size-before.ensures c.in-Found.ensures in
    subst (λ (l : List ℕ). Moves l c.args.piece.now fed.used fed.got (new.top.items ++ new.body.items)) (start ∙ steps.top_alone old.top.items old.body.items none.1) c.feed_found.ensures.moves
