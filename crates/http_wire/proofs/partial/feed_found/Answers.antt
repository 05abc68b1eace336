use Rattle.std.proofs.Common.{ℕ, ap, sym, arith, List, take, length, subst, ◌-◌}
use Rattle.std.proofs.lemmas.List.{length-drop}
use Rattle.http_wire.specs.Reader.{FoundHead, AddsBody}
use Rattle.http_wire.proofs.Steps as steps
use Rattle.http_wire.proofs.partial.feed_found.Goals as goal

pub returns-then-expects-clause-moves : goal.returns-then-expects-clause-moves
returns-then-expects-clause-moves c =
    let old = take c.args.before c.args.partial.now.top.items in
    let used = sym (ap (λ (n : ℕ). n - c.args.before) c.size.ensures) in
    (steps.found_continue old c.args.partial.now.top.items c.args.partial.now.body.items c.args.piece.now c.args.head _
    (subst (λ (n : ℕ). FoundHead old c.args.partial.now.top.items c.args.piece.now c.args.head n) used c.requires.found) c.requires.body c.if-expects.true).0

pub returns-then-expects-clause-keeps : goal.returns-then-expects-clause-keeps
returns-then-expects-clause-keeps c =
    let old = take c.args.before c.args.partial.now.top.items in
    (steps.found_continue old c.args.partial.now.top.items c.args.partial.now.body.items c.args.piece.now c.args.head _ c.requires.found c.requires.body c.if-expects.true).1

pub returns-in_default : goal.returns-in_default
returns-in_default c =
    let old = take c.args.before c.args.partial.now.top.items in
    let used = sym (ap (λ (n : ℕ). n - c.args.before) c.size.ensures) in
    let fed = c.feed_body-fed.result in
    let new = c.feed_body-fed.new.partial in
    let both = steps.found_moves old c.args.partial.now.top.items c.args.partial.now.body.items c.args.piece.now c.args.head (c.size.result - c.args.before) fed.used fed.got new.top.items new.head new.body.items
    (subst (λ (n : ℕ). FoundHead old c.args.partial.now.top.items c.args.piece.now c.args.head n) used c.requires.found) c.requires.body c.if-expects.false (subst (λ (l : List ℕ). AddsBody c.args.partial.now.top.items c.args.head c.args.partial.now.body.items l fed.used fed.got new.top.items new.head new.body.items) c.rest_of.ensures c.feed_body-fed.ensures.moves) c.in_default.not-Memory in
    record {
      moves = both.0;
      keeps = both.1;
      used = grind (arith, c.feed_body-fed.ensures.used, ap (λ (l : List ℕ). length l) c.rest_of.ensures, length-drop, c.requires.found.within, used);
    }
