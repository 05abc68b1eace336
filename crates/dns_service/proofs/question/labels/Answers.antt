use Rattle.std.proofs.Common.{◌≡◌, ◌∷◌, take, arith}
use Rattle.std.proofs.lemmas.Grind.{common_steps}
use Rattle.dns_service.proofs.Lengths.{ends_unread, ends_early, ends, is_long, is_cut, goes_on, behind_within}
use Rattle.dns_service.proofs.question.labels.Goals as goal

pub returns-in_default-clause-read : goal.returns-in_default-clause-read
returns-in_default-clause-read c =
    ends_early c.loop-left.left c.loop-left.found.items c.loop-left.rest.now _ c.loop-left.invariant.told c.in_default.ensures.cases

pub returns-then-size-eq0-clause-read : goal.returns-then-size-eq0-clause-read
returns-then-size-eq0-clause-read c =
    let first : c.loop-left.rest.now ≡ c.from-size.result ∷ c.in-Some.more.now = cc (c.in-Some.ensures.cases.0, c.from-size.ensures) in
    ends c.loop-left.left c.loop-left.found.items c.loop-left.rest.now _ c.loop-left.invariant.told c.from-size.result c.in-Some.more.now first
    c.from.result c.loop-left-test.true c.if-size-eq0.true c.from.ensures

pub returns-then-size-gt63-clause-read : goal.returns-then-size-gt63-clause-read
returns-then-size-gt63-clause-read c =
    let first : c.loop-left.rest.now ≡ c.from-size.result ∷ c.in-Some.more.now = cc (c.in-Some.ensures.cases.0, c.from-size.ensures) in
    is_long c.loop-left.left c.loop-left.found.items c.loop-left.rest.now _ c.loop-left.invariant.told c.from-size.result c.in-Some.more.now first
    (omega arith)

pub returns-then-more-size-clause-read : goal.returns-then-more-size-clause-read
returns-then-more-size-clause-read c =
    let first : c.loop-left.rest.now ≡ c.from-size.result ∷ c.in-Some.more.now = cc (c.in-Some.ensures.cases.0, c.from-size.ensures) in
    is_cut c.loop-left.left c.loop-left.found.items c.loop-left.rest.now _ c.loop-left.invariant.told c.from-size.result c.in-Some.more.now first
    (omega arith) (omega arith) (omega arith)

pub loop-left-preserved : goal.loop-left-preserved
loop-left-preserved c =
    let first : c.loop-left.rest.now ≡ c.from-size.result ∷ c.in-Some.more.now = cc (c.in-Some.ensures.cases.0, c.from-size.ensures) in
    let label : c.in_ok-new.field-0 ≡ take c.from-size.result c.in-Some.more.now = grind (arith, common_steps, c.in_ok-new.ensures) in
    let labels : c.insert.new.self.items ≡ c.in_ok-new.field-0 ∷ c.loop-left.found.items = grind (arith, common_steps, c.in_ok-insert.ensures.items) in
    record {
      told = goes_on c.loop-left.left c.loop-left.found.items c.loop-left.rest.now _ c.loop-left.invariant.told c.from-size.result c.in-Some.more.now first
          c.insert.new.self.items c.in_ok-new.field-0 c.loop-left-test.true (omega arith) (omega arith) (omega arith) label labels;
      within = omega (arith, behind_within c.in-Some.more.now c.from-size.result, c.in-Some.ensures.cases.1, c.loop-left.invariant.within);
    }

pub returns-clause-read : goal.returns-clause-read
returns-clause-read c =
    ends_unread c.loop-left.left c.loop-left.found.items c.loop-left.rest.now _ c.loop-left.invariant.told (omega arith)
