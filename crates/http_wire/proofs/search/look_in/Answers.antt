use Rattle.std.proofs.Common.{◌<◌, ℕ, ◌∙◌, ap, sym, refl, arith, List, take, subst, ◌++◌}
use Rattle.httparse.specs.Grammar.{NeverHasRequest}
use Rattle.httparse.specs.Spans.{IsRequestOf}
use Rattle.httparse.specs.declared.spans.HeaderSpan.{HeaderSpan}
use Rattle.http_wire.specs.Head.{judged}
use Rattle.http_wire.proofs.Exits as exits
use Rattle.http_wire.proofs.search.look_in.Goals as goal

pub read_head-requires : goal.read_head-requires
read_head-requires c =
    record { short = exits.front_size (c.args.top.now.items ++ c.args.piece.now) _ (c.as_slice.ensures.value ∙ c.fill_front.ensures (grind (arith, c.if-not-fill_front.false))) }

pub returns-in-Bad : goal.returns-in-Bad
returns-in-Bad c =
    let old = c.args.top.now.items in
    let piece = c.args.piece.now in
    let top = c.fill_front.ensures (grind (arith, c.if-not-fill_front.false)) in
    let buf = c.as_slice.ensures.value ∙ top in (
      c.cut_back.ensures ∙ (ap (λ (n : ℕ). take n c.fill_front.new.top.items) c.size-before.ensures ∙ exits.back old piece _ c.requires.start.1 top),
      exits.bad old piece _ buf (c.in-Bad.ensures.bad refl),
    )

pub returns-then-size-lt-HEAD_BYTES : goal.returns-then-size-lt-HEAD_BYTES
returns-then-size-lt-HEAD_BYTES c =
    let top = c.fill_front.ensures (grind (arith, c.if-not-fill_front.false)) in
    let same = sym c.as_slice.ensures.value in
    exits.more c.args.top.now.items c.args.piece.now c.fill_front.new.top.items top
    (subst exits.HasNone c.as_slice.ensures.value (c.in-More.ensures.more refl))
    (λ never. (c.in-More.ensures.may refl (subst (λ (l : List ℕ). NeverHasRequest (judged l)) same never)))
    (subst (λ (n : ℕ). n < 16384) c.size.ensures c.if-size-lt-HEAD_BYTES.true)

pub returns-else-size-lt-HEAD_BYTES : goal.returns-else-size-lt-HEAD_BYTES
returns-else-size-lt-HEAD_BYTES c =
    let old = c.args.top.now.items in
    let piece = c.args.piece.now in
    let top = c.fill_front.ensures (grind (arith, c.if-not-fill_front.false)) in
    let same = sym c.as_slice.ensures.value in (
      c.cut_back-else-size-lt-HEAD_BYTES.ensures ∙ (ap (λ (n : ℕ). take n c.fill_front.new.top.items) c.size-before.ensures ∙ exits.back old piece _ c.requires.start.1 top),
      exits.long old piece c.fill_front.new.top.items top
          (subst exits.HasNone c.as_slice.ensures.value (c.in-More.ensures.more refl))
          (λ never. (c.in-More.ensures.may refl (subst (λ (l : List ℕ). NeverHasRequest (judged l)) same never)))
          (omega (arith, c.size.ensures, c.if-size-lt-HEAD_BYTES.false)),
    )

pub returns-in-Fine : goal.returns-in-Fine
returns-in-Fine c =
    let old = c.args.top.now.items in
    let piece = c.args.piece.now in
    let top = c.fill_front.ensures (grind (arith, c.if-not-fill_front.false)) in
    let same = c.as_slice.ensures.value ∙ sym c.as_slice-in-Head.ensures.value in
    let headers = c.as_slice-in-Head-2.result.now in
    let of = subst (λ (hs : List HeaderSpan). IsRequestOf c.as_slice.result.now hs c.in-Head.head) (sym c.as_slice-in-Head-2.ensures.value) c.in-Head.ensures.head.1 in
    exits.head_found old piece c.as_slice-in-Head.result.now c.cut_back-in-Fine.new.top.items headers c.in-Head.head c.in-Fine.found c.requires.start
    (c.as_slice-in-Head.ensures.value ∙ top)
    (subst (λ (l : List ℕ). IsRequestOf l headers c.in-Head.head) same of)
    c.in-Fine.ensures
    (c.cut_back-in-Fine.ensures ∙ ap (take c.in-Head.head.len) (sym c.as_slice-in-Head.ensures.value))

pub returns-in-Refused : goal.returns-in-Refused
returns-in-Refused c =
    let old = c.args.top.now.items in
    let piece = c.args.piece.now in
    let top = c.fill_front.ensures (grind (arith, c.if-not-fill_front.false)) in
    let same = c.as_slice.ensures.value ∙ sym c.as_slice-in-Head.ensures.value in
    let headers = c.as_slice-in-Head-2.result.now in
    let of = subst (λ (hs : List HeaderSpan). IsRequestOf c.as_slice.result.now hs c.in-Head.head) (sym c.as_slice-in-Head-2.ensures.value) c.in-Head.ensures.head.1 in (
      c.cut_back-in-Refused.ensures ∙ (ap (λ (n : ℕ). take n c.fill_front.new.top.items) c.size-before.ensures ∙ exits.back old piece _ c.requires.start.1 top),
      exits.head_refused old piece c.as_slice-in-Head.result.now headers c.in-Head.head c.in-Refused.rejection
          (c.as_slice-in-Head.ensures.value ∙ top)
          (subst (λ (l : List ℕ). IsRequestOf l headers c.in-Head.head) same of)
          c.in-Refused.ensures,
    )
