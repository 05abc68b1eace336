use Rattle.std.proofs.Common.{ℕ, ◌∙◌, ap, sym, arith, List, [], ◌∷◌, ◌++◌, take, map, subst}
use Rattle.std.specs.Prelude.{flat_map}
use Rattle.std.proofs.lemmas.List.{take_all, take_more, flat_map_more}
use Rattle.http_wire.specs.Stream.{Given}
use Rattle.http_wire.specs.State.{given, Told, GivesAll}
use Rattle.http_wire.proofs.Told as told
use Rattle.http_wire.proofs.stream.decode.Goals as goal

pub pieces-init : goal.pieces-init
pieces-init c =
    subst (λ (l : List Given). Told [] l c.in_ok-reader.reader.held c.in_ok-reader.reader.stop) (sym (ap (map given) c.new-items.ensures.items))
    c.in_ok-reader.ensures.told

pub pieces-preserved : goal.pieces-preserved
pieces-preserved c =
    let ps = c.args.pieces.now in
    let i = c.pieces.piece-index in
    let x = c.piece-item.result in
    let items = map given c.feed_all.new.items.items in
    let front = flat_map (λ piece. piece.items) (take i ps) in
    let step = take_more ps i x c.pieces-test.true ∙ ap (λ y. take i ps ++ y ∷ []) (sym c.piece-item.is) in
    let grow = ap (λ (l : List ℕ). front ++ l) c.as_slice.ensures.value ∙ (flat_map_more (λ piece. piece.items) [] (take i ps) x ∙ ap (λ l. flat_map (λ piece. piece.items) l) (sym step)) in
    subst (λ (l : List ℕ). Told l items c.feed_all.new.reader.held c.feed_all.new.reader.stop) grow
    (c.in_ok-feed_all.ensures front c.pieces.invariant)

pub returns-clause-found : goal.returns-clause-found
returns-clause-found c =
    let stream = flat_map (λ piece. piece.items) c.args.pieces.now in
    let items = map given c.pieces.items.items in
    let all = take_all c.pieces.piece-index c.args.pieces.now (omega (arith, c.pieces-test.false)) in
    subst (λ r. GivesAll stream items r) (sym c.refused-refused.ensures)
    (told.gives_all stream items c.pieces.reader.held c.pieces.reader.stop
    (subst (λ ps. Told (flat_map (λ piece. piece.items) ps) items c.pieces.reader.held c.pieces.reader.stop) all c.pieces.invariant))

pub returns-clause-only : goal.returns-clause-only
returns-clause-only c = told.gives_only _ _ _ (returns-clause-found c)
