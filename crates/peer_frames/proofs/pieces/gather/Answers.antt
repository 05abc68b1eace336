use Rattle.std.proofs.Common.{◌≡◌, ◌≤◌, ◌-◌, ◌++◌, ℕ, List, length, take, min, sym, ap, subst, ◌∙◌}
use Rattle.peer_frames.specs.declared.lengths.Length.{Length}
use Rattle.peer_frames.specs.declared.lengths.Length.TheVariants.{Whole}
use Rattle.peer_frames.specs.Fronts.{TellsLength, IsWholeLength}
use Rattle.peer_frames.proofs.Filling.{few_then, body_fits, gathers_head, gathers_body, tail_is}
use Rattle.peer_frames.proofs.pieces.gather.Goals as goal

pub read_length-requires : goal.read_length-requires
read_length-requires c =
    subst (λ (s : List ℕ). length s ≤ 4) (sym c.as_slice.ensures.value)
    (few_then c.args.head.now.items c.args.body.now.items c.args.piece.now c.requires.held c.requires.more c.fill.new.bytes.items c.in_ok-first.first c.in_ok-first.ensures.added c.in_ok-first.ensures.used)

pub returns-in_ok-second-in-Whole : goal.returns-in_ok-second-in-Whole
returns-in_ok-second-in-Whole c =
    gathers_body c.args.head.now.items c.args.body.now.items c.args.piece.now c.requires.held c.requires.more c.fill.new.bytes.items c.in_ok-first.first c.in_ok-first.ensures.added c.in_ok-first.ensures.used
    c.in-Whole.size (subst (λ (s : List ℕ). IsWholeLength c.in-Whole.size s) c.as_slice.ensures.value c.in-Whole.ensures)
    c.fill-in-Whole.new.bytes.items c.in_ok-second-in-Whole.second
    (c.in_ok-second-in-Whole.ensures.added ∙ ap (λ (l : List ℕ). c.args.body.now.items ++ take c.in_ok-second-in-Whole.second l) (tail_is c.in_ok-first.first c.args.piece.now))
    (c.in_ok-second-in-Whole.ensures.used ∙ ap (λ (l : List ℕ). min (c.in-Whole.size - length c.args.body.now.items) (length l)) (tail_is c.in_ok-first.first c.args.piece.now))

pub returns-in_default : goal.returns-in_default
returns-in_default c =
    gathers_head c.args.head.now.items c.args.body.now.items c.args.piece.now c.requires.held c.requires.more c.fill.new.bytes.items c.in_ok-first.first c.in_ok-first.ensures.added c.in_ok-first.ensures.used
    c.read_length.result (subst (λ (s : List ℕ). TellsLength s c.read_length.result) c.as_slice.ensures.value c.read_length.ensures) (λ n e. c.in_default.not-Whole n e)
