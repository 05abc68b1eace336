-- The moves that marks name.
use Rattle.std.proofs.Common.{◌≡◌, List, [], ◌∷◌, ◌++◌}
use Rattle.cat_model.specs.declared.reply.Mark.{Mark}
use Rattle.cat_model.specs.declared.reply.Mark.TheVariants as mark
use Rattle.cluster_rules.specs.Reached.{moves_of}

-- marks that name no move, behind others that name none
pub quiet_append : (xs ys : List Mark) → moves_of xs ≡ [] → moves_of ys ≡ [] → moves_of (xs ++ ys) ≡ []
quiet_append [] ys e f = f
quiet_append (mark.Asked number agent asked draw ∷ xs) ys e f = cc e
quiet_append (mark.Made made ∷ xs) ys e f = cc e
quiet_append (mark.Taken number ∷ xs) ys e f = cc e
quiet_append (mark.Settled pairs whole ∷ xs) ys e f = cc e
quiet_append (mark.Advanced ms made ∷ xs) ys e f = cc e
quiet_append (mark.Halted server ∷ xs) ys e f = quiet_append xs ys e f
quiet_append (mark.Entry entry ∷ xs) ys e f = quiet_append xs ys e f
quiet_append (mark.Answered number kind known contact ∷ xs) ys e f = quiet_append xs ys e f
