-- What operations make of a copy.
use Rattle.std.proofs.Common.{◌≡◌, List, [], ◌∷◌, ◌++◌, fold, refl, sym, subst, ◌∙◌, ap, append_assoc}
use Rattle.std.proofs.lemmas.List.{append-nil}
use Rattle.cat_model.specs.declared.command.Command.{Command}
use Rattle.stale_view.specs.declared.side.Side.{Side}
use Rattle.stale_view.specs.declared.side.Op.{Op}
use Rattle.stale_view.specs.declared.side.Op.TheVariants.{Apply, Stamp}
use Rattle.stale_view.specs.History.{Beginning}
use Rattle.stale_view.specs.Sides.{Stands, after_op, applied_by, all_of}

-- the commands that they apply stand behind those that stood there
pub fold_store : (s : Side) (ops : List Op) → (fold after_op s ops).store ≡ all_of s ops
fold_store s [] = sym (append-nil s.store)
fold_store s (Apply command ∷ ops) = fold_store (after_op s (Apply command)) ops ∙ append_assoc s.store (command ∷ []) (applied_by ops)
fold_store s (Stamp front ∷ ops) = fold_store (after_op s (Stamp front)) ops

pub applied_more : (ops more : List Op) → applied_by (ops ++ more) ≡ applied_by ops ++ applied_by more
applied_more [] more = refl
applied_more (Apply command ∷ ops) more = ap (λ (l : List Command). command ∷ l) (applied_more ops more)
applied_more (Stamp front ∷ ops) more = applied_more ops more

pub fold_more : (s : Side) (ops : List Op) (op : Op) → fold after_op s (ops ++ op ∷ []) ≡ after_op (fold after_op s ops) op
fold_more s [] op = refl
fold_more s (o ∷ ops) op = fold_more (after_op s o) ops op

pub all_with_command : (s : Side) (ops : List Op) (command : Command) → all_of s (ops ++ Apply command ∷ []) ≡ all_of s ops ++ command ∷ []
all_with_command s ops command = ap (λ (l : List Command). s.store ++ l) (applied_more ops (Apply command ∷ [])) ∙ sym (append_assoc s.store (applied_by ops) (command ∷ []))

pub all_with_stamp : (s : Side) (ops : List Op) (front : Beginning) → all_of s (ops ++ Stamp front ∷ []) ≡ all_of s ops
all_with_stamp s ops front = ap (λ (l : List Command). s.store ++ l) (applied_more ops (Stamp front ∷ []) ∙ append-nil (applied_by ops))

-- behind a stamp that tells all its commands a copy stands for them
pub stamped : (s : Side) (ops : List Op) (front : Beginning) → front.list ≡ all_of s ops → Stands front.book (fold after_op s (ops ++ Stamp front ∷ []))
stamped s ops front whole = subst (Stands front.book) (sym (fold_more s ops (Stamp front))) (record { list = whole ∙ sym (fold_store s ops); of = refl })
