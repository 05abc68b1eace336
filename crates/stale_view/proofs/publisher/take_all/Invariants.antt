use Rattle.std.proofs.Common.{◌≡◌, length, ◌-◌, drop}
use mathlib.Core.List.{IsPrefix}
use Rattle.cat_model.specs.Log.{commands_of}
use Rattle.stale_view.specs.Sides.{all_of}
use Rattle.stale_view.proofs.publisher.take_all.Given as goal

abbrev pub invariant-loop-taken : goal.invariant-loop-taken
invariant-loop-taken g l = record {
  desk : l.writer.desk ≡ l.initial.writer.desk;
  count : l.taken ≡ length (all_of l.writer.desk.shown.value (drop l.writer.behind l.writer.log.items));
  front : IsPrefix (all_of l.initial.writer.desk.shown.value (drop l.initial.writer.behind l.initial.writer.log.items)) (commands_of l.log)
      → IsPrefix (all_of l.writer.desk.shown.value (drop l.writer.behind l.writer.log.items)) (commands_of l.log);
  grown : IsPrefix (all_of l.initial.writer.desk.shown.value (drop l.initial.writer.behind l.initial.writer.log.items)) (all_of l.writer.desk.shown.value (drop l.writer.behind l.writer.log.items));
  whole : l.front.list ≡ all_of l.writer.desk.shown.value (drop l.writer.behind l.writer.log.items);
  book : l.front.book ≡ l.initial.front.book;
}

abbrev pub decreases-loop-taken : goal.decreases-loop-taken
decreases-loop-taken g l = length l.log - l.taken
