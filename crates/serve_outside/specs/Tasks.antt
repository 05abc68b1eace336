-- What is known of a job that was started.
use Rattle.serve_outside.specs.declared.job.Task.{Task}
use Rattle.serve_outside.specs.declared.job.Task.TheVariants.{Ended, Running}

module _ {P D : Type 0} where
  -- the note of the task's job
  abbrev pub note_of : Task P D → P
  note_of (Ended note done) = note
  note_of (Running handle told) = handle.promise

  -- what an ended job gave keeps its note; what a running one gives will, as its thread promises
  abbrev pub IsKept : (P → D → Type 0) → Task P D → Type 0
  IsKept kept (Ended note done) = kept note done
  IsKept kept (Running handle told) = Unit {0}
