use Rattle.serve_outside.specs.Traffic.{after_write}
use Rattle.serve_outside.proofs.traffic.Traffic.written.Given as goal

abbrev pub ghost-of : goal.ghost-of
ghost-of a = after_write a.shown.now.1.value.now a.shown.now.0.value.seen
