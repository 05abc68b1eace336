use Rattle.serve_outside.specs.Traffic.{after_read}
use Rattle.serve_outside.proofs.traffic.Traffic.read.Given as goal

abbrev pub ghost-of : goal.ghost-of
ghost-of a = after_read a.shown.now.1.value.now a.shown.now.0.value.seen
