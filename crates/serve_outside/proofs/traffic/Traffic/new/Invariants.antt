use Rattle.serve_outside.specs.Traffic.{unseen}
use Rattle.serve_outside.proofs.traffic.Traffic.new.Given as goal

abbrev pub ghost-of : goal.ghost-of
ghost-of a = unseen
