use Rattle.std.proofs.Common.{◌∙◌, ap}
use Rattle.cluster_works.specs.Looking.{is_early}
use Rattle.cluster_works.proofs.Slots.{found_there, slot_request}
use Rattle.cluster_works.proofs.early.first_early.Goals as goal

pub returns-in-Some : goal.returns-in-Some
returns-in-Some g c = c.pending.ensures ∙ ap slot_request c.in-Some.ensures ∙ found_there (is_early c.args.servers.now c.args.server) c.args.slots.now

pub returns-in-None : goal.returns-in-None
returns-in-None g c = ap slot_request c.in-None.ensures ∙ found_there (is_early c.args.servers.now c.args.server) c.args.slots.now
