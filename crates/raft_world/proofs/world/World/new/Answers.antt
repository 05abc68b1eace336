use Rattle.std.proofs.Common.{arith, ap, length, map, subst, sym, ◌∙◌}
use Rattle.std.proofs.lemmas.List.{length-map}
use Rattle.raft_model.specs.Node.{Store}
use Rattle.raft_model.specs.World.{StartAll}
use Rattle.raft_node.specs.Steps.{stored}
use Rattle.raft_world.specs.Starting.{Stops}
use Rattle.raft_world.specs.Worlds.{IsWorld}
use Rattle.raft_world.specs.declared.agreed.Agreed.TheVariants.{Kept}
use Rattle.raft_world.proofs.Beginning.{first_is, handed_back, stopped_length, untouched}
use Rattle.raft_world.proofs.world.World.new.Goals as goal

pub returns-in_default-clause-back : goal.returns-in_default-clause-back
returns-in_default-clause-back g c = untouched _

pub invariant_of-result : goal.invariant_of-result
invariant_of-result g c =
    let st : g.row.K.Denot → Store = λ k. stored (g.K.Keeper.held k) (g.K.Keeper.armed k) (g.K.Keeper.faults k) (g.K.Keeper.sure k) in
    let room = c.in-Ok.room in
    let start : StartAll c.len-servers.result 1 (map st c.args.keepers) c.begin.new.nodes.items = subst (λ z. StartAll c.len-servers.result 1 (map st z) c.begin.new.nodes.items) c.into_vec-waiting.ensures c.in-Ok-begin.ensures.ok in
    subst (λ z. IsWorld c.begin.new.nodes.items room.clocks.items room.contacts.items room.bag.packets (Kept z)) (sym c.new.ensures)
    (first_is c.len-servers.result (map st c.args.keepers) c.begin.new.nodes.items room.clocks.items room.contacts.items room.bag (omega (arith, c.requires.few, c.len-servers.ensures)) (length-map c.args.keepers st ∙ sym c.len-servers.ensures) start
    c.in-Ok.ensures.clocks c.in-Ok.ensures.contacts c.in-Ok.ensures.bag)

pub given_back-requires-clause-room : goal.given_back-requires-clause-room
given_back-requires-clause-room g c =
    let st : g.row.K.Denot → Store = λ k. stored (g.K.Keeper.held k) (g.K.Keeper.armed k) (g.K.Keeper.faults k) (g.K.Keeper.sure k) in
    let whole = stopped_length st c.len-servers.result c.into_vec-waiting.result.items c.begin.new.waiting.items c.begin.new.nodes.items c.in-Err.fail (st c.in-Err.keeper) c.in-Err.ensures.err in
    omega (arith, whole, c.in-Ok.ensures.back.1, ap length c.into_vec-waiting.ensures, c.len-servers.ensures)

pub returns-in-Err-clause-back : goal.returns-in-Err-clause-back
returns-in-Err-clause-back g c =
    let st : g.row.K.Denot → Store = λ k. stored (g.K.Keeper.held k) (g.K.Keeper.armed k) (g.K.Keeper.faults k) (g.K.Keeper.sure k) in
    handed_back c.len-servers.result (map st c.args.keepers) c.begin.new.nodes.items c.in-Err.fail (st c.in-Err.keeper) (map st c.begin.new.waiting.items) (map st c.given_back.result)
    (subst (λ z. Stops c.len-servers.result (map st z) c.begin.new.nodes.items c.in-Err.fail (st c.in-Err.keeper) (map st c.begin.new.waiting.items)) c.into_vec-waiting.ensures c.in-Err.ensures.err) c.given_back.ensures
