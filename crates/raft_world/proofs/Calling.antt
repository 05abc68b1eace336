-- What a call of the world owes where a node has made a step.
use Rattle.std.proofs.Common.{◌≡◌, ℕ, suc, ◌+◌, ◌<◌, cond, inl, inr, min, length, take, drop, set, get_or, List, ◌++◌, Option, Some, Result, Ok, Err, OnErr, sym, ap, ◌∙◌, subst, arith, add-one}
use Rattle.std.proofs.lemmas.List.{get_or-set_same, length-set, take-append-le, take_all}
use Rattle.raft_model.specs.declared.message.Sent.{Sent}
use Rattle.raft_model.specs.Node.{Node}
use Rattle.raft_model.specs.Rules.{Input}
use Rattle.raft_model.specs.Step.{NodeStep, Works}
use Rattle.raft_model.specs.World.{World, Packet, numbered, Bag, Move, WorldStep, Acts, Agrees, IsNew, IsReached, posted_all, says_yes, raised}
use Rattle.raft_model.specs.World as world
use Rattle.raft_model.proofs.Theorems.{agrees, grows}
use Rattle.raft_model.proofs.Tests.{at_bool}
use Rattle.raft_node.specs.Steps.{Steps}
use Rattle.raft_node.specs.Steps as node
use Rattle.raft_world.specs.declared.agreed.Agreed.{Agreed}
use Rattle.raft_world.specs.Agreeing.{grown}
use Rattle.raft_world.specs.Steps.{FindsNoMemory, IsNumber, KeepsAgreement, StepsWhole}
use Rattle.raft_world.specs.Worlds.{MayCome}
use Rattle.raft_world.proofs.Eventful.{may_come}
use Rattle.raft_world.proofs.Outgoing.{IsFit, IsPeer}
use Rattle.raft_world.proofs.Stepped.{Is, Parts, acts, finds, makes, noted, step_is, unchanged, with_node, with_step, world_of}

pub on_err : {T E Q : Type 0} (r : Result T E) → Q → OnErr r Q
on_err (Ok x) q = tt
on_err (Err e) q = q

pub by_move : (w w' : World) (move : Move) → WorldStep w move w' → KeepsAgreement w w'
by_move w w' move e = λ r. (world.step move r e, agrees w' (world.step move r e), grows w w' move r e)

pub by_same : (w w' : World) → w' ≡ w → KeepsAgreement w w'
by_same w w' e = subst (KeepsAgreement w) (sym e) (λ r. (r, agrees w r, take_all (length w.agreed) w.agreed (omega arith)))

-- an input's move
pub by_acts : (w w' : World) (move : Move) (i : ℕ) (input : Input) → (Acts w i input w' → WorldStep w move w') → FindsNoMemory w i input w' → KeepsAgreement w w'
by_acts w w' move i input is (inl e) = by_same w w' e
by_acts w w' move i input is (inr a) = by_move w w' move (is a.0)

-- a slice that is written back
written : {A : Type 0} (count : ℕ) (new old : List A) → length new ≡ count → take count (new ++ drop (length new) old) ≡ new
written count new old e = take-append-le count new (drop (length new) old) (omega (arith, e)) ∙ take_all count new (omega (arith, e))

module _ (p : Parts) (is : Is p) (w : World) (view : world_of p ≡ w) (at s : ℕ) (place : at + 1 ≡ s) (number : IsNumber s w) (old new : Node) (here : old ≡ get_or p.nodes at old) where
  pub within : at < length p.nodes
  within = omega (arith, place, number.1, ap (λ (v : World). length v.nodes) view)

  named : suc at ≡ s
  named = sym (add-one at) ∙ place

  pub call_finds : (input : Input) → IsFit old input → IsNew w input → p.greatest ≡ raised input p.greatest → node.FindsNoMemory old input new
      → Is (with_node p at new) × FindsNoMemory w s input (world_of (with_node p at new))
  call_finds input fit fresh up n =
      let r = finds p is at within old new (sym here) input fit (subst (λ v. IsNew v input) (sym view) fresh) up n in
      (r.0, subst (λ v. FindsNoMemory v s input (world_of (with_node p at new))) view (subst (λ k. FindsNoMemory (world_of p) k input (world_of (with_node p at new))) named r.1))

  -- the parts as `settle` leaves them
  pub settled : (nodes : List Node) (clocks : List ℕ) (contacts now : List (Option ℕ)) (count : ℕ) (bag : Bag) (greatest : ℕ) (agreed : Agreed) (sent : List Sent)
      → nodes ≡ set p.nodes at new → clocks ≡ p.clocks → contacts ≡ p.contacts → length contacts ≡ count
      → now ≡ cond (says_yes sent) (set contacts at (Some (get_or clocks at 0))) contacts
      → bag ≡ posted_all (at + 1) sent p.bag
      → ((n : Node) → get_or nodes at n ≡ n → agreed ≡ grown p.agreed at (min n.commit (length n.log)))
      → record { nodes = set p.nodes at new; clocks = p.clocks; contacts = take count (now ++ drop (length now) p.contacts); bag = bag; greatest = greatest; agreed = agreed } ≡ with_step p at new sent greatest
  settled nodes clocks contacts now count bag greatest agreed sent n c k size noted_is bag_is agreed_is =
      let whole : length now ≡ count = ap length noted_is ∙ at_bool (λ b. length (cond b (set contacts at (Some (get_or clocks at 0))) contacts) ≡ count) (says_yes sent) (λ _. length-set contacts at (Some (get_or clocks at 0)) ∙ size) (λ _. size) in
      let contacts_is : take count (now ++ drop (length now) p.contacts) ≡ noted p at sent = written count now p.contacts whole ∙ noted_is ∙ (λ i. cond (says_yes sent) (set (k i) at (Some (get_or (c i) at 0))) (k i)) in
      let there : get_or nodes at new ≡ new = ap (λ x. get_or x at new) n ∙ get_or-set_same p.nodes at new new within in
      λ i. record {
        nodes = set p.nodes at new;
        clocks = p.clocks;
        contacts = contacts_is i;
        bag = (bag_is ∙ ap (λ z. posted_all z sent p.bag) (add-one at)) i;
        greatest = greatest;
        agreed = agreed_is new there i;
      }

  pub call_makes : (q : Parts) (input : Input) (sent : List Sent) → q ≡ with_step p at new sent p.greatest → IsFit old input → IsNew w input → p.greatest ≡ raised input p.greatest → Steps old input new sent
      → Is q × StepsWhole w s input (world_of q)
  call_makes q input sent same fit fresh up steps =
      let r = makes p is at within old new (sym here) input sent fit (subst (λ v. IsNew v input) (sym view) fresh) up steps in (
        subst Is (sym same) r.0,
        subst (λ z. StepsWhole w s input (world_of z)) (sym same) (subst (λ v. StepsWhole v s input (world_of (with_step p at new sent p.greatest))) view (subst (λ k. StepsWhole (world_of p) k input (world_of (with_step p at new sent p.greatest))) named r.1)),
      )

  -- the node is as before
  pub call_same : new ≡ old → Is (with_node p at new) × (world_of (with_node p at new) ≡ w)
  call_same e = let same = unchanged p is at within old new (sym here) e in (subst Is (sym same) is, ap world_of same ∙ view)

  pub call_works : (q : Parts) (input : Input) (sent : List Sent) → q ≡ with_step p at new sent q.greatest → IsFit old input → IsNew w input → q.greatest ≡ raised input p.greatest → NodeStep Works old input new sent
      → Is q × ((a : Acts w s input (world_of q)) × (a.outcome ≡ Works) × (a.old ≡ old) × (a.new ≡ new))
  call_works q input sent same fit fresh up step =
      let r = acts p is at within old new (sym here) Works input sent q.greatest up (subst (λ v. IsNew v input) (sym view) fresh) step in
      let Goal : World → ℕ → World → Type 0 = λ v k v'. (a : Acts v k input v') × (a.outcome ≡ Works) × (a.old ≡ old) × (a.new ≡ new) in (
        subst Is (sym same) (step_is p is at within old new (sym here) Works input sent q.greatest fit step),
        subst (λ z. Goal w s (world_of z)) (sym same) (subst (λ v. Goal v s (world_of (with_step p at new sent q.greatest))) view (subst (λ k. Goal (world_of p) k (world_of (with_step p at new sent q.greatest))) named r)),
      )

-- a message's receiver, and what it must know of the message
pub record IsReceived (p : Parts) (w : World) (k : ℕ) (packet : Packet) : Type 0 where
  pub here : numbered k w.bag.packets ≡ Some packet
  pub number : IsNumber packet.to w
  pub may : MayCome (length p.nodes) packet

pub received : (p : Parts) → Is p → (w : World) → world_of p ≡ w → (k : ℕ) (packet : Packet) → Some packet ≡ numbered k p.bag.packets → IsReceived p w k packet
received p is w view k packet e =
    let may = may_come (length p.nodes) k p.bag.packets packet is.come (sym e) in
    record {
      here = ap (λ (v : World). numbered k v.bag.packets) (sym view) ∙ sym e;
      number = (may.to.0, omega (arith, may.to.1, ap (λ (v : World). length v.nodes) view));
      may = may;
    }

-- the message comes from another server than the node at its receiver's place
pub comes_fit : (p : Parts) → Is p → (packet : Packet) → MayCome (length p.nodes) packet → (at : ℕ) → at + 1 ≡ packet.to → (n : Node) → n ≡ get_or p.nodes at n → IsPeer n.id n.servers packet.from
comes_fit p is packet may at place n here =
    let seat = is.seated at n (omega (arith, place, may.to.1)) (sym here) in
    (may.from.0, omega (arith, may.from.1, seat.servers), λ same. may.other (omega (arith, same, seat.id, place)))
