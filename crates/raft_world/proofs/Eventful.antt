-- What a tick, a loss, an arming and a restart make of a world's parts.
use Rattle.std.proofs.Common.{◌≡◌, ℕ, suc, ◌+◌, ◌<◌, ◌≤◌, cond, true, ◌⊎◌, inl, inr, min, length, set, get_or, List, [], ◌∷◌, Option, Some, None, refl, sym, ap, ◌∙◌, subst, arith, add-one}
use Rattle.std.specs.Prelude.{◌==◌, is_some}
use Rattle.std.proofs.lemmas.List.{get_or_default, length-set}
use Rattle.raft_model.specs.Log.{Log}
use Rattle.raft_model.specs.Node.{Node}
use Rattle.raft_model.specs.Step.{RestartFails, RestartWorks, arms}
use Rattle.raft_model.specs.World.{World, Bag, Packet, Arms, Drops, Restarts, Ticks, WorldStep, IsServer, numbered, without}
use Rattle.raft_model.proofs.Tests.{at_bool}
use Rattle.raft_world.specs.Agreeing.{count_of, left}
use Rattle.raft_world.specs.Fronts.{HasFront}
use Rattle.raft_world.specs.Steps.{IsNumber}
use Rattle.raft_world.specs.Worlds.{AllMayCome, MayCome}
use Rattle.raft_world.proofs.Sharing.{Stays, leaves, log_there, stays, stays_apart}
use Rattle.raft_world.proofs.Stepped.{Is, Parts, seats, with_node, world_of}

-- a node that is there
pub node_at : (nodes : List Node) (at : ℕ) → at < length nodes → (n : Node) × (get_or nodes at n ≡ n)
node_at [] at h = absurd (omega arith)
node_at (p ∷ ps) at h = (get_or (p ∷ ps) at p, get_or_default (p ∷ ps) at (get_or (p ∷ ps) at p) p h)

come_without : (servers k : ℕ) (ps : List Packet) → AllMayCome servers ps → AllMayCome servers (without k ps)
come_without servers k [] a = a
come_without servers k (p ∷ ps) a = at_bool (λ b. AllMayCome servers (cond b ps (p ∷ without k ps))) (p.number == k) (λ _. a.1) (λ _. (a.0, come_without servers k ps a.1))

pub loses_is : (p : Parts) (k last : ℕ) → Is p → Is (record p { bag = record { packets = without k p.bag.packets; last = last } })
loses_is p k last is = record {
  count = is.count;
  has_clocks = is.has_clocks;
  has_contacts = is.has_contacts;
  seated = is.seated;
  come = come_without (length p.nodes) k p.bag.packets is.come;
  stands = is.stands;
}

some_is : (o : Option Packet) → is_some o ≡ true → (x : Packet) × (o ≡ Some x)
some_is None e = absurd (cc e)
some_is (Some x) e = (x, refl)

pub loses : (p : Parts) (w : World) → world_of p ≡ w → (k : ℕ) (bag : Bag) → is_some (numbered k w.bag.packets) ≡ true → bag ≡ record { packets = without k p.bag.packets; last = p.bag.last } → WorldStep w (Drops k) (world_of (record p { bag = bag }))
loses p w view k bag some e =
    let packet = some_is (numbered k w.bag.packets) some in
    (packet.0, packet.1, (λ i. record (world_of p) { bag = e i }) ∙ (λ i. record (view i) { bag = record { packets = without k (view i).bag.packets; last = (view i).bag.last } }))

-- the parts once a node is another that has committed no more
swapped : (p : Parts) → Is p → (at : ℕ) (old new : Node) → at < length p.nodes → get_or p.nodes at old ≡ old → new.id ≡ old.id → new.servers ≡ old.servers → min new.commit (length new.log) ≤ count_of p.agreed → new.commit ≤ length new.log
    → Stays p.agreed p.nodes (set p.nodes at new) → (contacts : List (Option ℕ)) → length contacts ≡ length p.contacts → Is (record (with_node p at new) { contacts = contacts })
swapped p is at old new l here id servers most within kept contacts same =
    let size : length (set p.nodes at new) ≡ length p.nodes = length-set p.nodes at new in
    record {
      count = omega (arith, is.count, size);
      has_clocks = is.has_clocks ∙ sym size;
      has_contacts = same ∙ is.has_contacts ∙ sym size;
      seated = seats p.nodes (count_of p.agreed) (count_of p.agreed) at old new is.seated l here (omega arith) id servers most within;
      come = subst (λ k. AllMayCome k p.bag.packets) (sym size) is.come;
      stands = kept.stands;
    }

-- the parts where the server at a place is to lose its log
abbrev pub parted : Parts → ℕ → Log → Parts
parted p at log = record p { agreed = left p.agreed at log }

pub parted_is : (p : Parts) → Is p → (at : ℕ) (n : Node) → at < length p.nodes → n ≡ get_or p.nodes at n → (log : Log) → log ≡ n.log → Is (parted p at log) × (world_of (parted p at log) ≡ world_of p)
parted_is p is at n l here log same =
    let gone = leaves p.agreed p.nodes at log (same ∙ log_there p.nodes at n l here) is.stands in (
      record {
        count = is.count;
        has_clocks = is.has_clocks;
        has_contacts = is.has_contacts;
        seated = λ j m k e. let was = is.seated j m k e in record { id = was.id; servers = was.servers; committed = omega (arith, was.committed, gone.count); within = was.within };
        come = is.come;
        stands = gone.stands;
      },
      λ i. record (world_of p) { agreed = gone.list i },
    )

module _ (p : Parts) (is : Is p) (w : World) (view : world_of p ≡ w) (at s : ℕ) (place : at + 1 ≡ s) (number : IsNumber s w) where
  there : at < length p.nodes
  there = omega (arith, place, number.1, ap (λ (v : World). length v.nodes) view)

  called : suc at ≡ s
  called = sym (add-one at) ∙ place

  pub server : (n : Node) → n ≡ get_or p.nodes at n → IsServer w s n
  server n here = subst (λ v. IsServer v s n) view (subst (λ k. IsServer (world_of p) k n) called (there, sym here))

  pub ticks : (d now : ℕ) → now ≡ get_or p.clocks at now → WorldStep w (Ticks s d) (world_of (record p { clocks = set p.clocks at (now + d) }))
  ticks d now here =
      let n = node_at p.nodes at there in
      let clock : now ≡ get_or p.clocks at 0 = here ∙ get_or_default p.clocks at now 0 (omega (arith, is.has_clocks, there)) in
      let Goal : World → ℕ → Type 0 = λ v k. WorldStep v (Ticks k d) (world_of (record p { clocks = set p.clocks at (now + d) })) in
      subst (λ v. Goal v s) view (subst (λ k. Goal (world_of p) k) called (n.0, (there, n.1), λ i. record (world_of p) { clocks = set p.clocks at (clock i + d) }))

  pub arms_is : (nth : ℕ) (old new : Node) → old ≡ get_or p.nodes at old → new ≡ arms old nth → Is (with_node p at new) × WorldStep w (Arms s nth) (world_of (with_node p at new))
  arms_is nth old new here e =
      let seat = is.seated at old there (sym here) in
      let kept = stays p.nodes at old new there (sym here) (λ x f. subst (λ (z : Node). HasFront x z) (sym e) f) p.agreed is.stands in
      let most : min new.commit (length new.log) ≤ count_of p.agreed = omega (arith, seat.committed, ap (λ (n : Node). n.commit) e, ap (λ (n : Node). length n.log) e) in
      let within : new.commit ≤ length new.log = omega (arith, seat.within, ap (λ (n : Node). n.commit) e, ap (λ (n : Node). length n.log) e) in
      let Goal : World → ℕ → Type 0 = λ v k. WorldStep v (Arms k nth) (world_of (with_node p at new)) in (
        swapped p is at old new there (sym here) (ap (λ (n : Node). n.id) e) (ap (λ (n : Node). n.servers) e) most within kept p.contacts refl,
        subst (λ v. Goal v s) view (subst (λ k. Goal (world_of p) k) called (old, (there, sym here), λ i. record (world_of p) { nodes = set p.nodes at (e i); agreed = kept.list i })),
      )

  begins_low : (old new : Node) → RestartWorks old new ⊎ RestartFails old new → (new.id ≡ old.id) × (new.servers ≡ old.servers) × (new.commit ≡ 0)
  begins_low old new (inl (kept, call, reads, e)) = (ap (λ (n : Node). n.id) e, ap (λ (n : Node). n.servers) e, ap (λ (n : Node). n.commit) e)
  begins_low old new (inr (call, e)) = (ap (λ (n : Node). n.id) e, ap (λ (n : Node). n.servers) e, ap (λ (n : Node). n.commit) e)

  pub restarts : (old new : Node) (log : Log) → old ≡ get_or p.nodes at old → log ≡ old.log → RestartWorks old new ⊎ RestartFails old new
      → Is (record (with_node (parted p at log) at new) { contacts = set p.contacts at None }) × WorldStep w (Restarts s) (world_of (record (with_node (parted p at log) at new) { contacts = set p.contacts at None }))
  restarts old new log here same begins =
      let low = begins_low old new begins in
      let gone = leaves p.agreed p.nodes at log (same ∙ log_there p.nodes at old there here) is.stands in
      let kept = stays_apart p.nodes at new (left p.agreed at log) gone.apart gone.stands in
      let q = parted_is p is at old there here log same in
      let Goal : World → ℕ → Type 0 = λ v k. WorldStep v (Restarts k) (world_of (record (with_node (parted p at log) at new) { contacts = set p.contacts at None })) in (
        swapped (parted p at log) q.0 at old new there (sym here) low.0 low.1 (omega (arith, low.2)) (omega (arith, low.2)) kept (set p.contacts at None) (length-set p.contacts at None),
        subst (λ v. Goal v s) view (subst (λ k. Goal (world_of p) k) called
            (old, new, (there, sym here), begins, λ i. record (world_of p) { nodes = set p.nodes at new; contacts = set p.contacts at None; agreed = (kept.list ∙ gone.list) i })),
      )

-- a message that is there may come
pub may_come : (servers k : ℕ) (ps : List Packet) (p : Packet) → AllMayCome servers ps → numbered k ps ≡ Some p → MayCome servers p
may_come servers k [] p a e = absurd (cc e)
may_come servers k (q ∷ qs) p a e =
    at_bool (λ b. cond b (Some q) (numbered k qs) ≡ Some p → MayCome servers p) (q.number == k)
    (λ _ f. let same : q ≡ p = cc f in subst (MayCome servers) same a.0) (λ _ f. may_come servers k qs p a.1 f) e
