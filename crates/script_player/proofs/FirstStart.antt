-- A cluster that began over empty stores in memory is one of a first run.
use Rattle.std.proofs.Common.{◌≡◌, ℕ, suc, ◌<◌, ◌≤◌, Bool, true, List, [], ◌∷◌, length, map, replicate, Some, refl, sym, ap, ◌∙◌, subst, arith}
use Rattle.std.specs.Prelude.{All}
use Rattle.std.specs.Option.{ForSome}
use Rattle.std.proofs.lemmas.List.{length-map, length-replicate}
use Rattle.std.proofs.lemmas.List.Elements.{All-tail}
use Rattle.cat_model.specs.Keeping.{nothing_kept}
use Rattle.outside.specs.KeepersInMemory.{FaultyKeeper, empty_store, is_sure}
use Rattle.raft_model.specs.Node.{Node, Store}
use Rattle.raft_model.specs.World.{AreEmpty, StartAll}
use Rattle.cluster_interface.specs.Starting.{KeepsLimits, store_of}
use Rattle.cluster_rules.specs.Cluster.{Cluster, no_server}
use Rattle.cluster_rules.specs.Reached.{AreSure, IsBegun}
use Rattle.run_rules.specs.Holds.{IsFirstStart}

abbrev pub in_memory : FaultyKeeper → Store
in_memory k = store_of (Some k.kept) k.armed k.faults (is_sure k)

abbrev IsEmptyStore : FaultyKeeper → Type 0
IsEmptyStore k = k ≡ empty_store

all_empty : (ks : List FaultyKeeper) → All (λ k. k ≡ empty_store) ks → AreEmpty (map in_memory ks)
all_empty [] each = tt
all_empty (k ∷ ks) each = (ap (λ (z : FaultyKeeper). Some z.kept) (each 0 k (omega arith)), all_empty ks (All-tail IsEmptyStore k ks each))

all_sure : (ks : List FaultyKeeper) → All (λ k. k ≡ empty_store) ks → AreSure (map in_memory ks)
all_sure [] each = tt
all_sure (k ∷ ks) each = (ap is_sure (each 0 k (omega arith)), all_sure ks (All-tail IsEmptyStore k ks each))

pub first : (ks : List FaultyKeeper) (c : Cluster) → All (λ k. k ≡ empty_store) ks → IsBegun (map in_memory ks) c → IsFirstStart c
first ks c each b = record {
  stores = map in_memory ks;
  world = b.world;
  agents = b.agents;
  some = b.some;
  few = b.few;
  unarmed = b.unarmed;
  sure = all_sure ks each;
  empty = all_empty ks each;
  begins = b.begins;
  is = b.is;
}

start_length : (servers id : ℕ) (ss : List Store) (ns : List Node) → StartAll servers id ss ns → length ns ≡ length ss
start_length servers id [] [] b = refl
start_length servers id [] (n ∷ ns) b = absurd b
start_length servers id (s ∷ ss) [] b = absurd b
start_length servers id (s ∷ ss) (n ∷ ns) b = ap suc (start_length servers (suc id) ss ns b.1)

pub as_many : (ks : List FaultyKeeper) (c : Cluster) (count : ℕ) → length ks ≡ count → IsBegun (map in_memory ks) c → length c.servers ≡ count
as_many ks c count size b =
    ap (λ (z : Cluster). length z.servers) b.is ∙ (length-replicate (length b.world.nodes) no_server ∙ (start_length (length (map in_memory ks)) 1 (map in_memory ks) b.world.nodes b.begins.nodes ∙ (length-map ks in_memory ∙ size)))

pub unarmed : (ks : List FaultyKeeper) → All (λ k. k ≡ empty_store) ks → All (λ k. k.armed ≡ 0) ks
unarmed ks each = λ i d within. ap (λ (z : FaultyKeeper). z.armed) (each i d within)

empty_limited : ForSome (Some nothing_kept) KeepsLimits
empty_limited = λ x is. let e : nothing_kept ≡ x = cc is in subst KeepsLimits e refl

pub limited : (ks : List FaultyKeeper) → All (λ k. k ≡ empty_store) ks → All (λ k. ForSome (Some k.kept) KeepsLimits) ks
limited ks each = λ i d within. subst (λ (z : FaultyKeeper). ForSome (Some z.kept) KeepsLimits) (sym (each i d within)) empty_limited
