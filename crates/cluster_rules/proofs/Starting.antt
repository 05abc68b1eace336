-- Beginnings. Servers with empty stores are a start, and so are those with stores such as an earlier run left.
use Rattle.std.proofs.Common.{◌≡◌, ℕ, zero, suc, ◌<◌, ◌≤◌, inl, inr, List, [], ◌∷◌, length, replicate, refl, sym, ◌∙◌, ap, subst, arith, None}
use Rattle.std.proofs.lemmas.List.{length-replicate}
use Rattle.raft_model.specs.Node.{Node, Store}
use Rattle.raft_model.specs.Runs.{empty_store, fresh, fresh_nodes}
use Rattle.raft_model.specs.World.{AreEmpty, StartAll, nothing_kept}
use Rattle.cluster_rules.specs.Cluster.{Cluster, no_server, started}
use Rattle.cluster_rules.specs.Reached.{AreUnarmed, IsBegun, IsStart, MayBegin}

empty_stores : (n : ℕ) → AreEmpty (replicate n empty_store)
empty_stores zero = tt
empty_stores (suc n) = (refl, empty_stores n)

unarmed_stores : (n : ℕ) → AreUnarmed (replicate n empty_store)
unarmed_stores zero = tt
unarmed_stores (suc n) = (refl, unarmed_stores n)

fresh_starts : (servers id n : ℕ) → StartAll servers id (replicate n empty_store) (fresh_nodes servers id n)
fresh_starts servers id zero = tt
fresh_starts servers id (suc n) =
    ((nothing_kept, record { unarmed = λ q. absurd (omega arith); armed = refl; faults = omega arith; contents = refl; sure = refl }, inr refl, refl), fresh_starts servers (suc id) n)

pub fresh_start : (servers agents : ℕ) → 0 < servers → servers ≤ 7 → agents ≤ 64 → IsStart (started (fresh servers) agents)
unfolding fresh
fresh_start servers agents some few under =
    let ln : length (replicate servers empty_store) ≡ servers = length-replicate servers empty_store in
    record {
      stores = replicate servers empty_store;
      world = fresh servers;
      agents = agents;
      some = (omega (arith, ln), omega (arith, ln));
      few = under;
      unarmed = unarmed_stores servers;
      begins = record {
        nodes = subst (λ z. StartAll z 1 (replicate servers empty_store) (fresh_nodes servers 1 servers)) (sym ln) (fresh_starts servers 1 servers);
        clocks = ap (λ z. replicate z 0) (sym ln);
        contacts = ap (λ z. replicate z None) (sym ln);
        bag = refl;
        greatest = refl;
        agreed = refl;
      };
      kept = inl (empty_stores servers);
      is = refl;
    }

pub begun_of : (c : Cluster) (s : IsStart c) → IsBegun s.stores c
begun_of c s = record { world = s.world; agents = s.agents; some = s.some; few = s.few; unarmed = s.unarmed; begins = s.begins; is = s.is }

pub kept_start : (stores : List Store) (c : Cluster) → IsBegun stores c → MayBegin stores → IsStart c
kept_start stores c s kept = record { stores = stores; world = s.world; agents = s.agents; some = s.some; few = s.few; unarmed = s.unarmed; begins = s.begins; kept = kept; is = s.is }

-- a server for each store
node_each : (servers id : ℕ) (stores : List Store) (nodes : List Node) → StartAll servers id stores nodes → length nodes ≡ length stores
node_each servers id [] [] s = refl
node_each servers id [] (n ∷ nodes) s = absurd s
node_each servers id (x ∷ stores) [] s = absurd s
node_each servers id (x ∷ stores) (n ∷ nodes) s = ap suc (node_each servers (suc id) stores nodes s.1)

pub begun_servers : (stores : List Store) (c : Cluster) → IsBegun stores c → length c.servers ≡ length stores
begun_servers stores c s = ap (λ (z : Cluster). length z.servers) s.is ∙ length-replicate (length s.world.nodes) no_server ∙ node_each (length stores) 1 stores s.world.nodes s.begins.nodes
