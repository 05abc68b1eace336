-- The stores that a cluster leaves in which server 1 is ahead are foremost again.
use Rattle.std.proofs.Common.{◌≡◌, ℕ, zero, suc, ◌<◌, ◌≤◌, inl, inr, false, List, [], ◌∷◌, length, get_or, ◌∙◌, arith, Some}
use Rattle.raft_model.specs.Node.{Node, Store}
use Rattle.raft_model.specs.World.{HoldAll, World}
use Rattle.raft_model.proofs.History.{History}
use Rattle.raft_model.proofs.Sound.{Fits, IsSound, kept_of}
use Rattle.raft_model.proofs.Starts.{reached_sound}
use Rattle.raft_model.proofs.Tests.{no_bool}
use Rattle.cluster_rules.specs.Cluster.{Cluster, no_node, node_of}
use Rattle.cluster_rules.specs.Reached.{AreSure, MayBegin}
use Rattle.cluster_rules.proofs.Reached.{run_sound}
use Rattle.cluster_rules.proofs.Starting.{kept_start}
use Rattle.run_rules.specs.Serving.{Serves, Size}
use Rattle.rerun_rules.specs.Leading.{HoldUpTo, IsForemost}
use Rattle.rerun_rules.proofs.Ahead.{IsAhead}
use Rattle.rerun_rules.proofs.Beginning.{start_ahead}
use Rattle.rerun_rules.proofs.Serving.{run_ahead}

-- a running server's store holds its term
pub holds_it : (servers : ℕ) (h : History) (i : ℕ) (n : Node) → Fits servers h i n → n.halted ≡ false → n.store.contents ≡ Some (kept_of n)
holds_it servers h i n (inl x) up = x.0
holds_it servers h i n (inr x) up = absurd (no_bool n.halted x.0 up)

-- each of these servers' stores holds a term up to this one
abbrev AreUnder : ℕ → List Node → Type 0
AreUnder t ns = (j : ℕ) → j < length ns → ((get_or ns j no_node).store.contents ≡ Some (kept_of (get_or ns j no_node))) × ((get_or ns j no_node).term ≤ t)

hold_up : (t : ℕ) (ss : List Store) (ns : List Node) → HoldAll ss ns → AreUnder t ns → HoldUpTo t ss
hold_up t [] [] h f = tt
hold_up t [] (n ∷ ns) h f = absurd h
hold_up t (s ∷ ss) [] h f = absurd h
hold_up t (s ∷ ss) (n ∷ ns) h f = let k = f 0 (omega arith) in ((kept_of n, h.0 ∙ k.0, k.1), hold_up t ss ns h.1 (λ j l. f (suc j) (omega arith)))

hold_foremost : (ss : List Store) (ns : List Node) → HoldAll ss ns → AreUnder (get_or ns 0 no_node).term ns → IsForemost ss
hold_foremost [] [] h f = tt
hold_foremost [] (n ∷ ns) h f = absurd h
hold_foremost (s ∷ ss) [] h f = absurd h
hold_foremost (s ∷ ss) (n ∷ ns) h f = (kept_of n, h.0 ∙ (f 0 (omega arith)).0, hold_up n.term ss ns h.1 (λ j l. f (suc j) (omega arith)))

under_first : (w : World) → IsSound w → IsAhead w → AreUnder (node_of w 1).term w.nodes
under_first w s a j l = (holds_it (length w.nodes) s.history (suc j) (node_of w (suc j)) (s.fits j no_node l) (a.well (suc j) (omega arith) (omega arith)).runs, term j l)
  where
    term : (j : ℕ) → j < length w.nodes → (get_or w.nodes j no_node).term ≤ (node_of w 1).term
    term zero l = omega arith
    term (suc k) l = (a.follow (suc (suc k)) (omega arith) (omega arith) (λ e. omega arith)).1

pub left_foremost : (size : Size) (c : Cluster) (stores : List Store) → AreSure size.stores → IsForemost size.stores → MayBegin size.stores → Serves size c → HoldAll stores c.world.nodes → IsForemost stores
left_foremost size c stores sure first kept s held =
    let sound = run_sound s.start (kept_start size.stores s.start s.begins kept) s.whole s.moves c s.reached in
    let ahead = run_ahead s.start s.whole s.moves c s.reached s.serving (start_ahead size.stores s.start s.begins sure first) in
    hold_foremost stores c.world.nodes held (under_first c.world (reached_sound c.world sound.parts.world) ahead)
