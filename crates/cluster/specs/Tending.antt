-- What is due by the clock of a server that leads.
use Rattle.std.specs.Prelude.{◌≡◌, ℕ, nat_le, ◌&&◌, Bool, take}
use Rattle.cat_model.specs.Log.{commands_of}
use Rattle.cluster_rules.specs.Offices.{has_removed}
use Rattle.cluster_rules.specs.Cluster.{Cluster, applied_of, clock_of, office_of}
use Rattle.cluster_rules.specs.Proposals.{Proposals, ends_of, looked, over_rows, reaps_of, with_ends}

-- the next look of server i is due, and it has applied the removal of a key since the last reap
abbrev pub is_reap_due : Cluster → ℕ → Bool
is_reap_due c i = nat_le (office_of c i).reap (clock_of c.world i) && has_removed (commands_of (applied_of c i))

-- The ends of the sessions that are over were proposed, whole or as far as memory reached; those that were entered are
-- not proposed again.
abbrev pub EndsProposed : ℕ → Cluster → Bool → Cluster → Type 0
EndsProposed i c whole c' =
    (n : ℕ) × (c₁ : Cluster) × Proposals i (ends_of (over_rows c i)) c n c₁ whole × (c' ≡ with_ends i (take n (over_rows c i)) c₁)

-- The look for removed keys, and the proposal of the reap that is due.
abbrev pub ReapsProposed : ℕ → Cluster → Bool → Cluster → Type 0
ReapsProposed i c whole c' = (n : ℕ) × Proposals i (reaps_of c i) (looked i c) n c' whole
