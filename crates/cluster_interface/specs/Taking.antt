-- What the taking of an out does.
use Rattle.std.specs.Prelude.{◌≡◌, ℕ, List, ◌∷◌, ◌++◌}
use Rattle.cluster_rules.specs.Replies.{Out, Replied, Closed, number_of}
use Rattle.cluster_rules.specs.Cluster.{Cluster}
use Rattle.cluster_requests.specs.declared.collected.Collected.{Collected}
use Rattle.cluster_requests.specs.declared.collected.Collected.TheVariants as collected
use Rattle.cluster_rules.specs.Past.{HasNoOut, IsNotHeld}
use Rattle.cluster_requests.specs.Taking.{Waits}
use Rattle.run_rules.specs.Plays.{of_requests, taken}

-- This out was taken out of the tray, and a request's taking is marked.
pub record Takes (out : Out) (c c' : Cluster) : Type 0 where
  pub before : List Out
  pub after : List Out
  pub there : c.tray ≡ before ++ out ∷ after
  pub is : c' ≡ record c { tray = before ++ after; past = taken (number_of out) c.past }

-- What is collected of a request: its out that was there, else what it waits for while it is held, else nothing.
abbrev pub Collects : ℕ → Collected → Cluster → Cluster → Type 0
Collects number (collected.Ready reply) c c' = Takes (Replied reply) c c' × (reply.number ≡ number)
Collects number (collected.Closed event) c c' = Takes (Closed number event) c c'
Collects number (collected.NotYet wanted) c c' = (c' ≡ c) × HasNoOut number c.tray × Waits number wanted c.held
Collects number collected.Gone c c' = (c' ≡ c) × HasNoOut number c.tray × IsNotHeld number c.held

-- The outs of syncs are dropped, for which no request waits. That has no mark.
abbrev pub DropsSyncs : Cluster → Cluster → Type 0
DropsSyncs c c' = c' ≡ record c { tray = of_requests c.tray }
