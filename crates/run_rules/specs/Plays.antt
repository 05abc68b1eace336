-- A script over a cluster, line by line: each event is a whole step of the cluster, after which all its outs are taken.
use Rattle.std.specs.Prelude.{◌≡◌, ◌⊎◌, ◌≤◌, ℕ, suc, true, List, [], ◌∷◌, ◌++◌, Option, Some, None, filter, is_some}
use Rattle.cat_model.specs.declared.request.Event.{Event}
use Rattle.cat_model.specs.declared.reply.Mark.{Mark}
use Rattle.cat_model.specs.declared.reply.Mark.TheVariants as mark
use Rattle.run_rules.specs.declared.misfit.Misfit.{Misfit}
use Rattle.cluster_rules.specs.Replies.{Out, number_of}
use Rattle.cluster_rules.specs.Cluster.{Cluster}
use Rattle.cluster_rules.specs.Step.{ClusterStep}
use Rattle.cluster_rules.specs.Reached.{Settling}
use Rattle.run_rules.specs.Lines.{Said, Nothing, Makes, Settles, Refuses, misfit, misfit_text}

-- the taking of a request's out has a mark, that of a sync's has none
abbrev pub taken : Option ℕ → List Mark → List Mark
taken None past = past
taken (Some number) past = mark.Taken number ∷ past

-- the marks once these outs were taken in their order
abbrev pub all_taken : List Out → List Mark → List Mark
all_taken [] past = past
all_taken (out ∷ outs) past = all_taken outs (taken (number_of out) past)

-- the outs of requests, without those of syncs
abbrev pub of_requests : List Out → List Out
of_requests outs = filter (λ o. is_some (number_of o)) outs

-- the cluster once all its outs were taken
abbrev pub emptied : Cluster → Cluster
emptied c = record c { tray = []; past = all_taken c.tray c.past }

-- the cluster once so many pairs of a delivery and a loss are marked
abbrev pub settled : ℕ → Cluster → Cluster
settled pairs c = record c { past = mark.Settled pairs true ∷ c.past }

-- How the lines end: all were played, a line is refused, or the run broke off between two lines.
pub data Ending : Type 0 where
  Whole : Ending
  Refused : (line : ℕ) (why : List ℕ) → Ending
  Broken : Ending

-- The lines after the opening, the first of them with the given number, lead from one cluster to another, and these are
-- all the outs that were taken on the way. `says` tells what a line says where the next request has a given number.
pub data Plays (says : ℕ → List ℕ → Said) : ℕ → List (List ℕ) → Cluster → List Out → Ending → Cluster → Type 0 where
  over : {number : ℕ} {c : Cluster} → Plays says number [] c [] Whole c
  breaks : {number : ℕ} {lines : List (List ℕ)} {c : Cluster} → Plays says number lines c [] Broken c
  skips : {number : ℕ} {line : List ℕ} {lines : List (List ℕ)} {c c' : Cluster} {outs : List Out} {end : Ending} → says (suc c.asked) line ≡ Nothing → Plays says (suc number) lines c outs end c' → Plays says number (line ∷ lines) c outs end c'
  makes : {number : ℕ} {line : List ℕ} {lines : List (List ℕ)} {c c' : Cluster} {outs : List Out} {end : Ending} (made : Event) (c₁ : Cluster) → says (suc c.asked) line ≡ Makes made → misfit c made ≡ None → ClusterStep c made c₁ true →
      Plays says (suc number) lines (emptied c₁) outs end c' → Plays says number (line ∷ lines) c (c₁.tray ++ outs) end c'
  settles : {number : ℕ} {line : List ℕ} {lines : List (List ℕ)} {c c' : Cluster} {outs : List Out} {end : Ending} (most pairs : ℕ) (c₁ : Cluster) → says (suc c.asked) line ≡ Settles most → Settling pairs c c₁ → pairs ≤ most → (pairs ≡ most) ⊎ (c₁.world.bag.packets ≡ []) →
      Plays says (suc number) lines (emptied (settled pairs c₁)) outs end c' → Plays says number (line ∷ lines) c (c₁.tray ++ outs) end c'
  refuses : {number : ℕ} {line : List ℕ} {lines : List (List ℕ)} {c : Cluster} (why : List ℕ) → says (suc c.asked) line ≡ Refuses why → Plays says number (line ∷ lines) c [] (Refused number why) c
  misfits : {number : ℕ} {line : List ℕ} {lines : List (List ℕ)} {c : Cluster} (made : Event) (why : Misfit) → says (suc c.asked) line ≡ Makes made → misfit c made ≡ Some why → Plays says number (line ∷ lines) c [] (Refused number (misfit_text why)) c
