-- Lines of a script, one by one: where a line's event fits, the line is not refused, and its event is a whole step.
use Rattle.std.proofs.Common.{◌≡◌, ℕ, suc, cond, true, List, [], ◌∷◌, length, None, Some, ap, subst}
use Rattle.std.specs.Prelude.{nat_le, nat_lt, ◌&&◌}
use Rattle.cat_model.specs.declared.request.Event.{Event}
use Rattle.cat_model.specs.declared.request.Event.TheVariants as event
use Rattle.raft_model.specs.World.{World}
use Rattle.cluster_rules.specs.Replies.{Out}
use Rattle.cluster_rules.specs.Cluster.{Cluster}
use Rattle.cluster_rules.specs.Step.{ClusterStep}
use Rattle.run_rules.specs.declared.misfit.Misfit.TheVariants.{NoServer, NoMessage}
use Rattle.run_rules.specs.Lines.{Said, Makes, misfit}
use Rattle.run_rules.specs.Plays.{Ending, Refused, Plays, over, breaks, skips, makes, settles, refuses, misfits, emptied}
use Rattle.catalog_top.proofs.OnTheWay.{IsOnWay}

-- What is left to play of lines, from a cluster whose world is such.
pub record Left (Is : World → Type 0) (says : ℕ → List ℕ → Said) (number : ℕ) (lines : List (List ℕ)) (end : Ending) (c' : Cluster) : Type 0 where
  pub from : Cluster
  pub outs : List Out
  pub is : Is from.world
  pub plays : Plays says number lines from outs end c'

-- a line whose event fits is not the refused one: its event is a whole step
pub made_by : (After : World → Type 0) (says : ℕ → List ℕ → Said) (number : ℕ) (all : List (List ℕ)) (c : Cluster) (outs : List Out) (end : Ending) (c' : Cluster) → Plays says number all c outs end c' →
    (line : List ℕ) (lines : List (List ℕ)) → all ≡ line ∷ lines → (at : ℕ) (why : List ℕ) → end ≡ Refused at why → (event : Event) → says (suc c.asked) line ≡ Makes event → misfit c event ≡ None →
    ((c₁ : Cluster) → ClusterStep c event c₁ true → After c₁.world) → Left After says (suc number) lines end c'
made_by After says number all c outs end c' over line lines e at why f event said fits after = absurd (cc e)
made_by After says number all c outs end c' breaks line lines e at why f event said fits after = absurd (cc f)
made_by After says number all c outs end c' (skips {line = first} {lines = more} none p) line lines e at why f event said fits after =
    absurd (let same : first ≡ line = cc e in let k = ap (says (suc c.asked)) same in cc (none, k, said))
made_by After says number all c outs end c' (makes {line = first} {lines = more} {outs = later} made c₁ tells is s p) line lines e at why f event said fits after =
    let same : first ≡ line = cc e in
    let event_is : made ≡ event = let k = ap (says (suc c.asked)) same in cc (tells, k, said) in
    record {
      from = emptied c₁;
      outs = later;
      is = after c₁ (subst (λ (m : Event). ClusterStep c m c₁ true) event_is s);
      plays = subst (λ (ls : List (List ℕ)). Plays says (suc number) ls (emptied c₁) later end c') (cc e) p;
    }
made_by After says number all c outs end c' (settles {line = first} {lines = more} {outs = later} most pairs c₁ tells s few stops p) line lines e at why f event said fits after =
    absurd (let same : first ≡ line = cc e in let k = ap (says (suc c.asked)) same in cc (tells, k, said))
made_by After says number all c outs end c' (refuses {line = first} {lines = more} reason tells) line lines e at why f event said fits after =
    absurd (let same : first ≡ line = cc e in let k = ap (says (suc c.asked)) same in cc (tells, k, said))
made_by After says number all c outs end c' (misfits {line = first} {lines = more} made reason tells bad) line lines e at why f event said fits after =
    absurd (
    let same : first ≡ line = cc e in
    let event_is : made ≡ event = let k = ap (says (suc c.asked)) same in cc (tells, k, said) in
    let k = ap (misfit c) event_is in
    cc (bad, k, fits))

pub none_left : (says : ℕ → List ℕ → Said) (number : ℕ) (all : List (List ℕ)) (c : Cluster) (outs : List Out) (end : Ending) (c' : Cluster) → Plays says number all c outs end c' → all ≡ [] → (at : ℕ) (why : List ℕ) → end ≡ Refused at why → ⊥
none_left says number all c outs end c' over e at why f = cc f
none_left says number all c outs end c' breaks e at why f = cc f
none_left says number all c outs end c' (skips none p) e at why f = cc e
none_left says number all c outs end c' (makes made c₁ tells is s p) e at why f = cc e
none_left says number all c outs end c' (settles most pairs c₁ tells s few stops p) e at why f = cc e
none_left says number all c outs end c' (refuses reason tells) e at why f = cc e
none_left says number all c outs end c' (misfits made reason tells bad) e at why f = cc e

-- What fits.
pub delivery_fits : (c : Cluster) (k : ℕ) → IsOnWay k c.world → misfit c (event.Deliver k) ≡ None
unfolding misfit
delivery_fits c k on = ap (λ b. cond b None (Some NoMessage)) on

pub loss_fits : (c : Cluster) (k : ℕ) → IsOnWay k c.world → misfit c (event.Drop k) ≡ None
unfolding misfit
loss_fits c k on = ap (λ b. cond b None (Some NoMessage)) on

pub timeout_fits : (c : Cluster) → length c.servers ≡ 3 → misfit c (event.Timeout 1) ≡ None
unfolding misfit
timeout_fits c three = ap (λ n. cond (nat_lt 0 1 && nat_le 1 n) None (Some NoServer)) three
