-- A script's lines make moves of the cluster.
use Rattle.std.proofs.Common.{◌≡◌, ℕ, suc, ◌+◌, Bool, true, List, [], ◌∷◌, ◌++◌, refl, sym, ◌∙◌, ap, subst, arith, Option, Some, None}
use Rattle.cat_model.specs.declared.request.Event.{Event}
use Rattle.cat_model.specs.declared.request.Event.TheVariants as event
use Rattle.cat_model.specs.declared.reply.Mark.{Mark}
use Rattle.cluster_rules.specs.Replies.{Out, number_of}
use Rattle.cluster_rules.specs.Cluster.{Cluster}
use Rattle.cluster_rules.specs.Reached.{Move, Makes, Takes, Settles, Reached, by_event, by_taking, by_handing, by_settling, EndInPairs, Settling, none, pair}
use Rattle.cluster_rules.specs.Step.{ClusterStep}
use Rattle.cluster_rules.proofs.Settling.{settling_reaches}
use Rattle.run_rules.specs.Lines.{Said, misfit}
use Rattle.run_rules.specs.Plays.{Ending, Plays, over, breaks, skips, makes, settles, refuses, misfits, all_taken, emptied, settled, taken}
use Rattle.run_rules.proofs.Fitting.{event_fits}

-- some moves that lead to this cluster, all whole
abbrev pub IsRun : Cluster → Cluster → Type 0
IsRun start c = (moves : List Move) × Reached start true moves c

pub event_run : (start c c' : Cluster) (made : Event) → misfit c made ≡ None → ClusterStep c made c' true → IsRun start c → IsRun start c'
event_run start c c' made fits s (moves, r) = (Makes made ∷ moves, by_event made true r (event_fits c made fits) s)

-- with these outs left of the tray, and those marks
abbrev left : Cluster → List Out → List Mark → Cluster
left c outs past = record c { tray = outs; past = past }

taking_run : (start c : Cluster) (outs : List Out) (past : List Mark) → IsRun start (left c outs past) → IsRun start (left c [] (all_taken outs past))
taking_run start c [] past r = r
taking_run start c (o ∷ outs) past (moves, r) = taking_run start c outs (taken (number_of o) past) (by (number_of o) refl)
  where
    by : (n : Option ℕ) → number_of o ≡ n → IsRun start (left c outs (taken n past))
    by None e = (moves, by_handing o [] outs r e refl)
    by (Some number) e = (Takes number ∷ moves, by_taking number o [] outs r e refl)

pub emptied_run : (start c : Cluster) → IsRun start c → IsRun start (emptied c)
emptied_run start c r = taking_run start c c.tray c.past r

pub settled_run : (start c c' : Cluster) (n : ℕ) → Settling n c c' → IsRun start c → IsRun start (settled n c')
settled_run start c c' n s (moves, r) =
    let x = settling_reaches start true n 0 moves c c' r tt s in
    (Settles n true ∷ x.0, by_settling n true x.1 (subst (λ z. EndInPairs z x.0) (zero_more n) x.2))
  where
    zero_more : (n : ℕ) → n + 0 ≡ n
    zero_more n = omega arith

pub plays_run : (says : ℕ → List ℕ → Said) (number : ℕ) (lines : List (List ℕ)) (start c : Cluster) (outs : List Out) (end : Ending) (c' : Cluster) → Plays says number lines c outs end c' → IsRun start c → IsRun start c'
plays_run says number lines start c outs end c' over r = r
plays_run says number lines start c outs end c' breaks r = r
plays_run says number lines start c outs end c' (skips {lines = more} is p) r = plays_run says (suc number) more start c outs end c' p r
plays_run says number lines start c outs end c' (makes {lines = more} {outs = later} made c₁ is fits s p) r =
    plays_run says (suc number) more start (emptied c₁) later end c' p (emptied_run start c₁ (event_run start c c₁ made fits s r))
plays_run says number lines start c outs end c' (settles {lines = more} {outs = later} most pairs c₁ is s few stops p) r =
    plays_run says (suc number) more start (emptied (settled pairs c₁)) later end c' p (emptied_run start (settled pairs c₁) (settled_run start c c₁ pairs s r))
plays_run says number lines start c outs end c' (refuses why is) r = r
plays_run says number lines start c outs end c' (misfits made why is fits) r = r
