-- Each step of a script's run is legal.
use Rattle.std.proofs.Common.{ℕ, suc, true, List}
use Rattle.cat_model.specs.declared.request.Event.TheVariants as event
use Rattle.cluster_rules.specs.Replies.{Out}
use Rattle.cluster_rules.specs.Cluster.{Cluster}
use Rattle.cluster_rules.specs.Reached.{IsStart, Settling, none, pair}
use Rattle.cluster_rules.proofs.Legal.{step_legal}
use Rattle.run_rules.specs.Lines.{Said}
use Rattle.run_rules.specs.Plays.{Ending, Plays, over, breaks, skips, makes, settles, refuses, misfits, emptied, settled}
use Rattle.run_rules.specs.Holds.{IsFirstStart}
use Rattle.run_rules.specs.Legal.{PairsAreLegal, RunIsLegal}
use Rattle.run_rules.proofs.Holding.{a_start, run_is_sound, start_run}
use Rattle.run_rules.proofs.Reaching.{IsRun, event_run, emptied_run, settled_run}
use Rattle.run_rules.proofs.Taking.{step_run}

pairs_legal : (start : Cluster) → IsStart start → (n : ℕ) (c c' : Cluster) (s : Settling n c c') → IsRun start c → PairsAreLegal n c c' s
pairs_legal start i n c c' none r = tt
pairs_legal start i n c c' (pair {n = m} p c₁ c₂ low fits first fits' second more) r =
    let r₁ = step_run start c c₁ (event.Deliver p.number) fits first r in
    let r₂ = step_run start c₁ c₂ (event.Drop p.number) fits' second r₁ in
    (step_legal c c₁ (event.Deliver p.number) true first (run_is_sound start i c r), step_legal c₁ c₂ (event.Drop p.number) true second (run_is_sound start i c₁ r₁), pairs_legal start i m c₂ c' more r₂)

pub run_legal : (says : ℕ → List ℕ → Said) (number : ℕ) (lines : List (List ℕ)) (start : Cluster) → IsStart start → (c : Cluster) (outs : List Out) (end : Ending) (c' : Cluster) (p : Plays says number lines c outs end c') → IsRun start c → RunIsLegal says number lines c outs end c' p
run_legal says number lines start i c outs end c' over r = tt
run_legal says number lines start i c outs end c' breaks r = tt
run_legal says number lines start i c outs end c' (skips {lines = more} is p) r = run_legal says (suc number) more start i c outs end c' p r
run_legal says number lines start i c outs end c' (makes {lines = more} {outs = later} made c₁ is fits s p) r =
    (step_legal c c₁ made true s (run_is_sound start i c r), run_legal says (suc number) more start i (emptied c₁) later end c' p (emptied_run start c₁ (event_run start c c₁ made fits s r)))
run_legal says number lines start i c outs end c' (settles {lines = more} {outs = later} most pairs c₁ is s few stops p) r =
    (pairs_legal start i pairs c c₁ s r, run_legal says (suc number) more start i (emptied (settled pairs c₁)) later end c' p (emptied_run start (settled pairs c₁) (settled_run start c c₁ pairs s r)))
run_legal says number lines start i c outs end c' (refuses why is) r = tt
run_legal says number lines start i c outs end c' (misfits made why is fits) r = tt

pub first_run_legal : (says : ℕ → List ℕ → Said) (number : ℕ) (lines : List (List ℕ)) (start c : Cluster) (outs : List Out) (end : Ending) → IsFirstStart start → (p : Plays says number lines start outs end c) → RunIsLegal says number lines start outs end c p
first_run_legal says number lines start c outs end s p = run_legal says number lines start (a_start start s) start outs end c p (start_run start)
