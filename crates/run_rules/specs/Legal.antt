-- Each reply and closing of a script's run is legal in the cluster in which it is made.
use Rattle.std.specs.Prelude.{ℕ, suc, true, List}
use Rattle.cat_model.specs.declared.request.Event.TheVariants as event
use Rattle.cluster_rules.specs.Replies.{Out}
use Rattle.cluster_rules.specs.Cluster.{Cluster}
use Rattle.cluster_rules.specs.Legal.{StepIsLegal}
use Rattle.cluster_rules.specs.Reached.{Settling, none, pair}
use Rattle.run_rules.specs.Lines.{Said}
use Rattle.run_rules.specs.Plays.{Ending, Plays, over, breaks, skips, makes, settles, refuses, misfits, emptied, settled}

-- of each delivery and each loss
abbrev pub PairsAreLegal : (n : ℕ) (c c' : Cluster) → Settling n c c' → Type 0
PairsAreLegal n c c' none = Unit {0}
PairsAreLegal n c c' (pair {n = m} p c₁ c₂ low fits first fits' second more) =
    StepIsLegal c (event.Deliver p.number) c₁ true first × StepIsLegal c₁ (event.Drop p.number) c₂ true second × PairsAreLegal m c₂ c' more

-- of each line
abbrev pub RunIsLegal : (says : ℕ → List ℕ → Said) (number : ℕ) (lines : List (List ℕ)) (c : Cluster) (outs : List Out) (end : Ending) (c' : Cluster) → Plays says number lines c outs end c' → Type 0
RunIsLegal says number lines c outs end c' over = Unit {0}
RunIsLegal says number lines c outs end c' breaks = Unit {0}
RunIsLegal says number lines c outs end c' (skips {lines = more} is p) = RunIsLegal says (suc number) more c outs end c' p
RunIsLegal says number lines c outs end c' (makes {lines = more} {outs = later} made c₁ is fits s p) = StepIsLegal c made c₁ true s × RunIsLegal says (suc number) more (emptied c₁) later end c' p
RunIsLegal says number lines c outs end c' (settles {lines = more} {outs = later} most pairs c₁ is s few stops p) =
    PairsAreLegal pairs c c₁ s × RunIsLegal says (suc number) more (emptied (settled pairs c₁)) later end c' p
RunIsLegal says number lines c outs end c' (refuses why is) = Unit {0}
RunIsLegal says number lines c outs end c' (misfits made why is fits) = Unit {0}
