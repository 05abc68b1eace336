-- How often a request's out was taken, over a script's lines.
use Rattle.std.proofs.Common.{◌≡◌, ℕ, suc, ◌+◌, Bool, true, cond, List, [], ◌∷◌, ◌++◌, refl, sym, ◌∙◌, ap, subst, arith, Option, Some, None}
use Rattle.std.specs.Prelude.{◌==◌}
use Rattle.cat_model.specs.declared.request.Event.{Event}
use Rattle.cat_model.specs.declared.request.Event.TheVariants as event
use Rattle.cat_model.specs.declared.reply.Mark.{Mark}
use Rattle.cat_model.specs.declared.reply.Mark.TheVariants as mark
use Rattle.cluster_rules.specs.Replies.{Out, number_of}
use Rattle.cluster_rules.specs.Cluster.{Cluster}
use Rattle.cluster_rules.specs.Step.{ClusterStep}
use Rattle.cluster_rules.specs.Reached.{IsStart, Move, Makes, Takes, Settles, Advances, Reached, Fits, by_event, moves_of, Settling, none, pair}
use Rattle.cluster_rules.specs.Sound.{is_of, one_if, out_times, taken_times}
use Rattle.cluster_rules.proofs.Counting.{outs_times}
use Rattle.cluster_rules.proofs.Marks.{marks_are_moves}
use Rattle.run_rules.specs.Lines.{Said}
use Rattle.run_rules.specs.Plays.{Ending, Plays, over, breaks, skips, makes, settles, refuses, misfits, all_taken, emptied, settled, taken}
use Rattle.run_rules.proofs.Fitting.{event_fits}
use Rattle.run_rules.proofs.Reaching.{IsRun, event_run, emptied_run, settled_run}

-- how often the moves take a request's out
takes_in : ℕ → List Move → ℕ
takes_in k [] = 0
takes_in k (Makes made ∷ moves) = takes_in k moves
takes_in k (Takes number ∷ moves) = one_if (number == k) + takes_in k moves
takes_in k (Settles pairs whole ∷ moves) = takes_in k moves
takes_in k (Advances ms made ∷ moves) = takes_in k moves

takes_are : (k : ℕ) (past : List Mark) → taken_times k past ≡ takes_in k (moves_of past)
unfolding takes_in
takes_are k [] = refl
takes_are k (mark.Asked number agent asked draw ∷ past) = takes_are k past
takes_are k (mark.Made made ∷ past) = takes_are k past
takes_are k (mark.Advanced ms made ∷ past) = takes_are k past
takes_are k (mark.Settled pairs whole ∷ past) = takes_are k past
takes_are k (mark.Halted server ∷ past) = takes_are k past
takes_are k (mark.Entry entry ∷ past) = takes_are k past
takes_are k (mark.Answered number kind known contact ∷ past) = takes_are k past
takes_are k (mark.Taken number ∷ past) = ap (λ n. one_if (number == k) + n) (takes_are k past)

-- a step takes none
pub step_takes : (start : Cluster) → IsStart start → (c c' : Cluster) (made : Event) → Fits c made → ClusterStep c made c' true → IsRun start c → (k : ℕ) → taken_times k c'.past ≡ taken_times k c.past
unfolding takes_in
step_takes start i c c' made fits s (moves, r) k =
    takes_are k c'.past
    ∙ ap (takes_in k) (marks_are_moves start i true (Makes made ∷ moves) c' (by_event made true r fits s))
    ∙ ap (takes_in k) (sym (marks_are_moves start i true moves c r))
    ∙ sym (takes_are k c.past)

pub step_run : (start c c' : Cluster) (made : Event) → Fits c made → ClusterStep c made c' true → IsRun start c → IsRun start c'
step_run start c c' made fits s (moves, r) = (Makes made ∷ moves, by_event made true r fits s)

settling_takes : (start : Cluster) → IsStart start → (n : ℕ) (c c' : Cluster) → Settling n c c' → IsRun start c → (k : ℕ) → taken_times k c'.past ≡ taken_times k c.past
settling_takes start i n c c' none r k = refl
settling_takes start i n c c' (pair {n = m} p c₁ c₂ low fits first fits' second more) r k =
    let r₁ = step_run start c c₁ (event.Deliver p.number) fits first r in
    let r₂ = step_run start c₁ c₂ (event.Drop p.number) fits' second r₁ in
    settling_takes start i m c₂ c' more r₂ k
    ∙ step_takes start i c₁ c₂ (event.Drop p.number) fits' second r₁ k
    ∙ step_takes start i c c₁ (event.Deliver p.number) fits first r k

-- the taking of outs takes each
taken_counts : (k : ℕ) (number : Option ℕ) (past : List Mark) → taken_times k (taken number past) ≡ one_if (is_of k number) + taken_times k past
taken_counts k None past = omega arith
taken_counts k (Some n) past = refl

all_taken_counts : (k : ℕ) (outs : List Out) (past : List Mark) → taken_times k (all_taken outs past) ≡ out_times k outs + taken_times k past
all_taken_counts k [] past = omega arith
all_taken_counts k (o ∷ outs) past = let e = all_taken_counts k outs (taken (number_of o) past) in let f = taken_counts k (number_of o) past in omega (arith, e, f)

-- over the lines
pub plays_takes : (says : ℕ → List ℕ → Said) (number : ℕ) (lines : List (List ℕ)) (start : Cluster) → IsStart start → (c : Cluster) (outs : List Out) (end : Ending) (c' : Cluster) → Plays says number lines c outs end c' → IsRun start c → (k : ℕ) → taken_times k c'.past ≡ out_times k outs + taken_times k c.past
plays_takes says number lines start i c outs end c' over r k = omega arith
plays_takes says number lines start i c outs end c' breaks r k = omega arith
plays_takes says number lines start i c outs end c' (skips {lines = more} is p) r k = plays_takes says (suc number) more start i c outs end c' p r k
plays_takes says number lines start i c outs end c' (makes {lines = more} {outs = later} made c₁ is fits s p) r k =
    let r₁ = event_run start c c₁ made fits s r in
    let e = plays_takes says (suc number) more start i (emptied c₁) later end c' p (emptied_run start c₁ r₁) k in
    let f = all_taken_counts k c₁.tray c₁.past in
    let g = step_takes start i c c₁ made (event_fits c made fits) s r k in
    let h = outs_times k c₁.tray later in
    omega (arith, e, f, g, h)
plays_takes says number lines start i c outs end c' (settles {lines = more} {outs = later} most pairs c₁ is s few stops p) r k =
    let r₁ = settled_run start c c₁ pairs s r in
    let e = plays_takes says (suc number) more start i (emptied (settled pairs c₁)) later end c' p (emptied_run start (settled pairs c₁) r₁) k in
    let f = all_taken_counts k c₁.tray (settled pairs c₁).past in
    let g = settling_takes start i pairs c c₁ s r k in
    let h = outs_times k c₁.tray later in
    omega (arith, e, f, g, h)
plays_takes says number lines start i c outs end c' (refuses why is) r k = omega arith
plays_takes says number lines start i c outs end c' (misfits made why is fits) r k = omega arith

-- and at their end no out is left that was not there before
pub plays_empty : (says : ℕ → List ℕ → Said) (number : ℕ) (lines : List (List ℕ)) (c : Cluster) (outs : List Out) (end : Ending) (c' : Cluster) → Plays says number lines c outs end c' → c.tray ≡ [] → c'.tray ≡ []
plays_empty says number lines c outs end c' over e = e
plays_empty says number lines c outs end c' breaks e = e
plays_empty says number lines c outs end c' (skips {lines = more} is p) e = plays_empty says (suc number) more c outs end c' p e
plays_empty says number lines c outs end c' (makes {lines = more} {outs = later} made c₁ is fits s p) e = plays_empty says (suc number) more (emptied c₁) later end c' p refl
plays_empty says number lines c outs end c' (settles {lines = more} {outs = later} most pairs c₁ is s few stops p) e = plays_empty says (suc number) more (emptied (settled pairs c₁)) later end c' p refl
plays_empty says number lines c outs end c' (refuses why is) e = e
plays_empty says number lines c outs end c' (misfits made why is fits) e = e
