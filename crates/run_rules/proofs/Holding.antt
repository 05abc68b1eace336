-- What holds of a run of a script.
use Rattle.std.proofs.Common.{◌≡◌, ℕ, suc, ◌+◌, inl, Bool, true, List, [], ◌∷◌, ◌++◌, length, refl, sym, ◌∙◌, ap, subst, arith}
use Rattle.std.specs.List.{AllByRecursion as Each}
use Rattle.cat_model.specs.declared.request.Event.{Event}
use Rattle.cat_model.specs.declared.request.Event.TheVariants as event
use Rattle.raft_model.specs.World.{World, Begins, IsReached, IsOfFirstRun, here}
use Rattle.raft_model.proofs.Theorems.{well_formed, first_run}
use Rattle.cluster_rules.specs.Replies.{Out}
use Rattle.cluster_rules.specs.Cluster.{Cluster, started}
use Rattle.cluster_rules.specs.Step.{ClusterStep}
use Rattle.cluster_rules.specs.Reached.{IsStart, Move, Makes, Reached, at_start, by_event, moves_of, Settling, none, pair}
use Rattle.cluster_rules.specs.Sound.{held_times, one_if, out_times, taken_times, found, OutIsSound, Sound}
use Rattle.cluster_rules.proofs.Answers.{lost_never}
use Rattle.cluster_rules.proofs.Later.{out_later}
use Rattle.cluster_rules.proofs.Marks.{marks_are_moves}
use Rattle.cluster_rules.proofs.Reached.{run_sound}
use Rattle.cluster_rules.proofs.Tools.{each_map, each_append}
use Rattle.cluster_rules.proofs.Waiting.{all_wait}
use Rattle.cluster_rules.proofs.Whole.{run_whole}
use Rattle.run_rules.specs.Lines.{Said}
use Rattle.run_rules.specs.Plays.{Ending, Plays, over, breaks, skips, makes, settles, refuses, misfits, emptied, settled}
use Rattle.run_rules.proofs.Fresh.{reads_fresh}
use Rattle.run_rules.proofs.Waiting.{run_waits}
use Rattle.run_rules.specs.Holds.{Holds, IsFirstStart}
use Rattle.run_rules.proofs.Indexes.{opened_tells}
use Rattle.run_rules.proofs.Onward.{Onward, on_same, on_then, step_on, emptied_on, settled_on}
use Rattle.run_rules.proofs.Reaching.{IsRun, event_run, emptied_run, settled_run, plays_run}
use Rattle.run_rules.proofs.Taking.{plays_takes, plays_empty}

pub a_start : (c : Cluster) → IsFirstStart c → IsStart c
a_start c s = record {
  stores = s.stores;
  world = s.world;
  agents = s.agents;
  some = s.some;
  few = s.few;
  unarmed = s.unarmed;
  begins = s.begins;
  kept = inl s.empty;
  is = s.is;
}

pub run_is_sound : (start : Cluster) → IsStart start → (c : Cluster) → IsRun start c → Sound c
run_is_sound start i c (moves, r) = run_sound start i true moves c r

settling_on : (n : ℕ) (c c' : Cluster) → Settling n c c' → IsReached c.world → Onward c c'
settling_on n c c' none r = on_same c
settling_on n c c' (pair {n = m} p c₁ c₂ low fits first fits' second more) r =
    let x = step_on c c₁ (event.Deliver p.number) true first r in
    let y = on_then c c₁ c₂ x (step_on c₁ c₂ (event.Drop p.number) true second (x.reached r)) in
    on_then c c₂ c' y (settling_on m c₂ c' more (y.reached r))

plays_on : (says : ℕ → List ℕ → Said) (number : ℕ) (lines : List (List ℕ)) (c : Cluster) (outs : List Out) (end : Ending) (c' : Cluster) → Plays says number lines c outs end c' → IsReached c.world → Onward c c'
plays_on says number lines c outs end c' over r = on_same c
plays_on says number lines c outs end c' breaks r = on_same c
plays_on says number lines c outs end c' (skips {lines = more} is p) r = plays_on says (suc number) more c outs end c' p r
plays_on says number lines c outs end c' (makes {lines = more} {outs = later} made c₁ is fits s p) r =
    let x = on_then c c₁ (emptied c₁) (step_on c c₁ made true s r) (emptied_on c₁) in
    on_then c (emptied c₁) c' x (plays_on says (suc number) more (emptied c₁) later end c' p (x.reached r))
plays_on says number lines c outs end c' (settles {lines = more} {outs = later} most pairs c₁ is s few stops p) r =
    let d = settled pairs c₁ in
    let x = on_then c c₁ (emptied d) (settling_on pairs c c₁ s r) (on_then c₁ d (emptied d) (settled_on pairs c₁) (emptied_on d)) in
    on_then c (emptied d) c' x (plays_on says (suc number) more (emptied d) later end c' p (x.reached r))
plays_on says number lines c outs end c' (refuses why is) r = on_same c
plays_on says number lines c outs end c' (misfits made why is fits) r = on_same c

-- outs that were sound when they were made are sound at the end
outs_stay : (c c' : Cluster) → Onward c c' → (outs : List Out) → Each (OutIsSound c.world c.past) outs → Each (OutIsSound c'.world c'.past) outs
outs_stay c c' x outs all =
    each_map (OutIsSound c.world c.past) (OutIsSound c'.world c'.past) (λ o s. out_later c.world c'.world c.past c'.past c.starts c'.starts x.later o s) outs all

plays_sound : (says : ℕ → List ℕ → Said) (number : ℕ) (lines : List (List ℕ)) (start : Cluster) → IsStart start → (c : Cluster) (outs : List Out) (end : Ending) (c' : Cluster) → Plays says number lines c outs end c' → IsRun start c → Each (OutIsSound c'.world c'.past) outs
plays_sound says number lines start i c outs end c' over r = tt
plays_sound says number lines start i c outs end c' breaks r = tt
plays_sound says number lines start i c outs end c' (skips {lines = more} is p) r = plays_sound says (suc number) more start i c outs end c' p r
plays_sound says number lines start i c outs end c' (makes {lines = more} {outs = later} made c₁ is fits s p) r =
    let r₁ = event_run start c c₁ made fits s r in
    let sound = run_is_sound start i c₁ r₁ in
    let x = on_then c₁ (emptied c₁) c' (emptied_on c₁) (plays_on says (suc number) more (emptied c₁) later end c' p sound.parts.world) in
    each_append (OutIsSound c'.world c'.past) c₁.tray later (outs_stay c₁ c' x c₁.tray sound.parts.tray) (plays_sound says (suc number) more start i (emptied c₁) later end c' p (emptied_run start c₁ r₁))
plays_sound says number lines start i c outs end c' (settles {lines = more} {outs = later} most pairs c₁ is s few stops p) r =
    let d = settled pairs c₁ in
    let r₁ = settled_run start c c₁ pairs s r in
    let sound = run_is_sound start i d r₁ in
    let x = on_then d (emptied d) c' (emptied_on d) (plays_on says (suc number) more (emptied d) later end c' p sound.parts.world) in
    each_append (OutIsSound c'.world c'.past) c₁.tray later (outs_stay d c' x c₁.tray sound.parts.tray) (plays_sound says (suc number) more start i (emptied d) later end c' p (emptied_run start d r₁))
plays_sound says number lines start i c outs end c' (refuses why is) r = tt
plays_sound says number lines start i c outs end c' (misfits made why is fits) r = tt

pub start_run : (start : Cluster) → IsRun start start
start_run start = ([], at_start)

-- at a start no out is there and none was taken
start_empty : (c : Cluster) → IsFirstStart c → (c.tray ≡ []) × ((k : ℕ) → taken_times k c.past ≡ 0)
start_empty c s = subst (λ (z : Cluster). (z.tray ≡ []) × ((k : ℕ) → taken_times k z.past ≡ 0)) (sym s.is) (refl, λ k. refl)

of_first_run : (start c : Cluster) → IsFirstStart start → Onward start c → IsOfFirstRun c.world
of_first_run start c s x = record {
  stores = s.stores;
  start = start.world;
  are_empty = s.empty;
  begins = subst (λ (z : World). Begins s.stores z) (sym (ap (λ (z : Cluster). z.world) s.is)) s.begins;
  reaches = x.later.goes.on c.world here;
}

pub run_holds : (says : ℕ → List ℕ → Said) (number : ℕ) (lines : List (List ℕ)) (start c : Cluster) (outs : List Out) (end : Ending) → IsFirstStart start → Plays says number lines start outs end c → Holds start outs c
run_holds says number lines start c outs end s p = by (plays_run says number lines start start outs end c p (start_run start))
  where
    i : IsStart start
    i = a_start start s

    by : IsRun start c → Holds start outs c
    by (moves, r) =
        let sound = run_sound start i true moves c r in
        let first = run_sound start i true [] start at_start in
        let x = plays_on says number lines start outs end c p first.parts.world in
        let empty = start_empty start s in
        let none_left = plays_empty says number lines start outs end c p empty.0 in
        let formed = well_formed c.world sound.parts.world in
        record {
          leads = subst (λ z. Reached start true z c) (sym (marks_are_moves start i true moves c r)) r;
          fronts = λ server. (sound.parts.servers.each server).front;
          formed = formed;
          once = first_run c.world (of_first_run start c s x);
          indexes = opened_tells c.world.agreed formed.opens;
          sound = plays_sound says number lines start i start outs end c p (start_run start);
          answered = λ k.
              let e = plays_takes says number lines start i start outs end c p (start_run start) k in
              let f = empty.1 k in
              let g = sound.none_lost k in
              let h = ap (out_times k) sound.shelved in
              let t = ap (out_times k) none_left in
              omega (arith, e, f, g, h, t);
          lost = lost_never c sound;
          none_behind = λ server. run_whole start i true moves c r refl server;
          waits = λ server up. all_wait c sound server (run_whole start i true moves c r refl server) up;
          taken = none_left;
          reads_wait = run_waits start i moves c r;
          reads_fresh = reads_fresh c sound;
        }
