-- While a script plays, the filters that are kept are those of the requests whose outs are still to be taken.
use Rattle.std.proofs.Common.{◌≡◌, ◌⊎◌, inl, inr, ◌<◌, ◌≤◌, ◌+◌, ◌∙◌, ℕ, suc, Bool, true, false, cond, List, [], ◌∷◌, ◌++◌, Option, None, Some, option_and_then, refl, sym, ap, subst, arith, true≢false}
use Rattle.std.specs.Prelude.{◌==◌, ◌&&◌, nat_le, nat_lt}
use Rattle.cat_model.specs.declared.request.Event.{Event}
use Rattle.cat_model.specs.declared.request.Event.TheVariants as event
use Rattle.cat_model.specs.declared.reply.Mark.{Mark}
use Rattle.filter_expr.specs.Expressions.{Expression}
use Rattle.std.proofs.lemmas.Bool.Decides.{nat_tests}
use Rattle.cluster_rules.specs.Replies.{Out, number_of}
use Rattle.cluster_rules.specs.Cluster.{Cluster}
use Rattle.cluster_rules.specs.Step.{ClusterStep, marked, noted}
use Rattle.cluster_rules.specs.Reached.{IsStart, Settling, none, pair}
use Rattle.cluster_rules.specs.Sound.{Sound, is_of, one_if, out_times, taken_times}
use Rattle.cluster_rules.proofs.Answers.{found_none}
use Rattle.cluster_rules.proofs.Tools.{eq_self, eq_tells_not, le_tells_not}
use Rattle.run_rules.specs.Keeping.{Keeps}
use Rattle.run_rules.proofs.Keeping.{step_keeps}
use Rattle.script_lang.specs.Lines.{filter_of_line}
use Rattle.run_rules.specs.Holds.{IsFirstStart}
use Rattle.run_rules.specs.Lines.{Said, Nothing, Makes, Settles, Refuses}
use Rattle.run_rules.specs.Plays.{Broken, breaks, taken, all_taken, emptied, settled}
use Rattle.run_rules.proofs.Fitting.{event_fits}
use Rattle.run_rules.proofs.Holding.{a_start, run_is_sound, start_run}
use Rattle.run_rules.proofs.Reaching.{IsRun, event_run, plays_run, settled_run}
use Rattle.run_rules.proofs.Taking.{step_run, step_takes}
use Rattle.script_player.specs.Filters.{Filters, asks, filter_in, filter_of, is_request}
use Rattle.script_player.specs.declared.stage.Turn.TheVariants as turn
use Rattle.script_player.specs.Stage.{AreFor, AreForAll, KeepsWaiting, LeadsTo, TakesAll, Turns, filter_said, put_for, through}
use Rattle.script_player.proofs.Progress.{SoFar, so_far_more}

-- ---- tests

at_bool : (P : Bool → Type 0) (b : Bool) → (b ≡ true → P true) → (b ≡ false → P false) → P b
at_bool P true f g = f refl
at_bool P false f g = g refl

eq_tells : (a b : ℕ) → (a == b) ≡ true → a ≡ b
eq_tells a b e = grind (arith, nat_tests)

le_tells : (a b : ℕ) → nat_le a b ≡ true → a ≤ b
le_tells a b e = grind (arith, nat_tests)

-- ---- how many requests there are

abbrev more_by : Bool → ℕ → ℕ
more_by b n = cond b (suc n) n

marked_asked : (made : Event) (c : Cluster) → (marked made c).asked ≡ more_by (is_request made) c.asked
marked_asked (event.Ask agent asked draw) c = refl
marked_asked (event.Timeout s) c = refl
marked_asked (event.Beat s) c = refl
marked_asked (event.Tick s ms) c = refl
marked_asked (event.Deliver k) c = refl
marked_asked (event.Drop k) c = refl
marked_asked (event.Restart s) c = refl
marked_asked (event.FailKeep s n) c = refl
marked_asked (event.Sync agent) c = refl
marked_asked (event.AgentTick agent ms) c = refl

step_asked : (c c' : Cluster) (made : Event) → ClusterStep c made c' true → c'.asked ≡ more_by (is_request made) c.asked
step_asked c c' made s = by (step_keeps c c' made true s)
  where
    by : Keeps (marked made c) c' ⊎ (Keeps (noted made c) c' × (true ≡ false)) → c'.asked ≡ more_by (is_request made) c.asked
    by (inl k) = k.asked ∙ marked_asked made c
    by (inr (k, e)) = absurd (true≢false e)

settling_asked : (n : ℕ) (c c' : Cluster) → Settling n c c' → c'.asked ≡ c.asked
settling_asked n c c' none = refl
settling_asked n c c' (pair {n = m} p c₁ c₂ low fits first fits' second more) =
    settling_asked m c₂ c' more ∙ step_asked c₁ c₂ (event.Drop p.number) second ∙ step_asked c c₁ (event.Deliver p.number) first

settling_takes : (start : Cluster) → IsStart start → (n : ℕ) (c c' : Cluster) → Settling n c c' → IsRun start c → (k : ℕ) → taken_times k c'.past ≡ taken_times k c.past
settling_takes start i n c c' none r k = refl
settling_takes start i n c c' (pair {n = m} p c₁ c₂ low fits first fits' second more) r k =
    let r₁ = step_run start c c₁ (event.Deliver p.number) fits first r in
    let r₂ = step_run start c₁ c₂ (event.Drop p.number) fits' second r₁ in
    settling_takes start i m c₂ c' more r₂ k
    ∙ step_takes start i c₁ c₂ (event.Drop p.number) fits' second r₁ k
    ∙ step_takes start i c c₁ (event.Deliver p.number) fits first r k

-- ---- where a line leads, before any out is taken

pub record Led (c c' : Cluster) (says : Said) : Type 0 where
  pub sound : Sound c'
  pub asked : c'.asked ≡ more_by (asks says) c.asked
  pub past : (k : ℕ) → taken_times k c'.past ≡ taken_times k c.past

pub leads : (start : Cluster) → IsStart start → (c c' : Cluster) (says : Said) → IsRun start c → LeadsTo c says c' → Led c c' says
leads start i c c' Nothing r l = absurd l
leads start i c c' (Refuses why) r l = absurd l
leads start i c c' (Makes made) r (fits, s) = record {
  sound = run_is_sound start i c' (event_run start c c' made fits s r);
  asked = step_asked c c' made s;
  past = step_takes start i c c' made (event_fits c made fits) s r;
}
leads start i c c' (Settles most) r (pairs, mid, s, e) = subst (λ (z : Cluster). Led c z (Settles most)) (sym e) (record {
  sound = run_is_sound start i (settled pairs mid) (settled_run start c mid pairs s r);
  asked = settling_asked pairs c mid s;
  past = settling_takes start i pairs c mid s r;
})

-- ---- the outs that wait

one_if_most : (b : Bool) → one_if b ≤ 1
one_if_most true = omega arith
one_if_most false = omega arith

waits_once : (c : Cluster) → Sound c → (k : ℕ) → out_times k c.tray ≤ 1
waits_once c s k = let e = s.none_lost k in let m = one_if_most (nat_lt 0 k && nat_le k c.asked) in omega (arith, e, m)

waits_asked : (c : Cluster) → Sound c → (k : ℕ) → 0 < out_times k c.tray → k ≤ c.asked
waits_asked c s k l =
    at_bool (λ _. k ≤ c.asked) (nat_le k c.asked) (λ e. le_tells k c.asked e)
    (λ e. let f = found_none c s k (le_tells_not k c.asked e) in absurd (omega (arith, f, l)))

waits_untaken : (c : Cluster) → Sound c → (k : ℕ) → 0 < out_times k c.tray → taken_times k c.past ≡ 0
waits_untaken c s k l = let e = s.none_lost k in let m = one_if_most (nat_lt 0 k && nat_le k c.asked) in omega (arith, e, m, l)

taken_counts : (k : ℕ) (number : Option ℕ) (past : List Mark) → taken_times k (taken number past) ≡ one_if (is_of k number) + taken_times k past
taken_counts k None past = omega arith
taken_counts k (Some n) past = refl

pub all_taken_counts : (k : ℕ) (outs : List Out) (past : List Mark) → taken_times k (all_taken outs past) ≡ out_times k outs + taken_times k past
all_taken_counts k [] past = omega arith
all_taken_counts k (o ∷ outs) past = let e = all_taken_counts k outs (taken (number_of o) past) in let f = taken_counts k (number_of o) past in omega (arith, e, f)

-- ---- one more filter

less_differs : (n k : ℕ) → k < n → (n == k) ≡ false
less_differs n k l = grind (arith, nat_tests)

more_differs : (n k : ℕ) → n < k → (n == k) ≡ false
more_differs n k l = grind (arith, nat_tests)

put_other : (n k : ℕ) (f : Option Expression) (kept : Filters) → (n == k) ≡ false → put_for n f kept k ≡ kept k
put_other n k None kept e = refl
put_other n k (Some f) kept e = rw e refl

put_same : (n k : ℕ) (f : Option Expression) (kept : Filters) → (n == k) ≡ true → kept k ≡ None → put_for n f kept k ≡ f
put_same n k None kept e free = free
put_same n k (Some f) kept e free = rw e refl

-- ---- the filters of lines

in_line : (says : ℕ → List ℕ → Said) (next k : ℕ) (line : List ℕ) (lines : List (List ℕ)) → asks (says next line) ≡ true → (next == k) ≡ true → filter_in says next (line ∷ lines) k ≡ filter_of_line line
in_line says next k line lines e f = rw (e, f) refl

behind_request : (says : ℕ → List ℕ → Said) (next k : ℕ) (line : List ℕ) (lines : List (List ℕ)) → asks (says next line) ≡ true → (next == k) ≡ false → filter_in says next (line ∷ lines) k ≡ filter_in says (suc next) lines k
behind_request says next k line lines e f = rw (e, f) refl

behind_other : (says : ℕ → List ℕ → Said) (next k : ℕ) (line : List ℕ) (lines : List (List ℕ)) → asks (says next line) ≡ false → filter_in says next (line ∷ lines) k ≡ filter_in says next lines k
behind_other says next k line lines e = rw e refl

-- no request has a number below the next one's
none_before : (says : ℕ → List ℕ → Said) (next : ℕ) (lines : List (List ℕ)) (k : ℕ) → k < next → filter_in says next lines k ≡ None
none_before says next [] k l = refl
none_before says next (line ∷ lines) k l =
    at_bool (λ _. filter_in says next (line ∷ lines) k ≡ None) (asks (says next line))
    (λ e. behind_request says next k line lines e (less_differs next k l) ∙ none_before says (suc next) lines k (omega (arith, l)))
    (λ e. behind_other says next k line lines e ∙ none_before says next lines k l)

-- ---- what is kept between lines

-- `filters` has those of all requests, and `kept` those of the requests whose outs were not taken yet; the others come from
-- the lines that follow.
pub record Agrees (filters kept : Filters) (says : ℕ → List ℕ → Said) (lines : List (List ℕ)) (c : Cluster) : Type 0 where
  pub waiting : (k : ℕ) → k ≤ c.asked → taken_times k c.past ≡ 0 → kept k ≡ filters k
  pub free : (k : ℕ) → c.asked < k → kept k ≡ None
  pub later : (k : ℕ) → c.asked < k → filter_in says (suc c.asked) lines k ≡ filters k

pub agrees_first : (says : ℕ → List ℕ → Said) (lines : List (List ℕ)) (kept : Filters) (start : Cluster) → IsFirstStart start → ((k : ℕ) → kept k ≡ None) → Agrees (filter_in says 1 lines) kept says lines start
agrees_first says lines kept start first free =
    let none : start.asked ≡ 0 = ap (λ (z : Cluster). z.asked) first.is in record {
      waiting = λ k l t. free k ∙ sym (none_before says 1 lines k (omega (arith, none, l)));
      free = λ k l. free k;
      later = λ k l. ap (λ n. filter_in says (suc n) lines k) none;
    }

module _ (filters kept : Filters) (says : ℕ → List ℕ → Said) (line : List ℕ) (lines : List (List ℕ)) (c : Cluster) where
  abbrev said : Said
  said = says (suc c.asked) line

  -- the filters that are kept with that of this line's request
  abbrev with_its : Filters
  with_its = put_for (suc c.asked) (filter_said said line) kept

  its_filter : asks said ≡ true → filter_said said line ≡ filter_of_line line
  its_filter e = rw e refl

  no_filter : asks said ≡ false → filter_said said line ≡ None
  no_filter e = rw e refl

  unchanged : asks said ≡ false → (k : ℕ) → with_its k ≡ kept k
  unchanged e k = ap (λ f. put_for (suc c.asked) f kept k) (no_filter e)

  -- whose outs are still to be taken once the line is played
  its_waiting : Agrees filters kept says (line ∷ lines) c → (d : Cluster) → Led c d said → (k : ℕ) → k ≤ d.asked → taken_times k d.past ≡ 0 → with_its k ≡ filters k
  its_waiting a d led k l t = at_bool (λ _. with_its k ≡ filters k) (asks said) request other
    where
      before : k ≤ c.asked → kept k ≡ filters k
      before m = a.waiting k m (sym (led.past k) ∙ t)

      other : asks said ≡ false → with_its k ≡ filters k
      other e = let n : d.asked ≡ c.asked = led.asked ∙ ap (λ b. more_by b c.asked) e in unchanged e k ∙ before (omega (arith, n, l))

      request : asks said ≡ true → with_its k ≡ filters k
      request e = at_bool (λ _. with_its k ≡ filters k) (suc c.asked == k)
          (λ same. let is = eq_tells (suc c.asked) k same in let more : c.asked < k = omega (arith, is) in
          put_same (suc c.asked) k (filter_said said line) kept same (a.free k more) ∙ its_filter e ∙ sym (in_line says (suc c.asked) k line lines e same) ∙ a.later k more)
          (λ differs. let n : d.asked ≡ suc c.asked = led.asked ∙ ap (λ b. more_by b c.asked) e in let not = eq_tells_not (suc c.asked) k differs in
          put_other (suc c.asked) k (filter_said said line) kept differs ∙ before (omega (arith, n, l, not)))

  -- the outs that wait where the line leads
  pub line_agrees : (start : Cluster) → IsStart start → IsRun start c → Agrees filters kept says (line ∷ lines) c → AreForAll filters with_its c said
  line_agrees start i r a d l =
      let led = leads start i c d said r l in
      (waits_once d led.sound, λ k some. its_waiting a d led k (waits_asked d led.sound k some) (waits_untaken d led.sound k some))

  its_free : Agrees filters kept says (line ∷ lines) c → (d : Cluster) → Led c d said → (k : ℕ) → d.asked < k → with_its k ≡ None
  its_free a d led k l = at_bool (λ _. with_its k ≡ None) (asks said)
      (λ e. let n : d.asked ≡ suc c.asked = led.asked ∙ ap (λ b. more_by b c.asked) e in
      put_other (suc c.asked) k (filter_said said line) kept (more_differs (suc c.asked) k (omega (arith, n, l))) ∙ a.free k (omega (arith, n, l)))
      (λ e. let n : d.asked ≡ c.asked = led.asked ∙ ap (λ b. more_by b c.asked) e in unchanged e k ∙ a.free k (omega (arith, n, l)))

  its_later : Agrees filters kept says (line ∷ lines) c → (d : Cluster) → Led c d said → (k : ℕ) → d.asked < k → filter_in says (suc d.asked) lines k ≡ filters k
  its_later a d led k l = at_bool (λ _. filter_in says (suc d.asked) lines k ≡ filters k) (asks said)
      (λ e. let n : d.asked ≡ suc c.asked = led.asked ∙ ap (λ b. more_by b c.asked) e in
      ap (λ m. filter_in says (suc m) lines k) n ∙ sym (behind_request says (suc c.asked) k line lines e (more_differs (suc c.asked) k (omega (arith, n, l)))) ∙ a.later k (omega (arith, n, l)))
      (λ e. let n : d.asked ≡ c.asked = led.asked ∙ ap (λ b. more_by b c.asked) e in
      ap (λ m. filter_in says (suc m) lines k) n ∙ sym (behind_other says (suc c.asked) k line lines e) ∙ a.later k (omega (arith, n, l)))

  agrees_led : Agrees filters kept says (line ∷ lines) c → (d : Cluster) → Led c d said → (left : Filters) → KeepsWaiting with_its left (emptied d).past → Agrees filters left says lines (emptied d)
  agrees_led a d led left keeps = record {
    waiting = λ k l t. let e = all_taken_counts k d.tray d.past in keeps.0 k t ∙ its_waiting a d led k l (omega (arith, e, t));
    free = λ k l. keeps.1 k (its_free a d led k l);
    later = λ k l. its_later a d led k l;
  }

  -- and so it goes on
  pub agrees_next : (e : Cluster) (outs : List Out) (n : ℕ) (start : Cluster) → IsStart start → IsRun start c → Agrees filters kept says (line ∷ lines) c → (left : Filters) → Turns c said e outs (turn.Made n) → KeepsWaiting with_its left e.past → Agrees filters left says lines e
  agrees_next e outs n start i r a left turns keeps = by said refl turns
    where
      by : (w : Said) → said ≡ w → Turns c w e outs (turn.Made n) → Agrees filters left says lines e
      by Nothing is (same, given, counts) = subst (Agrees filters left says lines) (sym same) (record {
        waiting = λ k l t. (subst (λ (z : Cluster). KeepsWaiting with_its left z.past) same keeps).0 k t ∙ unchanged (ap asks is) k ∙ a.waiting k l t;
        free = λ k l. (subst (λ (z : Cluster). KeepsWaiting with_its left z.past) same keeps).1 k (unchanged (ap asks is) k ∙ a.free k l);
        later = λ k l. sym (behind_other says (suc c.asked) k line lines (ap asks is)) ∙ a.later k l;
      })
      by (Makes made) is (fits, (d, step, same, given), counts) =
          subst (Agrees filters left says lines) (sym same)
          (agrees_led a d (leads start i c d said r (subst (λ w. LeadsTo c w d) (sym is) (fits, step))) left (subst (λ (z : Cluster). KeepsWaiting with_its left z.past) same keeps))
      by (Settles most) is (pairs, (mid, s, few, stops, same, given), counts) =
          subst (Agrees filters left says lines) (sym same)
          (agrees_led a (settled pairs mid) (leads start i c (settled pairs mid) said r (subst (λ w. LeadsTo c w (settled pairs mid)) (sym is) (pairs, mid, s, refl))) left (subst (λ (z : Cluster). KeepsWaiting with_its left z.past) same keeps))
      by (Refuses why) is t = absurd t

-- ---- lines that were played so far

pub so_far_run : (adds : Out → List ℕ) (says : ℕ → List ℕ → Said) (first : ℕ) (all : List (List ℕ)) (start : Cluster) (held held' : Option (List ℕ)) (made number : ℕ) (lines : List (List ℕ)) (c : Cluster) →
    SoFar adds says first all start held held' made number lines c → IsRun start c
so_far_run adds says first all start held held' made number lines c s =
    plays_run says first all start start (s.outs ++ []) Broken c (s.on [] Broken c breaks).plays (start_run start)

module _ (adds : Option Expression → Out → List ℕ) (filters kept : Filters) (says : ℕ → List ℕ → Said) (first : ℕ) (all : List (List ℕ)) (start : Cluster) (held held' : Option (List ℕ)) (made number : ℕ) (line : List ℕ) (lines : List (List ℕ)) (c : Cluster) where
  abbrev IsSoFar : Type 0
  IsSoFar = SoFar (through adds filters) says first all start held held' made number (line ∷ lines) c

  abbrev its : Filters
  its = put_for (suc c.asked) (filter_said (says (suc c.asked) line) line) kept

  pub line_ready : IsFirstStart start → IsSoFar → Agrees filters kept says (line ∷ lines) c → AreForAll filters its c (says (suc c.asked) line)
  line_ready i s a = line_agrees filters kept says line lines c start (a_start start i) (so_far_run (through adds filters) says first all start held held' made number (line ∷ lines) c s) a

  pub line_played : (d : Cluster) (n : ℕ) (held'' : Option (List ℕ)) → IsFirstStart start → IsSoFar → Agrees filters kept says (line ∷ lines) c →
      ((f : Filters) → AreForAll f its c (says (suc c.asked) line) → TakesAll (through adds f) (λ outs. Turns c (says (suc c.asked) line) d outs (turn.Made n)) held' held'') →
      (left : Filters) → KeepsWaiting its left d.past →
      SoFar (through adds filters) says first all start held held'' (made + n) (suc number) lines d × Agrees filters left says lines d
  line_played d n held'' i s a takes left keeps =
      let all_taken = takes filters (line_ready i s a) in (
        so_far_more (through adds filters) says first all start held held' held'' made number line lines c d n s all_taken,
        agrees_next filters kept says line lines c d all_taken.0 n start (a_start start i) (so_far_run (through adds filters) says first all start held held' made number (line ∷ lines) c s) a left all_taken.1 keeps,
      )

-- ---- the taking of one out

filter_same : (filters kept : Filters) (n : Option ℕ) → ((k : ℕ) → 0 < one_if (is_of k n) → kept k ≡ filters k) → option_and_then kept n ≡ option_and_then filters n
filter_same filters kept None h = refl
filter_same filters kept (Some n) h = h n (let e : one_if (n == n) ≡ 1 = ap one_if (eq_self n) in omega (arith, e))

pub first_agrees : (filters kept : Filters) (out : Out) (rest : List Out) → AreFor filters kept (out ∷ rest) → filter_of kept out ≡ filter_of filters out
first_agrees filters kept out rest a = filter_same filters kept (number_of out) (λ k l. a.1 k (omega (arith, l)))

abbrev IsWithout : Out → (kept kept' : Filters) → Type 0
IsWithout out kept kept' = (k : ℕ) → kept' k ≡ cond (is_of k (number_of out)) None (kept k)

stays : (out : Out) (kept kept' : Filters) → IsWithout out kept kept' → (k : ℕ) → is_of k (number_of out) ≡ false → kept' k ≡ kept k
stays out kept kept' w k e = w k ∙ ap (λ b. cond b None (kept k)) e

one_if_none : (b : Bool) → one_if b ≤ 0 → b ≡ false
one_if_none true l = absurd (omega (arith, l))
one_if_none false l = refl

pub rest_agrees : (filters kept kept' : Filters) (out : Out) (rest : List Out) → AreFor filters kept (out ∷ rest) → IsWithout out kept kept' → AreFor filters kept' rest
rest_agrees filters kept kept' out rest a w = (
  λ k. let l = a.0 k in omega (arith, l),
  λ k some. let l = a.0 k in stays out kept kept' w k (one_if_none (is_of k (number_of out)) (omega (arith, l, some))) ∙ a.1 k (omega (arith, some)),
)

-- the filter that goes is that of a request whose out was taken
pub still_keeps : (c d : Cluster) (out : Out) (rest : List Out) (before kept kept' : Filters) → c.tray ≡ out ∷ rest → emptied c ≡ emptied d → KeepsWaiting before kept (emptied d).past → IsWithout out kept kept' → KeepsWaiting before kept' (emptied d).past
still_keeps c d out rest before kept kept' tray same keeps w = (λ k t. stays out kept kept' w k (other k t) ∙ keeps.0 k t, λ k free. gone k (keeps.1 k free))
  where
    other : (k : ℕ) → taken_times k (emptied d).past ≡ 0 → is_of k (number_of out) ≡ false
    other k t =
        let e = ap (λ (z : Cluster). taken_times k z.past) same ∙ t in
        let counts = all_taken_counts k c.tray c.past in
        let outs = ap (out_times k) tray in
        one_if_none (is_of k (number_of out)) (omega (arith, e, counts, outs))

    gone : (k : ℕ) → kept k ≡ None → kept' k ≡ None
    gone k e = w k ∙ at_bool (λ b. cond b None (kept k) ≡ None) (is_of k (number_of out)) (λ _. refl) (λ _. e)

-- ---- filters that are the same for each request

pub for_same : (filters kept other : Filters) (c : Cluster) (says : Said) → ((k : ℕ) → kept k ≡ other k) → AreForAll filters other c says → AreForAll filters kept c says
for_same filters kept other c says same a d l = ((a d l).0, λ k some. same k ∙ (a d l).1 k some)

pub keeps_same : (kept other left : Filters) (past : List Mark) → ((k : ℕ) → kept k ≡ other k) → KeepsWaiting kept left past → KeepsWaiting other left past
keeps_same kept other left past same keeps = (λ k t. keeps.0 k t ∙ same k, λ k free. keeps.1 k (same k ∙ free))
