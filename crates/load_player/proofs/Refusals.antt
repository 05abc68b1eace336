-- No line of a load is refused.
use Rattle.std.proofs.Common.{◌≡◌, ◌⊎◌, inl, inr, ℕ, suc, ◌+◌, ◌<◌, ◌^◌, true, List, ◌∷◌, length, codes, None, Some, refl, sym, ap, ◌∙◌, subst, arith}
use Rattle.std.specs.List.{AllByRecursion as Each}
use Rattle.cat_model.specs.declared.request.Asked.{Asked}
use Rattle.cat_model.specs.declared.request.Draw.{Draw}
use Rattle.cat_model.specs.declared.request.Event.TheVariants.{Ask, Timeout}
use Rattle.cluster_rules.specs.Replies.{Out}
use Rattle.cluster_rules.specs.Cluster.{Cluster}
use Rattle.cluster_rules.specs.Reached.{Settling, none, pair}
use Rattle.load_player.specs.LoadScript.{load_script, requests_from, drawn}
use Rattle.run_rules.specs.Lines.{Said, Nothing, Makes, Settles, Refuses, misfit}
use Rattle.run_rules.specs.Plays.{Refused, Plays, skips, makes, settles, refuses, misfits}
use Rattle.script_player.specs.Run.{IsRefused, closed, played}
use Rattle.script_player.specs.Script.{said, script_of}
use Rattle.run_rules.proofs.Serving.{agents_after}
use Rattle.load_player.proofs.Drawing.{drawn_length}
use Rattle.load_player.proofs.Lines.{each_line}
use Rattle.load_player.proofs.Saying.{AsksOne, load_opening, request_said, settle_said, timeout_said, script_is}

-- a line that asks agent 1 or settles
abbrev Goes : (ℕ → List ℕ → Said) → List ℕ → Type 0
Goes says line = (number : ℕ) → AsksOne (says number line) ⊎ (says number line ≡ Settles 64)

says_something : (w : Said) → AsksOne w ⊎ (w ≡ Settles 64) → w ≡ Nothing → ⊥
says_something w (inl (what, draw, e)) n = cc (sym e ∙ n)
says_something w (inr e) n = cc (sym e ∙ n)

never_refuses : (w : Said) (why : List ℕ) → AsksOne w ⊎ (w ≡ Settles 64) → w ≡ Refuses why → ⊥
never_refuses w why (inl (what, draw, e)) n = cc (sym e ∙ n)
never_refuses w why (inr e) n = cc (sym e ∙ n)

fits_one : (c : Cluster) (what : Asked) (draw : Draw) → length c.agents ≡ 1 → misfit c (Ask 1 what draw) ≡ None
unfolding misfit
fits_one c what draw one = rw one refl

always_fits : (c : Cluster) (w : Said) (made : _) (why : _) → length c.agents ≡ 1 → AsksOne w ⊎ (w ≡ Settles 64) → w ≡ Makes made → misfit c made ≡ Some why → ⊥
always_fits c w made why one (inl (what, draw, e)) is bad =
    let same : Ask 1 what draw ≡ made = cc (sym e ∙ is) in
    cc (sym (fits_one c what draw one) ∙ (ap (misfit c) same ∙ bad))
always_fits c w made why one (inr e) is bad = cc (sym e ∙ is)

agents_settled : (n : ℕ) (c c' : Cluster) → Settling n c c' → length c'.agents ≡ length c.agents
agents_settled _ c _ none = refl
agents_settled _ c c' (pair {n = n} p c₁ c₂ lowest fits step fits' step' more) =
    agents_settled n c₂ c' more ∙ agents_after c₁ c₂ _ true step' ∙ agents_after c c₁ _ true step

goes_on : (says : ℕ → List ℕ → Said) (number : ℕ) (lines : List (List ℕ)) (c c' : Cluster) (outs : List Out) (n : ℕ) (why : List ℕ) →
    Each (Goes says) lines → length c.agents ≡ 1 → Plays says number lines c outs (Refused n why) c' → ⊥
goes_on says number _ c c' outs n why all one (skips {lines = more} is p) = says_something _ (all.0 (suc c.asked)) is
goes_on says number _ c c' _ n why all one (makes {lines = more} {outs = later} made c₁ is fits step p) =
    goes_on says (suc number) more _ c' later n why all.1 (agents_after c c₁ made true step ∙ one) p
goes_on says number _ c c' _ n why all one (settles {lines = more} {outs = later} most pairs c₁ is s few stops p) =
    goes_on says (suc number) more _ c' later n why all.1 (agents_settled pairs c c₁ s ∙ one) p
goes_on says number _ c _ _ _ _ all one (refuses why is) = never_refuses _ why (all.0 (suc c.asked)) is
goes_on says number _ c _ _ _ _ all one (misfits made why is bad) = always_fits c _ made why one (all.0 (suc c.asked)) is bad

timeout_fits : (c : Cluster) → length c.servers ≡ 3 → misfit c (Timeout 1) ≡ None
unfolding misfit
timeout_fits c three = rw three refl

-- nor the first one, by which server 1 stands for election
begins : (says : ℕ → List ℕ → Said) (number : ℕ) (line : List ℕ) (lines : List (List ℕ)) (c c' : Cluster) (outs : List Out) (n : ℕ) (why : List ℕ) →
    ((k : ℕ) → says k line ≡ Makes (Timeout 1)) → Each (Goes says) lines → length c.servers ≡ 3 → length c.agents ≡ 1 → Plays says number (line ∷ lines) c outs (Refused n why) c' → ⊥
begins says number line lines c c' outs n why first all three one (skips is p) = cc (sym (first (suc c.asked)) ∙ is)
begins says number line lines c c' _ n why first all three one (makes {outs = later} made c₁ is fits step p) =
    goes_on says (suc number) lines _ c' later n why all (agents_after c c₁ made true step ∙ one) p
begins says number line lines c c' _ n why first all three one (settles most pairs c₁ is s few stops p) = cc (sym (first (suc c.asked)) ∙ is)
begins says number line lines c _ _ _ _ first all three one (refuses why is) = cc (sym (first (suc c.asked)) ∙ is)
begins says number line lines c _ _ _ _ first all three one (misfits made why is bad) =
    let same : Timeout 1 ≡ made = cc (sym (first (suc c.asked)) ∙ is) in
    cc (sym (timeout_fits c three) ∙ (ap (misfit c) same ∙ bad))

lines_go : (seed : ℕ) (words : List ℕ) → 1 + length words < 2 ^ 64 → Each (Goes (said seed)) (codes "settle 64" ∷ requests_from 1 words)
lines_go seed words few =
    let settling : Goes (said seed) (codes "settle 64") = λ number. inr (settle_said seed number) in
    (settling, each_line (Goes (said seed)) 1 words few settling (λ method j k small key number. inl (request_said seed number method j k small key)))

few_drawn : (seed size : ℕ) → size < 2 ^ 32 → 1 + length (drawn seed size) < 2 ^ 64
few_drawn seed size few = let e = drawn_length seed size in omega (arith, few, e)

pub never_refused : (seed size : ℕ) → seed < 2 ^ 64 → size < 2 ^ 32 → IsRefused (script_of (load_script seed size)) → ⊥
never_refused seed size small few (line, why, text, closed _ _ e) =
    cc (sym (script_is seed size small (few_drawn seed size few)) ∙ e)
never_refused seed size small few (line, why, text, played outs _ run) =
    let lines = codes "settle 64" ∷ requests_from 1 (drawn seed size) in
    let drawn_few = few_drawn seed size few in
    let e = sym (script_is seed size small drawn_few) ∙ run.opened in
    let opening : load_opening seed ≡ run.opening = cc e in
    let same : codes "timeout 1" ∷ lines ≡ run.lines = cc e in
    let seeds : run.opening.seed ≡ seed = sym (ap (λ o. o.seed) opening) in
    let plays = subst (λ s. Plays (said s) run.next run.lines run.start outs (Refused line why) run.reached) seeds run.plays in
    begins (said seed) run.next (codes "timeout 1") lines run.start run.reached outs line why (timeout_said seed) (lines_go seed (drawn seed size) drawn_few)
    (run.servers ∙ sym (ap (λ o. o.servers) opening)) (run.agents ∙ sym (ap (λ o. o.agents) opening))
    (subst (λ ls. Plays (said seed) run.next ls run.start outs (Refused line why) run.reached) (sym same) plays)
