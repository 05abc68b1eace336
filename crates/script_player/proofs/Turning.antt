-- What a line does, and what it writes.
use Rattle.std.proofs.Common.{◌≡◌, ◌⊎◌, ◌*◌, inl, inr, ℕ, true, List, [], ◌∷◌, Option, None, Result, Ok, Err, OnOk, OnErr, refl, sym, subst, ap, ◌∙◌}
use Rattle.std.specs.List.{flat_map}
use Rattle.std.specs.Io.KnownBytes.{Appends}
use Rattle.std.proofs.KnownBytes.{Appends-nil}
use Rattle.cat_model.specs.declared.request.Event.{Event}
use Rattle.cluster_rules.specs.Replies.{Out, number_of}
use Rattle.cluster_rules.specs.Cluster.{Cluster}
use Rattle.cluster_rules.specs.Step.{ClusterStep}
use Rattle.script_lang.specs.declared.bad_line.BadLine.{BadLine}
use Rattle.script_lang.specs.Text.{reason_text}
use Rattle.run_rules.specs.Lines.{Said, Nothing, Makes, Settles, Refuses, misfit}
use Rattle.run_rules.specs.Plays.{emptied, settled, taken, all_taken}
use Rattle.script_player.specs.declared.stage.Turn.TheVariants as turn
use Rattle.cluster_interface.specs.Interface.{SettlesTo}
use Rattle.filter_expr.specs.Expressions.{Expression}
use Rattle.script_player.specs.Filters.{Filters}
use Rattle.script_player.specs.declared.reader.Says.{Says}
use Rattle.script_player.specs.Stage.{AreFor, AreForAll, IsMisfit, IsRead, MakesTo, SettlesAll, Turns, GoesOn, TakesAll, TakesFirst, through}
use Rattle.script_player.specs.Run.{WritesPart}
use Rattle.script_player.proofs.Filtering.{for_same}

-- one out less waits, and it is marked
pub emptied_first : (c d : Cluster) (out : Out) → (rest : List Out) × (c.tray ≡ out ∷ rest) × (d ≡ record c { tray = rest; past = taken (number_of out) c.past }) → emptied d ≡ emptied c
emptied_first c d out (rest, tray, is) =
    subst (λ (z : Cluster). emptied z ≡ emptied c) (sym is)
    (subst (λ (outs : List Out). record c { tray = []; past = all_taken rest (taken (number_of out) c.past) } ≡ record c { tray = []; past = all_taken outs c.past }) (sym tray) refl)

-- and stands before the others
pub tray_first : (c d : Cluster) (out : Out) → (rest : List Out) × (c.tray ≡ out ∷ rest) × (d ≡ record c { tray = rest; past = taken (number_of out) c.past }) → c.tray ≡ out ∷ d.tray
tray_first c d out (rest, tray, is) = subst (λ (z : Cluster). c.tray ≡ out ∷ z.tray) (sym is) tray

-- nothing is written yet
pub none_first : (adds : Out → List ℕ) (Gives : List Out → Type 0) (held : Option (List ℕ)) → TakesFirst adds Gives held held
none_first adds Gives held = inl (Appends-nil held)

-- an event, and its outs
pub made_to : (adds : Out → List ℕ) (c d e : Cluster) (made : Event) (held held' : Option (List ℕ)) → ClusterStep c made d true → e ≡ emptied d → Appends held held' (flat_map adds d.tray) → TakesAll adds (MakesTo c made e) held held'
made_to adds c d e made held held' step is written = (d.tray, (d, step, is, refl), written)

pub made_first : (adds : Out → List ℕ) (c d : Cluster) (made : Event) (held held' : Option (List ℕ)) → ClusterStep c made d true → WritesPart held held' (flat_map adds d.tray) → TakesFirst adds (λ outs. (e : Cluster) × MakesTo c made e outs) held held'
made_first adds c d made held held' step part = inr (d.tray, (emptied d, (d, step, refl, refl)), part)

-- a settling, and a first part of its outs
settled_first : (adds : Out → List ℕ) (c d : Cluster) (most pairs : ℕ) (held held' : Option (List ℕ)) → SettlesTo most c d pairs → WritesPart held held' (flat_map adds d.tray) → TakesFirst adds (λ outs. (n : ℕ) × (e : Cluster) × SettlesAll c most n e outs) held held'
settled_first adds c d most pairs held held' (mid, s, d_is, few, stops) part =
    let tray : d.tray ≡ mid.tray = ap (λ (z : Cluster). z.tray) d_is in
    inr (d.tray, (pairs, emptied (settled pairs mid), (mid, s, few, stops, refl, tray)), part)

-- what a line does, by what it says
pub turn_made_first : (adds : Out → List ℕ) (c : Cluster) (says : Said) (made : Event) (held held' : Option (List ℕ)) → says ≡ Makes made → misfit c made ≡ None → TakesFirst adds (λ outs. (d : Cluster) × MakesTo c made d outs) held held' → TakesFirst adds (GoesOn c says) held held'
turn_made_first adds c says made held held' e fits (inl nothing) = inl nothing
turn_made_first adds c says made held held' e fits (inr (outs, (d, m), part)) =
    inr (outs, (d, 1, subst (λ (z : Said). Turns c z d outs (turn.Made 1)) (sym e) (fits, m, refl)), part)

pub turn_settled_first : (adds : Out → List ℕ) (c : Cluster) (says : Said) (most : ℕ) (held held' : Option (List ℕ)) → says ≡ Settles most → TakesFirst adds (λ outs. (n : ℕ) × (d : Cluster) × SettlesAll c most n d outs) held held' → TakesFirst adds (GoesOn c says) held held'
turn_settled_first adds c says most held held' e (inl nothing) = inl nothing
turn_settled_first adds c says most held held' e (inr (outs, (n, d, s), part)) =
    inr (outs, (d, 2 * n, subst (λ (z : Said). Turns c z d outs (turn.Made (2 * n))) (sym e) (n, s, refl)), part)

pub turn_refused : (adds : Out → List ℕ) (c : Cluster) (says : Said) (why : BadLine) (held : Option (List ℕ)) → (says ≡ Refuses (reason_text why)) ⊎ IsMisfit c says why → TakesAll adds (λ outs. Turns c says c outs (turn.Refused why)) held held
turn_refused adds c says why held (inl e) =
    subst (λ (z : Said). TakesAll adds (λ outs. Turns c z c outs (turn.Refused why)) held held) (sym e) ([], (refl, refl, refl), Appends-nil held)
turn_refused adds c says why held (inr (made, miss, e, misfit_is, text)) =
    subst (λ (z : Said). TakesAll adds (λ outs. Turns c z c outs (turn.Refused why)) held held) (sym e) ([], (miss, misfit_is, text, refl, refl), Appends-nil held)

-- each with its filter, whether the outs could be written or not
pub made_all : {T E : Type 0} (adds : Option Expression → Out → List ℕ) (kept : Filters) (r : Result T E) (c d e : Cluster) (made : Event) (held held' : Option (List ℕ)) → misfit c made ≡ None → ClusterStep c made d true →
    OnOk r (e ≡ emptied d) → OnOk r ((f : Filters) → AreFor f kept d.tray → Appends held held' (flat_map (through adds f) d.tray)) →
    OnOk r ((f : Filters) → AreForAll f kept c (Makes made) → TakesAll (through adds f) (MakesTo c made e) held held')
made_all adds kept (Ok x) c d e made held held' fits step is w = λ f a. made_to (through adds f) c d e made held held' step is (w f (a d (fits, step)))
made_all adds kept (Err x) c d e made held held' fits step is w = tt

pub made_part : {T E : Type 0} (adds : Option Expression → Out → List ℕ) (kept : Filters) (r : Result T E) (c d : Cluster) (made : Event) (held held' : Option (List ℕ)) → misfit c made ≡ None → ClusterStep c made d true →
    OnErr r ((f : Filters) → AreFor f kept d.tray → WritesPart held held' (flat_map (through adds f) d.tray)) →
    OnErr r ((f : Filters) → AreForAll f kept c (Makes made) → TakesFirst (through adds f) (λ outs. (e : Cluster) × MakesTo c made e outs) held held')
made_part adds kept (Ok x) c d made held held' fits step part = tt
made_part adds kept (Err x) c d made held held' fits step part = λ f a. made_first (through adds f) c d made held held' step (part f (a d (fits, step)))

pub settled_all : (adds : Option Expression → Out → List ℕ) (kept : Filters) (c d e : Cluster) (most pairs : ℕ) (held held' : Option (List ℕ)) → SettlesTo most c d pairs →
    e ≡ emptied d → ((f : Filters) → AreFor f kept d.tray → Appends held held' (flat_map (through adds f) d.tray)) →
    (f : Filters) → AreForAll f kept c (Settles most) → TakesAll (through adds f) (SettlesAll c most pairs e) held held'
settled_all adds kept c d e most pairs held held' (mid, s, d_is, few, stops) is w f a =
    (d.tray, (mid, s, few, stops, is ∙ ap emptied d_is, ap (λ (z : Cluster). z.tray) d_is), w f (a d (pairs, mid, s, d_is)))

pub settled_part : (adds : Option Expression → Out → List ℕ) (kept : Filters) (c d : Cluster) (most pairs : ℕ) (held held' : Option (List ℕ)) → (x : SettlesTo most c d pairs) →
    ((f : Filters) → AreFor f kept d.tray → WritesPart held held' (flat_map (through adds f) d.tray)) →
    (f : Filters) → AreForAll f kept c (Settles most) → TakesFirst (through adds f) (λ outs. (n : ℕ) × (e : Cluster) × SettlesAll c most n e outs) held held'
settled_part adds kept c d most pairs held held' x part f a =
    settled_first (through adds f) c d most pairs held held' x (part f (a d (pairs, x.0, x.1, x.2)))

-- the outs of a line that was played whole
pub turn_nothing : (adds : Out → List ℕ) (c : Cluster) (says : Said) (held : Option (List ℕ)) → says ≡ Nothing → TakesAll adds (λ outs. Turns c says c outs (turn.Made 0)) held held
turn_nothing adds c says held e = subst (λ (z : Said). TakesAll adds (λ outs. Turns c z c outs (turn.Made 0)) held held) (sym e) ([], (refl, refl, refl), Appends-nil held)

pub turn_made : (adds : Out → List ℕ) (c d : Cluster) (says : Said) (made : Event) (held held' : Option (List ℕ)) → says ≡ Makes made → misfit c made ≡ None → TakesAll adds (MakesTo c made d) held held' → TakesAll adds (λ outs. Turns c says d outs (turn.Made 1)) held held'
turn_made adds c d says made held held' e fits (outs, m, w) = (outs, subst (λ (z : Said). Turns c z d outs (turn.Made 1)) (sym e) (fits, m, refl), w)

pub turn_settled : (adds : Out → List ℕ) (c d : Cluster) (says : Said) (most n : ℕ) (held held' : Option (List ℕ)) → says ≡ Settles most → TakesAll adds (SettlesAll c most n d) held held' → TakesAll adds (λ outs. Turns c says d outs (turn.Made (2 * n))) held held'
turn_settled adds c d says most n held held' e (outs, s, w) = (outs, subst (λ (z : Said). Turns c z d outs (turn.Made (2 * n))) (sym e) (n, s, refl), w)

-- what is so of any line that is read so is so of this one
pub part_same : {T E : Type 0} (r : Result T E) (kept its : Filters) (c : Cluster) (said : Said) (says : Says) (P : Said → Filters → Type 0) → ((k : ℕ) → kept k ≡ its k) → IsRead c said says →
    OnErr r ((s : Said) (f : Filters) → IsRead c s says → AreForAll f kept c s → P s f) → OnErr r ((f : Filters) → AreForAll f its c said → P said f)
part_same (Ok x) kept its c said says P same read h = tt
part_same (Err x) kept its c said says P same read h = λ f a. h said f read (for_same f kept its c said same a)
