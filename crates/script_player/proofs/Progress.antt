-- The lines that were played so far, and those that follow.
use Rattle.std.proofs.Common.{◌≡◌, inl, inr, ℕ, suc, ◌+◌, ◌*◌, List, [], ◌∷◌, ◌++◌, Option, refl, sym, ◌∙◌, subst, append_assoc, append-nil, arith, true, nat_eq, length, eqb-true}
use Rattle.std.specs.List.{flat_map}
use Rattle.std.specs.Io.KnownBytes.{Appends}
use Rattle.std.proofs.KnownBytes.{Appends-nil, Appends-trans}
use Rattle.std.proofs.lemmas.Grind.{flat_map-append}
use Rattle.cluster_rules.specs.Replies.{Out}
use Rattle.cluster_rules.specs.Cluster.{Cluster}
use Rattle.script_lang.specs.declared.bad_line.BadLine.{BadLine}
use Rattle.script_lang.specs.Text.{reason_text}
use Rattle.run_rules.specs.Lines.{Said, Nothing, Makes, Settles, Refuses}
use Rattle.run_rules.specs.Plays.{Ending, Whole, Refused, Broken, Plays, over, breaks, skips, makes, settles, refuses, misfits, emptied, settled}
use Rattle.script_player.specs.declared.stage.Turn.TheVariants as turn
use Rattle.script_player.specs.Stage.{Turns, GoesOn, TakesAll, TakesFirst, PlaysTo, PlaysPart}
use Rattle.script_player.specs.Run.{WritesPart, made_in}
use Rattle.script_player.specs.Line.{lines_of}
use Rattle.script_player.proofs.Written.{part_after}

-- lines with the number of their events
pub record Longer (says : ℕ → List ℕ → Said) (number : ℕ) (lines : List (List ℕ)) (c : Cluster) (outs : List Out) (end : Ending) (c' : Cluster) (made : ℕ) : Type 0 where
  pub plays : Plays says number lines c outs end c'
  pub counts : made_in says number lines c outs end c' plays ≡ made

-- whatever the lines do that follow, a line goes before them
abbrev Follows : (says : ℕ → List ℕ → Said) (number : ℕ) (line : List ℕ) (lines : List (List ℕ)) (c d : Cluster) (outs : List Out) (n : ℕ) → Type 0
Follows says number line lines c d outs n =
    (later : List Out) (end : Ending) (c' : Cluster) (p : Plays says (suc number) lines d later end c') →
    Longer says number (line ∷ lines) c (outs ++ later) end c' (n + made_in says (suc number) lines d later end c' p)

follows_as : (says : ℕ → List ℕ → Said) (number : ℕ) (line : List ℕ) (lines : List (List ℕ)) (c d e : Cluster) (outs outs' : List Out) (n m : ℕ) →
    e ≡ d → outs' ≡ outs → m ≡ n → Follows says number line lines c d outs n → Follows says number line lines c e outs' m
follows_as says number line lines c d e outs outs' n m same given counts f =
    subst (λ z. Follows says number line lines c z outs' m) (sym same)
    (subst (λ z. Follows says number line lines c d z m) (sym given)
    (subst (λ z. Follows says number line lines c d outs z) (sym counts) f))

zero_more : (n : ℕ) → n ≡ 0 + n
zero_more n = omega arith

pub follows : (says : ℕ → List ℕ → Said) (number : ℕ) (line : List ℕ) (lines : List (List ℕ)) (c d : Cluster) (outs : List Out) (n : ℕ) →
    Turns c (says (suc c.asked) line) d outs (turn.Made n) → Follows says number line lines c d outs n
follows says number line lines c d outs n t = by (says (suc c.asked) line) refl t
  where
    by : (w : Said) → says (suc c.asked) line ≡ w → Turns c w d outs (turn.Made n) → Follows says number line lines c d outs n
    by Nothing e (same, given, counts) =
        follows_as says number line lines c c d [] outs 0 n same given counts
        (λ later end c' p. record { plays = skips e p; counts = zero_more (made_in says (suc number) lines c later end c' p) })
    by (Makes made) e (fits, (c₁, step, same, given), counts) =
        follows_as says number line lines c (emptied c₁) d c₁.tray outs 1 n same given counts
        (λ later end c' p. record { plays = makes made c₁ e fits step p; counts = refl })
    by (Settles most) e (pairs, (c₁, s, few, stops, same, given), counts) =
        follows_as says number line lines c (emptied (settled pairs c₁)) d c₁.tray outs (2 * pairs) n same given counts
        (λ later end c' p. record { plays = settles most pairs c₁ e s few stops p; counts = refl })
    by (Refuses why) e t = absurd t

-- a line that is refused ends the run
pub ends_refused : (says : ℕ → List ℕ → Said) (number : ℕ) (line : List ℕ) (lines : List (List ℕ)) (c d : Cluster) (outs : List Out) (bad : BadLine) →
    Turns c (says (suc c.asked) line) d outs (turn.Refused bad) → (d ≡ c) × (outs ≡ []) × Longer says number (line ∷ lines) c [] (Refused number (reason_text bad)) c 0
ends_refused says number line lines c d outs bad t = by (says (suc c.asked) line) refl t
  where
    by : (w : Said) → says (suc c.asked) line ≡ w → Turns c w d outs (turn.Refused bad) → (d ≡ c) × (outs ≡ []) × Longer says number (line ∷ lines) c [] (Refused number (reason_text bad)) c 0
    by Nothing e t = absurd t
    by (Makes made) e (miss, misfit_is, text, same, none) =
        (same, none, subst (λ z. Longer says number (line ∷ lines) c [] (Refused number z) c 0) (sym text) (record { plays = misfits made miss e misfit_is; counts = refl }))
    by (Settles most) e t = absurd t
    by (Refuses why) e (same, none, is) =
        (same, none, subst (λ z. Longer says number (line ∷ lines) c [] (Refused number z) c 0) is (record { plays = refuses why e; counts = refl }))

-- What was played so far, whatever follows, with all its outs taken.
pub record SoFar (adds : Out → List ℕ) (says : ℕ → List ℕ → Said) (first : ℕ) (all : List (List ℕ)) (start : Cluster) (held held' : Option (List ℕ)) (made : ℕ) (number : ℕ) (lines : List (List ℕ)) (c : Cluster) : Type 0 where
  pub outs : List Out
  pub taken : Appends held held' (flat_map adds outs)
  pub on : (later : List Out) (end : Ending) (c' : Cluster) (p : Plays says number lines c later end c') →
      Longer says first all start (outs ++ later) end c' (made + made_in says number lines c later end c' p)

pub so_far_none : (adds : Out → List ℕ) (says : ℕ → List ℕ → Said) (first : ℕ) (all : List (List ℕ)) (start : Cluster) (held : Option (List ℕ)) → SoFar adds says first all start held held 0 first all start
so_far_none adds says first all start held = record {
  outs = [];
  taken = Appends-nil held;
  on = λ later end c' p. record { plays = p; counts = zero_more (made_in says first all start later end c' p) };
}

longer_as : (says : ℕ → List ℕ → Said) (number : ℕ) (lines : List (List ℕ)) (c : Cluster) (outs outs' : List Out) (end : Ending) (c' : Cluster) (made made' : ℕ) →
    outs ≡ outs' → made ≡ made' → Longer says number lines c outs end c' made → Longer says number lines c outs' end c' made'
longer_as says number lines c outs outs' end c' made made' e f l =
    subst (λ z. Longer says number lines c outs' end c' z) f (subst (λ z. Longer says number lines c z end c' made) e l)

texts_join : (adds : Out → List ℕ) (held held' held'' : Option (List ℕ)) (outs more : List Out) → Appends held held' (flat_map adds outs) → Appends held' held'' (flat_map adds more) → Appends held held'' (flat_map adds (outs ++ more))
texts_join adds held held' held'' outs more a b =
    subst (λ (z : List ℕ). Appends held held'' z) (sym (flat_map-append adds outs more)) (Appends-trans held held' held'' (flat_map adds outs) (flat_map adds more) a b)

-- one line more
pub so_far_more : (adds : Out → List ℕ) (says : ℕ → List ℕ → Said) (first : ℕ) (all : List (List ℕ)) (start : Cluster) (held held' held'' : Option (List ℕ)) (made number : ℕ) (line : List ℕ) (lines : List (List ℕ)) (c d : Cluster) (n : ℕ) →
    SoFar adds says first all start held held' made number (line ∷ lines) c → TakesAll adds (λ outs. Turns c (says (suc c.asked) line) d outs (turn.Made n)) held' held'' →
    SoFar adds says first all start held held'' (made + n) (suc number) lines d
so_far_more adds says first all start held held' held'' made number line lines c d n s (outs, t, w) = record {
  outs = s.outs ++ outs;
  taken = texts_join adds held held' held'' s.outs outs s.taken w;
  on = λ later end c' p.
      let f = follows says number line lines c d outs n t later end c' p in
      let rest = made_in says (suc number) lines d later end c' p in
      let l = s.on (outs ++ later) end c' f.plays in
      let counts = f.counts in
      longer_as says first all start (s.outs ++ (outs ++ later)) ((s.outs ++ outs) ++ later) end c' _ (made + n + rest)
      (sym (append_assoc s.outs outs later)) (omega (arith, counts)) l;
}

pub so_far_at : (adds : Out → List ℕ) (says : ℕ → List ℕ → Said) (first : ℕ) (all : List (List ℕ)) (start : Cluster) (held held' : Option (List ℕ)) (made number next : ℕ) (lines : List (List ℕ)) (c : Cluster) →
    number ≡ next → SoFar adds says first all start held held' made number lines c → SoFar adds says first all start held held' made next lines c
so_far_at adds says first all start held held' made number next lines c e s =
    subst (λ (n : ℕ). SoFar adds says first all start held held' made n lines c) e s

no_more : (made : ℕ) → made + 0 ≡ made
no_more made = omega arith

-- all lines were played
pub ends_whole : (adds : Out → List ℕ) (says : ℕ → List ℕ → Said) (first : ℕ) (all : List (List ℕ)) (start : Cluster) (held held' : Option (List ℕ)) (made number : ℕ) (c : Cluster) →
    SoFar adds says first all start held held' made number [] c → PlaysTo adds says first all start Whole c made held held'
ends_whole adds says first all start held held' made number c s =
    let l = longer_as says first all start (s.outs ++ []) s.outs Whole c (made + 0) made (append-nil s.outs) (no_more made) (s.on [] Whole c over) in
    record { outs = s.outs; plays = l.plays; counts = l.counts; taken = s.taken }

pub ends_empty : (adds : Out → List ℕ) (says : ℕ → List ℕ → Said) (first : ℕ) (all : List (List ℕ)) (start : Cluster) (held held' : Option (List ℕ)) (made number : ℕ) (rest : List ℕ) (c : Cluster) →
    SoFar adds says first all start held held' made number (lines_of rest) c → true ≡ nat_eq (length rest) 0 → PlaysTo adds says first all start Whole c made held held'
ends_empty adds says first all start held held' made number [] c s e = ends_whole adds says first all start held held' made number c s
ends_empty adds says first all start held held' made number (b ∷ bs) c s e =
    let none : length (b ∷ bs) ≡ 0 = eqb-true _ _ (sym e) in absurd (omega (arith, none))

-- a line is refused
pub ends_at : (adds : Out → List ℕ) (says : ℕ → List ℕ → Said) (first : ℕ) (all : List (List ℕ)) (start : Cluster) (held held' held'' : Option (List ℕ)) (made number : ℕ) (line : List ℕ) (lines : List (List ℕ)) (c d : Cluster) (bad : BadLine) →
    SoFar adds says first all start held held' made number (line ∷ lines) c → TakesAll adds (λ outs. Turns c (says (suc c.asked) line) d outs (turn.Refused bad)) held' held'' →
    PlaysTo adds says first all start (Refused number (reason_text bad)) d made held held''
ends_at adds says first all start held held' held'' made number line lines c d bad s (outs, t, w) =
    let q = ends_refused says number line lines c d outs bad t in
    let last = q.2 in
    let end = Refused number (reason_text bad) in
    let counts = last.counts in
    let l = longer_as says first all start (s.outs ++ []) s.outs end c _ made (append-nil s.outs) (omega (arith, counts)) (s.on [] end c last.plays) in
    let nothing = subst (λ (z : List Out). Appends held' held'' (flat_map adds z)) q.1 w in
    subst (λ (z : Cluster). PlaysTo adds says first all start end z made held held'') (sym q.0)
    (record {
      outs = s.outs;
      plays = l.plays;
      counts = l.counts;
      taken = subst (λ (z : List Out). Appends held held'' (flat_map adds z)) (append-nil s.outs) (texts_join adds held held' held'' s.outs [] s.taken nothing);
    })

-- nothing more was written
part_so_far : (held held' held'' : Option (List ℕ)) (text : List ℕ) → Appends held held' text → Appends held' held'' [] → WritesPart held held'' text
part_so_far held held' held'' text a b =
    record { front = text ++ []; rest = []; written = Appends-trans held held' held'' text [] a b; splits = sym (append-nil (text ++ []) ∙ append-nil text) }

-- a line broke off
pub breaks_at : (adds : Out → List ℕ) (says : ℕ → List ℕ → Said) (first : ℕ) (all : List (List ℕ)) (start : Cluster) (held held' held'' : Option (List ℕ)) (made number : ℕ) (line : List ℕ) (lines : List (List ℕ)) (c : Cluster) →
    SoFar adds says first all start held held' made number (line ∷ lines) c → TakesFirst adds (GoesOn c (says (suc c.asked) line)) held' held'' →
    PlaysPart adds says first all start held held''
breaks_at adds says first all start held held' held'' made number line lines c s (inl nothing) =
    record { outs = s.outs ++ []; reached = c; plays = (s.on [] Broken c breaks).plays; part = subst (λ (z : List Out). WritesPart held held'' (flat_map adds z)) (sym (append-nil s.outs)) (part_so_far held held' held'' (flat_map adds s.outs) s.taken nothing) }
breaks_at adds says first all start held held' held'' made number line lines c s (inr (outs, (d, n, t), part)) =
    let f = follows says number line lines c d outs n t [] Broken d breaks in
    record {
      outs = s.outs ++ (outs ++ []);
      reached = d;
      plays = (s.on (outs ++ []) Broken d f.plays).plays;
      part =
          subst (λ (z : List Out). WritesPart held held'' (flat_map adds (s.outs ++ z))) (sym (append-nil outs))
          (subst (λ (z : List ℕ). WritesPart held held'' z) (sym (flat_map-append adds s.outs outs))
          (part_after held held' held'' (flat_map adds s.outs) (flat_map adds outs) s.taken part));
    }
