-- The index law, for every query at once: an index is the last position that touched, and what did not touch left the reads equal.
use Rattle.std.proofs.Common.{◌≡◌, ◌≢◌, ℕ, ◌+◌, ◌<◌, ◌≤◌, Bool, true, false, cond, ◌||◌, List, [], ◌∷◌, ◌++◌, length, refl, sym, ◌∙◌, ap, subst, arith, reverse, ◌⊎◌, inl, inr}
use Rattle.std.proofs.lemmas.Bool.{not-false, cases_lt, true≢false}
use Rattle.std.proofs.lemmas.List.{reverse-append, length-append, length-reverse}
use Rattle.cat_model.specs.Catalog.{Catalog}
use Rattle.cat_model.specs.Queries.{reads, answer, answer_from}
use Rattle.cat_model.specs.Machine.{apply, act, at_past, end_sessions, broken}
use Rattle.cat_model.specs.Indexes.{touches, past_index, BeginsWithNoop, IndexLaw}
use Rattle.cat_model.specs.declared.query.Query.{Query}
use Rattle.cat_model.specs.declared.command.Command.{Command}
use Rattle.cat_model.specs.declared.command.Command.TheVariants.{Noop}
use Rattle.cat_model.proofs.SameLemmas.{catalog_decides}

-- a step that does not touch leaves the reads as they were
pub untouched : (q : Query) (before : Catalog) (c : Command) (after : Catalog) → touches q before c after ≡ false → reads q before ≡ reads q after
unfolding touches
untouched q before c after h = (catalog_decides _ _).0 (not-false _ (second_of_or _ _ (first_of_or _ _ (first_of_or _ _ h))))
  where
    second_of_or : (x y : Bool) → (x || y) ≡ false → y ≡ false
    second_of_or false y h = h
    second_of_or true y h = absurd (true≢false h)

    first_of_or : (x y : Bool) → (x || y) ≡ false → x ≡ false
    first_of_or false y h = refl
    first_of_or true y h = h

-- the index after one more command
pub index_more : (q : Query) (c : Command) (past : List Command) → past_index q (c ∷ past) ≡ cond (touches q (at_past past) c (at_past (c ∷ past))) (length past + 1) (past_index q past)
unfolding past_index
index_more q c past = refl

chosen : (b : Bool) (m n r : ℕ) → r ≡ cond b m n → ((b ≡ true) × (r ≡ m)) ⊎ ((b ≡ false) × (r ≡ n))
chosen true m n r e = inl (refl, e)
chosen false m n r e = inr (refl, e)

-- the index after one more command is its position where it touches, and else the index before
pub index_cases : (q : Query) (c : Command) (past : List Command) →
    ((touches q (at_past past) c (at_past (c ∷ past)) ≡ true) × (past_index q (c ∷ past) ≡ length past + 1))
    ⊎ ((touches q (at_past past) c (at_past (c ∷ past)) ≡ false) × (past_index q (c ∷ past) ≡ past_index q past))
index_cases q c past = chosen _ _ _ _ (index_more q c past)

-- an index is at most one more than the length, and at most the length where there is a command
pub index_within : (q : Query) (past : List Command) → (1 ≤ past_index q past) × (past_index q past ≤ length past + 1)
unfolding past_index
index_within q [] = (omega arith, omega arith)
index_within q (c ∷ past) =
    let rest = index_within q past in
    elim (index_cases q c past) as (λ _. (1 ≤ past_index q (c ∷ past)) × (past_index q (c ∷ past) ≤ length (c ∷ past) + 1)) [
      | inl t ↦ (omega (arith, t.1), omega (arith, t.1))
      | inr f ↦ (omega (arith, f.1, rest.0), omega (arith, f.1, rest.1))
    ]

pub index_at_most : (q : Query) (c : Command) (past : List Command) → past_index q (c ∷ past) ≤ length (c ∷ past)
index_at_most q c past =
    let rest = index_within q past in
    elim (index_cases q c past) as (λ _. past_index q (c ∷ past) ≤ length (c ∷ past)) [
      | inl t ↦ omega (arith, t.1)
      | inr f ↦ omega (arith, f.1, rest.1)
    ]

-- indexes never fall
pub index_grows : (q : Query) (more past : List Command) → past_index q past ≤ past_index q (more ++ past)
index_grows q [] past = omega arith
index_grows q (c ∷ more) past =
    let rest = index_grows q more past in
    let within = index_within q (more ++ past) in
    elim (index_cases q c (more ++ past)) as (λ _. past_index q past ≤ past_index q (c ∷ (more ++ past))) [
      | inl t ↦ omega (arith, t.1, rest, within.1)
      | inr f ↦ omega (arith, f.1, rest)
    ]

-- where the index is no greater than the shorter log's length, the reads are the same
pub same_reads : (q : Query) (more past : List Command) → past_index q (more ++ past) ≤ length past → reads q (at_past past) ≡ reads q (at_past (more ++ past))
same_reads q [] past h = refl
same_reads q (c ∷ more) past h =
    elim (index_cases q c (more ++ past)) as (λ _. reads q (at_past past) ≡ reads q (at_past (c ∷ (more ++ past)))) [
      | inl t ↦ absurd (omega (arith, t.1, length-append more past, h))
      | inr f ↦ same_reads q more past (omega (arith, f.1, h)) ∙ untouched q (at_past (more ++ past)) c (at_past (c ∷ (more ++ past))) f.0
    ]

-- the first Noop changes nothing
noop_first : at_past (Noop ∷ []) ≡ at_past []
unfolding apply act end_sessions at_past broken
noop_first = refl

-- where the answers differ, the index is above the shorter log's length
above_length : (q : Query) (more past : List Command) → answer q (at_past past) ≢ answer q (at_past (more ++ past)) → length past < past_index q (more ++ past)
above_length q more past differ =
    elim (cases_lt (length past) (past_index q (more ++ past))) [
      | inl above ↦ above
      | inr below ↦ absurd (differ (ap (answer_from q) (same_reads q more past below)))
    ]

-- and the first command of all is a Noop
above_noop : (q : Query) (more : List Command) → answer q (at_past []) ≢ answer q (at_past (more ++ Noop ∷ [])) → 1 < past_index q (more ++ Noop ∷ [])
above_noop q more differ = above_length q more (Noop ∷ []) (λ e. differ (ap (answer q) (sym noop_first) ∙ e))

last_of : (log : List Command) (c : Command) → reverse (c ∷ log) ≡ reverse log ++ c ∷ []
last_of log c = reverse-append (c ∷ []) log

-- the index of a log of some commands is at most its length
some_at_most : (q : Query) (log : List Command) (c : Command) → past_index q (reverse (c ∷ log)) ≤ length (reverse (c ∷ log))
some_at_most q log c = go (reverse (c ∷ log)) (omega (arith, length-reverse (c ∷ log)))
  where
    go : (past : List Command) → 0 < length past → past_index q past ≤ length past
    go [] h = absurd (omega arith)
    go (d ∷ past) h = index_at_most q d past

-- the index law of any query, over any two logs of which one goes on from the other
pub index_law : (q : Query) (log more : List Command) → BeginsWithNoop (log ++ more) → IndexLaw q log more
unfolding past_index
index_law q [] [] noop = (omega arith, λ differ. absurd (differ refl))
index_law q [] (c ∷ more) noop = (
  subst (λ l. 1 ≤ past_index q l) (sym split) (index_within q (reverse more ++ Noop ∷ [])).0,
  λ differ.
      let above : 1 < past_index q (reverse more ++ Noop ∷ []) = above_noop q (reverse more) (subst (λ l. answer q (at_past []) ≢ answer q (at_past l)) split differ) in
      let above' : 1 < past_index q (reverse (c ∷ more)) = subst (λ l. 1 < past_index q l) (sym split) above in
      (omega arith, above'),
)
  where
    split : reverse (c ∷ more) ≡ reverse more ++ Noop ∷ []
    split = last_of more c ∙ ap (λ x. reverse more ++ x ∷ []) noop
index_law q (c ∷ log) more noop = (
  grows,
  λ differ.
      let differ' : answer q (at_past (reverse (c ∷ log))) ≢ answer q (at_past (reverse more ++ reverse (c ∷ log))) =
      subst (λ l. answer q (at_past (reverse (c ∷ log))) ≢ answer q (at_past l)) split differ in
      let long : length (reverse (c ∷ log)) < past_index q (reverse more ++ reverse (c ∷ log)) = above_length q (reverse more) (reverse (c ∷ log)) differ' in
      let long' : length (reverse (c ∷ log)) < past_index q (reverse ((c ∷ log) ++ more)) = subst (λ l. length (reverse (c ∷ log)) < past_index q l) (sym split) long in
      let short : past_index q (reverse (c ∷ log)) ≤ length (reverse (c ∷ log)) = some_at_most q log c in
      (omega (arith, long', length-reverse (c ∷ log)), omega (arith, long', short)),
)
  where
    split : reverse ((c ∷ log) ++ more) ≡ reverse more ++ reverse (c ∷ log)
    split = reverse-append (c ∷ log) more

    grows : past_index q (reverse (c ∷ log)) ≤ past_index q (reverse ((c ∷ log) ++ more))
    grows = subst (λ l. past_index q (reverse (c ∷ log)) ≤ past_index q l) (sym split) (index_grows q (reverse more) (reverse (c ∷ log)))
