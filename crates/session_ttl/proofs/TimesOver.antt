-- The positions at which sessions were made whose ends were proposed, the first one first and the last one first.
use Rattle.std.proofs.Common.{◌≡◌, ℕ, ◌+◌, ◌-◌, Bool, true, false, cond, List, [], ◌∷◌, ◌++◌, length, take, filter, map, reverse, append-nil, refl, sym, ◌∙◌, ap, arith}
use Rattle.std.proofs.lemmas.List.{length-append, length-map, reverse-append, reverse-reverse, take-map}
use Rattle.std.proofs.lemmas.List.Elements.{filter-append}
use Rattle.std.proofs.Math.Seq.{take-append-add}
use Rattle.cat_model.specs.declared.row.Behavior.TheVariants.{Release}
use Rattle.cat_model.specs.declared.row.SessionRow.{SessionRow}
use Rattle.session_ttl.specs.declared.ends.Ending.{Ending}
use Rattle.cluster_rules.specs.Offices.{Office, over_at, sorted_by}
use Rattle.session_ttl.specs.Endings.{create_of, ending_in, ending_of, over_in, overdue_of}
use Rattle.session_ttl.proofs.Sorting.{sorted_map}

pub filter_reverse : {A : Type 0} (p : A → Bool) (xs : List A) → reverse (filter p xs) ≡ filter p (reverse xs)
filter_reverse p [] = refl
filter_reverse p (x ∷ xs) = go (p x) ∙ ap (λ l. l ++ filter p (x ∷ [])) (filter_reverse p xs) ∙ sym (filter-append p (reverse xs) (x ∷ [])) ∙ ap (filter p) (sym (reverse-append (x ∷ []) xs))
  where
    go : (b : Bool) → reverse (cond b (x ∷ filter p xs) (filter p xs)) ≡ reverse (filter p xs) ++ cond b (x ∷ []) []
    go true = reverse-append (x ∷ []) (filter p xs)
    go false = sym (append-nil (reverse (filter p xs)))

pub map_map : {A B C : Type 0} (g : B → C) (f : A → B) (xs : List A) → map g (map f xs) ≡ map (λ x. g (f x)) xs
map_map g f [] = refl
map_map g f (x ∷ xs) = ap (λ l. g (f x) ∷ l) (map_map g f xs)

creates : (rows : List SessionRow) → map create_of (map ending_of rows) ≡ map (λ (s : SessionRow). s.create) rows
creates rows = map_map create_of ending_of rows

-- more ends
pub ends_more : (endings : List Ending) (rows : List SessionRow) (old : List ℕ) → endings ≡ map ending_of rows → reverse (old ++ map create_of endings) ≡ reverse (map (λ (s : SessionRow). s.create) rows) ++ reverse old
ends_more endings rows old e = reverse-append old (map create_of endings) ∙ ap (λ l. reverse (map create_of l) ++ reverse old) e ∙ ap (λ l. reverse l ++ reverse old) (creates rows)

-- what stood before them
before : (all : List ℕ) (rows : List SessionRow) (ended : List ℕ) → reverse all ≡ reverse (map (λ (s : SessionRow). s.create) rows) ++ ended → all ≡ reverse ended ++ map (λ (s : SessionRow). s.create) rows
before all rows ended e =
    sym (reverse-reverse all) ∙ ap reverse e ∙ reverse-append (reverse (map (λ (s : SessionRow). s.create) rows)) ended
    ∙ ap (λ l. reverse ended ++ l) (reverse-reverse (map (λ (s : SessionRow). s.create) rows))

pub ends_counted : (all : List ℕ) (endings : List Ending) (rows : List SessionRow) (ended : List ℕ) → endings ≡ map ending_of rows → reverse all ≡ reverse (map (λ (s : SessionRow). s.create) rows) ++ ended → length all ≡ length (reverse ended) + length endings
ends_counted all endings rows ended e is =
    ap length (before all rows ended is) ∙ length-append (reverse ended) (map (λ (s : SessionRow). s.create) rows)
    ∙ ap (λ n. length (reverse ended) + n) (length-map rows (λ (s : SessionRow). s.create) ∙ sym (ap length e ∙ length-map rows ending_of))

-- only the first of them
pub ends_kept : (all : List ℕ) (endings : List Ending) (rows : List SessionRow) (ended : List ℕ) (kept : ℕ) → endings ≡ map ending_of rows → reverse all ≡ reverse (map (λ (s : SessionRow). s.create) rows) ++ ended
    → reverse (take ((length all - length endings) + kept) all) ≡ reverse (map (λ (s : SessionRow). s.create) (take kept rows)) ++ ended
ends_kept all endings rows ended kept e is =
    let create : SessionRow → ℕ = λ s. s.create in
    let earlier : length all - length endings ≡ length (reverse ended) = let n = ends_counted all endings rows ended e is in omega (arith, n) in
    ap (λ n. reverse (take (n + kept) all)) earlier
    ∙ ap (λ l. reverse (take (length (reverse ended) + kept) l)) (before all rows ended is)
    ∙ ap reverse (take-append-add (reverse ended) (map create rows) kept)
    ∙ reverse-append (reverse ended) (take kept (map create rows))
    ∙ ap (λ l. reverse (take kept (map create rows)) ++ l) (reverse-reverse ended)
    ∙ ap (λ l. reverse l ++ ended) (take-map create kept rows)

-- the sessions that are over, in their turn
pub in_turn : (clocks : List ℕ) (o : Office) (rows : List SessionRow) → map ending_in (sorted_by over_in (map (overdue_of clocks o) rows)) ≡ map ending_of (sorted_by (over_at clocks o) rows)
in_turn clocks o rows = ap (map ending_in) (sorted_map over_in (overdue_of clocks o) rows) ∙ map_map ending_in (overdue_of clocks o) (sorted_by (over_at clocks o) rows)

-- a session of this end
pub row_of : Ending → SessionRow
row_of e = record { id = e.id; name = []; node = []; checks = []; behavior = Release; delay_ms = 0; ttl_ms = 0; create = e.create; modify = 0 }

pub ends_are : (endings : List Ending) → endings ≡ map ending_of (map row_of endings)
unfolding row_of
ends_are [] = refl
ends_are (e ∷ endings) = ap (λ l. e ∷ l) (ends_are endings)
