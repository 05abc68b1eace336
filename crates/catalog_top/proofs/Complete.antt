-- A script within the limits and without a refused line runs whole.
use Rattle.std.proofs.Common.{◌≡◌, ℕ, ◌≤◌, Bool, true, false, nat_lt, nat_eq, ◌||◌, cond, List, [], ◌∷◌, ◌++◌, length, length-append, Option, None, Some, Result, Ok, Err, ap, ◌∙◌, append-nil, subst, arith}
use Rattle.std.proofs.lemmas.Bool.Decides.{nat_tests}
use Rattle.std.specs.Io.KnownBytes.{Consumes, IsAtEnd}
use Rattle.script_player.specs.Line.{lines_of, onto_line}
use Rattle.script_player.specs.Script.{script_of}
use Rattle.catalog_top.specs.Limits.{is_too_long}
use Rattle.script_player.specs.declared.report.Report.{Report}
use Rattle.catalog_top.specs.declared.stop.Stop.{Stop}
use Rattle.catalog_top.specs.declared.stop.Stop.TheVariants as stop
use Rattle.catalog_top.specs.Ends.{EndsWell, PlaysScript}
use Rattle.catalog_top.specs.Outside.{Input, Output}
use Rattle.catalog_top.specs.Run.{NeverRefuses, RefusesLine, PassesLimit}

onto_line-more : (b : ℕ) (ls ms : List (List ℕ)) → length ls ≤ length ms → length (onto_line b ls) ≤ length (onto_line b ms)
onto_line-more b [] [] h = omega arith
onto_line-more b [] (m ∷ ms) h = omega arith
onto_line-more b (l ∷ ls) [] h = absurd (omega arith)
onto_line-more b (l ∷ ls) (m ∷ ms) h = omega arith

first-more : (b : ℕ) (lf : Bool) (ls ms : List (List ℕ)) → length ls ≤ length ms → length (cond lf ([] ∷ ls) (onto_line b ls)) ≤ length (cond lf ([] ∷ ms) (onto_line b ms))
first-more b true ls ms h = omega arith
first-more b false ls ms h = onto_line-more b ls ms h

-- more bytes have no fewer lines
lines_of-more : (a b : List ℕ) → length (lines_of a) ≤ length (lines_of (a ++ b))
lines_of-more [] b = omega arith
lines_of-more (x ∷ a) b = first-more x (nat_eq x 10) (lines_of a) (lines_of (a ++ b)) (lines_of-more a b)

limits-more : (n m k l : ℕ) → n ≤ m → k ≤ l → (nat_lt 16777216 m || nat_lt 1048576 l) ≡ false → (nat_lt 16777216 n || nat_lt 1048576 k) ≡ true → ⊥
limits-more n m k l below fewer short long = grind (arith, nat_tests)

-- a first part of a script within the limits is within them
too_long-front : (a b : List ℕ) → is_too_long (a ++ b) ≡ false → is_too_long a ≡ true → ⊥
unfolding is_too_long
too_long-front a b short long =
    limits-more (length a) (length (a ++ b)) (length (lines_of a)) (length (lines_of (a ++ b)))
    (omega (arith, length-append a b)) (lines_of-more a b) short long

-- the bytes that were taken are the first ones of those that the source told
taken-front : (left' : Option (List ℕ)) (bytes taken : List ℕ) → Consumes (Some bytes) left' taken → (rest : List ℕ) × (bytes ≡ taken ++ rest)
taken-front None bytes taken took = absurd took
taken-front (Some rest) bytes taken took = (rest, took)

taken-all : (left' : Option (List ℕ)) (bytes taken : List ℕ) → Consumes (Some bytes) left' taken → IsAtEnd left' → bytes ≡ taken
taken-all None bytes taken took end = absurd took
taken-all (Some rest) bytes taken took end = took ∙ ap (λ r. taken ++ r) end ∙ append-nil taken

not_refused : (i i' : Input) (o o' : Output) (bytes : List ℕ) → i.left ≡ Some bytes → RefusesLine i i' o o' → NeverRefuses (script_of bytes) → ⊥
not_refused i i' o o' bytes known refuses never =
    let same = taken-all i'.left bytes refuses.took.bytes (subst (λ (l : Option (List ℕ)). Consumes l i'.left refuses.took.bytes) known refuses.took.consumed) refuses.took.at_end in
    subst (λ (b : List ℕ). NeverRefuses (script_of b)) same never refuses.run.line refuses.run.why refuses.run.text refuses.run.writes

not_past : (i i' : Input) (o o' : Output) (bytes : List ℕ) → i.left ≡ Some bytes → PassesLimit i i' o o' → is_too_long bytes ≡ false → ⊥
not_past i i' o o' bytes known passes short =
    let front = taken-front i'.left bytes passes.bytes (subst (λ (l : Option (List ℕ)). Consumes l i'.left passes.bytes) known passes.consumed) in
    too_long-front passes.bytes front.0 (subst (λ (b : List ℕ). is_too_long b ≡ false) front.1 short) passes.too_long

-- how it ends is a report, a fault, or out of memory
pub complete : (i i' : Input) (o o' : Output) (r : Result Report Stop) (bytes : List ℕ) → PlaysScript i i' o o' r →
    i.left ≡ Some bytes → is_too_long bytes ≡ false → NeverRefuses (script_of bytes) → EndsWell r
complete i i' o o' (Ok report) bytes plays known short never = tt
complete i i' o o' (Err stop.Words) bytes plays known short never = plays
complete i i' o o' (Err stop.Line) bytes plays known short never = not_refused i i' o o' bytes known plays.0 never
complete i i' o o' (Err stop.Source) bytes plays known short never = tt
complete i i' o o' (Err stop.Sink) bytes plays known short never = tt
complete i i' o o' (Err stop.Listener) bytes plays known short never = plays
complete i i' o o' (Err stop.Limit) bytes plays known short never = not_past i i' o o' bytes known plays.0 short
complete i i' o o' (Err stop.Memory) bytes plays known short never = tt
complete i i' o o' (Err stop.Store) bytes plays known short never = plays
complete i i' o o' (Err stop.Datagrams) bytes plays known short never = plays
