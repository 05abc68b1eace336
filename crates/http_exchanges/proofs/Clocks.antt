-- How far clocks go, over marks that stand one behind another.
use Rattle.std.proofs.Common.{◌≡◌, ℕ, List, [], ◌∷◌, ◌++◌, refl, sym, ◌∙◌, subst, append-nil, arith, Option, Some, None, Result, Ok, Err}
use Rattle.std.specs.Prelude.{IfOk, OnOk, option_map}
use Rattle.std.specs.List.{AllByRecursion}
use Rattle.cat_model.specs.declared.memory.Memory.{Memory}
use Rattle.cat_model.specs.declared.reply.Mark.{Mark}
use Rattle.cat_model.specs.declared.reply.Mark.TheVariants as mark
use Rattle.cluster_rules.specs.Replies.{Reply}
use Rattle.turn_lock.specs.Lists.{EachOnce, ahead, numbers}
use Rattle.http_exchanges.specs.declared.cluster.Ask.{Ask}
use Rattle.http_exchanges.specs.declared.cluster.Collected.{Collected}
use Rattle.http_exchanges.specs.declared.cluster.Collected.TheVariants as collected
use Rattle.http_exchanges.specs.Collects.{Collects}
use Rattle.http_exchanges.specs.Marks.{AddsQuiet, Delivers, TicksBy, TicksNone, Whose, going, ticks, ticks_by}
use Rattle.http_exchanges.specs.Turns.{GoesOn, Settles, StandsStill, passed}
use Rattle.http_exchanges.proofs.MarkLists.{append_none, joined, none_append}

-- where no clock of theirs went on, none did by any milliseconds
pub by_none : (whose : Whose) (xs : List Mark) → numbers (ticks whose) xs ≡ [] → numbers (ticks_by whose) xs ≡ []
by_none whose [] e = refl
by_none whose (mark.Made made ∷ xs) e = by_event (going whose made) (by_none whose xs) e
  where
    by_event : (t : Option (ℕ × ℕ)) → (numbers (ticks whose) xs ≡ [] → numbers (ticks_by whose) xs ≡ []) → ahead (option_map (λ t. t.0) t) (numbers (ticks whose) xs) ≡ [] → ahead (option_map (λ t. t.1) t) (numbers (ticks_by whose) xs) ≡ []
    by_event None more f = more f
    by_event (Some t) more f = absurd (cc f)
by_none whose (mark.Asked number agent asked draw ∷ xs) e = by_none whose xs e
by_none whose (mark.Taken number ∷ xs) e = by_none whose xs e
by_none whose (mark.Settled pairs whole ∷ xs) e = by_none whose xs e
by_none whose (mark.Advanced ms made ∷ xs) e = by_none whose xs e
by_none whose (mark.Halted server ∷ xs) e = by_none whose xs e
by_none whose (mark.Entry entry ∷ xs) e = by_none whose xs e
by_none whose (mark.Answered number kind known contact ∷ xs) e = by_none whose xs e

pub ticks_none : (old : List Mark) → TicksNone old old
ticks_none old = record { rest = []; are = sym (append-nil old); none = λ w. refl }

pub none_none : (a b c : List Mark) → TicksNone a b → TicksNone b c → TicksNone a c
none_none a b c x y = record { rest = x.rest ++ y.rest; are = joined a b c x.rest y.rest x.are y.are; none = λ w. none_append (ticks w) x.rest y.rest (x.none w) ∙ y.none w }

ticks_still : (ms : ℕ) (a b c : List Mark) → TicksBy ms a b → TicksNone b c → TicksBy ms a c
ticks_still ms a b c x y = record {
  rest = x.rest ++ y.rest;
  are = joined a b c x.rest y.rest x.are y.are;
  once = λ w. subst EachOnce (sym (append_none (ticks w) x.rest y.rest (y.none w))) (x.once w);
  by_ms = λ w. subst (AllByRecursion (λ n. n ≡ ms)) (sym (append_none (ticks_by w) x.rest y.rest (by_none w y.rest (y.none w)))) (x.by_ms w);
}

-- clocks that stand still
pub still : (last last' : ℕ) (old new : List Mark) → last' ≡ last → new ≡ old → StandsStill last last' old new
still last last' old new e same = (e, subst (TicksNone old) (sym same) (ticks_none old))

pub still_still : (k l m : ℕ) (a b c : List Mark) → StandsStill k l a b → StandsStill l m b c → StandsStill k m a c
still_still k l m a b c x y = (y.0 ∙ x.0, none_none a b c x.1 y.1)

pub goes_still : (k l m now : ℕ) (a b c : List Mark) → GoesOn k l now a b → StandsStill l m b c → GoesOn k m now a c
goes_still k l m now a b c x y = (y.0 ∙ x.0, ticks_still (passed k now) a b c x.1 y.1)

-- a time that is not later than the last one
pub goes_nowhere : (last now : ℕ) (old : List Mark) → passed last now ≡ 0 → GoesOn last last now old old
goes_nowhere last now old e = (let z = e in omega arith, record { rest = []; are = sym (append-nil old); once = λ w. tt; by_ms = λ w. tt })

still_taken : (n : ℕ) (old new : List Mark) → new ≡ old ++ mark.Taken n ∷ [] → TicksNone old new
still_taken n old new e = record { rest = mark.Taken n ∷ []; are = e; none = λ w. refl }

still_same : (old new : List Mark) → new ≡ old → TicksNone old new
still_same old new e = subst (TicksNone old) (sym e) (ticks_none old)

-- a collection
pub collects_still : (shows : ℕ → Ask → Reply → List Mark → Type 0) (n : ℕ) (got : Collected) (old new : List Mark) → Collects shows n got old new → TicksNone old new
collects_still shows n (collected.Ready reply) old new x = still_taken n old new x.0
collects_still shows n collected.NotYet old new x = still_same old new x
collects_still shows n collected.Gone old new x = still_same old new x.0

-- what messages that were delivered leave
module _ {C : Type 0} (marks : C → List Mark) (idle : C → Type 0) where
  pub settles : (r : Result ℕ Memory) (old new : C) → AddsQuiet (marks old) (marks new) → TicksNone (marks old) (marks new) → IfOk r (λ count. Delivers 4096 (idle new) count (marks old) (marks new)) → OnOk r (Settles marks idle old new)
  settles (Ok count) old new quiet still d = record { quiet = quiet; still = still; count = count; delivered = d }
  settles (Err e) old new quiet still d = tt
