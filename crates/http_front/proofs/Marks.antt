-- What the marks of a cluster's rules, the last one first, tell as marks of which the first one stands first.
use Rattle.std.proofs.Common.{◌≡◌, ℕ, inl, inr, List, [], ◌∷◌, ◌++◌, length, ◌≤◌, reverse, refl, sym, ap, ◌∙◌, subst, arith, append_assoc, Option, Some, None}
use Rattle.std.proofs.lemmas.List.{reverse-append}
use Rattle.cat_model.specs.declared.reply.Mark.{Mark}
use Rattle.cat_model.specs.declared.reply.Mark.TheVariants as mark
use Rattle.cluster_rules.specs.Past as past
use Rattle.cluster_rules.specs.Reached.{moves_of}
use Rattle.cluster_rules.specs.Sound.{IsAmong}
use Rattle.turn_lock.specs.Lists.{Among, EachOnce, ahead, numbers}
use Rattle.http_exchanges.specs.declared.cluster.Ask.{Ask}
use Rattle.http_exchanges.specs.Marks.{AddsAsked, AddsCut, AddsQuiet, AreKept, TicksNone, Whose, Servers, Agents, answers, asked_mark, opens, takes, ticks, ticks_by}
use Rattle.http_exchanges.proofs.Clocks.{by_none}
use Rattle.http_exchanges.proofs.MarkLists.{few_as, none_append}
use Rattle.http_front.specs.Ticks.{TicksOne, others, tick_of}
use Rattle.http_front.proofs.Reverses.{among_back, among_reverse, in_reverse, none_reverse, numbers_reverse, once_reverse}

-- Marks that name no move ask and take nothing.
pub record Silent (marks : List Mark) : Type 0 where
  pub opens_none : numbers opens marks ≡ []
  pub takes_none : numbers takes marks ≡ []

pub silent : (marks : List Mark) → moves_of marks ≡ [] → Silent marks
silent [] e = record { opens_none = refl; takes_none = refl }
silent (mark.Asked number agent asked draw ∷ marks) e = absurd (cc e)
silent (mark.Made made ∷ marks) e = absurd (cc e)
silent (mark.Taken number ∷ marks) e = absurd (cc e)
silent (mark.Settled pairs whole ∷ marks) e = absurd (cc e)
silent (mark.Advanced ms made ∷ marks) e = absurd (cc e)
silent (mark.Halted server ∷ marks) e = let s = silent marks e in record { opens_none = s.opens_none; takes_none = s.takes_none }
silent (mark.Entry entry ∷ marks) e = let s = silent marks e in record { opens_none = s.opens_none; takes_none = s.takes_none }
silent (mark.Answered number kind known contact ∷ marks) e = let s = silent marks e in record { opens_none = s.opens_none; takes_none = s.takes_none }

-- marks that were put before others, the last one first, stand behind them, the first one first
behind : (news old new : List Mark) → new ≡ news ++ old → reverse new ≡ reverse old ++ reverse news
behind news old new e = ap (λ (l : List Mark). reverse l) e ∙ reverse-append news old

pub quietly : (news old new : List Mark) → new ≡ news ++ old → Silent news → AddsQuiet (reverse old) (reverse new)
quietly news old new e s = record {
  rest = reverse news;
  are = behind news old new e;
  opens_none = none_reverse opens news s.opens_none;
  takes_none = none_reverse takes news s.takes_none;
}

-- an own mark and then silent ones
grown : (more : List Mark) (m : Mark) (old new : List Mark) → new ≡ more ++ m ∷ old → new ≡ (more ++ m ∷ []) ++ old
grown more m old new e = e ∙ sym (append_assoc more (m ∷ []) old)

of_own : (f : Mark → Option ℕ) (more : List Mark) (m : Mark) → numbers f more ≡ [] → numbers f (more ++ m ∷ []) ≡ ahead (f m) []
of_own f more m e = none_append f more (m ∷ []) e

pub quiet_event : (more : List Mark) (m : Mark) (old new : List Mark) → new ≡ more ++ m ∷ old → moves_of more ≡ [] → Silent (m ∷ []) → AddsQuiet (reverse old) (reverse new)
quiet_event more m old new e q own =
    let s = silent more q in
    quietly (more ++ m ∷ []) old new (grown more m old new e) (record {
      opens_none = none_append opens more (m ∷ []) s.opens_none ∙ own.opens_none;
      takes_none = none_append takes more (m ∷ []) s.takes_none ∙ own.takes_none;
    })

-- a request's own mark
pub asked_event : (more : List Mark) (number : ℕ) (a : Ask) (old new : List Mark) → new ≡ more ++ asked_mark number a ∷ old → moves_of more ≡ [] → AddsAsked number a (reverse old) (reverse new)
asked_event more number a old new e q =
    let s = silent more q in
    record {
      rest = reverse (more ++ asked_mark number a ∷ []);
      are = behind (more ++ asked_mark number a ∷ []) old new (grown more (asked_mark number a) old new e);
      opens_it = numbers_reverse opens (more ++ asked_mark number a ∷ []) ∙ ap (λ (l : List ℕ). reverse l) (of_own opens more (asked_mark number a) s.opens_none);
      takes_none = none_reverse takes (more ++ asked_mark number a ∷ []) (of_own takes more (asked_mark number a) s.takes_none);
      asked = in_reverse (asked_mark number a) (more ++ asked_mark number a ∷ []) (at_end more (asked_mark number a));
    }
  where
    at_end : (more : List Mark) (m : Mark) → IsAmong m (more ++ m ∷ [])
    at_end [] m = inl refl
    at_end (x ∷ more) m = inr (at_end more m)

-- one mark asks one request at most
one_mark : (o : Option ℕ) → length (reverse (ahead o [])) ≤ 1
one_mark None = omega arith
one_mark (Some n) = omega arith

-- a mark that takes nothing, and then silent ones
pub cut_event : (more : List Mark) (m : Mark) (old new : List Mark) → new ≡ more ++ m ∷ old → moves_of more ≡ [] → numbers takes (m ∷ []) ≡ [] → AddsCut (reverse old) (reverse new)
cut_event more m old new e q t =
    let s = silent more q in
    record {
      rest = reverse (more ++ m ∷ []);
      are = behind (more ++ m ∷ []) old new (grown more m old new e);
      opens_few = few_as (numbers opens (reverse (more ++ m ∷ []))) (reverse (ahead (opens m) [])) (numbers_reverse opens (more ++ m ∷ []) ∙ ap (λ (l : List ℕ). reverse l) (of_own opens more m s.opens_none)) (one_mark (opens m));
      takes_none = none_reverse takes (more ++ m ∷ []) (none_append takes more (m ∷ []) s.takes_none ∙ t);
    }

-- no clock goes on by marks that name no move
unticked : (whose : Whose) (marks : List Mark) → moves_of marks ≡ [] → numbers (ticks whose) marks ≡ []
unticked whose [] e = refl
unticked whose (mark.Asked number agent asked draw ∷ marks) e = absurd (cc e)
unticked whose (mark.Made made ∷ marks) e = absurd (cc e)
unticked whose (mark.Taken number ∷ marks) e = absurd (cc e)
unticked whose (mark.Settled pairs whole ∷ marks) e = absurd (cc e)
unticked whose (mark.Advanced ms made ∷ marks) e = absurd (cc e)
unticked whose (mark.Halted server ∷ marks) e = unticked whose marks e
unticked whose (mark.Entry entry ∷ marks) e = unticked whose marks e
unticked whose (mark.Answered number kind known contact ∷ marks) e = unticked whose marks e

-- nor by a mark by which no server's does and no agent's
pub none_at : (m : Mark) → numbers (ticks Servers) (m ∷ []) ≡ [] → numbers (ticks Agents) (m ∷ []) ≡ [] → (whose : Whose) → numbers (ticks whose) (m ∷ []) ≡ []
none_at m servers agents Servers = servers
none_at m servers agents Agents = agents

-- a mark by which no clock goes on, and then silent ones
pub unticked_event : (more : List Mark) (m : Mark) (old new : List Mark) → new ≡ more ++ m ∷ old → moves_of more ≡ [] → ((whose : Whose) → numbers (ticks whose) (m ∷ []) ≡ []) → TicksNone (reverse old) (reverse new)
unticked_event more m old new e q own = record {
  rest = reverse (more ++ m ∷ []);
  are = behind (more ++ m ∷ []) old new (grown more m old new e);
  none = λ w. none_reverse (ticks w) (more ++ m ∷ []) (none_append (ticks w) more (m ∷ []) (unticked w more q) ∙ own w);
}

-- the mark of a tick by itself
own_tick : (whose : Whose) (n ms : ℕ) → numbers (ticks whose) (mark.Made (tick_of whose n ms) ∷ []) ≡ n ∷ []
own_tick Servers n ms = refl
own_tick Agents n ms = refl

own_by : (whose : Whose) (n ms : ℕ) → numbers (ticks_by whose) (mark.Made (tick_of whose n ms) ∷ []) ≡ ms ∷ []
own_by Servers n ms = refl
own_by Agents n ms = refl

own_alone : (whose : Whose) (n ms : ℕ) → numbers (ticks (others whose)) (mark.Made (tick_of whose n ms) ∷ []) ≡ []
own_alone Servers n ms = refl
own_alone Agents n ms = refl

-- an own mark, and then silent ones, the first one first
own_reverse : (f : Mark → Option ℕ) (more : List Mark) (m : Mark) (n : ℕ) → numbers f more ≡ [] → numbers f (m ∷ []) ≡ n ∷ [] → numbers f (reverse (more ++ m ∷ [])) ≡ n ∷ []
own_reverse f more m n none own = numbers_reverse f (more ++ m ∷ []) ∙ ap (λ (l : List ℕ). reverse l) (none_append f more (m ∷ []) none ∙ own)

-- the mark of a tick, and then silent ones
pub ticked_event : (whose : Whose) (more : List Mark) (n ms : ℕ) (old new : List Mark) → new ≡ more ++ mark.Made (tick_of whose n ms) ∷ old → moves_of more ≡ [] → TicksOne whose n ms (reverse old) (reverse new)
ticked_event whose more n ms old new e q =
    let m : Mark = mark.Made (tick_of whose n ms) in record {
      rest = reverse (more ++ m ∷ []);
      are = behind (more ++ m ∷ []) old new (grown more m old new e);
      ticked = inl (
        own_reverse (ticks whose) more m n (unticked whose more q) (own_tick whose n ms),
        own_reverse (ticks_by whose) more m ms (by_none whose more (unticked whose more q)) (own_by whose n ms),
      );
      none = none_reverse (ticks (others whose)) (more ++ m ∷ []) (none_append (ticks (others whose)) more (m ∷ []) (unticked (others whose) more q) ∙ own_alone whose n ms);
    }

-- this clock went on
pub record Went (whose : Whose) (n : ℕ) (old new : List Mark) : Type 0 where
  pub rest : List Mark
  pub are : new ≡ old ++ rest
  pub went : Among n (numbers (ticks whose) rest)

pub went_event : (whose : Whose) (more : List Mark) (n ms : ℕ) (old new : List Mark) → new ≡ more ++ mark.Made (tick_of whose n ms) ∷ old → moves_of more ≡ [] → Went whose n (reverse old) (reverse new)
went_event whose more n ms old new e q =
    let m : Mark = mark.Made (tick_of whose n ms) in record {
      rest = reverse (more ++ m ∷ []);
      are = behind (more ++ m ∷ []) old new (grown more m old new e);
      went = subst (Among n) (sym (own_reverse (ticks whose) more m n (unticked whose more q) (own_tick whose n ms))) (inl refl);
    }

-- the numbers that marks ask, answer and take
opens_are : (xs : List Mark) → numbers opens xs ≡ past.asked_of xs
opens_are [] = refl
opens_are (mark.Asked number agent asked draw ∷ xs) = ap (λ (l : List ℕ). number ∷ l) (opens_are xs)
opens_are (mark.Made made ∷ xs) = opens_are xs
opens_are (mark.Taken number ∷ xs) = opens_are xs
opens_are (mark.Settled pairs whole ∷ xs) = opens_are xs
opens_are (mark.Advanced ms made ∷ xs) = opens_are xs
opens_are (mark.Halted server ∷ xs) = opens_are xs
opens_are (mark.Entry entry ∷ xs) = opens_are xs
opens_are (mark.Answered number kind known contact ∷ xs) = opens_are xs

answers_are : (xs : List Mark) → numbers answers xs ≡ past.answered_of xs
answers_are [] = refl
answers_are (mark.Asked number agent asked draw ∷ xs) = answers_are xs
answers_are (mark.Made made ∷ xs) = answers_are xs
answers_are (mark.Taken number ∷ xs) = answers_are xs
answers_are (mark.Settled pairs whole ∷ xs) = answers_are xs
answers_are (mark.Advanced ms made ∷ xs) = answers_are xs
answers_are (mark.Halted server ∷ xs) = answers_are xs
answers_are (mark.Entry entry ∷ xs) = answers_are xs
answers_are (mark.Answered number kind known contact ∷ xs) = ap (λ (l : List ℕ). number ∷ l) (answers_are xs)

takes_are : (xs : List Mark) → numbers takes xs ≡ past.taken_of xs
takes_are [] = refl
takes_are (mark.Asked number agent asked draw ∷ xs) = takes_are xs
takes_are (mark.Made made ∷ xs) = takes_are xs
takes_are (mark.Taken number ∷ xs) = ap (λ (l : List ℕ). number ∷ l) (takes_are xs)
takes_are (mark.Settled pairs whole ∷ xs) = takes_are xs
takes_are (mark.Advanced ms made ∷ xs) = takes_are xs
takes_are (mark.Halted server ∷ xs) = takes_are xs
takes_are (mark.Entry entry ∷ xs) = takes_are xs
takes_are (mark.Answered number kind known contact ∷ xs) = takes_are xs

-- the rules' words for the same
pub among_is : (n : ℕ) (xs : List ℕ) → past.Among n xs → Among n xs
among_is n [] a = a
among_is n (x ∷ xs) (inl e) = inl e
among_is n (x ∷ xs) (inr a) = inr (among_is n xs a)

pub is_among : (n : ℕ) (xs : List ℕ) → Among n xs → past.Among n xs
is_among n [] a = a
is_among n (x ∷ xs) (inl e) = inl e
is_among n (x ∷ xs) (inr a) = inr (is_among n xs a)

once_is : (xs : List ℕ) → past.EachOnce xs → EachOnce xs
once_is [] o = o
once_is (x ∷ xs) o = (λ a. o.0 (is_among x xs a), once_is xs o.1)

-- a number that these marks tell
pub told : (f : Mark → Option ℕ) (of : List Mark → List ℕ) → ((xs : List Mark) → numbers f xs ≡ of xs) → (n : ℕ) (xs : List Mark) → Among n (numbers f (reverse xs)) → past.Among n (of xs)
told f of e n xs a = is_among n (of xs) (subst (Among n) (e xs) (among_back n (numbers f xs) (subst (Among n) (numbers_reverse f xs) a)))

pub tells : (f : Mark → Option ℕ) (of : List Mark → List ℕ) → ((xs : List Mark) → numbers f xs ≡ of xs) → (n : ℕ) (xs : List Mark) → past.Among n (of xs) → Among n (numbers f (reverse xs))
tells f of e n xs a = subst (Among n) (sym (numbers_reverse f xs)) (among_reverse n (numbers f xs) (subst (Among n) (sym (e xs)) (among_is n (of xs) a)))

pub opened : (n : ℕ) (xs : List Mark) → Among n (numbers opens (reverse xs)) → past.Among n (past.asked_of xs)
opened n xs = told opens past.asked_of opens_are n xs

pub took : (n : ℕ) (xs : List Mark) → past.Among n (past.taken_of xs) → Among n (numbers takes (reverse xs))
took n xs = tells takes past.taken_of takes_are n xs

each_once : (f : Mark → Option ℕ) (of : List Mark → List ℕ) → ((xs : List Mark) → numbers f xs ≡ of xs) → (xs : List Mark) → past.EachOnce (of xs) → EachOnce (numbers f (reverse xs))
each_once f of e xs o = subst EachOnce (sym (numbers_reverse f xs)) (once_reverse (numbers f xs) (subst EachOnce (sym (e xs)) (once_is (of xs) o)))

pub are_kept : (xs : List Mark) → past.AreKept xs → AreKept (reverse xs)
are_kept xs k = record {
  once = each_once opens past.asked_of opens_are xs k.once;
  only = each_once answers past.answered_of answers_are xs k.only;
  taken = λ n a. tells opens past.asked_of opens_are n xs (k.taken n (told takes past.taken_of takes_are n xs a));
}
