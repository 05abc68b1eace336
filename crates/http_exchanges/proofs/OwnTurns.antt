-- A turn for one's own request.
use Rattle.std.proofs.Common.{◌≡◌, ℕ, inl, inr, ⊎_elim, List, [], ◌∷◌, ◌++◌, length, drop, refl, sym, ap, ◌∙◌, subst, append_assoc, append-nil, arith, Option, Some, None, Result, Ok, Err}
use Rattle.std.specs.Prelude.{MatchResult, IfErr, IfOk, OnErr}
use Rattle.std.proofs.Math.Seq.{drop-append_seam}
use Rattle.cat_model.specs.declared.memory.Memory.{Memory}
use Rattle.cat_model.specs.declared.reply.Mark.{Mark}
use Rattle.cat_model.specs.declared.reply.Mark.TheVariants as mark
use mathlib.Core.List.{IsPrefix}
use Rattle.cat_model.specs.declared.command.Command.{Command}
use Rattle.turn_lock.specs.Lists.{Among, EachOnce, Extends, ahead, numbers}
use Rattle.turn_lock.specs.Passes.{MayEnd}
use Rattle.turn_lock.proofs.Lists.{among_append, among_left, among_right, numbers_append, once_apart}
use Rattle.http_exchanges.specs.declared.cluster.Ask.{Ask}
use Rattle.cluster_rules.specs.Replies.{Reply}
use Rattle.http_exchanges.specs.declared.cluster.Collected.{Collected}
use Rattle.http_exchanges.specs.declared.cluster.Collected.TheVariants as collected
use Rattle.http_exchanges.specs.declared.served.Turned.{Turned}
use Rattle.http_exchanges.specs.Marks.{AddsAsked, AddsCut, AddsQuiet, AreKept, answered_mark, answers, asked_mark, opens, takes}
use Rattle.http_exchanges.specs.Collects.{Collects}
use Rattle.http_exchanges.specs.Turns.{Asks, Exchanges, FallsShort, Makes, Readies, Turns}
use Rattle.cluster_rules.specs.Sound.{IsAmong}
use Rattle.http_exchanges.specs.Knowing.{Known}
use Rattle.http_exchanges.specs.declared.turns.NoReply.{NoReply}
use Rattle.http_exchanges.specs.declared.turns.NoReply.TheVariants as no_reply
use Rattle.http_exchanges.specs.Waiting.{Grows, IsAnswered, IsBehind, IsHeld, Looks, OpensFew, Stands, Waits}
use Rattle.http_exchanges.proofs.Agreeing.{prefix_on, prefix_self}
use Rattle.http_exchanges.proofs.MarkLists.{append_none, few_as, in_left, in_right, joined, makes_quiet, makes_short, none_append, quiet_cut, quiet_makes, quiet_quiet, short_before, short_behind}

-- What a turn did, by its marks alone: the request was asked, if there is one, and then collected.
pub record Exchanged (shows : ℕ → Ask → Reply → List Mark → Type 0) (ask : Option Ask) (number : ℕ) (t : Turned) (old new : List Mark) : Type 0 where
  pub mid : List Mark
  pub made : Makes ask number t.number old mid
  pub got : Collects shows t.number t.got mid new

module _ {C : Type 0} (marks : C → List Mark) (idle : C → Type 0) (servers : C → ℕ) (agents : ℕ) (clock : C → ℕ → ℕ) (shows : ℕ → Ask → Reply → List Mark → Type 0) (last now : ℕ) (ask : Option Ask) (number : ℕ) where
  exchanged : (t : Turned) (old new : C) → Turns marks idle servers agents clock shows last now ask number t old new → Exchanged shows ask number t (marks old) (marks new)
  exchanged t old new x =
      let r = x.readied in let e = x.exchanged in let a = e.asks in
      let ready = quiet_quiet (marks old) (marks r.timed) (marks x.ready) r.quiet r.settled.quiet in record {
        mid = marks e.settled;
        made = quiet_makes ask number t.number (marks old) (marks x.ready) (marks e.settled) ready (makes_quiet ask number t.number (marks x.ready) (marks a.asked) (marks e.settled) a.made a.settled.quiet);
        got = e.got;
      }

  pub exchanged_or : (r : Result Turned Memory) (old new : C) → MatchResult r (λ t. Turns marks idle servers agents clock shows last now ask number t old new) (λ _. FallsShort ask (marks old) (marks new))
      → MatchResult r (λ t. Exchanged shows ask number t (marks old) (marks new)) (λ _. FallsShort ask (marks old) (marks new))
  exchanged_or (Ok t) old new x = exchanged t old new x
  exchanged_or (Err e) old new x = x

  -- an ask and a collection behind it
  pub exchanges_or : (n : ℕ) (r : Result Turned Memory) (old mid new : C) → Asks marks idle ask number n old mid → IfOk r (λ t. (t.number ≡ n) × Collects shows n t.got (marks mid) (marks new)) → OnErr r (marks new ≡ marks mid) → (idle mid → idle new)
      → MatchResult r (λ t. Exchanges marks idle shows ask number t old new) (λ _. FallsShort ask (marks old) (marks new))
  exchanges_or n (Ok t) old mid new asks got same calm = record {
    settled = mid;
    asks = subst (λ (k : ℕ). Asks marks idle ask number k old mid) (sym got.0) asks;
    got = subst (λ (k : ℕ). Collects shows k t.got (marks mid) (marks new)) (sym got.0) got.1;
    calm = calm;
  }
  exchanges_or n (Err e) old mid new asks got same calm = subst (FallsShort ask (marks old)) (sym same)
      (short_before ask (marks old) (marks asks.asked) (marks mid) (makes_short ask number n (marks old) (marks asks.asked) asks.made) asks.settled.quiet)

  -- an exchange behind what makes ready for it
  pub turns_or : (r : Result Turned Memory) (old mid new : C) → AddsQuiet (marks old) (marks mid) → Readies marks idle servers agents clock last now old mid → MatchResult r (λ t. Exchanges marks idle shows ask number t mid new) (λ _. FallsShort ask (marks mid) (marks new))
      → MatchResult r (λ t. Turns marks idle servers agents clock shows last now ask number t old new) (λ _. FallsShort ask (marks old) (marks new))
  turns_or (Ok t) old mid new quiet ready x = record { ready = mid; readied = ready; exchanged = x }
  turns_or (Err e) old mid new quiet ready x = short_behind ask (marks old) (marks mid) (marks new) quiet x

-- what a turn may leave: own numbers alone are taken
pub record Rests (mine : List ℕ) (old new : List Mark) : Type 0 where
  pub rest : List Mark
  pub are : new ≡ old ++ rest
  pub own : (n : ℕ) → Among n (numbers takes rest) → Among n (mine ++ numbers opens rest)

pub may_end : (mine : List ℕ) (old new : List Mark) → Rests mine old new → AreKept new → MayEnd opens takes old mine new
may_end mine old new r k = (r.rest, r.are, k.once, r.own)

-- what a collection leaves
record Leaves (n : ℕ) (old new : List Mark) : Type 0 where
  rest : List Mark
  are : new ≡ old ++ rest
  opens_none : numbers opens rest ≡ []
  own : (k : ℕ) → Among k (numbers takes rest) → n ≡ k

leaves_taken : (n : ℕ) (old new : List Mark) → new ≡ old ++ mark.Taken n ∷ [] → Leaves n old new
leaves_taken n old new e = record { rest = mark.Taken n ∷ []; are = e; opens_none = refl; own = λ k a. ⊎_elim (λ (i : n ≡ k). i) (λ (z : ⊥). absurd z) a }

leaves_none : (n : ℕ) (old new : List Mark) → new ≡ old → Leaves n old new
leaves_none n old new e = record { rest = []; are = e ∙ sym (append-nil old); opens_none = refl; own = λ k a. absurd a }

leaves : (shows : ℕ → Ask → Reply → List Mark → Type 0) (n : ℕ) (got : Collected) (old new : List Mark) → Collects shows n got old new → Leaves n old new
leaves shows n (collected.Ready reply) old new x = leaves_taken n old new x.0
leaves shows n collected.NotYet old new x = leaves_none n old new x
leaves shows n collected.Gone old new x = leaves_none n old new x.0

same_among : (n k : ℕ) (ns : List ℕ) → n ≡ k → Among n ns → Among k ns
same_among n k ns e a = subst (λ (z : ℕ). Among z ns) e a

one : (n : ℕ) → Among n (n ∷ [])
one n = inl refl

-- first something quiet or an ask, then the collection
rests_by : (mine : List ℕ) (n : ℕ) (old mid new rest : List Mark) → mid ≡ old ++ rest → numbers takes rest ≡ [] → Among n (mine ++ numbers opens rest) → Leaves n mid new → Rests mine old new
rests_by mine n old mid new rest are none own l = record {
  rest = rest ++ l.rest;
  are = joined old mid new rest l.rest are l.are;
  own = λ k a. same_among n k _ (l.own k (subst (Among k) (none_append takes rest l.rest none) a))
      (subst (λ (z : List ℕ). Among n (mine ++ z)) (sym (append_none opens rest l.rest l.opens_none)) own);
}

pub rests_first : (shows : ℕ → Ask → Reply → List Mark → Type 0) (mine : List ℕ) (ask : Ask) (k : ℕ) (t : Turned) (old new : List Mark) → Exchanged shows (Some ask) k t old new → Rests mine old new
rests_first shows mine ask k t old new x = let m = x.made in
    rests_by mine t.number old x.mid new m.rest m.are m.takes_none (among_right t.number mine (numbers opens m.rest) (subst (Among t.number) (sym m.opens_it) (one t.number))) (leaves shows t.number t.got x.mid new x.got)

pub rests_next : (shows : ℕ → Ask → Reply → List Mark → Type 0) (mine : List ℕ) (k : ℕ) (t : Turned) (old new : List Mark) → Among k mine → Exchanged shows None k t old new → Rests mine old new
rests_next shows mine k t old new own x = let m = x.made.1 in
    rests_by mine t.number old x.mid new m.rest m.are m.takes_none (among_left t.number mine (numbers opens m.rest) (subst (λ (z : ℕ). Among z mine) (sym x.made.0) own)) (leaves shows t.number t.got x.mid new x.got)

pub rests_cut : (mine : List ℕ) (old new : List Mark) → AddsCut old new → Rests mine old new
rests_cut mine old new x = record { rest = x.rest; are = x.are; own = λ k a. absurd (subst (Among k) x.takes_none a) }

pub rests_first_or : (shows : ℕ → Ask → Reply → List Mark → Type 0) (mine : List ℕ) (ask : Ask) (k : ℕ) (r : Result Turned Memory) (old new : List Mark)
    → MatchResult r (λ t. Exchanged shows (Some ask) k t old new) (λ _. AddsCut old new) → Rests mine old new
rests_first_or shows mine ask k (Ok t) old new x = rests_first shows mine ask k t old new x
rests_first_or shows mine ask k (Err e) old new x = rests_cut mine old new x

pub rests_next_or : (shows : ℕ → Ask → Reply → List Mark → Type 0) (mine : List ℕ) (k : ℕ) (r : Result Turned Memory) (old new : List Mark) → Among k mine
    → MatchResult r (λ t. Exchanged shows None k t old new) (λ _. AddsQuiet old new) → Rests mine old new
rests_next_or shows mine k (Ok t) old new own x = rests_next shows mine k t old new own x
rests_next_or shows mine k (Err e) old new own x = rests_cut mine old new (quiet_cut old new x)

-- what the pass has opened then
pub mine_is : (old new rest : List Mark) → new ≡ old ++ rest → numbers opens (drop (length old) new) ≡ numbers opens rest
mine_is old new rest e = ap (λ (l : List Mark). numbers opens (drop (length old) l)) e ∙ ap (numbers opens) (drop-append_seam old rest)

-- who asks nothing opens nothing
pub mine_still : (mine : List ℕ) (old new : List Mark) → AddsQuiet old new → mine ++ numbers opens (drop (length old) new) ≡ mine
mine_still mine old new q = ap (λ (l : List ℕ). mine ++ l) (mine_is old new q.rest q.are ∙ q.opens_none) ∙ append-nil mine

asked_opens : (n : ℕ) (ask : Ask) (marks : List Mark) → IsAmong (asked_mark n ask) marks → Among n (numbers opens marks)
asked_opens n ask [] a = absurd a
asked_opens n ask (m ∷ ms) (inl e) = subst (λ (z : Mark). Among n (ahead (opens z) (numbers opens ms))) e (inl refl)
asked_opens n ask (m ∷ ms) (inr a) = deeper (opens m) (asked_opens n ask ms a)
  where
    deeper : (o : Option ℕ) → Among n (numbers opens ms) → Among n (ahead o (numbers opens ms))
    deeper None b = b
    deeper (Some k) b = inr b

-- the reply that was collected, over the marks before
given : (shows : ℕ → Ask → Reply → List Mark → Type 0) (n : ℕ) (ask : Ask) (reply : Reply) (mid new : List Mark) (mine : List ℕ)
    → Waits n ask mid mine → new ≡ mid ++ mark.Taken n ∷ [] → IsAmong (answered_mark reply) mid → ((a : Ask) → IsAmong (asked_mark n a) mid → shows n a reply mid) → n ≡ reply.number → AreKept new
    → IsAnswered shows ask reply new mine
given shows n ask reply mid new mine w is answered shown e k = record {
  own = subst (λ (z : ℕ). Among z mine) e w.own;
  front = mid;
  rest = mark.Taken n ∷ [];
  seen_is = is;
  asked = subst (λ (z : ℕ). IsAmong (asked_mark z ask) mid) e w.asked;
  once = subst EachOnce (ap (numbers opens) is ∙ append_none opens mid (mark.Taken n ∷ []) refl) k.once;
  answered = answered;
  only = subst EachOnce (ap (numbers answers) is ∙ append_none answers mid (mark.Taken n ∷ []) refl) k.only;
  shown = subst (λ (z : ℕ). shows z ask reply mid) e (shown ask w.asked);
}

-- what stands, of what was seen and opened
pub StandsOver : (ℕ → Ask → Reply → List Mark → Type 0) → ℕ → Ask → Collected → List Mark → List ℕ → Type 0
StandsOver shows n ask (collected.Ready reply) seen mine = (reply.number ≡ n) × IsAnswered shows ask reply seen mine
StandsOver shows n ask collected.NotYet seen mine = Waits n ask seen mine
StandsOver shows n ask collected.Gone seen mine = ⊥

stands_known : (shows : ℕ → Ask → Reply → List Mark → Type 0) (n : ℕ) (ask : Ask) (got : Collected) (k : Known) → StandsOver shows n ask got k.seen k.mine → Stands shows n ask got k
unfolding StandsOver
stands_known shows n ask (collected.Ready reply) k s = s
stands_known shows n ask collected.NotYet k s = s
stands_known shows n ask collected.Gone k s = s

-- a waiting request's collection
pub stands : (shows : ℕ → Ask → Reply → List Mark → Type 0) (n : ℕ) (ask : Ask) (got : Collected) (mid new : List Mark) (mine : List ℕ)
    → Waits n ask mid mine → Collects shows n got mid new → AreKept new → StandsOver shows n ask got new mine
unfolding StandsOver
stands shows n ask (collected.Ready reply) mid new mine w x k = (x.1.number_is, given shows n ask reply mid new mine w x.0 x.1.answered x.1.shown (sym x.1.number_is) k)
stands shows n ask collected.NotYet mid new mine w x k = subst (λ (l : List Mark). Waits n ask l mine) (sym x) w
stands shows n ask collected.Gone mid new mine w x k = ⊎_elim (λ (f : Among n (numbers opens mid) → ⊥). f (asked_opens n ask mid w.asked)) (λ (a : Among n (numbers takes mid)). w.untaken a) x.1

-- a request that was just asked waits
pub waits_first : (n : ℕ) (ask : Ask) (old mid : List Mark) (mine : List ℕ) → AddsAsked n ask old mid → AreKept old → EachOnce (numbers opens mid) → Among n mine → Waits n ask mid mine
waits_first n ask old mid mine m k once own = record {
  own = own;
  asked = subst (IsAmong (asked_mark n ask)) (sym m.are) (in_right (asked_mark n ask) old m.rest m.asked);
  untaken = λ a.
      let before : Among n (numbers takes old) = subst (Among n) (ap (numbers takes) m.are ∙ append_none takes old m.rest m.takes_none) a in
      once_apart n (numbers opens old) (numbers opens m.rest) (subst EachOnce (ap (numbers opens) m.are ∙ numbers_append opens old m.rest) once) (k.taken n before) (subst (Among n) (sym m.opens_it) (one n));
}

-- one that waited still does
pub waits_on : (n : ℕ) (ask : Ask) (seen old : List Mark) (mine : List ℕ) → Waits n ask seen mine → Extends opens takes mine seen old → Waits n ask old mine
waits_on n ask seen old mine w e = record {
  own = w.own;
  asked = subst (IsAmong (asked_mark n ask)) (sym e.1) (in_left (asked_mark n ask) seen e.0 w.asked);
  untaken = λ a. ⊎_elim (λ (b : Among n (numbers takes seen)). w.untaken b) (λ (b : Among n (numbers takes e.0)). (e.2 n w.own).1 b)
      (among_append n (numbers takes seen) (numbers takes e.0) (subst (Among n) (ap (numbers takes) e.1 ∙ numbers_append takes seen e.0) a));
}

pub waits_quiet : (n : ℕ) (ask : Ask) (old mid : List Mark) (mine : List ℕ) → Waits n ask old mine → AddsQuiet old mid → Waits n ask mid mine
waits_quiet n ask old mid mine w q = record {
  own = w.own;
  asked = subst (IsAmong (asked_mark n ask)) (sym q.are) (in_left (asked_mark n ask) old q.rest w.asked);
  untaken = λ a. w.untaken (subst (Among n) (ap (numbers takes) q.are ∙ append_none takes old q.rest q.takes_none) a);
}

more_mine : (n : ℕ) (ask : Ask) (seen : List Mark) (mine mine' : List ℕ) → ((k : ℕ) → Among k mine → Among k mine') → Waits n ask seen mine → Waits n ask seen mine'
more_mine n ask seen mine mine' f w = record { own = f n w.own; asked = w.asked; untaken = w.untaken }

-- the first turn of a request opens its number alone, and each later one none
opens_first : (shows : ℕ → Ask → Reply → List Mark → Type 0) (ask : Ask) (k : ℕ) (t : Turned) (old new : List Mark) → Exchanged shows (Some ask) k t old new → numbers opens (drop (length old) new) ≡ t.number ∷ []
opens_first shows ask k t old new x =
    let l = leaves shows t.number t.got x.mid new x.got in
    let w = x.made in
    mine_is old new (w.rest ++ l.rest) (joined old x.mid new w.rest l.rest w.are l.are) ∙ (append_none opens w.rest l.rest l.opens_none ∙ w.opens_it)

pub opened_first : (shows : ℕ → Ask → Reply → List Mark → Type 0) (ask : Ask) (k : ℕ) (r : Result Turned Memory) (old new : List Mark) (mine mine' : List ℕ)
    → MatchResult r (λ t. Exchanged shows (Some ask) k t old new) (λ _. AddsCut old new) → mine' ≡ mine ++ numbers opens (drop (length old) new)
    → MatchResult r (λ t. mine' ≡ mine ++ t.number ∷ []) (λ _. OpensFew mine mine')
opened_first shows ask k (Ok t) old new mine mine' x m = m ∙ ap (λ (l : List ℕ). mine ++ l) (opens_first shows ask k t old new x)
opened_first shows ask k (Err e) old new mine mine' x m = record { last = numbers opens (drop (length old) new); are = m; few = few_as (numbers opens (drop (length old) new)) (numbers opens x.rest) (mine_is old new x.rest x.are) x.opens_few }

pub opened_next : (shows : ℕ → Ask → Reply → List Mark → Type 0) (k : ℕ) (r : Result Turned Memory) (old new : List Mark) (mine mine' : List ℕ)
    → MatchResult r (λ t. Exchanged shows None k t old new) (λ _. AddsQuiet old new) → mine' ≡ mine ++ numbers opens (drop (length old) new) → mine' ≡ mine
opened_next shows k (Ok t) old new mine mine' x m =
    let l = leaves shows t.number t.got x.mid new x.got in
    let q = x.made.1 in
    let none : numbers opens (drop (length old) new) ≡ [] = mine_is old new (q.rest ++ l.rest) (joined old x.mid new q.rest l.rest q.are l.are) ∙ (append_none opens q.rest l.rest l.opens_none ∙ q.opens_none) in
    m ∙ (ap (λ (z : List ℕ). mine ++ z) none ∙ append-nil mine)
opened_next shows k (Err e) old new mine mine' x m = m ∙ mine_still mine old new x

-- what a request opened whose first turn is done, and that waits since
pub opened_by : {E : Type 0} (n : ℕ) (mine mine₁ mine₂ : List ℕ) (r : Result Reply E) → mine₁ ≡ mine ++ n ∷ [] → mine₂ ≡ mine₁ → IfOk r (λ reply. reply.number ≡ n)
    → MatchResult r (λ reply. mine₂ ≡ mine ++ reply.number ∷ []) (λ _. OpensFew mine mine₂)
opened_by n mine mine₁ mine₂ (Ok reply) e f same = f ∙ (e ∙ ap (λ (z : ℕ). mine ++ z ∷ []) (sym same))
opened_by n mine mine₁ mine₂ (Err why) e f same = record { last = n ∷ []; are = f ∙ e; few = omega arith }

-- it is held, as the last that the pass asked
pub held_or : (S : Ask → Type 0) (n : ℕ) (ask : Ask) (mine mine₁ : List ℕ) (w : Known) (r : Result Reply NoReply) → mine₁ ≡ mine ++ n ∷ [] → w.mine ≡ mine₁ → S ask
    → IfErr r (λ why. why ≡ no_reply.Left → (a : Ask) → S a → Waits n a w.seen w.mine) → IfErr r (λ why. why ≡ no_reply.Left → IsHeld ask mine w)
held_or S n ask mine mine₁ w (Ok reply) e f s x = tt
held_or S n ask mine mine₁ w (Err why) e f s x = λ left. record { number = n; waits = x left ask s; last = f ∙ e }

-- The first turn of a request, and each later one.
pub stands_first : (shows : ℕ → Ask → Reply → List Mark → Type 0) (ask : Ask) (k : ℕ) (t : Turned) (old new : List Mark) (mine : List ℕ) (w' : Known)
    → Exchanged shows (Some ask) k t old new → AreKept old → AreKept new → w'.seen ≡ new → w'.mine ≡ mine ++ numbers opens (drop (length old) new)
    → Stands shows t.number ask t.got w'
stands_first shows ask k t old new mine w' x before after s m =
    let l = leaves shows t.number t.got x.mid new x.got in
    let w = x.made in
    let whole = opens_first shows ask k t old new x in
    let own : Among t.number w'.mine = subst (Among t.number) (sym m) (among_right t.number mine _ (subst (Among t.number) (sym whole) (one t.number))) in
    let once : EachOnce (numbers opens x.mid) = subst EachOnce (ap (numbers opens) l.are ∙ append_none opens x.mid l.rest l.opens_none) after.once in
    stands_known shows t.number ask t.got w' (subst (λ (z : List Mark). StandsOver shows t.number ask t.got z w'.mine) (sym s)
    (stands shows t.number ask t.got x.mid new w'.mine (waits_first t.number ask old x.mid w'.mine w before once own) x.got after))

pub stands_next : (shows : ℕ → Ask → Reply → List Mark → Type 0) (ask : Ask) (k : ℕ) (t : Turned) (seen old new : List Mark) (mine : List ℕ) (w' : Known)
    → Waits k ask seen mine → Extends opens takes mine seen old
    → Exchanged shows None k t old new → AreKept new → w'.seen ≡ new → w'.mine ≡ mine ++ numbers opens (drop (length old) new)
    → Stands shows t.number ask t.got w'
stands_next shows ask k t seen old new mine w' w e x after s m =
    let at : Waits t.number ask old mine = subst (λ (z : ℕ). Waits z ask old mine) (sym x.made.0) (waits_on k ask seen old mine w e) in
    let mid : Waits t.number ask x.mid mine = waits_quiet t.number ask old x.mid mine at x.made.1 in
    let own : Waits t.number ask x.mid w'.mine = more_mine t.number ask x.mid mine w'.mine (λ z a. subst (Among z) (sym m) (among_left z mine _ a)) mid in
    stands_known shows t.number ask t.got w' (subst (λ (z : List Mark). StandsOver shows t.number ask t.got z w'.mine) (sym s) (stands shows t.number ask t.got x.mid new w'.mine own x.got after))

-- what was seen, opened and read grows over a turn
pub grows : (v w : Known) (old new : List Mark) → Extends opens takes v.mine v.seen old → Rests v.mine old new → w.seen ≡ new → w.mine ≡ v.mine ++ numbers opens (drop (length old) new) → w.shares ≡ v.shares → IsPrefix v.read w.read → Grows v w
grows v w old new e r s m k p = record {
  rest = e.0 ++ r.rest;
  more = numbers opens (drop (length old) new);
  seen = s ∙ joined v.seen old new e.0 r.rest e.1 r.are;
  mine = m;
  shares = k;
  read = p;
}

pub turned_first : (shows : ℕ → Ask → Reply → List Mark → Type 0) (ask : Ask) (k : ℕ) (r : Result Turned Memory) (old new : List Mark) (mine : List ℕ) (w : Known)
    → MatchResult r (λ t. Exchanged shows (Some ask) k t old new) (λ _. AddsCut old new) → AreKept old → AreKept new → w.seen ≡ new
    → w.mine ≡ mine ++ numbers opens (drop (length old) new) → IfOk r (λ t. Stands shows t.number ask t.got w)
turned_first shows ask k (Ok t) old new mine w x before after s m = stands_first shows ask k t old new mine w x before after s m
turned_first shows ask k (Err e) old new mine w x before after s m = tt

pub turned_next : (shows : ℕ → Ask → Reply → List Mark → Type 0) (k : ℕ) (r : Result Turned Memory) (seen old new : List Mark) (mine : List ℕ) (w : Known)
    → Extends opens takes mine seen old → MatchResult r (λ t. Exchanged shows None k t old new) (λ _. AddsQuiet old new) → AreKept new → w.seen ≡ new
    → w.mine ≡ mine ++ numbers opens (drop (length old) new) → IfOk r (λ t. (ask : Ask) → Waits k ask seen mine → Stands shows t.number ask t.got w)
turned_next shows k (Ok t) seen old new mine w e x after s m = λ ask waits. stands_next shows ask k t seen old new mine w waits e x after s m
turned_next shows k (Err e) seen old new mine w ext x after s m = tt

-- who asks nothing waits for the request that it names
pub numbered_next : (shows : ℕ → Ask → Reply → List Mark → Type 0) (k : ℕ) (r : Result Turned Memory) (old new : List Mark)
    → MatchResult r (λ t. Exchanged shows None k t old new) (λ _. AddsQuiet old new) → IfOk r (λ t. t.number ≡ k)
numbered_next shows k (Ok t) old new x = x.made.0
numbered_next shows k (Err e) old new x = tt

pub behind : (shows : ℕ → Ask → Reply → List Mark → Type 0) (ask : Ask) (k : ℕ) (r : Result Turned Memory) (seen old new seen' : List Mark) (mine : List ℕ)
    → Extends opens takes mine seen old → MatchResult r (λ t. Exchanged shows (Some ask) k t old new) (λ _. AddsCut old new) → seen' ≡ new → IfOk r (λ t. IsBehind t.number ask seen seen')
behind shows ask k (Ok t) seen old new seen' mine e x s =
    let m = x.made in let l = leaves shows t.number t.got x.mid new x.got in record {
      more = e.0 ++ (m.rest ++ l.rest);
      seen_is = s ∙ joined seen old new e.0 (m.rest ++ l.rest) e.1 (joined old x.mid new m.rest l.rest m.are l.are);
      asked = in_right (asked_mark t.number ask) e.0 (m.rest ++ l.rest) (in_left (asked_mark t.number ask) m.rest l.rest m.asked);
    }
behind shows ask k (Err m) seen old new seen' mine e x s = tt

-- what was asked behind all that had been seen still was, once more is seen, by whatever name its number goes
pub behind_on : (n n' : ℕ) (ask : Ask) (before : List Mark) (v w : Known) → n' ≡ n → IsBehind n ask before v.seen → Grows v w → IsBehind n' ask before w.seen
behind_on n n' ask before v w e b g = record {
  more = b.more ++ g.rest;
  seen_is = joined before v.seen w.seen b.more g.rest b.seen_is g.seen;
  asked = in_left (asked_mark n' ask) b.more g.rest (subst (λ (z : ℕ). IsAmong (asked_mark z ask) b.more) (sym e) b.asked);
}

pub behind_or : {E : Type 0} (n : ℕ) (ask : Ask) (before : List Mark) (v w : Known) (r : Result Reply E) → IfOk r (λ reply. reply.number ≡ n) → IsBehind n ask before v.seen → Grows v w
    → IfOk r (λ reply. IsBehind reply.number ask before w.seen)
behind_or n ask before v w (Ok reply) e b g = behind_on n reply.number ask before v w e b g
behind_or n ask before v w (Err why) e b g = tt

pub grows_none : (v : Known) → Grows v v
grows_none v = record { rest = []; more = []; seen = sym (append-nil v.seen); mine = sym (append-nil v.mine); shares = refl; read = prefix_self v.read }

-- more was read alone
pub grows_read : (v : Known) (read : List Command) → IsPrefix v.read read → Grows v (record v { read = read })
grows_read v read p = record { rest = []; more = []; seen = sym (append-nil v.seen); mine = sym (append-nil v.mine); shares = refl; read = p }

pub grows_on : (u v w : Known) → Grows u v → Grows v w → Grows u w
grows_on u v w a b = record {
  rest = a.rest ++ b.rest;
  more = a.more ++ b.more;
  seen = joined u.seen v.seen w.seen a.rest b.rest a.seen b.seen;
  mine = b.mine ∙ (ap (λ (l : List ℕ). l ++ b.more) a.mine ∙ append_assoc u.mine a.more b.more);
  shares = b.shares ∙ a.shares;
  read = prefix_on u.read v.read w.read a.read b.read;
}

-- a turn in which nothing happens: what the pass has seen and opened then
none_opened : (marks : List Mark) → numbers opens (drop (length marks) marks) ≡ []
none_opened marks = mine_is marks marks [] (sym (append-nil marks))

pub may_end_same : (mine : List ℕ) (marks : List Mark) → AreKept marks → MayEnd opens takes marks mine marks
may_end_same mine marks k = may_end mine marks marks (record { rest = []; are = sym (append-nil marks); own = λ n a. absurd a }) k

pub grows_looking : (v w : Known) (marks : List Mark) → Extends opens takes v.mine v.seen marks → w.seen ≡ marks → w.mine ≡ v.mine ++ numbers opens (drop (length marks) marks) → w.shares ≡ v.shares → IsPrefix v.read w.read → Grows v w
grows_looking v w marks e s m k p = grows v w marks marks e (record { rest = []; are = sym (append-nil marks); own = λ n a. absurd a }) s m k p

pub opened_looking : (mine mine' : List ℕ) (marks : List Mark) → mine' ≡ mine ++ numbers opens (drop (length marks) marks) → mine' ≡ mine
opened_looking mine mine' marks m = m ∙ (ap (λ (l : List ℕ). mine ++ l) (none_opened marks) ∙ append-nil mine)

pub held_looking : (v w : Known) (marks : List Mark) → Extends opens takes v.mine v.seen marks → w.seen ≡ marks → w.mine ≡ v.mine ++ numbers opens (drop (length marks) marks) → (ask : Ask) (mine : List ℕ) → IsHeld ask mine v → IsHeld ask mine w
held_looking v w marks e s m ask mine h =
    let same : w.mine ≡ v.mine = opened_looking v.mine w.mine marks m in
    let waits : Waits h.number ask w.seen w.mine = subst (Waits h.number ask w.seen) (sym same) (subst (λ (l : List Mark). Waits h.number ask l v.mine) (sym s) (waits_on h.number ask v.seen marks v.mine h.waits e)) in
    record { number = h.number; waits = waits; last = same ∙ h.last }

module _ (shows : ℕ → Ask → Reply → List Mark → Type 0) where
  pub looks_first : (n : ℕ) (got : Collected) (v : Known) → (ask : Ask) × Stands shows n ask got v → Looks shows n got v n got v
  looks_first n got v s = record { grows = grows_none v; same = refl; some = s; each = λ ask x. x }

  waiting : (n : ℕ) (ask : Ask) (got : Collected) (k : Known) → got ≡ collected.NotYet → Stands shows n ask got k → Waits n ask k.seen k.mine
  waiting n ask got k e s = subst (λ (x : Collected). Stands shows n ask x k) e s

  pub waits_own : (n : ℕ) (got : Collected) (v : Known) (n' : ℕ) (got' : Collected) (w : Known) → got' ≡ collected.NotYet → Looks shows n got v n' got' w → Among n' w.mine
  waits_own n got v n' got' w e l = (waiting n' l.some.0 got' w e l.some.1).own

  pub looks_next : (n : ℕ) (got : Collected) (u : Known) (n₁ : ℕ) (got₁ : Collected) (v : Known) (n₂ : ℕ) (got₂ : Collected) (w : Known) → got₁ ≡ collected.NotYet → n₂ ≡ n₁ → Looks shows n got u n₁ got₁ v → Grows v w
      → ((ask : Ask) → Waits n₁ ask v.seen v.mine → Stands shows n₂ ask got₂ w) → Looks shows n got u n₂ got₂ w
  looks_next n got u n₁ got₁ v n₂ got₂ w e same l g f = record {
    grows = grows_on u v w l.grows g;
    same = same ∙ l.same;
    some = (l.some.0, f l.some.0 (waiting n₁ l.some.0 got₁ v e l.some.1));
    each = λ ask x. f ask (waiting n₁ ask got₁ v e (l.each ask x));
  }

  pub looks_ready : (n : ℕ) (got : Collected) (u : Known) (n' : ℕ) (got' : Collected) (w : Known) (reply : Reply) → got' ≡ collected.Ready reply → Looks shows n got u n' got' w
      → (ask : Ask) → Stands shows n ask got u → IsAnswered shows ask reply w.seen w.mine
  looks_ready n got u n' got' w reply e l ask x = let s : Stands shows n' ask (collected.Ready reply) w = subst (λ (z : Collected). Stands shows n' ask z w) e (l.each ask x) in s.1

  pub looks_waiting : (n : ℕ) (got : Collected) (u : Known) (n' : ℕ) (got' : Collected) (w : Known) → got' ≡ collected.NotYet → Looks shows n got u n' got' w → (ask : Ask) → Stands shows n ask got u → Waits n ask w.seen w.mine
  looks_waiting n got u n' got' w e l ask x = subst (λ (z : ℕ). Waits z ask w.seen w.mine) l.same (waiting n' ask got' w e (l.each ask x))

  pub looks_numbered : (n : ℕ) (got : Collected) (u : Known) (n' : ℕ) (got' : Collected) (w : Known) (reply : Reply) → got' ≡ collected.Ready reply → Looks shows n got u n' got' w → reply.number ≡ n
  looks_numbered n got u n' got' w reply e l = let s : Stands shows n' l.some.0 (collected.Ready reply) w = subst (λ (z : Collected). Stands shows n' l.some.0 z w) e l.some.1 in s.0 ∙ l.same

  pub never_gone : (n : ℕ) (got : Collected) (u : Known) (n' : ℕ) (got' : Collected) (w : Known) → got' ≡ collected.Gone → Looks shows n got u n' got' w → ⊥
  never_gone n got u n' got' w e l = subst (λ (z : Collected). Stands shows n' l.some.0 z w) e l.some.1
