-- What is due at a server.
use Rattle.std.proofs.Common.{◌≡◌, ◌≢◌, ℕ, ◌<◌, ◌≤◌, ◌==◌, ◌&&◌, ◌||◌, nat_le, nat_lt, not, Bool, true, false, cond, if◌then◌else◌, length, take, List, [], ◌∷◌, Option, None, Some, Result, Ok, Err, is_some, refl, sym, ap, ◌∙◌, subst, arith}
use Rattle.std.proofs.lemmas.Bool.Decides.{nat_tests}
use Rattle.std.specs.Prelude.{IfOk, IfSome, OnErr}
use Rattle.std.specs.List.{AllByRecursion as Each, find}
use Rattle.cat_model.specs.declared.command.Entry.{Entry}
use Rattle.cat_model.specs.declared.query.Query.{Query}
use Rattle.cat_model.specs.declared.request.Mode.{Mode}
use Rattle.cat_model.specs.declared.request.Asked.{Asked}
use Rattle.cat_model.specs.declared.request.Asked.TheVariants.{Good, Bad}
use Rattle.cat_model.specs.declared.request.Request.TheVariants.{Read, Execute, Write, Renew, Agent}
use Rattle.cat_model.specs.declared.reply.Kind.TheVariants.{At, Refused, Seen}
use Rattle.cat_model.specs.declared.reply.Refusal.TheVariants as refusal
use Rattle.cat_model.specs.Executions.{execution}
use Rattle.cat_model.specs.Indexes.{index_of}
use Rattle.cat_model.specs.Log.{commands_of}
use Rattle.cat_model.specs.Machine.{catalog_at}
use Rattle.cluster_rules.specs.Replies.{Question, Runs, id_in, shown, shown_seen}
use Rattle.cluster_rules.specs.Cluster.{Cluster, Pending, Stand, AtPlace, InRound, ForIndex, Ended, applied_of, clock_of, node_of}
use Rattle.cluster_rules.specs.Due as rules
use Rattle.cluster_rules.specs.Due.{IsDue, asks_read, due, early, early_stand, early_work, first_work, is_ended, late, late_work, next_one, next_work, or_work}
use Rattle.cluster_rules.specs.Sound.{Ascends}
use Rattle.cluster_rules.proofs.Steps.{or_left, or_right}
use Rattle.cluster_works.specs.declared.work.Work.{Work}
use Rattle.cluster_works.specs.declared.work.Work.TheVariants.{Apply}
use Rattle.cluster_works.specs.Looking.{is_early, is_late, is_look_due, is_number_early, is_number_late, is_round_over, is_stand_due, is_stand_late, numbered_in, servers_of, test_held}
use Rattle.cluster_works.specs.Working.{Finds, IsFound, IsWork}
use Rattle.cluster_works.proofs.Numbered.{each_numbered, each_one, one_found}

pub clash : {A : Type 0} → true ≡ false → A
clash e = absurd cc

-- Contents.
taken_whole : {A : Type 0} (xs : List A) → take (length xs) xs ≡ xs
taken_whole [] = refl
taken_whole (x ∷ xs) = ap (λ l. x ∷ l) (taken_whole xs)

-- an execution at all that is applied
pub run_whole : (q : Question) (name : List ℕ) (limit : ℕ) (mode : Mode) (log : List Entry) → q.asked ≡ Good (Execute name limit mode) → Runs (execution (catalog_at (commands_of log)) (id_in name) name limit) ≡ shown q (Seen mode (length log)) log
unfolding shown
run_whole q name limit mode log e =
    subst (λ a. Runs (execution (catalog_at (commands_of log)) (id_in name) name limit) ≡ shown_seen a (length log) log) (sym e)
    (ap (λ l. Runs (execution (catalog_at (commands_of l)) (id_in name) name limit)) (sym (taken_whole log)))

abbrev answers_now : Cluster → ℕ → Pending → Query → Mode → ℕ → rules.Work
answers_now c i h query mode deadline = rules.Replies h.question (At mode (length (applied_of c i)) (index_of query (commands_of (applied_of c i))) (clock_of c.world i) deadline)

-- Which held requests have something due.
asks_some : (above over looked full : Bool) (x y z : rules.Work) → (not looked || (over || above)) ≡ is_some (cond (above || over) (Some x) (cond looked None (cond full (Some y) (Some z))))
asks_some true true true full x y z = refl
asks_some true true false full x y z = refl
asks_some true false true full x y z = refl
asks_some true false false full x y z = refl
asks_some false true true full x y z = refl
asks_some false true false full x y z = refl
asks_some false false true full x y z = refl
asks_some false false false true x y z = refl
asks_some false false false false x y z = refl

read_due : (c : Cluster) (i : ℕ) (h : Pending) (others deadline : ℕ) (looked : Bool) (asked : Asked)
    → is_look_due (servers_of c) i deadline looked asked ≡ is_some (asks_read h others (clock_of c.world i) (applied_of c i) deadline looked asked)
read_due c i h others deadline looked (Good (Read query mode least wait raw)) =
    asks_some (nat_lt least (index_of query (commands_of (applied_of c i)))) (nat_le deadline (clock_of c.world i)) looked (nat_le 4096 others)
    (answers_now c i h query mode deadline)
    (rules.Replies h.question (Refused (refusal.TooMany others)))
    (rules.Holds (record h { stand = ForIndex deadline true }))
read_due c i h others deadline looked (Good (Execute name limit mode)) = refl
read_due c i h others deadline looked (Good (Write command)) = refl
read_due c i h others deadline looked (Good (Renew id)) = refl
read_due c i h others deadline looked (Good (Agent op)) = refl
read_due c i h others deadline looked (Bad why) = refl

pub not_above : (least index : ℕ) → index ≤ least → nat_lt least index ≡ false
not_above least index l = grind (arith, nat_tests)

pub not_reached : (deadline clock : ℕ) → clock < deadline → nat_le deadline clock ≡ false
not_reached deadline clock l = grind (arith, nat_tests)

is_some_if : {A : Type 0} (b : Bool) (x : A) → b ≡ is_some (if b then Some x else None)
is_some_if true x = refl
is_some_if false x = refl

stand_due : (c : Cluster) (i : ℕ) (h : Pending) (s : Stand) → is_stand_due (servers_of c) i h.question.asked s ≡ is_some (early_stand c i h s)
stand_due c i h (AtPlace index term) = is_some_if (nat_le index (length (applied_of c i))) (rules.Replies h.question (rules.landed index term (applied_of c i)))
stand_due c i h (InRound round deadline) = is_some_if (nat_lt round.term (node_of c.world i).term) (rules.Replies h.question (Refused (refusal.Lost round.term (node_of c.world i).term)))
stand_due c i h (ForIndex deadline looked) = read_due c i h (rules.waiting i c.held) deadline looked h.question.asked
stand_due c i h (Ended event) = refl

early_by : (c : Cluster) (i : ℕ) (h : Pending) (s : Stand) (here halted : Bool) → is_stand_due (servers_of c) i h.question.asked s ≡ is_some (early_stand c i h s)
    → (here && (halted || is_stand_due (servers_of c) i h.question.asked s)) ≡ is_some (if here then (if halted && not (is_ended s) then Some (rules.Replies h.question (Refused (refusal.Halted i))) else early_stand c i h s) else None)
early_by c i h s false halted e = refl
early_by c i h s true false e = e
early_by c i h (AtPlace index term) true true e = refl
early_by c i h (InRound round deadline) true true e = refl
early_by c i h (ForIndex deadline looked) true true e = refl
early_by c i h (Ended event) true true e = refl

pub early_is : (c : Cluster) (i : ℕ) (h : Pending) → is_early (servers_of c) i h ≡ is_some (early_work c i h)
early_is c i h = early_by c i h h.stand (h.server == i) (node_of c.world i).halted (stand_due c i h h.stand)

-- what is found passes
no_work : (w : Option rules.Work) → is_some w ≡ false → w ≡ None
no_work None e = refl
no_work (Some w) e = clash e

pub some_of : (w : Option rules.Work) → is_some w ≡ true → (v : rules.Work) × (w ≡ Some v)
some_of None e = clash (sym e)
some_of (Some v) e = (v, refl)

-- where none passes, none has a work
none_works : (f : Pending → Option rules.Work) (test : Pending → Bool) → ((h : Pending) → test h ≡ is_some (f h)) → (held : List Pending) → Each (λ (h : Pending). test h ≡ false) held → first_work f held ≡ None
none_works f test same [] none = refl
none_works f test same (h ∷ held) none = ap (λ w. or_work w (first_work f held)) (no_work (f h) (sym (same h) ∙ none.0)) ∙ none_works f test same held none.1

pub none_early : (c : Cluster) (i : ℕ) → Each (λ (h : Pending). is_early (servers_of c) i h ≡ false) c.held → first_work (early_work c i) c.held ≡ None
none_early c i none = none_works (early_work c i) (is_early (servers_of c) i) (early_is c i) c.held none

pub here_first : (a b : Bool) → (a && b) ≡ true → a ≡ true
here_first true b e = refl
here_first false b e = absurd cc

-- Which held requests have a round that is over.
late_by : (c : Cluster) (i : ℕ) (h : Pending) (s : Stand) (here : Bool) → (here && is_stand_late (servers_of c) i s) ≡ is_some (if here then rules.late_stand c i h s else None)
late_by c i h s false = refl
late_by c i h (AtPlace index term) true = refl
late_by c i h (InRound round deadline) true = is_some_if (is_round_over (servers_of c) i round) (rules.Holds (record h { stand = ForIndex deadline false }))
late_by c i h (ForIndex deadline looked) true = refl
late_by c i h (Ended event) true = refl

late_is : (c : Cluster) (i : ℕ) (h : Pending) → is_late (servers_of c) i h ≡ is_some (late_work c i h)
late_is c i h = late_by c i h h.stand (h.server == i)

pub none_late : (c : Cluster) (i : ℕ) → Each (λ (h : Pending). is_late (servers_of c) i h ≡ false) c.held → first_work (late_work c i) c.held ≡ None
none_late c i none = none_works (late_work c i) (is_late (servers_of c) i) (late_is c i) c.held none

-- What is found by its number.
pub passes : (test : Pending → Bool) (number : ℕ) (held : List Pending) (h : Pending) → numbered_in number held ≡ Some h → test_held test (numbered_in number held) ≡ true → test h ≡ true
passes test number held h e t = sym (ap (test_held test) e) ∙ t

found_by : (c : Cluster) (i : ℕ) (work : Work) (w : Option rules.Work) (v : rules.Work) → w ≡ Some v → IsFound (applied_of c i) w (Some work) → IsWork (applied_of c i) work v
found_by c i work w v e f = subst (λ (o : Option rules.Work). IsFound (applied_of c i) o (Some work)) e f

pub early_finds : (c : Cluster) (i number : ℕ) (h : Pending) (work : Work) → numbered_in number c.held ≡ Some h → is_number_early (servers_of c) c.held i number ≡ true → IsFound (applied_of c i) (early_work c i h) (Some work) → Finds c i (Some work)
early_finds c i number h work e t f =
    let is = passes (is_early (servers_of c) i) number c.held h e t in
    let w = some_of (early_work c i h) (sym (early_is c i h) ∙ is) in
    let o = one_found (λ (g : Pending). g.question.number == number) c.held h e in
    (w.0, early o.before o.after h o.there w.1, found_by c i work (early_work c i h) w.0 w.1 f)

first_none : (f : Pending → Option rules.Work) (hs : List Pending) → first_work f hs ≡ None → Each (λ h. f h ≡ None) hs
first_none f [] e = tt
first_none f (h ∷ hs) e = (or_left (f h) (first_work f hs) e, first_none f hs (or_right (f h) (first_work f hs) e))

pub early_behind : (c : Cluster) (i number : ℕ) (h : Pending) → numbered_in number c.held ≡ Some h → is_number_early (servers_of c) c.held i number ≡ true → due i c ≢ None
early_behind c i number h e t none =
    let is = passes (is_early (servers_of c) i) number c.held h e t in
    let o = one_found (λ (g : Pending). g.question.number == number) c.held h e in
    let nothing : early_work c i h ≡ None = each_one (λ (g : Pending). early_work c i g ≡ None) (λ (g : Pending). g.question.number == number) c.held h o (first_none (early_work c i) c.held (or_left (first_work (early_work c i) c.held) _ none)) in
    clash (sym is ∙ early_is c i h ∙ ap is_some nothing)

pub early_finds_call : {B : Type 0} (c : Cluster) (i number : ℕ) (h : Pending) (result : Result Work B) → numbered_in number c.held ≡ Some h → is_number_early (servers_of c) c.held i number ≡ true → IfOk result (λ work. IsFound (applied_of c i) (early_work c i h) (Some work)) → IfOk result (λ work. Finds c i (Some work))
early_finds_call c i number h (Ok work) e t f = early_finds c i number h work e t f
early_finds_call c i number h (Err why) e t f = tt

pub early_behind_call : {A B : Type 0} (c : Cluster) (i number : ℕ) (h : Pending) (result : Result A B) → numbered_in number c.held ≡ Some h → is_number_early (servers_of c) c.held i number ≡ true → OnErr result (due i c ≢ None)
early_behind_call c i number h (Ok work) e t = tt
early_behind_call c i number h (Err why) e t = early_behind c i number h e t

-- the next position
pub next_finds : (c : Cluster) (i : ℕ) → Each (λ (h : Pending). is_early (servers_of c) i h ≡ false) c.held → nat_lt (length (applied_of c i)) (node_of c.world i).commit ≡ true → Finds c i (Some Apply)
next_finds c i none more = (rules.Applies, next_one (none_early c i none) (ap (λ b. cond b (Some rules.Applies) None) more), tt)

-- a confirmed round
pub late_finds : (c : Cluster) (i number : ℕ) (h : Pending) (work : Work) → Each (λ (g : Pending). is_early (servers_of c) i g ≡ false) c.held → next_work c i ≡ None → numbered_in number c.held ≡ Some h → IsFound (applied_of c i) (late_work c i h) (Some work) → Finds c i (Some work)
late_finds c i number h work none applied e f = by (late_work c i h) refl f
  where
    by : (w : Option rules.Work) → late_work c i h ≡ w → IsFound (applied_of c i) w (Some work) → Finds c i (Some work)
    by None is f = absurd f
    by (Some w) is f = let o = one_found (λ (g : Pending). g.question.number == number) c.held h e in (w, late (none_early c i none) applied o.before o.after h o.there is, f)

pub late_found : (c : Cluster) (i number : ℕ) (h : Pending) (found : Option Work) → Each (λ (g : Pending). is_early (servers_of c) i g ≡ false) c.held → next_work c i ≡ None → numbered_in number c.held ≡ Some h → is_number_late (servers_of c) c.held i number ≡ true → (is_late (servers_of c) i h ≡ true → IsFound (applied_of c i) (late_work c i h) found) → Finds c i found
late_found c i number h (Some work) none applied e t f = late_finds c i number h work none applied e (f (passes (is_late (servers_of c) i) number c.held h e t))
late_found c i number h None none applied e t f =
    let is = passes (is_late (servers_of c) i) number c.held h e t in
    let w = some_of (late_work c i h) (sym (late_is c i h) ∙ is) in
    absurd (subst (λ (o : Option rules.Work). IsFound (applied_of c i) o None) w.1 (f is))

-- nothing is due
pub none_due : (c : Cluster) (i : ℕ) → Each (λ (h : Pending). is_early (servers_of c) i h ≡ false) c.held → next_work c i ≡ None → Each (λ (h : Pending). is_late (servers_of c) i h ≡ false) c.held → due i c ≡ None
none_due c i first next last = ap (λ w. or_work w (or_work (next_work c i) (first_work (late_work c i) c.held))) (none_early c i first) ∙ ap (λ w. or_work w (first_work (late_work c i) c.held)) next ∙ none_late c i last

-- the first that passes has its own number
pub first_number : (test : Pending → Bool) (held : List Pending) (h : Pending) → Ascends held → find test held ≡ Some h → test_held test (numbered_in h.question.number held) ≡ true
first_number test held h ascends e =
    let o = one_found test held h e in
    ap (test_held test) (each_one (λ (g : Pending). numbered_in g.question.number held ≡ Some g) test held h o (each_numbered held ascends)) ∙ o.passes

number_by : (test : ℕ → Bool) (b : Bool) (n m : ℕ) (numbers : List ℕ) → test n ≡ b → cond b (Some n) (find test numbers) ≡ Some m → (find test numbers ≡ Some m → test m ≡ true) → test m ≡ true
number_by test true n m numbers e f go = let same : n ≡ m = cc f in subst (λ k. test k ≡ true) same e
number_by test false n m numbers e f go = go f

pub number_passes : (test : ℕ → Bool) (numbers : List ℕ) (n : ℕ) → find test numbers ≡ Some n → test n ≡ true
number_passes test [] n e = absurd (cc e)
number_passes test (m ∷ numbers) n e = number_by test (test m) m n numbers refl e (λ f. number_passes test numbers n f)

pub some_awake : (test : ℕ → Bool) (numbers : List ℕ) (found : Option ℕ) → found ≡ find test numbers → IfSome found (λ number. test number ≡ true)
some_awake test numbers None e = tt
some_awake test numbers (Some n) e = number_passes test numbers n (sym e)
