-- Slots in the order of their numbers, and what they hold.
use Rattle.std.proofs.Common.{◌≡◌, ◌≢◌, ℕ, zero, suc, ◌<◌, ◌==◌, Bool, true, false, not, cond, List, [], ◌∷◌, ◌++◌, length, map, get_or, set, is_some, Some, None, refl, sym, ap, ◌∙◌, arith}
use Rattle.std.specs.List.{AllByRecursion as Each, filter, find, filter_map}
use Rattle.std.specs.List.Sorted.{IsNonDecreasingBy}
use Rattle.std.proofs.lemmas.Bool.Decides.{nat_tests}
use Rattle.cluster_rules.specs.Cluster.{Ended, Pending, Stand}
use Rattle.cluster_rules.specs.Due.{without}
use Rattle.cluster_rules.specs.Step.{ended}
use Rattle.cluster_requests.specs.declared.slot.HeldSlot.{HeldSlot}
use Rattle.cluster_requests.specs.declared.slot.HeldSlot.TheVariants.{Held, LetGo}
use Rattle.cluster_requests.specs.Held.{Rises, ended_numbered, held_in, number_held, pending_of, slot_ended, slot_number, slot_restood}
use Rattle.cluster_requests.specs.Requests.{restood}

-- what holds of each slot
each_at : (P : HeldSlot → Type 0) (ss : List HeldSlot) (k : ℕ) (d : HeldSlot) → Each P ss → k < length ss → P (get_or ss k d)
each_at P [] k d a l = absurd (omega arith)
each_at P (s ∷ ss) zero d a l = a.0
each_at P (s ∷ ss) (suc k) d a l = each_at P ss k d a.1 (omega arith)

each_of : (P Q : HeldSlot → Type 0) (f : (s : HeldSlot) → P s → Q s) (ss : List HeldSlot) → Each P ss → Each Q ss
each_of P Q f [] a = tt
each_of P Q f (s ∷ ss) a = (f s a.0, each_of P Q f ss a.1)

each_set : (P : HeldSlot → Type 0) (ss : List HeldSlot) (k : ℕ) (x : HeldSlot) → Each P ss → P x → Each P (set ss k x)
each_set P [] zero x a p = tt
each_set P [] (suc k) x a p = tt
each_set P (s ∷ ss) zero x a p = (p, a.1)
each_set P (s ∷ ss) (suc k) x a p = (a.0, each_set P ss k x a.1 p)

each_kept : (b : Bool) (P : HeldSlot → Type 0) (s : HeldSlot) (ss : List HeldSlot) → P s → Each P ss → Each P (cond b (s ∷ ss) ss)
each_kept true P s ss p a = (p, a)
each_kept false P s ss p a = a

each_filter : (P : HeldSlot → Type 0) (test : HeldSlot → Bool) (ss : List HeldSlot) → Each P ss → Each P (filter test ss)
each_filter P test [] a = tt
each_filter P test (s ∷ ss) a = each_kept (test s) P s (filter test ss) a.0 (each_filter P test ss a.1)

each_map : (P : HeldSlot → Type 0) (f : HeldSlot → HeldSlot) (ss : List HeldSlot) → ((s : HeldSlot) → P s → P (f s)) → Each P ss → Each P (map f ss)
each_map P f [] g a = tt
each_map P f (s ∷ ss) g a = (g s a.0, each_map P f ss g a.1)

each_last : (P : HeldSlot → Type 0) (ss : List HeldSlot) (x : HeldSlot) → Each P ss → P x → Each P (ss ++ x ∷ [])
each_last P [] x a p = (p, tt)
each_last P (s ∷ ss) x a p = (a.0, each_last P ss x a.1 p)

-- the order of the numbers
pub numbers_rise : (ss : List HeldSlot) → Rises ss → IsNonDecreasingBy slot_number ss
numbers_rise [] a i j d below l = absurd (omega arith)
numbers_rise (s ∷ ss) a zero zero d below l = omega arith
numbers_rise (s ∷ ss) a zero (suc j) d below l = let first = each_at (λ (t : HeldSlot). slot_number s < slot_number t) ss j d a.0 (omega arith) in omega (arith, first)
numbers_rise (s ∷ ss) a (suc i) zero d below l = absurd (omega arith)
numbers_rise (s ∷ ss) a (suc i) (suc j) d below l = numbers_rise ss a.1 i j d (omega arith) (omega arith)

pub rises_set : (ss : List HeldSlot) (k : ℕ) (x : HeldSlot) → k < length ss → slot_number x ≡ slot_number (get_or ss k x) → Rises ss → Rises (set ss k x)
rises_set [] k x l e a = absurd (omega arith)
rises_set (s ∷ ss) zero x l e a =
    (each_of (λ (t : HeldSlot). slot_number s < slot_number t) (λ (t : HeldSlot). slot_number x < slot_number t) (λ t below. omega (arith, below, e)) ss a.0, a.1)
rises_set (s ∷ ss) (suc k) x l e a =
    let first = each_at (λ (t : HeldSlot). slot_number s < slot_number t) ss k x a.0 (omega arith) in
    (each_set (λ (t : HeldSlot). slot_number s < slot_number t) ss k x a.0 (omega (arith, first, e)), rises_set ss k x (omega arith) e a.1)

rises_kept : (b : Bool) (s : HeldSlot) (ss : List HeldSlot) → Each (λ (t : HeldSlot). slot_number s < slot_number t) ss → Rises ss → Rises (cond b (s ∷ ss) ss)
rises_kept true s ss p a = (p, a)
rises_kept false s ss p a = a

pub rises_filter : (test : HeldSlot → Bool) (ss : List HeldSlot) → Rises ss → Rises (filter test ss)
rises_filter test [] a = tt
rises_filter test (s ∷ ss) a =
    rises_kept (test s) s (filter test ss) (each_filter (λ (t : HeldSlot). slot_number s < slot_number t) test ss a.0) (rises_filter test ss a.1)

pub rises_last : (ss : List HeldSlot) (x : HeldSlot) → Each (λ (s : HeldSlot). slot_number s < slot_number x) ss → Rises ss → Rises (ss ++ x ∷ [])
rises_last [] x p a = (tt, tt)
rises_last (s ∷ ss) x p a = (each_last (λ (t : HeldSlot). slot_number s < slot_number t) ss x a.0 p.0, rises_last ss x p.1 a.1)

-- all stand below what the last one stands below
pub below_last : (ss : List HeldSlot) (number : ℕ) → Rises ss → ((k : ℕ) (d : HeldSlot) → suc k ≡ length ss → slot_number (get_or ss k d) < number) → Each (λ (s : HeldSlot). slot_number s < number) ss
below_last [] number a f = tt
below_last (s ∷ []) number a f = (f zero s refl, tt)
below_last (s ∷ t ∷ ss) number a f =
    let rest = below_last (t ∷ ss) number a.1 (λ k d l. f (suc k) d (ap suc l)) in
    (omega (arith, a.0.0, rest.0), rest)

-- what is held
pub held_more : (ss ts : List HeldSlot) → held_in (ss ++ ts) ≡ held_in ss ++ held_in ts
held_more [] ts = refl
held_more (Held h ∷ ss) ts = ap (λ l. h ∷ l) (held_more ss ts)
held_more (LetGo n ∷ ss) ts = held_more ss ts

pub held_swept : (ss : List HeldSlot) → held_in (filter (λ (s : HeldSlot). is_some (pending_of s)) ss) ≡ held_in ss
held_swept [] = refl
held_swept (Held h ∷ ss) = ap (λ l. h ∷ l) (held_swept ss)
held_swept (LetGo n ∷ ss) = held_swept ss

-- of slots without one that was dropped the numbers are those that are held
pub swept_below : (number : ℕ) (ss : List HeldSlot) → Each (λ (h : Pending). h.question.number < number) (held_in ss) → Each (λ (s : HeldSlot). slot_number s < number) (filter (λ (s : HeldSlot). is_some (pending_of s)) ss)
swept_below number [] a = tt
swept_below number (Held h ∷ ss) a = (a.0, swept_below number ss a.1)
swept_below number (LetGo n ∷ ss) a = swept_below number ss a

pub numbers_held : (ss : List HeldSlot) → filter_map number_held ss ≡ map (λ (h : Pending). h.question.number) (held_in ss)
numbers_held [] = refl
numbers_held (Held h ∷ ss) = ap (λ l. h.question.number ∷ l) (numbers_held ss)
numbers_held (LetGo n ∷ ss) = numbers_held ss

-- an item that a test passes, or not
pub taken : {X : Type 0} (b : Bool) (x y : X) → b ≡ true → cond b x y ≡ x
taken true x y e = refl
taken false x y e = absurd cc

pub passed : {X : Type 0} (b : Bool) (x y : X) → b ≡ false → cond b x y ≡ y
passed true x y e = absurd cc
passed false x y e = refl

kept : {X : Type 0} (b : Bool) (x y : X) → b ≡ false → cond (not b) x y ≡ x
kept true x y e = absurd cc
kept false x y e = refl

dropped : {X : Type 0} (b : Bool) (x y : X) → b ≡ true → cond (not b) x y ≡ y
dropped true x y e = refl
dropped false x y e = absurd cc

pub same : (a b : ℕ) → a ≡ b → (a == b) ≡ true
same a b e = grind (arith, nat_tests)

differs : (a b : ℕ) → a ≢ b → (a == b) ≡ false
differs a b e = grind (arith, nat_tests)

-- slots of other numbers
abbrev pub Others : ℕ → List HeldSlot → Type 0
Others number ss = Each (λ (s : HeldSlot). slot_number s ≢ number) ss

pub others_by : (number : ℕ) (ss : List HeldSlot) → ((k : ℕ) (d : HeldSlot) → k < length ss → slot_number (get_or ss k d) ≢ number) → Others number ss
others_by number [] f = tt
others_by number (s ∷ ss) f = (f zero s (omega arith), others_by number ss (λ k d l. f (suc k) d (omega arith)))

others_above : (number : ℕ) (s : HeldSlot) (ss : List HeldSlot) → slot_number s ≡ number → Each (λ (t : HeldSlot). slot_number s < slot_number t) ss → Others number ss
others_above number s ss e a = each_of (λ (t : HeldSlot). slot_number s < slot_number t) (λ (t : HeldSlot). slot_number t ≢ number) (λ t below is. omega (arith, below, e, is)) ss a

pub others_stay : (number : ℕ) (ss : List HeldSlot) → Others number ss → held_in ss ≡ without number (held_in ss)
others_stay number [] a = refl
others_stay number (Held h ∷ ss) a = ap (λ l. h ∷ l) (others_stay number ss a.1) ∙ sym (kept (h.question.number == number) _ _ (differs h.question.number number a.0))
others_stay number (LetGo n ∷ ss) a = others_stay number ss a.1

-- the request of a number is changed, and no other
abbrev pub changed : ℕ → (Pending → Pending) → Pending → Pending
changed number f h = cond (h.question.number == number) (f h) h

pub others_same : (number : ℕ) (f : Pending → Pending) (ss : List HeldSlot) → Others number ss → held_in ss ≡ map (changed number f) (held_in ss)
others_same number f [] a = refl
others_same number f (Held h ∷ ss) a =
    ap (λ l. h ∷ l) (others_same number f ss a.1)
    ∙ ap (λ g. g ∷ map (changed number f) (held_in ss)) (sym (passed (h.question.number == number) (f h) h (differs h.question.number number a.0)))
others_same number f (LetGo n ∷ ss) a = others_same number f ss a.1

pub others_found : (number : ℕ) (ss : List HeldSlot) → Others number ss → find (λ (h : Pending). h.question.number == number) (held_in ss) ≡ None
others_found number [] a = refl
others_found number (Held h ∷ ss) a = passed (h.question.number == number) (Some h) _ (differs h.question.number number a.0) ∙ others_found number ss a.1
others_found number (LetGo n ∷ ss) a = others_found number ss a.1

-- the slot that is at a place of its number is dropped
pub let_go_at : (number : ℕ) (ss : List HeldSlot) (k : ℕ) (d : HeldSlot) → Rises ss → k < length ss → slot_number (get_or ss k d) ≡ number → held_in (set ss k (LetGo number)) ≡ without number (held_in ss)
let_go_at number [] k d a l e = absurd (omega arith)
let_go_at number (Held h ∷ ss) zero d a l e =
    others_stay number ss (others_above number (Held h) ss e a.0) ∙ sym (dropped (h.question.number == number) _ _ (same h.question.number number e))
let_go_at number (LetGo n ∷ ss) zero d a l e = others_stay number ss (others_above number (LetGo n) ss e a.0)
let_go_at number (Held h ∷ ss) (suc k) d a l e =
    let first = each_at (λ (t : HeldSlot). h.question.number < slot_number t) ss k d a.0 (omega arith) in
    ap (λ l. h ∷ l) (let_go_at number ss k d a.1 (omega arith) e)
    ∙ sym (kept (h.question.number == number) _ _ (differs h.question.number number (λ s. omega (arith, first, e, s))))
let_go_at number (LetGo n ∷ ss) (suc k) d a l e = let_go_at number ss k d a.1 (omega arith) e

-- the slot of a number has another request
pub changed_at : (number : ℕ) (f : Pending → Pending) (ss : List HeldSlot) (k : ℕ) (d new : HeldSlot) → Rises ss → k < length ss → slot_number (get_or ss k d) ≡ number
    → held_in (new ∷ []) ≡ map (changed number f) (held_in (get_or ss k d ∷ [])) → held_in (set ss k new) ≡ map (changed number f) (held_in ss)
changed_at number f [] k d new a l e is = absurd (omega arith)
changed_at number f (Held h ∷ ss) zero d new a l e is =
    held_more (new ∷ []) ss ∙ ap (λ l. l ++ held_in ss) is ∙ ap (λ l. changed number f h ∷ l) (others_same number f ss (others_above number (Held h) ss e a.0))
changed_at number f (LetGo n ∷ ss) zero d new a l e is =
    held_more (new ∷ []) ss ∙ ap (λ l. l ++ held_in ss) is ∙ others_same number f ss (others_above number (LetGo n) ss e a.0)
changed_at number f (Held h ∷ ss) (suc k) d new a l e is =
    let first = each_at (λ (t : HeldSlot). h.question.number < slot_number t) ss k d a.0 (omega arith) in
    ap (λ l. h ∷ l) (changed_at number f ss k d new a.1 (omega arith) e is)
    ∙ ap (λ g. g ∷ map (changed number f) (held_in ss)) (sym (passed (h.question.number == number) (f h) h (differs h.question.number number (λ s. omega (arith, first, e, s)))))
changed_at number f (LetGo n ∷ ss) (suc k) d new a l e is = changed_at number f ss k d new a.1 (omega arith) e is

-- the slot of a number waits for something else
pub restood_slot : (number : ℕ) (stand : Stand) (s : HeldSlot) → held_in (slot_restood number stand s ∷ []) ≡ map (restood number stand) (held_in (s ∷ []))
restood_slot number stand (Held h) = refl
restood_slot number stand (LetGo n) = refl

-- the slot of a number is to be closed
pub ended_slot : (number server event : ℕ) (s : HeldSlot) → slot_number s ≡ number → held_in (slot_ended server event s ∷ []) ≡ map (ended_numbered number server event) (held_in (s ∷ []))
ended_slot number server event (Held h) e = ap (λ g. g ∷ []) (sym (taken (h.question.number == number) (ended server event h) h (same h.question.number number e)))
ended_slot number server event (LetGo n) e = refl

restood_number : (b : Bool) (stand : Stand) (h : Pending) → (cond b (record h { stand = stand }) h).question.number ≡ h.question.number
restood_number true stand h = refl
restood_number false stand h = refl

pub same_slot : (number : ℕ) (stand : Stand) (s : HeldSlot) → slot_number (slot_restood number stand s) ≡ slot_number s
same_slot number stand (Held h) = restood_number (h.question.number == number) stand h
same_slot number stand (LetGo n) = refl

-- the request that is found is that of its slot
pub found_at : (number : ℕ) (ss : List HeldSlot) (k : ℕ) (d : HeldSlot) → Rises ss → k < length ss → slot_number (get_or ss k d) ≡ number → pending_of (get_or ss k d) ≡ find (λ (h : Pending). h.question.number == number) (held_in ss)
found_at number [] k d a l e = absurd (omega arith)
found_at number (Held h ∷ ss) zero d a l e = sym (taken (h.question.number == number) (Some h) _ (same h.question.number number e))
found_at number (LetGo n ∷ ss) zero d a l e = sym (others_found number ss (others_above number (LetGo n) ss e a.0))
found_at number (Held h ∷ ss) (suc k) d a l e =
    let first = each_at (λ (t : HeldSlot). h.question.number < slot_number t) ss k d a.0 (omega arith) in
    found_at number ss k d a.1 (omega arith) e ∙ sym (passed (h.question.number == number) (Some h) _ (differs h.question.number number (λ s. omega (arith, first, e, s))))
found_at number (LetGo n ∷ ss) (suc k) d a l e = found_at number ss k d a.1 (omega arith) e

-- requests that are to be closed
ended_same : (b : Bool) (event : ℕ) (h : Pending) → (cond b (record h { stand = Ended event }) h).question.number ≡ h.question.number
ended_same true event h = refl
ended_same false event h = refl

pub ended_number : (server event : ℕ) (s : HeldSlot) → slot_number (slot_ended server event s) ≡ slot_number s
ended_number server event (Held h) = ended_same (h.server == server) event h
ended_number server event (LetGo n) = refl

pub held_ended : (server event : ℕ) (ss : List HeldSlot) → held_in (map (slot_ended server event) ss) ≡ map (ended server event) (held_in ss)
held_ended server event [] = refl
held_ended server event (Held h ∷ ss) = ap (λ l. ended server event h ∷ l) (held_ended server event ss)
held_ended server event (LetGo n ∷ ss) = held_ended server event ss

pub rises_ended : (server event : ℕ) (ss : List HeldSlot) → Rises ss → Rises (map (slot_ended server event) ss)
rises_ended server event [] a = tt
rises_ended server event (s ∷ ss) a =
    let own = ended_number server event s in (
      each_of (λ (t : HeldSlot). slot_number s < slot_number t) (λ (t : HeldSlot). slot_number (slot_ended server event s) < slot_number t) (λ t below. omega (arith, below, own)) (map (slot_ended server event) ss)
          (each_map (λ (t : HeldSlot). slot_number s < slot_number t) (slot_ended server event) ss (λ t below. omega (arith, below, ended_number server event t)) a.0),
      rises_ended server event ss a.1,
    )
