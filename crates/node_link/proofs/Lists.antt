-- A journal with one more step, and what an outbox has then.
use Rattle.std.proofs.Common.{◌≡◌, ℕ, zero, suc, ◌+◌, ◌-◌, ◌<◌, ◌^◌, Bool, List, [], ◌∷◌, ◌++◌, length, min, cond, get_or, refl, arith}
use Rattle.std.specs.Prelude.{Contains, nat_lt}
use Rattle.std.specs.List.{AllByRecursion}
use Rattle.raft_model.proofs.Tests.{at_bool}
use Rattle.raft_model.specs.Node.{Node}
use Rattle.raft_model.specs.declared.message.Sent.{Sent}
use Rattle.node_journals.specs.Journals.{IsJournal, IsStep, Step, ended}
use Rattle.node_link.specs.Hosts.{IsMade}
use Rattle.node_link.specs.Outboxes.{Unsent, posted, posted_all}

pub journal_more : (n : Node) (steps : List Step) (s : Step) → IsJournal n steps → IsStep (ended n steps) s.event s.node s.sent → IsJournal n (steps ++ s ∷ [])
journal_more n [] s j is = (is, tt)
journal_more n (t ∷ steps) s j is = (j.0, journal_more t.node steps s j.1 is)

pub ended_more : (n : Node) (steps : List Step) (s : Step) → ended n (steps ++ s ∷ []) ≡ s.node
ended_more n [] s = refl
ended_more n (t ∷ steps) s = ended_more t.node steps s

behind : {A : Type 0} (x z : A) (xs : List A) → Contains xs z → Contains (x ∷ xs) z
behind x z xs (k, l, e) = (suc k, omega arith, e)

-- what a list contains a longer one does
in_longer : {A : Type 0} (xs ys : List A) (z : A) (k : ℕ) → k < length xs → get_or xs k z ≡ z → Contains (xs ++ ys) z
in_longer [] ys z k l e = absurd (omega arith)
in_longer (x ∷ xs) ys z zero l e = (zero, omega arith, e)
in_longer (x ∷ xs) ys z (suc k) l e = behind x z (xs ++ ys) (in_longer xs ys z k (omega arith) e)

at_end : {A : Type 0} (xs : List A) (z : A) → Contains (xs ++ z ∷ []) z
at_end [] z = (zero, omega arith, refl)
at_end (x ∷ xs) z = behind x z (xs ++ z ∷ []) (at_end xs z)

all_weaker : {A : Type 0} (P Q : A → Type 0) → ((x : A) → P x → Q x) → (xs : List A) → AllByRecursion P xs → AllByRecursion Q xs
all_weaker P Q f [] a = tt
all_weaker P Q f (x ∷ xs) a = (f x a.0, all_weaker P Q f xs a.1)

all_of : {A : Type 0} (P : A → Type 0) (xs : List A) → ((x : A) → Contains xs x → P x) → AllByRecursion P xs
all_of P [] f = tt
all_of P (x ∷ xs) f = (f x (zero, omega arith, refl), all_of P xs (λ y c. f y (behind x y xs c)))

all_more : {A : Type 0} (P : A → Type 0) (xs : List A) (x : A) → AllByRecursion P xs → P x → AllByRecursion P (xs ++ x ∷ [])
all_more P [] x a p = (p, tt)
all_more P (y ∷ ys) x a p = (a.0, all_more P ys x a.1 p)

abbrev posted_if : Bool → Sent → Unsent → Unsent
posted_if t m box = cond t (record { messages = box.messages ++ m ∷ []; lost = box.lost }) (record { messages = box.messages; lost = min (box.lost + 1) (2 ^ 64 - 1) })

all_posted : (P : Sent → Type 0) (ms : List Sent) (box : Unsent) → AllByRecursion P ms → AllByRecursion P box.messages → AllByRecursion P (posted_all ms box).messages
all_posted P [] box a b = b
all_posted P (m ∷ ms) box a b = all_posted P ms (posted m box) a.1
    (at_bool (λ t. AllByRecursion P (posted_if t m box).messages)
    (nat_lt (length box.messages) 256) (λ _. all_more P box.messages m b a.0) (λ _. b))

-- after a step, what is in the outbox was sent in one
pub made_more : (steps : List Step) (s : Step) (box : Unsent) → AllByRecursion (IsMade steps) box.messages → AllByRecursion (IsMade (steps ++ s ∷ [])) (posted_all s.sent box).messages
made_more steps s box made =
    all_posted (IsMade (steps ++ s ∷ [])) s.sent box
    (all_of (IsMade (steps ++ s ∷ [])) s.sent (λ m c. (s, at_end steps s, c)))
    (all_weaker (IsMade steps) (IsMade (steps ++ s ∷ [])) (λ m is. (is.0, in_longer steps (s ∷ []) is.0 (is.1.0) (is.1.1) (is.1.2), is.2)) box.messages made)

-- messages that come one after another
pub posted_more : (ms : List Sent) (m : Sent) (box : Unsent) → posted_all (ms ++ m ∷ []) box ≡ posted m (posted_all ms box)
posted_more [] m box = refl
posted_more (x ∷ ms) m box = posted_more ms m (posted x box)
