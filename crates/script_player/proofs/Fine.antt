-- What a line says is within its bounds, and what the cluster takes of it.
use Rattle.std.proofs.Common.{◌≡◌, ◌⊎◌, inr, ℕ, suc, ◌+◌, ◌≤◌, Bool, true, false, ◌&&◌, nat_le, cond, List, [], ◌∷◌, Option, None, Some, Result, Ok, Err, IfOk, refl, subst, arith}
use Rattle.std.proofs.lemmas.Bool.Decides.{nat_tests}
use Rattle.cat_model.specs.declared.request.Asked.{Asked}
use Rattle.cat_model.specs.declared.request.Event.{Event}
use Rattle.cat_model.specs.declared.request.Event.TheVariants as event
use Rattle.run_rules.specs.declared.misfit.Misfit.{Misfit}
use Rattle.run_rules.specs.declared.misfit.Misfit.TheVariants.{NoServer, NoAgent, NoMessage, Clock}
use Rattle.cluster_rules.specs.Cluster.{Cluster}
use Rattle.script_lang.specs.Answers.{◌>>=◌}
use Rattle.script_lang.specs.declared.bad_line.BadLine.{BadLine}
use Rattle.script_lang.specs.declared.bad_line.BadLine.TheVariants as bad
use Rattle.script_lang.specs.declared.form.Form.{Form}
use Rattle.script_lang.specs.declared.form.Form.TheVariants as form
use Rattle.script_lang.specs.declared.line.Line.{Line}
use Rattle.script_lang.specs.declared.line.Line.TheVariants as line
use Rattle.script_lang.specs.declared.numbers.Bounds.{Bounds}
use Rattle.script_lang.specs.Numbers.{number_in, is_number, is_within, is_filled, one_number, two_numbers}
use Rattle.script_lang.specs.Requests.{asked_of, body_of, is_token}
use Rattle.http_routes.specs.Routes.{route_of}
use Rattle.http_routes.proofs.Taken.{route_is_taken}
use Rattle.cat_model.specs.Taken.{IsTakenAsked}
use Rattle.script_lang.specs.Words.{words_of, is_nothing, rest_of}
use Rattle.script_lang.specs.Lines.{form_of, opening, asking, said, formed, worded, line_of, servers, agents, any32, any64, tick_ms, messages, calls}
use Rattle.script_lang.specs.Text.{reason_text}
use Rattle.run_rules.specs.Lines.{Said, Makes, Refuses, misfit, misfit_text}
use Rattle.script_player.specs.declared.reader.Says.{Says}
use Rattle.script_player.specs.Script.{bad_of, said as said_by_line}
use Rattle.filter_expr.specs.Expressions.{Expression}
use Rattle.script_player.specs.Stage.{filter_said, IsFine, IsMisfit, IsWorded, IsRead}

-- a step and what follows it
if_bind : {A B : Type 0} (r : Result A BadLine) (f : A → Result B BadLine) (Q : A → Type 0) (P : B → Type 0) → IfOk r Q → ((a : A) → Q a → IfOk (f a) P) → IfOk (r >>= f) P
if_bind (Err why) f Q P q h = tt
if_bind (Ok a) f Q P q h = h a q

fine_bind : {A : Type 0} (r : Result A BadLine) (f : A → Result Line BadLine) (Q : A → Type 0) → IfOk r Q → ((a : A) → Q a → IsFine (f a)) → IsFine (r >>= f)
fine_bind (Err why) f Q q h = tt
fine_bind (Ok a) f Q q h = h a q

anything : {A : Type 0} (r : Result A BadLine) → IfOk r (λ a. Unit {0})
anything (Err why) = tt
anything (Ok a) = tt

fine_any : {A : Type 0} (r : Result A BadLine) (f : A → Result Line BadLine) → ((a : A) → IsFine (f a)) → IsFine (r >>= f)
fine_any r f h = fine_bind r f (λ a. Unit {0}) (anything r) (λ a q. h a)

-- a test and its two answers
fine_test : (b : Bool) (x y : Result Line BadLine) → IsFine x → IsFine y → IsFine (cond b x y)
fine_test true x y p q = p
fine_test false x y p q = q

if_test : {A : Type 0} (b : Bool) (x : Result A BadLine) (why : BadLine) (P : A → Type 0) → (b ≡ true → IfOk x P) → IfOk (cond b x (Err why)) P
if_test true x why P h = h refl
if_test false x why P h = tt

both : (a b : Bool) → (a && b) ≡ true → (a ≡ true) × (b ≡ true)
both true b e = (refl, e)
both false b e = absurd cc

-- numbers within their bounds
number-within : (b : Bounds) (word : List ℕ) → IfOk (number_in b word) (λ n. is_within b n ≡ true)
number-within b word =
    if_test (is_number word && is_within b _) (Ok _) bad.BadNumber (λ n. is_within b n ≡ true) (λ e. (both (is_number word) (is_within b _) e).1)

within : (least most n : ℕ) → (nat_le least n && nat_le n most) ≡ true → (least ≤ n) × (n ≤ most)
within least most n e = (grind (arith, nat_tests), grind (arith, nat_tests))

opening-fine : (words : List (List ℕ)) → IsFine (opening words)
opening-fine [] = tt
opening-fine (s ∷ []) = tt
opening-fine (s ∷ a ∷ []) = tt
opening-fine (s ∷ a ∷ seed ∷ []) =
    fine_test (is_filled s && is_filled a && is_filled seed)
    (number_in servers s >>= (λ m. number_in agents a >>= (λ n. number_in any64 seed >>= (λ k. Ok (line.Cluster m n k))))) (Err bad.UnknownLine)
    (fine_bind (number_in servers s) (λ m. number_in agents a >>= (λ n. number_in any64 seed >>= (λ k. Ok (line.Cluster m n k)))) (λ m. is_within servers m ≡ true) (number-within servers s)
    (λ m p. fine_bind (number_in agents a) (λ n. number_in any64 seed >>= (λ k. Ok (line.Cluster m n k))) (λ n. is_within agents n ≡ true) (number-within agents a)
    (λ n q. fine_any (number_in any64 seed) (λ k. Ok (line.Cluster m n k))
    (λ k. record { some = (within 1 7 m p).0; most = (within 1 7 m p).1; few = (within 0 64 n q).1 }))))
    tt
opening-fine (s ∷ a ∷ seed ∷ x ∷ more) = tt

-- what a line asks for is taken
asked-taken : (method target : List ℕ) (rest : Option (List ℕ)) → IfOk (asked_of method target rest) IsTakenAsked
asked-taken method target rest =
    if_test (is_token method && is_token target) (body_of rest >>= λ body. Ok (route_of method target body)) bad.BadRequestLine IsTakenAsked
    (λ e. if_bind (body_of rest) (λ body. Ok (route_of method target body)) (λ body. Unit {0}) IsTakenAsked (anything (body_of rest)) (λ body u. route_is_taken method target body))

abbrev asks : ℕ → ℕ → ℕ → Asked → Result Line BadLine
asks number seed agent asked = Ok (line.Event (event.Ask agent asked (record { hi = seed; lo = number })))

asking-fine : (number seed : ℕ) (words : List (List ℕ)) → IsFine (asking number seed words)
asking-fine number seed [] = tt
asking-fine number seed (a ∷ []) = tt
asking-fine number seed (a ∷ method ∷ []) = tt
asking-fine number seed (a ∷ method ∷ target ∷ rest) =
    fine_any (number_in any32 a) (λ agent. asked_of method target (rest_of rest) >>= asks number seed agent)
    (λ agent. fine_bind (asked_of method target (rest_of rest)) (asks number seed agent) IsTakenAsked (asked-taken method target (rest_of rest)) (λ asked taken. taken))

said-fine : (number seed : ℕ) (f : Form) (words : List (List ℕ)) → IsFine (said number seed f words)
said-fine number seed form.Cluster words = opening-fine words
said-fine number seed form.Timeout words = fine_any (one_number any32 words) (λ server. Ok (line.Event (event.Timeout server))) (λ server. tt)
said-fine number seed form.Beat words = fine_any (one_number any32 words) (λ server. Ok (line.Event (event.Beat server))) (λ server. tt)
said-fine number seed form.Restart words = fine_any (one_number any32 words) (λ server. Ok (line.Event (event.Restart server))) (λ server. tt)
said-fine number seed form.Tick words = fine_any (two_numbers any32 tick_ms words) (λ n. Ok (line.Event (event.Tick n.0 n.1))) (λ n. tt)
said-fine number seed form.AgentTick words = fine_any (two_numbers any32 tick_ms words) (λ n. Ok (line.Event (event.AgentTick n.0 n.1))) (λ n. tt)
said-fine number seed form.Deliver words = fine_any (one_number any64 words) (λ message. Ok (line.Event (event.Deliver message))) (λ message. tt)
said-fine number seed form.Drop words = fine_any (one_number any64 words) (λ message. Ok (line.Event (event.Drop message))) (λ message. tt)
said-fine number seed form.Settle words = fine_any (one_number messages words) (λ most. Ok (line.Settle most)) (λ most. tt)
said-fine number seed form.FailKeep words = fine_any (two_numbers any32 calls words) (λ n. Ok (line.Event (event.FailKeep n.0 n.1))) (λ n. tt)
said-fine number seed form.Sync words = fine_any (one_number any32 words) (λ agent. Ok (line.Event (event.Sync agent))) (λ agent. tt)
said-fine number seed form.Http words = asking-fine number seed words

formed-fine : (number seed : ℕ) (f : Option Form) (words : List (List ℕ)) → IsFine (formed number seed f words)
formed-fine number seed None words = tt
formed-fine number seed (Some f) words = said-fine number seed f words

worded-fine : (number seed : ℕ) (words : List (List ℕ)) → IsFine (worded number seed words)
worded-fine number seed [] = tt
worded-fine number seed (name ∷ words) = formed-fine number seed (form_of name) words

pub line_fine : (number seed : ℕ) (bytes : List ℕ) → IsFine (line_of number seed bytes)
line_fine number seed bytes =
    fine_test (is_nothing bytes) (Ok line.Nothing) (worded number seed (words_of bytes)) tt (worded-fine number seed (words_of bytes))

misfit-text : (miss : Misfit) → reason_text (bad_of miss) ≡ misfit_text miss
misfit-text NoServer = refl
misfit-text NoAgent = refl
misfit-text NoMessage = refl
misfit-text Clock = refl

-- an event that doesn't fit is refused for this reason
pub misfit_told : (c : Cluster) (says : Said) (made : Event) (miss : Misfit) → says ≡ Makes made → misfit c made ≡ Some miss → (says ≡ Refuses (reason_text (bad_of miss))) ⊎ IsMisfit c says (bad_of miss)
misfit_told c says made miss e m = inr (made, miss, e, m, misfit-text miss)

-- what the words say that are fitted to a cluster
pub said_as : (c : Cluster) (seed number : ℕ) (line : List ℕ) (says read : Says) → number ≡ c.asked + 1 → ((s : Said) → IsWorded s says → IsRead c s read) → IsWorded (said_by_line seed number line) says → IsRead c (said_by_line seed (suc c.asked) line) read
said_as c seed number line says read e fitted worded =
    let next : number ≡ suc c.asked = omega (arith, e) in
    subst (λ (n : ℕ). IsRead c (said_by_line seed n line) read) next (fitted (said_by_line seed number line) worded)

-- and its filter
pub filter_as : (asked seed number : ℕ) (line : List ℕ) (f : Option Expression) → number ≡ asked + 1 → f ≡ filter_said (said_by_line seed number line) line → f ≡ filter_said (said_by_line seed (suc asked) line) line
filter_as asked seed number line f e is =
    let next : number ≡ suc asked = omega (arith, e) in
    subst (λ (n : ℕ). f ≡ filter_said (said_by_line seed n line) line) next is
