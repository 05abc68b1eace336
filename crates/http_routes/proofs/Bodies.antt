-- What the bodies of requests ask for: of transactions those of at most 64 operations.
use Rattle.std.proofs.Common.{◌≡◌, ℕ, Bool, true, false, nat_le, nat_lt, List, ◌∷◌, length, Option, None, Some, Result, Ok, Err, IfOk, refl, arith}
use Rattle.std.proofs.lemmas.Bool.Decides.{nat_tests}
use Rattle.serde_json.specs.Data.{Items, no_items, item}
use Rattle.serde_json.specs.Find.{as_array}
use Rattle.cat_model.specs.declared.command.TxnOp.{TxnOp}
use Rattle.json_bodies.specs.declared.error.ReadError.{ReadError}
use Rattle.json_bodies.specs.declared.field.Field.TheVariants as f
use Rattle.json_bodies.specs.Errors.{◌>>=◌, refuse_if}
use Rattle.json_bodies.specs.Members.{json_of, object_only, filled_text_at, text_at, each}
use Rattle.json_bodies.specs.Registers.{center_at, service_in, one_at, checks_at, register_at, register_of}
use Rattle.json_bodies.specs.Deregisters.{deregister_at, deregister_of}
use Rattle.json_bodies.specs.Txns.{an_op, count, ops_if, ops_at, ops_of}
use Rattle.http_routes.proofs.Answers.{IsFitCommand}

after : {A B : Type 0} (r : Result A ReadError) (f : A → Result B ReadError) (P : B → Type 0) → ((a : A) → IfOk (f a) P) → IfOk (r >>= f) P
after (Err why) f P h = tt
after (Ok a) f P h = h a

pub register_fit : (body : List ℕ) → IsFitCommand (register_of body)
unfolding register_of register_at
register_fit body =
    after (json_of body) _ _ (λ d. after (object_only d) _ _ (λ top. after (center_at d) _ _ (λ center. after (filled_text_at f.Node d) _ _ (λ node.
    after (filled_text_at f.Address d) _ _ (λ address. after (service_in d) _ _ (λ service. after (one_at d) _ _ (λ one. after (checks_at d) _ _ (λ checks. refl))))))))

pub deregister_fit : (body : List ℕ) → IsFitCommand (deregister_of body)
unfolding deregister_of deregister_at
deregister_fit body =
    after (json_of body) _ _ (λ d. after (object_only d) _ _ (λ top. after (center_at d) _ _ (λ center. after (filled_text_at f.Node d) _ _ (λ node.
    after (text_at f.ServiceId d) _ _ (λ service. after (text_at f.CheckId d) _ _ (λ check. refl))))))

-- ---- transactions

-- as many operations as items
counted : (ds : Items) → IfOk (each an_op ds) (λ ops. length ops ≡ count ds)
counted no_items = refl
counted (item d ds) = next (an_op d) (each an_op ds) (counted ds)
  where
    next : (r : Result TxnOp ReadError) (more : Result (List TxnOp) ReadError) → IfOk more (λ ops. length ops ≡ count ds)
        → IfOk (r >>= λ x. more >>= λ xs. Ok (x ∷ xs)) (λ ops. length ops ≡ count (item d ds))
    next (Err why) more h = tt
    next (Ok x) (Err why) h = tt
    next (Ok x) (Ok xs) h = grind (h, arith)

abbrev pub IsShort : List TxnOp → Type 0
IsShort ops = nat_le (length ops) 64 ≡ true

few_if : (n : ℕ) (r : Result (List TxnOp) ReadError) → IfOk r (λ ops. length ops ≡ n) → IfOk (refuse_if (nat_lt 64 n) f.Txn >>= λ few. r) IsShort
few_if n r h = go (nat_lt 64 n) refl r h
  where
    go : (b : Bool) → nat_lt 64 n ≡ b → (r : Result (List TxnOp) ReadError) → IfOk r (λ ops. length ops ≡ n) → IfOk (refuse_if b f.Txn >>= λ few. r) IsShort
    go true e r h = tt
    go false e (Err why) h = tt
    go false e (Ok ops) h = grind (e, h, arith, nat_tests)

few_in : (r : Option Items) → IfOk (ops_if r) IsShort
few_in None = tt
few_in (Some ds) = few_if (count ds) (each an_op ds) (counted ds)

pub few : (body : List ℕ) → IfOk (ops_of body) IsShort
unfolding ops_of ops_at
few body = after (json_of body) ops_at IsShort (λ d. few_in (as_array d))
