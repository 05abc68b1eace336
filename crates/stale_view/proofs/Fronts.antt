-- Beginnings of one list.
use Rattle.std.proofs.Common.{◌≡◌, ℕ, zero, suc, ◌≤◌, List, [], ◌∷◌, ◌++◌, length, Some, slice_get, get_or, ◌<◌, refl, ap, sym, ◌∙◌, arith, append_assoc, length-append}
use mathlib.Core.List.{IsPrefix}
use Rattle.cat_model.specs.declared.command.Command.{Command}
use Rattle.cat_model.specs.declared.command.Entry.{Entry}
use Rattle.cat_model.specs.Log.{commands_of}

-- each list begins with itself
pub prefix_self : {A : Type 0} (xs : List A) → IsPrefix xs xs
prefix_self [] = ([], refl)
prefix_self (x ∷ xs) = (let r = prefix_self xs in r.0, ap (λ ys. x ∷ ys) (prefix_self xs).1)

pub prefix_trans : {A : Type 0} (xs ys zs : List A) → IsPrefix xs ys → IsPrefix ys zs → IsPrefix xs zs
prefix_trans xs ys zs p q = (p.0 ++ q.0, sym (append_assoc xs p.0 q.0) ∙ (ap (λ w. w ++ q.0) p.1 ∙ q.1))

-- of two beginnings of one list the shorter begins the longer
pub prefix_shorter : {A : Type 0} (xs ys zs : List A) → IsPrefix xs zs → IsPrefix ys zs → length xs ≤ length ys → IsPrefix xs ys
prefix_shorter [] ys zs p q le = (ys, refl)
prefix_shorter (x ∷ xs) [] zs p q le = absurd (omega arith)
prefix_shorter (x ∷ xs) (y ∷ ys) [] p q le = absurd (cc (p.1))
prefix_shorter (x ∷ xs) (y ∷ ys) (z ∷ zs) p q le =
    let heads : x ≡ y = cc (p.1, q.1) in
    let rest = prefix_shorter xs ys zs (p.0, cc (p.1)) (q.0, cc (q.1)) (omega arith) in
    (rest.0, cc (heads, rest.1))

-- a beginning as long as the whole is the whole
pub prefix_whole : {A : Type 0} (xs ys : List A) → IsPrefix xs ys → length ys ≤ length xs → xs ≡ ys
prefix_whole [] [] p le = refl
prefix_whole [] (y ∷ ys) p le = absurd (omega arith)
prefix_whole (x ∷ xs) [] p le = absurd (cc (p.1))
prefix_whole (x ∷ xs) (y ∷ ys) p le =
    let rest = prefix_whole xs ys (p.0, cc (p.1)) (omega arith) in cc (p.1, rest)

pub prefix_length : {A : Type 0} (xs ys : List A) → IsPrefix xs ys → length xs ≤ length ys
prefix_length xs ys p = omega (arith, sym (ap length p.1) ∙ length-append xs p.0)

-- what stands in a beginning stands in the whole, at the same place
pub prefix_get : {A : Type 0} (xs ys : List A) (k : ℕ) (x : A) → IsPrefix xs ys → slice_get xs k ≡ Some x → slice_get ys k ≡ Some x
prefix_get [] ys k x p h = absurd cc
prefix_get (y ∷ xs) [] k x p h = absurd (cc (p.1))
prefix_get (y ∷ xs) (z ∷ ys) zero x p h = cc (p.1, h)
prefix_get (y ∷ xs) (z ∷ ys) (suc k) x p h = prefix_get xs ys k x (p.0, cc (p.1)) h

next_of : (xs : List Command) (log : List Entry) (d : Entry) → length xs < length log → IsPrefix xs (commands_of log) → IsPrefix (xs ++ (get_or log (length xs) d).command ∷ []) (commands_of log)
next_of [] [] d less p = absurd (omega arith)
next_of [] (e ∷ log) d less p = (commands_of log, refl)
next_of (x ∷ xs) [] d less p = absurd (omega arith)
next_of (x ∷ xs) (e ∷ log) d less p =
    let rest = next_of xs log d (omega arith) (p.0, cc (p.1)) in
    let head : x ≡ e.command = cc (p.1) in
    (rest.0, cc (head, rest.1))

-- a beginning of a log's commands and the next one begin them too
pub prefix_next : (xs : List Command) (log : List Entry) (d : Entry) (k : ℕ) → k ≡ length xs → k < length log → IsPrefix xs (commands_of log) → IsPrefix (xs ++ (get_or log k d).command ∷ []) (commands_of log)
prefix_next xs log d k is less p = rw is (next_of xs log d (omega arith) p)

commands_length : (log : List Entry) → length (commands_of log) ≡ length log
commands_length [] = refl
commands_length (e ∷ log) = ap suc (commands_length log)

-- a beginning of a log's commands that is as long as the log is all of them
pub prefix_all : (xs : List Command) (log : List Entry) → IsPrefix xs (commands_of log) → length log ≤ length xs → xs ≡ commands_of log
prefix_all xs log p le = prefix_whole xs (commands_of log) p (omega (arith, commands_length log))

-- a list begins a longer one
pub prefix_more : {A : Type 0} (xs ys more : List A) → IsPrefix xs ys → IsPrefix xs (ys ++ more)
prefix_more xs ys more p = (p.0 ++ more, sym (append_assoc xs p.0 more) ∙ ap (λ w. w ++ more) p.1)
