-- A key's lock delay goes on with each applied position.
use Rattle.std.proofs.Common.{◌≡◌, ℕ, zero, suc, ◌+◌, List, [], ◌∷◌, ◌++◌, length, map, reverse, max, refl, sym, ◌∙◌, ap, arith}
use Rattle.std.proofs.lemmas.List.{reverse-append, length-reverse, map-append}
use Rattle.cat_model.specs.declared.command.Command.{Command}
use Rattle.cat_model.specs.Delays.{Timed, commands, delay_until, freed_until, past_delay}
use Rattle.cat_model.specs.Machine.{at_past, catalog_at, freed}
use Rattle.cluster_rules.specs.Leases.{DelayLaw}
use Rattle.cluster_rules.specs.Offices.{delay_over, timed}

map_reverse : {A B : Type 0} (f : A → B) (xs : List A) → map f (reverse xs) ≡ reverse (map f xs)
map_reverse f [] = refl
map_reverse f (x ∷ xs) = ap (map f) (reverse-append (x ∷ []) xs) ∙ map-append f (reverse xs) (x ∷ []) ∙ ap (λ l. l ++ f x ∷ []) (map_reverse f xs) ∙ sym (reverse-append (f x ∷ []) (map f xs))

timed_more : (cs : List Command) (ks : List ℕ) (c : Command) (k : ℕ) → length cs ≡ length ks → timed (cs ++ c ∷ []) (ks ++ k ∷ []) ≡ timed cs ks ++ record { command = c; clock = k } ∷ []
timed_more [] [] c k e = refl
timed_more [] (k' ∷ ks) c k e = absurd (let z : zero ≡ suc (length ks) = e in omega (arith, z))
timed_more (c' ∷ cs) [] c k e = absurd (let z : suc (length cs) ≡ zero = e in omega (arith, z))
timed_more (c' ∷ cs) (k' ∷ ks) c k e = ap (λ l. record { command = c'; clock = k' } ∷ l) (timed_more cs ks c k (let z : suc (length cs) ≡ suc (length ks) = e in omega (arith, z)))

timed_commands : (cs : List Command) (ks : List ℕ) → length cs ≡ length ks → commands (timed cs ks) ≡ cs
timed_commands [] ks e = refl
timed_commands (c ∷ cs) [] e = absurd (let z : suc (length cs) ≡ zero = e in omega (arith, z))
timed_commands (c ∷ cs) (k ∷ ks) e = ap (λ l. c ∷ l) (timed_commands cs ks (let z : suc (length cs) ≡ suc (length ks) = e in omega (arith, z)))

timed_length : (cs : List Command) (ks : List ℕ) → length cs ≡ length ks → length (timed cs ks) ≡ length cs
timed_length [] ks e = refl
timed_length (c ∷ cs) [] e = absurd (let z : suc (length cs) ≡ zero = e in omega (arith, z))
timed_length (c ∷ cs) (k ∷ ks) e = ap suc (timed_length cs ks (let z : suc (length cs) ≡ suc (length ks) = e in omega (arith, z)))

past_more : (key : List ℕ) (past : List Timed) (t : Timed) → past_delay key (t ∷ past) ≡ max (freed_until key t.clock (freed (length past + 1) t.command (at_past (commands past)))) (past_delay key past)
unfolding past_delay
past_more key past t = refl

past_none : (key : List ℕ) → past_delay key [] ≡ 0
unfolding past_delay
past_none key = refl

goes_on : (key : List ℕ) (cs : List Command) (ks : List ℕ) → length cs ≡ length ks → (c : Command) (k : ℕ)
    → delay_over (cs ++ c ∷ []) (ks ++ k ∷ []) key ≡ max (freed_until key k (freed (length cs + 1) c (catalog_at cs))) (delay_over cs ks key)
goes_on key cs ks e c k =
    let t : Timed = record { command = c; clock = k } in
    let past : List Timed = reverse (timed cs ks) in
    let size : length past ≡ length cs = length-reverse (timed cs ks) ∙ timed_length cs ks e in
    let log : commands past ≡ reverse cs = map_reverse (λ (s : Timed). s.command) (timed cs ks) ∙ ap reverse (timed_commands cs ks e) in
    ap (delay_until key) (timed_more cs ks c k e)
    ∙ ap (past_delay key) (reverse-append (timed cs ks) (t ∷ []))
    ∙ past_more key past t
    ∙ ap (λ n. max (freed_until key k (freed (n + 1) c (at_past (commands past)))) (past_delay key past)) size
    ∙ ap (λ l. max (freed_until key k (freed (length cs + 1) c (at_past l))) (past_delay key past)) log

pub delay_law : (cs : List Command) (ks : List ℕ) → length cs ≡ length ks → (key : List ℕ) → DelayLaw cs ks key
delay_law cs ks e key = record { begun = past_none key; applied = λ c k. goes_on key cs ks e c k }
