-- Words that are drawn one by one.
use Rattle.std.proofs.Common.{◌≡◌, ℕ, zero, suc, ◌+◌, ◌-◌, ◌<◌, ◌≤◌, Bool, cond, List, [], ◌∷◌, ◌++◌, length, codes, fold, refl, sym, ap, ◌∙◌, append_assoc, append-nil, arith}
use Rattle.std.specs.Fmt.{decimal}
use Rattle.rand_core.specs.Pcg32Seed.{pcg32_seed}
use Rattle.rand_core.specs.Steps.{first_words}
use Rattle.rand_pcg.specs.Lcg.{Lcg}
use Rattle.rand_pcg.specs.Pcg.{pcg32, pcg32_of_seed}
use Rattle.load_player.specs.declared.method.Method.{Method}
use Rattle.load_player.specs.declared.method.Method.TheVariants.{Put, Get, Delete}
use Rattle.load_player.specs.Summary.{is_put, is_get, is_delete}
use Rattle.load_player.specs.LoadScript.{drawn, method_of, key_of, request, requests_from, text_of, load_script}

-- the words that are left of so many
abbrev pub left : ℕ → ℕ → Lcg → List ℕ
left size done s = first_words pcg32 (size - done) s

one_less : (size done : ℕ) → done < size → size - done ≡ suc (size - (done + 1))
one_less size done more = omega (arith, more)

left_step : (size done word : ℕ) (s s' : Lcg) → done < size → (word, s') ≡ pcg32 s → left size done s ≡ word ∷ left size (done + 1) s'
unfolding first_words
left_step size done word s s' more is =
    ap (λ n. first_words pcg32 n s) (one_less size done more)
    ∙ ap (λ (p : ℕ × Lcg). p.0 ∷ first_words pcg32 (size - (done + 1)) p.1) (sym is)

pub left_none : (size done : ℕ) (s : Lcg) → size ≤ done → left size done s ≡ []
unfolding first_words
left_none size done s less = let e : size - done ≡ 0 = omega (arith, less) in rw e refl

-- how many words tell a method that is such, with so many before
abbrev pub count_from : (Method → Bool) → ℕ → List ℕ → ℕ
count_from is n words = fold (λ a word. a + cond (is (method_of word)) 1 0) n words

pub count_step : (is : Method → Bool) (all n n' size done word : ℕ) (s s' : Lcg) → done < size → (word, s') ≡ pcg32 s → n' ≡ n + cond (is (method_of word)) 1 0 →
    all ≡ count_from is n (left size done s) → all ≡ count_from is n' (left size (done + 1) s')
count_step is all n n' size done word s s' more drawn counts so_far =
    so_far ∙ ap (count_from is n) (left_step size done word s s' more drawn) ∙ ap (λ m. count_from is m (left size (done + 1) s')) (sym counts)

pub count_none : (is : Method → Bool) (all n size done : ℕ) (s : Lcg) → size ≤ done → all ≡ count_from is n (left size done s) → n ≡ all
count_none is all n size done s less so_far = sym (so_far ∙ ap (count_from is n) (left_none size done s less))

-- the text of a request, of its settling, and of the lines behind
joined : (script line rest : List ℕ) → script ++ ((line ++ codes "\n") ++ ((codes "settle 64" ++ codes "\n") ++ rest)) ≡ ((script ++ line) ++ codes "\nsettle 64\n") ++ rest
joined script line rest =
    ap (λ t. script ++ t) (append_assoc line (codes "\n") (codes "settle 64\n" ++ rest))
    ∙ sym (append_assoc script line (codes "\nsettle 64\n" ++ rest))
    ∙ sym (append_assoc (script ++ line) (codes "\nsettle 64\n") rest)

pub script_step : (all script script' : List ℕ) (size done word : ℕ) (s s' : Lcg) → done < size → (word, s') ≡ pcg32 s →
    script' ≡ (script ++ request (method_of word) (done + 1) (key_of word)) ++ codes "\nsettle 64\n" →
    all ≡ script ++ text_of (requests_from (done + 1) (left size done s)) → all ≡ script' ++ text_of (requests_from (done + 1 + 1) (left size (done + 1) s'))
script_step all script script' size done word s s' more drawn appended so_far =
    let rest = text_of (requests_from (done + 1 + 1) (left size (done + 1) s')) in
    so_far ∙ ap (λ words. script ++ text_of (requests_from (done + 1) words)) (left_step size done word s s' more drawn)
    ∙ joined script (request (method_of word) (done + 1) (key_of word)) rest
    ∙ ap (λ t. t ++ rest) (sym appended)

pub script_none : (all script : List ℕ) (size done : ℕ) (s : Lcg) → size ≤ done → all ≡ script ++ text_of (requests_from (done + 1) (left size done s)) → script ≡ all
script_none all script size done s less so_far =
    sym (so_far ∙ ap (λ words. script ++ text_of (requests_from (done + 1) words)) (left_none size done s less) ∙ append-nil script)

none_taken : (size : ℕ) → size ≡ size - 0
none_taken size = omega arith

pub opening_step : (seed size : ℕ) (script : List ℕ) (s : Lcg) → s ≡ pcg32_of_seed (pcg32_seed 16 seed) → script ≡ codes "cluster 3 1 " ++ decimal seed ++ codes "\ntimeout 1\nsettle 64\n" →
    load_script seed size ≡ script ++ text_of (requests_from 1 (left size 0 s))
opening_step seed size script s is opened =
    let first = codes "cluster 3 1 " ++ decimal seed in
    let requests = text_of (requests_from 1 (first_words pcg32 size (pcg32_of_seed (pcg32_seed 16 seed)))) in
    append_assoc first (codes "\n") (codes "timeout 1\nsettle 64\n" ++ requests)
    ∙ sym (append_assoc first (codes "\ntimeout 1\nsettle 64\n") requests)
    ∙ ap (λ t. t ++ requests) (sym opened)
    ∙ ap (λ n. script ++ text_of (requests_from 1 (first_words pcg32 n (pcg32_of_seed (pcg32_seed 16 seed))))) (none_taken size)
    ∙ ap (λ g. script ++ text_of (requests_from 1 (left size 0 g))) (sym is)

-- each request has one of the methods
pub one_more : (m : Method) (p g d p' g' d' done : ℕ) → p' ≡ p + cond (is_put m) 1 0 → g' ≡ g + cond (is_get m) 1 0 → d' ≡ d + cond (is_delete m) 1 0 → p + g + d ≡ done → p' + g' + d' ≡ done + 1
one_more Put p g d p' g' d' done e f h all = omega (arith, e, f, h, all)
one_more Get p g d p' g' d' done e f h all = omega (arith, e, f, h, all)
one_more Delete p g d p' g' d' done e f h all = omega (arith, e, f, h, all)

words_length : (n : ℕ) (s : Lcg) → length (first_words pcg32 n s) ≡ n
unfolding first_words
words_length zero s = refl
words_length (suc n) s = let more = words_length n (pcg32 s).1 in omega (arith, more)

-- as many words are drawn as there are requests
pub drawn_length : (seed size : ℕ) → length (drawn seed size) ≡ size
drawn_length seed size = words_length size (pcg32_of_seed (pcg32_seed 16 seed))
