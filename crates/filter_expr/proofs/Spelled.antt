-- Reading byte by byte gives the tokens that a text is written of, and nothing else.
use Rattle.std.proofs.Common.{◌≡◌, ◌↔◌, ℕ, ◌==◌, Bool, true, false, not, cond, List, [], ◌∷◌, ◌++◌, Option, Some, refl, sym, ap, subst, ◌∙◌, append_assoc}
use Rattle.std.specs.List.{list_all}
use Rattle.std.proofs.lemmas.List.{append-nil}
use Rattle.std.proofs.lemmas.List.Folds.{list_all-append}
use Rattle.std.proofs.lemmas.Bool.{cond-true, cond-false, and_parts, and_from, not-true, not_from_false, eqb-true}
use Rattle.std.proofs.lemmas.Option.{none-some, same_Some}
use Rattle.filter_expr.specs.declared.lexer.Token.{Token}
use Rattle.filter_expr.specs.declared.lexer.Token.TheVariants as k
use Rattle.filter_expr.specs.Tokens.{is_word_byte, word_token, before, Place, between, in_sign, in_word, in_quotes, begun, signed, worded, quoted, read, tokens_of}
use Rattle.filter_expr.specs.Spelling.{begins_word, is_inner, AreTokens, no_more, space, opening, closing, equality, difference, word, quotation}
use Rattle.filter_expr.proofs.TestTable.{map_some}

-- ---- one more byte of a word or a text

word_one : (c : ℕ) → is_word_byte c ≡ true → list_all is_word_byte (c ∷ []) ≡ true
word_one c is = and_from (is_word_byte c) true is refl

inner_one : (c : ℕ) → (c == 34) ≡ false → (c == 92) ≡ false → list_all is_inner (c ∷ []) ≡ true
inner_one c a b = and_from (is_inner c) true (and_from (not (c == 34)) (not (c == 92)) (not_from_false (c == 34) a) (not_from_false (c == 92) b)) refl

one_more : (p : ℕ → Bool) (xs : List ℕ) (c : ℕ) → list_all p xs ≡ true → list_all p (c ∷ []) ≡ true → list_all p (xs ++ c ∷ []) ≡ true
one_more p xs c all one = list_all-append p xs (c ∷ []) ∙ and_from (list_all p xs) (list_all p (c ∷ [])) all one

-- ---- what is written is read

quotation_told : (p q text : List ℕ) → list_all is_inner q ≡ true → read (in_quotes p) (q ++ (34 ∷ text)) ≡ before (k.Quoted (p ++ q)) (read between text)
quotation_told p [] text inner = ap (λ u. before (k.Quoted u) (read between text)) (sym (append-nil p))
quotation_told p (c ∷ q) text inner =
    let parts = and_parts (is_inner c) (list_all is_inner q) inner in
    let none = and_parts (not (c == 34)) (not (c == 92)) parts.0 in
    cond-false _ _ _ (not-true (c == 34) none.0)
    ∙ cond-false _ _ _ (not-true (c == 92) none.1)
    ∙ quotation_told (p ++ c ∷ []) q text parts.1
    ∙ ap (λ u. before (k.Quoted u) (read between text)) (append_assoc p (c ∷ []) q)

word_told : (v w text : List ℕ) → list_all is_word_byte w ≡ true → begins_word text ≡ false → read (in_word v) (w ++ text) ≡ before (word_token (v ++ w)) (read between text)
word_told v [] [] all ends = ap (λ u. Some (word_token u ∷ [])) (sym (append-nil v))
word_told v [] (c ∷ cs) all ends = cond-false _ _ _ ends ∙ ap (λ u. before (word_token u) (read between (c ∷ cs))) (sym (append-nil v))
word_told v (c ∷ w) text all ends =
    let parts = and_parts (is_word_byte c) (list_all is_word_byte w) all in
    cond-true _ _ _ parts.0
    ∙ word_told (v ++ c ∷ []) w text parts.1 ends
    ∙ ap (λ u. before (word_token u) (read between text)) (append_assoc v (c ∷ []) w)

word_begun : (c : ℕ) (w text : List ℕ) → list_all is_word_byte (c ∷ w) ≡ true → begins_word text ≡ false → read between (c ∷ (w ++ text)) ≡ before (word_token (c ∷ w)) (read between text)
word_begun c w text all ends =
    let parts = and_parts (is_word_byte c) (list_all is_word_byte w) all in
    cond-true _ _ _ parts.0 ∙ word_told (c ∷ []) w text parts.1 ends

told : {text : List ℕ} {ts : List Token} → AreTokens text ts → read between text ≡ Some ts
told no_more = refl
told (space x) = told x
told (opening x) = ap (before k.Open) (told x)
told (closing x) = ap (before k.Close) (told x)
told (equality x) = ap (before k.Equal) (told x)
told (difference x) = ap (before k.Unequal) (told x)
told (word {text = text} {c = c} w all ends x) = word_begun c w text all ends ∙ ap (before (word_token (c ∷ w))) (told x)
told (quotation {text = text} {q = q} inner x) = quotation_told [] q text inner ∙ ap (before (k.Quoted q)) (told x)

-- ---- what is read is written so

-- what the bytes from a place on are
abbrev Found : Place → List ℕ → List Token → Type 0
Found between text ts = AreTokens text ts
Found (in_sign t) text ts = (rest : List ℕ) × (us : List Token) × (text ≡ 61 ∷ rest) × (ts ≡ t ∷ us) × AreTokens rest us
Found (in_word []) text ts = Unit {0}
Found (in_word (c ∷ w)) text ts = list_all is_word_byte (c ∷ w) ≡ true → AreTokens (c ∷ (w ++ text)) ts
Found (in_quotes q) text ts = list_all is_inner q ≡ true → AreTokens (34 ∷ (q ++ text)) ts

cond_cases : {P : Type 0} (b : Bool) (x y : Option (List Token)) (ts : List Token) → cond b x y ≡ Some ts → (b ≡ true → x ≡ Some ts → P) → (b ≡ false → y ≡ Some ts → P) → P
cond_cases true x y ts h at_true at_false = at_true refl h
cond_cases false x y ts h at_true at_false = at_false refl h

at_byte : (P : ℕ → Type 0) (c n : ℕ) → (c == n) ≡ true → P n → P c
at_byte P c n is h = subst P (sym (eqb-true c n is)) h

-- tokens after a token that is written of one byte
one_byte : (n : ℕ) (t : Token) (cs : List ℕ) (ts : List Token) → ((us : List Token) → AreTokens cs us → AreTokens (n ∷ cs) (t ∷ us)) → ((us : List Token) → read between cs ≡ Some us → AreTokens cs us) → before t (read between cs) ≡ Some ts → AreTokens (n ∷ cs) ts
one_byte n t cs ts makes found h = map_some (λ us. t ∷ us) (read between cs) ts h (λ us made same. subst (AreTokens (n ∷ cs)) same (makes us (found us made)))

equality_found : (cs : List ℕ) (ts : List Token) → Found (in_sign k.Equal) cs ts → AreTokens (61 ∷ cs) ts
equality_found cs ts f = subst (λ r. AreTokens (61 ∷ r) ts) (sym f.2) (subst (AreTokens (61 ∷ 61 ∷ f.0)) (sym f.3) (equality f.4))

difference_found : (cs : List ℕ) (ts : List Token) → Found (in_sign k.Unequal) cs ts → AreTokens (33 ∷ cs) ts
difference_found cs ts f = subst (λ r. AreTokens (33 ∷ r) ts) (sym f.2) (subst (AreTokens (33 ∷ 61 ∷ f.0)) (sym f.3) (difference f.4))

begun_found : (c : ℕ) (cs : List ℕ) (ts : List Token) → ((place : Place) (us : List Token) → read place cs ≡ Some us → Found place cs us) → begun c (λ place. read place cs) ≡ Some ts → AreTokens (c ∷ cs) ts
begun_found c cs ts found h =
    cond_cases (is_word_byte c) _ _ ts h (λ is go. found (in_word (c ∷ [])) ts go (word_one c is)) (λ _ h1.
    cond_cases (c == 32) _ _ ts h1 (λ is go. at_byte (λ b. AreTokens (b ∷ cs) ts) c 32 is (space (found between ts go))) (λ _ h2.
    cond_cases (c == 40) _ _ ts h2 (λ is go. at_byte (λ b. AreTokens (b ∷ cs) ts) c 40 is (one_byte 40 k.Open cs ts (λ us x. opening x) (found between) go)) (λ _ h3.
    cond_cases (c == 41) _ _ ts h3 (λ is go. at_byte (λ b. AreTokens (b ∷ cs) ts) c 41 is (one_byte 41 k.Close cs ts (λ us x. closing x) (found between) go)) (λ _ h4.
    cond_cases (c == 61) _ _ ts h4 (λ is go. at_byte (λ b. AreTokens (b ∷ cs) ts) c 61 is (equality_found cs ts (found (in_sign k.Equal) ts go))) (λ _ h5.
    cond_cases (c == 33) _ _ ts h5 (λ is go. at_byte (λ b. AreTokens (b ∷ cs) ts) c 33 is (difference_found cs ts (found (in_sign k.Unequal) ts go))) (λ _ h6.
    cond_cases (c == 34) _ _ ts h6 (λ is go. at_byte (λ b. AreTokens (b ∷ cs) ts) c 34 is (found (in_quotes []) ts go refl)) (λ _ h7. absurd (none-some ts h7))))))))

signed_found : (t : Token) (c : ℕ) (cs : List ℕ) (ts : List Token) → ((us : List Token) → read between cs ≡ Some us → AreTokens cs us) → signed t c (λ place. read place cs) ≡ Some ts → Found (in_sign t) (c ∷ cs) ts
signed_found t c cs ts found h =
    cond_cases (c == 61) _ _ ts h
    (λ is go. map_some (λ us. t ∷ us) (read between cs) ts go (λ us made same. (cs, us, ap (λ b. b ∷ cs) (eqb-true c 61 is), sym same, found us made)))
    (λ _ none. absurd (none-some ts none))

worded_found : (a : ℕ) (w : List ℕ) (c : ℕ) (cs : List ℕ) (ts : List Token) → ((place : Place) (us : List Token) → read place cs ≡ Some us → Found place cs us) → worded (a ∷ w) c (λ place. read place cs) ≡ Some ts
    → list_all is_word_byte (a ∷ w) ≡ true → AreTokens (a ∷ (w ++ (c ∷ cs))) ts
worded_found a w c cs ts found h all =
    cond_cases (is_word_byte c) _ _ ts h
    (λ is go. subst (λ us. AreTokens (a ∷ us) ts) (append_assoc w (c ∷ []) cs)
    (found (in_word (a ∷ (w ++ c ∷ []))) ts go (one_more is_word_byte (a ∷ w) c all (word_one c is))))
    (λ ends go. map_some (λ us. word_token (a ∷ w) ∷ us) (begun c (λ place. read place cs)) ts go (λ us made same.
    subst (AreTokens (a ∷ (w ++ (c ∷ cs)))) same (word {c = a} w all ends (begun_found c cs us found made))))

quoted_found : (q : List ℕ) (c : ℕ) (cs : List ℕ) (ts : List Token) → ((place : Place) (us : List Token) → read place cs ≡ Some us → Found place cs us) → quoted q c (λ place. read place cs) ≡ Some ts
    → list_all is_inner q ≡ true → AreTokens (34 ∷ (q ++ (c ∷ cs))) ts
quoted_found q c cs ts found h inner =
    cond_cases (c == 34) _ _ ts h
    (λ is go. map_some (λ us. k.Quoted q ∷ us) (read between cs) ts go (λ us made same.
    at_byte (λ b. AreTokens (34 ∷ (q ++ (b ∷ cs))) ts) c 34 is (subst (AreTokens (34 ∷ (q ++ (34 ∷ cs)))) same (quotation {q = q} inner (found between us made)))))
    (λ out h1. cond_cases (c == 92) _ _ ts h1
    (λ _ none. absurd (none-some ts none))
    (λ none go. subst (λ us. AreTokens (34 ∷ us) ts) (append_assoc q (c ∷ []) cs)
    (found (in_quotes (q ++ c ∷ [])) ts go (one_more is_inner q c inner (inner_one c out none)))))

found : (place : Place) (text : List ℕ) (ts : List Token) → read place text ≡ Some ts → Found place text ts
found between [] ts h = subst (AreTokens []) (same_Some [] ts h) no_more
found (in_sign t) [] ts h = absurd (none-some ts h)
found (in_word []) [] ts h = tt
found (in_word (c ∷ w)) [] ts h = λ all. subst (AreTokens (c ∷ (w ++ []))) (same_Some (word_token (c ∷ w) ∷ []) ts h) (word {c = c} w all refl no_more)
found (in_quotes q) [] ts h = absurd (none-some ts h)
found between (c ∷ cs) ts h = begun_found c cs ts (λ place us e. found place cs us e) h
found (in_sign t) (c ∷ cs) ts h = signed_found t c cs ts (λ us e. found between cs us e) h
found (in_word []) (c ∷ cs) ts h = tt
found (in_word (a ∷ w)) (c ∷ cs) ts h = worded_found a w c cs ts (λ place us e. found place cs us e) h
found (in_quotes q) (c ∷ cs) ts h = quoted_found q c cs ts (λ place us e. found place cs us e) h

-- ---- both

pub spelling_law : (text : List ℕ) (ts : List Token) → (tokens_of text ≡ Some ts) ↔ AreTokens text ts
unfolding tokens_of
spelling_law text ts = (λ h. found between text ts h, λ x. told x)
