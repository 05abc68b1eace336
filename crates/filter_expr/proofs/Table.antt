-- Reading piece by piece gives what the table of the grammar says, and nothing else.
use Rattle.std.proofs.Common.{◌≡◌, ◌↔◌, ◌≤◌, ℕ, zero, suc, ◌==◌, Bool, true, false, ◌&&◌, cond, leb, List, [], ◌∷◌, ◌++◌, length, map, Option, None, Some, refl, sym, ap, subst, ◌∙◌, append_assoc}
use Rattle.std.specs.Option.{option_map, option_and_then}
use Rattle.std.proofs.lemmas.List.{append-nil}
use Rattle.std.proofs.lemmas.Bool.{cond_both, and_parts, leb-true, le-leb}
use Rattle.std.proofs.lemmas.Option.{none-some, same_Some, cond_some, option_and_then_some}
use Rattle.filter_expr.specs.declared.lexer.Token.{Token}
use Rattle.filter_expr.specs.declared.lexer.Token.TheVariants as k
use Rattle.filter_expr.specs.declared.parser.Joint.{Joint}
use Rattle.filter_expr.specs.declared.parser.Joint.TheVariants as j
use Rattle.filter_expr.specs.declared.selectors.Shape.{Shape}
use Rattle.filter_expr.specs.Expressions.{Expression, Not}
use Rattle.filter_expr.specs.Tests.{test_of}
use Rattle.filter_expr.specs.Tokens.{tokens_of}
use Rattle.filter_expr.specs.Grammar.{is_joint, open_behind, put_first, put_front, pieces, joining, with_more, joined, parted, is_close, inside, deeper, part_of, parted_of, filter_of}
use Rattle.filter_expr.specs.Phrases.{IsValue, word, quoted, IsTest, equal, unequal, among, not_among, contains, not_contains, empty, not_empty, IsOr, one_and, or_and, IsAnd, one_not, and_not, IsNot, test, negated, enclosed, IsFilter}
use Rattle.filter_expr.proofs.Parting.{inside_last}
use Rattle.filter_expr.proofs.Spelled.{spelling_law}
use Rattle.filter_expr.proofs.Solid.{Solid, not_solid, and_solid}
use Rattle.filter_expr.proofs.TestTable.{map_some, test_told, test_found}

abbrev sign : Joint → Token
sign j.And = k.And
sign j.Or = k.Or

-- ---- what the table makes is read

-- what is read of tokens, and of these before a sign and others
record Reads (joint : Joint) (read : List Token → Option Expression) (ts : List Token) (e : Expression) : Type 0 where
  whole : parted joint read ts ≡ Some e
  more : (rest : List Token) → parted joint read (ts ++ (sign joint ∷ rest)) ≡ with_more joint e (map read (pieces joint 0 rest))

one_piece : (joint : Joint) (ts : List Token) → Solid joint ts → pieces joint 0 ts ≡ ts ∷ []
one_piece joint ts solid = subst (λ us. pieces joint 0 us ≡ us ∷ []) (append-nil ts) (solid 0 [])

sign_parts : (joint : Joint) (rest : List Token) → pieces joint 0 (sign joint ∷ rest) ≡ [] ∷ pieces joint 0 rest
sign_parts j.And rest = refl
sign_parts j.Or rest = refl

first_piece : (joint : Joint) (ts rest : List Token) → Solid joint ts → pieces joint 0 (ts ++ (sign joint ∷ rest)) ≡ ts ∷ pieces joint 0 rest
first_piece joint ts rest solid =
    solid 0 (sign joint ∷ rest) ∙ ap (put_front ts) (sign_parts joint rest) ∙ ap (λ us. us ∷ pieces joint 0 rest) (append-nil ts)

one_read : (joint : Joint) (read : List Token → Option Expression) (ts : List Token) (e : Expression) → Solid joint ts → read ts ≡ Some e → Reads joint read ts e
one_read joint read ts e solid is = record {
  whole = ap (λ ps. joined joint (map read ps)) (one_piece joint ts solid) ∙ ap (λ o. joined joint (o ∷ [])) is;
  more = λ rest. ap (λ ps. joined joint (map read ps)) (first_piece joint ts rest solid) ∙ ap (λ o. joined joint (o ∷ map read (pieces joint 0 rest))) is;
}

more_read : (joint : Joint) (read : List Token → Option Expression) (ts us : List Token) (a b : Expression) → Reads joint read ts a → Solid joint us → read us ≡ Some b → Reads joint read (ts ++ (sign joint ∷ us)) (joining joint a b)
more_read joint read ts us a b left solid is = record {
  whole = left.more us ∙ ap (λ ps. with_more joint a (map read ps)) (one_piece joint us solid) ∙ ap (λ o. with_more joint a (o ∷ [])) is;
  more = λ rest.
      ap (parted joint read) (append_assoc ts (sign joint ∷ us) (sign joint ∷ rest))
      ∙ left.more (us ++ (sign joint ∷ rest))
      ∙ ap (λ ps. with_more joint a (map read ps)) (first_piece joint us rest solid)
      ∙ ap (λ o. with_more joint a (o ∷ map read (pieces joint 0 rest))) is;
}

value_first : (s : Shape) (part : List Token → Option Expression) {v : Token} {text : List ℕ} (ts : List Token) → IsValue v text → deeper s part (v ∷ ts) ≡ test_of s (v ∷ ts)
value_first s part ts word = refl
value_first s part ts quoted = refl

test_deeper : {s : Shape} (part : List Token → Option Expression) {ts : List Token} {e : Expression} → IsTest s ts e → deeper s part ts ≡ test_of s ts
test_deeper part (equal c) = refl
test_deeper part (unequal c) = refl
test_deeper {s} part (among c) = value_first s part _ c.says
test_deeper {s} part (not_among c) = value_first s part _ c.says
test_deeper part (contains c) = refl
test_deeper part (not_contains c) = refl
test_deeper part (empty c) = refl
test_deeper part (not_empty c) = refl

test_read : {s : Shape} (n : ℕ) {ts : List Token} {e : Expression} → IsTest s ts e → part_of s n ts ≡ Some e
test_read zero t = test_told t
test_read {s} (suc n) t = test_deeper (part_of s n) t ∙ test_told t

enclosed_read : (s : Shape) (n : ℕ) (ts : List Token) (e : Expression) → parted_of j.Or s n ts ≡ Some e → part_of s (suc n) (k.Open ∷ (ts ++ (k.Close ∷ []))) ≡ Some e
enclosed_read s n ts e h = ap (option_and_then (parted j.Or (parted j.And (part_of s n)))) (inside_last ts k.Close) ∙ h

mutual
  not_read : {s : Shape} {n : ℕ} {ts : List Token} {e : Expression} → IsNot s n ts e → part_of s n ts ≡ Some e
  not_read (test {levels = n} t) = test_read n t
  not_read (negated x) = ap (option_map Not) (not_read x)
  not_read {s} (enclosed {levels = n} {ts = ts} {e = e} x) = enclosed_read s n ts e (or_read x).whole

  and_read : {s : Shape} {n : ℕ} {ts : List Token} {e : Expression} → IsAnd s n ts e → Reads j.And (part_of s n) ts e
  and_read {s} (one_not {levels = n} {ts = ts} {e = e} x) = one_read j.And (part_of s n) ts e (not_solid j.And x) (not_read x)
  and_read {s} (and_not {levels = n} {ts = ts} {us = us} {a = a} {b = b} x y) = more_read j.And (part_of s n) ts us a b (and_read x) (not_solid j.And y) (not_read y)

  or_read : {s : Shape} {n : ℕ} {ts : List Token} {e : Expression} → IsOr s n ts e → Reads j.Or (parted j.And (part_of s n)) ts e
  or_read {s} (one_and {levels = n} {ts = ts} {e = e} x) = one_read j.Or (parted j.And (part_of s n)) ts e (and_solid x) (and_read x).whole
  or_read {s} (or_and {levels = n} {ts = ts} {us = us} {a = a} {b = b} x y) = more_read j.Or (parted j.And (part_of s n)) ts us a b (or_read x) (and_solid y) (and_read y).whole

-- ---- what is read is what the table makes

-- the pieces behind the first, each with the sign before it
abbrev glue : Joint → List (List Token) → List Token
glue joint [] = []
glue joint (p ∷ ps) = sign joint ∷ (p ++ glue joint ps)

-- tokens are their pieces with the signs between them
record Cut (joint : Joint) (ts : List Token) (ps : List (List Token)) : Type 0 where
  first : List Token
  others : List (List Token)
  is : ps ≡ first ∷ others
  whole : first ++ glue joint others ≡ ts

sign_is : (joint : Joint) (t : Token) → is_joint joint t ≡ true → sign joint ≡ t
sign_is j.And k.And e = refl
sign_is j.And other e = absurd cc
sign_is j.Or k.Or e = refl
sign_is j.Or other e = absurd cc

cut_here : (joint : Joint) (t : Token) (ts : List Token) (ps : List (List Token)) → is_joint joint t ≡ true → Cut joint ts ps → Cut joint (t ∷ ts) ([] ∷ ps)
cut_here joint t ts ps is c = record {
  first = [];
  others = ps;
  is = refl;
  whole = ap (glue joint) c.is ∙ ap (λ us. sign joint ∷ us) c.whole ∙ ap (λ u. u ∷ ts) (sign_is joint t is);
}

cut_later : (joint : Joint) (t : Token) (ts : List Token) (ps : List (List Token)) → Cut joint ts ps → Cut joint (t ∷ ts) (put_first t ps)
cut_later joint t ts ps c = record {
  first = t ∷ c.first;
  others = c.others;
  is = ap (put_first t) c.is;
  whole = ap (λ us. t ∷ us) c.whole;
}

cut : (joint : Joint) (depth : ℕ) (ts : List Token) → Cut joint ts (pieces joint depth ts)
cut joint depth [] = record { first = []; others = []; is = refl; whole = refl }
cut joint depth (t ∷ ts) =
    cond_both (is_joint joint t && depth == 0) _ _ (Cut joint (t ∷ ts))
    (λ e. cut_here joint t ts _ (and_parts _ _ e).0 (cut joint 0 ts))
    (λ e. cut_later joint t ts _ (cut joint (open_behind t depth) ts))

read_cases : {P : Type 0} (o : Option Expression) → (o ≡ None → P) → ((a : Expression) → o ≡ Some a → P) → P
read_cases None none some = none refl
read_cases (Some a) none some = some a refl

-- Where reading finds R and joining keeps P, the pieces joined are P.
more_found : (joint : Joint) (read : List Token → Option Expression) (R P : List Token → Expression → Type 0) → ((ts : List Token) (e : Expression) → read ts ≡ Some e → R ts e)
    → ((ts us : List Token) (a b : Expression) → P ts a → R us b → P (ts ++ (sign joint ∷ us)) (joining joint a b))
    → (ps : List (List Token)) (ts : List Token) (a e : Expression) → P ts a → with_more joint a (map read ps) ≡ Some e → P (ts ++ glue joint ps) e
more_found joint read R P found more [] ts a e p h = subst (λ us. P us e) (sym (append-nil ts)) (subst (P ts) (same_Some a e h) p)
more_found joint read R P found more (q ∷ ps) ts a e p h =
    read_cases (read q)
    (λ none. absurd (none-some e (subst (λ o. with_more joint a (o ∷ map read ps) ≡ Some e) none h)))
    (λ b some. subst (λ us. P us e) (append_assoc ts (sign joint ∷ q) (glue joint ps))
    (more_found joint read R P found more ps (ts ++ (sign joint ∷ q)) (joining joint a b) e (more ts q a b p (found q b some)) (subst (λ o. with_more joint a (o ∷ map read ps) ≡ Some e) some h)))

parted_found : (joint : Joint) (read : List Token → Option Expression) (R P : List Token → Expression → Type 0) → ((ts : List Token) (e : Expression) → read ts ≡ Some e → R ts e)
    → ((ts : List Token) (e : Expression) → R ts e → P ts e)
    → ((ts us : List Token) (a b : Expression) → P ts a → R us b → P (ts ++ (sign joint ∷ us)) (joining joint a b))
    → (ts : List Token) (e : Expression) → parted joint read ts ≡ Some e → P ts e
parted_found joint read R P found one more ts e h =
    let c = cut joint 0 ts in
    let joins : joined joint (read c.first ∷ map read c.others) ≡ Some e = subst (λ ps. joined joint (map read ps) ≡ Some e) c.is h in
    read_cases (read c.first)
    (λ none. absurd (none-some e (subst (λ o. joined joint (o ∷ map read c.others) ≡ Some e) none joins)))
    (λ a some. subst (λ us. P us e) c.whole
    (more_found joint read R P found more c.others c.first a e (one c.first a (found c.first a some)) (subst (λ o. joined joint (o ∷ map read c.others) ≡ Some e) some joins)))

close_is : (t : Token) → is_close t ≡ true → t ≡ k.Close
close_is k.Close e = refl
close_is other e = absurd cc

inside_found : (ts vs : List Token) → inside ts ≡ Some vs → ts ≡ vs ++ (k.Close ∷ [])
inside_found [] vs h = absurd (none-some vs h)
inside_found (t ∷ []) vs h =
    let closes = cond_some (is_close t) [] vs h in
    ap (λ u. u ∷ []) (close_is t closes.0) ∙ ap (λ us. us ++ (k.Close ∷ [])) closes.1
inside_found (t ∷ u ∷ ts) vs h =
    map_some (λ us. t ∷ us) (inside (u ∷ ts)) vs h (λ ws is same. ap (λ us. t ∷ us) (inside_found (u ∷ ts) ws is) ∙ ap (λ us. us ++ (k.Close ∷ [])) same)

or_found : (s : Shape) (n : ℕ) → ((ts : List Token) (e : Expression) → part_of s n ts ≡ Some e → IsNot s n ts e) → (ts : List Token) (e : Expression) → parted_of j.Or s n ts ≡ Some e → IsOr s n ts e
or_found s n found =
    parted_found j.Or (parted j.And (part_of s n)) (IsAnd s n) (IsOr s n)
    (parted_found j.And (part_of s n) (IsNot s n) (IsAnd s n) found (λ ts e x. one_not x) (λ ts us a b x y. and_not x y))
    (λ ts e x. one_and x)
    (λ ts us a b x y. or_and x y)

deeper_found : (s : Shape) (n : ℕ) → ((ts : List Token) (e : Expression) → part_of s n ts ≡ Some e → IsNot s n ts e) → (ts : List Token) (e : Expression) → deeper s (part_of s n) ts ≡ Some e → IsNot s (suc n) ts e
deeper_found s n found (k.Not ∷ ts) e h = map_some Not (part_of s n ts) e h (λ a made is. subst (IsNot s (suc n) (k.Not ∷ ts)) is (negated (found ts a made)))
deeper_found s n found (k.Open ∷ ts) e h =
    option_and_then_some (parted j.Or (parted j.And (part_of s n))) (inside ts) e h (λ vs is made.
    subst (λ us. IsNot s (suc n) (k.Open ∷ us) e) (sym (inside_found ts vs is)) (enclosed (or_found s n found vs e made)))
deeper_found s n found ts e h = test (test_found s ts e h)

part_found : (s : Shape) (n : ℕ) (ts : List Token) (e : Expression) → part_of s n ts ≡ Some e → IsNot s n ts e
part_found s zero ts e h = test (test_found s ts e h)
part_found s (suc n) ts e h = deeper_found s n (part_found s n) ts e h

-- ---- both

table_law : (s : Shape) (n : ℕ) (ts : List Token) (e : Expression) → (parted_of j.Or s n ts ≡ Some e) ↔ IsOr s n ts e
table_law s n ts e = (or_found s n (part_found s n) ts e, λ x. (or_read x).whole)

chosen : (b : Bool) (o : Option Expression) (e : Expression) → cond b o None ≡ Some e → (b ≡ true) × (o ≡ Some e)
chosen true o e h = (refl, h)
chosen false o e h = absurd (none-some e h)

found_at : (s : Shape) (n most : ℕ) (text : List ℕ) (e : Expression) → cond (leb (length text) most) (option_and_then (parted_of j.Or s n) (tokens_of text)) None ≡ Some e
    → (length text ≤ most) × (ts : List Token) × (tokens_of text ≡ Some ts) × IsOr s n ts e
found_at s n most text e h =
    let c = chosen (leb (length text) most) (option_and_then (parted_of j.Or s n) (tokens_of text)) e h in
    option_and_then_some (parted_of j.Or s n) (tokens_of text) e c.1 (λ ts is made. (leb-true (length text) most c.0, ts, is, (table_law s n ts e).0 made))

told_at : (s : Shape) (n most : ℕ) (text : List ℕ) (ts : List Token) (e : Expression) → length text ≤ most → tokens_of text ≡ Some ts → IsOr s n ts e
    → cond (leb (length text) most) (option_and_then (parted_of j.Or s n) (tokens_of text)) None ≡ Some e
told_at s n most text ts e short is x =
    ap (λ b. cond b (option_and_then (parted_of j.Or s n) (tokens_of text)) None) (le-leb (length text) most short)
    ∙ ap (option_and_then (parted_of j.Or s n)) is
    ∙ (table_law s n ts e).1 x

pub grammar_law : (s : Shape) (text : List ℕ) (e : Expression) → (filter_of s text ≡ Some e) ↔ IsFilter s text e
unfolding filter_of
grammar_law s text e = (
  λ h. let f = found_at s 64 4096 text e h in record { short = f.0; ts = f.1; written = (spelling_law text f.1).0 f.2; grammar = f.3 },
  λ f. told_at s 64 4096 text f.ts e f.short ((spelling_law text f.ts).1 f.written) f.grammar,
)
