-- What stands between the signs that part tokens: a `not` phrase has no such sign outside its own parentheses and closes
-- each that it opens, so it is all of one piece.
use Rattle.std.proofs.Common.{◌≡◌, ℕ, suc, ◌-◌, ◌==◌, ◌&&◌, false, List, [], ◌∷◌, ◌++◌, refl, sym, ap, ◌∙◌, append_assoc, arith}
use Rattle.std.proofs.lemmas.Bool.{cond-false, and_right, ne_eqb}
use Rattle.filter_expr.specs.declared.lexer.Token.{Token}
use Rattle.filter_expr.specs.declared.lexer.Token.TheVariants as k
use Rattle.filter_expr.specs.declared.parser.Joint.{Joint}
use Rattle.filter_expr.specs.declared.parser.Joint.TheVariants as j
use Rattle.filter_expr.specs.declared.selectors.Shape.{Shape}
use Rattle.filter_expr.specs.Expressions.{Expression}
use Rattle.filter_expr.specs.Grammar.{is_joint, open_behind, put_first, put_front, pieces}
use Rattle.filter_expr.specs.Phrases.{IsValue, word, quoted, IsTest, equal, unequal, among, not_among, contains, not_contains, empty, not_empty, IsOr, one_and, or_and, IsAnd, one_not, and_not, IsNot, test, negated, enclosed}

-- the tokens go on the first piece behind them, wherever they stand
abbrev pub Solid : Joint → List Token → Type 0
Solid joint ts = (depth : ℕ) (rest : List Token) → pieces joint depth (ts ++ rest) ≡ put_front ts (pieces joint depth rest)

-- they do so between parentheses
abbrev pub Nested : Joint → List Token → Type 0
Nested joint ts = (depth : ℕ) (rest : List Token) → pieces joint (suc depth) (ts ++ rest) ≡ put_front ts (pieces joint (suc depth) rest)

-- ---- tokens before the first piece

front_none : (ps : List (List Token)) → ps ≡ put_front [] ps
front_none [] = refl
front_none (p ∷ ps) = refl

front_first : (t : Token) (ts : List Token) (ps : List (List Token)) → put_first t (put_front ts ps) ≡ put_front (t ∷ ts) ps
front_first t ts [] = refl
front_first t ts (p ∷ ps) = refl

front_joined : (ts : List Token) (t : Token) (us : List Token) (ps : List (List Token)) → put_front ts (put_first t (put_front us ps)) ≡ put_front (ts ++ (t ∷ us)) ps
front_joined ts t us [] = refl
front_joined ts t us (p ∷ ps) = ap (λ q. q ∷ ps) (sym (append_assoc ts (t ∷ us) p))

front_enclosed : (ts : List Token) (ps : List (List Token)) → put_first k.Open (put_front ts (put_first k.Close ps)) ≡ put_front (k.Open ∷ (ts ++ (k.Close ∷ []))) ps
front_enclosed ts [] = refl
front_enclosed ts (p ∷ ps) = ap (λ q. (k.Open ∷ q) ∷ ps) (sym (append_assoc ts (k.Close ∷ []) p))

-- ---- tests

abbrev IsPlain : Token → Type 0
IsPlain k.Open = ⊥
IsPlain k.Close = ⊥
IsPlain k.And = ⊥
IsPlain k.Or = ⊥
IsPlain other = Unit {0}

plain_piece : (joint : Joint) (t : Token) (depth : ℕ) (rest : List Token) → IsPlain t → pieces joint depth (t ∷ rest) ≡ put_first t (pieces joint depth rest)
plain_piece joint k.Open depth rest plain = absurd plain
plain_piece joint k.Close depth rest plain = absurd plain
plain_piece joint k.And depth rest plain = absurd plain
plain_piece joint k.Or depth rest plain = absurd plain
plain_piece j.And t depth rest plain = refl
plain_piece j.Or t depth rest plain = refl

solid_none : (joint : Joint) → Solid joint []
solid_none joint depth rest = front_none (pieces joint depth rest)

solid_more : (joint : Joint) (t : Token) (ts : List Token) → IsPlain t → Solid joint ts → Solid joint (t ∷ ts)
solid_more joint t ts plain solid depth rest =
    plain_piece joint t depth (ts ++ rest) plain ∙ ap (put_first t) (solid depth rest) ∙ front_first t ts (pieces joint depth rest)

solid_three : (joint : Joint) (a b c : Token) → IsPlain a → IsPlain b → IsPlain c → Solid joint (a ∷ b ∷ c ∷ [])
solid_three joint a b c pa pb pc = solid_more joint a (b ∷ c ∷ []) pa (solid_more joint b (c ∷ []) pb (solid_more joint c [] pc (solid_none joint)))

solid_four : (joint : Joint) (a b c d : Token) → IsPlain a → IsPlain b → IsPlain c → IsPlain d → Solid joint (a ∷ b ∷ c ∷ d ∷ [])
solid_four joint a b c d pa pb pc pd = solid_more joint a (b ∷ c ∷ d ∷ []) pa (solid_three joint b c d pb pc pd)

value_plain : {v : Token} {text : List ℕ} → IsValue v text → IsPlain v
value_plain word = tt
value_plain quoted = tt

test_solid : (joint : Joint) {s : Shape} {ts : List Token} {e : Expression} → IsTest s ts e → Solid joint ts
test_solid joint (equal {path = p} {value = v} c) = solid_three joint (k.Word p) k.Equal v tt tt (value_plain c.says)
test_solid joint (unequal {path = p} {value = v} c) = solid_three joint (k.Word p) k.Unequal v tt tt (value_plain c.says)
test_solid joint (among {path = p} {value = v} c) = solid_three joint v k.In (k.Word p) (value_plain c.says) tt tt
test_solid joint (not_among {path = p} {value = v} c) = solid_four joint v k.Not k.In (k.Word p) (value_plain c.says) tt tt tt
test_solid joint (contains {path = p} {value = v} c) = solid_three joint (k.Word p) k.Contains v tt tt (value_plain c.says)
test_solid joint (not_contains {path = p} {value = v} c) = solid_four joint (k.Word p) k.Not k.Contains v tt tt tt (value_plain c.says)
test_solid joint (empty {path = p} c) = solid_three joint (k.Word p) k.Is k.Empty tt tt tt
test_solid joint (not_empty {path = p} c) = solid_four joint (k.Word p) k.Is k.Not k.Empty tt tt tt tt

-- ---- what is joined, and what is in parentheses

nested_solid : (joint : Joint) (ts : List Token) → Solid joint ts → Nested joint ts
nested_solid joint ts solid depth rest = solid (suc depth) rest

-- a sign parts nothing between parentheses
sign_nested : (joint : Joint) (t : Token) (depth : ℕ) (rest : List Token) → open_behind t (suc depth) ≡ suc depth → pieces joint (suc depth) (t ∷ rest) ≡ put_first t (pieces joint (suc depth) rest)
sign_nested joint t depth rest stays =
    let deep : (suc depth == 0) ≡ false = ne_eqb (suc depth) 0 (λ e. absurd (omega arith)) in
    cond-false (is_joint joint t && (suc depth == 0)) ([] ∷ pieces joint 0 rest) (put_first t (pieces joint (open_behind t (suc depth)) rest)) (and_right (is_joint joint t) (suc depth == 0) deep)
    ∙ ap (λ n. put_first t (pieces joint n rest)) stays

nested_joined : (joint : Joint) (t : Token) (ts us : List Token) → ((depth : ℕ) → open_behind t depth ≡ depth) → Nested joint ts → Nested joint us → Nested joint (ts ++ (t ∷ us))
nested_joined joint t ts us stays left right depth rest =
    ap (pieces joint (suc depth)) (append_assoc ts (t ∷ us) rest)
    ∙ left depth (t ∷ (us ++ rest))
    ∙ ap (put_front ts) (sign_nested joint t depth (us ++ rest) (stays (suc depth)) ∙ ap (put_first t) (right depth rest))
    ∙ front_joined ts t us (pieces joint (suc depth) rest)

open_piece : (joint : Joint) (depth : ℕ) (rest : List Token) → pieces joint depth (k.Open ∷ rest) ≡ put_first k.Open (pieces joint (suc depth) rest)
open_piece j.And depth rest = refl
open_piece j.Or depth rest = refl

less_one : (depth : ℕ) → suc depth - 1 ≡ depth
less_one depth = omega arith

close_piece : (joint : Joint) (depth : ℕ) (rest : List Token) → pieces joint (suc depth) (k.Close ∷ rest) ≡ put_first k.Close (pieces joint depth rest)
close_piece j.And depth rest = ap (λ n. put_first k.Close (pieces j.And n rest)) (less_one depth)
close_piece j.Or depth rest = ap (λ n. put_first k.Close (pieces j.Or n rest)) (less_one depth)

solid_enclosed : (joint : Joint) (ts : List Token) → Nested joint ts → Solid joint (k.Open ∷ (ts ++ (k.Close ∷ [])))
solid_enclosed joint ts nested depth rest =
    open_piece joint depth ((ts ++ (k.Close ∷ [])) ++ rest)
    ∙ ap (λ us. put_first k.Open (pieces joint (suc depth) us)) (append_assoc ts (k.Close ∷ []) rest)
    ∙ ap (put_first k.Open) (nested depth (k.Close ∷ rest) ∙ ap (put_front ts) (close_piece joint depth rest))
    ∙ front_enclosed ts (pieces joint depth rest)

mutual
  pub not_solid : (joint : Joint) {s : Shape} {n : ℕ} {ts : List Token} {e : Expression} → IsNot s n ts e → Solid joint ts
  not_solid joint (test t) = test_solid joint t
  not_solid joint (negated {ts = ts} x) = solid_more joint k.Not ts tt (not_solid joint x)
  not_solid joint (enclosed {ts = ts} x) = solid_enclosed joint ts (or_nested joint x)

  and_nested : (joint : Joint) {s : Shape} {n : ℕ} {ts : List Token} {e : Expression} → IsAnd s n ts e → Nested joint ts
  and_nested joint (one_not {ts = ts} x) = nested_solid joint ts (not_solid joint x)
  and_nested joint (and_not {ts = ts} {us = us} x y) = nested_joined joint k.And ts us (λ n. refl) (and_nested joint x) (nested_solid joint us (not_solid joint y))

  or_nested : (joint : Joint) {s : Shape} {n : ℕ} {ts : List Token} {e : Expression} → IsOr s n ts e → Nested joint ts
  or_nested joint (one_and x) = and_nested joint x
  or_nested joint (or_and {ts = ts} {us = us} x y) = nested_joined joint k.Or ts us (λ n. refl) (or_nested joint x) (and_nested joint y)

-- an `and` phrase is parted by no `or`
solid_and : (ts us : List Token) → Solid j.Or ts → Solid j.Or us → Solid j.Or (ts ++ (k.And ∷ us))
solid_and ts us left right depth rest =
    ap (pieces j.Or depth) (append_assoc ts (k.And ∷ us) rest)
    ∙ left depth (k.And ∷ (us ++ rest))
    ∙ ap (λ ps. put_front ts (put_first k.And ps)) (right depth rest)
    ∙ front_joined ts k.And us (pieces j.Or depth rest)

pub and_solid : {s : Shape} {n : ℕ} {ts : List Token} {e : Expression} → IsAnd s n ts e → Solid j.Or ts
and_solid (one_not x) = not_solid j.Or x
and_solid (and_not {ts = ts} {us = us} x y) = solid_and ts us (and_solid x) (not_solid j.Or y)
