-- The grammar of expressions, as the documentation of filtering states it:
--     or:     and;   or `or` and
--     and:    not;   and `and` not
--     not:    `not` not;   `(` or `)`;   a test of one member
-- So `not` binds closest and `or` weakest, and what has no parentheses is joined from the left. Each `not` and each
-- parenthesis is a level deeper than what is around it, and so many levels are left at most.
use Rattle.std.specs.Prelude.{◌≡◌, ◌⊎◌, ◌≤◌, ℕ, suc, List, [], ◌∷◌, ◌++◌, length, Some}
use Rattle.filter_expr.specs.declared.lexer.Token.{Token}
use Rattle.filter_expr.specs.declared.lexer.Token.TheVariants as k
use Rattle.filter_expr.specs.declared.selectors.Shape.{Shape}
use Rattle.filter_expr.specs.declared.selectors.Selector.{Selector}
use Rattle.filter_expr.specs.declared.selectors.Sort.TheVariants as sorts
use Rattle.filter_expr.specs.declared.expression.Literal.{Literal}
use Rattle.filter_expr.specs.declared.expression.Test.TheVariants.{Equals, Has, IsEmpty}
use Rattle.filter_expr.specs.Expressions.{Expression, Is, Not, And, Or}
use Rattle.filter_expr.specs.Selectors.{selector_at, sort_of}
use Rattle.filter_expr.specs.Tests.{literal_of}
use Rattle.filter_expr.specs.Spelling.{AreTokens}

-- ---- the tests of one member

-- a value is a word, or a text between quotation marks
pub data IsValue : Token → List ℕ → Type 0 where
  word : {text : List ℕ} → IsValue (k.Word text) text
  quoted : {text : List ℕ} → IsValue (k.Quoted text) text

-- the path is a member's, and the value is one of what that member is
pub record Compares (s : Shape) (path : List ℕ) (value : Token) (member : Selector) (literal : Literal) : Type 0 where
  pub names : selector_at s path ≡ Some member
  pub text : List ℕ
  pub says : IsValue value text
  pub reads : literal_of (sort_of member) text ≡ Some literal

-- the path is that of a member that is a list of texts
pub record Lists (s : Shape) (path : List ℕ) (value : Token) (member : Selector) (text : List ℕ) : Type 0 where
  pub names : selector_at s path ≡ Some member
  pub says : IsValue value text
  pub is_list : sort_of member ≡ sorts.Texts

-- the path is that of a member that is a text or a list of texts
pub record MayBeEmpty (s : Shape) (path : List ℕ) (member : Selector) : Type 0 where
  pub names : selector_at s path ≡ Some member
  pub is_any : (sort_of member ≡ sorts.Text) ⊎ (sort_of member ≡ sorts.Texts)

pub data IsTest (s : Shape) : List Token → Expression → Type 0 where
  equal : {path : List ℕ} {value : Token} {m : Selector} {l : Literal} → Compares s path value m l → IsTest s (k.Word path ∷ k.Equal ∷ value ∷ []) (Is (Equals m l))
  unequal : {path : List ℕ} {value : Token} {m : Selector} {l : Literal} → Compares s path value m l → IsTest s (k.Word path ∷ k.Unequal ∷ value ∷ []) (Not (Is (Equals m l)))
  among : {path : List ℕ} {value : Token} {m : Selector} {text : List ℕ} → Lists s path value m text → IsTest s (value ∷ k.In ∷ k.Word path ∷ []) (Is (Has m text))
  not_among : {path : List ℕ} {value : Token} {m : Selector} {text : List ℕ} → Lists s path value m text → IsTest s (value ∷ k.Not ∷ k.In ∷ k.Word path ∷ []) (Not (Is (Has m text)))
  contains : {path : List ℕ} {value : Token} {m : Selector} {text : List ℕ} → Lists s path value m text → IsTest s (k.Word path ∷ k.Contains ∷ value ∷ []) (Is (Has m text))
  not_contains : {path : List ℕ} {value : Token} {m : Selector} {text : List ℕ} → Lists s path value m text → IsTest s (k.Word path ∷ k.Not ∷ k.Contains ∷ value ∷ []) (Not (Is (Has m text)))
  empty : {path : List ℕ} {m : Selector} → MayBeEmpty s path m → IsTest s (k.Word path ∷ k.Is ∷ k.Empty ∷ []) (Is (IsEmpty m))
  not_empty : {path : List ℕ} {m : Selector} → MayBeEmpty s path m → IsTest s (k.Word path ∷ k.Is ∷ k.Not ∷ k.Empty ∷ []) (Not (Is (IsEmpty m)))

-- ---- what joins them

mutual
  pub data IsOr (s : Shape) : ℕ → List Token → Expression → Type 0 where
    one_and : {levels : ℕ} {ts : List Token} {e : Expression} → IsAnd s levels ts e → IsOr s levels ts e
    or_and : {levels : ℕ} {ts us : List Token} {a b : Expression} → IsOr s levels ts a → IsAnd s levels us b → IsOr s levels (ts ++ (k.Or ∷ us)) (Or a b)

  pub data IsAnd (s : Shape) : ℕ → List Token → Expression → Type 0 where
    one_not : {levels : ℕ} {ts : List Token} {e : Expression} → IsNot s levels ts e → IsAnd s levels ts e
    and_not : {levels : ℕ} {ts us : List Token} {a b : Expression} → IsAnd s levels ts a → IsNot s levels us b → IsAnd s levels (ts ++ (k.And ∷ us)) (And a b)

  pub data IsNot (s : Shape) : ℕ → List Token → Expression → Type 0 where
    test : {levels : ℕ} {ts : List Token} {e : Expression} → IsTest s ts e → IsNot s levels ts e
    negated : {levels : ℕ} {ts : List Token} {e : Expression} → IsNot s levels ts e → IsNot s (suc levels) (k.Not ∷ ts) (Not e)
    enclosed : {levels : ℕ} {ts : List Token} {e : Expression} → IsOr s levels ts e → IsNot s (suc levels) (k.Open ∷ (ts ++ (k.Close ∷ []))) e

-- A filter is a text of at most 4,096 bytes whose tokens are an expression of at most 64 levels.
pub record IsFilter (s : Shape) (text : List ℕ) (e : Expression) : Type 0 where
  pub short : length text ≤ 4096
  pub ts : List Token
  pub written : AreTokens text ts
  pub grammar : IsOr s 64 ts e
