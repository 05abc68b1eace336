-- How expressions are read; `Phrases` has the grammar as a table, which says the same. An expression is one or more
-- alternatives, parted by `or`; an alternative is one or more parts, parted by `and`; a part is `not` and a part, or an
-- expression in parentheses, or a test of one member. What is in parentheses is parted by none of the signs outside.
-- Each `not` and each parenthesis is one level deeper than what is around it.
use Rattle.std.specs.Prelude.{ℕ, zero, suc, ◌-◌, ◌==◌, Bool, true, false, ◌&&◌, nat_le, if◌then◌else◌, List, [], ◌∷◌, ◌++◌, length, map, Option, None, Some, option_map, option_and_then}
use Rattle.filter_expr.specs.declared.lexer.Token.{Token}
use Rattle.filter_expr.specs.declared.lexer.Token.TheVariants as k
use Rattle.filter_expr.specs.declared.parser.Joint.{Joint}
use Rattle.filter_expr.specs.declared.parser.Joint.TheVariants as j
use Rattle.filter_expr.specs.declared.selectors.Shape.{Shape}
use Rattle.filter_expr.specs.Expressions.{Expression, Not, And, Or}
use Rattle.filter_expr.specs.Tests.{test_of}
use Rattle.filter_expr.specs.Tokens.{tokens_of}

-- ---- the pieces between the signs that part a list of tokens

abbrev pub is_joint : Joint → Token → Bool
is_joint j.And k.And = true
is_joint j.Or k.Or = true
is_joint joint token = false

-- how many parentheses are open behind a token
abbrev pub open_behind : Token → ℕ → ℕ
open_behind k.Open n = suc n
open_behind k.Close n = n - 1
open_behind other n = n

-- the pieces with a token before the first
abbrev pub put_first : Token → List (List Token) → List (List Token)
put_first t [] = []
put_first t (piece ∷ pieces) = (t ∷ piece) ∷ pieces

-- the pieces, where so many parentheses are open
abbrev pub pieces : Joint → ℕ → List Token → List (List Token)
pieces joint depth [] = [] ∷ []
pieces joint depth (t ∷ ts) =
    if is_joint joint t && depth == 0 then [] ∷ pieces joint 0 ts else put_first t (pieces joint (open_behind t depth) ts)

-- the pieces with these tokens before the first
abbrev pub put_front : List Token → List (List Token) → List (List Token)
put_front ts [] = []
put_front ts (piece ∷ pieces) = (ts ++ piece) ∷ pieces

-- the pieces behind the first, from the sign behind it on
abbrev pub pieces_behind : Joint → List Token → List (List Token)
pieces_behind joint [] = []
pieces_behind joint (sign ∷ ts) = pieces joint 0 ts

-- ---- what the pieces come to

abbrev pub joining : Joint → Expression → Expression → Expression
joining j.And a b = And a b
joining j.Or a b = Or a b

-- an expression with what follows it, from the left to the right, if all of that could be read
abbrev pub with_more : Joint → Expression → List (Option Expression) → Option Expression
with_more joint a [] = Some a
with_more joint a (None ∷ more) = None
with_more joint a (Some b ∷ more) = with_more joint (joining joint a b) more

abbrev pub joined : Joint → List (Option Expression) → Option Expression
joined joint [] = None
joined joint (None ∷ more) = None
joined joint (Some a ∷ more) = with_more joint a more

-- each piece read alone, and joined
abbrev pub parted : Joint → (List Token → Option Expression) → List Token → Option Expression
parted joint read ts = joined joint (map read (pieces joint 0 ts))

-- ---- levels

abbrev pub is_close : Token → Bool
is_close k.Close = true
is_close other = false

-- what is before a closing parenthesis at the end
abbrev pub inside : List Token → Option (List Token)
inside [] = None
inside (t ∷ []) = if is_close t then Some [] else None
inside (t ∷ u ∷ ts) = option_map (λ us. t ∷ us) (inside (u ∷ ts))

-- what begins with `not` or a parenthesis, and else a test
abbrev pub deeper : Shape → (List Token → Option Expression) → List Token → Option Expression
deeper s part (k.Not ∷ ts) = option_map Not (part ts)
deeper s part (k.Open ∷ ts) = option_and_then (parted j.Or (parted j.And part)) (inside ts)
deeper s part ts = test_of s ts

-- a part, so many levels deep at most
abbrev pub part_of : Shape → ℕ → List Token → Option Expression
part_of s zero ts = test_of s ts
part_of s (suc levels) ts = deeper s (part_of s levels) ts

-- a piece of an alternative, and of an expression
abbrev pub piece_of : Joint → Shape → ℕ → List Token → Option Expression
piece_of j.And s levels = part_of s levels
piece_of j.Or s levels = parted j.And (part_of s levels)

-- an alternative, and an expression
abbrev pub parted_of : Joint → Shape → ℕ → List Token → Option Expression
parted_of joint s levels = parted joint (piece_of joint s levels)

-- A text is an expression of 4,096 bytes and 64 levels at most, in tokens.
unfoldable pub filter_of : Shape → List ℕ → Option Expression
filter_of s text = if nat_le (length text) 4096 then option_and_then (parted_of j.Or s 64) (tokens_of text) else None
