-- What an expression says of an element, by the element's JSON object.
use Rattle.std.specs.Prelude.{ℕ, Bool, true, false, not, ◌&&◌, ◌||◌, nat_eq, if◌then◌else◌, List, [], ◌∷◌, Option, None, Some, option_and_then, bytes_eq}
use Rattle.serde_json.specs.Data.{unsigned, Data, null, boolean, number, string, array, object, Items, no_items, item, Members, no_members, member}
use Rattle.cat_model.specs.Keys.{same_text}
use Rattle.cat_model.specs.Same.{same_bool}
use Rattle.filter_expr.specs.declared.expression.Literal.{Literal}
use Rattle.filter_expr.specs.declared.expression.Literal.TheVariants as l
use Rattle.filter_expr.specs.declared.expression.Test.{Test}
use Rattle.filter_expr.specs.declared.expression.Test.TheVariants.{Equals, Has, IsEmpty}
use Rattle.filter_expr.specs.Expressions.{Expression, Is, Not, And, Or}
use Rattle.filter_expr.specs.Selectors.{path_of}

-- ---- members, by the names that lead to them

abbrev pub named : List ℕ → Members → Option Data
named name no_members = None
named name (member k d ms) = if bytes_eq name k then Some d else named name ms

-- what the names lead to, unless that is an object
abbrev pub member_at : List (List ℕ) → Data → Option Data
member_at [] (object ms) = None
member_at [] null = Some null
member_at [] (boolean b) = Some (boolean b)
member_at [] (number n) = Some (number n)
member_at [] (string s) = Some (string s)
member_at [] (array ds) = Some (array ds)
member_at (name ∷ names) (object ms) = option_and_then (member_at names) (named name ms)
member_at (name ∷ names) null = None
member_at (name ∷ names) (boolean b) = None
member_at (name ∷ names) (number n) = None
member_at (name ∷ names) (string s) = None
member_at (name ∷ names) (array ds) = None

-- ---- what is asked of a member; of one that is not there, or of another sort, nothing holds

abbrev pub is_value : Literal → Option Data → Bool
is_value (l.Text t) (Some (string s)) = same_text t s
is_value (l.Number n) (Some (number (unsigned m))) = nat_eq n m
is_value (l.Truth b) (Some (boolean c)) = same_bool b c
is_value literal other = false

abbrev pub is_text : List ℕ → Data → Bool
is_text t (string s) = same_text t s
is_text t other = false

abbrev pub some_item : List ℕ → Items → Bool
some_item t no_items = false
some_item t (item d ds) = is_text t d || some_item t ds

abbrev pub has_text : List ℕ → Option Data → Bool
has_text t (Some (array ds)) = some_item t ds
has_text t other = false

abbrev pub is_empty : Option Data → Bool
is_empty (Some (string [])) = true
is_empty (Some (array no_items)) = true
is_empty other = false

abbrev pub meets : Test → Data → Bool
meets (Equals selector literal) x = is_value literal (member_at (path_of selector) x)
meets (Has selector text) x = has_text text (member_at (path_of selector) x)
meets (IsEmpty selector) x = is_empty (member_at (path_of selector) x)

-- ---- whether an element is kept

abbrev pub keeps : Expression → Data → Bool
keeps (Is test) x = meets test x
keeps (Not a) x = not (keeps a x)
keeps (And a b) x = keeps a x && keeps b x
keeps (Or a b) x = keeps a x || keeps b x
