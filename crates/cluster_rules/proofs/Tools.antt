-- Lists by server, lists of which something holds, and what tests tell.
use Rattle.std.proofs.Common.{◌≡◌, ◌≢◌, ℕ, zero, suc, ◌<◌, ◌≤◌, inl, inr, ◌⊎◌, Bool, true, false, not, List, [], ◌∷◌, ◌++◌, length, get_or, set, refl, sym, ◌∙◌, ap, subst, arith}
use Rattle.std.specs.Prelude.{◌==◌, nat_lt, nat_le, ◌&&◌, ◌||◌}
use Rattle.std.specs.List.{AllByRecursion as Each}
use Rattle.std.proofs.lemmas.Bool.Decides.{nat_tests}
use Rattle.std.proofs.lemmas.List.{length-set}
use Rattle.raft_model.specs.Node.{Node, set_server}
use Rattle.raft_model.specs.World.{World, IsServer}
use Rattle.raft_model.proofs.Tests.{at_bool}
use Rattle.cluster_rules.specs.Cluster.{item_of, no_node, node_of}
use Rattle.cluster_rules.specs.Sound.{IsAmong}

pub eq_tells_not : (a b : ℕ) → (a == b) ≡ false → a ≢ b
eq_tells_not a b e = grind (arith, nat_tests)

pub eq_self : (n : ℕ) → (n == n) ≡ true
eq_self n = grind (arith, nat_tests)

pub le_tells_not : (a b : ℕ) → nat_le a b ≡ false → b < a
le_tells_not a b e = grind (arith, nat_tests)

pub not_tells : (b : Bool) → not b ≡ false → b ≡ true
not_tells true e = refl
not_tells false e = absurd (cc e)

pub not_tells_not : (b : Bool) → not b ≡ true → b ≡ false
not_tells_not false e = refl
not_tells_not true e = absurd (cc e)

pub both : (a b : Bool) → (a && b) ≡ true → (a ≡ true) × (b ≡ true)
both true b e = (refl, e)
both false b e = absurd (cc e)

pub neither : (a b : Bool) → (a || b) ≡ false → (a ≡ false) × (b ≡ false)
neither false b e = (refl, e)
neither true b e = absurd (cc e)

pub one_of : (a b : Bool) → (a || b) ≡ true → (a ≡ true) ⊎ (b ≡ true)
one_of true b e = inl refl
one_of false b e = inr e

-- an item of a list of which one is replaced
pub at_set : {A : Type 0} (P : A → Type 0) (xs : List A) (i : ℕ) (x : A) (j : ℕ) (d : A) → (j ≡ i → P x) → P (get_or xs j d) → P (get_or (set xs i x) j d)
at_set P [] i x j d f y = y
at_set P (a ∷ xs) zero x zero d f y = f refl
at_set P (a ∷ xs) zero x (suc j) d f y = y
at_set P (a ∷ xs) (suc i) x zero d f y = y
at_set P (a ∷ xs) (suc i) x (suc j) d f y = at_set P xs i x j d (λ e. f (ap suc e)) y

pub at_item : {A : Type 0} (P : A → Type 0) (d : A) (xs : List A) (i : ℕ) (x : A) (j : ℕ) → (j ≡ i → P x) → P (item_of d xs j) → P (item_of d (set_server xs i x) j)
at_item P d xs zero x j f y = y
at_item P d xs (suc i) x zero f y = y
at_item P d xs (suc i) x (suc j) f y = at_set P xs i x j d (λ e. f (ap suc e)) y

pub set_same : {A : Type 0} (xs : List A) (i : ℕ) (x d : A) → i < length xs → get_or (set xs i x) i d ≡ x
set_same [] i x d l = absurd (omega arith)
set_same (a ∷ xs) zero x d l = refl
set_same (a ∷ xs) (suc i) x d l = set_same xs i x d (omega arith)

pub set_other : {A : Type 0} (xs : List A) (i j : ℕ) (x d : A) → j ≢ i → get_or (set xs i x) j d ≡ get_or xs j d
set_other [] i j x d n = refl
set_other (a ∷ xs) zero zero x d n = absurd (n refl)
set_other (a ∷ xs) zero (suc j) x d n = refl
set_other (a ∷ xs) (suc i) zero x d n = refl
set_other (a ∷ xs) (suc i) (suc j) x d n = set_other xs i j x d (λ e. n (ap suc e))

pub item_same : {A : Type 0} (d : A) (xs : List A) (i : ℕ) (x : A) → 0 < i → i ≤ length xs → item_of d (set_server xs i x) i ≡ x
item_same d xs zero x p l = absurd (omega arith)
item_same d xs (suc i) x p l = set_same xs i x d (omega arith)

pub item_other : {A : Type 0} (d : A) (xs : List A) (i j : ℕ) (x : A) → j ≢ i → item_of d (set_server xs i x) j ≡ item_of d xs j
item_other d xs zero j x n = refl
item_other d xs (suc i) zero x n = refl
item_other d xs (suc i) (suc j) x n = set_other xs i j x d (λ e. n (ap suc e))

pub length_set_server : {A : Type 0} (xs : List A) (i : ℕ) (x : A) → length (set_server xs i x) ≡ length xs
length_set_server xs zero x = refl
length_set_server xs (suc i) x = length-set xs i x

pub get_default : {A : Type 0} (xs : List A) (i : ℕ) (d e : A) → i < length xs → get_or xs i d ≡ get_or xs i e
get_default [] i d e l = absurd (omega arith)
get_default (x ∷ xs) zero d e l = refl
get_default (x ∷ xs) (suc i) d e l = get_default xs i d e (omega arith)

pub get_past : {A : Type 0} (xs : List A) (i : ℕ) (d : A) → length xs ≤ i → get_or xs i d ≡ d
get_past [] i d l = refl
get_past (x ∷ xs) zero d l = absurd (omega arith)
get_past (x ∷ xs) (suc i) d l = get_past xs i d (omega arith)

-- a server of the world
pub is_node : (w : World) (i : ℕ) (n : Node) → IsServer w i n → node_of w i ≡ n
is_node w zero n at = absurd at
is_node w (suc i) n (l, e) = get_default w.nodes i no_node n l ∙ e

pub is_place : (w : World) (i : ℕ) (n : Node) → IsServer w i n → (0 < i) × (i ≤ length w.nodes)
is_place w zero n at = absurd at
is_place w (suc i) n (l, e) = (omega arith, omega arith)

-- a node is no server's, or it is one of the world
pub there_or_none : (w : World) (i : ℕ) → (node_of w i ≡ no_node) ⊎ IsServer w i (node_of w i)
there_or_none w zero = inl refl
there_or_none w (suc i) = at_bool (λ b. nat_lt i (length w.nodes) ≡ b → (node_of w (suc i) ≡ no_node) ⊎ IsServer w (suc i) (node_of w (suc i))) (nat_lt i (length w.nodes))
    (λ _ e. inr (lt i (length w.nodes) e, get_default w.nodes i (node_of w (suc i)) no_node (lt i (length w.nodes) e)))
    (λ _ e. inl (get_past w.nodes i no_node (ge i (length w.nodes) e))) refl
  where
    lt : (a b : ℕ) → nat_lt a b ≡ true → a < b
    lt a b e = grind (arith, nat_tests)

    ge : (a b : ℕ) → nat_lt a b ≡ false → b ≤ a
    ge a b e = grind (arith, nat_tests)

-- Lists.
pub each_map : {A : Type 0} (P Q : A → Type 0) → ((x : A) → P x → Q x) → (xs : List A) → Each P xs → Each Q xs
each_map P Q f [] a = a
each_map P Q f (x ∷ xs) a = (f x a.0, each_map P Q f xs a.1)

pub each_append : {A : Type 0} (P : A → Type 0) (xs ys : List A) → Each P xs → Each P ys → Each P (xs ++ ys)
each_append P [] ys a b = b
each_append P (x ∷ xs) ys a b = (a.0, each_append P xs ys a.1 b)

pub each_but : {A : Type 0} (P : A → Type 0) (xs : List A) (y : A) (ys : List A) → Each P (xs ++ y ∷ ys) → Each P (xs ++ ys)
each_but P [] y ys a = a.1
each_but P (x ∷ xs) y ys a = (a.0, each_but P xs y ys a.1)

pub each_among : {A : Type 0} (P : A → Type 0) (xs : List A) (x : A) → Each P xs → IsAmong x xs → P x
each_among P [] x a m = absurd m
each_among P (y ∷ ys) x a (inl e) = subst P (sym e) a.0
each_among P (y ∷ ys) x a (inr m) = each_among P ys x a.1 m

pub all_among : {A : Type 0} (xs : List A) → Each (λ (x : A). IsAmong x xs) xs
all_among {A = A} xs = go xs (λ x m. m)
  where
    go : (ys : List A) → ((x : A) → IsAmong x ys → IsAmong x xs) → Each (λ (x : A). IsAmong x xs) ys
    go [] f = tt
    go (y ∷ ys) f = (f y (inl refl), go ys (λ x m. f x (inr m)))

-- an item in the midst has what all have
pub each_in : {A : Type 0} (P : A → Type 0) (before after : List A) (x : A) (xs : List A) → xs ≡ before ++ x ∷ after → Each P xs → P x
each_in {A = A} P before after x xs e a = go before (subst (Each P) e a)
  where
    go : (before : List A) → Each P (before ++ x ∷ after) → P x
    go [] y = y.0
    go (b ∷ before) y = go before y.1
