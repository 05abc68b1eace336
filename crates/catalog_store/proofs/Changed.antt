-- The channels of a change are those that fire.
use Rattle.std.proofs.Common.{◌≡◌, ◌≢◌, ℕ, ◌+◌, ◌<◌, Bool, true, false, ◌||◌, ◌&&◌, List, [], ◌∷◌, ◌++◌, refl, sym, ◌∙◌, ap, subst, map, arith, Contains}
use Rattle.std.specs.List.{AllByRecursion, IsDistinct}
use Rattle.std.proofs.lemmas.Bool.{false≢true, true≢false}
use Rattle.std.proofs.lemmas.List.Elements.{Contains-append_left, Contains-append_right}
use Rattle.cat_model.specs.Keys.{same_text}
use Rattle.cat_model.specs.declared.query.Chan.{Chan}
use Rattle.cat_model.specs.declared.query.Chan.TheVariants.{Nodes, Services, Checks, Sessions, Queries, Service, Vanished, Node, NodeChecks, NodeGone, Key, Prefix, Reaped}
use Rattle.cat_model.proofs.SameLemmas.{text_decides}
use Rattle.cat_model.proofs.TableLemmas.{All-weaker, All-append}
use Rattle.catalog_table.specs.Names.{is_among}
use Rattle.catalog_table.specs.declared.changed.Changed.{Changed}
use Rattle.catalog_store.specs.Firing.{Once, FiresJust}
use Rattle.catalog_store.specs.Registering.{has_some, one_if, all_chans, goes}
use Rattle.catalog_store.specs.declared.registrations.NodeChange.{NodeChange}

-- channels of smaller kinds are others
kind : Chan → ℕ
kind Nodes = 1
kind Services = 2
kind Checks = 3
kind Sessions = 9
kind Queries = 9
kind (Service name) = 0
kind Vanished = 4
kind (Node node) = 5
kind (NodeChecks node) = 6
kind NodeGone = 7
kind (Key key) = 9
kind (Prefix prefix) = 9
kind Reaped = 9

abbrev Below : ℕ → List Chan → Type 0
Below k = AllByRecursion (λ chan. kind chan < k)

below_names : (names : List (List ℕ)) → Below 1 (map (λ name. Service name) names)
unfolding kind
below_names [] = tt
below_names (n ∷ names) = (omega arith, below_names names)

below_more : (k : ℕ) (l : List Chan) (b : Bool) (chan : Chan) → kind chan ≡ k → Below k l → Below (k + 1) (l ++ one_if b chan)
below_more k l b chan is below = All-append (λ d. kind d < k + 1) l (one_if b chan) (All-weaker (λ d. kind d < k) (λ d. kind d < k + 1) (λ d h. omega (arith, h)) l below) (last b)
  where
    last : (b : Bool) → Below (k + 1) (one_if b chan)
    last true = (omega (arith, is), tt)
    last false = tt

others : (d chan : Chan) → kind d < kind chan → chan ≢ d
others d chan below e = let same : kind chan ≡ kind d = ap kind e in omega (arith, below, same)

once_more : (l : List Chan) (b : Bool) (chan : Chan) → Below (kind chan) l → Once l → Once (l ++ one_if b chan)
once_more [] true chan below once = (tt, tt)
once_more [] false chan below once = tt
once_more (d ∷ l) b chan below once = (All-append (λ x. x ≢ d) l (one_if b chan) once.0 (last b), once_more l b chan below.1 once.1)
  where
    last : (b : Bool) → AllByRecursion (λ x. x ≢ d) (one_if b chan)
    last true = (others d chan below.0, tt)
    last false = tt

abbrev named : Chan → List ℕ
named (Service name) = name
named other = []

once_names : (names : List (List ℕ)) → IsDistinct same_text names → Once (map (λ name. Service name) names)
unfolding IsDistinct
once_names [] d = tt
once_names (n ∷ names) d = (apart names d.0, once_names names d.1)
  where
    apart : (ms : List (List ℕ)) → AllByRecursion (λ m. same_text n m ≡ false) ms → AllByRecursion (λ chan. chan ≢ Service n) (map (λ name. Service name) ms)
    apart [] h = tt
    apart (m ∷ ms) h = (λ e. true≢false (sym ((text_decides n m).1 (sym (ap named e))) ∙ h.0), apart ms h.1)

among_contains : (names : List (List ℕ)) (name : List ℕ) → is_among names name ≡ true → Contains (map (λ n. Service n) names) (Service name)
among_contains [] name e = absurd (false≢true e)
among_contains (n ∷ names) name e = go (same_text name n) refl e (among_contains names name)
  where
    go : (b : Bool) → same_text name n ≡ b → (b || is_among names name) ≡ true → (is_among names name ≡ true → Contains (map (λ m. Service m) names) (Service name)) → Contains (Service n ∷ map (λ m. Service m) names) (Service name)
    go true is h rest = (0, omega arith, ap (λ m. Service m) (sym ((text_decides name n).0 is)))
    go false is h rest = Contains-append_right (Service n ∷ []) (map (λ m. Service m) names) (Service name) (rest h)

all_among : (p : List ℕ → Bool) (names : List (List ℕ)) → ((name : List ℕ) → is_among names name ≡ true → p name ≡ true) → AllByRecursion (λ name. p name ≡ true) names
all_among p [] h = tt
all_among p (n ∷ names) h = (h n (front (same_text n n) ((text_decides n n).1 refl)), all_among p names (λ name e. h name (behind (same_text name n) e)))
  where
    front : (b : Bool) → b ≡ true → (b || is_among names n) ≡ true
    front true e = refl
    front false e = absurd (false≢true e)

    behind : (b : Bool) {d : Bool} → d ≡ true → (b || d) ≡ true
    behind true e = refl
    behind false e = e

map_all : (fired : Chan → Bool) (names : List (List ℕ)) → AllByRecursion (λ name. fired (Service name) ≡ true) names → AllByRecursion (λ chan. fired chan ≡ true) (map (λ name. Service name) names)
map_all fired [] h = tt
map_all fired (n ∷ names) h = (h.0, map_all fired names h.1)

one_fires : (fired : Chan → Bool) (b : Bool) (chan : Chan) → fired chan ≡ b → AllByRecursion (λ x. fired x ≡ true) (one_if b chan)
one_fires fired true chan e = (e, tt)
one_fires fired false chan e = tt

one_stands : (b : Bool) (chan : Chan) → b ≡ true → Contains (one_if b chan) chan
one_stands true chan e = (0, omega arith, refl)
one_stands false chan e = absurd (false≢true e)

-- what a step fires is what changed
pub record FiresChanged (fired : Chan → Bool) (c : Changed) (node : List ℕ) (n : NodeChange) : Type 0 where
  pub nodes : fired Nodes ≡ c.nodes
  pub services : fired Services ≡ c.services
  pub checks : fired Checks ≡ c.checks
  pub names : (name : List ℕ) → fired (Service name) ≡ is_among c.names name
  pub vanished : fired Vanished ≡ has_some c.vanished
  pub hosts : (other : List ℕ) → fired (Node other) ≡ (same_text node other && n.rows)
  pub host_checks : (other : List ℕ) → fired (NodeChecks other) ≡ (same_text node other && n.checks)
  pub gone : fired NodeGone ≡ goes n
  pub sessions : fired Sessions ≡ false
  pub queries : fired Queries ≡ false
  pub keys : (key : List ℕ) → fired (Key key) ≡ false
  pub prefixes : (prefix : List ℕ) → fired (Prefix prefix) ≡ false
  pub reaped : fired Reaped ≡ false

module _ (fired : Chan → Bool) (c : Changed) (node : List ℕ) (n : NodeChange) (h : FiresChanged fired c node n) (distinct : IsDistinct same_text c.names) where
  abbrev all1 : List Chan
  all1 = map (λ name. Service name) c.names

  abbrev all2 : List Chan
  all2 = all1 ++ one_if c.nodes Nodes

  abbrev all3 : List Chan
  all3 = all2 ++ one_if c.services Services

  abbrev all4 : List Chan
  all4 = all3 ++ one_if c.checks Checks

  abbrev all5 : List Chan
  all5 = all4 ++ one_if (has_some c.vanished) Vanished

  abbrev all6 : List Chan
  all6 = all5 ++ one_if n.rows (Node node)

  abbrev all7 : List Chan
  all7 = all6 ++ one_if n.checks (NodeChecks node)

  below2 : Below 2 all2
  unfolding kind
  below2 = below_more 1 all1 c.nodes Nodes refl (below_names c.names)

  below3 : Below 3 all3
  unfolding kind
  below3 = below_more 2 all2 c.services Services refl below2

  below4 : Below 4 all4
  unfolding kind
  below4 = below_more 3 all3 c.checks Checks refl below3

  below5 : Below 5 all5
  unfolding kind
  below5 = below_more 4 all4 (has_some c.vanished) Vanished refl below4

  below6 : Below 6 all6
  unfolding kind
  below6 = below_more 5 all5 n.rows (Node node) refl below5

  below7 : Below 7 all7
  unfolding kind
  below7 = below_more 6 all6 n.checks (NodeChecks node) refl below6

  once5 : Once all5
  unfolding kind
  once5 = once_more all4 (has_some c.vanished) Vanished below4 (once_more all3 c.checks Checks below3 (once_more all2 c.services Services below2 (once_more all1 c.nodes Nodes (below_names c.names) (once_names c.names distinct))))

  once : Once (all_chans c node n)
  unfolding kind
  once = once_more all7 (goes n) NodeGone below7 (once_more all6 n.checks (NodeChecks node) below6 (once_more all5 n.rows (Node node) below5 once5))

  abbrev Fired : List Chan → Type 0
  Fired = AllByRecursion (λ chan. fired chan ≡ true)

  own_fires : (chan : Chan) (b : Bool) → fired chan ≡ (same_text node node && b) → fired chan ≡ b
  own_fires chan b e = e ∙ ap (λ t. t && b) ((text_decides node node).1 refl)

  just5 : Fired all5
  just5 =
      All-append (λ chan. fired chan ≡ true) all4 (one_if (has_some c.vanished) Vanished)
      (All-append (λ chan. fired chan ≡ true) all3 (one_if c.checks Checks)
      (All-append (λ chan. fired chan ≡ true) all2 (one_if c.services Services)
      (All-append (λ chan. fired chan ≡ true) all1 (one_if c.nodes Nodes)
      (map_all fired c.names (all_among (λ name. fired (Service name)) c.names (λ name e. h.names name ∙ e)))
      (one_fires fired c.nodes Nodes h.nodes))
      (one_fires fired c.services Services h.services))
      (one_fires fired c.checks Checks h.checks))
      (one_fires fired (has_some c.vanished) Vanished h.vanished)

  just : Fired (all_chans c node n)
  just =
      All-append (λ chan. fired chan ≡ true) all7 (one_if (goes n) NodeGone)
      (All-append (λ chan. fired chan ≡ true) all6 (one_if n.checks (NodeChecks node))
      (All-append (λ chan. fired chan ≡ true) all5 (one_if n.rows (Node node)) just5
      (one_fires fired n.rows (Node node) (own_fires (Node node) n.rows (h.hosts node))))
      (one_fires fired n.checks (NodeChecks node) (own_fires (NodeChecks node) n.checks (h.host_checks node))))
      (one_fires fired (goes n) NodeGone h.gone)

  quiet : (chan : Chan) → fired chan ≡ false → fired chan ≡ true → Contains (all_chans c node n) chan
  quiet chan is e = absurd (false≢true (sym is ∙ e))

  from6 : (chan : Chan) → Contains all6 chan → Contains (all_chans c node n) chan
  from6 chan e = Contains-append_left all7 (one_if (goes n) NodeGone) chan (Contains-append_left all6 (one_if n.checks (NodeChecks node)) chan e)

  from5 : (chan : Chan) → Contains all5 chan → Contains (all_chans c node n) chan
  from5 chan e = from6 chan (Contains-append_left all5 (one_if n.rows (Node node)) chan e)

  from3 : (chan : Chan) → Contains all3 chan → Contains (all_chans c node n) chan
  from3 chan e = from5 chan (Contains-append_left all4 (one_if (has_some c.vanished) Vanished) chan (Contains-append_left all3 (one_if c.checks Checks) chan e))

  from2 : (chan : Chan) → Contains all2 chan → Contains (all_chans c node n) chan
  from2 chan e = from3 chan (Contains-append_left all2 (one_if c.services Services) chan e)

  both : (a b : Bool) → (a && b) ≡ true → (a ≡ true) × (b ≡ true)
  both true true e = (refl, refl)
  both true false e = absurd (false≢true e)
  both false b e = absurd (false≢true e)

  every : (chan : Chan) → fired chan ≡ true → Contains (all_chans c node n) chan
  every Nodes e = from2 Nodes (Contains-append_right all1 (one_if c.nodes Nodes) Nodes (one_stands c.nodes Nodes (sym h.nodes ∙ e)))
  every Services e = from3 Services (Contains-append_right all2 (one_if c.services Services) Services (one_stands c.services Services (sym h.services ∙ e)))
  every Checks e = from5 Checks (Contains-append_left all4 (one_if (has_some c.vanished) Vanished) Checks (Contains-append_right all3 (one_if c.checks Checks) Checks (one_stands c.checks Checks (sym h.checks ∙ e))))
  every Sessions e = quiet Sessions h.sessions e
  every Queries e = quiet Queries h.queries e
  every (Service name) e = from2 (Service name) (Contains-append_left all1 (one_if c.nodes Nodes) (Service name) (among_contains c.names name (sym (h.names name) ∙ e)))
  every Vanished e = from5 Vanished (Contains-append_right all4 (one_if (has_some c.vanished) Vanished) Vanished (one_stands (has_some c.vanished) Vanished (sym h.vanished ∙ e)))
  every (Node other) e =
      let parts = both (same_text node other) n.rows (sym (h.hosts other) ∙ e) in
      subst (λ m. Contains (all_chans c node n) (Node m)) ((text_decides node other).0 parts.0)
      (from6 (Node node) (Contains-append_right all5 (one_if n.rows (Node node)) (Node node) (one_stands n.rows (Node node) parts.1)))
  every (NodeChecks other) e =
      let parts = both (same_text node other) n.checks (sym (h.host_checks other) ∙ e) in
      subst (λ m. Contains (all_chans c node n) (NodeChecks m)) ((text_decides node other).0 parts.0)
      (Contains-append_left all7 (one_if (goes n) NodeGone) (NodeChecks node) (Contains-append_right all6 (one_if n.checks (NodeChecks node)) (NodeChecks node) (one_stands n.checks (NodeChecks node) parts.1)))
  every NodeGone e = Contains-append_right all7 (one_if (goes n) NodeGone) NodeGone (one_stands (goes n) NodeGone (sym h.gone ∙ e))
  every (Key key) e = quiet (Key key) (h.keys key) e
  every (Prefix prefix) e = quiet (Prefix prefix) (h.prefixes prefix) e
  every Reaped e = quiet Reaped h.reaped e

  pub changed_just : FiresJust fired (all_chans c node n)
  changed_just = record { every = every; just = just; once = once }
