-- Which channels a fired one reaches, as a test, and the list of those that a step fires.
use Rattle.std.specs.Prelude.{◌≡◌, ◌≢◌, ℕ, Bool, true, false, List, [], ◌∷◌, ◌++◌, Contains}
use Rattle.std.specs.List.{AllByRecursion, AllPairs, list_any}
use Rattle.cat_model.specs.Keys.{same_text, has_prefix}
use Rattle.cat_model.specs.Catalog.{Catalog}
use Rattle.cat_model.specs.Queries.{reads, answer}
use Rattle.cat_model.specs.Machine.{catalog_at}
use Rattle.cat_model.specs.Indexes.{touches}
use Rattle.cat_model.specs.Channels.{chans, fires}
use Rattle.cat_model.specs.declared.query.Query.{Query}
use Rattle.cat_model.specs.declared.command.Command.{Command}
use Rattle.cat_model.specs.declared.query.Chan.{Chan}
use Rattle.cat_model.specs.declared.query.Chan.TheVariants.{Nodes, Services, Checks, Sessions, Queries, Service, Vanished, Node, NodeChecks, NodeGone, Key, Prefix, Reaped}

abbrev pub is_nodes : Chan → Bool
is_nodes Nodes = true
is_nodes other = false

abbrev pub is_services : Chan → Bool
is_services Services = true
is_services other = false

abbrev pub is_checks : Chan → Bool
is_checks Checks = true
is_checks other = false

abbrev pub is_sessions : Chan → Bool
is_sessions Sessions = true
is_sessions other = false

abbrev pub is_queries : Chan → Bool
is_queries Queries = true
is_queries other = false

abbrev pub is_vanished : Chan → Bool
is_vanished Vanished = true
is_vanished other = false

abbrev pub is_reaped : Chan → Bool
is_reaped Reaped = true
is_reaped other = false

abbrev pub is_service : List ℕ → Chan → Bool
is_service name (Service other) = same_text name other
is_service name other = false

abbrev pub is_node : List ℕ → Chan → Bool
is_node node (Node other) = same_text node other
is_node node other = false

abbrev pub is_node_checks : List ℕ → Chan → Bool
is_node_checks node (NodeChecks other) = same_text node other
is_node_checks node other = false

abbrev pub is_node_gone : Chan → Bool
is_node_gone NodeGone = true
is_node_gone other = false

abbrev pub is_prefix : List ℕ → Chan → Bool
is_prefix prefix (Prefix other) = same_text prefix other
is_prefix prefix other = false

-- a key's channel reaches itself and the prefixes that the key begins with
abbrev pub is_key : List ℕ → Chan → Bool
is_key key (Key other) = same_text key other
is_key key (Prefix prefix) = has_prefix prefix key
is_key key other = false

-- whether a fired channel reaches a channel
unfoldable pub reaches : Chan → Chan → Bool
reaches Nodes chan = is_nodes chan
reaches Services chan = is_services chan
reaches Checks chan = is_checks chan
reaches Sessions chan = is_sessions chan
reaches Queries chan = is_queries chan
reaches (Service name) chan = is_service name chan
reaches Vanished chan = is_vanished chan
reaches (Node node) chan = is_node node chan
reaches (NodeChecks node) chan = is_node_checks node chan
reaches NodeGone chan = is_node_gone chan
reaches (Key key) chan = is_key key chan
reaches (Prefix prefix) chan = is_prefix prefix chan
reaches Reaped chan = is_reaped chan

-- some fired channel reaches one of these
unfoldable pub is_on : List Chan → List Chan → Bool
is_on fired hangs = list_any (λ h. list_any (λ f. reaches f h) fired) hangs

-- the list holds just the channels that the step fires, each once
pub record FiresJust (before : Catalog) (c : Command) (after : Catalog) (fired : List Chan) : Type 0 where
  pub whole : (chan : Chan) → fires before c after chan ≡ true → Contains fired chan
  pub just : AllByRecursion (λ chan. fires before c after chan ≡ true) fired
  pub once : AllPairs (λ x y. x ≢ y) fired

-- What a query reads says what it answers and on which channels it hangs.
abbrev pub ReadsLaw : Query → Catalog → Catalog → Type 0
ReadsLaw q before after = reads q before ≡ reads q after → (answer q before ≡ answer q after) × (chans q before ≡ chans q after)

-- The covering law over the list of what a step fires.
abbrev pub HitLaw : Query → List Command → Command → List Chan → Type 0
HitLaw q log c fired =
    FiresJust (catalog_at log) c (catalog_at (log ++ c ∷ [])) fired
    → touches q (catalog_at log) c (catalog_at (log ++ c ∷ [])) ≡ true
    → is_on fired (chans q (catalog_at log)) ≡ true
