-- What the tables keep goes on standing for the log, whatever the command.
use Rattle.std.proofs.Common.{◌≡◌, ℕ, ◌+◌, ◌≤◌, Bool, true, false, not, cond, List, [], ◌∷◌, ◌++◌, length, refl, sym, ◌∙◌, ap, subst, reverse, max, arith}
use Rattle.std.proofs.lemmas.List.{reverse-append, length-reverse}
use Rattle.cat_model.specs.Catalog.{Catalog, same_catalog}
use Rattle.cat_model.specs.Machine.{apply, at_past}
use Rattle.std.proofs.lemmas.Bool.{true≢false}
use Rattle.cat_model.specs.Queries.{service_rows, node_rows}
use Rattle.cat_model.specs.Indexes.{has_name, has_node}
use Rattle.cat_model.specs.KvIndexes.{GivesIndexes, tombs_after, floor_after}
use Rattle.cat_model.specs.Channels.{fires}
use Rattle.cat_model.specs.Views.{Kept, StandsFor, kept_after, nothing_kept, NamePositions, NamesAfter, moved, past_fired, position_of, health_position}
use Rattle.cat_model.specs.declared.command.Command.{Command}
use Rattle.cat_model.specs.declared.query.Chan.{Chan}
use Rattle.cat_model.specs.declared.query.Chan.TheVariants.{Nodes, Services, Checks, Sessions, Queries, Service, Vanished, Node, NodeChecks, NodeGone}
use Rattle.cat_model.proofs.SameLemmas.{catalog_decides}
use Rattle.cat_model.proofs.Covering.{same_host}
use Rattle.cat_model.proofs.Reaching.{same_name}
use Rattle.cat_model.proofs.KvIndexesLaw.{gives_first, gives_more}
use Rattle.cat_model.proofs.ViewLaw.{fired_more, fired_within}

pub first_stands : StandsFor nothing_kept []
unfolding at_past past_fired
first_stands = record { rows = refl; keys = gives_first; nodes = refl; services = refl; checks = refl; sessions = refl; queries = refl; names = λ name h. refl; vanished = refl; hosts = λ node h. refl; host_checks = λ node h. refl; gone = refl }

-- the same over a past, with the last command first
record StandsPast (kept : Kept) (past : List Command) : Type 0 where
  rows : kept.rows ≡ at_past past
  keys : GivesIndexes past kept.tombs kept.floor
  nodes : kept.nodes ≡ past_fired Nodes past
  services : kept.services ≡ past_fired Services past
  checks : kept.checks ≡ past_fired Checks past
  sessions : kept.sessions ≡ past_fired Sessions past
  queries : kept.queries ≡ past_fired Queries past
  names : (name : List ℕ) → has_name name (at_past past) ≡ true → position_of name kept.names ≡ past_fired (Service name) past
  vanished : kept.vanished ≡ past_fired Vanished past
  hosts : (node : List ℕ) → has_node node (at_past past) ≡ true → position_of node kept.hosts ≡ past_fired (Node node) past
  host_checks : (node : List ℕ) → has_node node (at_past past) ≡ true → health_position node kept ≡ max (past_fired (Node node) past) (past_fired (NodeChecks node) past)
  gone : kept.gone ≡ past_fired NodeGone past

module _ (kept : Kept) (past : List Command) (c : Command) (stands : StandsPast kept past) where
  rows_more : (k : Catalog) → k ≡ at_past past → (apply (length past + 1) c k).0 ≡ at_past (c ∷ past)
  unfolding at_past
  rows_more k e = ap (λ l. (apply (length past + 1) c l).0) e

  moved_more : (chan : Chan) (old : ℕ) → old ≡ past_fired chan past → moved (length past + 1) (fires kept.rows c (apply (length past + 1) c kept.rows).0 chan) old ≡ past_fired chan (c ∷ past)
  moved_more chan old e = (λ j. cond (fires (stands.rows j) c (rows_more kept.rows stands.rows j) chan) (length past + 1) (e j)) ∙ sym (fired_more chan c past)

  keys_more : GivesIndexes (c ∷ past) (tombs_after (length past + 1) c kept.rows.kv (apply (length past + 1) c kept.rows).0.kv kept.tombs) (floor_after (length past + 1) c kept.floor)
  keys_more =
      subst (λ tombs. GivesIndexes (c ∷ past) tombs (floor_after (length past + 1) c kept.floor))
      (λ j. tombs_after (length past + 1) c (sym stands.rows j).kv (sym (rows_more kept.rows stands.rows) j).kv kept.tombs)
      (gives_more past c kept.tombs kept.floor stands.keys)

  -- a name that fires has the position; one that does not has its old one, since it had its rows before
  name_more : (name : List ℕ) → has_name name (at_past (c ∷ past)) ≡ true → cond (fires (at_past past) c (at_past (c ∷ past)) (Service name)) (length past + 1) (position_of name kept.names) ≡ past_fired (Service name) (c ∷ past)
  unfolding fires
  name_more name has = go (same_catalog (service_rows name (at_past past)) (service_rows name (at_past (c ∷ past)))) refl ∙ sym (fired_more (Service name) c past)
    where
      go : (b : Bool) → same_catalog (service_rows name (at_past past)) (service_rows name (at_past (c ∷ past))) ≡ b → cond (not b) (length past + 1) (position_of name kept.names) ≡ cond (not b) (length past + 1) (past_fired (Service name) past)
      go false e = refl
      go true e = stands.names name (same_name name (at_past past) (at_past (c ∷ past)) (ap (λ k. k.services) ((catalog_decides _ _).0 e)) ∙ has)

  named : (names : NamePositions) → NamesAfter (length past + 1) c kept names → (name : List ℕ) → has_name name (at_past (c ∷ past)) ≡ true → position_of name names.services ≡ past_fired (Service name) (c ∷ past)
  named names h name has =
      h.each name (ap (has_name name) (rows_more kept.rows stands.rows) ∙ has)
      ∙ (λ j. cond (fires (stands.rows j) c (rows_more kept.rows stands.rows j) (Service name)) (length past + 1) (position_of name kept.names))
      ∙ name_more name has

  -- a node whose row and services are as they were was there before
  stays_there : (node : List ℕ) → same_catalog (node_rows node (at_past past)) (node_rows node (at_past (c ∷ past))) ≡ true → has_node node (at_past past) ≡ has_node node (at_past (c ∷ past))
  stays_there node e = same_host node (at_past past) (at_past (c ∷ past)) (ap (λ k. k.nodes) ((catalog_decides (node_rows node (at_past past)) (node_rows node (at_past (c ∷ past)))).0 e))

  -- so a node that fires has the position, and one that does not its old one
  host_more : (node : List ℕ) → has_node node (at_past (c ∷ past)) ≡ true → cond (fires (at_past past) c (at_past (c ∷ past)) (Node node)) (length past + 1) (position_of node kept.hosts) ≡ past_fired (Node node) (c ∷ past)
  unfolding fires
  host_more node has = go (same_catalog (node_rows node (at_past past)) (node_rows node (at_past (c ∷ past)))) refl ∙ sym (fired_more (Node node) c past)
    where
      go : (b : Bool) → same_catalog (node_rows node (at_past past)) (node_rows node (at_past (c ∷ past))) ≡ b → cond (not b) (length past + 1) (position_of node kept.hosts) ≡ cond (not b) (length past + 1) (past_fired (Node node) past)
      go false e = refl
      go true e = stands.hosts node (stays_there node e ∙ has)

  hosted : (names : NamePositions) → NamesAfter (length past + 1) c kept names → (node : List ℕ) → has_node node (at_past (c ∷ past)) ≡ true → position_of node names.hosts ≡ past_fired (Node node) (c ∷ past)
  hosted names h node has =
      h.hosts node (ap (has_node node) (rows_more kept.rows stands.rows) ∙ has)
      ∙ (λ j. cond (fires (stands.rows j) c (rows_more kept.rows stands.rows j) (Node node)) (length past + 1) (position_of node kept.hosts))
      ∙ host_more node has

  -- a node that was there before
  checks_more : (node : List ℕ) → has_node node (at_past past) ≡ true → (d e : Bool)
      → max (cond d (length past + 1) (past_fired (Node node) past)) (cond e (length past + 1) (position_of node kept.host_checks))
      ≡ max (cond d (length past + 1) (past_fired (Node node) past)) (cond e (length past + 1) (past_fired (NodeChecks node) past))
  checks_more node was d e = go d e (fired_within (Node node) past) (fired_within (NodeChecks node) past) (ap (λ n. max n (position_of node kept.host_checks)) (sym (stands.hosts node was)) ∙ stands.host_checks node was)
    where
      go : (d e : Bool) → past_fired (Node node) past ≤ length past + 1 → past_fired (NodeChecks node) past ≤ length past + 1
          → max (past_fired (Node node) past) (position_of node kept.host_checks) ≡ max (past_fired (Node node) past) (past_fired (NodeChecks node) past)
          → max (cond d (length past + 1) (past_fired (Node node) past)) (cond e (length past + 1) (position_of node kept.host_checks))
          ≡ max (cond d (length past + 1) (past_fired (Node node) past)) (cond e (length past + 1) (past_fired (NodeChecks node) past))
      go true true m n same = refl
      go false true m n same = refl
      go false false m n same = same
      go true false m n same = omega (arith, m, n, same)

  -- a node that comes has the position as the last change of its row, and no later one of its checks
  comes : (node : List ℕ) → has_node node (at_past past) ≡ false → has_node node (at_past (c ∷ past)) ≡ true → past_fired (Node node) (c ∷ past) ≡ length past + 1
  unfolding fires
  comes node was has = fired_more (Node node) c past ∙ go (same_catalog (node_rows node (at_past past)) (node_rows node (at_past (c ∷ past)))) refl
    where
      go : (b : Bool) → same_catalog (node_rows node (at_past past)) (node_rows node (at_past (c ∷ past))) ≡ b → cond (not b) (length past + 1) (past_fired (Node node) past) ≡ length past + 1
      go false e = refl
      go true e = absurd (true≢false (sym has ∙ sym (stays_there node e) ∙ was))

  last_within : (chan : Chan) → past_fired chan (c ∷ past) ≤ length past + 1
  last_within chan = subst (λ n. n ≤ length past + 1) (sym (fired_more chan c past)) (go (fires (at_past past) c (at_past (c ∷ past)) chan) (fired_within chan past))
    where
      go : (b : Bool) → past_fired chan past ≤ length past + 1 → cond b (length past + 1) (past_fired chan past) ≤ length past + 1
      go true m = omega arith
      go false m = m

  checked : (names : NamePositions) → NamesAfter (length past + 1) c kept names → (node : List ℕ) → has_node node (at_past (c ∷ past)) ≡ true
      → max (position_of node names.hosts) (position_of node names.host_checks) ≡ max (past_fired (Node node) (c ∷ past)) (past_fired (NodeChecks node) (c ∷ past))
  checked names h node has = ap (λ n. max n (position_of node names.host_checks)) (hosted names h node has) ∙ go (has_node node (at_past past)) refl
    where
      go : (b : Bool) → has_node node (at_past past) ≡ b → max (past_fired (Node node) (c ∷ past)) (position_of node names.host_checks) ≡ max (past_fired (Node node) (c ∷ past)) (past_fired (NodeChecks node) (c ∷ past))
      go false was = omega (arith, comes node was has, h.few node, last_within (NodeChecks node))
      go true was =
          let own : position_of node names.host_checks ≡ cond (fires (at_past past) c (at_past (c ∷ past)) (NodeChecks node)) (length past + 1) (position_of node kept.host_checks) =
          h.checks node (ap (has_node node) (rows_more kept.rows stands.rows) ∙ has) (ap (has_node node) stands.rows ∙ was)
          ∙ (λ j. cond (fires (stands.rows j) c (rows_more kept.rows stands.rows j) (NodeChecks node)) (length past + 1) (position_of node kept.host_checks)) in
          (λ j. max (fired_more (Node node) c past j) (own j))
          ∙ checks_more node was (fires (at_past past) c (at_past (c ∷ past)) (Node node)) (fires (at_past past) c (at_past (c ∷ past)) (NodeChecks node))
          ∙ (λ j. max (sym (fired_more (Node node) c past) j) (sym (fired_more (NodeChecks node) c past) j))

  stands_past : (names : NamePositions) → NamesAfter (length past + 1) c kept names → StandsPast (kept_after (length past + 1) c names kept) (c ∷ past)
  unfolding kept_after
  stands_past names h = record {
    rows = rows_more kept.rows stands.rows;
    keys = keys_more;
    nodes = moved_more Nodes kept.nodes stands.nodes;
    services = moved_more Services kept.services stands.services;
    checks = moved_more Checks kept.checks stands.checks;
    sessions = moved_more Sessions kept.sessions stands.sessions;
    queries = moved_more Queries kept.queries stands.queries;
    names = named names h;
    vanished = moved_more Vanished kept.vanished stands.vanished;
    hosts = hosted names h;
    host_checks = checked names h;
    gone = moved_more NodeGone kept.gone stands.gone;
  }

to_past : (kept : Kept) (log : List Command) → StandsFor kept log → StandsPast kept (reverse log)
to_past kept log s = record { rows = s.rows; keys = s.keys; nodes = s.nodes; services = s.services; checks = s.checks; sessions = s.sessions; queries = s.queries; names = s.names; vanished = s.vanished; hosts = s.hosts; host_checks = s.host_checks; gone = s.gone }

from_past : (kept : Kept) (log : List Command) → StandsPast kept (reverse log) → StandsFor kept log
from_past kept log s = record { rows = s.rows; keys = s.keys; nodes = s.nodes; services = s.services; checks = s.checks; sessions = s.sessions; queries = s.queries; names = s.names; vanished = s.vanished; hosts = s.hosts; host_checks = s.host_checks; gone = s.gone }

-- the step of a view, of any command
pub view_step_law : (kept : Kept) (log : List Command) (c : Command) (names : NamePositions) → StandsFor kept log → NamesAfter (length log + 1) c kept names → StandsFor (kept_after (length log + 1) c names kept) (log ++ c ∷ [])
view_step_law kept log c names stands h =
    from_past (kept_after (length log + 1) c names kept) (log ++ c ∷ [])
    (subst (λ past. StandsPast (kept_after (length log + 1) c names kept) past) (sym (reverse-append log (c ∷ [])))
    (subst (λ n. StandsPast (kept_after (n + 1) c names kept) (c ∷ reverse log)) (length-reverse log)
    (stands_past kept (reverse log) c (to_past kept log stands) names (subst (λ n. NamesAfter (n + 1) c kept names) (sym (length-reverse log)) h))))
