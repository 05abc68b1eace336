-- What the tables keep gives the index of every query.
use Rattle.std.proofs.Common.{◌≡◌, ℕ, ◌+◌, ◌≤◌, Bool, true, false, not, cond, ◌&&◌, ◌||◌, List, [], ◌∷◌, length, refl, sym, ◌∙◌, ap, reverse, filter, max, arith, Option}
use Rattle.std.specs.List.{list_any}
use Rattle.std.proofs.lemmas.Bool.{false≢true, true≢false}
use Rattle.cat_model.specs.Keys.{same_text}
use Rattle.cat_model.specs.Catalog.{Catalog, empty_catalog, same_catalog}
use Rattle.std.specs.Cmp.Lexicographic.{pointwise}
use Rattle.cat_model.specs.Same.{same_node, same_service, same_check}
use Rattle.cat_model.specs.Queries.{reads, answer, service_rows, instance_rows, node_rows, checks_of}
use Rattle.cat_model.specs.Machine.{at_past}
use Rattle.cat_model.specs.Indexes.{touches, past_index, has_name, some_vanishes, has_node, some_node_goes}
use Rattle.cat_model.specs.KvIndexes.{key_index, prefix_index}
use Rattle.cat_model.specs.Channels.{chans, fires}
use Rattle.cat_model.specs.Views.{Kept, StandsFor, ViewLaw, kept_index, name_index, host_index, health_position, position_of, past_fired}
use Rattle.cat_model.specs.declared.row.Status.{Status}
use Rattle.cat_model.specs.declared.query.Query.{Query}
use Rattle.cat_model.specs.declared.query.Query.TheVariants as q
use Rattle.cat_model.specs.declared.command.Command.{Command}
use Rattle.cat_model.specs.declared.query.Chan.{Chan}
use Rattle.cat_model.specs.declared.query.Chan.TheVariants.{Nodes, Services, Checks, Sessions, Queries, Service, Vanished, Node, NodeChecks, NodeGone}
use Rattle.cat_model.proofs.SameLemmas.{catalog_decides, text_decides}
use Rattle.cat_model.proofs.NodesStand.{NodesStand, nodes_stand, without_any, no_rows, no_checks}
use Rattle.cat_model.proofs.Covering.{same_host}
use Rattle.cat_model.proofs.Reaching.{same_name}

-- 1. The last position that fired a channel.
pub fired_more : (chan : Chan) (c : Command) (past : List Command) → past_fired chan (c ∷ past) ≡ cond (fires (at_past past) c (at_past (c ∷ past)) chan) (length past + 1) (past_fired chan past)
unfolding past_fired
fired_more chan c past = refl

pub fired_within : (chan : Chan) (past : List Command) → past_fired chan past ≤ length past + 1
unfolding past_fired
fired_within chan [] = omega arith
fired_within chan (c ∷ past) = go (fires (at_past past) c (at_past (c ∷ past)) chan) (fired_within chan past)
  where
    go : (b : Bool) → past_fired chan past ≤ length past + 1 → cond b (length past + 1) (past_fired chan past) ≤ length (c ∷ past) + 1
    go true h = omega arith
    go false h = omega (arith, h)

-- a query that is touched just where a channel fires
same_last : (q : Query) (chan : Chan) → ((before : Catalog) (c : Command) (after : Catalog) → touches q before c after ≡ fires before c after chan) → (past : List Command) → past_index q past ≡ past_fired chan past
unfolding past_index past_fired
same_last q chan same [] = refl
same_last q chan same (c ∷ past) = λ i. cond (same (at_past past) c (at_past (c ∷ past)) i) (length past + 1) (same_last q chan same past i)

-- and one that is touched where one of two fires
both_last : (q : Query) (x y : Chan) → ((before : Catalog) (c : Command) (after : Catalog) → touches q before c after ≡ (fires before c after x || fires before c after y)) → (past : List Command) → past_index q past ≡ max (past_fired x past) (past_fired y past)
unfolding past_index past_fired
both_last q x y same [] = refl
both_last q x y same (c ∷ past) = (λ i. cond (same (at_past past) c (at_past (c ∷ past)) i) (length past + 1) (both_last q x y same past i)) ∙ go (fires (at_past past) c (at_past (c ∷ past)) x) (fires (at_past past) c (at_past (c ∷ past)) y) (fired_within x past) (fired_within y past)
  where
    go : (a b : Bool) → past_fired x past ≤ length past + 1 → past_fired y past ≤ length past + 1
        → cond (a || b) (length past + 1) (max (past_fired x past) (past_fired y past)) ≡ max (cond a (length past + 1) (past_fired x past)) (cond b (length past + 1) (past_fired y past))
    go true true h g = omega arith
    go true false h g = omega (arith, g)
    go false true h g = omega (arith, h)
    go false false h g = refl

-- 2. Queries of whole tables.
first_only : (a r v : Bool) → (a || (r && false) || (v && false)) ≡ a
first_only true r v = refl
first_only false true true = refl
first_only false true false = refl
first_only false false true = refl
first_only false false false = refl

five : (a : Bool) → not (a && true && true && true && true && true) ≡ not a
five true = refl
five false = refl

four : (a : Bool) → not (a && true && true && true && true) ≡ not a
four true = refl
four false = refl

one : (a : Bool) → not (a && true) ≡ not a
one true = refl
one false = refl

middle_two : (a b : Bool) → not (a && b && true && true && true) ≡ (not b || not a)
middle_two true true = refl
middle_two true false = refl
middle_two false true = refl
middle_two false false = refl

nodes_touched : (before : Catalog) (c : Command) (after : Catalog) → touches q.Nodes before c after ≡ fires before c after Nodes
unfolding touches reads same_catalog fires
nodes_touched before c after = first_only _ _ _ ∙ five _

services_touched : (before : Catalog) (c : Command) (after : Catalog) → touches q.Services before c after ≡ fires before c after Services
unfolding touches reads same_catalog fires
services_touched before c after = first_only _ _ _ ∙ four _

checks_touched : (name : List ℕ) (before : Catalog) (c : Command) (after : Catalog) → touches (q.HealthChecks name) before c after ≡ (fires before c after Checks || fires before c after Services)
unfolding touches reads same_catalog fires
checks_touched name before c after = first_only _ _ _ ∙ middle_two _ _

sessions_touched : (before : Catalog) (c : Command) (after : Catalog) → touches q.Sessions before c after ≡ fires before c after Sessions
unfolding touches reads same_catalog fires
sessions_touched before c after = first_only _ _ _ ∙ one _

queries_touched : (before : Catalog) (c : Command) (after : Catalog) → touches q.Queries before c after ≡ fires before c after Queries
unfolding touches reads same_catalog fires
queries_touched before c after = first_only _ _ _

state_touched : (state : Option Status) (before : Catalog) (c : Command) (after : Catalog) → touches (q.HealthState state) before c after ≡ (fires before c after Checks || fires before c after Services)
unfolding touches reads same_catalog fires
state_touched state before c after = first_only _ _ _ ∙ middle_two _ _

session_touched : (id : ℕ) (before : Catalog) (c : Command) (after : Catalog) → touches (q.SessionInfo id) before c after ≡ fires before c after Sessions
unfolding touches reads same_catalog fires
session_touched id before c after = first_only _ _ _ ∙ one _

sessions_of_touched : (node : List ℕ) (before : Catalog) (c : Command) (after : Catalog) → touches (q.SessionsOf node) before c after ≡ fires before c after Sessions
unfolding touches reads same_catalog fires
sessions_of_touched node before c after = first_only _ _ _ ∙ one _

query_touched : (id : ℕ) (before : Catalog) (c : Command) (after : Catalog) → touches (q.QueryInfo id) before c after ≡ fires before c after Queries
unfolding touches reads same_catalog fires
query_touched id before c after = first_only _ _ _

keys_touched : (prefix separator : List ℕ) (before : Catalog) (c : Command) (after : Catalog) → touches (q.Keys prefix separator) before c after ≡ touches (q.Prefix prefix) before c after
unfolding touches reads
keys_touched prefix separator before c after = refl

-- queries that are touched alike have one index
alike_index : (x y : Query) → ((before : Catalog) (c : Command) (after : Catalog) → touches x before c after ≡ touches y before c after) → (past : List Command) → past_index x past ≡ past_index y past
unfolding past_index
alike_index x y same [] = refl
alike_index x y same (c ∷ past) = λ i. cond (same (at_past past) c (at_past (c ∷ past)) i) (length past + 1) (alike_index x y same past i)

-- a listing of names has the index of its prefix
pub keys_index : (prefix separator : List ℕ) (past : List Command) → past_index (q.Keys prefix separator) past ≡ past_index (q.Prefix prefix) past
keys_index prefix separator = alike_index (q.Keys prefix separator) (q.Prefix prefix) (keys_touched prefix separator)

-- 3. Queries of a service's name.
none_left : {A : Type 0} (xs : List A) → filter (λ x. false) xs ≡ []
none_left [] = refl
none_left (x ∷ xs) = none_left xs

-- a name without rows reads nothing
reads_nothing : (name : List ℕ) (k : Catalog) → has_name name k ≡ false → service_rows name k ≡ empty_catalog
reads_nothing name k h =
    ap (λ l. instance_rows l k) (without_any (λ s. same_text s.name name) k.services h)
    ∙ (λ i. record empty_catalog { nodes = none_left k.nodes i; checks = none_left k.checks i })

-- of rows of which some is of the name, some is of none that stays, where the name does not stay
some_leaves : {R : Type 0} (of : R → List ℕ) (stays : List ℕ → Bool) (name : List ℕ) → stays name ≡ false → (rows : List R) → list_any (λ r. same_text (of r) name) rows ≡ true → list_any (λ r. not (stays (of r))) rows ≡ true
some_leaves of stays name gone [] h = absurd (false≢true h)
some_leaves of stays name gone (r ∷ rows) h = go (same_text (of r) name) refl h (λ e. some_leaves of stays name gone rows e)
  where
    behind : (b : Bool) → list_any (λ r. not (stays (of r))) rows ≡ true → (b || list_any (λ r. not (stays (of r))) rows) ≡ true
    behind true e = refl
    behind false e = e

    go : (b : Bool) → same_text (of r) name ≡ b → (b || list_any (λ r. same_text (of r) name) rows) ≡ true → (list_any (λ r. same_text (of r) name) rows ≡ true → list_any (λ r. not (stays (of r))) rows ≡ true)
        → (not (stays (of r)) || list_any (λ r. not (stays (of r))) rows) ≡ true
    go true same e rest = ap (λ b. not b || list_any (λ r. not (stays (of r))) rows) (ap stays ((text_decides (of r) name).0 same) ∙ gone)
    go false same e rest = behind (not (stays (of r))) (rest e)

-- a name that has rows and then none vanishes
vanishes : (name : List ℕ) (before after : Catalog) → has_name name before ≡ true → has_name name after ≡ false → some_vanishes before after ≡ true
unfolding some_vanishes
vanishes name before after was gone = some_leaves (λ s. s.name) (λ n. has_name n after) name gone before.services was

abbrev name_touch : List ℕ → Catalog → Catalog → Bool
name_touch name before after = not (same_catalog (service_rows name before) (service_rows name after)) || (some_vanishes before after && not (has_name name after))

no_reap : (a r v : Bool) → (a || (r && false) || v) ≡ (a || v)
no_reap true r v = refl
no_reap false true v = refl
no_reap false false v = refl

service_touched : (name : List ℕ) (tags : List (List ℕ)) (before : Catalog) (c : Command) (after : Catalog) → touches (q.Service name tags) before c after ≡ name_touch name before after
unfolding touches reads
service_touched name tags before c after = no_reap (not (same_catalog (service_rows name before) (service_rows name after))) _ (some_vanishes before after && not (has_name name after))

health_touched : (name : List ℕ) (tags : List (List ℕ)) (passing : Bool) (before : Catalog) (c : Command) (after : Catalog) → touches (q.HealthService name tags passing) before c after ≡ name_touch name before after
unfolding touches reads
health_touched name tags passing before c after = no_reap (not (same_catalog (service_rows name before) (service_rows name after))) _ (some_vanishes before after && not (has_name name after))

-- the index of a name: the last change of its reads where it has rows, and else the last vanish of any name
module _ (name : List ℕ) (q : Query) (touched : (before : Catalog) (c : Command) (after : Catalog) → touches q before c after ≡ name_touch name before after) where
  pub name_last : (past : List Command) → past_index q past ≡ cond (has_name name (at_past past)) (past_fired (Service name) past) (past_fired Vanished past)
  unfolding past_index past_fired fires at_past
  name_last [] = refl
  name_last (c ∷ past) = ap (λ b. cond b (length past + 1) (past_index q past)) (touched before c after) ∙ go (same_catalog (service_rows name before) (service_rows name after)) refl (some_vanishes before after) refl (has_name name after) refl (name_last past)
    where
      before : Catalog
      before = at_past past

      after : Catalog
      after = at_past (c ∷ past)

      same_has : same_catalog (service_rows name before) (service_rows name after) ≡ true → has_name name before ≡ has_name name after
      same_has e = same_name name before after (ap (λ k. k.services) ((catalog_decides _ _).0 e))

      -- reads that differ where the name has none after it: it had some
      had : same_catalog (service_rows name before) (service_rows name after) ≡ false → has_name name after ≡ false → (b : Bool) → has_name name before ≡ b → b ≡ true
      had differ gone true e = refl
      had differ gone false e = absurd (true≢false (sym ((catalog_decides _ _).1 (reads_nothing name before e ∙ sym (reads_nothing name after gone))) ∙ differ))

      go : (s : Bool) → same_catalog (service_rows name before) (service_rows name after) ≡ s → (v : Bool) → some_vanishes before after ≡ v → (h : Bool) → has_name name after ≡ h
          → past_index q past ≡ cond (has_name name before) (past_fired (Service name) past) (past_fired Vanished past)
          → cond (not s || (v && not h)) (length past + 1) (past_index q past) ≡ cond h (cond (not s) (length past + 1) (past_fired (Service name) past)) (cond v (length past + 1) (past_fired Vanished past))
      go false s v e true h earlier = refl
      go false s true e false h earlier = refl
      go false s false e false h earlier = absurd (true≢false (sym (vanishes name before after (had s h (has_name name before) refl) h) ∙ e))
      go true s true e true h earlier = earlier ∙ ap (λ b. cond b (past_fired (Service name) past) (past_fired Vanished past)) (same_has s ∙ h)
      go true s false e true h earlier = earlier ∙ ap (λ b. cond b (past_fired (Service name) past) (past_fired Vanished past)) (same_has s ∙ h)
      go true s true e false h earlier = refl
      go true s false e false h earlier = earlier ∙ ap (λ b. cond b (past_fired (Service name) past) (past_fired Vanished past)) (same_has s ∙ h)

-- 4. Queries of a node.
-- a node that is there and then is not goes
node_goes : (node : List ℕ) (before after : Catalog) → has_node node before ≡ true → has_node node after ≡ false → some_node_goes before after ≡ true
unfolding some_node_goes
node_goes node before after was gone = some_leaves (λ r. r.node) (λ n. has_node n after) node gone before.nodes was

-- it was not there, where it is not after a step in which no node goes
was_absent : (node : List ℕ) (before after : Catalog) → has_node node after ≡ false → some_node_goes before after ≡ false → (b : Bool) → has_node node before ≡ b → b ≡ false
was_absent node before after gone stay false e = refl
was_absent node before after gone stay true e = absurd (true≢false (sym (node_goes node before after e gone) ∙ stay))

abbrev rows_differ : List ℕ → Catalog → Catalog → Bool
rows_differ node before after = not (same_catalog (node_rows node before) (node_rows node after))

abbrev checks_differ : List ℕ → Catalog → Catalog → Bool
checks_differ node before after = not (pointwise same_check (checks_of node before) (checks_of node after))

either_two : (a b c : Bool) → not (a && b && c && true && true && true) ≡ (not (a && b && true && true && true && true) || not c)
either_two true true true = refl
either_two true true false = refl
either_two true false c = refl
either_two false b c = refl

-- what touches a query of a node: a node goes while it is not there, or what the query reads differs
no_other : (g d r v : Bool) → (g || d || (r && false) || (v && false)) ≡ (g || d)
no_other true d r v = first_only true r v
no_other false d r v = first_only d r v

node_touched : (node : List ℕ) (before : Catalog) (c : Command) (after : Catalog) → touches (q.NodeServices node) before c after ≡ ((not (has_node node after) && some_node_goes before after) || rows_differ node before after)
unfolding touches reads
node_touched node before c after = no_other (not (has_node node after) && some_node_goes before after) (rows_differ node before after) _ (some_vanishes before after)

health_node_touched : (node : List ℕ) (before : Catalog) (c : Command) (after : Catalog) → touches (q.HealthNode node) before c after ≡ ((not (has_node node after) && some_node_goes before after) || (rows_differ node before after || checks_differ node before after))
unfolding touches reads same_catalog
health_node_touched node before c after =
    no_other (not (has_node node after) && some_node_goes before after) _ _ (some_vanishes before after)
    ∙ ap (λ d. (not (has_node node after) && some_node_goes before after) || d)
    (either_two (pointwise same_node (node_rows node before).nodes (node_rows node after).nodes) (pointwise same_service (node_rows node before).services (node_rows node after).services) (pointwise same_check (checks_of node before) (checks_of node after)))

-- the rows of a node, which are none before and after a step where it is not there and no node goes
module _ (node : List ℕ) (before after : Catalog) (sb : NodesStand before) (sa : NodesStand after) where
  same_node_there : rows_differ node before after ≡ false → has_node node before ≡ has_node node after
  same_node_there e = same_host node before after (ap (λ k. k.nodes) ((catalog_decides _ _).0 (equal _ e)))
    where
      equal : (b : Bool) → not b ≡ false → b ≡ true
      equal true e = refl
      equal false e = absurd (true≢false e)

  no_rows_differ : has_node node after ≡ false → some_node_goes before after ≡ false → rows_differ node before after ≡ false
  no_rows_differ gone stay = ap not ((catalog_decides _ _).1 (no_rows node before sb (was_absent node before after gone stay (has_node node before) refl) ∙ sym (no_rows node after sa gone)))

  no_checks_differ : has_node node after ≡ false → some_node_goes before after ≡ false → checks_differ node before after ≡ false
  no_checks_differ gone stay = λ i. not (pointwise same_check (no_checks node before sb (was_absent node before after gone stay (has_node node before) refl) i) (no_checks node after sa gone i))

-- the index of a node: the last change of its row and services where it is there, and else the last going of any node
pub node_last : (node : List ℕ) (past : List Command) → past_index (q.NodeServices node) past ≡ cond (has_node node (at_past past)) (past_fired (Node node) past) (past_fired NodeGone past)
unfolding past_index past_fired fires at_past
node_last node [] = refl
node_last node (c ∷ past) = ap (λ b. cond b (length past + 1) (past_index (q.NodeServices node) past)) (node_touched node before c after) ∙ go (has_node node after) refl (some_node_goes before after) refl (rows_differ node before after) refl (node_last node past)
  where
    before : Catalog
    before = at_past past

    after : Catalog
    after = at_past (c ∷ past)

    go : (h : Bool) → has_node node after ≡ h → (g : Bool) → some_node_goes before after ≡ g → (d : Bool) → rows_differ node before after ≡ d
        → past_index (q.NodeServices node) past ≡ cond (has_node node before) (past_fired (Node node) past) (past_fired NodeGone past)
        → cond ((not h && g) || d) (length past + 1) (past_index (q.NodeServices node) past) ≡ cond h (cond d (length past + 1) (past_fired (Node node) past)) (cond g (length past + 1) (past_fired NodeGone past))
    go true h g s true d earlier = refl
    go true h g s false d earlier = earlier ∙ ap (λ b. cond b (past_fired (Node node) past) (past_fired NodeGone past)) (same_node_there node before after (nodes_stand past) (nodes_stand (c ∷ past)) d ∙ h)
    go false h true s d e earlier = refl
    go false h false s true d earlier = absurd (true≢false (sym d ∙ no_rows_differ node before after (nodes_stand past) (nodes_stand (c ∷ past)) h s))
    go false h false s false d earlier = earlier ∙ ap (λ b. cond b (past_fired (Node node) past) (past_fired NodeGone past)) (same_node_there node before after (nodes_stand past) (nodes_stand (c ∷ past)) d ∙ h)

-- and with its checks
pub health_last : (node : List ℕ) (past : List Command) → past_index (q.HealthNode node) past ≡ cond (has_node node (at_past past)) (max (past_fired (Node node) past) (past_fired (NodeChecks node) past)) (past_fired NodeGone past)
unfolding past_index past_fired fires at_past
health_last node [] = refl
health_last node (c ∷ past) =
    ap (λ b. cond b (length past + 1) (past_index (q.HealthNode node) past)) (health_node_touched node before c after)
    ∙ go (has_node node after) refl (some_node_goes before after) refl (rows_differ node before after) refl (checks_differ node before after) refl (health_last node past)
  where
    before : Catalog
    before = at_past past

    after : Catalog
    after = at_past (c ∷ past)

    both : (d e : Bool) → past_fired (Node node) past ≤ length past + 1 → past_fired (NodeChecks node) past ≤ length past + 1
        → cond (d || e) (length past + 1) (max (past_fired (Node node) past) (past_fired (NodeChecks node) past)) ≡ max (cond d (length past + 1) (past_fired (Node node) past)) (cond e (length past + 1) (past_fired (NodeChecks node) past))
    both true true m n = omega arith
    both true false m n = omega (arith, n)
    both false true m n = omega (arith, m)
    both false false m n = refl

    stays : (b : Bool) → has_node node before ≡ b → past_index (q.HealthNode node) past ≡ cond (has_node node before) (max (past_fired (Node node) past) (past_fired (NodeChecks node) past)) (past_fired NodeGone past)
        → past_index (q.HealthNode node) past ≡ cond b (max (past_fired (Node node) past) (past_fired (NodeChecks node) past)) (past_fired NodeGone past)
    stays b e earlier = earlier ∙ ap (λ b. cond b (max (past_fired (Node node) past) (past_fired (NodeChecks node) past)) (past_fired NodeGone past)) e

    same_there : rows_differ node before after ≡ false → has_node node before ≡ has_node node after
    same_there = same_node_there node before after (nodes_stand past) (nodes_stand (c ∷ past))

    go : (h : Bool) → has_node node after ≡ h → (g : Bool) → some_node_goes before after ≡ g → (d : Bool) → rows_differ node before after ≡ d → (e : Bool) → checks_differ node before after ≡ e
        → past_index (q.HealthNode node) past ≡ cond (has_node node before) (max (past_fired (Node node) past) (past_fired (NodeChecks node) past)) (past_fired NodeGone past)
        → cond ((not h && g) || (d || e)) (length past + 1) (past_index (q.HealthNode node) past)
        ≡ cond h (max (cond d (length past + 1) (past_fired (Node node) past)) (cond e (length past + 1) (past_fired (NodeChecks node) past))) (cond g (length past + 1) (past_fired NodeGone past))
    go true h g s true d e f earlier = both true e (fired_within (Node node) past) (fired_within (NodeChecks node) past)
    go true h g s false d true f earlier = both false true (fired_within (Node node) past) (fired_within (NodeChecks node) past)
    go true h g s false d false f earlier = stays true (same_there d ∙ h) earlier
    go false h true s d e1 e f earlier = refl
    go false h false s true d e f earlier = absurd (true≢false (sym d ∙ no_rows_differ node before after (nodes_stand past) (nodes_stand (c ∷ past)) h s))
    go false h false s false d true f earlier = absurd (true≢false (sym f ∙ no_checks_differ node before after (nodes_stand past) (nodes_stand (c ∷ past)) h s))
    go false h false s false d false f earlier = stays false (same_there d ∙ h) earlier

-- 5. All of them.
module _ (kept : Kept) (log : List Command) (stands : StandsFor kept log) where
  name_given : (name : List ℕ) → name_index name kept ≡ cond (has_name name (at_past (reverse log))) (past_fired (Service name) (reverse log)) (past_fired Vanished (reverse log))
  name_given name = ap (λ k. cond (has_name name k) (position_of name kept.names) kept.vanished) stands.rows ∙ go (has_name name (at_past (reverse log))) refl
    where
      go : (b : Bool) → has_name name (at_past (reverse log)) ≡ b → cond b (position_of name kept.names) kept.vanished ≡ cond b (past_fired (Service name) (reverse log)) (past_fired Vanished (reverse log))
      go true e = stands.names name e
      go false e = stands.vanished

  host_given : (node : List ℕ) (own fired : ℕ) → (has_node node (at_past (reverse log)) ≡ true → own ≡ fired) → host_index node own kept ≡ cond (has_node node (at_past (reverse log))) fired (past_fired NodeGone (reverse log))
  host_given node own fired same = ap (λ k. cond (has_node node k) own kept.gone) stands.rows ∙ go (has_node node (at_past (reverse log))) refl
    where
      go : (b : Bool) → has_node node (at_past (reverse log)) ≡ b → cond b own kept.gone ≡ cond b fired (past_fired NodeGone (reverse log))
      go true e = same e
      go false e = stands.gone

  both_given : (m n a b : ℕ) → m ≡ a → n ≡ b → max m n ≡ max a b
  both_given m n a b e f = λ i. max (e i) (f i)

  index_given : (q : Query) → kept_index q kept ≡ past_index q (reverse log)
  unfolding kept_index
  index_given q.Nodes = stands.nodes ∙ sym (same_last q.Nodes Nodes nodes_touched (reverse log))
  index_given q.Services = stands.services ∙ sym (same_last q.Services Services services_touched (reverse log))
  index_given (q.Service name tags) = name_given name ∙ sym (name_last name (q.Service name tags) (service_touched name tags) (reverse log))
  index_given (q.NodeServices node) = host_given node (position_of node kept.hosts) _ (stands.hosts node) ∙ sym (node_last node (reverse log))
  index_given (q.HealthService name tags passing) = name_given name ∙ sym (name_last name (q.HealthService name tags passing) (health_touched name tags passing) (reverse log))
  index_given (q.HealthChecks name) = both_given _ _ _ _ stands.checks stands.services ∙ sym (both_last (q.HealthChecks name) Checks Services (checks_touched name) (reverse log))
  index_given (q.HealthNode node) = host_given node (health_position node kept) _ (stands.host_checks node) ∙ sym (health_last node (reverse log))
  index_given (q.HealthState state) = both_given _ _ _ _ stands.checks stands.services ∙ sym (both_last (q.HealthState state) Checks Services (state_touched state) (reverse log))
  index_given (q.Key key) = ap (λ k. key_index key k.kv kept.tombs kept.floor) stands.rows ∙ stands.keys.keys key
  index_given (q.Prefix prefix) = ap (λ k. prefix_index prefix k.kv kept.tombs kept.floor) stands.rows ∙ stands.keys.prefixes prefix
  index_given (q.Keys prefix separator) = ap (λ k. prefix_index prefix k.kv kept.tombs kept.floor) stands.rows ∙ stands.keys.prefixes prefix ∙ sym (keys_index prefix separator (reverse log))
  index_given (q.SessionInfo id) = stands.sessions ∙ sym (same_last (q.SessionInfo id) Sessions (session_touched id) (reverse log))
  index_given (q.SessionsOf node) = stands.sessions ∙ sym (same_last (q.SessionsOf node) Sessions (sessions_of_touched node) (reverse log))
  index_given q.Sessions = stands.sessions ∙ sym (same_last q.Sessions Sessions sessions_touched (reverse log))
  index_given (q.QueryInfo id) = stands.queries ∙ sym (same_last (q.QueryInfo id) Queries (query_touched id) (reverse log))
  index_given q.Queries = stands.queries ∙ sym (same_last q.Queries Queries queries_touched (reverse log))

-- the view law
pub view_law : (q : Query) (kept : Kept) (log : List Command) → StandsFor kept log → ViewLaw q kept log
view_law q kept log stands = record { index = index_given kept log stands q; answers = ap (answer q) stands.rows; hangs = ap (chans q) stands.rows }
