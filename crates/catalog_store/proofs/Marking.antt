-- The positions after a change.
use Rattle.std.proofs.Common.{◌≡◌, ℕ, ◌+◌, ◌≤◌, Bool, true, false, cond, ◌||◌, List, [], ◌∷◌, ◌++◌, refl, sym, ◌∙◌, ap, subst, Option, Some, None, is_some, unwrap_or, length, reverse, arith}
use Rattle.std.proofs.lemmas.Bool.Decides.{same_from_decides}
use Rattle.std.proofs.lemmas.List.{length-reverse}
use Rattle.std.proofs.lemmas.List.Folds.{list_any-append}
use Rattle.cat_model.specs.Keys.{same_text}
use Rattle.cat_model.specs.Machine.{at_past, catalog_at}
use Rattle.cat_model.specs.Indexes.{has_name, has_node}
use Rattle.cat_model.specs.Channels.{fires}
use Rattle.cat_model.specs.Views.{moved, position_of, past_fired, last_fired}
use Rattle.cat_model.specs.declared.query.Chan.{Chan}
use Rattle.cat_model.specs.declared.query.Chan.TheVariants as chan
use Rattle.cat_model.specs.declared.command.Command.{Command}
use Rattle.cat_model.proofs.SameLemmas.{text_decides}
use Rattle.catalog_table.specs.Names.{is_among}
use Rattle.catalog_table.specs.declared.changed.Changed.{Changed}
use Rattle.touch_positions.specs.NameVersions.{own_position}
use Rattle.touch_positions.specs.States.{IndexState, SameTables, SameHosts, TouchesName, VanishesName, table_position, name_position, with_table}
use Rattle.touch_positions.specs.declared.positions.Table.{Table}
use Rattle.touch_positions.specs.declared.positions.Table.TheVariants.{Nodes, Services, Checks, Sessions, Queries}
use Rattle.catalog_store.specs.Standing.{PositionsStand, Within}
use Rattle.catalog_store.specs.Registering.{TouchesEach, VanishesEach, MarksNames, touched_if, has_some}

pub within_table : (i : ℕ) (table : Table) (index : IndexState) → Within i index → table_position table index ≤ i
within_table i Nodes index w = w.nodes
within_table i Services index w = w.services
within_table i Checks index w = w.checks
within_table i Sessions index w = w.sessions
within_table i Queries index w = w.queries

own_bound : (i : ℕ) → i ≤ i
own_bound i = omega arith

touched_within : (i : ℕ) (table : Table) (index : IndexState) → Within i index → Within i (with_table table i index)
touched_within i Nodes index w = record { nodes = own_bound i; services = w.services; checks = w.checks; sessions = w.sessions; queries = w.queries; vanished = w.vanished; names = w.names; hosts = w.hosts; host_checks = w.host_checks; gone = w.gone }
touched_within i Services index w = record { nodes = w.nodes; services = own_bound i; checks = w.checks; sessions = w.sessions; queries = w.queries; vanished = w.vanished; names = w.names; hosts = w.hosts; host_checks = w.host_checks; gone = w.gone }
touched_within i Checks index w = record { nodes = w.nodes; services = w.services; checks = own_bound i; sessions = w.sessions; queries = w.queries; vanished = w.vanished; names = w.names; hosts = w.hosts; host_checks = w.host_checks; gone = w.gone }
touched_within i Sessions index w = record { nodes = w.nodes; services = w.services; checks = w.checks; sessions = own_bound i; queries = w.queries; vanished = w.vanished; names = w.names; hosts = w.hosts; host_checks = w.host_checks; gone = w.gone }
touched_within i Queries index w = record { nodes = w.nodes; services = w.services; checks = w.checks; sessions = w.sessions; queries = own_bound i; vanished = w.vanished; names = w.names; hosts = w.hosts; host_checks = w.host_checks; gone = w.gone }

pub within_if : (i : ℕ) (b : Bool) (table : Table) (index : IndexState) → Within i index → Within i (touched_if b table i index)
within_if i true table index w = touched_within i table index w
within_if i false table index w = w

pub moved_within : (i : ℕ) (b : Bool) (n m : ℕ) → m ≡ moved i b n → n ≤ i → m ≤ i
moved_within i true n m is h = omega (arith, is)
moved_within i false n m is h = omega (arith, is, h)

same_turned : (a b : List ℕ) → same_text a b ≡ same_text b a
same_turned a b = same_from_decides _ _ (text_decides a b) (λ e. sym ((text_decides b a).0 e), λ e. (text_decides b a).1 (sym e))

or_none : (b : Bool) → (b || false) ≡ b
or_none true = refl
or_none false = refl

among_last : (names : List (List ℕ)) (name other : List ℕ) → is_among (names ++ name ∷ []) other ≡ (is_among names other || same_text name other)
among_last names name other = list_any-append (same_text other) names (name ∷ []) ∙ ap (λ b. is_among names other || b) (or_none (same_text other name) ∙ same_turned other name)

pub touched_name : (i : ℕ) (name : List ℕ) (old new : IndexState) → Within i old → TouchesName name i old new → Within i new
touched_name i name old new w t = record {
  nodes = subst (λ n. n ≤ i) (sym t.tables.nodes) w.nodes;
  services = subst (λ n. n ≤ i) (sym t.tables.services) w.services;
  checks = subst (λ n. n ≤ i) (sym t.tables.checks) w.checks;
  sessions = subst (λ n. n ≤ i) (sym t.tables.sessions) w.sessions;
  queries = subst (λ n. n ≤ i) (sym t.tables.queries) w.queries;
  vanished = subst (λ n. n ≤ i) (sym t.vanished) w.vanished;
  names = each;
  hosts = λ node. subst (λ n. n ≤ i) (λ j. unwrap_or (own_position node (sym t.nodes.hosts j)) (sym t.nodes.gone j)) (w.hosts node);
  host_checks = λ node. subst (λ n. n ≤ i) (λ j. unwrap_or (own_position node (sym t.nodes.host_checks j)) 1) (w.host_checks node);
  gone = subst (λ n. n ≤ i) (sym t.nodes.gone) w.gone;
}
  where
    each : (other : List ℕ) → name_position other new ≤ i
    each other = go (same_text name other) refl
      where
        go : (b : Bool) → same_text name other ≡ b → name_position other new ≤ i
        go true e = subst (λ o. unwrap_or o new.vanished ≤ i) (sym (ap (λ n. own_position n new.names) (sym ((text_decides name other).0 e)) ∙ t.own)) (own_bound i)
        go false e = subst (λ o. unwrap_or o new.vanished ≤ i) (sym (t.others other e)) (subst (λ v. unwrap_or (own_position other old.names) v ≤ i) (sym t.vanished) (w.names other))

-- what is marked is not above the position
pub marks_within : (i : ℕ) (c : Changed) (old new : IndexState) → Within i old → MarksNames i c old new → Within i new
marks_within i c old new w m = record {
  nodes = moved_within i c.nodes old.nodes new.nodes m.nodes w.nodes;
  services = moved_within i c.services old.services new.services m.services w.services;
  checks = moved_within i c.checks old.checks new.checks m.checks w.checks;
  sessions = subst (λ n. n ≤ i) (sym m.sessions) w.sessions;
  queries = subst (λ n. n ≤ i) (sym m.queries) w.queries;
  vanished = vanished;
  names = λ name. subst (λ o. unwrap_or o new.vanished ≤ i) (sym (m.own name)) (each (is_among c.vanished name) (is_among c.names name) (own_position name old.names) (w.names name));
  hosts = λ node. subst (λ n. n ≤ i) (λ j. unwrap_or (own_position node (sym m.hosts.hosts j)) (sym m.hosts.gone j)) (w.hosts node);
  host_checks = λ node. subst (λ n. n ≤ i) (λ j. unwrap_or (own_position node (sym m.hosts.host_checks j)) 1) (w.host_checks node);
  gone = subst (λ n. n ≤ i) (sym m.hosts.gone) w.gone;
}
  where
    vanished : new.vanished ≤ i
    vanished = moved_within i (has_some c.vanished) old.vanished new.vanished m.vanished w.vanished

    each : (v n : Bool) (o : Option ℕ) → unwrap_or o old.vanished ≤ i → unwrap_or (cond v None (cond n (Some i) o)) new.vanished ≤ i
    each true n o h = vanished
    each false true o h = own_bound i
    each false false None h = vanished
    each false false (Some p) h = h

pub same_hosts : (old mid new : IndexState) → SameHosts old mid → SameHosts mid new → SameHosts old new
same_hosts old mid new a b = record { hosts = b.hosts ∙ a.hosts; host_checks = b.host_checks ∙ a.host_checks; gone = b.gone ∙ a.gone }

module _ (i : ℕ) (names : List (List ℕ)) (name : List ℕ) (old mid new : IndexState) where
  tables_more : SameTables old mid → SameTables mid new → SameTables old new
  tables_more a b = record { nodes = b.nodes ∙ a.nodes; services = b.services ∙ a.services; checks = b.checks ∙ a.checks; sessions = b.sessions ∙ a.sessions; queries = b.queries ∙ a.queries }

  -- one more name is given a position, or has none of its own
  own_more : (o : Option ℕ) → own_position name new.names ≡ o → ((other : List ℕ) → same_text name other ≡ false → own_position other new.names ≡ own_position other mid.names) → ((other : List ℕ) → own_position other mid.names ≡ cond (is_among names other) o (own_position other old.names)) → (other : List ℕ) → own_position other new.names ≡ cond (is_among (names ++ name ∷ []) other) o (own_position other old.names)
  own_more o own others before other = go (same_text name other) refl ∙ sym (ap (λ b. cond b o (own_position other old.names)) (among_last names name other))
    where
      join : (a : Bool) → cond a o (own_position other old.names) ≡ cond (a || false) o (own_position other old.names)
      join true = refl
      join false = refl

      either : (a : Bool) → o ≡ cond (a || true) o (own_position other old.names)
      either true = refl
      either false = refl

      go : (b : Bool) → same_text name other ≡ b → own_position other new.names ≡ cond (is_among names other || same_text name other) o (own_position other old.names)
      go true e = ap (λ n. own_position n new.names) (sym ((text_decides name other).0 e)) ∙ own ∙ either (is_among names other) ∙ ap (λ b. cond (is_among names other || b) o (own_position other old.names)) (sym e)
      go false e = others other e ∙ before other ∙ join (is_among names other) ∙ ap (λ b. cond (is_among names other || b) o (own_position other old.names)) (sym e)

  pub touches_more : TouchesEach names i old mid → TouchesName name i mid new → TouchesEach (names ++ name ∷ []) i old new
  touches_more h t = record { tables = tables_more h.tables t.tables; vanished = t.vanished ∙ h.vanished; own = own_more (Some i) t.own t.others h.own; nodes = same_hosts old mid new h.nodes t.nodes }

  pub vanishes_more : VanishesEach names i old mid → VanishesName name i mid new → VanishesEach (names ++ name ∷ []) i old new
  vanishes_more h t = record { tables = tables_more h.tables t.tables; vanished = t.vanished ∙ last names; own = own_more None t.own t.others h.own; nodes = same_hosts old mid new h.nodes t.nodes }
    where
      last : (l : List (List ℕ)) → i ≡ moved i (has_some (l ++ name ∷ [])) old.vanished
      last [] = refl
      last (x ∷ l) = refl

-- the position of a name is its own, or 1
pub own_or_first : (name : List ℕ) (names : List (List ℕ × ℕ)) → position_of name names ≡ unwrap_or (own_position name names) 1
own_or_first name [] = refl
own_or_first name (n ∷ names) = go (same_text n.0 name) (own_or_first name names)
  where
    go : (b : Bool) → position_of name names ≡ unwrap_or (own_position name names) 1 → cond b n.1 (position_of name names) ≡ unwrap_or (cond b (Some n.1) (own_position name names)) 1
    go true ih = refl
    go false ih = ih

-- 2. Where the tables stand for a log, no position is above the next one.
fired_within : (chan : Chan) (past : List Command) → past_fired chan past ≤ length past + 1
unfolding past_fired
fired_within chan [] = omega arith
fired_within chan (c ∷ past) = go (fires (at_past past) c (at_past (c ∷ past)) chan) (fired_within chan past)
  where
    go : (b : Bool) → past_fired chan past ≤ length past + 1 → cond b (length past + 1) (past_fired chan past) ≤ length (c ∷ past) + 1
    go true h = omega arith
    go false h = omega (arith, h)

last_within : (chan : Chan) (log : List Command) → last_fired chan log ≤ length log + 1
last_within chan log = subst (λ n. last_fired chan log ≤ n + 1) (length-reverse log) (fired_within chan (reverse log))

module _ (index : IndexState) (log : List Command) (stands : PositionsStand index log) where
  at : (fired : Chan) (n : ℕ) → n ≡ last_fired fired log → n ≤ length log + 1
  at fired n is = subst (λ m. m ≤ length log + 1) (sym is) (last_within fired log)

  own_at : (fired : Chan) (name : List ℕ) (has : Bool) (names : List (List ℕ × ℕ)) (rest : ℕ) → is_some (own_position name names) ≡ has → (has ≡ true → position_of name names ≡ last_fired fired log) → rest ≤ length log + 1 → unwrap_or (own_position name names) rest ≤ length log + 1
  own_at fired name has names rest own is low = go (own_position name names) refl
    where
      go : (o : Option ℕ) → own_position name names ≡ o → unwrap_or o rest ≤ length log + 1
      go None e = low
      go (Some p) e =
          let there : has ≡ true = sym own ∙ ap is_some e in
          subst (λ m. m ≤ length log + 1) (own_or_first name names ∙ ap (λ o. unwrap_or o 1) e) (at fired (position_of name names) (is there))

  pub stands_within : Within (length log + 1) index
  stands_within = record {
    nodes = at chan.Nodes index.nodes stands.nodes;
    services = at chan.Services index.services stands.services;
    checks = at chan.Checks index.checks stands.checks;
    sessions = at chan.Sessions index.sessions stands.sessions;
    queries = at chan.Queries index.queries stands.queries;
    vanished = at chan.Vanished index.vanished stands.vanished;
    names = λ name. own_at (chan.Service name) name (has_name name (catalog_at log)) index.names index.vanished (stands.own name) (stands.names name) (at chan.Vanished index.vanished stands.vanished);
    hosts = λ node. own_at (chan.Node node) node (has_node node (catalog_at log)) index.hosts index.gone (stands.own_hosts node) (stands.hosts node) (at chan.NodeGone index.gone stands.gone);
    host_checks = λ node. subst (λ m. m ≤ length log + 1) (own_or_first node index.host_checks) (stands.few node);
    gone = at chan.NodeGone index.gone stands.gone;
  }
