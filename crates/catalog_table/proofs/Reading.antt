-- Of which service names a read takes something else, where rows of one node went and came.
use Rattle.std.proofs.Common.{◌≡◌, ℕ, Bool, true, false, not, cond, List, [], ◌∷◌, refl, sym, ◌∙◌, ap, Option, Some, None, filter, map, ◌&&◌, ◌||◌}
use Rattle.std.specs.List.{list_any, cons_option}
use Rattle.std.proofs.lemmas.Bool.{true≢false, false≢true, and_parts}
use Rattle.std.proofs.lemmas.Cmp.{nat_list_cmp_total}
use Rattle.std.proofs.lemmas.List.Folds.{list_any-append}
use Rattle.std.proofs.lemmas.Map.Lookups.{exact_bytes}
use Rattle.cat_model.specs.Keys.{text_cmp, pair_cmp, same_text, is_empty}
use Rattle.cat_model.specs.Tables.{same_found}
use Rattle.cat_model.specs.Same.{same_node, same_service, same_check}
use Rattle.cat_model.specs.Catalog.{empty_catalog, same_catalog, service_at, node_key, service_key, check_key}
use Rattle.cat_model.specs.Queries.{service_rows, is_of}
use Rattle.cat_model.specs.declared.row.NodeRow.{NodeRow}
use Rattle.cat_model.specs.declared.row.ServiceRow.{ServiceRow}
use Rattle.cat_model.specs.declared.row.CheckRow.{CheckRow}
use Rattle.cat_model.proofs.TableLemmas.{Ascends-filter}
use Rattle.cat_model.proofs.InOrder.{key_of_found}
use Rattle.cat_model.proofs.SameLemmas.{text_decides, node_decides, service_decides, check_decides, catalog_decides}
use Rattle.cat_model.proofs.Pairs.{pair_cmp_total, exact_pair}
use Rattle.catalog_table.specs.Rows.{Rows, catalog_of, is_node}
use Rattle.catalog_table.specs.Names.{is_among}
use Rattle.catalog_table.specs.Changes.{reads_differ}
use Rattle.catalog_table.specs.Edits.{has_row}
use Rattle.catalog_table.specs.Touching.{Touches, check_services, name_in, is_whole, names_on, names_served, names_read}
use Rattle.catalog_table.specs.declared.touched.Touched.{Touched}
use Rattle.catalog_table.proofs.Edits.{Found, found, any_row, or_right, same_itself, has_filter, has_passing, edited_here, edited_differs, unedited, same_rows, has_is, found_has}
use Rattle.catalog_table.proofs.Naming.{same_turned}
use Rattle.catalog_table.proofs.Indexes.{any_map, any_both}

or_parts : (a b : Bool) → (a || b) ≡ true → {X : Type 0} → (a ≡ true → X) → (b ≡ true → X) → X
or_parts true b h f g = f refl
or_parts false b h f g = g h

no_parts : (a b : Bool) → (a || b) ≡ false → (a ≡ false) × (b ≡ false)
no_parts true b h = absurd (true≢false h)
no_parts false b h = (refl, h)

both_true : {a b : Bool} → a ≡ true → b ≡ true → (a && b) ≡ true
both_true {a} {b} h g = (λ i. h i && g i)

either : (b : Bool) {X : Type 0} → (b ≡ true → X) → (b ≡ false → X) → X
either true f g = f refl
either false f g = g refl

-- the service that a key finds has the name
abbrev has_name_in : List ℕ → Option ServiceRow → Bool
has_name_in name None = false
has_name_in name (Some s) = same_text s.name name

module _ (node : List ℕ) (old new : Rows) (t : Touched) (touches : Touches node old new t) (name : List ℕ) where
  abbrev named : ServiceRow → Bool
  named s = same_text s.name name

  abbrev here : ServiceRow → Bool
  here s = is_node node s.node

  abbrev at_node : NodeRow → ServiceRow → Bool
  at_node n s = same_text s.node n.node

  abbrev counts : CheckRow → ServiceRow → Bool
  counts c s = same_text s.node c.node && (is_empty c.service || same_text s.id c.service)

  -- a service of this name went or came
  abbrev renamed : Bool
  renamed = list_any named touches.service_edits

  -- a service of the node has the name
  abbrev on_it : Bool
  on_it = list_any (λ s. here s && named s) new.services

  -- a check went or came of a service of the name
  abbrev served : Bool
  served = list_any (λ (c : CheckRow). has_name_in name (service_at (node, c.service) new.services)) touches.check_edits

  abbrev whole : Bool
  whole = not (is_empty touches.node_edits) || list_any (λ (c : CheckRow). is_empty c.service) touches.check_edits

  abbrev old_named : List ServiceRow
  old_named = filter named old.services

  abbrev new_named : List ServiceRow
  new_named = filter named new.services

  check_here : (c : CheckRow) → has_row same_check touches.check_edits c ≡ true → is_node node c.node ≡ true
  check_here = edited_here same_check check_decides old.checks new.checks touches.check_edits touches.checks_edited (λ (c : CheckRow). is_node node c.node) (ap (λ r. r.checks) touches.others)

  node_here : (n : NodeRow) → has_row same_node touches.node_edits n ≡ true → is_node node n.node ≡ true
  node_here = edited_here same_node node_decides old.nodes new.nodes touches.node_edits touches.nodes_edited (λ (n : NodeRow). is_node node n.node) (ap (λ r. r.nodes) touches.others)

  is_its : (a b : List ℕ) → is_node node a ≡ true → is_node node b ≡ true → same_text a b ≡ true
  is_its a b h g = (text_decides a b).1 ((text_decides a node).0 h ∙ sym ((text_decides b node).0 g))

  -- a service of a name that the new rows have on the node
  on_node_from : (s : ServiceRow) → has_row same_service new_named s ≡ true → here s ≡ true → on_it ≡ true
  on_node_from s h e =
      let parts = and_parts (named s) (has_row same_service new.services s) (sym (has_filter same_service service_decides named new.services s) ∙ h) in
      any_row same_service service_decides (λ s. here s && named s) new.services s parts.1 (both_true e parts.0)

  -- the service that a key of the node finds is on it, under that ID
  served_by : (id : List ℕ) (s : ServiceRow) → service_at (node, id) new.services ≡ Some s → (same_text s.node node ≡ true) × (same_text s.id id ≡ true)
  served_by id s at =
      let keyed = key_of_found pair_cmp service_key pair_cmp_total exact_pair (node, id) new.services s at in
      ((text_decides s.node node).1 (sym (ap (λ k. k.0) keyed)), (text_decides s.id id).1 (sym (ap (λ k. k.1) keyed)))

  found_at : (s : ServiceRow) → has_row same_service new.services s ≡ true → service_at (service_key s) new.services ≡ Some s
  found_at s h = go (service_at (service_key s) new.services) (sym (has_is pair_cmp service_key pair_cmp_total exact_pair same_service service_decides new.services touches.after.services s) ∙ h)
    where
      go : (o : Option ServiceRow) → same_found same_service (Some s) o ≡ true → o ≡ Some s
      go None e = absurd (false≢true e)
      go (Some q) e = ap Some (sym ((service_decides s q).0 e))

  -- where no row of the name went or came, and none that its services read
  module _ (not_renamed : renamed ≡ false) (not_whole : (whole && on_it) ≡ false) (not_served : served ≡ false) where
    same_named : old_named ≡ new_named
    same_named =
        same_rows pair_cmp service_key pair_cmp_total exact_pair same_service service_decides old_named new_named
        (Ascends-filter pair_cmp service_key pair_cmp_total named old.services touches.before.services)
        (Ascends-filter pair_cmp service_key pair_cmp_total named new.services touches.after.services)
        (λ s. has_filter same_service service_decides named old.services s ∙ stays s (named s) refl ∙ sym (has_filter same_service service_decides named new.services s))
      where
        stays : (s : ServiceRow) (b : Bool) → named s ≡ b → (b && has_row same_service old.services s) ≡ (b && has_row same_service new.services s)
        stays s false e = refl
        stays s true e =
            either (has_row same_service touches.service_edits s)
            (λ h. absurd (true≢false (sym (any_row same_service service_decides named touches.service_edits s h e) ∙ not_renamed)))
            (λ h. unedited same_service service_decides old.services new.services touches.service_edits touches.services_edited s h)

    not_on_it : whole ≡ true → on_it ≡ true → {X : Type 0} → X
    not_on_it w o = absurd (true≢false (sym (both_true w o) ∙ not_whole))

    read_nodes : filter (λ n. list_any (at_node n) new_named) old.nodes ≡ filter (λ n. list_any (at_node n) new_named) new.nodes
    read_nodes =
        same_rows text_cmp node_key nat_list_cmp_total exact_bytes same_node node_decides (filter taken old.nodes) (filter taken new.nodes)
        (Ascends-filter text_cmp node_key nat_list_cmp_total taken old.nodes touches.before.nodes)
        (Ascends-filter text_cmp node_key nat_list_cmp_total taken new.nodes touches.after.nodes)
        (λ n. has_filter same_node node_decides taken old.nodes n ∙ stays n (taken n) refl ∙ sym (has_filter same_node node_decides taken new.nodes n))
      where
        taken : NodeRow → Bool
        taken n = list_any (at_node n) new_named

        some : (edits : List NodeRow) (n : NodeRow) → has_row same_node edits n ≡ true → not (is_empty edits) ≡ true
        some [] n h = absurd (false≢true h)
        some (x ∷ edits) n h = refl

        stays : (n : NodeRow) (b : Bool) → taken n ≡ b → (b && has_row same_node old.nodes n) ≡ (b && has_row same_node new.nodes n)
        stays n false e = refl
        stays n true e =
            either (has_row same_node touches.node_edits n)
            (λ h.
            let f : Found same_service service_decides (at_node n) new_named = found same_service service_decides (at_node n) new_named e in
            let its : here f.row ≡ true = (text_decides f.row.node node).1 ((text_decides f.row.node n.node).0 f.passes ∙ (text_decides n.node node).0 (node_here n h)) in
            not_on_it (ap (λ b. b || list_any (λ (c : CheckRow). is_empty c.service) touches.check_edits) (some touches.node_edits n h)) (on_node_from f.row f.there its))
            (λ h. unedited same_node node_decides old.nodes new.nodes touches.node_edits touches.nodes_edited n h)

    read_checks : filter (is_of new_named) old.checks ≡ filter (is_of new_named) new.checks
    read_checks =
        same_rows pair_cmp check_key pair_cmp_total exact_pair same_check check_decides (filter (is_of new_named) old.checks) (filter (is_of new_named) new.checks)
        (Ascends-filter pair_cmp check_key pair_cmp_total (is_of new_named) old.checks touches.before.checks)
        (Ascends-filter pair_cmp check_key pair_cmp_total (is_of new_named) new.checks touches.after.checks)
        (λ c. has_filter same_check check_decides (is_of new_named) old.checks c ∙ stays c (is_of new_named c) refl ∙ sym (has_filter same_check check_decides (is_of new_named) new.checks c))
      where
        -- such a check would be told
        told : (c : CheckRow) → has_row same_check touches.check_edits c ≡ true → Found same_service service_decides (counts c) new_named → {X : Type 0} → X
        told c h f =
            let parts = and_parts _ _ f.passes in
            let its : here f.row ≡ true = (text_decides f.row.node node).1 ((text_decides f.row.node c.node).0 parts.0 ∙ (text_decides c.node node).0 (check_here c h)) in
            or_parts (is_empty c.service) (same_text f.row.id c.service) parts.1
            (λ e. not_on_it (or_right (not (is_empty touches.node_edits)) (any_row same_check check_decides (λ (c : CheckRow). is_empty c.service) touches.check_edits c h e)) (on_node_from f.row f.there its))
            (λ e.
            let in_new = and_parts (named f.row) (has_row same_service new.services f.row) (sym (has_filter same_service service_decides named new.services f.row) ∙ f.there) in
            let at : service_at (node, c.service) new.services ≡ Some f.row =
            (λ i. service_at (sym ((text_decides f.row.node node).0 its) i, sym ((text_decides f.row.id c.service).0 e) i) new.services) ∙ found_at f.row in_new.1 in
            absurd (true≢false (sym (any_row same_check check_decides (λ (c : CheckRow). has_name_in name (service_at (node, c.service) new.services)) touches.check_edits c h (ap (has_name_in name) at ∙ in_new.0)) ∙ not_served)))

        stays : (c : CheckRow) (b : Bool) → is_of new_named c ≡ b → (b && has_row same_check old.checks c) ≡ (b && has_row same_check new.checks c)
        stays c false e = refl
        stays c true e =
            either (has_row same_check touches.check_edits c) (λ h. told c h (found same_service service_decides (counts c) new_named e))
            (λ h. unedited same_check check_decides old.checks new.checks touches.check_edits touches.checks_edited c h)

    reads_equal : service_rows name (catalog_of old) ≡ service_rows name (catalog_of new)
    reads_equal =
        ap (λ l. record empty_catalog { nodes = filter (λ n. list_any (at_node n) l) old.nodes; services = l; checks = filter (is_of l) old.checks }) same_named
        ∙ λ i. record empty_catalog { nodes = read_nodes i; services = new_named; checks = read_checks i }

  -- where the reads are equal, no row of the name went or came, and none that its services read
  module _ (equal : service_rows name (catalog_of old) ≡ service_rows name (catalog_of new)) where
    never_renamed : renamed ≡ true → {X : Type 0} → X
    never_renamed h =
        let f : Found same_service service_decides named touches.service_edits = found same_service service_decides named touches.service_edits h in
        edited_differs same_service service_decides old.services new.services touches.service_edits touches.services_edited f.row f.there
        (sym (has_passing same_service service_decides named old.services f.row f.passes) ∙ ap (λ k. has_row same_service k.services f.row) equal ∙ has_passing same_service service_decides named new.services f.row f.passes)

    -- a service of the name that is there now
    module _ (s : ServiceRow) (there : has_row same_service new_named s ≡ true) (its : here s ≡ true) where
      there_before : has_row same_service old_named s ≡ true
      there_before = ap (λ k. has_row same_service k.services s) equal ∙ there

      same_nodes : old.nodes ≡ new.nodes
      same_nodes =
          same_rows text_cmp node_key nat_list_cmp_total exact_bytes same_node node_decides old.nodes new.nodes touches.before.nodes touches.after.nodes
          (λ n. either (has_row same_node touches.node_edits n) (stays n) (λ h. unedited same_node node_decides old.nodes new.nodes touches.node_edits touches.nodes_edited n h))
        where
          stays : (n : NodeRow) → has_row same_node touches.node_edits n ≡ true → has_row same_node old.nodes n ≡ has_row same_node new.nodes n
          stays n h =
              let at : at_node n s ≡ true = is_its s.node n.node its (node_here n h) in
              sym (has_passing same_node node_decides (λ n. list_any (at_node n) old_named) old.nodes n (any_row same_service service_decides (at_node n) old_named s there_before at))
              ∙ ap (λ k. has_row same_node k.nodes n) equal
              ∙ has_passing same_node node_decides (λ n. list_any (at_node n) new_named) new.nodes n (any_row same_service service_decides (at_node n) new_named s there at)

      -- a check that counts for it did not go or come
      never_counts : (c : CheckRow) → has_row same_check touches.check_edits c ≡ true → counts c s ≡ true → {X : Type 0} → X
      never_counts c h e =
          edited_differs same_check check_decides old.checks new.checks touches.check_edits touches.checks_edited c h
          (sym (has_passing same_check check_decides (is_of old_named) old.checks c (any_row same_service service_decides (counts c) old_named s there_before e))
          ∙ ap (λ k. has_row same_check k.checks c) equal
          ∙ has_passing same_check check_decides (is_of new_named) new.checks c (any_row same_service service_decides (counts c) new_named s there e))

      never_whole : whole ≡ true → {X : Type 0} → X
      never_whole h =
          or_parts (not (is_empty touches.node_edits)) (list_any (λ (c : CheckRow). is_empty c.service) touches.check_edits) h (λ e. some touches.node_edits refl e)
          (λ e.
          let f : Found same_check check_decides (λ (c : CheckRow). is_empty c.service) touches.check_edits = found same_check check_decides (λ (c : CheckRow). is_empty c.service) touches.check_edits e in
          never_counts f.row f.there (both_true (is_its s.node f.row.node its (check_here f.row f.there)) (ap (λ b. b || same_text s.id f.row.service) f.passes)))
        where
          some : (edits : List NodeRow) → touches.node_edits ≡ edits → not (is_empty edits) ≡ true → {X : Type 0} → X
          some [] is e = absurd (false≢true e)
          some (n ∷ edits) is e =
              edited_differs same_node node_decides old.nodes new.nodes touches.node_edits touches.nodes_edited n
              (ap (λ l. has_row same_node l n) is ∙ ap (λ b. b || has_row same_node edits n) (same_itself same_node node_decides n)) (ap (λ l. has_row same_node l n) same_nodes)

    never_on_it : (whole && on_it) ≡ true → {X : Type 0} → X
    never_on_it h =
        let both = and_parts whole on_it h in
        let f : Found same_service service_decides (λ s. here s && named s) new.services = found same_service service_decides (λ s. here s && named s) new.services both.1 in
        let parts = and_parts (here f.row) (named f.row) f.passes in
        never_whole f.row (has_passing same_service service_decides named new.services f.row parts.1 ∙ f.there) parts.0 both.0

    never_served : served ≡ true → {X : Type 0} → X
    never_served h = go (service_at (node, f.row.service) new.services) refl f.passes
      where
        f : Found same_check check_decides (λ (c : CheckRow). has_name_in name (service_at (node, c.service) new.services)) touches.check_edits
        f = found same_check check_decides (λ (c : CheckRow). has_name_in name (service_at (node, c.service) new.services)) touches.check_edits h

        go : (o : Option ServiceRow) → service_at (node, f.row.service) new.services ≡ o → has_name_in name o ≡ true → {X : Type 0} → X
        go None at e = absurd (false≢true e)
        go (Some s) at e =
            let parts = served_by f.row.service s at in
            never_counts s (has_passing same_service service_decides named new.services s e ∙ found_has pair_cmp service_key pair_cmp_total exact_pair same_service service_decides (node, f.row.service) new.services touches.after.services s at) parts.0 f.row f.there
            (both_true (is_its s.node f.row.node parts.0 (check_here f.row f.there)) (or_right (is_empty f.row.service) parts.1))

  abbrev told : Bool
  told = renamed || ((whole && on_it) || served)

  -- the name is told exactly where its reads differ
  told_is : told ≡ reads_differ old new name
  told_is = go told refl
    where
      unequal : (b : Bool) → same_catalog (service_rows name (catalog_of old)) (service_rows name (catalog_of new)) ≡ b → told ≡ true → true ≡ not b
      unequal false e h = refl
      unequal true e h =
          let equal : service_rows name (catalog_of old) ≡ service_rows name (catalog_of new) = (catalog_decides _ _).0 e in
          or_parts renamed ((whole && on_it) || served) h (λ g. never_renamed equal g) (λ g. or_parts (whole && on_it) served g (λ w. never_on_it equal w) (λ w. never_served equal w))

      go : (b : Bool) → told ≡ b → told ≡ reads_differ old new name
      go true e = e ∙ unequal (same_catalog (service_rows name (catalog_of old)) (service_rows name (catalog_of new))) refl e
      go false e =
          let first = no_parts renamed ((whole && on_it) || served) e in
          let rest = no_parts (whole && on_it) served first.1 in
          e ∙ sym (ap not ((catalog_decides _ _).1 (reads_equal first.0 rest.0 rest.1)))

  -- the names that are listed
  listed_renamed : is_among t.names name ≡ renamed
  listed_renamed = ap (λ l. is_among l name) touches.names ∙ any_map (same_text name) (λ (s : ServiceRow). s.name) touches.service_edits ∙ λ i. list_any (λ (s : ServiceRow). same_turned name s.name i) touches.service_edits

  listed_whole : is_whole t ≡ whole
  listed_whole = (λ i. touches.told i || list_any is_empty (touches.served i)) ∙ ap (λ b. not (is_empty touches.node_edits) || b) (any_map is_empty (λ (c : CheckRow). c.service) touches.check_edits)

  listed_on : is_among (names_on node new) name ≡ on_it
  listed_on =
      any_map (same_text name) (λ (s : ServiceRow). s.name) (filter here new.services) ∙ (λ i. list_any (λ (s : ServiceRow). same_turned name s.name i) (filter here new.services))
      ∙ any_both here named new.services

  listed_served : is_among (names_served node new t.served) name ≡ served
  listed_served = ap (λ l. is_among (names_served node new l) name) touches.served ∙ go touches.check_edits
    where
      one : (o : Option ServiceRow) (l : List (List ℕ)) → is_among (cons_option (name_in o) l) name ≡ (has_name_in name o || is_among l name)
      one None l = refl
      one (Some s) l = ap (λ b. b || is_among l name) (same_turned name s.name)

      go : (edits : List CheckRow) → is_among (names_served node new (check_services edits)) name ≡ list_any (λ (c : CheckRow). has_name_in name (service_at (node, c.service) new.services)) edits
      go [] = refl
      go (c ∷ edits) = one (service_at (node, c.service) new.services) (names_served node new (check_services edits)) ∙ ap (λ b. has_name_in name (service_at (node, c.service) new.services) || b) (go edits)

  served_on_it : served ≡ true → on_it ≡ true
  served_on_it h = go (service_at (node, f.row.service) new.services) refl f.passes
    where
      f : Found same_check check_decides (λ (c : CheckRow). has_name_in name (service_at (node, c.service) new.services)) touches.check_edits
      f = found same_check check_decides (λ (c : CheckRow). has_name_in name (service_at (node, c.service) new.services)) touches.check_edits h

      go : (o : Option ServiceRow) → service_at (node, f.row.service) new.services ≡ o → has_name_in name o ≡ true → on_it ≡ true
      go None at e = absurd (false≢true e)
      go (Some s) at e =
          any_row same_service service_decides (λ s. here s && named s) new.services s (found_has pair_cmp service_key pair_cmp_total exact_pair same_service service_decides (node, f.row.service) new.services touches.after.services s at)
          (both_true (served_by f.row.service s at).0 e)

  pub names_told : is_among (names_read node new t) name ≡ reads_differ old new name
  names_told =
      list_any-append (same_text name) t.names (cond (is_whole t) (names_on node new) (names_served node new t.served))
      ∙ (λ i. listed_renamed i || is_among (cond (listed_whole i) (names_on node new) (names_served node new t.served)) name) ∙ ap (λ b. renamed || b) (chosen whole) ∙ told_is
    where
      chosen : (w : Bool) → is_among (cond w (names_on node new) (names_served node new t.served)) name ≡ ((w && on_it) || served)
      chosen true = listed_on ∙ within on_it served served_on_it
        where
          within : (a b : Bool) → (b ≡ true → a ≡ true) → a ≡ (a || b)
          within true b h = refl
          within false true h = h refl
          within false false h = refl
      chosen false = listed_served
