-- What changed, told from what was touched of a node.
use Rattle.std.proofs.Common.{◌≡◌, ℕ, Bool, true, false, not, List, [], ◌∷◌, refl, sym, ◌∙◌, ap, subst, filter, map, ◌&&◌, Option, Some, None}
use Rattle.std.specs.List.{IsDistinct, list_any}
use Rattle.std.proofs.lemmas.Bool.{true≢false}
use Rattle.std.proofs.lemmas.Cmp.{nat_list_cmp_total}
use Rattle.std.proofs.lemmas.Map.Lookups.{exact_bytes}
use Rattle.std.proofs.lemmas.Map.Views.{any-filter_same}
use Rattle.cat_model.specs.Keys.{text_cmp, pair_cmp, same_text, is_empty}
use Rattle.cat_model.specs.Same.{same_node, same_service, same_check}
use Rattle.cat_model.specs.Catalog.{same_catalog, node_key, service_key, check_key}
use Rattle.cat_model.specs.Queries.{service_rows}
use Rattle.cat_model.specs.declared.row.ServiceRow.{ServiceRow}
use Rattle.cat_model.specs.declared.row.CheckRow.{CheckRow}
use Rattle.cat_model.proofs.SameLemmas.{node_decides, service_decides, check_decides, catalog_decides}
use Rattle.cat_model.proofs.Pairs.{pair_cmp_total, exact_pair}
use Rattle.catalog_table.specs.Rows.{Rows, catalog_of}
use Rattle.catalog_table.specs.Names.{is_among}
use Rattle.catalog_table.specs.Changes.{is_named, reads_differ, vanishes, AreGone, MayBeGone, gone_of, Tells}
use Rattle.catalog_table.specs.Touching.{Touches, names_read}
use Rattle.catalog_table.specs.declared.changed.Changed.{Changed}
use Rattle.catalog_table.specs.declared.touched.Touched.{Touched}
use Rattle.catalog_table.proofs.Edits.{edits_told}
use Rattle.catalog_table.proofs.Naming.{among_filter, distinct_filter}
use Rattle.catalog_table.proofs.Reading.{names_told}
use Rattle.catalog_table.proofs.ServiceReads.{reads_nothing}

empty_map : {X Y : Type 0} (f : X → Y) (xs : List X) → is_empty (map f xs) ≡ is_empty xs
empty_map f [] = refl
empty_map f (x ∷ xs) = refl

-- equal reads have services where the others have
named_alike : (old new : Rows) (name : List ℕ) → service_rows name (catalog_of old) ≡ service_rows name (catalog_of new) → is_named name old ≡ is_named name new
named_alike old new name e = sym (own old) ∙ ap (λ k. list_any (λ (s : ServiceRow). same_text s.name name) k.services) e ∙ own new
  where
    own : (r : Rows) → list_any (λ (s : ServiceRow). same_text s.name name) (filter (λ (s : ServiceRow). same_text s.name name) r.services) ≡ is_named name r
    own r = any-filter_same (λ (s : ServiceRow). same_text s.name name) (λ (s : ServiceRow). same_text s.name name) true (λ s h. h) r.services

-- of the names whose reads differ, just those vanish that no service has now
gone : (old new : Rows) (name : List ℕ) → (not (is_named name new) && reads_differ old new name) ≡ vanishes old new name
gone old new name = go (is_named name old) refl (is_named name new) refl (same_catalog (service_rows name (catalog_of old)) (service_rows name (catalog_of new))) refl
  where
    go : (a : Bool) → is_named name old ≡ a → (b : Bool) → is_named name new ≡ b → (s : Bool) → same_catalog (service_rows name (catalog_of old)) (service_rows name (catalog_of new)) ≡ s → (not b && not s) ≡ (a && not b)
    go true p true q s e = refl
    go false p true q s e = refl
    go true p false q false e = refl
    go true p false q true e = absurd (true≢false (sym p ∙ named_alike old new name ((catalog_decides _ _).0 e) ∙ q))
    go false p false q true e = refl
    go false p false q false e =
        absurd (true≢false (sym ((catalog_decides _ _).1 (reads_nothing name old p ∙ sym (reads_nothing name new q))) ∙ e))

-- the names that are known, or else those of the names that no service has now
are_gone : (old new : Rows) (names vanished : List (List ℕ)) → ((name : List ℕ) → is_among names name ≡ reads_differ old new name) → IsDistinct same_text names → (known : Option (List (List ℕ))) → MayBeGone old new known → vanished ≡ gone_of new names known → AreGone old new vanished
are_gone old new names vanished differing once (Some found) known are = subst (AreGone old new) (sym are) known
are_gone old new names vanished differing once None known are =
    record {
      each = λ name. ap (λ l. is_among l name) are ∙ among_filter (λ n. not (is_named n new)) names name ∙ ap (λ b. not (is_named name new) && b) (differing name) ∙ gone old new name;
      once = subst (IsDistinct same_text) (sym are) (distinct_filter (λ n. not (is_named n new)) names once);
    }

pub told : (node : List ℕ) (old new : Rows) (t : Touched) (c : Changed) → Touches node old new t → c.nodes ≡ t.nodes → c.services ≡ not (is_empty t.names) → c.checks ≡ not (is_empty t.served)
    → ((name : List ℕ) → is_among c.names name ≡ is_among (names_read node new t) name) → IsDistinct same_text c.names → (known : Option (List (List ℕ))) → MayBeGone old new known → c.vanished ≡ gone_of new c.names known → Tells old new c
told node old new t c touches nodes services checks names once found known vanished =
    record {
      nodes = nodes ∙ touches.told ∙ edits_told text_cmp node_key nat_list_cmp_total exact_bytes same_node node_decides old.nodes new.nodes touches.node_edits touches.before.nodes touches.after.nodes touches.nodes_edited;
      services =
          services ∙ ap (λ l. not (is_empty l)) touches.names ∙ ap not (empty_map (λ (s : ServiceRow). s.name) touches.service_edits)
          ∙ edits_told pair_cmp service_key pair_cmp_total exact_pair same_service service_decides old.services new.services touches.service_edits touches.before.services touches.after.services touches.services_edited;
      checks =
          checks ∙ ap (λ l. not (is_empty l)) touches.served ∙ ap not (empty_map (λ (c : CheckRow). c.service) touches.check_edits)
          ∙ edits_told pair_cmp check_key pair_cmp_total exact_pair same_check check_decides old.checks new.checks touches.check_edits touches.before.checks touches.after.checks touches.checks_edited;
      names = differing;
      names_once = once;
      vanished = those.each;
      vanished_once = those.once;
    }
  where
    differing : (name : List ℕ) → is_among c.names name ≡ reads_differ old new name
    differing name = names name ∙ names_told node old new t touches name

    those : AreGone old new c.vanished
    those = are_gone old new c.names c.vanished differing once found known vanished
