-- Tags that a sync takes over change no ID.
use Rattle.std.proofs.Common.{◌≡◌, ◌≢◌, ℕ, Bool, true, false, cond, ◌||◌, List, [], ◌∷◌, refl, sym, ◌∙◌, ap, Some, is_some, map}
use Rattle.std.specs.List.{AllByRecursion}
use Rattle.std.specs.Ordering.{is_eq}
use Rattle.cat_model.specs.Keys.{pair_cmp, is_empty}
use Rattle.cat_model.specs.Catalog.{service_key, service_at}
use Rattle.cat_model.specs.Syncs.{merged, merged_service, tags_or, MergeLaw}
use Rattle.cat_model.specs.declared.row.NodeRow.{NodeRow}
use Rattle.cat_model.specs.declared.row.ServiceRow.{ServiceRow}
use Rattle.cat_model.specs.declared.fired.Local.{Local}
use Rattle.cat_model.specs.declared.fired.Remote.{Remote}
use Rattle.cat_model.proofs.TableLemmas.{All-weaker}

module _ (remote : List ServiceRow) where
  same_node : (s : ServiceRow) → (merged_service remote s).node ≡ s.node
  same_node s = go s.tag_override
    where
      go : (b : Bool) → (cond b (record s { tags = tags_or s.tags (service_at (s.node, s.id) remote) }) s).node ≡ s.node
      go true = refl
      go false = refl

  same_id : (s : ServiceRow) → (merged_service remote s).id ≡ s.id
  same_id s = go s.tag_override
    where
      go : (b : Bool) → (cond b (record s { tags = tags_or s.tags (service_at (s.node, s.id) remote) }) s).id ≡ s.id
      go true = refl
      go false = refl

  All-merged : (node : List ℕ) (services : List ServiceRow) → AllByRecursion (λ s. (s.node ≡ node) × (s.id ≢ [])) services → AllByRecursion (λ s. (s.node ≡ node) × (s.id ≢ [])) (map (merged_service remote) services)
  All-merged node [] h = tt
  All-merged node (s ∷ services) h = ((same_node s ∙ h.0.0, λ e. h.0.1 (sym (same_id s) ∙ e)), All-merged node services h.1)

  same_found : (key : List ℕ × List ℕ) (services : List ServiceRow) → is_some (service_at key (map (merged_service remote) services)) ≡ is_some (service_at key services)
  same_found key [] = refl
  same_found key (s ∷ services) =
      (λ j. is_some (cond (is_eq (pair_cmp key (same_node s j, same_id s j))) (Some (merged_service remote s)) (service_at key (map (merged_service remote) services))))
      ∙ go (is_eq (pair_cmp key (service_key s))) (same_found key services)
    where
      go : (b : Bool) → is_some (service_at key (map (merged_service remote) services)) ≡ is_some (service_at key services)
          → is_some (cond b (Some (merged_service remote s)) (service_at key (map (merged_service remote) services))) ≡ is_some (cond b (Some s) (service_at key services))
      go true h = refl
      go false h = h

pub merge_law : (n : NodeRow) (local : Local) (remote : Remote) → MergeLaw n local remote
unfolding merged
merge_law n local remote = record {
  node = refl;
  checks = refl;
  syncable = λ can. record {
    services = All-merged remote.services n.node local.services can.services;
    checks = can.checks;
    of_service = All-weaker _ _ (λ c h. ap (λ b. is_empty c.service || b) (same_found remote.services (n.node, c.service) local.services) ∙ h) local.checks can.of_service;
    serf = can.serf;
    remote_services = can.remote_services;
    remote_checks = can.remote_checks;
  };
}
