-- What leaves an agent's services and checks in the order of their keys, and checks that are put one after the other.
use Rattle.std.proofs.Common.{◌≡◌, ℕ, zero, suc, Bool, true, false, cond, List, [], ◌∷◌, map, refl, sym, subst}
use Rattle.std.specs.List.{AllByRecursion}
use Rattle.std.specs.declared.cmp.Ordering.{Ordering}
use Rattle.std.specs.declared.cmp.Ordering.TheVariants.{Less}
use Rattle.cat_model.specs.Keys.{pair_cmp, same_text}
use Rattle.cat_model.specs.Catalog.{service_key}
use Rattle.cat_model.specs.Tables.{Ascends}
use Rattle.cat_model.specs.declared.row.ServiceRow.{ServiceRow}
use Rattle.cat_model.specs.declared.row.Status.{Status}
use Rattle.cat_model.specs.declared.row.Status.TheVariants.{Critical}
use Rattle.cat_model.specs.declared.request.TtlDef.{TtlDef}
use Rattle.node_rows.specs.Tags.{all_tagged, tagged_at}
use Rattle.node_rows.specs.declared.tags.Retag.{Retag}
use Rattle.std.specs.Prelude.{◌+◌, nat_le, codes}
use Rattle.cluster_rules.specs.Agents.{Agent, Watched, expired, noted_check, watch, watch_all, watched, watched_key}
use Rattle.agent_state.specs.Order.{ChecksAscend, ServicesAscend, all_put}

module _ {K R : Type 0} (cmp : K → K → Ordering) (key : R → K) (f : R → R) (keeps : (r : R) → key (f r) ≡ key r) where
  above_map : (k : K) (rows : List R) → AllByRecursion (λ s. cmp k (key s) ≡ Less) rows → AllByRecursion (λ s. cmp k (key s) ≡ Less) (map f rows)
  above_map k [] h = tt
  above_map k (r ∷ rows) h = (subst (λ j. cmp k j ≡ Less) (sym (keeps r)) h.0, above_map k rows h.1)

  map_ascends : (rows : List R) → Ascends cmp key rows → Ascends cmp key (map f rows)
  map_ascends [] asc = tt
  map_ascends (r ∷ rows) asc = (subst (λ j. AllByRecursion (λ s. cmp j (key s) ≡ Less) (map f rows)) (sym (keeps r)) (above_map (key r) rows asc.0), map_ascends rows asc.1)

-- neither the time nor another status changes a key
pub expired_ascend : (now : ℕ) (checks : List Watched) → ChecksAscend checks → ChecksAscend (map (expired now) checks)
expired_ascend now = map_ascends pair_cmp watched_key (expired now) keeps
  where
    keeps : (w : Watched) → watched_key (expired now w) ≡ watched_key w
    keeps w = go (nat_le (w.since + w.ttl) now)
      where
        go : (b : Bool) → watched_key (cond b (record w { row = record w.row { status = Critical; output = codes "TTL expired" } }) w) ≡ watched_key w
        go true = refl
        go false = refl

pub noted_ascend : (id : List ℕ) (status : Status) (output : List ℕ) (now : ℕ) (checks : List Watched) → ChecksAscend checks → ChecksAscend (map (noted_check id status output now) checks)
noted_ascend id status output now = map_ascends pair_cmp watched_key (noted_check id status output now) keeps
  where
    keeps : (w : Watched) → watched_key (noted_check id status output now w) ≡ watched_key w
    keeps w = go (same_text w.row.id id)
      where
        go : (b : Bool) → watched_key (cond b (record w { row = record w.row { status = status; output = output }; since = now }) w) ≡ watched_key w
        go true = refl
        go false = refl

-- nor do other tags
above_tagged : (k : List ℕ × List ℕ) (at : ℕ) (tags : List (List ℕ)) (services : List ServiceRow) → AllByRecursion (λ s. pair_cmp k (service_key s) ≡ Less) services → AllByRecursion (λ s. pair_cmp k (service_key s) ≡ Less) (tagged_at at tags services)
above_tagged k at tags [] h = tt
above_tagged k zero tags (s ∷ services) h = h
above_tagged k (suc at) tags (s ∷ services) h = (h.0, above_tagged k at tags services h.1)

tagged_ascend : (at : ℕ) (tags : List (List ℕ)) (services : List ServiceRow) → ServicesAscend services → ServicesAscend (tagged_at at tags services)
tagged_ascend at tags [] asc = tt
tagged_ascend zero tags (s ∷ services) asc = asc
tagged_ascend (suc at) tags (s ∷ services) asc = (above_tagged (service_key s) at tags services asc.0, tagged_ascend at tags services asc.1)

pub all_tagged_ascend : (ts : List Retag) (services : List ServiceRow) → ServicesAscend services → ServicesAscend (all_tagged ts services)
all_tagged_ascend [] services asc = asc
all_tagged_ascend (t ∷ ts) services asc = all_tagged_ascend ts (tagged_at t.at t.tags services) (tagged_ascend t.at t.tags services asc)

-- checks that are watched one after the other
pub watched_all : (a : ℕ) (ts : List TtlDef) (g : Agent) → watch_all a ts g ≡ record g { checks = all_put (map (watched a g.clock) ts) g.checks }
watched_all a [] g = refl
watched_all a (t ∷ ts) g = watched_all a ts (watch a t g)
