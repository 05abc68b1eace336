-- An agent's own check stays apart from those that it is given.
use Rattle.std.proofs.Common.{◌≡◌, ℕ, ◌+◌, Bool, true, false, cond, not, List, [], ◌∷◌, map, filter, refl, sym, ◌∙◌, ap, subst, Option, Some, None}
use Rattle.std.specs.Prelude.{◌||◌, ◌&&◌, nat_le, codes}
use Rattle.std.specs.List.{AllByRecursion as Each, list_any}
use Rattle.std.specs.Ordering.{is_lt, is_gt}
use Rattle.cat_model.specs.Keys.{same_text, is_empty, pair_cmp}
use Rattle.cat_model.specs.Syncs.{serf_id}
use Rattle.cat_model.specs.Tables.{put, without}
use Rattle.cat_model.specs.declared.row.Status.{Status}
use Rattle.cat_model.specs.declared.row.Status.TheVariants.{Critical}
use Rattle.cat_model.specs.declared.request.TtlDef.{TtlDef}
use Rattle.cat_model.specs.declared.request.AgentOp.{AgentOp}
use Rattle.cat_model.specs.declared.request.AgentOp.TheVariants as op
use Rattle.cat_model.proofs.TableLemmas.{All-filter, All-append}
use Rattle.cluster_rules.specs.Agents.{Agent, Watched, change, ticked, watched, watched_key, watch, watch_all, noted_check, expired, service_row, has_service, has_check}
use Rattle.cluster_rules.specs.Own.{KeepsOwn}

at_bool : (P : Bool → Type 0) (b : Bool) → (b ≡ true → P true) → (b ≡ false → P false) → P b
at_bool P true f g = f refl
at_bool P false f g = g refl

-- what changes no ID keeps it
mapped : (f : Watched → Watched) → ((w : Watched) → (f w).row.id ≡ w.row.id) → (ws : List Watched) → Each (λ w. same_text w.row.id serf_id ≡ false) ws → Each (λ w. same_text w.row.id serf_id ≡ false) (map f ws)
mapped f same [] x = tt
mapped f same (w ∷ ws) x = (subst (λ id. same_text id serf_id ≡ false) (sym (same w)) x.0, mapped f same ws x.1)

put_apart : (w : Watched) (ws : List Watched) → same_text w.row.id serf_id ≡ false → Each (λ w. same_text w.row.id serf_id ≡ false) ws → Each (λ w. same_text w.row.id serf_id ≡ false) (put pair_cmp watched_key w ws)
unfolding put
put_apart w ws e x = All-append (λ (w : Watched). same_text w.row.id serf_id ≡ false) (filter (λ r. is_lt (pair_cmp (watched_key r) (watched_key w))) ws) (w ∷ filter (λ r. is_gt (pair_cmp (watched_key r) (watched_key w))) ws)
    (All-filter (λ (w : Watched). same_text w.row.id serf_id ≡ false) (λ r. is_lt (pair_cmp (watched_key r) (watched_key w))) ws x)
    (e, All-filter (λ (w : Watched). same_text w.row.id serf_id ≡ false) (λ r. is_gt (pair_cmp (watched_key r) (watched_key w))) ws x)

watched_apart : (a : ℕ) (t : TtlDef) (g : Agent) → same_text t.id serf_id ≡ false → KeepsOwn g → KeepsOwn (watch a t g)
watched_apart a t g e x = put_apart (watched a g.clock t) g.checks e x

or_left : (a b : Bool) → (a || b) ≡ false → a ≡ false
or_left true b e = e
or_left false b e = refl

or_right : (a b : Bool) → (a || b) ≡ false → b ≡ false
or_right true b e = absurd (cc)
or_right false b e = e

all_apart : (a : ℕ) (ts : List TtlDef) (g : Agent) → list_any (λ (t : TtlDef). same_text t.id serf_id) ts ≡ false → KeepsOwn g → KeepsOwn (watch_all a ts g)
all_apart a [] g e x = x
all_apart a (t ∷ ts) g e x = all_apart a ts (watch a t g) (or_right (same_text t.id serf_id) (list_any (λ (t : TtlDef). same_text t.id serf_id) ts) e)
    (watched_apart a t g (or_left (same_text t.id serf_id) (list_any (λ (t : TtlDef). same_text t.id serf_id) ts) e) x)

-- what a test lets through
told : (b : Bool) (g g' : Agent) → cond b (Some g) None ≡ Some g' → (b ≡ true) × (g ≡ g')
told true g g' e = (refl, cc)
told false g g' e = absurd (cc)

told_not : (b : Bool) (g g' : Agent) → cond b None (Some g) ≡ Some g' → (b ≡ false) × (g ≡ g')
told_not true g g' e = absurd (cc)
told_not false g g' e = (refl, cc)

same : (g g' : Agent) → Some g ≡ Some g' → g ≡ g'
same g g' e = cc

and_left : (a b : Bool) → (not a && b) ≡ true → a ≡ false
and_left true b e = absurd (cc)
and_left false b e = refl

noted_same : (id : List ℕ) (status : Status) (output : List ℕ) (now : ℕ) (w : Watched) → (noted_check id status output now w).row.id ≡ w.row.id
noted_same id status output now w = at_bool (λ b. (cond b (record w { row = record w.row { status = status; output = output }; since = now }) w).row.id ≡ w.row.id) (same_text w.row.id id) (λ _. refl) (λ _. refl)

expired_same : (now : ℕ) (w : Watched) → (expired now w).row.id ≡ w.row.id
expired_same now w = at_bool (λ b. (cond b (record w { row = record w.row { status = Critical; output = codes "TTL expired" } }) w).row.id ≡ w.row.id) (nat_le (w.since + w.ttl) now) (λ _. refl) (λ _. refl)

pub changed_apart : (a : ℕ) (o : AgentOp) (g g' : Agent) → KeepsOwn g → change a o g ≡ Some g' → KeepsOwn g'
changed_apart a op.Services g g' x e = subst KeepsOwn (same g g' e) x
changed_apart a op.Checks g g' x e = subst KeepsOwn (same g g' e) x
changed_apart a (op.AddService service checks) g g' x e = let t = told_not (list_any (λ (t : TtlDef). same_text t.id serf_id) checks) _ g' e in subst KeepsOwn t.1 (all_apart a checks _ t.0 x)
changed_apart a (op.DropService id) g g' x e = let t = told (has_service a id g) _ g' e in subst KeepsOwn t.1 (All-filter (λ (w : Watched). same_text w.row.id serf_id ≡ false) (λ (w : Watched). not (same_text w.row.service id)) g.checks x)
changed_apart a (op.AddCheck check) g g' x e =
    let t = told (not (same_text check.id serf_id) && (is_empty check.service || has_service a check.service g)) (watch a check g) g' e in subst KeepsOwn t.1 (watched_apart a check g (and_left (same_text check.id serf_id) _ t.0) x)
changed_apart a (op.DropCheck id) g g' x e = let t = told (has_check a id g) _ g' e in subst KeepsOwn t.1 (All-filter (λ (w : Watched). same_text w.row.id serf_id ≡ false) (λ (w : Watched). not (same_text w.row.id id)) g.checks x)
changed_apart a (op.Mark id status output) g g' x e = let t = told (has_check a id g) _ g' e in subst KeepsOwn t.1 (mapped (noted_check id status output g.clock) (noted_same id status output g.clock) g.checks x)

pub ticked_apart : (ms : ℕ) (g : Agent) → KeepsOwn g → KeepsOwn (ticked ms g)
ticked_apart ms g x = mapped (expired (g.clock + ms)) (expired_same (g.clock + ms)) g.checks x
