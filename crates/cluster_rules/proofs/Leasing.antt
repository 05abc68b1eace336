-- What a server notes of its time in office agrees with the TTLs of its sessions.
use Rattle.std.proofs.Common.{◌≡◌, ◌≢◌, ℕ, zero, suc, ◌-◌, ◌<◌, ◌≤◌, Bool, true, false, cond, not, max, List, [], ◌∷◌, ◌++◌, length, get_or, filter, refl, sym, ◌∙◌, ap, arith}
use Rattle.std.specs.Prelude.{◌==◌, nat_eq, ◌&&◌, ◌||◌}
use Rattle.std.specs.List.{AllByRecursion as Each, list_any}
use Rattle.std.specs.Ordering.{is_gt, is_lt, nat_cmp}
use Rattle.std.specs.declared.cmp.Ordering.{Ordering}
use Rattle.std.specs.declared.cmp.Ordering.TheVariants.{Less, Equal, Greater}
use Rattle.std.proofs.lemmas.Bool.{true≢false}
use Rattle.std.proofs.lemmas.Bool.Decides.{nat_tests}
use Rattle.std.proofs.lemmas.Cmp.{nat_cmp_total, tied_itself}
use Rattle.std.proofs.lemmas.Map.Lookups.{exact_unsigned}
use Rattle.cat_model.specs.Delays.{Start as Renewal, ttl_start}
use Rattle.cat_model.specs.Tables.{put}
use Rattle.cat_model.specs.declared.row.SessionRow.{SessionRow}
use Rattle.cluster_rules.specs.Offices.{Office, applied_at, renewal_id}
use Rattle.cluster_rules.specs.Leases.{IsTimely, TtlLaw}

at_bool : (P : Bool → Type 0) (b : Bool) → (b ≡ true → P true) → (b ≡ false → P false) → P b
at_bool P true f g = f refl
at_bool P false f g = g refl

eq_self : (n : ℕ) → (n == n) ≡ true
eq_self n = grind (arith, nat_tests)

max_le : (a b : ℕ) → a ≤ b → max a b ≡ b
max_le a b l = grind (arith, nat_tests)

max_same : (a b : ℕ) → b ≤ a → max a b ≡ a
max_same a b l = grind (arith, nat_tests)

max_bound : (a b n : ℕ) → a ≤ n → b ≤ n → max a b ≤ n
max_bound a b n l m = grind (arith, nat_tests)

get_bound : (now : ℕ) (ks : List ℕ) (j : ℕ) → Each (λ k. k ≤ now) ks → get_or ks j 0 ≤ now
get_bound now [] j x = omega arith
get_bound now (k ∷ ks) zero x = x.0
get_bound now (k ∷ ks) (suc j) x = get_bound now ks j x.1

get_front : (ks : List ℕ) (k j : ℕ) → j < length ks → get_or (ks ++ k ∷ []) j 0 ≡ get_or ks j 0
get_front [] k j l = absurd (omega arith)
get_front (x ∷ ks) k zero l = refl
get_front (x ∷ ks) k (suc j) l = get_front ks k j (omega arith)

get_last : (ks : List ℕ) (k : ℕ) → get_or (ks ++ k ∷ []) (length ks) 0 ≡ k
get_last [] k = refl
get_last (x ∷ ks) k = get_last ks k

nat_eq_self : (n : ℕ) → nat_eq n n ≡ true
nat_eq_self n = grind (arith, nat_tests)

nat_eq_not : (a b : ℕ) → a ≢ b → nat_eq a b ≡ false
nat_eq_not a b d = grind (arith, nat_tests)

start_bound : (now id since : ℕ) (rs : List Renewal) → since ≤ now → Each (λ (r : Renewal). r.clock ≤ now) rs → ttl_start id since rs ≤ now
unfolding ttl_start
start_bound now id since [] l x = l
start_bound now id since (r ∷ rs) l x = at_bool (λ b. cond b (max r.clock (ttl_start id since rs)) (ttl_start id since rs) ≤ now) (nat_eq r.session id)
    (λ _. max_bound r.clock (ttl_start id since rs) now x.0 (start_bound now id since rs l x.1)) (λ _. start_bound now id since rs l x.1)

-- what is put at a session is the last renewal of it alone
start_append : (id since : ℕ) (xs ys : List Renewal) → ttl_start id since (xs ++ ys) ≡ ttl_start id (ttl_start id since ys) xs
unfolding ttl_start
start_append id since [] ys = refl
start_append id since (x ∷ xs) ys = ap (λ z. cond (nat_eq x.session id) (max x.clock z) z) (start_append id since xs ys)

eq_is : (a b : ℕ) → nat_eq a b ≡ true → a ≡ b
eq_is a b e = grind (arith, nat_tests)

-- a filter by sessions that keeps this one
start_kept : (id since : ℕ) (p : ℕ → Bool) → p id ≡ true → (rs : List Renewal) → ttl_start id since (filter (λ (r : Renewal). p r.session) rs) ≡ ttl_start id since rs
unfolding ttl_start
start_kept id since p keeps [] = refl
start_kept id since p keeps (r ∷ rs) = go (p r.session) refl (nat_eq r.session id) refl (start_kept id since p keeps rs)
  where
    rest : List Renewal
    rest = filter (λ (s : Renewal). p s.session) rs

    go : (b : Bool) → p r.session ≡ b → (e : Bool) → nat_eq r.session id ≡ e → ttl_start id since rest ≡ ttl_start id since rs
        → ttl_start id since (cond b (r ∷ rest) rest) ≡ cond e (max r.clock (ttl_start id since rs)) (ttl_start id since rs)
    go true pb e ee same = ap (λ x. cond x (max r.clock (ttl_start id since rest)) (ttl_start id since rest)) ee ∙ ap (λ z. cond e (max r.clock z) z) same
    go false pb true ee same = absurd (true≢false (sym keeps ∙ ap p (sym (eq_is r.session id ee)) ∙ pb))
    go false pb false ee same = same

-- and one that drops it
start_dropped : (id since : ℕ) (p : ℕ → Bool) → p id ≡ false → (rs : List Renewal) → ttl_start id since (filter (λ (r : Renewal). p r.session) rs) ≡ since
unfolding ttl_start
start_dropped id since p drops [] = refl
start_dropped id since p drops (r ∷ rs) = go (p r.session) refl (nat_eq r.session id) refl (start_dropped id since p drops rs)
  where
    rest : List Renewal
    rest = filter (λ (s : Renewal). p s.session) rs

    go : (b : Bool) → p r.session ≡ b → (e : Bool) → nat_eq r.session id ≡ e → ttl_start id since rest ≡ since → ttl_start id since (cond b (r ∷ rest) rest) ≡ since
    go true pb true ee none = absurd (true≢false (sym pb ∙ ap p (eq_is r.session id ee) ∙ drops))
    go true pb false ee none = ap (λ x. cond x (max r.clock (ttl_start id since rest)) (ttl_start id since rest)) ee ∙ none
    go false pb e ee none = none

below : ℕ → List Renewal → List Renewal
below other rs = filter (λ (r : Renewal). is_lt (nat_cmp r.session other)) rs

above : ℕ → List Renewal → List Renewal
above other rs = filter (λ (r : Renewal). is_gt (nat_cmp r.session other)) rs

start_put : (now id other since : ℕ) (rs : List Renewal) → ttl_start id since (put nat_cmp renewal_id (record { session = other; clock = now }) rs)
    ≡ ttl_start id (cond (nat_eq other id) (max now (ttl_start id since (above other rs))) (ttl_start id since (above other rs))) (below other rs)
unfolding put ttl_start below above
start_put now id other since rs = start_append id since (below other rs) (record { session = other; clock = now } ∷ above other rs)

start_renewed : (now id since : ℕ) (rs : List Renewal) → since ≤ now → ttl_start id since (put nat_cmp renewal_id (record { session = id; clock = now }) rs) ≡ now
unfolding below above
start_renewed now id since rs l =
    start_put now id id since rs
    ∙ start_dropped id _ (λ q. is_lt (nat_cmp q id)) (ap is_lt (tied_itself nat_cmp_total id)) rs
    ∙ ap (λ b. cond b (max now (ttl_start id since (above id rs))) (ttl_start id since (above id rs))) (nat_eq_self id)
    ∙ ap (max now) (start_dropped id since (λ q. is_gt (nat_cmp q id)) (ap is_gt (tied_itself nat_cmp_total id)) rs)
    ∙ max_same now since l

start_other : (now id other since : ℕ) (rs : List Renewal) → other ≢ id → ttl_start id since (put nat_cmp renewal_id (record { session = other; clock = now }) rs) ≡ ttl_start id since rs
unfolding below above
start_other now id other since rs d =
    start_put now id other since rs
    ∙ ap (λ b. ttl_start id (cond b (max now (ttl_start id since (above other rs))) (ttl_start id since (above other rs))) (below other rs)) (nat_eq_not other id d)
    ∙ go (nat_cmp id other) refl
  where
    go : (o : Ordering) → nat_cmp id other ≡ o → ttl_start id (ttl_start id since (above other rs)) (below other rs) ≡ ttl_start id since rs
    go Less o = ap (λ z. ttl_start id z (below other rs)) (start_dropped id since (λ q. is_gt (nat_cmp q other)) (ap is_gt o) rs) ∙ start_kept id since (λ q. is_lt (nat_cmp q other)) (ap is_lt o) rs
    go Equal o = absurd (d (sym (exact_unsigned id other o)))
    go Greater o = start_dropped id _ (λ q. is_lt (nat_cmp q other)) (ap is_lt o) rs ∙ start_kept id since (λ q. is_gt (nat_cmp q other)) (ap is_gt o) rs

start_none : (id since : ℕ) → ttl_start id since [] ≡ since
unfolding ttl_start
start_none id since = refl

-- what was taken out is there no more
gone : (p : ℕ) (ps : List ℕ) → list_any (λ q. q == p) (filter (λ q. not (q == p)) ps) ≡ false
gone p [] = refl
gone p (q ∷ ps) = at_bool (λ b. (q == p) ≡ b → list_any (λ q. q == p) (cond (not b) (q ∷ filter (λ q. not (q == p)) ps) (filter (λ q. not (q == p)) ps)) ≡ false) (q == p)
    (λ _ e. gone p ps) (λ _ e. ap (λ b. b || list_any (λ q. q == p) (filter (λ q. not (q == p)) ps)) e ∙ gone p ps) refl

pub ttl_law : (now : ℕ) (clocks : List ℕ) (o : Office) → IsTimely now clocks o → (row : SessionRow) → TtlLaw now clocks o row
ttl_law now clocks o t row = record {
  office = ap (max (applied_at clocks row.create)) (start_none row.id now) ∙ max_le (applied_at clocks row.create) now (get_bound now clocks (row.create - 1) t.positions);
  created = λ e. ap (λ z. max z (ttl_start row.id o.since o.renewals)) (at_last e) ∙ max_same now (ttl_start row.id o.since o.renewals) started;
  renewed = ap (max (applied_at clocks row.create)) (start_renewed now row.id o.since o.renewals t.since) ∙ max_le (applied_at clocks row.create) now (get_bound now clocks (row.create - 1) t.positions);
  again = λ d. ap (λ b. not b && not (list_any (λ p. p == row.create) (filter (λ p. not (p == row.create)) o.ended))) (has_ttl d) ∙ ap not (gone row.create o.ended);
  applied = λ d l. ap (λ z. max z (ttl_start row.id o.since o.renewals)) (get_front clocks now (row.create - 1) (omega (arith, d)));
  others = λ other d. ap (max (applied_at clocks row.create)) (start_other now row.id other.id o.since o.renewals d);
  proposed = ap (λ b. not (row.ttl_ms == 0) && not (b || list_any (λ p. p == row.create) o.ended)) (eq_self row.create) ∙ and_false (not (row.ttl_ms == 0));
}
  where
    started : ttl_start row.id o.since o.renewals ≤ now
    started = start_bound now row.id o.since o.renewals t.since t.renewals

    at_last : row.create ≡ suc (length clocks) → applied_at (clocks ++ now ∷ []) row.create ≡ now
    at_last e = ap (λ z. get_or (clocks ++ now ∷ []) z 0) (less e) ∙ get_last clocks now
      where
        less : row.create ≡ suc (length clocks) → row.create - 1 ≡ length clocks
        less e = omega (arith, e)

    has_ttl : row.ttl_ms ≢ 0 → (row.ttl_ms == 0) ≡ false
    has_ttl d = differ row.ttl_ms 0 d
      where
        differ : (a b : ℕ) → a ≢ b → (a == b) ≡ false
        differ a b d = grind (arith, nat_tests)

    and_false : (b : Bool) → (b && false) ≡ false
    and_false true = refl
    and_false false = refl
