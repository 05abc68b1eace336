-- Which timers stay in time as timers are set, sessions are renewed, their ends proposed and commands applied.
use Rattle.std.proofs.Common.{◌≡◌, ◌≢◌, ℕ, zero, suc, ◌+◌, ◌-◌, ◌*◌, ◌≤◌, max, Bool, true, false, cond, not, List, [], ◌∷◌, ◌++◌, get_or, filter, map, reverse, refl, sym, ◌∙◌, ap, subst, arith, Option, Some, None, IfSome, IfOk, Ok, Err, Result}
use Rattle.std.specs.Prelude.{◌==◌, ◌&&◌, ◌||◌, nat_le}
use Rattle.std.specs.BTreeMap.{insert_entry, is_at}
use Rattle.std.specs.List.{AllByRecursion as Each, list_any}
use Rattle.std.specs.Map.{lookup}
use Rattle.std.specs.Ordering.{nat_cmp}
use Rattle.std.specs.Result.{result_ok}
use Rattle.std.proofs.lemmas.Bool.{false≢true}
use Rattle.std.proofs.lemmas.Bool.Decides.{nat_tests}
use Rattle.std.proofs.lemmas.Cmp.{nat_cmp_total}
use Rattle.std.proofs.lemmas.List.Folds.{list_any-append}
use Rattle.std.proofs.lemmas.Map.Lookups.{exact_unsigned}
use Rattle.cat_model.specs.Catalog.{session_at, session_key}
use Rattle.cat_model.specs.Delays.{Start as Renewal, ttl_start}
use Rattle.cat_model.specs.Tables.{put, row_at, Ascends}
use Rattle.cat_model.specs.declared.row.SessionRow.{SessionRow}
use Rattle.cat_model.proofs.InOrder.{own_rows}
use Rattle.cat_model.proofs.Lookups.{row_at-put}
use Rattle.cat_model.proofs.TableLemmas.{All-weaker, Ascends-put}
use Rattle.cluster_rules.specs.Offices.{Office, applied_at, ended_too, is_over, is_pending, looks_on, over_at, reap_pause, renew_in, renewal_id}
use Rattle.timer_wheel.specs.Dues.{AreDue}
use Rattle.timer_wheel.proofs.Dues.{due_has}
use Rattle.timer_wheel.proofs.Keeps.{at_itself, key_same}
use Rattle.timer_wheel.proofs.Lookups.{found_beside, found_new, found_passing}
use Rattle.session_ttl.specs.declared.ends.Ending.{Ending}
use Rattle.session_ttl.specs.Endings.{ending_of}
use Rattle.session_ttl.specs.Timed.{AreTimed, AreTimedBut, HasTimer, Timers, is_one_of}
use Rattle.session_ttl.proofs.TimesOver.{ends_are, row_of}
use Rattle.session_ttl.proofs.Starts.{latest, start_is}

-- what a session has of timers
abbrev pub IsTimed : List ℕ → Timers → List ℕ → Office → SessionRow → Type 0
IsTimed others timers clocks o s = is_one_of s.id others ≡ false → is_pending o s ≡ true → HasTimer timers s.id (over_at clocks o s)

le_is : (m n : ℕ) → nat_le m n ≡ true → m ≤ n
le_is m n e = grind (arith, nat_tests)

-- the time that a timer is set to
pub capped : (time most : ℕ) → cond (nat_le time most) time most ≤ time
capped time most = go (nat_le time most) refl
  where
    above : nat_le time most ≡ false → most ≤ time
    above e = grind (arith, nat_tests)

    go : (b : Bool) → nat_le time most ≡ b → cond b time most ≤ time
    go true e = omega arith
    go false e = above e

pub later : (timers : Timers) (id until more : ℕ) → until ≤ more → HasTimer timers id until → HasTimer timers id more
later timers id until more l h = record { at = h.at; there = h.there; in_time = let i : h.at ≤ until = h.in_time in omega (arith, i, l) }

-- a timer is set anew
pub set_here : (timers new : Timers) (id time at : ℕ) → at ≤ time → new ≡ insert_entry nat_cmp timers id at → HasTimer new id time
set_here timers new id time at l e = record { at = at; there = ap (lookup (is_at (nat_cmp id))) e ∙ found_new id at timers; in_time = l }

pub set_beside : (timers new : Timers) (id at : ℕ) → new ≡ insert_entry nat_cmp timers id at → (other : ℕ) → other ≢ id → lookup (is_at (nat_cmp other)) new ≡ lookup (is_at (nat_cmp other)) timers
set_beside timers new id at e other d = ap (lookup (is_at (nat_cmp other))) e ∙ found_beside other id at timers d

some_is : {A : Type 0} (a b : A) → Some a ≡ Some b → a ≡ b
some_is a b e = cc

module _ (clocks : List ℕ) (o : Office) (rows : List SessionRow) (asc : Ascends nat_cmp session_key rows) where
  -- one more session has its timer, if it is there and its end is still to be proposed
  one_more : (id : ℕ) (others : List ℕ) (timers new : Timers) → ((s : SessionRow) → session_at id rows ≡ Some s → is_pending o s ≡ true → HasTimer new s.id (over_at clocks o s)) → ((i : ℕ) → i ≢ id → lookup (is_at (nat_cmp i)) new ≡ lookup (is_at (nat_cmp i)) timers)
      → (ss : List SessionRow) → Each (λ s. session_at s.id rows ≡ Some s) ss → Each (IsTimed (id ∷ others) timers clocks o) ss → Each (IsTimed others new clocks o) ss
  one_more id others timers new here beside [] own t = tt
  one_more id others timers new here beside (s ∷ ss) own t = (one (is_at (nat_cmp s.id) id) refl, one_more id others timers new here beside ss own.1 t.1)
    where
      apart : is_at (nat_cmp s.id) id ≡ false → s.id ≢ id
      apart e d = false≢true (sym e ∙ ap (is_at (nat_cmp s.id)) (sym d) ∙ at_itself s.id)

      one : (b : Bool) → is_at (nat_cmp s.id) id ≡ b → IsTimed others new clocks o s
      one true e = λ off p. here s (ap (λ n. session_at n rows) (key_same s.id id e) ∙ own.0) p
      one false e = λ off p. let h = t.0 (ap (λ b. b || is_one_of s.id others) e ∙ off) p in record { at = h.at; there = beside s.id (apart e) ∙ h.there; in_time = h.in_time }

  pub timed_absent : (id : ℕ) (timers : Timers) → session_at id rows ≡ None → (others : List ℕ) → AreTimedBut (id ∷ others) (Some timers) clocks o rows → AreTimedBut others (Some timers) clocks o rows
  timed_absent id timers none others t =
      one_more id others timers timers (λ s e p. absurd (clash s (sym none ∙ e))) (λ i d. refl) rows (own_rows nat_cmp session_key nat_cmp_total exact_unsigned rows asc) t
    where
      clash : (s : SessionRow) → None ≡ Some s → ⊥
      clash s e = cc

  pub timed_again : (id : ℕ) (row : SessionRow) (timers : Timers) (new : Option Timers) → session_at id rows ≡ Some row → id ≡ row.id
      → IfSome new (λ w. is_pending o row ≡ true → HasTimer w row.id (over_at clocks o row)) → IfSome new (λ w. (i : ℕ) → i ≢ row.id → lookup (is_at (nat_cmp i)) w ≡ lookup (is_at (nat_cmp i)) timers)
      → (others : List ℕ) → AreTimedBut (id ∷ others) (Some timers) clocks o rows → AreTimedBut others new clocks o rows
  timed_again id row timers None found named here beside others t = tt
  timed_again id row timers (Some new) found named here beside others t =
      one_more id others timers new (λ s e. subst (λ (r : SessionRow). is_pending o r ≡ true → HasTimer new r.id (over_at clocks o r)) (some_is row s (sym found ∙ e)) here) (λ i d. beside i (λ e. d (e ∙ sym named)))
      rows (own_rows nat_cmp session_key nat_cmp_total exact_unsigned rows asc) t

-- no timer is asked for, where each session is one of the others
any_more : (a b : Bool) → b ≡ true → (a || b) ≡ true
any_more true b e = refl
any_more false b e = e

own_keys : (rows : List SessionRow) → Each (λ s. is_one_of s.id (map session_key rows) ≡ true) rows
own_keys [] = tt
own_keys (s ∷ rows) =
    (ap (λ b. b || is_one_of s.id (map session_key rows)) (at_itself s.id), All-weaker (λ r. is_one_of r.id (map session_key rows) ≡ true) (λ r. is_one_of r.id (s.id ∷ map session_key rows) ≡ true) (λ r e. any_more (is_at (nat_cmp r.id) s.id) (is_one_of r.id (map session_key rows)) e) rows (own_keys rows))

pub timed_none : (clocks : List ℕ) (o : Office) (rows : List SessionRow) (timers : Timers) → AreTimedBut (map session_key rows) (Some timers) clocks o rows
timed_none clocks o rows timers = All-weaker (λ s. is_one_of s.id (map session_key rows) ≡ true) (IsTimed (map session_key rows) timers clocks o) (λ s e off p. absurd (false≢true (sym off ∙ e))) rows (own_keys rows)

-- the timers that are due are taken out
pub due_one : (timers : Timers) (now : ℕ) (keys : List ℕ) (id : ℕ) → AreDue timers now keys → HasTimer timers id now → is_one_of id keys ≡ true
due_one timers now keys id due h = due_has timers now keys due (h.at, id) (h.there, h.in_time)

pub timed_left : (clocks : List ℕ) (o : Office) (rows : List SessionRow) (timers left : Timers) (now : ℕ) (keys : List ℕ) → AreDue timers now keys → left ≡ filter (λ t. not (nat_le t.1 now)) timers → AreTimed (Some timers) clocks o rows → AreTimedBut keys (Some left) clocks o rows
timed_left clocks o rows timers left now keys due is t = All-weaker (IsTimed [] timers clocks o) (IsTimed keys left clocks o) one rows t
  where
    one : (s : SessionRow) → IsTimed [] timers clocks o s → IsTimed keys left clocks o s
    one s f off p = go (nat_le h.at now) refl
      where
        h : HasTimer timers s.id (over_at clocks o s)
        h = f refl p

        go : (b : Bool) → nat_le h.at now ≡ b → HasTimer left s.id (over_at clocks o s)
        go true e = absurd (false≢true (sym off ∙ due_one timers now keys s.id due (record { at = h.at; there = h.there; in_time = le_is h.at now e })))
        go false e = record { at = h.at; there = ap (lookup (is_at (nat_cmp s.id))) is ∙ found_passing (is_at (nat_cmp s.id)) (λ a. not (nat_le a now)) h.at timers h.there (ap not e); in_time = h.in_time }

-- each session that is over has a timer that is due
both : (a b : Bool) → (a && b) ≡ true → (a ≡ true) × (b ≡ true)
both true b e = (refl, e)
both false b e = absurd (false≢true e)

pub over_due : (clocks : List ℕ) (o : Office) (rows : List SessionRow) (timers : Timers) (now : ℕ) (ids : List ℕ) → ((id : ℕ) → HasTimer timers id now → is_one_of id ids ≡ true) → AreTimed (Some timers) clocks o rows → Each (λ s. is_over clocks o now s ≡ true → is_one_of s.id ids ≡ true) rows
over_due clocks o rows timers now ids whole t =
    All-weaker (IsTimed [] timers clocks o) (λ s. is_over clocks o now s ≡ true → is_one_of s.id ids ≡ true)
    (λ s f over. let e = both (is_pending o s) (nat_le (over_at clocks o s) now) over in whole s.id (later timers s.id (over_at clocks o s) now (le_is (over_at clocks o s) now e.1) (f refl e.0))) rows t

-- where what is pending was, and is over no sooner
pub timed_still : (others : List ℕ) (timers : Option Timers) (clocks clocks' : List ℕ) (o o' : Office) (rows : List SessionRow) → ((s : SessionRow) → is_pending o' s ≡ true → (is_pending o s ≡ true) × (over_at clocks o s ≤ over_at clocks' o' s)) → AreTimedBut others timers clocks o rows → AreTimedBut others timers clocks' o' rows
timed_still others None clocks clocks' o o' rows still t = tt
timed_still others (Some timers) clocks clocks' o o' rows still t =
    All-weaker (IsTimed others timers clocks o) (IsTimed others timers clocks' o') (λ s f off p. let m = still s p in later timers s.id (over_at clocks o s) (over_at clocks' o' s) m.1 (f off m.0)) rows t

get_grows : (clocks : List ℕ) (now j : ℕ) → get_or clocks j 0 ≤ get_or (clocks ++ now ∷ []) j 0
get_grows [] now j = omega arith
get_grows (k ∷ clocks) now zero = omega arith
get_grows (k ∷ clocks) now (suc j) = get_grows clocks now j

max_grows : (a b c n : ℕ) → a ≤ b → max a c + n ≤ max b c + n
max_grows a b c n l = omega arith

-- one more position is applied
pub over_grows : (now : ℕ) (clocks : List ℕ) (o : Office) (s : SessionRow) → over_at clocks o s ≤ over_at (clocks ++ now ∷ []) o s
over_grows now clocks o s = max_grows (applied_at clocks s.create) (applied_at (clocks ++ now ∷ []) s.create) (ttl_start s.id o.since o.renewals) (2 * s.ttl_ms) (get_grows clocks now (s.create - 1))

pending_still : (a b c : Bool) → (a && not (b || c)) ≡ true → (a && not c) ≡ true
pending_still true true c e = absurd (false≢true e)
pending_still true false c e = e
pending_still false b c e = e

same_time : (n : ℕ) → n ≤ n
same_time n = omega arith

-- ends are proposed
pub timed_ended : (timers : Option Timers) (clocks : List ℕ) (o : Office) (gone rows : List SessionRow) → AreTimed timers clocks o rows → AreTimed timers clocks (ended_too gone o) rows
timed_ended timers clocks o gone rows t =
    let ends : List ℕ = reverse (map (λ (s : SessionRow). s.create) gone) in
    timed_still [] timers clocks clocks o (ended_too gone o) rows
    (λ s p. (
      pending_still (not (s.ttl_ms == 0)) (list_any (λ p. p == s.create) ends) (list_any (λ p. p == s.create) o.ended) (ap (λ b. not (s.ttl_ms == 0) && not b) (sym (list_any-append (λ p. p == s.create) ends o.ended)) ∙ p),
      same_time (over_at clocks o s),
    )) t

-- a look
pub timed_looked : (timers : Option Timers) (now : ℕ) (clocks : List ℕ) (o : Office) (rows : List SessionRow) → AreTimed timers clocks o rows → AreTimed timers clocks (looks_on now o) rows
timed_looked timers now clocks o rows t = go (nat_le o.reap now)
  where
    go : (b : Bool) → AreTimed timers clocks (cond b (record o { reap = now + reap_pause }) o) rows
    go true = timed_still [] timers clocks clocks o (record o { reap = now + reap_pause }) rows (λ s p. (p, same_time (over_at clocks o s))) t
    go false = t

-- a position that is not the one which is taken out stays
any_stays : (p q : ℕ) (ps : List ℕ) → q ≢ p → list_any (λ r. r == q) (filter (λ r. not (r == p)) ps) ≡ list_any (λ r. r == q) ps
any_stays p q [] d = refl
any_stays p q (r ∷ ps) d = go (r == p) refl (any_stays p q ps d)
  where
    off : (r == p) ≡ true → (r == q) ≡ false
    off e = other (r == q) refl
      where
        same : (a b : ℕ) → (a == b) ≡ true → a ≡ b
        same a b e = grind (arith, nat_tests)

        other : (b : Bool) → (r == q) ≡ b → b ≡ false
        other true f = absurd (d (sym (same r q f) ∙ same r p e))
        other false f = refl

    go : (b : Bool) → (r == p) ≡ b → list_any (λ r. r == q) (filter (λ r. not (r == p)) ps) ≡ list_any (λ r. r == q) ps
        → list_any (λ r. r == q) (cond (not b) (r ∷ filter (λ r. not (r == p)) ps) (filter (λ r. not (r == p)) ps)) ≡ ((r == q) || list_any (λ r. r == q) ps)
    go true e more = more ∙ sym (ap (λ b. b || list_any (λ r. r == q) ps) (off e))
    go false e more = ap (λ b. (r == q) || b) more

-- a session is renewed: only its timer can be late. No other session was made at the position of its creation.
pub timed_renewed : (timers : Option Timers) (now : ℕ) (clocks : List ℕ) (o : Office) (rows : List SessionRow) (row : SessionRow) → Ascends nat_cmp renewal_id o.renewals → Each (λ s. s.create ≡ row.create → s.id ≡ row.id) rows
    → AreTimed timers clocks o rows → AreTimedBut (row.id ∷ []) timers clocks (renew_in (Some row) now o) rows
timed_renewed None now clocks o rows row in_order apart t = tt
timed_renewed (Some timers) now clocks o rows row in_order apart t = each rows apart t
  where
    renewal : Renewal
    renewal = record { session = row.id; clock = now }

    one : (s : SessionRow) → (s.create ≡ row.create → s.id ≡ row.id) → IsTimed [] timers clocks o s → IsTimed (row.id ∷ []) timers clocks (renew_in (Some row) now o) s
    one s own f off p = later timers s.id (over_at clocks o s) (over_at clocks (renew_in (Some row) now o) s) no_sooner (f refl pending)
      where
        other : is_at (nat_cmp s.id) row.id ≡ false
        other = alone (is_at (nat_cmp s.id) row.id) off
          where
            alone : (b : Bool) → (b || false) ≡ false → b ≡ false
            alone true e = e
            alone false e = e

        position : s.create ≢ row.create
        position e = false≢true (sym other ∙ ap (is_at (nat_cmp s.id)) (sym (own e)) ∙ at_itself s.id)

        pending : is_pending o s ≡ true
        pending = ap (λ b. not (s.ttl_ms == 0) && not b) (sym (any_stays row.create s.create o.ended position)) ∙ p

        start : ttl_start s.id o.since (put nat_cmp renewal_id renewal o.renewals) ≡ ttl_start s.id o.since o.renewals
        start =
            start_is s.id o.since (put nat_cmp renewal_id renewal o.renewals) (Ascends-put nat_cmp renewal_id nat_cmp_total renewal o.renewals in_order)
            ∙ ap (λ r. latest r o.since) (row_at-put nat_cmp renewal_id nat_cmp_total exact_unsigned s.id renewal o.renewals)
            ∙ ap (λ b. latest (cond b (Some renewal) (row_at nat_cmp renewal_id s.id o.renewals)) o.since) other ∙ sym (start_is s.id o.since o.renewals in_order)

        no_sooner : over_at clocks o s ≤ over_at clocks (renew_in (Some row) now o) s
        no_sooner = let over = ap (λ n. max (applied_at clocks s.create) n + 2 * s.ttl_ms) start in omega (arith, over)

    each : (ss : List SessionRow) → Each (λ s. s.create ≡ row.create → s.id ≡ row.id) ss → Each (IsTimed [] timers clocks o) ss → Each (IsTimed (row.id ∷ []) timers clocks (renew_in (Some row) now o)) ss
    each [] a t = tt
    each (s ∷ ss) a t = (one s a.0 t.0, each ss a.1 t.1)

-- the ends of these are proposed, whichever sessions they are
pub timed_after_ends : (timers : Option Timers) (clocks : List ℕ) (o new : Office) (endings : List Ending) (rows : List SessionRow) → ((gone : List SessionRow) → endings ≡ map ending_of gone → new ≡ ended_too gone o) → AreTimed timers clocks o rows → AreTimed timers clocks new rows
timed_after_ends timers clocks o new endings rows made t = subst (λ (w : Office). AreTimed timers clocks w rows) (sym (made (map row_of endings) (ends_are endings))) (timed_ended timers clocks o (map row_of endings) rows t)

pub some_weaker : {A : Type 0} (P Q : A → Type 0) (o : Option A) → ((w : A) → P w → Q w) → IfSome o P → IfSome o Q
some_weaker P Q None f h = tt
some_weaker P Q (Some w) f h = f w h

pub ok_is : {T E : Type 0} (P : T → Type 0) (r : Result T E) (x : T) → Some x ≡ result_ok r → IfOk r P → P x
ok_is P (Ok v) x e h = let same : v ≡ x = cc in subst P same h
ok_is P (Err v) x e h = let clash : Some x ≡ None = e in absurd (cc clash)

pub is_own : (id other : ℕ) → other ≡ id → is_one_of id (other ∷ []) ≡ true
is_own id other e = ap (λ n. is_at (nat_cmp id) n || false) e ∙ ap (λ b. b || false) (at_itself id)
