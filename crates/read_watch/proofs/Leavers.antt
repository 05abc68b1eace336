-- Who sleeps on at a server, when some sleep no more, and when one more begins to.
use Rattle.std.proofs.Common.{◌≡◌, ◌≢◌, ℕ, zero, suc, ◌<◌, ◌≤◌, ◌^◌, ◌⊎◌, inl, inr, Bool, true, false, cond, not, List, [], ◌∷◌, refl, sym, ◌∙◌, ap, subst, map, filter, arith, Contains, Some, None, nat_le}
use Rattle.std.specs.List.{AllByRecursion}
use Rattle.std.specs.Ordering.{nat_cmp}
use Rattle.std.specs.Map.{lookup, remove_entry}
use Rattle.std.specs.BTreeMap.{is_at, insert_entry}
use Rattle.std.proofs.lemmas.Bool.{leb-true, leb-false}
use Rattle.cat_model.specs.Reach.{is_on}
use Rattle.cat_model.specs.declared.query.Chan.{Chan}
use Rattle.timer_wheel.specs.Dues.{AreDue}
use Rattle.read_watch.specs.Watch.{Sleepers, SleepsAmong, Leave, OthersStay, AreNumbers, IsOver, is_among}
use Rattle.timer_wheel.proofs.Lookups.{found_without, found_new, found_beside, found_passing}
use Rattle.read_watch.proofs.Lookups.{numbers_new, numbers_without, number_found}
use Rattle.read_watch.proofs.Members.{listed, passing_listed}

abbrev pub sleepers : List (ℕ × List Chan) → List (ℕ × ℕ) → Sleepers
sleepers registry timers = record { asleep = registry; timers = timers }

-- channels were fired
pub fired_leave : (fired : List Chan) (before : Sleepers) (registry registry' : List (ℕ × List Chan)) (timers timers' : List (ℕ × ℕ)) (hit hit' : List ℕ) → sleepers registry timers ≡ before
    → hit ≡ map (λ w. w.0) (filter (λ w. is_on fired w.1) registry) → registry' ≡ filter (λ w. not (is_on fired w.1)) registry → hit' ≡ hit
    → ((n : ℕ) → is_among n hit' ≡ false → lookup (is_at (nat_cmp n)) timers' ≡ lookup (is_at (nat_cmp n)) timers)
    → Leave (λ chans _. is_on fired chans ≡ false) hit before (sleepers registry' timers')
fired_leave fired before registry registry' timers timers' hit hit' e are left same others = record { each = λ n chans deadline s. each n chans deadline (subst (SleepsAmong n chans deadline) (sym e) s) }
  where
    each : (n : ℕ) (chans : List Chan) (deadline : ℕ) → SleepsAmong n chans deadline (sleepers registry timers) → Contains hit n ⊎ (SleepsAmong n chans deadline (sleepers registry' timers') × (is_on fired chans ≡ false))
    each n chans deadline s = go (is_on fired chans) refl (is_among n hit) refl
      where
        go : (b : Bool) → is_on fired chans ≡ b → (c : Bool) → is_among n hit ≡ c → Contains hit n ⊎ (SleepsAmong n chans deadline (sleepers registry' timers') × (is_on fired chans ≡ false))
        go true on c m = inl (subst (λ l. Contains l n) (sym are) (passing_listed (is_on fired) n chans registry s.hangs on))
        go false off true m = inl (listed n hit m)
        go false off false m = inr (
          record {
            hangs = ap (lookup (is_at (nat_cmp n))) left ∙ found_passing (is_at (nat_cmp n)) (λ c. not (is_on fired c)) chans registry s.hangs (ap not off);
            until = others n (ap (is_among n) same ∙ m) ∙ s.until;
          },
          off,
        )

contains_map : (f : ℕ × ℕ → ℕ) (x : ℕ × ℕ) (xs : List (ℕ × ℕ)) → Contains xs x → Contains (map f xs) (f x)
contains_map f x [] h = absurd (omega (arith, h.1))
contains_map f x (y ∷ xs) (zero, low, e) = (zero, omega arith, ap f e)
contains_map f x (y ∷ xs) (suc k, low, e) = let more : Contains (map f xs) (f x) = contains_map f x xs (k, omega (arith, low), e) in (suc more.0, omega (arith, more.1), more.2)

-- the time of a timer that is due is among the keys
due_listed : (timers : List (ℕ × ℕ)) (clock n deadline : ℕ) (keys : List ℕ) → AreDue timers clock keys → lookup (is_at (nat_cmp n)) timers ≡ Some deadline → deadline ≤ clock → Contains keys n
due_listed timers clock n deadline keys due h low = subst (λ l. Contains l n) (sym due.keys_are) (contains_map (λ d. d.1) (deadline, n) due.dues ((due.exact (deadline, n)).1 (h, low)))

-- a clock went on
pub over_leave : (clock : ℕ) (before : Sleepers) (registry registry' : List (ℕ × List Chan)) (timers timers' : List (ℕ × ℕ)) (over over' : List ℕ) → sleepers registry timers ≡ before
    → AreDue timers clock over → timers' ≡ filter (λ t. not (nat_le t.1 clock)) timers → over' ≡ over
    → ((n : ℕ) → is_among n over' ≡ false → lookup (is_at (nat_cmp n)) registry' ≡ lookup (is_at (nat_cmp n)) registry)
    → Leave (λ _ deadline. clock < deadline) over before (sleepers registry' timers')
over_leave clock before registry registry' timers timers' over over' e due left same others = record { each = λ n chans deadline s. each n chans deadline (subst (SleepsAmong n chans deadline) (sym e) s) }
  where
    each : (n : ℕ) (chans : List Chan) (deadline : ℕ) → SleepsAmong n chans deadline (sleepers registry timers) → Contains over n ⊎ (SleepsAmong n chans deadline (sleepers registry' timers') × (clock < deadline))
    each n chans deadline s = go (nat_le deadline clock) refl (is_among n over) refl
      where
        go : (b : Bool) → nat_le deadline clock ≡ b → (c : Bool) → is_among n over ≡ c → Contains over n ⊎ (SleepsAmong n chans deadline (sleepers registry' timers') × (clock < deadline))
        go true late c m = inl (due_listed timers clock n deadline over due s.until (leb-true deadline clock late))
        go false early true m = inl (listed n over m)
        go false early false m = inr (
          record {
            hangs = others n (ap (is_among n) same ∙ m) ∙ s.hangs;
            until = ap (lookup (is_at (nat_cmp n))) left ∙ found_passing (is_at (nat_cmp n)) (λ t. not (nat_le t clock)) deadline timers s.until (ap not early);
          },
          leb-false deadline clock early,
        )

contains_unmap : (f : ℕ × ℕ → ℕ) (n : ℕ) (xs : List (ℕ × ℕ)) → Contains (map f xs) n → (x : ℕ × ℕ) × Contains xs x × (f x ≡ n)
contains_unmap f n [] h = absurd (omega (arith, h.1))
contains_unmap f n (x ∷ xs) (zero, low, e) = (x, (zero, omega arith, refl), e)
contains_unmap f n (x ∷ xs) (suc k, low, e) = let more : (y : ℕ × ℕ) × Contains xs y × (f y ≡ n) = contains_unmap f n xs (k, omega (arith, low), e) in (more.0, (suc more.1.0, omega (arith, more.1.1), more.1.2), more.2)

-- a key that is due is that of a timer whose time has come
pub due_over : (timers : List (ℕ × ℕ)) (clock n : ℕ) (keys : List ℕ) → AreDue timers clock keys → Contains keys n → IsOver n clock timers
due_over timers clock n keys due h =
    let found : (d : ℕ × ℕ) × Contains due.dues d × (d.1 ≡ n) = contains_unmap (λ d. d.1) n due.dues (subst (λ l. Contains l n) due.keys_are h) in
    let is : (lookup (is_at (nat_cmp found.0.1)) timers ≡ Some found.0.0) × (found.0.0 ≤ clock) = (due.exact found.0).0 found.1 in
    (found.0.0, subst (λ k. lookup (is_at (nat_cmp k)) timers ≡ Some found.0.0) found.2 is.0, is.1)

-- a read sleeps on its own channels until its own time
pub as_said : (n : ℕ) (cs chans : List Chan) (d deadline : ℕ) (s : Sleepers) → SleepsAmong n chans deadline s → SleepsAmong n cs d s → (cs ≡ chans) × (d ≡ deadline)
as_said n cs chans d deadline s a b =
    let p : Some cs ≡ Some chans = sym b.hangs ∙ a.hangs in
    let q : Some d ≡ Some deadline = sym b.until ∙ a.until in
    (cc, cc)

pub not_asleep : (n : ℕ) (cs : List Chan) (d : ℕ) (s : Sleepers) → lookup (is_at (nat_cmp n)) s.asleep ≡ None → SleepsAmong n cs d s → ⊥
not_asleep n cs d s h b = let p : None ≡ Some cs = sym h ∙ b.hangs in cc

-- the keys of timers that are due are numbers of requests
pub keys_fit : (timers : List (ℕ × ℕ)) (clock : ℕ) (keys : List ℕ) → AreNumbers timers → AreDue timers clock keys → AllByRecursion (λ k. k < 2 ^ 64) keys
keys_fit timers clock keys f due = subst (AllByRecursion (λ k. k < 2 ^ 64)) (sym due.keys_are) (all due.dues (λ d c. number_found d.1 d.0 timers f ((due.exact d).0 c).0))
  where
    all : (ds : List (ℕ × ℕ)) → ((d : ℕ × ℕ) → Contains ds d → d.1 < 2 ^ 64) → AllByRecursion (λ k. k < 2 ^ 64) (map (λ d. d.1) ds)
    all [] h = tt
    all (d ∷ ds) h = (h d (zero, omega arith, refl), all ds (λ x c. h x (suc c.0, omega (arith, c.1), c.2)))

-- a read sleeps no more
pub forgotten : (number key : ℕ) (before : Sleepers) (registry registry' : List (ℕ × List Chan)) (timers timers' : List (ℕ × ℕ)) → sleepers registry timers ≡ before → key ≡ number
    → registry' ≡ remove_entry (is_at (nat_cmp number)) registry → timers' ≡ remove_entry (is_at (nat_cmp key)) timers → OthersStay number before (sleepers registry' timers')
forgotten number key before registry registry' timers timers' e k left gone = record { each = λ n chans deadline d s. each n chans deadline d (subst (SleepsAmong n chans deadline) (sym e) s) }
  where
    each : (n : ℕ) (chans : List Chan) (deadline : ℕ) → n ≢ number → SleepsAmong n chans deadline (sleepers registry timers) → SleepsAmong n chans deadline (sleepers registry' timers')
    each n chans deadline d s = record {
      hangs = ap (lookup (is_at (nat_cmp n))) left ∙ found_without n number registry d ∙ s.hangs;
      until = ap (lookup (is_at (nat_cmp n))) gone ∙ found_without n key timers (λ q. d (q ∙ k)) ∙ s.until;
    }

-- a read begins to sleep, or nothing is left of it
module _ (b : Bool) (number : ℕ) where
  pub hung : (chans : List Chan) (registry registry' : List (ℕ × List Chan)) → registry' ≡ cond b (insert_entry nat_cmp registry number chans) registry → b ≡ true → lookup (is_at (nat_cmp number)) registry' ≡ Some chans
  hung chans registry registry' e h = ap (lookup (is_at (nat_cmp number))) (e ∙ ap (λ t. cond t (insert_entry nat_cmp registry number chans) registry) h) ∙ found_new number chans registry

  hung_beside : (chans : List Chan) (registry registry' : List (ℕ × List Chan)) → registry' ≡ cond b (insert_entry nat_cmp registry number chans) registry → (n : ℕ) → n ≢ number → lookup (is_at (nat_cmp n)) registry' ≡ lookup (is_at (nat_cmp n)) registry
  hung_beside chans registry registry' e n d = ap (lookup (is_at (nat_cmp n))) e ∙ go b
    where
      go : (t : Bool) → lookup (is_at (nat_cmp n)) (cond t (insert_entry nat_cmp registry number chans) registry) ≡ lookup (is_at (nat_cmp n)) registry
      go true = found_beside n number chans registry d
      go false = refl

  pub rested : (chans : List Chan) (before mid : Sleepers) (registry registry' : List (ℕ × List Chan)) (timers timers' : List (ℕ × ℕ)) → OthersStay number before mid → sleepers registry timers ≡ mid
      → registry' ≡ cond b (insert_entry nat_cmp registry number chans) registry → ((n : ℕ) → n ≢ number → lookup (is_at (nat_cmp n)) timers' ≡ lookup (is_at (nat_cmp n)) timers) → OthersStay number before (sleepers registry' timers')
  rested chans before mid registry registry' timers timers' o e r t = record { each = λ n cs deadline d s. each n cs deadline d (subst (SleepsAmong n cs deadline) (sym e) (o.each n cs deadline d s)) }
    where
      each : (n : ℕ) (cs : List Chan) (deadline : ℕ) → n ≢ number → SleepsAmong n cs deadline (sleepers registry timers) → SleepsAmong n cs deadline (sleepers registry' timers')
      each n cs deadline d s = record { hangs = hung_beside chans registry registry' r n d ∙ s.hangs; until = t n d ∙ s.until }

  module _ (deadline : ℕ) (timers timers' timers'' : List (ℕ × ℕ)) (set : timers' ≡ insert_entry nat_cmp timers number deadline) (end : timers'' ≡ cond b timers' (remove_entry (is_at (nat_cmp number)) timers')) where
    pub set_until : b ≡ true → lookup (is_at (nat_cmp number)) timers'' ≡ Some deadline
    set_until h = ap (lookup (is_at (nat_cmp number))) (end ∙ ap (λ t. cond t timers' (remove_entry (is_at (nat_cmp number)) timers')) h ∙ set) ∙ found_new number deadline timers

    pub set_beside : (n : ℕ) → n ≢ number → lookup (is_at (nat_cmp n)) timers'' ≡ lookup (is_at (nat_cmp n)) timers
    set_beside n d = ap (lookup (is_at (nat_cmp n))) end ∙ go b ∙ ap (lookup (is_at (nat_cmp n))) set ∙ found_beside n number deadline timers d
      where
        go : (t : Bool) → lookup (is_at (nat_cmp n)) (cond t timers' (remove_entry (is_at (nat_cmp number)) timers')) ≡ lookup (is_at (nat_cmp n)) timers'
        go true = refl
        go false = found_without n number timers' d

    pub set_numbers : number < 2 ^ 64 → AreNumbers timers → AreNumbers timers''
    set_numbers f h = subst AreNumbers (sym end) (go b)
      where
        with_it : AreNumbers timers'
        with_it = subst AreNumbers (sym set) (numbers_new number deadline timers f h)

        go : (t : Bool) → AreNumbers (cond t timers' (remove_entry (is_at (nat_cmp number)) timers'))
        go true = with_it
        go false = numbers_without (is_at (nat_cmp number)) timers' with_it
