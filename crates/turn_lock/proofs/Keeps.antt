-- Each step of a turn keeps the rule.
use Rattle.std.proofs.Common.{◌≡◌, ℕ, zero, suc, ◌+◌, ◌%◌, ◌^◌, ◌<◌, ◌≤◌, ◌⊎◌, List, [], ◌∷◌, ◌++◌, length, set, get_or, drop, nat_lt, if◌then◌else◌, Bool, true, false, Option, Some, None, refl, ap, sym, ◌∙◌, subst, inl, inr, ⊎_elim, arith}
use Rattle.std.proofs.Math.Nat.{mod-add-mod}
use Rattle.std.proofs.Math.Seq.{drop-append_seam}
use Rattle.std.proofs.lemmas.List.{append-nil}
use Rattle.std.proofs.lemmas.Bool.{cases_Bool, false_from_ne_true, false≢true, ltb-true, ltb-false}
use mathlib.Core.Logic.{dite}
use mathlib.Core.Option.{some, none, some-injective, some-ne-none}
use native.Mathlib.Decide.{ℕ_discrete}
use lib.ListN.{get_elem?}
use Rattle.atomic_table.specs.Table.{State, Me, Act, keeps, takes, gives, step, stepped, Valid, carried_after, Allows, Splits, Joins}
use Rattle.atomic_table.proofs.Lists.{at_set, at_snoc, set_again, set_else, at_longer, one_turn}
use Rattle.turn_lock.specs.declared.knowledge.Knowledge.{Knowledge}
use Rattle.turn_lock.specs.Lists.{Among, AreFronts, EachOnce, numbers, total, Extends, OpensAll, OpensOnly}
use Rattle.turn_lock.specs.Rule.{all_shares, newcomer, founder, IsSomeones, waiting, having, passed, noted, IsTrue, Differ, IsHome, IsOut, IsKept, given, left, right, longer, both, Draws, Comes, Awaits, Leaves}
use Rattle.turn_lock.proofs.Lists.{among_append, among_left, among_right, numbers_append, once_apart, total_set, total_snoc, total_le, total_two, set_at, each_set, each_snoc, extends_more, fronts_both, fronts_longer, untouched_longer}

module _ {S I : Type 0} (items : S → List I) (opens closes : I → Option ℕ) where
  abbrev V : Type 0
  V = Knowledge I

  abbrev St : Type 0
  St = State (Option S) V

  abbrev M : Type 0
  M = Me (Option S) V

  abbrev Rule : St → Type 0
  Rule = IsKept items opens closes

  abbrev F : ℕ → ℕ → List I → V → Type 0
  F = IsTrue opens closes

  abbrev D : V → V → Type 0
  D = Differ opens closes

  abbrev shares_of : V → ℕ
  shares_of v = v.shares

  abbrev waits_of : V → ℕ
  waits_of v = v.waits

  differ_sym : (v w : V) → D v w → D w v
  differ_sym v w d = ((λ a b e. d.0 b a (sym e)), (λ n a b. d.1 n b a))

  abbrev Apart : List V → Type 0
  Apart vs = (i j : ℕ) (v w : V) → (i ≡ j → ⊥) → get_elem? vs i ≡ some v → get_elem? vs j ≡ some w → D v w

  -- after one view has changed
  apart_but : (vs : List V) (id : ℕ) (w : V) → ((i j : ℕ) (v w : V) → (i ≡ j → ⊥) → (i ≡ id → ⊥) → (j ≡ id → ⊥) → get_elem? vs i ≡ some v → get_elem? vs j ≡ some w → D v w) → ((j : ℕ) (u : V) → (j ≡ id → ⊥) → get_elem? vs j ≡ some u → D w u) → Apart (set vs id w)
  apart_but vs id w old mine i j u z ne at bt =
      ⊎_elim
      (λ (a : (i ≡ id) × (w ≡ u)). ⊎_elim
      (λ (b : (j ≡ id) × (w ≡ z)). absurd (ne (a.0 ∙ sym b.0)))
      (λ (b : (j ≡ id → ⊥) × (get_elem? vs j ≡ some z)). subst (λ (x : V). D x z) a.1 (mine j z b.0 b.1))
      (at_set vs id j w z bt))
      (λ (a : (i ≡ id → ⊥) × (get_elem? vs i ≡ some u)). ⊎_elim
      (λ (b : (j ≡ id) × (w ≡ z)). differ_sym z u (subst (λ (x : V). D x u) b.1 (mine i u a.0 a.1)))
      (λ (b : (j ≡ id → ⊥) × (get_elem? vs j ≡ some z)). old i j u z ne a.0 b.0 a.1 b.1)
      (at_set vs id j w z bt))
      (at_set vs id i w u at)

  apart_set : (vs : List V) (id : ℕ) (w : V) → Apart vs → ((j : ℕ) (u : V) → (j ≡ id → ⊥) → get_elem? vs j ≡ some u → D w u) → Apart (set vs id w)
  apart_set vs id w old mine = apart_but vs id w (λ i j u z ne _ _ at bt. old i j u z ne at bt) mine

  -- a number is still someone's after one view has changed to one that has at least as many
  someones_set : (vs : List V) (id : ℕ) (v w : V) → get_elem? vs id ≡ some v → (n : ℕ) → (Among n v.mine → Among n w.mine) → IsSomeones vs n → IsSomeones (set vs id w) n
  someones_set vs id v w at n more o = dite (ℕ_discrete o.0 id)
      (λ (e : o.0 ≡ id). let here : get_elem? vs id ≡ some o.1 = subst (λ (k : ℕ). get_elem? vs k ≡ some o.1) e o.2 in
      (id, w, set_at vs id v w at, more (subst (λ (x : V). Among n x.mine) (some-injective o.1 v (sym here ∙ at)) o.3)))
      (λ (ne : o.0 ≡ id → ⊥). (o.0, o.1, set_else vs id o.0 w ne ∙ o.2, o.3))

  -- the slot, where the view keeps its turn or keeps having none
  slot_same : (ws : List ℕ) (s : St) (log : List I) (id : ℕ) (v w : V) → get_elem? s.views id ≡ some v → w.turn ≡ v.turn → IsHome items opens closes s log ⊎ IsOut items opens closes s
      → IsHome items opens closes record { words = ws; homes = s.homes; views = set s.views id w } log ⊎ IsOut items opens closes record { words = ws; homes = s.homes; views = set s.views id w }
  slot_same ws s log id v w at same slot = ⊎_elim
      (λ (h : IsHome items opens closes s log). inl (h.0, h.1, h.2, each_set (λ (u : V). u.turn ≡ false) s.views id w (same ∙ h.3 id v at) (λ j u _ e. h.3 j u e)))
      (λ (o : IsOut items opens closes s). inr (dite (ℕ_discrete o.0 id)
      (λ (e : o.0 ≡ id). let here : get_elem? s.views id ≡ some o.1 = subst (λ (k : ℕ). get_elem? s.views k ≡ some o.1) e o.2 in
      let u : v ≡ o.1 = some-injective v o.1 (sym at ∙ here) in (id, w, set_at s.views id v w at, same ∙ (ap (λ (x : V). x.turn) u ∙ o.3), o.4))
      (λ (ne : o.0 ≡ id → ⊥). (o.0, o.1, set_else s.views id o.0 w ne ∙ o.2, o.3, o.4))))
      slot

  -- the queue, when one view has changed
  abbrev Queue : ℕ → ℕ → List V → Type 0
  Queue served drawn vs = (total shares_of vs ≤ 2 ^ 63) × (served + total waits_of vs ≡ drawn)

  queue_set : (served drawn served' drawn' id : ℕ) (vs : List V) (v w : V) → get_elem? vs id ≡ some v → Queue served drawn vs → w.shares ≡ v.shares → served' + drawn + w.waits ≡ served + drawn' + v.waits → Queue served' drawn' (set vs id w)
  queue_set served drawn served' drawn' id vs v w at q p k = let a = total_set shares_of vs id v w at in let b = total_set waits_of vs id v w at in let c = q.0 in let d = q.1 in (omega arith, omega arith)

  -- tickets are less than 2^64 apart
  near : (s : St) (r : Rule s) → r.drawn ≤ r.served + 2 ^ 63
  near s r = let a = total_le waits_of shares_of s.views (λ j v at. (r.each j v at).shared) in let b = r.shares in let c = r.count in omega arith

  pub draws : (slots id : ℕ) (m : M) → m.0.waits ≡ 0 → m.0.turn ≡ false → 0 < m.0.shares → Allows Rule slots id m 0 (λ n. (n + 1) % 2 ^ 64) (Draws items opens closes (step slots 0 1 0 none) m)
  draws slots id m idle calm part s r _ at _ =
      let v : V = m.0 in let w : V = waiting v r.drawn in
      let found : get_or s.words 0 0 ≡ r.drawn % 2 ^ 64 = ap (λ (ws : List ℕ). get_or ws 0 0) r.words in
      let fit = r.each id v at in
      let q = queue_set r.served r.drawn r.served (r.drawn + 1) id s.views v w at (r.shares, r.count) refl (omega arith) in (
        w,
        keeps,
        tt,
        record {
          drawn = r.drawn + 1;
          served = r.served;
          log = r.log;
          words = (λ i. set (r.words i) 0 ((found i + 1) % 2 ^ 64)) ∙ ap (λ (k : ℕ). k ∷ (r.served % 2 ^ 64) ∷ []) (mod-add-mod r.drawn (2 ^ 64) 1);
          shares = q.0;
          count = q.1;
          each = each_set (F r.served (r.drawn + 1) r.log) s.views id w
              record { shared = omega arith; queued = λ _. (omega (arith, r.count), omega arith); turned = λ e. absurd (false≢true (sym calm ∙ e)); grown = fit.grown; own = fit.own; bare = fit.bare; fronts = fit.fronts }
              (λ j u ne bt. let f = r.each j u bt in record { shared = f.shared; queued = λ h. let a = f.queued h in (a.0, omega (arith, a.1)); turned = f.turned; grown = f.grown; own = f.own; bare = f.bare; fronts = f.fronts });
          apart = apart_set s.views id w r.apart (λ j u ne bt. let f = r.each j u bt in
              ((λ _ h e. let a = (f.queued h).1 in omega arith), (r.apart id j v u (λ e. ne (sym e)) at bt).1));
          whole = λ n a. someones_set s.views id v w at n (λ b. b) (r.whole n a);
          slot = slot_same (set s.words 0 ((get_or s.words 0 0 + 1) % 2 ^ 64)) s r.log id v w at refl r.slot;
        },
        (found, refl),
      )

  -- who else has a turn, where this pass waits for the ticket that is served
  only_turn : (s : St) (r : Rule s) (id j : ℕ) (v u : V) → get_elem? s.views id ≡ some v → get_elem? s.views j ≡ some u → 0 < v.waits → v.ticket ≡ r.served → u.turn ≡ true → (j ≡ id → ⊥) → ⊥
  only_turn s r id j v u at bt wait mine has ne = let t = (r.each j u bt).turned has in let d = (r.apart id j v u (λ e. ne (sym e)) at bt).0 in let one = t.0 in d wait (omega arith) (mine ∙ sym t.1)

  -- a step that changes nothing
  unchanged : (s : St) (r : Rule s) (i id : ℕ) (v : V) (c : List (ℕ × Option S)) (n : ℕ) → get_elem? s.views id ≡ some v → set s.words i n ≡ s.words → Rule (stepped s i n id c v keeps)
  unchanged s r i id v c n at same = let a : s.words ≡ set s.words i n = sym same in let b : s.views ≡ set s.views id v = sym (set_again s.views id v at) in subst Rule (λ k. record { words = a k; homes = s.homes; views = b k }) r

  -- the numbers of a pass are opened in the whole list
  own_all : (s : St) (r : Rule s) (id : ℕ) (v : V) → get_elem? s.views id ≡ some v → OpensAll opens v.mine r.log
  own_all s r id v at n a = let f = r.each id v at in let g = f.grown in
      subst (Among n) (sym (ap (numbers opens) g.1 ∙ numbers_append opens v.seen g.0)) (among_left n (numbers opens v.seen) (numbers opens g.0) (f.own n a))

  -- a pass with all shares has each number that the list opens
  only_own : (s : St) (r : Rule s) (id : ℕ) (v : V) → get_elem? s.views id ≡ some v → all_shares ≤ v.shares → OpensOnly opens v.mine r.log
  only_own s r id v at all n a = let o = r.whole n a in dite (ℕ_discrete o.0 id)
      (λ (e : o.0 ≡ id). let here : get_elem? s.views id ≡ some o.1 = subst (λ (k : ℕ). get_elem? s.views k ≡ some o.1) e o.2 in
      subst (λ (x : V). Among n x.mine) (some-injective o.1 v (sym here ∙ at)) o.3)
      (λ (ne : o.0 ≡ id → ⊥). let t = total_two shares_of s.views id o.0 v o.1 (λ e. ne (sym e)) at o.2 in let b = (r.each o.0 o.1 o.2).bare n o.3 in let p = r.shares in absurd (omega arith))

  comes : (s : St) (r : Rule s) (id : ℕ) (v : V) (n : ℕ) → get_elem? s.views id ≡ some v → v.waits ≡ 1 → v.turn ≡ false → v.ticket ≡ r.served → set s.words 1 n ≡ s.words
      → (w : V) × (a : Act (Option S)) × Valid s.homes [] a × Rule (stepped s 1 n id [] w a) × Comes items opens closes (v, []) (w, carried_after [] a)
  comes s r id v n at wait calm mine same = let fit = r.each id v at in ⊎_elim
      (λ (h : IsHome items opens closes s r.log). let w : V = having v (items h.0) in (
        w,
        takes 0 (Some h.0),
        ap (λ l. get_elem? l 0) h.1,
        record {
          drawn = r.drawn;
          served = r.served;
          log = r.log;
          words = same ∙ r.words;
          shares = (queue_set r.served r.drawn r.served r.drawn id s.views v w at (r.shares, r.count) refl refl).0;
          count = (queue_set r.served r.drawn r.served r.drawn id s.views v w at (r.shares, r.count) refl refl).1;
          each = each_set (F r.served r.drawn r.log) s.views id w
              record { shared = fit.shared; queued = fit.queued; turned = λ _. (wait, mine, h.2); grown = subst (λ (l : List I). Extends opens closes v.mine l r.log) (sym h.2) ([], sym (append-nil r.log), λ n a. ((λ z. z), (λ z. z))); own = λ k a. subst (λ (l : List I). Among k (numbers opens l)) (sym h.2) (own_all s r id v at k a); bare = fit.bare; fronts = fit.fronts }
              (λ j u ne bt. r.each j u bt);
          apart = apart_set s.views id w r.apart (λ j u ne bt. r.apart id j v u (λ e. ne (sym e)) at bt);
          whole = λ k a. someones_set s.views id v w at k (λ b. b) (r.whole k a);
          slot = inr (id, w, set_at s.views id v w at, refl, ap (λ l. set l 0 none) h.1);
        },
        (
          h.0,
          refl,
          subst (λ (l : List I). Extends opens closes v.mine v.seen l) (sym h.2) fit.grown,
          subst (λ (l : List I). AreFronts v.told l) (sym h.2) fit.fronts,
          subst (λ (l : List I). OpensAll opens v.mine l) (sym h.2) (own_all s r id v at),
          λ all. subst (λ (l : List I). OpensOnly opens v.mine l) (sym h.2) (only_own s r id v at all),
        ),
      ))
      (λ (o : IsOut items opens closes s). dite (ℕ_discrete o.0 id)
      (λ (e : o.0 ≡ id). let here : get_elem? s.views id ≡ some o.1 = subst (λ (k : ℕ). get_elem? s.views k ≡ some o.1) e o.2 in
      absurd (false≢true (sym calm ∙ (ap (λ (x : V). x.turn) (some-injective v o.1 (sym at ∙ here)) ∙ o.3))))
      (λ (ne : o.0 ≡ id → ⊥). absurd (only_turn s r id o.0 v o.1 at o.2 (omega arith) mine o.3 ne)))
      r.slot

  pub awaits : (slots id : ℕ) (m : M) → m.1 ≡ [] → m.0.waits ≡ 1 → m.0.turn ≡ false → Allows Rule slots id m 1 (λ n. n) (Awaits items opens closes (step slots 1 0 0 none) m)
  awaits slots id m empty wait calm s r _ at _ =
      let v : V = m.0 in
      let n : ℕ = get_or s.words 1 0 in
      let found : n ≡ r.served % 2 ^ 64 = ap (λ (ws : List ℕ). get_or ws 1 0) r.words in
      let same : set s.words 1 n ≡ s.words = (λ i. set (r.words i) 1 (found i)) ∙ sym r.words in
      dite (ℕ_discrete n (v.ticket % 2 ^ 64))
      (λ (hit : n ≡ v.ticket % 2 ^ 64). let q = (r.each id v at).queued (omega arith) in
      let mine : r.served ≡ v.ticket = one_turn r.served v.ticket (2 ^ 64) q.0 (omega (arith, near s r, q.1)) (sym found ∙ hit) in
      let t = comes s r id v n at wait calm (sym mine) same in
      let P : List (ℕ × Option S) → Type 0 = λ c. (w : V) × (a : Act (Option S)) × Valid s.homes c a × Rule (stepped s 1 n id c w a) × Awaits items opens closes (step slots 1 0 0 none) (v, c) n (w, carried_after c a) in
      subst P (sym empty) (t.0, t.1, t.2, t.3, ((λ _. t.4), λ miss. absurd (miss hit))))
      (λ (miss : n ≡ v.ticket % 2 ^ 64 → ⊥). (v, keeps, tt, unchanged s r 1 id v m.1 n at same, ((λ hit. absurd (miss hit)), λ _. refl)))

  out : (s : St) (r : Rule s) (id : ℕ) (v : V) → get_elem? s.views id ≡ some v → v.turn ≡ true → s.homes ≡ none ∷ []
  out s r id v at has = ⊎_elim (λ (h : IsHome items opens closes s r.log). absurd (false≢true (sym (h.3 id v at) ∙ has))) (λ (o : IsOut items opens closes s). o.4) r.slot

  -- what the turn adds may be added
  abbrev pub MayAdd : V → List I → List I → Type 0
  MayAdd v xs rest = (xs ≡ v.seen ++ rest) × EachOnce (numbers opens xs) × ((n : ℕ) → Among n (numbers closes rest) → Among n (v.mine ++ numbers opens rest))

  abbrev pub in_hand : List (ℕ × Option S) → Option S
  in_hand [] = None
  in_hand (c ∷ cs) = c.1

  abbrev pub items_or : List I → Option S → List I
  items_or l None = l
  items_or l (Some x) = items x

  -- the list of the state in hand is added to, and the next ticket is served
  pub leaves : (slots id : ℕ) (m : M) (x : S) (rest : List I) (k : ℕ) → m.1 ≡ (0, Some x) ∷ [] → m.0.turn ≡ true → MayAdd m.0 (items x) rest → k ≡ 1
      → Allows Rule slots id m 1 (λ n. (n + k) % 2 ^ 64) (Leaves items opens closes (step slots 1 k 0 none) m)
  leaves slots id m x rest k holds has may one s r _ at _ =
      let xs : List I = items x in
      let v : V = m.0 in let w : V = passed (noted opens closes v xs) in
      let n : ℕ = get_or s.words 1 0 in
      let found : n ≡ r.served % 2 ^ 64 = ap (λ (ws : List ℕ). get_or ws 1 0) r.words in
      let fit = r.each id v at in
      let t = fit.turned has in
      let t0 : v.waits ≡ 1 = t.0 in
      let grown : xs ≡ r.log ++ rest = may.0 ∙ ap (λ l. l ++ rest) t.2 in
      let more : drop (length v.seen) xs ≡ rest = ap (drop (length v.seen)) may.0 ∙ drop-append_seam v.seen rest in
      let mine : w.mine ≡ v.mine ++ numbers opens rest = ap (λ l. v.mine ++ numbers opens l) more in
      let opened : numbers opens xs ≡ numbers opens r.log ++ numbers opens rest = ap (numbers opens) grown ∙ numbers_append opens r.log rest in
      let once : (n : ℕ) → Among n (numbers opens r.log) → Among n (numbers opens rest) → ⊥ = λ n. once_apart n (numbers opens r.log) (numbers opens rest) (subst EachOnce opened may.1) in
      let q = queue_set r.served r.drawn (r.served + 1) r.drawn id s.views v w at (r.shares, r.count) refl (omega arith) in
      let none_else : (j : ℕ) (u : V) → (j ≡ id → ⊥) → get_elem? s.views j ≡ some u → u.turn ≡ false = λ j u ne bt. false_from_ne_true u.turn (λ e. only_turn s r id j v u at bt (omega arith) t.1 e ne) in
      let foreign : (j : ℕ) (u : V) → (j ≡ id → ⊥) → get_elem? s.views j ≡ some u → (n : ℕ) → Among n u.mine → Among n (v.mine ++ numbers opens rest) → ⊥
      = λ j u ne bt n a b. ⊎_elim (λ (c : Among n v.mine). (r.apart id j v u (λ e. ne (sym e)) at bt).1 n c a) (λ (c : Among n (numbers opens rest)). once n (own_all s r j u bt n a) c)
      (among_append n v.mine (numbers opens rest) b) in
      let P : List (ℕ × Option S) → Type 0 = λ c. (w : V) × (a : Act (Option S)) × Valid s.homes c a × Rule (stepped s 1 ((n + k) % 2 ^ 64) id c w a) × Leaves items opens closes (step slots 1 k 0 none) (v, c) n (w, carried_after c a) in
      subst P (sym holds) (
        w,
        gives,
        tt,
        record {
          drawn = r.drawn;
          served = r.served + 1;
          log = xs;
          words = (λ i. set (r.words i) 1 ((found i + one i) % 2 ^ 64)) ∙ ap (λ (l : ℕ). (r.drawn % 2 ^ 64) ∷ l ∷ []) (mod-add-mod r.served (2 ^ 64) 1);
          shares = q.0;
          count = q.1;
          each = each_set (F (r.served + 1) r.drawn xs) s.views id w
              record {
                shared = omega arith;
                queued = λ h. absurd (omega arith);
                turned = λ e. absurd (false≢true e);
                grown = ([], sym (append-nil xs), λ n a. ((λ z. z), (λ z. z)));
                own = λ n a. subst (Among n) (sym opened) (⊎_elim (λ (c : Among n v.mine). among_left n (numbers opens r.log) (numbers opens rest) (own_all s r id v at n c)) (λ (c : Among n (numbers opens rest)). among_right n (numbers opens r.log) (numbers opens rest) c)
                    (among_append n v.mine (numbers opens rest) (subst (Among n) mine a)));
                bare = λ n a. let b = fit.shared in omega (arith, t0);
                fronts = subst (AreFronts v.told) (sym grown) (fronts_longer v.told r.log rest fit.fronts);
              }
              (λ j u ne bt. let f = r.each j u bt in record {
                shared = f.shared;
                queued = λ h. let a = f.queued h in let b = (r.apart id j v u (λ e. ne (sym e)) at bt).0 (omega arith) h in
                    (dite (ℕ_discrete u.ticket r.served) (λ e. absurd (b (t.1 ∙ sym e))) (λ other. omega (arith, a.0, other)), a.1);
                turned = λ e. absurd (false≢true (sym (none_else j u ne bt) ∙ e));
                grown = subst (Extends opens closes u.mine u.seen) (sym grown) (extends_more opens closes u.mine u.seen r.log rest f.grown
                    (λ n a. ((λ b. once n (own_all s r j u bt n a) b), (λ b. foreign j u ne bt n a (may.2 n b)))));
                own = f.own;
                bare = f.bare;
                fronts = subst (AreFronts u.told) (sym grown) (fronts_longer u.told r.log rest f.fronts);
              });
          apart = apart_set s.views id w r.apart (λ j u ne bt. ((λ h. absurd (omega arith)), (λ n a b. foreign j u ne bt n b (subst (Among n) mine a))));
          whole = λ n a. ⊎_elim
              (λ (b : Among n (numbers opens r.log)). someones_set s.views id v w at n (λ c. subst (Among n) (sym mine) (among_left n v.mine (numbers opens rest) c)) (r.whole n b))
              (λ (b : Among n (numbers opens rest)). (id, w, set_at s.views id v w at, subst (Among n) (sym mine) (among_right n v.mine (numbers opens rest) b)))
              (among_append n (numbers opens r.log) (numbers opens rest) (subst (Among n) opened a));
          slot = inl (x, ap (λ l. set l 0 (some (Some x))) (out s r id v at has), refl, each_set (λ (u : V). u.turn ≡ false) s.views id w refl none_else);
        },
        (λ y holds'. let same : xs ≡ items y = ap (λ l. items_or xs (in_hand l)) holds' in ap (λ (l : List I). (passed (noted opens closes v l), [])) same),
      )

  given_less : (n : ℕ) → 0 < n → given n < n
  given_less n h = omega (arith, h)

  given_le : (n : ℕ) → given n ≤ n
  given_le n = omega arith

  apart_snoc : (vs : List V) (w : V) → Apart vs → D w w → ((j : ℕ) (u : V) → get_elem? vs j ≡ some u → D w u) → Apart (vs ++ w ∷ [])
  apart_snoc vs w old self mine i j u z ne at bt =
      ⊎_elim
      (λ (a : get_elem? vs i ≡ some u). ⊎_elim (λ (b : get_elem? vs j ≡ some z). old i j u z ne a b) (λ (b : w ≡ z). differ_sym z u (subst (λ (x : V). D x u) b (mine i u a))) (at_snoc vs w z j bt))
      (λ (a : w ≡ u). ⊎_elim (λ (b : get_elem? vs j ≡ some z). subst (λ (x : V). D x z) a (mine j z b)) (λ (b : w ≡ z). let P : V → Type 0 = λ x. D x z in subst P a (subst (D w) b self)) (at_snoc vs w z j bt))
      (at_snoc vs w u i at)

  pub splits : (id : ℕ) (v : V) → v.waits ≡ 0 → v.turn ≡ false → Splits Rule id v (left v) (right v)
  splits id v idle calm s r at =
      let l : V = left v in let w : V = right v in let vs : List V = set s.views id l in
      let fit = r.each id v at in
      let a = total_set shares_of s.views id v l at in let b = total_set waits_of s.views id v l at in
      let c = total_snoc shares_of vs w in let d = total_snoc waits_of vs w in
      let e = given_le v.shares in let p = r.shares in let q = r.count in
      let ls : V → Type 0 = F r.served r.drawn r.log in record {
        drawn = r.drawn;
        served = r.served;
        log = r.log;
        words = r.words;
        shares = omega arith;
        count = omega arith;
        each = each_snoc ls vs w
            record { shared = omega arith; queued = λ h. absurd (omega arith); turned = λ h. absurd (false≢true h); grown = (fit.grown.0, fit.grown.1, λ n h. absurd h); own = λ n h. absurd h; bare = λ n h. absurd h; fronts = tt }
            (each_set ls s.views id l
            record { shared = omega arith; queued = fit.queued; turned = fit.turned; grown = fit.grown; own = fit.own; bare = λ n h. let k = given_less v.shares (fit.bare n h) in omega arith; fronts = fit.fronts }
            (λ j u _ bt. r.each j u bt));
        apart = apart_snoc vs w (apart_set s.views id l r.apart (λ j u ne bt. r.apart id j v u (λ k. ne (sym k)) at bt)) ((λ h. absurd (omega arith)), (λ n h. absurd h))
            (λ j u bt. ((λ h. absurd (omega arith)), (λ n h. absurd h)));
        whole = λ n h. let o = someones_set s.views id v l at n (λ b. b) (r.whole n h) in (o.0, o.1, at_longer vs (w ∷ []) o.0 o.1 o.2, o.3);
        slot = ⊎_elim
            (λ (h : IsHome items opens closes s r.log). inl (h.0, h.1, h.2, each_snoc (λ (u : V). u.turn ≡ false) vs w refl (each_set (λ (u : V). u.turn ≡ false) s.views id l calm (λ j u _ bt. h.3 j u bt))))
            (λ (o : IsOut items opens closes s). dite (ℕ_discrete o.0 id)
            (λ (k : o.0 ≡ id). let here : get_elem? s.views id ≡ some o.1 = subst (λ (z : ℕ). get_elem? s.views z ≡ some o.1) k o.2 in
            absurd (false≢true (sym calm ∙ (ap (λ (x : V). x.turn) (some-injective v o.1 (sym at ∙ here)) ∙ o.3))))
            (λ (k : o.0 ≡ id → ⊥). inr (o.0, o.1, at_longer vs (w ∷ []) o.0 o.1 (set_else s.views id o.0 l k ∙ o.2), o.3, o.4)))
            r.slot;
      }

  -- the list of both, and what is left of the whole behind it
  joint : (log : List I) (v w : V) (served drawn : ℕ) → F served drawn log v → F served drawn log w
      → Extends opens closes (v.mine ++ w.mine) (longer v.seen w.seen) log × ((n : ℕ) → Among n (v.mine ++ w.mine) → Among n (numbers opens (longer v.seen w.seen)))
  joint log v w served drawn f g = let P : List I → Type 0 = λ l. Extends opens closes (v.mine ++ w.mine) l log × ((n : ℕ) → Among n (v.mine ++ w.mine) → Among n (numbers opens l)) in ⊎_elim
      (λ (yes : nat_lt (length v.seen) (length w.seen) ≡ true).
      let u = untouched_longer opens closes v.mine v.seen w.seen log f.grown g.grown.0 g.grown.1 (omega (arith, ltb-true (length v.seen) (length w.seen) yes)) in
      subst (λ (b : Bool). P (if b then w.seen else v.seen)) (sym yes) (
        (g.grown.0, g.grown.1, λ n a. ⊎_elim (u.1 n) (g.grown.2 n) (among_append n v.mine w.mine a)),
        λ n a. ⊎_elim
            (λ (c : Among n v.mine). subst (λ (l : List I). Among n (numbers opens l)) (sym u.0.1) (subst (Among n) (sym (numbers_append opens v.seen u.0.0)) (among_left n (numbers opens v.seen) (numbers opens u.0.0) (f.own n c))))
            (g.own n) (among_append n v.mine w.mine a),
      ))
      (λ (no : nat_lt (length v.seen) (length w.seen) ≡ false).
      let u = untouched_longer opens closes w.mine w.seen v.seen log g.grown f.grown.0 f.grown.1 (omega (arith, ltb-false (length v.seen) (length w.seen) no)) in
      subst (λ (b : Bool). P (if b then w.seen else v.seen)) (sym no) (
        (f.grown.0, f.grown.1, λ n a. ⊎_elim (f.grown.2 n) (u.1 n) (among_append n v.mine w.mine a)),
        λ n a. ⊎_elim (f.own n)
            (λ (c : Among n w.mine). subst (λ (l : List I). Among n (numbers opens l)) (sym u.0.1) (subst (Among n) (sym (numbers_append opens w.seen u.0.0)) (among_left n (numbers opens w.seen) (numbers opens u.0.0) (g.own n c))))
            (among_append n v.mine w.mine a),
      ))
      (cases_Bool (nat_lt (length v.seen) (length w.seen)))

  -- a new lock
  pub begins : (x : S) → Rule record { words = 0 ∷ 0 ∷ []; homes = some (Some x) ∷ []; views = founder opens (items x) ∷ [] }
  begins x = record {
    drawn = 0;
    served = 0;
    log = items x;
    words = refl;
    shares = omega arith;
    count = omega arith;
    each = λ j v at. subst (F 0 0 (items x)) (only j v at) record { shared = omega arith; queued = λ h. absurd (omega arith); turned = λ h. absurd (false≢true h); grown = ([], sym (append-nil (items x)), λ n h. ((λ z. z), (λ z. z))); own = λ n h. h; bare = λ n h. omega arith; fronts = tt };
    apart = λ i j v w ne at bt. absurd (ne (lone i v at ∙ sym (lone j w bt)));
    whole = λ n h. (0, first, refl, h);
    slot = inl (x, refl, refl, λ j v at. ap (λ (y : V). y.turn) (sym (only j v at)));
  }
    where
      first : V
      first = founder opens (items x)

      only : (j : ℕ) (v : V) → get_elem? (first ∷ []) j ≡ some v → first ≡ v
      only zero v at = some-injective first v at
      only (suc j) v at = absurd (some-ne-none v (sym at))

      lone : (j : ℕ) (v : V) → get_elem? (first ∷ []) j ≡ some v → j ≡ 0
      lone zero v at = refl
      lone (suc j) v at = absurd (some-ne-none v (sym at))

  pub joins : (id : ℕ) (v : V) (other : ℕ) (w : V) → v.waits ≡ 0 → v.turn ≡ false → w.waits ≡ 0 → w.turn ≡ false → Joins Rule id v other w (both v w) (newcomer 0)
  joins id v other w idle calm idle' calm' s r at ne there =
      let b : V = both v w in let z : V = newcomer 0 in let vs : List V = set s.views id b in
      let at' : get_elem? s.views other ≡ some w = sym (set_else s.views id other b ne) ∙ there in
      let fit = r.each id v at in let fit' = r.each other w at' in
      let k = joint r.log v w r.served r.drawn fit fit' in
      let p1 = total_set shares_of s.views id v b at in let w1 = total_set waits_of s.views id v b at in
      let p2 = total_set shares_of vs other w z there in let w2 = total_set waits_of vs other w z there in
      let p = r.shares in let q = r.count in
      let ls : V → Type 0 = F r.served r.drawn r.log in
      let idle_has : (i : ℕ) (x : V) → get_elem? s.views i ≡ some x → x.turn ≡ false → (j : ℕ) (u : V) → get_elem? s.views j ≡ some u → u.turn ≡ true → j ≡ i → ⊥ = λ i x bt no j u ct yes e.
      let here : get_elem? s.views i ≡ some u = subst (λ (y : ℕ). get_elem? s.views y ≡ some u) e ct in false≢true (sym no ∙ (ap (λ (y : V). y.turn) (some-injective x u (sym bt ∙ here)) ∙ yes)) in
      let mixed : (j : ℕ) (x : V) → (j ≡ id → ⊥) → (j ≡ other → ⊥) → get_elem? s.views j ≡ some x → D b x = λ j x ni no bt. (
        (λ h. absurd (omega arith)),
        (λ n a c. ⊎_elim
            (λ (y : Among n v.mine). (r.apart id j v x (λ e. ni (sym e)) at bt).1 n y c) (λ (y : Among n w.mine). (r.apart other j w x (λ e. no (sym e)) at' bt).1 n y c) (among_append n v.mine w.mine a)),
      ) in
      let some_shares : (n : ℕ) → Among n v.mine ⊎ Among n w.mine → 0 < b.shares = λ n. ⊎_elim (λ (h : Among n v.mine). let y = fit.bare n h in omega arith) (λ (h : Among n w.mine). let y = fit'.bare n h in omega arith) in
      let kept : get_elem? (set vs other z) id ≡ some b = set_else vs other id z (λ e. ne (sym e)) ∙ set_at s.views id v b at in
      let joined : (n : ℕ) → IsSomeones s.views n → IsSomeones (set vs other z) n = λ n o. dite (ℕ_discrete o.0 other)
      (λ (e : o.0 ≡ other). let here : get_elem? s.views other ≡ some o.1 = subst (λ (y : ℕ). get_elem? s.views y ≡ some o.1) e o.2 in
      (id, b, kept, among_right n v.mine w.mine (subst (λ (x : V). Among n x.mine) (some-injective o.1 w (sym here ∙ at')) o.3)))
      (λ (no : o.0 ≡ other → ⊥). dite (ℕ_discrete o.0 id)
      (λ (e : o.0 ≡ id). let here : get_elem? s.views id ≡ some o.1 = subst (λ (y : ℕ). get_elem? s.views y ≡ some o.1) e o.2 in
      (id, b, kept, among_left n v.mine w.mine (subst (λ (x : V). Among n x.mine) (some-injective o.1 v (sym here ∙ at)) o.3)))
      (λ (ni : o.0 ≡ id → ⊥). (o.0, o.1, set_else vs other o.0 z no ∙ (set_else s.views id o.0 b ni ∙ o.2), o.3))) in
      record {
        drawn = r.drawn;
        served = r.served;
        log = r.log;
        words = r.words;
        shares = omega arith;
        count = omega arith;
        each = each_set ls vs other z
            record { shared = omega arith; queued = λ h. absurd (omega arith); turned = λ h. absurd (false≢true h); grown = (r.log, refl, λ n h. absurd h); own = λ n h. absurd h; bare = λ n h. absurd h; fronts = tt }
            (λ j u _ bt. each_set ls s.views id b
            record { shared = omega arith; queued = λ h. absurd (omega arith); turned = λ e. absurd (false≢true (sym calm ∙ e)); grown = k.0; own = k.1; bare = λ n h. some_shares n (among_append n v.mine w.mine h); fronts = ((fit'.grown.0, fit'.grown.1), fronts_both v.told w.told r.log fit.fronts fit'.fronts) }
            (λ i x _ ct. r.each i x ct) j u bt);
        apart = apart_but vs other z
            (λ i j u x ne ni nj bt ct. ⊎_elim
            (λ (a : (i ≡ id) × (b ≡ u)). ⊎_elim (λ (c : (j ≡ id) × (b ≡ x)). absurd (ne (a.0 ∙ sym c.0))) (λ (c : (j ≡ id → ⊥) × (get_elem? s.views j ≡ some x)). subst (λ (y : V). D y x) a.1 (mixed j x c.0 nj c.1))
            (at_set s.views id j b x ct))
            (λ (a : (i ≡ id → ⊥) × (get_elem? s.views i ≡ some u)). ⊎_elim (λ (c : (j ≡ id) × (b ≡ x)). differ_sym x u (subst (λ (y : V). D y u) c.1 (mixed i u a.0 ni a.1))) (λ (c : (j ≡ id → ⊥) × (get_elem? s.views j ≡ some x)). r.apart i j u x ne a.1 c.1)
            (at_set s.views id j b x ct))
            (at_set s.views id i b u bt))
            (λ j u _ bt. ((λ h. absurd (omega arith)), (λ n h. absurd h)));
        whole = λ n h. joined n (r.whole n h);
        slot = ⊎_elim
            (λ (h : IsHome items opens closes s r.log). inl (h.0, h.1, h.2, each_set (λ (u : V). u.turn ≡ false) vs other z refl (λ j u _ bt. each_set (λ (u : V). u.turn ≡ false) s.views id b calm (λ i x _ ct. h.3 i x ct) j u bt)))
            (λ (o : IsOut items opens closes s). inr (o.0, o.1, set_else vs other o.0 z (idle_has other w at' calm' o.0 o.1 o.2 o.3) ∙ (set_else s.views id o.0 b (idle_has id v at calm o.0 o.1 o.2 o.3) ∙ o.2), o.3, o.4))
            r.slot;
      }
