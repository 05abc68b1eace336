-- Stores that are made one after the other.
use Rattle.std.proofs.Common.{◌≡◌, ℕ, suc, ◌+◌, Bool, true, List, [], ◌∷◌, ◌++◌, length, map, Option, None, Some, refl, sym, ap, ◌∙◌, subst, arith}
use Rattle.std.specs.Prelude.{All}
use Rattle.std.proofs.lemmas.List.{length-append, length-map, append_assoc, map-append}
use Rattle.std.proofs.lemmas.List.Elements.{All-push, All-same, All-tail}
use Rattle.cat_model.specs.declared.kept.Kept.{Kept}
use Rattle.cat_model.specs.Keeping.{nothing_kept}
use Rattle.raft_model.specs.Node.{Store}
use Rattle.raft_model.specs.World.{AreEmpty}
use Rattle.cluster_interface.specs.Starting.{store_of}
use Rattle.cluster_rules.specs.Reached.{AreSure}
use Rattle.serve_outside.specs.Stores.{AddsMade, Made, also_made, made_from}
use Rattle.http_front.specs.declared.options.Options.{Options}
use Rattle.http_front.specs.Served.{Fits}

made_append : (folder : Option (List ℕ)) (first : ℕ) (ss : List Store) (s : Store) → made_from folder first (ss ++ s ∷ []) ≡ made_from folder first ss ++ record { folder = folder; server = first + length ss; store = s } ∷ []
made_append folder first [] s = ap (λ n. record { folder = folder; server = n; store = s } ∷ []) (omega arith)
made_append folder first (x ∷ ss) s =
    let rest = made_append folder (first + 1) ss s in let same : first + 1 + length ss ≡ first + suc (length ss) = omega arith in
    ap (λ (l : List Made). record { folder = folder; server = first; store = x } ∷ l) (rest ∙ ap (λ n. made_from folder (first + 1) ss ++ record { folder = folder; server = n; store = s } ∷ []) same)

-- what is told grew by one store more
adds_more : (folder : Option (List ℕ)) (before mid after : Option (List Made)) (ss : List Store) (s : Store) (n : ℕ) → n ≡ 1 + length ss → AddsMade before mid (made_from folder 1 ss) → after ≡ also_made mid (record { folder = folder; server = n; store = s }) → AddsMade before after (made_from folder 1 (ss ++ s ∷ []))
adds_more folder None mid after ss s n e a told = tt
adds_more folder (Some b) None after ss s n e a told = absurd a
adds_more folder (Some b) (Some m) None ss s n e a told = absurd (cc told)
adds_more folder (Some b) (Some m) (Some l) ss s n e a told =
    let one : List Made = record { folder = folder; server = n; store = s } ∷ [] in
    let is : l ≡ m ++ one = cc told in
    let last : made_from folder 1 ss ++ one ≡ made_from folder 1 (ss ++ s ∷ []) = ap (λ k. made_from folder 1 ss ++ record { folder = folder; server = k; store = s } ∷ []) e ∙ sym (made_append folder 1 ss s) in
    is ∙ (ap (λ (z : List Made). z ++ one) a ∙ (append_assoc b (made_from folder 1 ss) one ∙ ap (λ (z : List Made). b ++ z) last))

-- the store of the next server
module _ {K : Type 0} (store : K → Store) where
  pub made_more : (folder : Option (List ℕ)) (before mid after : Option (List Made)) (xs ys : List K) (x : K) (count : ℕ) → ys ≡ xs ++ x ∷ [] → length xs ≡ count → AddsMade before mid (made_from folder 1 (map store xs))
      → after ≡ also_made mid (record { folder = folder; server = count + 1; store = store x }) → AddsMade before after (made_from folder 1 (map store ys))
  made_more folder before mid after xs ys x count grown size a told =
      let same = length-map xs store in
      let n : count + 1 ≡ 1 + length (map store xs) = omega (arith, same, size) in
      let e : map store xs ++ store x ∷ [] ≡ map store ys = sym (ap (map store) grown ∙ map-append store xs (x ∷ [])) in
      subst (λ (l : List Store). AddsMade before after (made_from folder 1 l)) e (adds_more folder before mid after (map store xs) (store x) (count + 1) n a told)

module _ {K : Type 0} where
  pub counted_more : (xs ys : List K) (x : K) (count : ℕ) → ys ≡ xs ++ x ∷ [] → length xs ≡ count → length ys ≡ count + 1
  counted_more xs ys x count e size = let grown = ap length e ∙ length-append xs (x ∷ []) in omega (arith, grown, size)

  pub all_more : (P : K → Type 0) (xs ys : List K) (x : K) → ys ≡ xs ++ x ∷ [] → All P xs → P x → All P ys
  all_more P xs ys x e each one = All-same P ys (xs ++ x ∷ []) e (All-push P xs x each one)

-- empty stores that are sure
module _ {K : Type 0} (held : K → Option Kept) (armed faults : K → ℕ) (sure : K → Bool) where
  abbrev Each : List K → Type 0
  Each = All (λ k. (held k ≡ Some nothing_kept) × (sure k ≡ true))

  pub all_empty : (ks : List K) → Each ks → AreEmpty (map (λ k. store_of (held k) (armed k) (faults k) (sure k)) ks)
  all_empty [] each = tt
  all_empty (k ∷ ks) each = ((each 0 k (omega arith)).0, all_empty ks (All-tail (λ k. (held k ≡ Some nothing_kept) × (sure k ≡ true)) k ks each))

  pub all_sure : (ks : List K) → Each ks → AreSure (map (λ k. store_of (held k) (armed k) (faults k) (sure k)) ks)
  all_sure [] each = tt
  all_sure (k ∷ ks) each = ((each 0 k (omega arith)).1, all_sure ks (All-tail (λ k. (held k ≡ Some nothing_kept) × (sure k ≡ true)) k ks each))

  -- the cluster that is over just the stores that were made
  pub fits_made : (o : Options) (ks : List K) → length ks ≡ o.servers → (o.folder ≡ None → Each ks) → Fits o (record { stores = map (λ k. store_of (held k) (armed k) (faults k) (sure k)) ks; agents = o.agents })
  fits_made o ks count each = record {
    servers = length-map ks (λ k. store_of (held k) (armed k) (faults k) (sure k)) ∙ count;
    agents = refl;
    empty = λ none. (all_empty ks (each none), all_sure ks (each none));
  }
