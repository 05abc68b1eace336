-- How servers begin one after the other, and what is handed back.
use Rattle.std.proofs.Common.{◌≡◌, ℕ, zero, suc, ◌+◌, ◌<◌, inl, inr, length, map, get_or, replicate, ◌^◌, List, [], ◌∷◌, ◌++◌, Option, None, refl, sym, ap, ◌∙◌, subst, arith, add-one}
use Rattle.std.specs.Prelude.{All, slice_index_or}
use Rattle.std.specs.List.{remove}
use Rattle.std.proofs.lemmas.List.{append_assoc, append-nil, map-append, length-append, length-map, length-replicate}
use Rattle.outside.specs.declared.faults.KeepFail.{KeepFail}
use Rattle.outside.specs.declared.faults.KeepFail.TheVariants.{Memory}
use Rattle.raft_model.specs.Node.{Node, Store}
use Rattle.raft_model.specs.Step.{Starts}
use Rattle.raft_model.specs.World.{Bag, StartAll}
use Rattle.raft_node.specs.Steps.{FailsToLoad}
use Rattle.raft_world.specs.declared.agreed.Agreed.TheVariants.{Kept}
use Rattle.raft_world.specs.Starting.{AreGivenBack, Stops}
use Rattle.raft_world.specs.Worlds.{AllMayCome, IsWorld}

started_length : (servers id : ℕ) (ss : List Store) (ns : List Node) → StartAll servers id ss ns → length ns ≡ length ss
started_length servers id [] [] s = refl
started_length servers id [] (n ∷ ns) s = absurd s
started_length servers id (x ∷ ss) [] s = absurd s
started_length servers id (x ∷ ss) (n ∷ ns) s = ap suc (started_length servers (suc id) ss ns s.1)

start_more : (servers id : ℕ) (ss : List Store) (ns : List Node) (s : Store) (n : Node) → StartAll servers id ss ns → Starts (length ns + id) servers s n → StartAll servers id (ss ++ s ∷ []) (ns ++ n ∷ [])
start_more servers id [] [] s n a b = let place : 0 + id ≡ id = omega arith in (subst (λ k. Starts k servers s n) place b, tt)
start_more servers id [] (m ∷ ns) s n a b = absurd a
start_more servers id (x ∷ ss) [] s n a b = absurd a
start_more servers id (x ∷ ss) (m ∷ ns) s n a b =
    let place : suc (length ns) + id ≡ length ns + suc id = omega arith in
    (a.0, start_more servers (suc id) ss ns s n a.1 (subst (λ k. Starts k servers s n) place b))

-- the servers of some of these began, and the rest wait
abbrev pub Begun : {X : Type 0} → (X → Store) → ℕ → List X → List X → List Node → Type 0
Begun store servers all now nodes = (front : List Store) × (map store all ≡ front ++ map store now) × StartAll servers 1 front nodes

pub begun_length : {X : Type 0} (store : X → Store) (servers : ℕ) (all now : List X) (nodes : List Node) → Begun store servers all now nodes → length nodes + length now ≡ length all
begun_length store servers all now nodes (front, split, start) =
    let a = ap length split in let b = length-map all store in let c = length-map now store in let d = length-append front (map store now) in let e = started_length servers 1 front nodes start in omega arith

pub taken_first : {X : Type 0} (xs rest : List X) (x : X) → 0 < length xs → x ≡ slice_index_or xs 0 x → rest ≡ remove xs 0 → xs ≡ x ∷ rest
taken_first [] rest x l a b = absurd (omega arith)
taken_first (y ∷ ys) rest x l a b = λ i. (sym a i) ∷ (sym b i)

pub all_first : {X : Type 0} (P : X → Type 0) (x : X) (rest : List X) → All P (x ∷ rest) → P x
all_first P x rest a = a 0 x (omega arith)

pub all_rest : {X : Type 0} (P : X → Type 0) (x : X) (rest : List X) → All P (x ∷ rest) → All P rest
all_rest P x rest a = λ k d l. a (suc k) d (omega arith)

pub begun_more : {X : Type 0} (store : X → Store) (servers : ℕ) (all now rest : List X) (x : X) (nodes : List Node) (n : Node) → now ≡ x ∷ rest → Begun store servers all now nodes → Starts (length nodes + 1) servers (store x) n
    → Begun store servers all rest (nodes ++ n ∷ [])
begun_more store servers all now rest x nodes n is (front, split, start) new =
    (front ++ store x ∷ [], split ∙ ap (λ z. front ++ map store z) is ∙ sym (append_assoc front (store x ∷ []) (map store rest)), start_more servers 1 front nodes (store x) n start new)

pub begun_all : {X : Type 0} (store : X → Store) (servers : ℕ) (all now : List X) (nodes : List Node) → now ≡ [] → Begun store servers all now nodes → StartAll servers 1 (map store all) nodes
begun_all store servers all now nodes none (front, split, start) =
    let same : map store all ≡ front = split ∙ ap (λ z. front ++ map store z) none ∙ append-nil front in
    subst (λ z. StartAll servers 1 z nodes) (sym same) start

pub stopped : {X : Type 0} (store : X → Store) (servers : ℕ) (all now rest : List X) (x : X) (nodes : List Node) (why : KeepFail) (after : Store) → now ≡ x ∷ rest → Begun store servers all now nodes → FailsToLoad why (store x) after
    → Stops servers (map store all) nodes why after (map store rest)
stopped store servers all now rest x nodes why after is (front, split, start) fails = (front, store x, split ∙ ap (λ z. front ++ map store z) is, start, fails)

back_of : (servers id : ℕ) (front : List Store) (ns : List Node) (why : KeepFail) (s t : Store) (rest : List Store) → StartAll servers id front ns → FailsToLoad why s t → AreGivenBack why (front ++ s ∷ rest) (map (λ (n : Node). n.store) ns ++ t ∷ rest)
back_of servers id [] [] why s t rest a f = inl (f, refl)
back_of servers id [] (n ∷ ns) why s t rest a f = absurd a
back_of servers id (x ∷ front) [] why s t rest a f = absurd a
back_of servers id (x ∷ front) (n ∷ ns) why s t rest (b, a) f = inr (b.1, back_of servers (suc id) front ns why s t rest a f)

pub handed_back : (servers : ℕ) (all : List Store) (ns : List Node) (why : KeepFail) (t : Store) (rest back : List Store) → Stops servers all ns why t rest → back ≡ map (λ (n : Node). n.store) ns ++ t ∷ rest → AreGivenBack why all back
handed_back servers all ns why t rest back (front, s, split, start, f) is =
    subst (λ b. AreGivenBack why all b) (sym is) (subst (λ a. AreGivenBack why a (map (λ (n : Node). n.store) ns ++ t ∷ rest)) (sym split) (back_of servers 1 front ns why s t rest start f))

-- all untouched, for lack of memory
pub untouched : (ss : List Store) → AreGivenBack Memory ss ss
untouched [] = refl
untouched (s ∷ ss) = inl (refl, refl)

seat_from : (servers id : ℕ) (ss : List Store) (ns : List Node) → StartAll servers id ss ns → (at : ℕ) (n : Node) → at < length ns → get_or ns at n ≡ n → (n.id ≡ at + id) × (n.servers ≡ servers) × (n.commit ≡ 0)
seat_from servers id [] [] s at n l e = absurd (omega arith)
seat_from servers id [] (m ∷ ns) s at n l e = absurd s
seat_from servers id (x ∷ ss) [] s at n l e = absurd s
seat_from servers id (x ∷ ss) (m ∷ ns) (b, s) zero n l e =
    let begun = b.3 in
    (sym (ap (λ (z : Node). z.id) e) ∙ ap (λ (z : Node). z.id) begun ∙ omega arith, sym (ap (λ (z : Node). z.servers) e) ∙ ap (λ (z : Node). z.servers) begun, sym (ap (λ (z : Node). z.commit) e) ∙ ap (λ (z : Node). z.commit) begun)
seat_from servers id (x ∷ ss) (m ∷ ns) (b, s) (suc at) n l e =
    let r = seat_from servers (suc id) ss ns s at n (omega arith) e in (omega (arith, r.0), r.1, r.2)

-- the parts of a world that begins
pub first_is : (servers : ℕ) (stores : List Store) (nodes : List Node) (clocks : List ℕ) (contacts : List (Option ℕ)) (bag : Bag) → servers < 2 ^ 32 → length stores ≡ servers → StartAll servers 1 stores nodes
    → clocks ≡ replicate servers 0 → contacts ≡ replicate servers None → bag ≡ record { packets = []; last = 0 } → IsWorld nodes clocks contacts bag.packets (Kept [])
first_is servers stores nodes clocks contacts bag few size start c k b =
    let count : length nodes ≡ servers = started_length servers 1 stores nodes start ∙ size in
    record {
      count = omega (arith, few, count);
      has_clocks = ap length c ∙ length-replicate servers 0 ∙ sym count;
      has_contacts = ap length k ∙ length-replicate servers None ∙ sym count;
      seated = λ at n l e. let r = seat_from servers 1 stores nodes start at n l e in record { id = r.0 ∙ add-one at; servers = r.1 ∙ sym count; committed = omega (arith, r.2); within = omega (arith, r.2) };
      come = subst (λ (z : Bag). AllMayCome (length nodes) z.packets) (sym b) tt;
      stands = tt;
    }

-- the stores of some nodes were taken back, and the rest wait
abbrev pub Taken : {X : Type 0} → (X → Store) → List X → List Node → List Node → Type 0
Taken store back now all = map store back ++ map (λ (n : Node). n.store) now ≡ map (λ (n : Node). n.store) all

pub taken_length : {X : Type 0} (store : X → Store) (back : List X) (now all : List Node) → Taken store back now all → length back + length now ≡ length all
taken_length store back now all t =
    let nodes : Node → Store = λ n. n.store in
    let a = ap length t in let b = length-map back store in let c = length-map now nodes in let d = length-map all nodes in let e = length-append (map store back) (map nodes now) in omega arith

pub taken_more : {X : Type 0} (store : X → Store) (back : List X) (now all rest : List Node) (n : Node) (x : X) → now ≡ n ∷ rest → store x ≡ n.store → Taken store back now all → Taken store (back ++ x ∷ []) rest all
taken_more store back now all rest n x is same t =
    let nodes : Node → Store = λ n. n.store in
    ap (λ z. z ++ map nodes rest) (map-append store back (x ∷ [])) ∙ append_assoc (map store back) (store x ∷ []) (map nodes rest) ∙ ap (λ z. map store back ++ z ∷ map nodes rest) same
    ∙ sym (ap (λ z. map store back ++ map nodes z) is) ∙ t

pub taken_all : {X : Type 0} (store : X → Store) (back : List X) (now all : List Node) (x : X) (rest : List X) → now ≡ [] → Taken store back now all → map store ((back ++ x ∷ []) ++ rest) ≡ map (λ (n : Node). n.store) all ++ store x ∷ map store rest
taken_all store back now all x rest none t =
    let nodes : Node → Store = λ n. n.store in
    let whole : map store back ≡ map nodes all = sym (append-nil (map store back)) ∙ sym (ap (λ z. map store back ++ map nodes z) none) ∙ t in
    ap (map store) (append_assoc back (x ∷ []) rest) ∙ map-append store back (x ∷ rest) ∙ ap (λ z. z ++ store x ∷ map store rest) whole

pub stopped_length : {X : Type 0} (store : X → Store) (servers : ℕ) (all rest : List X) (nodes : List Node) (why : KeepFail) (now : Store) → Stops servers (map store all) nodes why now (map store rest) → length nodes + 1 + length rest ≡ length all
stopped_length store servers all rest nodes why now (front, s, split, start, f) =
    let a = ap length split in let b = length-map all store in let c = length-map rest store in let d = length-append front (s ∷ map store rest) in let e = started_length servers 1 front nodes start in omega arith
