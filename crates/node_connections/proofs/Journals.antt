-- A journal with one more item.
use Rattle.std.proofs.Common.{◌≡◌, ℕ, zero, suc, ◌+◌, ◌≤◌, ◌⊎◌, inl, inr, ⊎_elim, List, [], ◌∷◌, ◌++◌, length, drop, map, Option, Some, None, Result, Ok, Err, refl, sym, ap, ◌∙◌, subst, arith, append_assoc, append-nil}
use Rattle.std.specs.Option.{option_map}
use Rattle.std.proofs.lemmas.List.{map-append}
use Rattle.std.proofs.Math.Seq.{drop-append_seam}
use Rattle.cat_model.specs.declared.memory.Memory.{Memory}
use Rattle.peer_frames.specs.declared.frame.Frame.{Frame}
use Rattle.peer_frames.specs.declared.frame.Peers.{Peers}
use Rattle.peer_frames.specs.Spelling.{Accepts}
use Rattle.node_service.specs.Answering.{peers_of}
use Rattle.node_service.specs.Dialers.{DialerState}
use Rattle.node_service.specs.Processes.{Running}
use Rattle.turn_lock.specs.declared.knowledge.Knowledge.{Knowledge}
use Rattle.turn_lock.specs.Lists.{Among, EachOnce, Extends, Untouched, ahead, numbers}
use Rattle.turn_lock.specs.Passes.{MayEnd}
use Rattle.turn_lock.proofs.Lists.{among_append, numbers_append, untouched_append}
use Rattle.node_connections.specs.declared.item.Item.{Item}
use Rattle.node_connections.specs.declared.item.Item.TheVariants as items
use Rattle.node_connections.specs.declared.item.Taken.{Taken}
use Rattle.node_connections.specs.Boards.{HandsIn, MayHandIn, Sees}
use Rattle.node_connections.specs.Journals.{IsOf, IsShared, Lead, Shared, Standing, Tells, Turns, count_to, opens, standing, taken_of, takes}
use Rattle.node_connections.specs.Turning.{AddsFrame, AddsTaken, AddsTurn}

in_count : (n k : ℕ) → Among k (count_to n) → k ≤ n
in_count zero k a = absurd a
in_count (suc n) k a =
    ⊎_elim (λ (b : Among k (count_to n)). let h = in_count n k b in omega arith)
    (λ (b : Among k (suc n ∷ [])). ⊎_elim (λ (e : suc n ≡ k). omega arith) (λ (z : ⊥). absurd z) b) (among_append k (count_to n) (suc n ∷ []) a)

once_snoc : (xs : List ℕ) (n : ℕ) → EachOnce xs → (Among n xs → ⊥) → EachOnce (xs ++ n ∷ [])
once_snoc [] n o h = (λ z. z, tt)
once_snoc (x ∷ xs) n o h = (
  λ a. ⊎_elim (λ (b : Among x xs). o.0 b) (λ (b : Among x (n ∷ [])). ⊎_elim (λ (e : n ≡ x). h (inl (sym e))) (λ (z : ⊥). z) b) (among_append x xs (n ∷ []) a),
  once_snoc xs n o.1 (λ a. h (inr a)),
)

pub once_count : (n : ℕ) → EachOnce (count_to n)
once_count zero = tt
once_count (suc n) = once_snoc (count_to n) (suc n) (once_count n) (λ a. let h = in_count n (suc n) a in omega arith)

pub count_more : (n m : ℕ) → m ≡ n + 1 → count_to m ≡ count_to n ++ m ∷ []
count_more n m e = let s : suc n ≡ m = omega arith in subst (λ (k : ℕ). count_to k ≡ count_to n ++ k ∷ []) s refl

module _ {D : Type 0} (state : D → DialerState) where
  lead_on : (ports : List ℕ) (xs : List (Item Running D)) (now word : ℕ) (due : Result Unit Memory) (taken : Option Taken) (sent : Result Unit Memory) (a b c : Standing)
      → Lead state ports xs a b → Turns ports now word due taken sent b c → Lead state ports (xs ++ items.Turned now word due taken sent ∷ []) a c
  lead_on ports [] now word due taken sent a b c l t = (c, subst (λ (s : Standing). Turns ports now word due taken sent s c) l t, refl)
  lead_on ports (items.Began p d at ∷ xs) now word due taken sent a b c l t = absurd l
  lead_on ports (items.Turned n w du ta se ∷ xs) now word due taken sent a b c l t = (l.0, l.1, lead_on ports xs now word due taken sent l.0 b c l.2 t)

  tells_on : (ports : List ℕ) (xs : List (Item Running D)) (now word : ℕ) (due : Result Unit Memory) (taken : Option Taken) (sent : Result Unit Memory) (b c : Standing)
      → Tells state ports xs b → Turns ports now word due taken sent b c → Tells state ports (xs ++ items.Turned now word due taken sent ∷ []) c
  tells_on ports [] now word due taken sent b c l t = absurd l
  tells_on ports (items.Began p d at ∷ xs) now word due taken sent b c l t = (l.0, lead_on ports xs now word due taken sent (record { running = p.value; dialer = state d.value }) b c l.1 t)
  tells_on ports (items.Turned n w du ta se ∷ xs) now word due taken sent b c l t = absurd l

pub of_on : {D : Type 0} (peers : Peers) (xs more : List (Item Running D)) → IsOf peers xs → IsOf peers (xs ++ more)
of_on peers [] more h = absurd h
of_on peers (items.Began p d at ∷ xs) more h = h
of_on peers (items.Turned n w du ta se ∷ xs) more h = absurd h

-- one journal is of one server
pub of_same : {D : Type 0} (a b : Peers) (xs : List (Item Running D)) → IsOf a xs → IsOf b xs → a ≡ b
of_same a b [] h k = absurd h
of_same a b (items.Began p d at ∷ xs) h k = sym h ∙ k
of_same a b (items.Turned n w du ta se ∷ xs) h k = absurd h

-- the number of a frame, if there is one
abbrev pub number_in : Option Taken → List ℕ
number_in taken = ahead (option_map (λ t. t.number) taken) []

module _ {D : Type 0} (state : D → DialerState) where
  pub shared_on : (s : Shared D) (now word : ℕ) (due : Result Unit Memory) (taken : Option Taken) (sent : Result Unit Memory) (running : Running) (dialer : D) (count : ℕ) (journal : List (Item Running D)) → IsShared state s
      → Turns s.ports now word due taken sent (standing state s) (record { running = running; dialer = state dialer }) → peers_of running.host ≡ peers_of s.running.host
      → count_to count ≡ count_to s.count ++ number_in taken → journal ≡ s.items ++ items.Turned now word due taken sent ∷ []
      → IsShared state (record { running = running; dialer = dialer; ports = s.ports; count = count; items = journal })
  shared_on s now word due taken sent running dialer count journal h t p n e = record {
    told = subst (λ (l : List (Item Running D)). Tells state s.ports l (record { running = running; dialer = state dialer })) (sym e)
        (tells_on state s.ports s.items now word due taken sent (standing state s) (record { running = running; dialer = state dialer }) h.told t);
    numbered = ap (numbers opens) e ∙ (numbers_append opens s.items (items.Turned now word due taken sent ∷ []) ∙ (ap (λ (l : List ℕ). l ++ number_in taken) h.numbered ∙ sym n));
    of = subst (λ (l : List (Item Running D)). IsOf (peers_of running.host) l) (sym e)
        (of_on (peers_of running.host) s.items (items.Turned now word due taken sent ∷ []) (subst (λ (q : Peers). IsOf q s.items) (sym p) h.of));
  }

-- what is added to the list of a journal's log
pub logged : {A : Type 0} (xs ys : List (A × Unit {0})) (x : A) (u : Unit {0}) → ys ≡ xs ++ (x, u) ∷ [] → map (λ (p : A × Unit {0}). p.0) ys ≡ map (λ (p : A × Unit {0}). p.0) xs ++ x ∷ []
logged xs ys x u e = ap (map (λ p. p.0)) e ∙ map-append (λ p. p.0) xs ((x, u) ∷ [])

module _ {D : Type 0} where
  pub adds_turn : (old new : List (Item Running D)) (now word : ℕ) (due sent : Result Unit Memory) (count : ℕ) → new ≡ old ++ items.Turned now word due None sent ∷ [] → numbers opens new ≡ count_to count → AddsTurn old new
  adds_turn old new now word due sent count e n = record { item = items.Turned now word due None sent; item_is = refl; are = e; once = subst EachOnce (sym n) (once_count count) }

  pub adds_taken : (frame : Frame) (answer : Result (Option Frame) Memory) (taken : Taken) (old new : List (Item Running D)) (now word : ℕ) (due sent : Result Unit Memory) (count : ℕ)
      → new ≡ old ++ items.Turned now word due (Some taken) sent ∷ [] → numbers opens new ≡ count_to count → taken.frame.value ≡ frame → taken.answer.value ≡ answer → AddsTaken frame answer old new
  adds_taken frame answer taken old new now word due sent count e n f a = record {
    taken = taken;
    frame_is = f;
    answer_is = a;
    item = items.Turned now word due (Some taken) sent;
    item_is = refl;
    are = e;
    once = subst EachOnce (sym n) (once_count count);
  }

  pub adds_frame : (frame : Frame) (answer : Result (Option Frame) Memory) (old new : List (Item Running D)) → AddsTaken frame answer old new → AddsFrame frame answer old new
  adds_frame frame (Ok answer) old new a = a
  adds_frame frame (Err e) old new a = inl a

  pub may_turn : (mine : List ℕ) (old new : List (Item Running D)) → AddsTurn old new → MayEnd opens takes old mine new
  may_turn mine old new a = (a.item ∷ [], a.are, a.once, λ n z. absurd z)

  may_taken : (frame : Frame) (answer : Result (Option Frame) Memory) (mine : List ℕ) (old new : List (Item Running D)) → AddsTaken frame answer old new → MayEnd opens takes old mine new
  may_taken frame answer mine old new a = (a.item ∷ [], a.are, a.once, λ n z. absurd z)

  pub may_frame : (frame : Frame) (answer : Result (Option Frame) Memory) (mine : List ℕ) (old new : List (Item Running D)) → AddsFrame frame answer old new → MayEnd opens takes old mine new
  may_frame frame (Ok answer) mine old new a = may_taken frame (Ok answer) mine old new a
  may_frame frame (Err e) mine old new (inl a) = may_taken frame (Err e) mine old new a
  may_frame frame (Err e) mine old new (inr a) = ([], a.0 ∙ sym (append-nil old), a.1, λ n z. absurd z)

  one_number : (item : Item Running D) (taken : Option Taken) → taken_of item ≡ taken → numbers opens (item ∷ []) ≡ number_in taken
  one_number item taken e = ap number_in e

  behind : (old new : List (Item Running D)) (item : Item Running D) → new ≡ old ++ item ∷ [] → numbers opens (drop (length old) new) ≡ numbers opens (item ∷ [])
  behind old new item e = ap (λ (l : List (Item Running D)). numbers opens (drop (length old) l)) e ∙ ap (numbers opens) (drop-append_seam old (item ∷ []))

  untouched_one : (mine : List ℕ) (item : Item Running D) → taken_of item ≡ None → Untouched opens takes mine (item ∷ [])
  untouched_one mine item e n h = (λ a. subst (Among n) (one_number item None e) a, λ a. a)

  seen_on : (seen old new ext : List (Item Running D)) (item : Item Running D) → old ≡ seen ++ ext → new ≡ old ++ item ∷ [] → new ≡ seen ++ (ext ++ item ∷ [])
  seen_on seen old new ext item e f = f ∙ (ap (λ (l : List (Item Running D)). l ++ item ∷ []) e ∙ append_assoc seen ext (item ∷ []))

  pub sees_turn : (v w : Knowledge (Item Running D)) (old new : List (Item Running D)) → Extends opens takes v.mine v.seen old → AddsTurn old new → w.seen ≡ new → w.mine ≡ v.mine ++ numbers opens (drop (length old) new) → Sees v w
  sees_turn v w old new x a s m = record {
    more = x.0 ++ a.item ∷ [];
    seen = s ∙ seen_on v.seen old new x.0 a.item x.1 a.are;
    others = untouched_append opens takes v.mine x.0 (a.item ∷ []) x.2 (untouched_one v.mine a.item a.item_is);
    mine = m ∙ (ap (λ (l : List ℕ). v.mine ++ l) (behind old new a.item a.are ∙ one_number a.item None a.item_is) ∙ append-nil v.mine);
    once = subst (λ (l : List (Item Running D)). EachOnce (numbers opens l)) (sym s) a.once;
  }

  hands_in : (frame : Frame) (answer : Result (Option Frame) Memory) (v w : Knowledge (Item Running D)) (old new : List (Item Running D)) → Extends opens takes v.mine v.seen old → AddsTaken frame answer old new → w.seen ≡ new
      → w.mine ≡ v.mine ++ numbers opens (drop (length old) new) → HandsIn frame answer v w
  hands_in frame answer v w old new x a s m = record {
    taken = a.taken;
    frame_is = a.frame_is;
    answer_is = a.answer_is;
    before = x.0;
    item = a.item;
    item_is = a.item_is;
    seen = s ∙ seen_on v.seen old new x.0 a.item x.1 a.are;
    others = x.2;
    mine = m ∙ ap (λ (l : List ℕ). v.mine ++ l) (behind old new a.item a.are ∙ one_number a.item (Some a.taken) a.item_is);
    once = subst (λ (l : List (Item Running D)). EachOnce (numbers opens l)) (sym s) a.once;
  }

  sees_same : (v w : Knowledge (Item Running D)) (old new : List (Item Running D)) → Extends opens takes v.mine v.seen old → (new ≡ old) × EachOnce (numbers opens new) → w.seen ≡ new → w.mine ≡ v.mine ++ numbers opens (drop (length old) new) → Sees v w
  sees_same v w old new x a s m =
      let none : drop (length old) new ≡ [] = ap (drop (length old)) (a.0 ∙ sym (append-nil old)) ∙ drop-append_seam old [] in record {
        more = x.0;
        seen = s ∙ (a.0 ∙ x.1);
        others = x.2;
        mine = m ∙ (ap (λ (l : List (Item Running D)). v.mine ++ numbers opens l) none ∙ append-nil v.mine);
        once = subst (λ (l : List (Item Running D)). EachOnce (numbers opens l)) (sym s) a.1;
      }

  pub may_hand_in : (frame : Frame) (answer : Result (Option Frame) Memory) (v w : Knowledge (Item Running D)) (old new : List (Item Running D)) → Extends opens takes v.mine v.seen old → AddsFrame frame answer old new → w.seen ≡ new
      → w.mine ≡ v.mine ++ numbers opens (drop (length old) new) → MayHandIn frame answer v w
  may_hand_in frame (Ok answer) v w old new x a s m = hands_in frame (Ok answer) v w old new x a s m
  may_hand_in frame (Err e) v w old new x (inl a) s m = inl (hands_in frame (Err e) v w old new x a s m)
  may_hand_in frame (Err e) v w old new x (inr a) s m = inr (sees_same v w old new x a s m)
