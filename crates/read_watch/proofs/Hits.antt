-- What is found of the waiters on fired channels.
use Rattle.std.proofs.Common.{◌≡◌, ◌≢◌, ◌⊎◌, inl, inr, ℕ, ◌+◌, ◌<◌, ◌≤◌, Bool, true, false, cond, ◌||◌, List, [], ◌∷◌, ◌++◌, refl, sym, ◌∙◌, ap, subst, length, take, arith, Option, Some, nat_eq}
use Rattle.std.specs.Ordering.{nat_cmp}
use Rattle.std.specs.List.{AllByRecursion, list_any, fold}
use Rattle.std.specs.Map.{lookup}
use Rattle.std.specs.BTreeMap.{is_at}
use Rattle.std.proofs.lemmas.Bool.{eqb-true, true≢false}
use Rattle.cat_model.specs.Reach.{reaches, is_on}
use Rattle.cat_model.specs.declared.query.Chan.{Chan}
use Rattle.cat_model.specs.declared.query.Chan.TheVariants.{Key}
use Rattle.index_list.specs.declared.family.Family.{Family}
use Rattle.index_list.specs.Nodes.{Nodes, item_at}
use Rattle.index_list.specs.Places.{has}
use Rattle.index_list.specs.Walks.{shown}
use Rattle.index_list.proofs.Frames.{equal_or_not}
use Rattle.read_watch.specs.declared.waiters.Waiting.{Waiting}
use Rattle.read_watch.specs.Buckets.{mixed, bucket_of}
use Rattle.read_watch.specs.Held.{Stands}
use Rattle.read_watch.specs.Hits.{IsFound, IsHit, AllHit, AllKept, IsNoted, FamilyNoted, ListNoted, ChanNoted}
use Rattle.read_watch.proofs.Holds.{key_same}
use Rattle.read_watch.proofs.Buckets.{key_bucket, only_itself}

pub kept_same : (l : List ℕ) → AllKept l l
kept_same l = record { still = λ w h. h }

pub kept_on : (l m n : List ℕ) → AllKept l m → AllKept m n → AllKept l n
kept_on l m n a b = record { still = λ w h. b.still w (a.still w h) }

-- one more waiter was found, which is hit
pub found_more : (es : List (ℕ × Waiting)) (fired : List Chan) (key : ℕ) (p : Waiting) (old new : List ℕ) → lookup (is_at (nat_cmp key)) es ≡ Some p → is_on fired p.chans ≡ true → AllHit es fired old
    → ((w : ℕ) → list_any (is_at (nat_cmp w)) new ≡ cond (is_at (nat_cmp key) w) true (list_any (is_at (nat_cmp w)) old)) → AllHit es fired new
found_more es fired key p old new here on all u = record { each = λ w h. go w (is_at (nat_cmp key) w) refl (sym (u w) ∙ h) }
  where
    go : (w : ℕ) (b : Bool) → is_at (nat_cmp key) w ≡ b → cond b true (list_any (is_at (nat_cmp w)) old) ≡ true → IsHit es fired w
    go w true e k = subst (IsHit es fired) (sym (key_same key w e)) (record { waiting = p; here = here; on = on })
    go w false e k = all.each w k

pub found_still : (key : ℕ) (old new : List ℕ) → ((w : ℕ) → list_any (is_at (nat_cmp w)) new ≡ cond (is_at (nat_cmp key) w) true (list_any (is_at (nat_cmp w)) old)) → AllKept old new
found_still key old new u = record { still = λ w h. u w ∙ go (is_at (nat_cmp key) w) (list_any (is_at (nat_cmp w)) old) h }
  where
    go : (b c : Bool) → c ≡ true → cond b true c ≡ true
    go true c h = refl
    go false c h = h

-- a node of which the waiter is found, if it is hit
abbrev pub IsShown : List (ℕ × Waiting) → List Chan → List ℕ → ℕ × Option ℕ → Type 0
IsShown es fired found x = (waiter : ℕ) → x.1 ≡ Some waiter → IsNoted es fired found waiter

-- what is still to be noted of a list, after which all of it is
pub record Noting (es : List (ℕ × Waiting)) (fired : List Chan) (first found : List ℕ) (all left : List (ℕ × Option ℕ)) : Type 0 where
  pub sound : AllHit es fired found
  pub keeps : AllKept first found
  pub rest : (more : List ℕ) → AllKept found more → AllByRecursion (IsShown es fired more) left → AllByRecursion (IsShown es fired more) all

pub noted_still : (es : List (ℕ × Waiting)) (fired : List Chan) (waiter : ℕ) (found more : List ℕ) → AllKept found more → IsNoted es fired found waiter → IsNoted es fired more waiter
noted_still es fired waiter found more k n = record { noted = λ p h l. k.still waiter (n.noted p h l) }

pub family_still : (family : Family) (s : Nodes ℕ) (es : List (ℕ × Waiting)) (fired : List Chan) (number : ℕ) (found more : List ℕ) → AllKept found more → FamilyNoted family s es fired number found → FamilyNoted family s es fired number more
family_still family s es fired number found more k n = record { noted = λ node waiter h e. noted_still es fired waiter found more k (n.noted node waiter h e) }

pub list_still : (s : Nodes ℕ) (es : List (ℕ × Waiting)) (fired : List Chan) (number : ℕ) (found more : List ℕ) → AllKept found more → ListNoted s es fired number found → ListNoted s es fired number more
list_still s es fired number found more k n = record { first = family_still _ s es fired number found more k n.first; second = family_still _ s es fired number found more k n.second }

pub list_at : (s : Nodes ℕ) (es : List (ℕ × Waiting)) (fired : List Chan) (found : List ℕ) (number other : ℕ) → number ≡ other → ListNoted s es fired number found → ListNoted s es fired other found
list_at s es fired found number other e n = subst (λ b. ListNoted s es fired b found) e n

pub chan_still : (s : Nodes ℕ) (es : List (ℕ × Waiting)) (fired : List Chan) (found more : List ℕ) (chan : Chan) → AllKept found more → ChanNoted s es fired found chan → ChanNoted s es fired more chan
chan_still s es fired found more chan k n = record { noted = λ c r. list_still s es fired (bucket_of c) found more k (n.noted c r) }

-- all nodes of a list were noted
pub noted_all : (es : List (ℕ × Waiting)) (fired : List Chan) (found : List ℕ) (items : List (Option ℕ)) (l : List ℕ) → AllByRecursion (IsShown es fired found) (shown items l) → (node waiter : ℕ) → has node l ≡ true → item_at items node ≡ Some waiter → IsNoted es fired found waiter
noted_all es fired found items [] a node waiter h e = absurd (true≢false (sym h))
noted_all es fired found items (n ∷ l) a node waiter h e = go (noted_all es fired found items l a.1 node waiter) (nat_eq n node) refl h
  where
    go : (has node l ≡ true → item_at items node ≡ Some waiter → IsNoted es fired found waiter) → (b : Bool) → nat_eq n node ≡ b → (b || has node l) ≡ true → IsNoted es fired found waiter
    go more true f k = a.0 waiter (ap (item_at items) (eqb-true n node f) ∙ e)
    go more false f k = more k e

-- the lists of a key's prefixes up to a length were noted
pub record Prefixing (s : Nodes ℕ) (es : List (ℕ × Waiting)) (fired : List Chan) (first : List ℕ) (key : List ℕ) (upto hash : ℕ) (found : List ℕ) : Type 0 where
  pub is : hash ≡ fold mixed 9 (take upto key)
  pub within : hash < 65536
  pub sound : AllHit es fired found
  pub keeps : AllKept first found
  pub noted : (n : ℕ) → n ≤ upto → ListNoted s es fired (fold mixed 9 (take n key)) found

pub prefixing_step : (s : Nodes ℕ) (es : List (ℕ × Waiting)) (fired : List Chan) (first : List ℕ) (key : List ℕ) (upto hash hash' : ℕ) (found next : List ℕ) → Prefixing s es fired first key upto hash found → hash' ≡ fold mixed 9 (take (upto + 1) key) → hash' < 65536 → AllHit es fired next → AllKept found next → ListNoted s es fired hash' next → Prefixing s es fired first key (upto + 1) hash' next
prefixing_step s es fired first key upto hash hash' found next p e low sound k n = record {
  is = e;
  within = low;
  sound = sound;
  keeps = kept_on first found next p.keeps k;
  noted = λ m h. go m h (equal_or_not m (upto + 1));
}
  where
    go : (m : ℕ) → m ≤ upto + 1 → (m ≡ upto + 1) ⊎ (m ≢ upto + 1) → ListNoted s es fired (fold mixed 9 (take m key)) next
    go m h (inl q) = subst (λ b. ListNoted s es fired b next) (e ∙ ap (λ z. fold mixed 9 (take z key)) (sym q)) n
    go m h (inr d) = list_still s es fired (fold mixed 9 (take m key)) found next k (p.noted m (omega (arith, h, d)))

-- all lists that a key reaches were noted
pub key_noted : (s : Nodes ℕ) (es : List (ℕ × Waiting)) (fired : List Chan) (key found more : List ℕ) → ListNoted s es fired (bucket_of (Key key)) found → AllKept found more → ((n : ℕ) → n ≤ length key → ListNoted s es fired (fold mixed 9 (take n key)) more) → ChanNoted s es fired more (Key key)
key_noted s es fired key found more own k all = record { noted = λ c r. go c (key_bucket key c r) }
  where
    go : (c : Chan) → (bucket_of c ≡ bucket_of (Key key)) ⊎ ((n : ℕ) × ((n ≤ length key) × (bucket_of c ≡ fold mixed 9 (take n key)))) → ListNoted s es fired (bucket_of c) more
    go c (inl e) = subst (λ b. ListNoted s es fired b more) (sym e) (list_still s es fired (bucket_of (Key key)) found more k own)
    go c (inr n) = subst (λ b. ListNoted s es fired b more) (sym n.1.1) (all n.0 n.1.0)

-- the list that another channel reaches was noted
pub other_noted : (s : Nodes ℕ) (es : List (ℕ × Waiting)) (fired : List Chan) (f : Chan) (found : List ℕ) → ((key : List ℕ) → f ≡ Key key → ⊥) → ListNoted s es fired (bucket_of f) found → ChanNoted s es fired found f
other_noted s es fired f found n own = record { noted = λ c r. subst (λ d. ListNoted s es fired (bucket_of d) found) (only_itself f c n r) own }

-- one more channel was noted
pub chans_more : (s : Nodes ℕ) (es : List (ℕ × Waiting)) (fired : List Chan) (found next : List ℕ) (done : List Chan) (chan : Chan) → AllKept found next → AllByRecursion (ChanNoted s es fired found) done → ChanNoted s es fired next chan → AllByRecursion (ChanNoted s es fired next) (done ++ chan ∷ [])
chans_more s es fired found next [] chan k a n = (n, tt)
chans_more s es fired found next (d ∷ done) chan k a n = (chan_still s es fired found next d k a.0, chans_more s es fired found next done chan k a.1 n)

-- a channel that some noted channel reaches
reached_by : (s : Nodes ℕ) (es : List (ℕ × Waiting)) (fired : List Chan) (found : List ℕ) (noted : List Chan) (c : Chan) → AllByRecursion (ChanNoted s es fired found) noted → list_any (λ f. reaches f c) noted ≡ true → ListNoted s es fired (bucket_of c) found
reached_by s es fired found [] c a h = absurd (true≢false (sym h))
reached_by s es fired found (f ∷ noted) c a h = go (reached_by s es fired found noted c a.1) (reaches f c) refl h
  where
    go : (list_any (λ g. reaches g c) noted ≡ true → ListNoted s es fired (bucket_of c) found) → (b : Bool) → reaches f c ≡ b → (b || list_any (λ g. reaches g c) noted) ≡ true → ListNoted s es fired (bucket_of c) found
    go more true e k = a.0.noted c e
    go more false e k = more k

-- a waiter that is hit stands on a list that was noted
pub hit_found : (s : Nodes ℕ) (es : List (ℕ × Waiting)) (fired : List Chan) (found : List ℕ) (waiter node : ℕ) (chans : List Chan) → AllByRecursion (ChanNoted s es fired found) fired → lookup (is_at (nat_cmp waiter)) es ≡ Some (record { node = node; chans = chans }) → Stands s waiter (record { node = node; chans = chans }) → is_on fired chans ≡ true → IsFound found waiter
unfolding is_on
hit_found s es fired found waiter node [] a h w on = absurd (true≢false (sym on))
hit_found s es fired found waiter node (c ∷ []) a h w on = go (list_any (λ f. reaches f c) fired) refl on
  where
    go : (b : Bool) → list_any (λ f. reaches f c) fired ≡ b → (b || false) ≡ true → IsFound found waiter
    go true e k = ((reached_by s es fired found fired c a e).first.noted node waiter w.first w.item).noted (record { node = node; chans = c ∷ [] }) h on
    go false e k = absurd (true≢false (sym k))
hit_found s es fired found waiter node (c ∷ d ∷ []) a h w on = go (list_any (λ f. reaches f c) fired) refl (list_any (λ f. reaches f d) fired) refl on
  where
    go : (b : Bool) → list_any (λ f. reaches f c) fired ≡ b → (b' : Bool) → list_any (λ f. reaches f d) fired ≡ b' → (b || (b' || false)) ≡ true → IsFound found waiter
    go true e b' e' k = ((reached_by s es fired found fired c a e).first.noted node waiter w.first w.item).noted (record { node = node; chans = c ∷ d ∷ [] }) h on
    go false e true e' k = ((reached_by s es fired found fired d a e').second.noted node waiter w.second w.item).noted (record { node = node; chans = c ∷ d ∷ [] }) h on
    go false e false e' k = absurd (true≢false (sym k))
hit_found s es fired found waiter node (c ∷ d ∷ x ∷ chans) a h w on = absurd (omega (arith, w.two))
