-- Lock delays where keys are freed.
use Rattle.std.proofs.Common.{◌≡◌, ℕ, zero, suc, ◌+◌, ◌<◌, ◌≤◌, max, Bool, true, false, List, [], ◌∷◌, ◌++◌, length, drop, get_or, map, refl, sym, ap, ◌∙◌, arith}
use Rattle.std.specs.Prelude.{if◌then◌else◌}
use Rattle.std.proofs.lemmas.List.{drop_more, drop_all}
use Rattle.cat_model.specs.Keys.{same_text}
use Rattle.cat_model.specs.Delays.{freed_until}
use Rattle.cat_model.specs.Machine.{catalog_at, freed}
use Rattle.cat_model.specs.declared.command.Command.{Command}
use Rattle.cat_model.specs.declared.fired.Freed.{Freed}
use Rattle.applied_state.specs.Ends.{BeginsDelay, end_of}
use Rattle.cluster_rules.specs.Offices.{delay_over}
use Rattle.cluster_rules.proofs.Delaying.{delay_law}
use Rattle.applied_state.specs.Delays.{delay_end, end_with, freed_pair}
use Rattle.applied_state.specs.declared.delays.Delays.{Delays}

-- the greatest end among the keys from a place on
from : List ℕ → ℕ → List Freed → ℕ → ℕ
from key clock fs i = freed_until key clock (map freed_pair (drop i fs))

-- what is left begins with the key at its place
from_here : (key : List ℕ) (clock : ℕ) (fs : List Freed) (i : ℕ) (f : Freed) → f ≡ get_or fs i f → i < length fs
    → from key clock fs i ≡ (if same_text f.key key then max (clock + f.delay_ms) (from key clock fs (i + 1)) else from key clock fs (i + 1))
unfolding from
from_here key clock fs i f is less = ap (λ (l : List Freed). freed_until key clock (map freed_pair l)) (drop_more fs i f less ∙ ap (λ (g : Freed). g ∷ drop (i + 1) fs) (sym is))

from_past : (key : List ℕ) (clock : ℕ) (fs : List Freed) (i : ℕ) → length fs ≤ i → from key clock fs i ≡ 0
unfolding from
from_past key clock fs i past = ap (λ (l : List Freed). freed_until key clock (map freed_pair l)) (drop_all i fs past)

-- where one key is freed, the greatest end of those behind it counts too
pub until_same : (key : List ℕ) (clock end : ℕ) (fs : List Freed) (i : ℕ) (f : Freed) → f ≡ get_or fs i f → i < length fs → same_text f.key key ≡ true
    → max (max end (clock + f.delay_ms)) (freed_until key clock (map freed_pair (drop (i + 1) fs))) ≡ max end (freed_until key clock (map freed_pair (drop i fs)))
unfolding from
until_same key clock end fs i f is less same =
    let e : from key clock fs i ≡ max (clock + f.delay_ms) (from key clock fs (i + 1)) = from_here key clock fs i f is less ∙ ap (λ b. if b then max (clock + f.delay_ms) (from key clock fs (i + 1)) else from key clock fs (i + 1)) same in
    regroup end (clock + f.delay_ms) (from key clock fs (i + 1)) ∙ ap (max end) (sym e)
  where
    regroup : (a b c : ℕ) → max (max a b) c ≡ max a (max b c)
    regroup a b c = omega arith

pub until_other : (key : List ℕ) (clock end : ℕ) (fs : List Freed) (i : ℕ) (f : Freed) → f ≡ get_or fs i f → i < length fs → same_text f.key key ≡ false
    → max end (freed_until key clock (map freed_pair (drop (i + 1) fs))) ≡ max end (freed_until key clock (map freed_pair (drop i fs)))
unfolding from
until_other key clock end fs i f is less other =
    let e : from key clock fs i ≡ from key clock fs (i + 1) = from_here key clock fs i f is less ∙ ap (λ b. if b then max (clock + f.delay_ms) (from key clock fs (i + 1)) else from key clock fs (i + 1)) other in
    ap (max end) (sym e)

pub until_end : (key : List ℕ) (clock end : ℕ) (fs : List Freed) (i : ℕ) → length fs ≤ i → max end (freed_until key clock (map freed_pair (drop i fs))) ≡ end
unfolding from
until_end key clock end fs i past = ap (max end) (from_past key clock fs i past) ∙ above end
  where
    above : (a : ℕ) → max a 0 ≡ a
    above a = omega arith

-- the delay of one key begins, so that it is left no more
pub begins_next : (clock : ℕ) (fs : List Freed) (i : ℕ) (f : Freed) → f ≡ get_or fs i f → i < length fs → (old new : List (List ℕ × ℕ)) → BeginsDelay f.key (clock + f.delay_ms) old new
    → (key : List ℕ) → end_with (drop (i + 1) fs) clock new key ≡ end_with (drop i fs) clock old key
unfolding from
begins_next clock fs i f is less old new begins key =
    ap (max (from key clock fs (i + 1))) (begins key) ∙ moved (same_text f.key key) (clock + f.delay_ms) (from key clock fs (i + 1)) (end_of key old) ∙ ap (λ (n : ℕ). max n (end_of key old)) (sym (from_here key clock fs i f is less))
  where
    moved : (b : Bool) (c rest end : ℕ) → max rest (if b then max c end else end) ≡ max (if b then max c rest else rest) end
    moved true c rest end = omega arith
    moved false c rest end = refl

-- each of the keys has begun its delay
pub begun_all : (clock : ℕ) (fs : List Freed) (i : ℕ) → length fs ≤ i → (old new : List (List ℕ × ℕ)) → ((key : List ℕ) → end_with (drop i fs) clock new key ≡ end_with fs clock old key)
    → (key : List ℕ) → end_of key new ≡ end_with fs clock old key
unfolding from
begun_all clock fs i past old new keeps key = alone (end_of key new) ∙ ap (λ (n : ℕ). max n (end_of key new)) (sym (from_past key clock fs i past)) ∙ keeps key
  where
    alone : (a : ℕ) → a ≡ max 0 a
    alone a = omega arith

-- those that are left count no less than all
from_under : (key : List ℕ) (clock : ℕ) (fs : List Freed) (i : ℕ) → from key clock fs i ≤ freed_until key clock (map freed_pair fs)
unfolding from
from_under key clock [] zero = omega arith
from_under key clock [] (suc i) = omega arith
from_under key clock (f ∷ fs) zero = omega arith
from_under key clock (f ∷ fs) (suc i) = more (same_text f.key key) (clock + f.delay_ms) (from key clock fs i) (freed_until key clock (map freed_pair fs)) (from_under key clock fs i)
  where
    more : (b : Bool) (c rest all : ℕ) → rest ≤ all → rest ≤ (if b then max c all else all)
    more true c rest all under = omega arith
    more false c rest all under = under

-- some of the keys have begun their delays
pub begun_some : (clock : ℕ) (fs : List Freed) (i : ℕ) (old new : List (List ℕ × ℕ)) → ((key : List ℕ) → end_with (drop i fs) clock new key ≡ end_with fs clock old key)
    → (key : List ℕ) → end_with fs clock new key ≡ end_with fs clock old key
unfolding from
begun_some clock fs i old new keeps key = within (freed_until key clock (map freed_pair fs)) (from key clock fs i) (end_of key new) (end_of key old) (from_under key clock fs i) (keeps key)
  where
    within : (all rest new old : ℕ) → rest ≤ all → max rest new ≡ max all old → max all new ≡ max all old
    within all rest new old under e = omega arith

-- a server's lock delays with one more position
pub delays_next : (cs : List Command) (ks : List ℕ) → length ks ≡ length cs → (c : Command) (now position : ℕ) → position ≡ length cs + 1 → (fs : List Freed) → map freed_pair fs ≡ freed position c (catalog_at cs)
    → (before after : Delays) → ((key : List ℕ) → delay_end before key ≡ delay_over cs ks key) → ((key : List ℕ) → delay_end after key ≡ max (freed_until key now (map freed_pair fs)) (delay_end before key))
    → (cs' : List Command) → cs' ≡ cs ++ c ∷ [] → (ks' : List ℕ) → ks' ≡ ks ++ now ∷ [] → (key : List ℕ) → delay_end after key ≡ delay_over cs' ks' key
delays_next cs ks size c now position place fs is before after was goes cs' cs_is ks' ks_is key =
    goes key
    ∙ ap (λ (l : List (List ℕ × ℕ)). max (freed_until key now l) (delay_end before key)) (is ∙ ap (λ (n : ℕ). freed n c (catalog_at cs)) place)
    ∙ ap (max (freed_until key now (freed (length cs + 1) c (catalog_at cs)))) (was key)
    ∙ sym ((delay_law cs ks (sym size) key).applied c now)
    ∙ ap (λ (l : List Command). delay_over l (ks ++ now ∷ []) key) (sym cs_is)
    ∙ ap (λ (l : List ℕ). delay_over cs' l key) (sym ks_is)

pub delays_begin : (d : Delays) → ((key : List ℕ) → delay_end d key ≡ 0) → (cs : List Command) → cs ≡ [] → (ks : List ℕ) → ks ≡ [] → (key : List ℕ) → delay_end d key ≡ delay_over cs ks key
delays_begin d none cs cs_is ks ks_is key =
    none key
    ∙ sym (delay_law [] [] refl key).begun
    ∙ ap (λ (l : List Command). delay_over l [] key) (sym cs_is)
    ∙ ap (λ (l : List ℕ). delay_over cs l key) (sym ks_is)
