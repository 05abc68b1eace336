-- What is held is awake again once there is memory for it.
use Rattle.std.proofs.Common.{◌≡◌, ◌⊎◌, inl, inr, ℕ, ◌+◌, ◌<◌, ◌≤◌, true, List, [], ◌∷◌, get_or, length, take, None, Some, sym, ap, subst, arith}
use Rattle.std.specs.Prelude.{Contains}
use Rattle.std.specs.List.{AllByRecursion as Each}
use Rattle.raft_model.specs.World.{World}
use Rattle.cluster_rules.specs.Cluster.{Pending, Server, server_of}
use Rattle.cluster_rules.proofs.Tools.{each_append}
use Rattle.cluster_requests.specs.Held.{held_in, pending_of}
use Rattle.cluster_requests.specs.Requests.{Requests}
use Rattle.cluster_requests.specs.declared.slot.HeldSlot.{HeldSlot}
use Rattle.cluster_requests.specs.declared.slot.HeldSlot.TheVariants.{Held, LetGo}
use Rattle.cluster_works.specs.Standing.{IsWatched, Stands}
use Rattle.cluster_works.specs.Watching.{MayBeDue, SameLines, StayAwake, Watching}
use Rattle.cluster_works.proofs.Awake.{held_next}
use Rattle.cluster_works.proofs.Watched.{same_leave, stands_by, woken_stands}

-- each of these requests has its number among those
abbrev pub AreAdded : List ℕ → List Pending → Type 0
AreAdded awake held = Each (λ (h : Pending). Contains awake h.question.number) held

pub slot_added : (awake : List ℕ) (slot : HeldSlot) (h : Pending) (number : ℕ) → Some h ≡ pending_of slot → number ≡ h.question.number → Contains awake number → AreAdded awake (held_in (slot ∷ []))
slot_added awake (Held own) h number is numbered there =
    let same : h ≡ own = cc is in
    (subst (λ (g : Pending). Contains awake g.question.number) same (subst (Contains awake) numbered there), tt)
slot_added awake (LetGo own) h number is numbered there = tt

pub none_added : (awake : List ℕ) (slot : HeldSlot) → None ≡ pending_of slot → AreAdded awake (held_in (slot ∷ []))
none_added awake (Held own) is = absurd cc
none_added awake (LetGo own) is = tt

still_added : (old new : List ℕ) (held : List Pending) → ((n : ℕ) → Contains old n → Contains new n) → AreAdded old held → AreAdded new held
still_added old new [] kept all = tt
still_added old new (h ∷ held) kept all = (kept h.question.number all.0, still_added old new held kept all.1)

pub added_next : (old new : List ℕ) (slots : List HeldSlot) (k : ℕ) (x : HeldSlot) → k < length slots → x ≡ get_or slots k x → ((n : ℕ) → Contains old n → Contains new n) → AreAdded new (held_in (x ∷ [])) → AreAdded old (held_in (take k slots)) → AreAdded new (held_in (take (k + 1) slots))
added_next old new slots k x l is kept one all =
    subst (AreAdded new) (sym (held_next slots k x l is))
    (each_append (λ (h : Pending). Contains new h.question.number) (held_in (take k slots)) (held_in (x ∷ [])) (still_added old new (held_in (take k slots)) kept all) one)

-- of all that are held something may be due
abbrev pub AreDue : Watching → List Pending → Type 0
AreDue watch held = Each (λ (h : Pending). MayBeDue h.question.number watch) held

pub added_due : (watch : Watching) (held : List Pending) → AreAdded watch.watch.awake held → AreDue watch held
added_due watch [] all = tt
added_due watch (h ∷ held) all = (inr (inr all.0), added_due watch held all.1)

-- where memory ran out
pub any_due : (watch : Watching) (held : List Pending) → watch.watch.all ≡ true → AreDue watch held
any_due watch [] all = tt
any_due watch (h ∷ held) all = (inr (inl all), any_due watch held all)

each_watched : (old new : Watching) (servers : List Server) (held : List Pending) → AreDue new held → Each (λ (h : Pending). IsWatched old (server_of servers h.server).applied h → IsWatched new (server_of servers h.server).applied h) held
each_watched old new servers [] all = tt
each_watched old new servers (h ∷ held) all = ((λ _. inl all.0), each_watched old new servers held all.1)

-- New requests were taken in, and then all that is held is awake, or nothing changed.
pub taken_stands : (old mid new : Watching) (r : Requests) (asked : ℕ) (held : List Pending) → asked ≡ r.asked → held ≡ r.held → StayAwake old mid → mid.watch.servers ≡ old.watch.servers → SameLines old mid → mid.seen ≤ asked
    → (new ≡ mid) ⊎ AreDue new held → new.watch.servers ≡ mid.watch.servers → new.seen ≡ mid.seen → (w : World) (servers : List Server) → Stands old w servers r → Stands new w servers r
taken_stands old mid new r asked held count is up same lines seen change on still w servers s = by change
  where
    first : Stands mid w servers r
    first = woken_stands old mid w servers r up same (same_leave old mid lines) (omega (arith, seen, count)) s

    by : (new ≡ mid) ⊎ AreDue new held → Stands new w servers r
    by (inl nothing) = subst (λ (x : Watching). Stands x w servers r) (sym nothing) first
    by (inr all) = stands_by mid new w servers r (ap length on) (omega (arith, seen, count, still)) (each_watched mid new servers r.held (subst (AreDue new) is all)) first
