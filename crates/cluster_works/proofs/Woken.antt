-- Of what is held at a server and does not wake nothing is due there.
use Rattle.std.proofs.Common.{◌≡◌, ◌≢◌, ◌⊎◌, inl, inr, ℕ, ◌<◌, ◌==◌, ◌&&◌, ◌||◌, nat_le, nat_lt, not, Bool, true, false, length, List, [], ◌∷◌, refl, ap, ◌∙◌, subst, arith}
use Rattle.std.specs.List.{AllByRecursion as Each}
use Rattle.cat_model.specs.Channels.{chans}
use Rattle.cat_model.specs.Indexes.{index_of}
use Rattle.cat_model.specs.Log.{commands_of}
use Rattle.cat_model.specs.Machine.{catalog_at}
use Rattle.cat_model.specs.declared.query.Chan.{Chan}
use Rattle.cat_model.specs.declared.request.Asked.{Asked}
use Rattle.cat_model.specs.declared.request.Asked.TheVariants.{Good}
use Rattle.cat_model.specs.declared.request.Request.TheVariants.{Read}
use Rattle.raft_model.proofs.Tests.{eq_tells, or_false}
use Rattle.raft_model.specs.Rules.{is_confirmed}
use Rattle.raft_model.specs.World.{World}
use Rattle.raft_model.specs.declared.message.Round.{Round}
use Rattle.raft_world.specs.Steps.{IsNumber}
use Rattle.read_watch.specs.Watch as plain
use Rattle.cluster_rules.specs.Cluster.{AtPlace, Ended, ForIndex, InRound, Pending, Server, Stand, clock_of, node_of, server_of}
use Rattle.cluster_replicas.specs.Servers.{Servers}
use Rattle.cluster_requests.specs.Requests.{Requests}
use Rattle.cluster_works.specs.Acting.{AreAwake}
use Rattle.cluster_works.specs.Looking.{OnlyAwakeIsDue, applied_at, is_early, is_late, is_look_due, is_round_past, is_stand_due, is_stand_late}
use Rattle.cluster_works.specs.Standing as standing
use Rattle.cluster_works.specs.Standing.{IsHeld, IsWatched, Stands}
use Rattle.cluster_works.specs.Watching.{IsInLine, LeaveLine, MayBeDue, SameLines, Sleeps, StayAwake, Watching}
use Rattle.cluster_works.proofs.Finding.{not_above, not_reached}
use Rattle.cluster_works.proofs.InLine.{left_leave}
use Rattle.cluster_works.proofs.Watched.{RestsAs, over_stands, rests_as, same_leave, same_stay, woken_stands}

-- a server of the world is one of the watch
pub is_server : (watch : Watching) (w : World) (servers : List Server) (r : Requests) (i : ℕ) → Stands watch w servers r → IsNumber i w → plain.IsServer i watch.watch
is_server watch w servers r i s number = let count = s.count in let size = s.watching.0 in (number.0, omega (arith, number.1, count, size))

-- neither is due of it at server i, by what it waits for
abbrev pub WaitsOn : Servers → ℕ → Asked → Stand → Type 0
WaitsOn s i asked stand = (is_stand_due s i asked stand ≡ false) × (is_stand_late s i stand ≡ false)

-- a read that rests, while its time is not over
rest_waits : (s : Servers) (i : ℕ) (watch : Watching) (n clock : ℕ) (asked : Asked) (stand : Stand) → clock ≡ clock_of s.world i → (r : RestsAs watch (applied_at s i) i n asked stand) → clock < r.deadline → WaitsOn s i asked stand
rest_waits s i watch n clock asked stand at r later = (
  ap (λ (a : Asked). is_stand_due s i a stand) r.asked_is ∙ (ap (λ (x : Stand). is_stand_due s i (Good (Read r.query r.mode r.least r.wait r.raw)) x) r.stand_is ∙ waits),
  ap (λ (x : Stand). is_stand_late s i x) r.stand_is,
)
  where
    ahead : nat_le r.deadline (clock_of s.world i) ≡ false
    ahead = not_reached r.deadline (clock_of s.world i) (omega (arith, later, at))

    waits : is_look_due s i r.deadline true (Good (Read r.query r.mode r.least r.wait r.raw)) ≡ false
    waits = ap (λ b. b || nat_lt r.least (index_of r.query (commands_of (applied_at s i)))) ahead ∙ not_above r.least (index_of r.query (commands_of (applied_at s i))) r.low

-- a write whose position is not applied
place_waits : (s : Servers) (i : ℕ) (asked : Asked) (index term applied : ℕ) → applied ≡ length (applied_at s i) → applied < index → WaitsOn s i asked (AtPlace index term)
place_waits s i asked index term applied is later = (not_reached index (length (applied_at s i)) (omega (arith, later, is)), refl)

and_not : (a : Bool) → (a && false) ≡ false
and_not true = refl
and_not false = refl

-- a read whose round is not past
round_waits : (s : Servers) (i : ℕ) (asked : Asked) (round : Round) (deadline : ℕ) → is_round_past s i round.term round.number ≡ false → WaitsOn s i asked (InRound round deadline)
round_waits s i asked round deadline e =
    let q = or_false (nat_lt round.term (node_of s.world i).term) (is_confirmed (node_of s.world i) round) e in
    (q.0, ap (λ b. not (node_of s.world i).halted && (b && nat_le round.commit (length (applied_at s i)))) q.1 ∙ and_not (not (node_of s.world i).halted))

-- What woke at server i, which runs: from `old` to `over` those whose time is over, to `reached` those whose position is
-- applied, and to `new` those whose round is past.
pub record Wakes (s : Servers) (i clock applied : ℕ) (old over reached new : Watching) : Type 0 where
  pub clock_is : clock ≡ clock_of s.world i
  pub applied_is : applied ≡ length (applied_at s i)
  pub over_kept : StayAwake old over
  pub over_slept : (j n : ℕ) (on : List Chan) (until : ℕ) → Sleeps j n on until old → MayBeDue n over ⊎ (Sleeps j n on until over × (j ≡ i → clock < until))
  pub over_lines : SameLines old over
  pub reached_kept : StayAwake over reached
  pub reached_lines : LeaveLine over reached
  pub reached_later : (n index term : ℕ) → IsInLine i n (AtPlace index term) over → MayBeDue n reached ⊎ (applied < index)
  pub kept : StayAwake reached new
  pub lines : LeaveLine reached new
  pub later : (n term number : ℕ) → plain.AwaitsRound i n term number new.watch → is_round_past s i term number ≡ false

-- who is in line at the server wakes, or what it waits for has not come
line_waits : (s : Servers) (i clock applied : ℕ) (old over reached new : Watching) → Wakes s i clock applied old over reached new → (n : ℕ) (asked : Asked) (stand : Stand) → IsInLine i n stand old → MayBeDue n new ⊎ WaitsOn s i asked stand
line_waits s i clock applied old over reached new w n asked (AtPlace index term) x = by (w.reached_later n index term (same_stay old over w.over_lines i n (AtPlace index term) x))
  where
    by : MayBeDue n reached ⊎ (applied < index) → MayBeDue n new ⊎ WaitsOn s i asked (AtPlace index term)
    by (inl due) = inl (w.kept n due)
    by (inr later) = inr (place_waits s i asked index term applied w.applied_is later)
line_waits s i clock applied old over reached new w n asked (InRound round deadline) x = by (w.reached_lines i n (InRound round deadline) (same_stay old over w.over_lines i n (InRound round deadline) x))
  where
    last : MayBeDue n new ⊎ IsInLine i n (InRound round deadline) new → MayBeDue n new ⊎ WaitsOn s i asked (InRound round deadline)
    last (inl due) = inl due
    last (inr y) = inr (round_waits s i asked round deadline (w.later n round.term round.number y))

    by : MayBeDue n reached ⊎ IsInLine i n (InRound round deadline) reached → MayBeDue n new ⊎ WaitsOn s i asked (InRound round deadline)
    by (inl due) = inl (w.kept n due)
    by (inr y) = last (w.lines i n (InRound round deadline) y)
line_waits s i clock applied old over reached new w n asked (ForIndex deadline looked) x = absurd x
line_waits s i clock applied old over reached new w n asked (Ended event) x = absurd x

one_waits : (s : Servers) (i clock applied : ℕ) (old over reached new : Watching) → Wakes s i clock applied old over reached new → (h : Pending) → h.server ≡ i → IsWatched old (server_of s.servers h.server).applied h → MayBeDue h.question.number new ⊎ WaitsOn s i h.question.asked h.stand
one_waits s i clock applied old over reached new w h here x = go (subst (λ k. MayBeDue h.question.number old ⊎ (standing.Rests old (server_of s.servers k).applied k h.question.number h.question.asked h.stand ⊎ IsInLine k h.question.number h.stand old)) here x)
  where
    asleep : (r : RestsAs old (applied_at s i) i h.question.number h.question.asked h.stand)
        → MayBeDue h.question.number over ⊎ (Sleeps i h.question.number (chans r.query (catalog_at (commands_of (applied_at s i)))) r.deadline over × (i ≡ i → clock < r.deadline)) → MayBeDue h.question.number new ⊎ WaitsOn s i h.question.asked h.stand
    asleep r (inl due) = inl (w.kept h.question.number (w.reached_kept h.question.number due))
    asleep r (inr (sleeps, later)) = inr (rest_waits s i old h.question.number clock h.question.asked h.stand w.clock_is r (later refl))

    go : MayBeDue h.question.number old ⊎ (standing.Rests old (applied_at s i) i h.question.number h.question.asked h.stand ⊎ IsInLine i h.question.number h.stand old) → MayBeDue h.question.number new ⊎ WaitsOn s i h.question.asked h.stand
    go (inl due) = inl (w.kept h.question.number (w.reached_kept h.question.number (w.over_kept h.question.number due)))
    go (inr (inl rests)) =
        let r = rests_as old (applied_at s i) i h.question.number h.question.asked h.stand rests in
        asleep r (w.over_slept i h.question.number (chans r.query (catalog_at (commands_of (applied_at s i)))) r.deadline r.sleeps)
    go (inr (inr line)) = line_waits s i clock applied old over reached new w h.question.number h.question.asked h.stand line

-- nothing is due of it, of whichever server it is
abbrev IsQuiet : Servers → ℕ → Pending → Type 0
IsQuiet s i h = (is_early s i h ≡ false) × (is_late s i h ≡ false)

one_quiet : (s : Servers) (i clock applied : ℕ) (old over reached new : Watching) → Wakes s i clock applied old over reached new → (node_of s.world i).halted ≡ false → (h : Pending) → IsWatched old (server_of s.servers h.server).applied h → MayBeDue h.question.number new ⊎ IsQuiet s i h
one_quiet s i clock applied old over reached new w runs h x = by (h.server == i) refl
  where
    Quiet : Bool → Type 0
    Quiet here = MayBeDue h.question.number new ⊎ (((here && ((node_of s.world i).halted || is_stand_due s i h.question.asked h.stand)) ≡ false) × ((here && is_stand_late s i h.stand) ≡ false))

    there : MayBeDue h.question.number new ⊎ WaitsOn s i h.question.asked h.stand → Quiet true
    there (inl due) = inl due
    there (inr (early, late)) = inr (ap (λ b. b || is_stand_due s i h.question.asked h.stand) runs ∙ early, late)

    by : (here : Bool) → (h.server == i) ≡ here → Quiet here
    by false e = inr (refl, refl)
    by true e = there (one_waits s i clock applied old over reached new w h (eq_tells h.server i e) x)

pub only_awake : (s : Servers) (r : Requests) (i clock applied : ℕ) (old over reached new : Watching) → Wakes s i clock applied old over reached new → (node_of s.world i).halted ≡ false → Stands old s.world s.servers r → OnlyAwakeIsDue new s i r.held
only_awake s r i clock applied old over reached new w runs stands = go r.held stands.held
  where
    go : (held : List Pending) → Each (IsHeld old s.servers r.asked) held → Each (λ (h : Pending). MayBeDue h.question.number new ⊎ IsQuiet s i h) held
    go [] all = tt
    go (h ∷ held) all = (one_quiet s i clock applied old over reached new w runs h all.0.watched, go held all.1)

pub wakes_stand : (s : Servers) (r : Requests) (i clock applied : ℕ) (old over reached new : Watching) → Wakes s i clock applied old over reached new → length over.watch.servers ≡ length old.watch.servers → over.seen ≡ old.seen
    → reached.watch.servers ≡ over.watch.servers → reached.seen ≡ over.seen → new.watch.servers ≡ reached.watch.servers → new.seen ≡ reached.seen → Stands old s.world s.servers r → Stands new s.world s.servers r
wakes_stand s r i clock applied old over reached new w size seen same₁ seen₁ same₂ seen₂ stands =
    let within = stands.watching.1 in
    let first = over_stands old over s.world s.servers r (λ j until. j ≡ i → clock < until) w.over_kept w.over_slept size (same_leave old over w.over_lines) (omega (arith, seen, within)) stands in
    let mid = woken_stands over reached s.world s.servers r w.reached_kept same₁ w.reached_lines (omega (arith, seen, within, seen₁)) first in
    woken_stands reached new s.world s.servers r w.kept same₂ w.lines (omega (arith, seen, within, seen₁, seen₂)) mid

-- at a server of which all is awake that it holds
pub all_awake_due : (s : Servers) (i : ℕ) (new : Watching) (held : List Pending) → AreAwake new i held → OnlyAwakeIsDue new s i held
all_awake_due s i new [] all = tt
all_awake_due s i new (h ∷ held) all = (by (h.server == i) refl, all_awake_due s i new held all.1)
  where
    by : (here : Bool) → (h.server == i) ≡ here → MayBeDue h.question.number new ⊎ (((here && ((node_of s.world i).halted || is_stand_due s i h.question.asked h.stand)) ≡ false) × ((here && is_stand_late s i h.stand) ≡ false))
    by false e = inr (refl, refl)
    by true e = inl (all.0 (eq_tells h.server i e))

-- All woke that sleep or are in line at a server.
pub record Rouses (server : ℕ) (old new : Watching) : Type 0 where
  pub kept : StayAwake old new
  pub slept : (i n : ℕ) (on : List Chan) (until : ℕ) → Sleeps i n on until old → MayBeDue n new ⊎ (Sleeps i n on until new × (i ≢ server))
  pub lines : (i n : ℕ) (stand : Stand) → IsInLine i n stand old → MayBeDue n new ⊎ (IsInLine i n stand new × (i ≢ server))
  pub servers : length new.watch.servers ≡ length old.watch.servers
  pub seen : new.seen ≡ old.seen

pub roused_stands : (server : ℕ) (old new : Watching) (r : Requests) → Rouses server old new → (w : World) (servers : List Server) → Stands old w servers r → Stands new w servers r
roused_stands server old new r x w servers s =
    let within = s.watching.1 in let seen = x.seen in
    over_stands old new w servers r (λ i until. i ≢ server) x.kept x.slept x.servers (left_leave old new (λ i. i ≢ server) x.lines) (omega (arith, seen, within)) s

pub roused_awake : (server : ℕ) (old new : Watching) (r : Requests) → Rouses server old new → (w : World) (servers : List Server) → Stands old w servers r → AreAwake new server r.held
roused_awake server old new r x w servers s = go r.held s.held
  where
    left : {A : Type 0} (i n : ℕ) → i ≡ server → MayBeDue n new ⊎ (A × (i ≢ server)) → MayBeDue n new
    left i n here (inl due) = due
    left i n here (inr (stays, away)) = absurd (away here)

    one : (h : Pending) → IsWatched old (server_of servers h.server).applied h → h.server ≡ server → MayBeDue h.question.number new
    one h (inl due) here = x.kept h.question.number due
    one h (inr (inl rests)) here =
        let q = rests_as old (server_of servers h.server).applied h.server h.question.number h.question.asked h.stand rests in
        left h.server h.question.number here (x.slept h.server h.question.number (chans q.query (catalog_at (commands_of (server_of servers h.server).applied))) q.deadline q.sleeps)
    one h (inr (inr line)) here = left h.server h.question.number here (x.lines h.server h.question.number h.stand line)

    go : (held : List Pending) → Each (IsHeld old servers r.asked) held → AreAwake new server held
    go [] all = tt
    go (h ∷ held) all = (one h all.0.watched, go held all.1)
