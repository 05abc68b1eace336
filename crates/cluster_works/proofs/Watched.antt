-- What is watched stays watched, whichever requests wake, sleep or are dropped.
use Rattle.std.proofs.Common.{◌≡◌, ◌≢◌, ◌⊎◌, inl, inr, ℕ, ◌≤◌, Bool, true, false, List, [], ◌∷◌, length, refl, sym, ap, ◌∙◌, subst}
use Rattle.std.specs.List.{AllByRecursion as Each}
use Rattle.cat_model.specs.Channels.{chans}
use Rattle.cat_model.specs.Indexes.{index_of}
use Rattle.cat_model.specs.Log.{commands_of}
use Rattle.cat_model.specs.Machine.{catalog_at}
use Rattle.cat_model.specs.Reach.{is_on}
use Rattle.cat_model.specs.declared.query.Chan.{Chan}
use Rattle.cat_model.specs.declared.query.Query.{Query}
use Rattle.cat_model.specs.declared.request.Asked.{Asked}
use Rattle.cat_model.specs.declared.request.Asked.TheVariants.{Good, Bad}
use Rattle.cat_model.specs.declared.request.Mode.{Mode}
use Rattle.cat_model.specs.declared.request.Request.TheVariants.{Read, Execute, Write, Renew, Agent}
use Rattle.raft_model.specs.Log.{Log}
use Rattle.raft_model.specs.World.{World}
use Rattle.read_watch.specs.Lines.{Line, WaitsIn}
use Rattle.read_watch.specs.Watch as plain
use Rattle.cluster_rules.specs.Cluster.{AtPlace, Ended, ForIndex, InRound, Pending, Server, Stand, server_of}
use Rattle.applied_state.specs.Sparing.{SparesOthers}
use Rattle.cluster_requests.specs.Requests.{Requests}
use Rattle.cluster_works.specs.Standing.{IsHeld, IsWatched, Rests, Stands}
use Rattle.cluster_works.specs.Watching.{IsInLine, LeaveLine, MayBeDue, SameLines, Sleeps, StayAwake, StayInLine, Watching}

-- a request that rests, with what it asks and where it stands
pub record RestsAs (watch : Watching) (applied : Log) (server number : ℕ) (asked : Asked) (stand : Stand) : Type 0 where
  pub query : Query
  pub mode : Mode
  pub least : ℕ
  pub wait : ℕ
  pub raw : Bool
  pub deadline : ℕ
  pub asked_is : asked ≡ Good (Read query mode least wait raw)
  pub stand_is : stand ≡ ForIndex deadline true
  pub sleeps : Sleeps server number (chans query (catalog_at (commands_of applied))) deadline watch
  pub low : index_of query (commands_of applied) ≤ least

pub rests_as : (watch : Watching) (applied : Log) (server number : ℕ) (asked : Asked) (stand : Stand) → Rests watch applied server number asked stand → RestsAs watch applied server number asked stand
rests_as watch applied server number (Good (Read query mode least wait raw)) (ForIndex deadline true) x = record {
  query = query;
  mode = mode;
  least = least;
  wait = wait;
  raw = raw;
  deadline = deadline;
  asked_is = refl;
  stand_is = refl;
  sleeps = x.0;
  low = x.1;
}
rests_as watch applied server number (Good (Read query mode least wait raw)) (ForIndex deadline false) x = absurd x
rests_as watch applied server number (Good (Read query mode least wait raw)) (AtPlace index term) x = absurd x
rests_as watch applied server number (Good (Read query mode least wait raw)) (InRound round deadline) x = absurd x
rests_as watch applied server number (Good (Read query mode least wait raw)) (Ended event) x = absurd x
rests_as watch applied server number (Good (Write command)) stand x = absurd x
rests_as watch applied server number (Good (Execute name limit mode)) stand x = absurd x
rests_as watch applied server number (Good (Renew id)) stand x = absurd x
rests_as watch applied server number (Good (Agent op)) stand x = absurd x
rests_as watch applied server number (Bad why) stand x = absurd x

pub rests_so : (watch : Watching) (applied : Log) (server number : ℕ) (asked : Asked) (stand : Stand) → RestsAs watch applied server number asked stand → Rests watch applied server number asked stand
rests_so watch applied server number asked stand x =
    subst (λ (a : Asked). Rests watch applied server number a stand) (sym x.asked_is)
    (subst (λ (s : Stand). Rests watch applied server number (Good (Read x.query x.mode x.least x.wait x.raw)) s) (sym x.stand_is) (x.sleeps, x.low))

-- where nobody joined or left a line, who is in line stays there
pub same_stay : (old new : Watching) → SameLines old new → StayInLine old new
same_stay old new same i n (AtPlace index term) x = subst (λ (lines : List Line). WaitsIn i n 0 index lines) (sym same.0) x
same_stay old new same i n (InRound round deadline) x = subst (λ (lines : List Line). WaitsIn i n round.term round.number lines) (sym same.1) x
same_stay old new same i n (ForIndex deadline looked) x = absurd x
same_stay old new same i n (Ended event) x = absurd x

pub stay_leave : (old new : Watching) → StayInLine old new → LeaveLine old new
stay_leave old new stay i n stand x = inr (stay i n stand x)

pub same_leave : (old new : Watching) → SameLines old new → LeaveLine old new
same_leave old new same = stay_leave old new (same_stay old new same)

-- what is awake or in line is watched
pub in_line : (watch : Watching) (applied : Log) (h : Pending) → MayBeDue h.question.number watch ⊎ IsInLine h.server h.question.number h.stand watch → IsWatched watch applied h
in_line watch applied h (inl awake) = inl awake
in_line watch applied h (inr waits) = inr (inr waits)

-- The request waits at this server, whose log is the same.
pub watched_by : (old new : Watching) (applied : Log) (h : Pending) → (MayBeDue h.question.number old → MayBeDue h.question.number new)
    → ((on : List Chan) (until : ℕ) → Sleeps h.server h.question.number on until old → MayBeDue h.question.number new ⊎ Sleeps h.server h.question.number on until new)
    → (IsInLine h.server h.question.number h.stand old → MayBeDue h.question.number new ⊎ IsInLine h.server h.question.number h.stand new) → IsWatched old applied h → IsWatched new applied h
watched_by old new applied h up down lines (inl awake) = inl (up awake)
watched_by old new applied h up down lines (inr (inr waits)) = in_line new applied h (lines waits)
watched_by old new applied h up down lines (inr (inl rests)) = go (rests_as old applied h.server h.question.number h.question.asked h.stand rests)
  where
    by : (r : RestsAs old applied h.server h.question.number h.question.asked h.stand) → MayBeDue h.question.number new ⊎ Sleeps h.server h.question.number (chans r.query (catalog_at (commands_of applied))) r.deadline new → IsWatched new applied h
    by r (inl awake) = inl awake
    by r (inr sleeps) =
        inr (inl (rests_so new applied h.server h.question.number h.question.asked h.stand (record { query = r.query; mode = r.mode; least = r.least; wait = r.wait; raw = r.raw; deadline = r.deadline; asked_is = r.asked_is; stand_is = r.stand_is; sleeps = sleeps; low = r.low })))

    go : RestsAs old applied h.server h.question.number h.question.asked h.stand → IsWatched new applied h
    go r = by r (down (chans r.query (catalog_at (commands_of applied))) r.deadline r.sleeps)

-- At its server, more was applied, which fired these channels.
pub fired_watched : (old new : Watching) (applied applied' : Log) (fired : List Chan) (h : Pending) → SparesOthers (commands_of applied) (commands_of applied') fired → (MayBeDue h.question.number old → MayBeDue h.question.number new)
    → ((on : List Chan) (until : ℕ) → Sleeps h.server h.question.number on until old → MayBeDue h.question.number new ⊎ (Sleeps h.server h.question.number on until new × (is_on fired on ≡ false)))
    → (IsInLine h.server h.question.number h.stand old → MayBeDue h.question.number new ⊎ IsInLine h.server h.question.number h.stand new) → IsWatched old applied h → IsWatched new applied' h
fired_watched old new applied applied' fired h spares up down lines (inl awake) = inl (up awake)
fired_watched old new applied applied' fired h spares up down lines (inr (inr waits)) = in_line new applied' h (lines waits)
fired_watched old new applied applied' fired h spares up down lines (inr (inl rests)) = go (rests_as old applied h.server h.question.number h.question.asked h.stand rests)
  where
    by : (r : RestsAs old applied h.server h.question.number h.question.asked h.stand)
        → MayBeDue h.question.number new ⊎ (Sleeps h.server h.question.number (chans r.query (catalog_at (commands_of applied))) r.deadline new × (is_on fired (chans r.query (catalog_at (commands_of applied))) ≡ false)) → IsWatched new applied' h
    by r (inl awake) = inl awake
    by r (inr (sleeps, off)) =
        let same = spares r.query off in
        inr (inl (rests_so new applied' h.server h.question.number h.question.asked h.stand (record {
          query = r.query;
          mode = r.mode;
          least = r.least;
          wait = r.wait;
          raw = r.raw;
          deadline = r.deadline;
          asked_is = r.asked_is;
          stand_is = r.stand_is;
          sleeps = subst (λ (on : List Chan). Sleeps h.server h.question.number on r.deadline new) (sym same.1) sleeps;
          low = subst (λ k. k ≤ r.least) (sym same.0) r.low;
        })))

    go : RestsAs old applied h.server h.question.number h.question.asked h.stand → IsWatched new applied' h
    go r = by r (down (chans r.query (catalog_at (commands_of applied))) r.deadline r.sleeps)

held_by : (old new : Watching) (servers : List Server) (asked : ℕ) (h : Pending) → (IsWatched old (server_of servers h.server).applied h → IsWatched new (server_of servers h.server).applied h) → IsHeld old servers asked h → IsHeld new servers asked h
held_by old new servers asked h f x = record { numbered = x.numbered; taken = x.taken; awaited = x.awaited; watched = f x.watched }

all_by : (old new : Watching) (servers : List Server) (asked : ℕ) (held : List Pending) → Each (λ (h : Pending). IsWatched old (server_of servers h.server).applied h → IsWatched new (server_of servers h.server).applied h) held
    → Each (IsHeld old servers asked) held → Each (IsHeld new servers asked) held
all_by old new servers asked [] f all = tt
all_by old new servers asked (h ∷ held) f all = (held_by old new servers asked h f.0 all.0, all_by old new servers asked held f.1 all.1)

pub stands_by : (old new : Watching) (w : World) (servers : List Server) (r : Requests) → length new.watch.servers ≡ length old.watch.servers → new.seen ≤ r.asked
    → Each (λ (h : Pending). IsWatched old (server_of servers h.server).applied h → IsWatched new (server_of servers h.server).applied h) r.held → Stands old w servers r → Stands new w servers r
stands_by old new w servers r size seen on s = record {
  some = s.some;
  count = s.count;
  watching = (size ∙ s.watching.0, seen);
  proposed = s.proposed;
  ascends = s.ascends;
  held = all_by old new servers r.asked r.held on s.held;
}

each_so : (P : Pending → Type 0) → ((h : Pending) → P h) → (held : List Pending) → Each P held
each_so P f [] = tt
each_so P f (h ∷ held) = (f h, each_so P f held)

-- some wake
sleeps_same : (old new : Watching) → new.watch.servers ≡ old.watch.servers → (i n : ℕ) (on : List Chan) (until : ℕ) → Sleeps i n on until old → Sleeps i n on until new
sleeps_same old new same i n on until s = subst (λ (ss : List plain.Sleepers). plain.SleepsAmong n on until (plain.sleepers_of ss i)) (sym same) s

pub woken_stands : (old new : Watching) (w : World) (servers : List Server) (r : Requests) → StayAwake old new → new.watch.servers ≡ old.watch.servers → LeaveLine old new → new.seen ≤ r.asked → Stands old w servers r → Stands new w servers r
woken_stands old new w servers r up same lines seen s =
    stands_by old new w servers r (ap length same) seen
    (each_so (λ (h : Pending). IsWatched old (server_of servers h.server).applied h → IsWatched new (server_of servers h.server).applied h)
    (λ h. watched_by old new (server_of servers h.server).applied h (up h.question.number) (λ on until x. inr (sleeps_same old new same h.server h.question.number on until x)) (lines h.server h.question.number h.stand)) r.held) s

-- those of a server wake whose time is over
pub over_stands : (old new : Watching) (w : World) (servers : List Server) (r : Requests) (Later : ℕ → ℕ → Type 0) → StayAwake old new
    → ((i n : ℕ) (on : List Chan) (until : ℕ) → Sleeps i n on until old → MayBeDue n new ⊎ (Sleeps i n on until new × Later i until)) → length new.watch.servers ≡ length old.watch.servers → LeaveLine old new → new.seen ≤ r.asked → Stands old w servers r → Stands new w servers r
over_stands old new w servers r Later up down size lines seen s =
    stands_by old new w servers r size seen
    (each_so (λ (h : Pending). IsWatched old (server_of servers h.server).applied h → IsWatched new (server_of servers h.server).applied h)
    (λ h. watched_by old new (server_of servers h.server).applied h (up h.question.number) (λ on until x. first (down h.server h.question.number on until x)) (lines h.server h.question.number h.stand)) r.held) s
  where
    first : {A B C : Type 0} → A ⊎ (B × C) → A ⊎ B
    first (inl a) = inl a
    first (inr b) = inr b.0

-- All but those of one number stay as they are. Of that one no request is held, or the held one is watched.
pub others_stand : (old new : Watching) (w : World) (servers : List Server) (r : Requests) (number : ℕ) → ((n : ℕ) → n ≢ number → MayBeDue n old → MayBeDue n new)
    → ((i n : ℕ) (on : List Chan) (until : ℕ) → n ≢ number → Sleeps i n on until old → Sleeps i n on until new) → length new.watch.servers ≡ length old.watch.servers
    → ((i n : ℕ) (stand : Stand) → n ≢ number → IsInLine i n stand old → MayBeDue n new ⊎ IsInLine i n stand new) → new.seen ≤ r.asked
    → Each (λ (h : Pending). (h.question.number ≢ number) ⊎ IsWatched new (server_of servers h.server).applied h) r.held → Stands old w servers r → Stands new w servers r
others_stand old new w servers r number up down size lines seen each s = stands_by old new w servers r size seen (go r.held each) s
  where
    one : (h : Pending) → (h.question.number ≢ number) ⊎ IsWatched new (server_of servers h.server).applied h → IsWatched old (server_of servers h.server).applied h → IsWatched new (server_of servers h.server).applied h
    one h (inl other) x =
        watched_by old new (server_of servers h.server).applied h (up h.question.number other) (λ on until z. inr (down h.server h.question.number on until other z)) (lines h.server h.question.number h.stand other) x
    one h (inr there) x = there

    go : (held : List Pending) → Each (λ (h : Pending). (h.question.number ≢ number) ⊎ IsWatched new (server_of servers h.server).applied h) held
        → Each (λ (h : Pending). IsWatched old (server_of servers h.server).applied h → IsWatched new (server_of servers h.server).applied h) held
    go [] e = tt
    go (h ∷ held) e = (one h e.0, go held e.1)
