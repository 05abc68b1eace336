-- What is proposed: a lock only once its key's lock delay is over, and the end of a session, for no request, only in a
-- tick and once twice its TTL is over.
use Rattle.std.specs.Prelude.{◌≡◌, ◌≢◌, ℕ, suc, ◌<◌, ◌≤◌, Bool, List, ◌∷◌}
use Rattle.cat_model.specs.Log.{commands_of}
use Rattle.cat_model.specs.Machine.{catalog_at}
use Rattle.cat_model.specs.declared.command.Command.{Command}
use Rattle.cat_model.specs.declared.command.Command.TheVariants.{SessionDestroy}
use Rattle.cat_model.specs.declared.request.Event.{Event}
use Rattle.cat_model.specs.declared.row.SessionRow.{SessionRow}
use Rattle.cluster_rules.specs.Replies.{Question}
use Rattle.cluster_rules.specs.Locks.{LocksKey}
use Rattle.cluster_rules.specs.Offices.{over_at}
use Rattle.cluster_rules.specs.Cluster.{Cluster, server_of, applied_of, clock_of, office_of, until_at}
use Rattle.cluster_rules.specs.Requests.{Handles, unready, full, proposes, stops, delays, probes, reads, renews}
use Rattle.cluster_rules.specs.Proposals.{Proposals, none_left, breaks, enters, refuses, Tends, idles, in_turn, cut_off, Syncs, finds_none, plans, breaks_off, cut_first, did_own, agent_did}
use Rattle.cluster_rules.specs.Step.{Acts, takes, ticks, arms, restarts, handles, tends, syncs, Does, over, act, cut, cut_between, ClusterStep, done, passed, cut_early}
use Rattle.cluster_rules.specs.Sound.{IsAmong}

-- the keys that it locks are free at server i
abbrev pub MayLock : Cluster → ℕ → Command → Type 0
MayLock c i command = (key : List ℕ) → LocksKey key command → until_at c i key ≤ clock_of c.world i

-- A session that server i keeps is over by its clock.
abbrev pub IsOver : Cluster → ℕ → SessionRow → Type 0
IsOver c i s = IsAmong s (catalog_at (commands_of (applied_of c i))).sessions × (s.ttl_ms ≢ 0) × (over_at (server_of c.servers i).clocks (office_of c i) s ≤ clock_of c.world i)

-- why a command may be proposed for no request
abbrev pub EndsOver : Cluster → ℕ → Command → Type 0
EndsOver c i command = (id : ℕ) → command ≡ SessionDestroy id → (s : SessionRow) × (s.id ≡ id) × IsOver c i s

abbrev pub EndsNone : Command → Type 0
EndsNone command = (id : ℕ) → command ≢ SessionDestroy id

-- of each command that was proposed, also in vain
abbrev pub AllProposed : (P : Command → Type 0) (i : ℕ) (commands : List Command) (c : Cluster) (n : ℕ) (c' : Cluster) (whole : Bool) → Proposals i commands c n c' whole → Type 0
AllProposed P i commands c n c' whole none_left = Unit {0}
AllProposed P i commands c n c' whole breaks = Unit {0}
AllProposed P i (command ∷ commands) c n c' whole (enters w' lead room a up more) = P command × AllProposed P i commands _ _ c' whole more
AllProposed P i (command ∷ commands) c n c' whole (refuses w' lead a why) = P command

-- a write's proposal has its request's number, which is not 0
abbrev pub HandleIsGuarded : (c : Cluster) (i : ℕ) (q : Question) (c' : Cluster) → Handles c i q c' → Type 0
HandleIsGuarded c i q c' (unready st r e) = Unit {0}
HandleIsGuarded c i q c' (full command w' ask free go room a e) = MayLock c i command × (0 < q.number)
HandleIsGuarded c i q c' (proposes command w' ask free go room a up e) = MayLock c i command × (0 < q.number)
HandleIsGuarded c i q c' (stops command w' ask free go room a down e) = MayLock c i command × (0 < q.number)
HandleIsGuarded c i q c' (delays command key ask go d e) = Unit {0}
HandleIsGuarded c i q c' (probes wait w' ask go a e) = Unit {0}
HandleIsGuarded c i q c' (reads mode wait ask d go e) = Unit {0}
HandleIsGuarded c i q c' (renews id ask go e) = Unit {0}

abbrev pub TendIsGuarded : (i : ℕ) (c c' : Cluster) (whole : Bool) → Tends i c c' whole → Type 0
TendIsGuarded i c c' whole (idles lead e) = Unit {0}
TendIsGuarded i c c' whole (in_turn n m c₁ c₂ lead p r e) = AllProposed (EndsOver c i) i _ _ n c₁ _ p × AllProposed EndsNone i _ _ m c₂ _ r
TendIsGuarded i c c' whole (cut_off n c₁ lead p e) = AllProposed (EndsOver c i) i _ _ n c₁ _ p

abbrev pub SyncIsGuarded : (i a : ℕ) (own : Bool) (c c' : Cluster) (whole : Bool) → Syncs i a own c c' whole → Type 0
SyncIsGuarded i a own c c' whole (finds_none r e) = Unit {0}
SyncIsGuarded i a own c c' whole (plans n c₁ r p e) = AllProposed EndsNone i _ _ n c₁ _ p
SyncIsGuarded i a own c c' whole (breaks_off n some r p) = AllProposed EndsNone i _ _ n c' _ p
SyncIsGuarded i a own c c' whole (cut_first mine r e) = Unit {0}

-- the acts of an event; no other proposes anything
abbrev pub ActIsGuarded : (n : ℕ) (c : Cluster) (i : ℕ) (made : Event) (c' : Cluster) → Acts n c i made c' → Type 0
ActIsGuarded n c i made c' (takes input w' z is a e) = Unit {0}
ActIsGuarded n c i made c' (ticks ms w' z is st e) = Unit {0}
ActIsGuarded n c i made c' (arms nth w' z is st e) = Unit {0}
ActIsGuarded n c i made c' (restarts w' z is st e) = Unit {0}
ActIsGuarded n c i made c' (handles agent asked draw z is goes h) = HandleIsGuarded c i (record { number = c.asked; agent = agent; asked = asked; draw = draw }) c' h
ActIsGuarded n c i made c' (tends ms whole z is t) = TendIsGuarded i c c' whole t
ActIsGuarded n c i made c' (syncs a whole z is goes y) = SyncIsGuarded i a (did_own made) (agent_did made c) c' whole y

abbrev pub DoesGuardedly : (i : ℕ) (made : Event) (n : ℕ) (c c' : Cluster) (whole : Bool) → Does i made n c c' whole → Type 0
DoesGuardedly i made n c c' whole (over e) = Unit {0}
DoesGuardedly i made n c c' whole (act c₁ c₂ a r m more) = ActIsGuarded n c i made c₁ a × DoesGuardedly i made (suc n) c₂ c' whole more
DoesGuardedly i made n c c' whole (cut c₁ a m short) = ActIsGuarded n c i made c₁ a
DoesGuardedly i made n c c' whole (cut_between l k) = Unit {0}

abbrev pub StepIsGuarded : (c : Cluster) (made : Event) (c' : Cluster) (whole : Bool) → ClusterStep c made c' whole → Type 0
StepIsGuarded c made c' whole (done i c₁ c₂ m d e) = DoesGuardedly i made 0 c₁ c₂ whole d
StepIsGuarded c made c' whole (passed c₁ w p e) = Unit {0}
StepIsGuarded c made c' whole (cut_early i w c₁ short for d more e) = Unit {0}
