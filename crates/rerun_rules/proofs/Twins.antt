-- The later run, and the same run with what the earlier one agreed from the beginning on.
use Rattle.std.proofs.Common.{◌≡◌, ℕ, zero, suc, ◌<◌, ◌≤◌, ◌⊎◌, inl, inr, false, cond, [], length, take, min, refl, sym, ◌∙◌, ap, subst, arith}
use Rattle.std.specs.Prelude.{nat_lt}
use Rattle.std.proofs.lemmas.Bool.{cases_lt}
use Rattle.std.proofs.lemmas.List.{take_all, take-take, length-take}
use Rattle.raft_model.specs.Facts.{IsReady}
use Rattle.raft_model.specs.Log.{Log, term_at}
use Rattle.raft_model.specs.Node.{Node, committed}
use Rattle.raft_model.specs.Rules.{Input, Timeout, Beat, Propose, Probe, Receive}
use Rattle.raft_model.specs.World.{Acts, Arms, Beats, Delivers, Drops, IsNew, IsReached, IsServer, Move, Probes, Proposes, Reaches, Restarts, Ticks, TimesOut, World, WorldStep, here, next, longer}
use Rattle.raft_model.proofs.Logs.{agree_length, agree_term, front_take}
use Rattle.raft_model.proofs.Places.{agreed_follows}
use Rattle.raft_model.proofs.Sound.{Fits, IsSound}
use Rattle.raft_model.proofs.Starts.{reached_sound}
use Rattle.raft_model.proofs.Tests.{at_bool, no_bool}
use Rattle.raft_model.proofs.Worlds.{agreement, fits_at, reach_goes, step_goes}
use Rattle.cluster_rules.proofs.Boundary.{after_server}
use Rattle.rerun_rules.specs.Follows.{Follows}
use Rattle.rerun_rules.proofs.Rested.{is_led, is_unled, rested_sound, spent_then}

-- a world with another agreed log
abbrev with_log : World → Log → World
with_log w a = record w { agreed = a }

-- the agreed log that a step made longer by what a server had committed then, or left
data Adds (u : World) (before now : Log) (a a' : Log) : Type 0 where
  same : now ≡ before → a' ≡ a → Adds u before now a a'
  longer_by : (i : ℕ) (n : Node) → IsServer u i n → now ≡ longer before (committed n) → a' ≡ longer a (committed n) → Adds u before now a a'

-- a step of the world is one of its twin
record TwinStep (w u : World) (move : Move) (a : Log) : Type 0 where
  log : Log
  step : WorldStep (with_log w a) move (with_log u log)
  adds : Adds u w.agreed u.agreed a log

at_server : (w : World) (a : Log) (i : ℕ) (n : Node) → IsServer w i n → IsServer (with_log w a) i n
at_server w a zero n at = absurd at
at_server w a (suc i) n at = at

is_new : (w : World) (a : Log) (input : Input) → IsNew w input → IsNew (with_log w a) input
is_new w a (Propose number command) new = new
is_new w a Timeout new = tt
is_new w a Beat new = tt
is_new w a Probe new = tt
is_new w a (Receive from message) new = tt

acts : (w u : World) (i : ℕ) (input : Input) (a : Log) (s : Acts w i input u) → Acts (with_log w a) i input (with_log u (longer a (committed s.new)))
acts w u i input a s = record {
  old = s.old;
  outcome = s.outcome;
  new = s.new;
  sent = s.sent;
  server = at_server w a i s.old s.server;
  fresh = is_new w a input s.fresh;
  step = s.step;
  becomes = ap (λ (z : World). with_log z (longer a (committed s.new))) s.becomes;
}

adds : (w u : World) (i : ℕ) (input : Input) (a : Log) (s : Acts w i input u) → Adds u w.agreed u.agreed a (longer a (committed s.new))
adds w u i input a s = longer_by i s.new (after_server w i input u s) (ap (λ (z : World). z.agreed) s.becomes) refl

twin_step : (w u : World) (move : Move) (a : Log) → WorldStep w move u → TwinStep w u move a
twin_step w u (TimesOut i) a s = record { log = longer a (committed s.new); step = acts w u i Timeout a s; adds = adds w u i Timeout a s }
twin_step w u (Beats i) a s = record { log = longer a (committed s.new); step = acts w u i Beat a s; adds = adds w u i Beat a s }
twin_step w u (Proposes i number command) a s = record { log = longer a (committed s.new); step = acts w u i (Propose number command) a s; adds = adds w u i (Propose number command) a s }
twin_step w u (Probes i) a s = record { log = longer a (committed s.new); step = acts w u i Probe a s; adds = adds w u i Probe a s }
twin_step w u (Delivers k) a (p, there, s) = record { log = longer a (committed s.new); step = (p, there, acts w u p.to (Receive p.from p.message) a s); adds = adds w u p.to (Receive p.from p.message) a s }
twin_step w u (Drops k) a (p, there, e) = record { log = a; step = (p, there, ap (λ (z : World). with_log z a) e); adds = same (ap (λ (z : World). z.agreed) e) refl }
twin_step w u (Restarts i) a (old, new, at, r, e) = record { log = a; step = (old, new, at_server w a i old at, r, ap (λ (z : World). with_log z a) e); adds = same (ap (λ (z : World). z.agreed) e) refl }
twin_step w u (Ticks i d) a (old, at, e) = record { log = a; step = (old, at_server w a i old at, ap (λ (z : World). with_log z a) e); adds = same (ap (λ (z : World). z.agreed) e) refl }
twin_step w u (Arms i nth) a (old, at, e) = record { log = a; step = (old, at_server w a i old at, ap (λ (z : World). with_log z a) e); adds = same (ap (λ (z : World). z.agreed) e) refl }

-- what is agreed in a run is a front of what is agreed in its twin
longer_front : (before a c a' : Log) → take (length before) a ≡ before → take (length a) a' ≡ a → take (length c) a' ≡ c → take (length (longer before c)) a' ≡ longer before c
longer_front before a c a' f g k = at_bool (λ b. take (length (cond b c before)) a' ≡ cond b c before) (nat_lt (length before) (length c))
    (λ _. k)
    (λ _. front_take (length before) a a' g (agree_length (length before) a before (f ∙ sym (take_all (length before) before (omega arith))) (omega arith)) ∙ f)

front_on : (u : World) (before now a a' : Log) → IsSound (with_log u a') → Adds u before now a a' → take (length before) a ≡ before → take (length a) a' ≡ a → take (length now) a' ≡ now
front_on u before now a a' s (same e e') f g = subst (λ z. take (length z) a' ≡ z) (sym e) (subst (λ z. take (length before) z ≡ before) (sym e') f)
front_on u before now a a' s (longer_by i n at e e') f g =
    let c = agreement (with_log u a') s i n (at_server u a' i n at) in
    let l : length (committed n) ≡ n.commit = let k = ap length c.1 in omega (arith, k, length-take n.commit a', c.0) in
    subst (λ z. take (length z) a' ≡ z) (sym e) (longer_front before a (committed n) a' f g (ap (λ m. take m a') l ∙ sym c.1))

-- the twin of the whole run
record Twin (start w : World) (begun : Log) : Type 0 where
  log : Log
  reaches : Reaches (with_log start begun) (with_log w log)
  front : take (length w.agreed) log ≡ w.agreed

twin : (start w : World) (begun : Log) → IsSound (with_log start begun) → take (length start.agreed) begun ≡ start.agreed → Reaches start w → Twin start w begun
twin start w begun s f here = record { log = begun; reaches = here; front = f }
twin start w begun s f (next {v = v} move p e) =
    let t = twin start v begun s f p in
    let g = reach_goes (with_log start begun) (with_log v t.log) t.reaches s in
    let n = twin_step v w move t.log e in
    let k = step_goes (with_log v t.log) move (with_log w n.log) n.step g.sound in
    record { log = n.log; reaches = next move t.reaches n.step; front = front_on w v.agreed w.agreed t.log n.log k.sound n.adds t.front k.agreed }

-- The two runs.
none_before : (a : Log) (b : Log) → b ≡ [] → take (length b) a ≡ b
none_before a b e = subst (λ (z : Log). take (length z) a ≡ z) (sym e) refl

record Both (v w : World) (s : IsSound v) : Type 0 where
  log : Log
  sound : IsSound (with_log w log)
  earlier : take (length v.agreed) log ≡ v.agreed
  later : take (length w.agreed) log ≡ w.agreed
  spent : (t : ℕ) → sound.history.spent t ≡ is_led (s.history.leaders t)

both : (v w : World) (s : IsSound v) → Follows v w → Both v w s
both v w s f =
    let begun = rested_sound f.stores v f.start s f.held f.begins in
    let t = twin f.start w v.agreed begun (none_before v.agreed f.start.agreed f.begins.agreed) f.reaches in
    let g = reach_goes (with_log f.start v.agreed) (with_log w t.log) t.reaches begun in
    record { log = t.log; sound = g.sound; earlier = g.agreed; later = t.front; spent = λ t. g.spent t ∙ spent_then f.stores v f.start s f.held f.begins t }

fronts : (n : ℕ) (a b x : Log) → n ≤ length a → n ≤ length b → take (length a) x ≡ a → take (length b) x ≡ b → take n a ≡ take n b
fronts n a b x l k e f = sym (front_take n a x e l) ∙ front_take n b x f k

pub one_log : (v w : World) → IsReached v → Follows v w → take (min (length v.agreed) (length w.agreed)) v.agreed ≡ take (min (length v.agreed) (length w.agreed)) w.agreed
one_log v w r f =
    let b = both v w (reached_sound v r) f in
    fronts (min (length v.agreed) (length w.agreed)) v.agreed w.agreed b.log (min_left (length v.agreed) (length w.agreed)) (min_right (length v.agreed) (length w.agreed)) b.earlier b.later
  where
    min_left : (m n : ℕ) → min m n ≤ m
    min_left m n = omega arith

    min_right : (m n : ℕ) → min m n ≤ n
    min_right m n = omega arith

-- A term of the later run's leader was led in no earlier run, so no entry of it was agreed then.
pub ready_has_it : (v w : World) → IsReached v → Follows v w → (i : ℕ) (n : Node) → IsServer w i n → IsReady n → take (length v.agreed) (committed n) ≡ v.agreed
ready_has_it v w r f i n at ready = by (cases_lt n.commit (length v.agreed))
  where
    s : IsSound v
    s = reached_sound v r

    b : Both v w s
    b = both v w (reached_sound v r) f

    there : IsServer (with_log w b.log) i n
    there = at_server w b.log i n at

    agrees : (n.commit ≤ length b.log) × (committed n ≡ take n.commit b.log)
    agrees = agreement (with_log w b.log) b.sound i n there

    -- the leader's term is none of the earlier run's
    unled : is_led (s.history.leaders n.term) ≡ false
    unled = go (fits_at (with_log w b.log) b.sound i n there)
      where
        go : Fits (length w.nodes) b.sound.history i n → is_led (s.history.leaders n.term) ≡ false
        go (inr (q, x)) = absurd (no_bool n.halted q ready.0.0)
        go (inl (q, x, y)) = sym (b.spent n.term) ∙ subst (λ t. b.sound.history.spent t ≡ false) x.term (b.sound.sound.numbers.leading i (x.role ∙ ready.0.1))

    none_of : (m : ℕ) → 0 < m → m ≤ length v.agreed → term_at m v.agreed ≡ n.term → ⊥
    none_of m p l e =
        let q = ap length (s.sound.ledgers.none n.term (is_unled (s.history.leaders n.term) unled)) in
        let k = agreed_follows v s m l ∙ ap (λ t. take m (s.history.ledger t)) e in
        let z = agree_length m (s.history.ledger n.term) v.agreed (sym k) l in
        omega (arith, p, q, z)

    by : (n.commit < length v.agreed) ⊎ (length v.agreed ≤ n.commit) → take (length v.agreed) (committed n) ≡ v.agreed
    by (inl l) =
        let e : take n.commit v.agreed ≡ take n.commit n.log = sym (front_take n.commit v.agreed b.log b.earlier (omega (arith, l))) ∙ sym agrees.1 in
        absurd (none_of n.commit ready.1 (omega (arith, l)) (agree_term n.commit n.commit v.agreed n.log (omega arith) e ∙ ready.2))
    by (inr l) = ap (take (length v.agreed)) agrees.1 ∙ take-take (length v.agreed) n.commit b.log l ∙ b.earlier
