-- A request's part at the server to which it went leaves the cluster sound.
use Rattle.std.proofs.Common.{◌≡◌, ◌≢◌, ℕ, suc, ◌<◌, ◌≤◌, ◌⊎◌, inl, inr, Bool, true, false, List, [], ◌∷◌, length, take, refl, sym, ◌∙◌, ap, subst, cond, arith, Option, Some, None}
use Rattle.std.specs.Prelude.{nat_lt, nat_le, ◌&&◌}
use Rattle.std.specs.List.{AllByRecursion as Each}
use Rattle.std.proofs.lemmas.List.{take_all}
use Rattle.cat_model.specs.LogLimits.{most_entries, most_bytes, log_bytes}
use Rattle.cat_model.specs.declared.command.Command.{Command}
use Rattle.cat_model.specs.declared.request.Mode.{Mode}
use Rattle.cat_model.specs.declared.request.Mode.TheVariants.{Default, Consistent, Stale}
use Rattle.cat_model.specs.declared.request.Request.TheVariants.{Read, Execute, Write, Renew, Agent}
use Rattle.cat_model.specs.declared.request.Asked.{Asked}
use Rattle.cat_model.specs.declared.request.Asked.TheVariants.{Good, Bad}
use Rattle.cat_model.specs.declared.reply.Kind.TheVariants.{Seen, Delayed, Refused}
use Rattle.cat_model.specs.declared.reply.Mark.{Mark}
use Rattle.cat_model.specs.declared.reply.Refusal.{Refusal}
use Rattle.cat_model.specs.declared.reply.Refusal.TheVariants as refusal
use Rattle.raft_model.specs.Facts.{next_round}
use Rattle.raft_model.specs.Log.{Log, term_at, last_term}
use Rattle.raft_model.specs.Rules.{Probe, proposal}
use Rattle.raft_model.specs.World.{World, Acts as NodeActs, Proposes, Probes, IsServer}
use Rattle.raft_model.proofs.Logs.{agree_term}
use Rattle.raft_model.proofs.Tests.{at_bool, lt_tells, lt_tells_not}
use Rattle.cluster_rules.specs.Replies.{Question, came, entered}
use Rattle.cluster_rules.specs.Lasting.{IsWrite, IsLook, IsSeen, IsRefused, LastsFor, is_stale}
use Rattle.cluster_rules.specs.Locks.{is_lock, OneLocks, LocksKey, first_delayed, delayed}
use Rattle.cluster_rules.specs.Offices.{renew_in}
use Rattle.cluster_rules.specs.Due.{answered}
use Rattle.cat_model.specs.declared.command.TxnOp.{TxnOp}
use Rattle.cat_model.specs.declared.command.Command.TheVariants.{KvLock, Txn}
use Rattle.cluster_rules.specs.Cluster.{Stand, Pending, Start, Proposed, Probed, Looked, Cluster, node_of, server_of, applied_of, clock_of, runs_leading, until_at, office_of, with_office}
use Rattle.cluster_rules.specs.Requests.{Goes, way, is_ready, is_stale_read, MayGo, moved, halted_now, holding, refused, log_with, Handles, unready, full, proposes, stops, delays, probes, reads, renews, look_of, delayed_at, session_of}
use Rattle.cluster_rules.specs.Sound.{IsAmong, ServerIsSound, IsOpen, IsFresh, IsFreshRound, StartIsSound, PendingIsSound, RestsOn, IsSoundAtWork}
use Rattle.cluster_rules.proofs.Asking.{AskIsNew, goes_leading, unready_refused}
use Rattle.cluster_rules.proofs.Boundary.{acts_rise, acts_greatest, leader_there, leading_tells, term_bound, commit_within, proposed, probed}
use Rattle.cluster_rules.proofs.Grows.{goes_nowhere}
use Rattle.cluster_rules.proofs.Later.{Later, pending_later, past_later, same_past}
use Rattle.cluster_rules.proofs.Moved.{plain_moved, moved_sound}
use Rattle.cluster_rules.proofs.Terms.{reached_has}
use Rattle.cluster_rules.proofs.Tools.{both, le_tells_not, not_tells, not_tells_not, each_map, each_append}
use Rattle.cluster_rules.proofs.Works.{answered_sound, ascends_more, commit_agrees, office_sound}
use Rattle.cluster_rules.proofs.Due.{new_below}

-- One more held request, behind all others, with its start.
-- one more start
pub started_sound : (c : Cluster) → IsSoundAtWork c → (start : Start) → StartIsSound c.world c.past start → IsSoundAtWork (record c { starts = start ∷ c.starts })
started_sound c s start x =
    let later : Later c.world c.world c.past c.past c.starts (start ∷ c.starts) = record { goes = goes_nowhere c.world; was = λ m z. z; restarted = λ e t z. z; more = λ z m. inr m } in
    record {
      world = s.world;
      servers = s.servers;
      starts = (x, s.starts);
      held = each_map (PendingIsSound c.servers c.past c.starts) (PendingIsSound c.servers c.past (start ∷ c.starts))
          (λ h z. pending_later c.world c.world c.past c.past c.starts (start ∷ c.starts) later c.servers c.servers h (same_past h.question.number c.past) (take_all _ _ (omega arith)) z) c.held s.held;
      ascends = s.ascends;
      marks = past_later c.world c.world (goes_nowhere c.world) c.starts (start ∷ c.starts) (λ z m. inr m) c.past s.marks;
      fresh = s.fresh;
      tray = s.tray;
      counts = s.counts;
    }

pub holding_sound : (c : Cluster) → IsSoundAtWork c → (q : Question) (i : ℕ) (stand : Stand) (start : Start) → StartIsSound c.world c.past start →
    PendingIsSound c.servers c.past (start ∷ c.starts) (record { question = q; server = i; stand = stand }) → Each (λ (g : Pending). g.question.number < q.number) c.held → IsSoundAtWork (holding q i stand start c)
holding_sound c s q i stand start x y above =
    let later : Later c.world c.world c.past c.past c.starts (start ∷ c.starts) = record { goes = goes_nowhere c.world; was = λ m z. z; restarted = λ e t z. z; more = λ z m. inr m } in
    record {
      world = s.world;
      servers = s.servers;
      starts = (x, s.starts);
      held = each_append (PendingIsSound c.servers c.past (start ∷ c.starts)) c.held (record { question = q; server = i; stand = stand } ∷ [])
          (each_map (PendingIsSound c.servers c.past c.starts) (PendingIsSound c.servers c.past (start ∷ c.starts))
          (λ h z. pending_later c.world c.world c.past c.past c.starts (start ∷ c.starts) later c.servers c.servers h (same_past h.question.number c.past) (take_all _ _ (omega arith)) z) c.held s.held) (y, tt);
      ascends = ascends_more (record { question = q; server = i; stand = stand }) c.held above s.ascends;
      marks = past_later c.world c.world (goes_nowhere c.world) c.starts (start ∷ c.starts) (λ z m. inr m) c.past s.marks;
      fresh = s.fresh;
      tray = s.tray;
      counts = s.counts;
    }

-- a refusal at once
pub refused_sound : (c : Cluster) → IsSoundAtWork c → (q : Question) (why : Refusal) → IsAmong (came q) c.past → IsOpen q.number c.past → IsRefused q.asked why → RestsOn c.world c.starts q (Refused why) → IsSoundAtWork (refused q why c)
unfolding LastsFor
refused_sound c s q why was open_ r rests = answered_sound c s q (Refused why) false 0 [] refl (record { asked = was; open_ = open_; lasts = r; fresh = tt; rests = rests })

not_both : (a b : Bool) → (a && b) ≡ false → (a ≡ false) ⊎ (b ≡ false)
not_both true b e = inr e
not_both false b e = inl refl

-- a log past its limits
pub past_limits : (log : Log) → (nat_le (length log) most_entries && nat_le (log_bytes log) most_bytes) ≡ false → (most_entries < length log) ⊎ (most_bytes < log_bytes log)
past_limits log e = elim (not_both (nat_le (length log) most_entries) (nat_le (log_bytes log) most_bytes) e) [
  | inl x ↦ inl (le_tells_not (length log) most_entries x)
  | inr x ↦ inr (le_tells_not (log_bytes log) most_bytes x)
]

-- a lock delay that is not over
some_key : (a b : List ℕ) → Some a ≡ Some b → a ≡ b
some_key a b e = cc e

first_tells : (until : List ℕ → ℕ) (now : ℕ) (ops : List TxnOp) (key : List ℕ) → first_delayed until now ops ≡ Some key → OneLocks key ops × (now < until key)
first_tells until now [] key = λ e. absurd (cc e)
first_tells until now (o ∷ ops) key = at_bool (λ b. (is_lock o.verb && nat_lt now (until o.key)) ≡ b → cond b (Some o.key) (first_delayed until now ops) ≡ Some key → OneLocks key (o ∷ ops) × (now < until key)) (is_lock o.verb && nat_lt now (until o.key))
    (λ _ t e. let b = both (is_lock o.verb) (nat_lt now (until o.key)) t in let k = some_key o.key key e in (inl (b.0, k), subst (λ z. now < until z) k (lt_tells now (until o.key) b.1)))
    (λ _ t e. let r = first_tells until now ops key e in (inr r.0, r.1)) refl

pub delayed_tells : (until : List ℕ → ℕ) (now : ℕ) (command : Command) (key : List ℕ) → delayed until now command ≡ Some key → LocksKey key command × (now < until key)
delayed_tells until now (KvLock k flags value session) key =
    at_bool (λ b. nat_lt now (until k) ≡ b → cond b (Some k) None ≡ Some key → (k ≡ key) × (now < until key)) (nat_lt now (until k))
    (λ _ t e. let j = some_key k key e in (j, subst (λ z. now < until z) j (lt_tells now (until k) t)))
    (λ _ t e. absurd (cc e)) refl
delayed_tells until now (Txn ops) key = λ e. first_tells until now ops key e
delayed_tells until now other key = λ e. absurd (cc e)

-- what a look is
abbrev mode_in : Option (Mode × ℕ) → Mode
mode_in None = Default
mode_in (Some p) = p.0

pub as_look : (asked : Asked) (mode : Mode) (wait : ℕ) (P : Mode → Type 0) → look_of asked ≡ Some (mode, wait) → P mode → IsLook asked P
as_look (Good (Read query m least w raw)) mode wait P e x = subst P (sym (ap mode_in e)) x
as_look (Good (Execute name limit m)) mode wait P e x = subst P (sym (ap mode_in e)) x
as_look (Good (Write command)) mode wait P e x = absurd (cc e)
as_look (Good (Renew id)) mode wait P e x = absurd (cc e)
as_look (Good (Agent op)) mode wait P e x = absurd (cc e)
as_look (Bad why) mode wait P e x = absurd (cc e)

pub fresh_look : (asked : Asked) (wait : ℕ) → look_of asked ≡ Some (Consistent, wait) → is_stale_read asked ≡ false
fresh_look (Good (Read query m least w raw)) wait e = ap (λ z. is_stale (mode_in z)) e
fresh_look (Good (Execute name limit m)) wait e = ap (λ z. is_stale (mode_in z)) e
fresh_look (Good (Write command)) wait e = refl
fresh_look (Good (Renew id)) wait e = refl
fresh_look (Good (Agent op)) wait e = refl
fresh_look (Bad why) wait e = refl

-- A fact of a request that is known to be a write, or a read.
pub as_write : (q : Question) (command : Command) (P : Asked → Type 0) → q.asked ≡ Good (Write command) → P (Good (Write command)) → P q.asked
as_write q command P e x = subst P (sym e) x

fresh_looked : (mode : Mode) (number : ℕ) (past : List Mark) (starts : List Start) (i n : ℕ) → mode ≢ Consistent → IsFresh mode number past (Looked number i n ∷ starts) n
fresh_looked Default number past starts i n d = (i, n, inl refl, omega arith)
fresh_looked Stale number past starts i n d = (i, n, inl refl, omega arith)
fresh_looked Consistent number past starts i n d = absurd (d refl)

module _ (c : Cluster) (s : IsSoundAtWork c) (i : ℕ) (q : Question) (a : AskIsNew c q) (from : ℕ) (goes : way c.world from q.asked ≡ Some (Goes i)) (made_up : (node_of c.world i).commit ≤ length (applied_of c i)) where
  own : ServerIsSound c.world.agreed (node_of c.world i).commit (server_of c.servers i)
  own = s.servers.each i

  at_commit : (node_of c.world i).commit ≡ length (applied_of c i)
  at_commit = let k = own.within in omega (arith, made_up)

  last_is : term_at (node_of c.world i).commit (node_of c.world i).log ≡ last_term (applied_of c i)
  last_is =
      agree_term (node_of c.world i).commit (node_of c.world i).commit (node_of c.world i).log c.world.agreed (omega arith) (commit_agrees c.world s.world i)
      ∙ agree_term (node_of c.world i).commit (node_of c.world i).commit c.world.agreed (applied_of c i) (omega arith)
      (ap (λ z. take z c.world.agreed) at_commit ∙ sym own.front ∙ sym (take_all (node_of c.world i).commit (applied_of c i) (omega (arith, at_commit))))
      ∙ ap (λ z. term_at z (applied_of c i)) at_commit

  -- a server that is ready, and so may begin a round
  module _ (lead : runs_leading c.world i ≡ true) (ready : is_ready c i ≡ true) where
    above : (node_of c.world i).term ≤ last_term (applied_of c i)
    above = lt_tells_not (last_term (applied_of c i)) (node_of c.world i).term (not_tells_not _ ready)

    has_term : 0 < (node_of c.world i).term
    has_term = elim (reached_has c.world s.world i) [
      | inl e ↦ absurd (let l = (leading_tells c.world i lead).1 in cc (e, l))
      | inr l ↦ l
    ]

    some : 0 < (node_of c.world i).commit
    some = at_bool (λ b. nat_lt 0 (node_of c.world i).commit ≡ b → 0 < (node_of c.world i).commit) (nat_lt 0 (node_of c.world i).commit) (λ _ z. lt_tells 0 _ z)
        (λ _ z. absurd (let k = lt_tells_not 0 (node_of c.world i).commit z in let l = ap (λ y. term_at y (node_of c.world i).log) (zero_of (node_of c.world i).commit k) in omega (arith, l, last_is, above, has_term))) refl
      where
        zero_of : (m : ℕ) → m ≤ 0 → m ≡ 0
        zero_of m l = omega arith

    at : IsServer c.world i (node_of c.world i)
    at = leader_there c.world i lead

    own_term : term_at (node_of c.world i).commit (node_of c.world i).log ≡ (node_of c.world i).term
    own_term =
        let b = term_bound c.world s.world i (node_of c.world i) at (leading_tells c.world i lead).0 (node_of c.world i).commit some (commit_within c.world s.world i (node_of c.world i) at) in
        omega (arith, b, above, last_is)

    round : (w' : World) → NodeActs c.world i Probe w' → IsFreshRound w' (length c.world.agreed) (next_round (node_of c.world i))
    round w' b = probed c.world s.world i w' b lead some own_term

  delayed_sound : (command : Command) (key : List ℕ) → q.asked ≡ Good (Write command) → delayed_at c i command ≡ Some key → IsSoundAtWork (answered q (Delayed key (until_at c i key) (clock_of c.world i)) false 0 [] c)
  unfolding LastsFor
  delayed_sound command key ask d =
      let t = delayed_tells (until_at c i) (clock_of c.world i) command key d in
      answered_sound c s q (Delayed key (until_at c i key) (clock_of c.world i)) false 0 [] refl (record { asked = a.now.was; open_ = a.now.open_; lasts = (as_write q command (λ z. IsWrite z (LocksKey key)) ask t.0, t.1); fresh = tt; rests = tt })

  -- the cluster with a session renewed
  abbrev renewed : ℕ → Cluster
  renewed id = with_office i (renew_in (session_of c i id) (clock_of c.world i) (office_of c i)) (record c { starts = Looked q.number i (length (applied_of c i)) ∷ c.starts })

  renewed_sound : (id : ℕ) → q.asked ≡ Good (Renew id) → IsSoundAtWork (answered q (Seen Default (length (applied_of c i))) false 0 (applied_of c i) (renewed id))
  unfolding LastsFor
  renewed_sound id ask = answered_sound (renewed id)
      (office_sound (record c { starts = Looked q.number i (length (applied_of c i)) ∷ c.starts }) (started_sound c s (Looked q.number i (length (applied_of c i))) (q, a.now.was, refl)) i (renew_in (session_of c i id) (clock_of c.world i) (office_of c i)))
      q (Seen Default (length (applied_of c i))) false 0 (applied_of c i) (sym own.front) (record {
        asked = a.now.was;
        open_ = a.now.open_;
        lasts = (subst (λ z. IsSeen z Default) (sym ask) refl, omega arith);
        fresh = (i, length (applied_of c i), inl refl, omega arith);
        rests = tt;
      })

  pub handles_sound : (c' : Cluster) → Handles c i q c' → IsSoundAtWork c'
  handles_sound c' (unready st r e) = subst IsSoundAtWork (sym e)
      (refused_sound c s q _ a.now.was a.now.open_ (unready_refused c.world from i q.asked _ _ goes st (lt_tells (last_term (applied_of c i)) (node_of c.world i).term (not_tells _ r))) tt)
  handles_sound c' (full command w' ask free go room b e) = subst IsSoundAtWork (sym e)
      (let p = plain_moved (halted_now c.world w' i) i w' c in
      refused_sound (moved i w' c) (moved_sound c s (halted_now c.world w' i) i w' (Proposes i q.number (entered q command)) b (acts_rise c.world i _ w' s.world b) (let k = acts_greatest c.world i _ w' b in let n = a.now.number in let l = a.numbers in omega arith)) q _
      (p.was (came q) a.now.was) (p.open_ q.number a.now.open_)
      (as_write q command (λ z. IsRefused z (refusal.LogFull (length (log_with (node_of c.world i) q command)) (log_bytes (log_with (node_of c.world i) q command)))) ask (past_limits (log_with (node_of c.world i) q command) room)) tt)
  handles_sound c' (stops command w' ask free go room b down e) = subst IsSoundAtWork (sym e)
      (let p = plain_moved (halted_now c.world w' i) i w' c in
      refused_sound (moved i w' c) (moved_sound c s (halted_now c.world w' i) i w' (Proposes i q.number (entered q command)) b (acts_rise c.world i _ w' s.world b) (let k = acts_greatest c.world i _ w' b in let n = a.now.number in let l = a.numbers in omega arith)) q _
      (p.was (came q) a.now.was) (p.open_ q.number a.now.open_) (as_write q command (λ z. IsRefused z (refusal.Halted i)) ask tt) tt)
  handles_sound c' (proposes command w' ask free go room b up e) = subst IsSoundAtWork (sym e)
      (let p = plain_moved (halted_now c.world w' i) i w' c in
      holding_sound (moved i w' c) (moved_sound c s (halted_now c.world w' i) i w' (Proposes i q.number (entered q command)) b (acts_rise c.world i _ w' s.world b) (let k = acts_greatest c.world i _ w' b in let n = a.now.number in let l = a.numbers in omega arith)) q i _ _ (
        omega arith,
        proposed c.world s.world i q.number (entered q command) w' b (goes_leading c.world from i q.asked goes (as_write q command (λ z. is_stale_read z ≡ false) ask refl)) room up,
        (q, p.was (came q) a.now.was, refl, as_write q command (λ z. IsWrite z (λ command'. entered q command ≡ entered q command')) ask refl),
      )
      (record {
        asked = p.was (came q) a.now.was;
        open_ = p.open_ q.number a.now.open_;
        stand = as_write q command (λ z. IsWrite z (λ command'. IsAmong (Proposed (suc (length (node_of c.world i).log)) (record { term = (node_of c.world i).term; number = q.number; command = entered q command' })) (Proposed (suc (length (node_of c.world i).log)) (proposal (node_of c.world i) q.number (entered q command)) ∷ c.starts))) ask (inl refl);
      }) a.now.above)
  handles_sound c' (delays command key ask go d e) = subst IsSoundAtWork (sym e) (delayed_sound command key ask d)
  handles_sound c' (probes wait w' look go b e) = subst IsSoundAtWork (sym e)
      (let p = plain_moved (halted_now c.world w' i) i w' c in
      holding_sound (moved i w' c) (moved_sound c s (halted_now c.world w' i) i w' (Probes i) b (acts_rise c.world i _ w' s.world b) (let k = acts_greatest c.world i _ w' b in let n = a.now.number in let l = a.numbers in omega arith)) q i _ _
      (subst (λ z. IsFreshRound w' z (next_round (node_of c.world i))) (sym (p.before q.number ∙ a.before)) (round lead (ready go) w' b), (q, p.was (came q) a.now.was, refl))
      (record {
        asked = p.was (came q) a.now.was;
        open_ = p.open_ q.number a.now.open_;
        stand = as_look q.asked Consistent wait (λ mode. (mode ≡ Consistent) × IsAmong (Probed q.number i (next_round (node_of c.world i))) (Probed q.number i (next_round (node_of c.world i)) ∷ c.starts)) look (refl, inl refl);
      }) a.now.above)
    where
      fresh : is_stale_read q.asked ≡ false
      fresh = fresh_look q.asked wait look

      lead : runs_leading c.world i ≡ true
      lead = goes_leading c.world from i q.asked goes fresh

      ready : MayGo c i q → is_ready c i ≡ true
      ready (inl z) = absurd (cc (z, fresh))
      ready (inr z) = z
  handles_sound c' (reads mode wait look d go e) = subst IsSoundAtWork (sym e)
      (holding_sound c s q i _ _ (q, a.now.was, refl)
      (record {
        asked = a.now.was;
        open_ = a.now.open_;
        stand = (
          as_look q.asked mode wait (λ mode'. IsFresh mode' q.number c.past (Looked q.number i (length (applied_of c i)) ∷ c.starts) (length (applied_of c i))) look
              (fresh_looked mode q.number c.past c.starts i (length (applied_of c i)) d),
          new_below q.asked (applied_of c i),
        );
      }) a.now.above)
  handles_sound c' (renews id ask go e) = subst IsSoundAtWork (sym e) (renewed_sound id ask)
