-- What a step of the world leaves sound.
use Rattle.std.proofs.Common.{◌≡◌, ◌≢◌, ℕ, ◌<◌, ◌≤◌, inr, Bool, true, false, cond, List, [], ◌∷◌, ◌++◌, length, take, drop, map, refl, sym, ◌∙◌, ap, subst, arith, append_assoc}
use Rattle.std.specs.Prelude.{◌==◌}
use Rattle.std.specs.List.{AllByRecursion as Each}
use Rattle.std.proofs.lemmas.List.{take_all, take-append-drop, length-take}
use Rattle.cat_model.specs.declared.command.Entry.{Entry}
use Rattle.cat_model.specs.declared.request.Event.{Event}
use Rattle.cat_model.specs.declared.reply.Mark.{Mark}
use Rattle.cat_model.specs.declared.reply.Mark.TheVariants as mark
use Rattle.raft_model.specs.Log.{Log}
use Rattle.raft_model.specs.Node.{Node, set_server}
use Rattle.raft_model.specs.Step.{arms}
use Rattle.raft_model.specs.World.{World, Move, WorldStep, Restarts, Ticks, Arms, Drops, IsReached, step}
use Rattle.raft_model.proofs.Logs.{front_take}
use Rattle.raft_model.proofs.Tests.{at_bool, eq_tells}
use Rattle.cluster_rules.specs.Cluster.{Server, Ended, Pending, Start, Cluster, item_of, no_node, no_server, node_of, server_of}
use Rattle.cluster_rules.specs.Requests.{entries_past, halts_past, joined, moved_with}
use Rattle.cluster_rules.specs.Step.{events_in, ended, begun_anew}
use Rattle.cluster_rules.specs.Sound.{IsAmong, ServerIsSound, ServersAreSound, IsOpen, asked_in, entered_in, entries_before, RestartedAt, StartIsSound, PendingIsSound, Ascends, PastIsSound, OutIsSound, IsSoundAtWork}
use Rattle.cluster_rules.specs.Booked.{IsNumbered}
use Rattle.cluster_rules.proofs.Tools.{eq_tells_not, at_item, item_same, item_other, length_set_server, is_node, is_place, each_map}
use Rattle.cluster_rules.proofs.Grows.{GoesTo, goes_by}
use Rattle.cluster_rules.proofs.Later.{Same, Later, pending_later, start_later, out_later, past_later}
use Rattle.cluster_rules.proofs.Boundary.{Rises}

-- more marks, of which none is of a request
pub record Plain (past past' : List Mark) : Type 0 where
  pub was : (m : Mark) → IsAmong m past → IsAmong m past'
  pub restarted : (event s : ℕ) → RestartedAt event s past → RestartedAt event s past'
  pub open_ : (n : ℕ) → IsOpen n past → IsOpen n past'
  pub before : (n : ℕ) → entries_before n past' ≡ entries_before n past
  pub asked : asked_in past' ≡ asked_in past
  pub sound : (w : World) (starts : List Start) → PastIsSound w starts past → PastIsSound w starts past'
  pub numbered : IsNumbered past → IsNumbered past'

pub plain_same : (past : List Mark) → Plain past past
plain_same past = record { was = λ m x. x; restarted = λ e s x. x; open_ = λ n x. x; before = λ n. refl; asked = refl; sound = λ w starts x. x; numbered = λ x. x }

plain_on : (a b c : List Mark) → Plain a b → Plain b c → Plain a c
plain_on a b c p q = record {
  was = λ m x. q.was m (p.was m x);
  restarted = λ e s x. q.restarted e s (p.restarted e s x);
  open_ = λ n x. q.open_ n (p.open_ n x);
  before = λ n. q.before n ∙ p.before n;
  asked = q.asked ∙ p.asked;
  sound = λ w starts x. q.sound w starts (p.sound w starts x);
  numbered = λ x. q.numbered (p.numbered x);
}

plain_entry : (e : Entry) (past : List Mark) → Plain past (mark.Entry e ∷ past)
plain_entry e past = record { was = λ m x. inr x; restarted = λ e s x. inr x; open_ = λ n x. x; before = λ n. refl; asked = refl; sound = λ w starts x. x; numbered = λ x. x }

plain_halted : (i : ℕ) (past : List Mark) → Plain past (mark.Halted i ∷ past)
plain_halted i past = record { was = λ m x. inr x; restarted = λ e s x. inr x; open_ = λ n x. x; before = λ n. refl; asked = refl; sound = λ w starts x. x; numbered = λ x. x }

pub plain_made : (made : Event) (past : List Mark) → Plain past (mark.Made made ∷ past)
plain_made made past = record { was = λ m x. inr x; restarted = λ e s x. inr x; open_ = λ n x. x; before = λ n. refl; asked = refl; sound = λ w starts x. x; numbered = λ x. x }

pub plain_taken : (number : ℕ) (past : List Mark) → Plain past (mark.Taken number ∷ past)
plain_taken number past = record { was = λ m x. inr x; restarted = λ e s x. inr x; open_ = λ n x. x; before = λ n. refl; asked = refl; sound = λ w starts x. x; numbered = λ x. x }

pub plain_settled : (pairs : ℕ) (whole : Bool) (past : List Mark) → Plain past (mark.Settled pairs whole ∷ past)
plain_settled pairs whole past = record { was = λ m x. inr x; restarted = λ e s x. inr x; open_ = λ n x. x; before = λ n. refl; asked = refl; sound = λ w starts x. x; numbered = λ x. x }

pub plain_advanced : (ms made : ℕ) (past : List Mark) → Plain past (mark.Advanced ms made ∷ past)
plain_advanced ms made past = record { was = λ m x. inr x; restarted = λ e s x. inr x; open_ = λ n x. x; before = λ n. refl; asked = refl; sound = λ w starts x. x; numbered = λ x. x }

plain_entries : (es : Log) (past : List Mark) → Plain past (entries_past es past)
plain_entries [] past = plain_same past
plain_entries (e ∷ es) past = plain_on past (mark.Entry e ∷ past) (entries_past es (mark.Entry e ∷ past)) (plain_entry e past) (plain_entries es (mark.Entry e ∷ past))

plain_halts : (i : ℕ) (b : Bool) (past : List Mark) → Plain past (halts_past i b past)
plain_halts i true past = plain_halted i past
plain_halts i false past = plain_same past

entries_enter : (es : Log) (past : List Mark) → entered_in (entries_past es past) ≡ entered_in past ++ es
entries_enter [] past = sym (append_nil (entered_in past))
  where
    append_nil : (x : Log) → x ++ [] ≡ x
    append_nil [] = refl
    append_nil (e ∷ x) = ap (λ z. e ∷ z) (append_nil x)
entries_enter (e ∷ es) past = entries_enter es (mark.Entry e ∷ past) ∙ append_assoc (entered_in past) (e ∷ []) es

halts_enter : (i : ℕ) (b : Bool) (past : List Mark) → entered_in (halts_past i b past) ≡ entered_in past
halts_enter i true past = refl
halts_enter i false past = refl

entries_events : (es : Log) (past : List Mark) → events_in (entries_past es past) ≡ events_in past
entries_events [] past = refl
entries_events (e ∷ es) past = entries_events es (mark.Entry e ∷ past)

halts_events : (i : ℕ) (b : Bool) (past : List Mark) → events_in (halts_past i b past) ≡ events_in past
halts_events i true past = refl
halts_events i false past = refl

-- the marks of a step of server i
pub past_of : Bool → ℕ → World → Cluster → List Mark
past_of failed i w' c = entries_past (joined c.world w') (halts_past i failed c.past)

plain_past : (failed : Bool) (i : ℕ) (w' : World) (c : Cluster) → Plain c.past (past_of failed i w' c)
unfolding past_of
plain_past failed i w' c = plain_on _ _ _ (plain_halts i failed c.past) (plain_entries (joined c.world w') (halts_past i failed c.past))

pub plain_moved : (failed : Bool) (i : ℕ) (w' : World) (c : Cluster) → Plain c.past (moved_with failed i w' c).past
unfolding past_of
plain_moved failed i w' c = plain_past failed i w' c

pub events_moved : (failed : Bool) (i : ℕ) (w' : World) (c : Cluster) → events_in (moved_with failed i w' c).past ≡ events_in c.past
events_moved failed i w' c = entries_events (joined c.world w') (halts_past i failed c.past) ∙ halts_events i failed c.past

past_enters : (failed : Bool) (i : ℕ) (w' : World) (c : Cluster) → take (length c.world.agreed) w'.agreed ≡ c.world.agreed → entered_in c.past ≡ c.world.agreed → entered_in (past_of failed i w' c) ≡ w'.agreed
unfolding past_of
past_enters failed i w' c front e =
    entries_enter (joined c.world w') (halts_past i failed c.past)
    ∙ ap (λ z. z ++ drop (length c.world.agreed) w'.agreed) (halts_enter i failed c.past ∙ e ∙ sym front)
    ∙ take-append-drop (length c.world.agreed) w'.agreed

pub plain_goes : (n : ℕ) (past past' : List Mark) → Plain past past' → Same n past past'
plain_goes n past past' p = record { open_ = p.open_ n; before = p.before n }

pub plain_later : (w w' : World) (past past' : List Mark) (starts : List Start) → GoesTo w w' → Plain past past' → Later w w' past past' starts starts
plain_later w w' past past' starts g p = record { goes = g; was = p.was; restarted = p.restarted; more = λ x m. m }

-- a cluster in another world, with other servers and held requests
pub turned : (c : Cluster) → IsSoundAtWork c → (w' : World) → IsReached w' → GoesTo c.world w' → (past' : List Mark) → Plain c.past past' → entered_in past' ≡ w'.agreed → w'.greatest ≤ c.asked →
    (servers' : List Server) → ServersAreSound w' servers' → (held' : List Pending) → Each (PendingIsSound servers' past' c.starts) held' → Ascends held' →
    IsSoundAtWork (record c { world = w'; servers = servers'; held = held'; past = past' })
turned c s w' r g past' p e l servers' ss held' hs ascends' =
    let later = plain_later c.world w' c.past past' c.starts g p in
    record {
      world = r;
      servers = ss;
      starts = each_map (StartIsSound c.world c.past) (StartIsSound w' past') (λ x y. start_later c.world w' c.past past' c.starts c.starts later (λ q m. p.before q.number) x y) c.starts s.starts;
      held = hs;
      ascends = ascends';
      marks = p.sound w' c.starts (past_later c.world w' g c.starts c.starts (λ x m. m) c.past s.marks);
      fresh = each_map (OutIsSound c.world c.past) (OutIsSound w' past') (λ o x. out_later c.world w' c.past past' c.starts c.starts later o x) c.fresh s.fresh;
      tray = each_map (OutIsSound c.world c.past) (OutIsSound w' past') (λ o x. out_later c.world w' c.past past' c.starts c.starts later o x) c.tray s.tray;
      counts = record { asked_is = s.counts.asked_is ∙ sym p.asked; proposed = l; entries = e };
    }

-- the held requests as they were, with more marks
pub held_as_before : (c : Cluster) → IsSoundAtWork c → (w' : World) → GoesTo c.world w' → (past' : List Mark) → Plain c.past past' → Each (PendingIsSound c.servers past' c.starts) c.held
held_as_before c s w' g past' p = each_map (PendingIsSound c.servers c.past c.starts) (PendingIsSound c.servers past' c.starts)
    (λ h x. pending_later c.world w' c.past past' c.starts c.starts (plain_later c.world w' c.past past' c.starts g p) c.servers c.servers h (plain_goes h.question.number c.past past' p) (take_all _ _ (omega arith)) x) c.held s.held

server_goes : (w w' : World) → GoesTo w w' → (m m' : ℕ) (s : Server) → m ≤ m' → ServerIsSound w.agreed m s → ServerIsSound w'.agreed m' s
server_goes w w' g m m' s l x =
    let k = ap length x.front in
    record {
      front = x.front ∙ sym (front_take (length s.applied) w.agreed w'.agreed g.grows (omega (arith, length-take (length s.applied) w.agreed)));
      within = let z = x.within in omega arith;
      clocks = x.clocks;
    }

pub servers_go : (w w' : World) → GoesTo w w' → Rises w w' → (servers : List Server) → ServersAreSound w servers → ServersAreSound w' servers
servers_go w w' g up servers s = record {
  count = s.count ∙ sym up.count;
  each = λ j. server_goes w w' g (node_of w j).commit (node_of w' j).commit (server_of servers j) (up.each j) (s.each j);
}

pub moved_sound : (c : Cluster) → IsSoundAtWork c → (failed : Bool) (i : ℕ) (w' : World) (move : Move) → WorldStep c.world move w' → Rises c.world w' → w'.greatest ≤ c.asked → IsSoundAtWork (moved_with failed i w' c)
unfolding past_of
moved_sound c s failed i w' move st up l =
    let g = goes_by c.world w' move s.world st in
    let p = plain_past failed i w' c in
    turned c s w' (step move s.world st) g (past_of failed i w' c) p (past_enters failed i w' c g.grows s.counts.entries) l
    c.servers (servers_go c.world w' g up c.servers s.servers) c.held (held_as_before c s w' g (past_of failed i w' c) p) s.ascends

-- A tick, and the arming of a store.
pub ticks_rise : (w : World) (i d : ℕ) (w' : World) → WorldStep w (Ticks i d) w' → Rises w w' × (w'.greatest ≡ w.greatest)
ticks_rise w i d w' (old, at, e) = (subst (λ (z : World). Rises w z) (sym e) (record { count = refl; each = λ j. omega arith }), ap (λ (z : World). z.greatest) e)

pub arms_rise : (w : World) (i nth : ℕ) (w' : World) → WorldStep w (Arms i nth) w' → Rises w w' × (w'.greatest ≡ w.greatest)
arms_rise w i nth w' (old, at, e) = (
  subst (λ (z : World). Rises w z) (sym e) (record {
    count = length_set_server w.nodes i (arms old nth);
    each = λ j. at_item (λ (n : Node). (node_of w j).commit ≤ n.commit) no_node w.nodes i (arms old nth) j
        (λ q. let k = ap (λ (n : Node). n.commit) (ap (node_of w) q ∙ is_node w i old at) in omega arith) (omega arith);
  }),
  ap (λ (z : World). z.greatest) e,
)

pub drops_rise : (w : World) (k : ℕ) (w' : World) → WorldStep w (Drops k) w' → Rises w w' × (w'.greatest ≡ w.greatest) × (w'.agreed ≡ w.agreed)
drops_rise w k w' (p, n, e) = (subst (λ (z : World). Rises w z) (sym e) (record { count = refl; each = λ j. omega arith }), ap (λ (z : World). z.greatest) e, ap (λ (z : World). z.agreed) e)

-- A restart: the server has applied nothing, and what was held there is to be closed.
at_item_other : {A : Type 0} (P : A → Type 0) (d : A) (xs : List A) (i : ℕ) (x : A) (j : ℕ) → 0 < i → i ≤ length xs → (j ≡ i → P x) → (j ≢ i → P (item_of d xs j)) → P (item_of d (set_server xs i x) j)
at_item_other P d xs i x j p l same other = at_bool (λ b. (j == i) ≡ b → P (item_of d (set_server xs i x) j)) (j == i)
    (λ _ e. let q = eq_tells j i e in subst (λ z. P (item_of d (set_server xs i x) z)) (sym q) (subst P (sym (item_same d xs i x p l)) (same q)))
    (λ _ e. let q = eq_tells_not j i e in subst P (sym (item_other d xs i j x q)) (other q)) refl

ended_number : (i event : ℕ) (h : Pending) → (ended i event h).question.number ≡ h.question.number
ended_number i event h = at_bool (λ b. (cond b (record h { stand = Ended event }) h).question.number ≡ h.question.number) (h.server == i) (λ _. refl) (λ _. refl)

above_ended : (i event n : ℕ) (hs : List Pending) → Each (λ (g : Pending). n < g.question.number) hs → Each (λ (g : Pending). n < g.question.number) (map (ended i event) hs)
above_ended i event n [] x = x
above_ended i event n (h ∷ hs) x = (let k = x.0 in let e = ended_number i event h in omega arith, above_ended i event n hs x.1)

pub ascends_ended : (i event : ℕ) (hs : List Pending) → Ascends hs → Ascends (map (ended i event) hs)
ascends_ended i event [] a = a
ascends_ended i event (h ∷ hs) a = (
  subst (λ z. Each (λ (g : Pending). z < g.question.number) (map (ended i event) hs)) (sym (ended_number i event h)) (above_ended i event h.question.number hs a.0),
  ascends_ended i event hs a.1,
)

pub restart_sound : (c : Cluster) → IsSoundAtWork c → (failed : Bool) (i : ℕ) (w' : World) → WorldStep c.world (Restarts i) w' → RestartedAt (events_in c.past) i c.past → IsSoundAtWork (begun_anew i (moved_with failed i w' c))
unfolding past_of
restart_sound c s failed i w' st here = by st
  where
    event : ℕ
    event = events_in (moved_with failed i w' c).past

    g : GoesTo c.world w'
    g = goes_by c.world w' (Restarts i) s.world st

    p : Plain c.past (past_of failed i w' c)
    p = plain_past failed i w' c

    now : RestartedAt (events_in (moved_with failed i w' c).past) i (past_of failed i w' c)
    now = subst (λ z. RestartedAt z i (past_of failed i w' c)) (sym (events_moved failed i w' c)) (p.restarted (events_in c.past) i here)

    later : Later c.world w' c.past (past_of failed i w' c) c.starts c.starts
    later = plain_later c.world w' c.past (past_of failed i w' c) c.starts g p

    all_ended : (hs : List Pending) → Each (PendingIsSound c.servers c.past c.starts) hs → Each (PendingIsSound (set_server c.servers i no_server) (past_of failed i w' c) c.starts) (map (ended i (events_in (moved_with failed i w' c).past)) hs)
    all_ended [] x = x
    all_ended (h ∷ hs) x = (
      at_bool (λ b. (h.server == i) ≡ b → PendingIsSound (set_server c.servers i no_server) (past_of failed i w' c) c.starts (cond b (record h { stand = Ended (events_in (moved_with failed i w' c).past) }) h)) (h.server == i)
          (λ _ q. let y = x.0 in record {
            asked = p.was _ y.asked;
            open_ = p.open_ h.question.number y.open_;
            stand = subst (λ z. RestartedAt (events_in (moved_with failed i w' c).past) z (past_of failed i w' c)) (sym (eq_tells h.server i q)) now;
          })
          (λ _ q. pending_later c.world w' c.past (past_of failed i w' c) c.starts c.starts later c.servers (set_server c.servers i no_server) h (plain_goes h.question.number c.past (past_of failed i w' c) p)
          (subst (λ (z : Server). take (length (server_of c.servers h.server).applied) z.applied ≡ (server_of c.servers h.server).applied) (sym (item_other no_server c.servers i h.server no_server (eq_tells_not h.server i q))) (take_all _ _ (omega arith))) x.0) refl,
      all_ended hs x.1,
    )

    by : WorldStep c.world (Restarts i) w' → IsSoundAtWork (begun_anew i (moved_with failed i w' c))
    by (old, new, at, r, e) =
        turned c s w' (step (Restarts i) s.world st) g (past_of failed i w' c) p (past_enters failed i w' c g.grows s.counts.entries)
        (let z = ap (λ (z : World). z.greatest) e in let q = s.counts.proposed in omega arith)
        (set_server c.servers i no_server) (record {
          count = length_set_server c.servers i no_server ∙ s.servers.count ∙ sym (ap (λ (z : World). length z.nodes) e ∙ length_set_server c.world.nodes i new);
          each = λ j. let pl = is_place c.world i old at in let k = s.servers.count in
              at_item_other (λ (x : Server). ServerIsSound w'.agreed (node_of w' j).commit x) no_server c.servers i no_server j pl.0 (omega (arith, pl.1))
              (λ q. record { front = refl; within = omega arith; clocks = refl })
              (λ q. server_goes c.world w' g (node_of c.world j).commit (node_of w' j).commit (server_of c.servers j) (let z = ap (λ (n : Node). n.commit) (ap (λ (z : World). node_of z j) e ∙ item_other no_node c.world.nodes i j new q) in omega arith) (s.servers.each j));
        })
        (map (ended i (events_in (moved_with failed i w' c).past)) c.held) (all_ended c.held s.held) (ascends_ended i (events_in (moved_with failed i w' c).past) c.held s.ascends)
