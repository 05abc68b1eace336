-- What a held request waits for, by the marks and the starts, and that what is due next at a server keeps to it.
use Rattle.std.proofs.Common.{◌≡◌, ℕ, ◌+◌, ◌≤◌, inl, inr, Bool, true, false, cond, not, List, [], ◌∷◌, length, refl, sym, ◌∙◌, ap, subst, arith, Option, Some, None}
use Rattle.std.specs.Prelude.{◌==◌, nat_le, nat_lt, ◌&&◌, ◌||◌}
use Rattle.std.specs.List.{AllByRecursion as Each}
use Rattle.cat_model.specs.declared.query.Query.{Query}
use Rattle.cat_model.specs.declared.request.Asked.{Asked}
use Rattle.cat_model.specs.declared.request.Asked.TheVariants.{Good, Bad}
use Rattle.cat_model.specs.declared.request.Event.{Event}
use Rattle.cat_model.specs.declared.request.Event.TheVariants as event
use Rattle.cat_model.specs.declared.request.Mode.{Mode}
use Rattle.cat_model.specs.declared.request.Request.TheVariants.{Read, Execute, Write, Renew, Agent as OfAgent}
use Rattle.cat_model.specs.declared.reply.Kind.{Kind}
use Rattle.cat_model.specs.declared.reply.Kind.TheVariants.{Acked, At, Seen, Local, Delayed, Refused}
use Rattle.cat_model.specs.declared.reply.Mark.{Mark}
use Rattle.cat_model.specs.declared.reply.Refusal.TheVariants as refusal
use Rattle.cat_model.specs.Indexes.{index_of}
use Rattle.cat_model.specs.Log.{commands_of}
use Rattle.cat_model.specs.declared.reply.Mark.TheVariants as mark
use Rattle.raft_model.specs.Log.{Log}
use Rattle.raft_model.specs.Node.{of_server}
use Rattle.raft_model.specs.Rules.{Input, is_confirmed}
use Rattle.raft_model.specs.World.{World, Acts as NodeActs}
use Rattle.cluster_rules.specs.Replies.{Question, came}
use Rattle.cluster_rules.specs.Lasting.{IsRead, IsAnswerAt, Lasting, LastsFor}
use Rattle.cluster_rules.specs.Cluster.{Stand, AtPlace, InRound, ForIndex, Ended, Pending, Start, Cluster, node_of, applied_of, clock_of}
use Rattle.cluster_rules.specs.Due.{Work, Replies, Holds, Closes, Applies, asks, asks_read, early_stand, early_work, is_ended, late_stand, late_work, next_work, without, waiting, landed, did, IsDue, early, next_one, late, Works, none, work}
use Rattle.cluster_rules.specs.Requests.{wait_of, entries_past, halts_past, joined, moved_with, halted_now, moved}
use Rattle.cluster_rules.specs.Legal.{Allows, Cause, waited, at_once, not_ready, no_room, delay, renewed, by_agent, unknown_there, stopped, IsLegal, WorkIsLegal, AllLegal}
use Rattle.cluster_rules.specs.Sound.{IsAmong}
use Rattle.cluster_rules.proofs.Tools.{each_map, each_among, each_in, length_set_server}
use Rattle.cluster_rules.proofs.Works.{each_kept, each_with}
use Rattle.run_rules.specs.Reads.{clock_in, WasAskedAt, IsReadFor, HasWaited, HeldBy, ReadsWait}

-- What a held request ends by: of a read, its full wait from the clock of its asking, at the server that holds it.
abbrev pub UntilFor : List Start → List Mark → ℕ → ℕ → ℕ → Asked → Type 0
UntilFor starts past k s deadline (Good (Read query mode least wait raw)) = HeldBy k s starts × (asked : ℕ) × WasAskedAt k s asked past × (asked + wait_of wait ≤ deadline)
UntilFor starts past k s deadline other = Unit {0}

abbrev pub StandWaits : List Start → List Mark → Question → ℕ → Stand → Type 0
StandWaits starts past q s (InRound round deadline) = UntilFor starts past q.number s deadline q.asked
StandWaits starts past q s (ForIndex deadline looked) = UntilFor starts past q.number s deadline q.asked
StandWaits starts past q s other = Unit {0}

abbrev pub HeldWaits : List Start → List Mark → Pending → Type 0
HeldWaits starts past h = IsAmong (came h.question) past × StandWaits starts past h.question h.server h.stand

-- The clocks with what they are still to go on by are those of the marks, and all that is held and was answered waits.
pub record Waits (starts : List Start) (lag : ℕ → ℕ) (w : World) (held : List Pending) (past : List Mark) : Type 0 where
  pub count : length w.clocks ≡ length w.nodes
  pub clocks : (s : ℕ) → clock_of w s + lag s ≡ clock_in s past
  pub held_wait : Each (HeldWaits starts past) held
  pub marks : ReadsWait starts past

abbrev pub Of : (ℕ → ℕ) → Cluster → Type 0
Of lag c = Waits c.starts lag c.world c.held c.past

abbrev pub no_lag : ℕ → ℕ
no_lag s = 0

-- More marks change nothing of what was asked.
was_later : (k s clock : ℕ) (m : Mark) (past : List Mark) → WasAskedAt k s clock past → WasAskedAt k s clock (m ∷ past)
was_later k s clock (mark.Asked number agent asked draw) past x = inr x
was_later k s clock (mark.Made made) past x = x
was_later k s clock (mark.Taken number) past x = x
was_later k s clock (mark.Settled pairs whole) past x = x
was_later k s clock (mark.Advanced ms made) past x = x
was_later k s clock (mark.Halted server) past x = x
was_later k s clock (mark.Entry entry) past x = x
was_later k s clock (mark.Answered number kind known contact) past x = x

-- a world in which no clock went on
pub record SameClocks (w w' : World) : Type 0 where
  pub clocks : w'.clocks ≡ w.clocks
  pub nodes : length w'.nodes ≡ length w.nodes

acts_same : (w : World) (i : ℕ) (input : Input) (w' : World) → NodeActs w i input w' → SameClocks w w'
acts_same w i input w' a = record {
  clocks = ap (λ (z : World). z.clocks) a.becomes;
  nodes = ap (λ (z : World). length z.nodes) a.becomes ∙ length_set_server w.nodes i a.new;
}

module _ (starts : List Start) where
  until_later : (m : Mark) (past : List Mark) (k s deadline : ℕ) (asked : Asked) → UntilFor starts past k s deadline asked → UntilFor starts (m ∷ past) k s deadline asked
  until_later m past k s deadline (Good (Read query mode least wait raw)) x = (x.0, x.1, was_later k s x.1 m past x.2, x.3)
  until_later m past k s deadline other x = tt

  stand_later : (m : Mark) (past : List Mark) (q : Question) (s : ℕ) (st : Stand) → StandWaits starts past q s st → StandWaits starts (m ∷ past) q s st
  stand_later m past q s (InRound round deadline) x = until_later m past q.number s deadline q.asked x
  stand_later m past q s (ForIndex deadline looked) x = until_later m past q.number s deadline q.asked x
  stand_later m past q s (AtPlace index term) x = tt
  stand_later m past q s (Ended number) x = tt

  pub held_later : (m : Mark) (past : List Mark) (hs : List Pending) → Each (HeldWaits starts past) hs → Each (HeldWaits starts (m ∷ past)) hs
  held_later m past hs x = each_map (HeldWaits starts past) (HeldWaits starts (m ∷ past)) (λ h y. (inr y.0, stand_later m past h.question h.server h.stand y.1)) hs x

  -- a mark of no tick and of no answer to a read
  pub one_more : (lag : ℕ → ℕ) (w : World) (held : List Pending) (past : List Mark) (m : Mark) → ((s : ℕ) → clock_in s (m ∷ past) ≡ clock_in s past) → (ReadsWait starts past → ReadsWait starts (m ∷ past)) → Waits starts lag w held past → Waits starts lag w held (m ∷ past)
  one_more lag w held past m same told x = record {
    count = x.count;
    clocks = λ s. x.clocks s ∙ sym (same s);
    held_wait = held_later m past held x.held_wait;
    marks = told x.marks;
  }

  pub entries_wait : (lag : ℕ → ℕ) (w : World) (held : List Pending) (es : Log) (past : List Mark) → Waits starts lag w held past → Waits starts lag w held (entries_past es past)
  entries_wait lag w held [] past x = x
  entries_wait lag w held (e ∷ es) past x = entries_wait lag w held es (mark.Entry e ∷ past) (one_more lag w held past (mark.Entry e) (λ s. refl) (λ r. r) x)

  pub halts_wait : (lag : ℕ → ℕ) (w : World) (held : List Pending) (i : ℕ) (failed : Bool) (past : List Mark) → Waits starts lag w held past → Waits starts lag w held (halts_past i failed past)
  halts_wait lag w held i true past x = one_more lag w held past (mark.Halted i) (λ s. refl) (λ r. r) x
  halts_wait lag w held i false past x = x

  pub in_world : (lag : ℕ → ℕ) (w w' : World) (held : List Pending) (past : List Mark) → SameClocks w w' → Waits starts lag w held past → Waits starts lag w' held past
  in_world lag w w' held past e x = record {
    count = ap length e.clocks ∙ x.count ∙ sym e.nodes;
    clocks = λ s. ap (λ z. of_server z s + lag s) e.clocks ∙ x.clocks s;
    held_wait = x.held_wait;
    marks = x.marks;
  }

  let_go : (lag : ℕ → ℕ) (w : World) (held : List Pending) (past : List Mark) (number : ℕ) → Waits starts lag w held past → Waits starts lag w (without number held) past
  let_go lag w held past number x = record { count = x.count; clocks = x.clocks; held_wait = each_kept (HeldWaits starts past) number held x.held_wait; marks = x.marks }

  pub answered_wait : (lag : ℕ → ℕ) (w : World) (held : List Pending) (past : List Mark) (number : ℕ) (kind : Kind) (known : Bool) (contact : ℕ) → (ReadsWait starts past → ReadsWait starts (mark.Answered number kind known contact ∷ past)) →
      Waits starts lag w held past → Waits starts lag w (without number held) (mark.Answered number kind known contact ∷ past)
  answered_wait lag w held past number kind known contact told x = one_more lag w (without number held) past (mark.Answered number kind known contact) (λ s. refl) told (let_go lag w held past number x)

-- One more start changes nothing of what the starts tell.
held_by_more : (start : Start) (starts : List Start) (k s : ℕ) → HeldBy k s starts → HeldBy k s (start ∷ starts)
held_by_more start starts k s (inl x) = inl (x.0, inr x.1)
held_by_more start starts k s (inr x) = inr (x.0, inr x.1)

until_more : (start : Start) (starts : List Start) (past : List Mark) (k s deadline : ℕ) (asked : Asked) → UntilFor starts past k s deadline asked → UntilFor (start ∷ starts) past k s deadline asked
until_more start starts past k s deadline (Good (Read query mode least wait raw)) x = (held_by_more start starts k s x.0, x.1, x.2, x.3)
until_more start starts past k s deadline other x = tt

stand_more : (start : Start) (starts : List Start) (past : List Mark) (q : Question) (s : ℕ) (st : Stand) → StandWaits starts past q s st → StandWaits (start ∷ starts) past q s st
stand_more start starts past q s (InRound round deadline) x = until_more start starts past q.number s deadline q.asked x
stand_more start starts past q s (ForIndex deadline looked) x = until_more start starts past q.number s deadline q.asked x
stand_more start starts past q s (AtPlace index term) x = tt
stand_more start starts past q s (Ended number) x = tt

waited_more : (start : Start) (starts : List Start) (past : List Mark) (k index : ℕ) (asked : Asked) → IsReadFor asked (HasWaited k index starts past) → IsReadFor asked (HasWaited k index (start ∷ starts) past)
waited_more start starts past k index (Good (Read query mode least wait raw)) (inl above) = inl above
waited_more start starts past k index (Good (Read query mode least wait raw)) (inr x) = inr (x.0, x.1, held_by_more start starts k x.0 x.2, x.3, x.4)
waited_more start starts past k index other x = absurd x

reads_more : (start : Start) (starts : List Start) (past : List Mark) → ReadsWait starts past → ReadsWait (start ∷ starts) past
reads_more start starts [] x = tt
reads_more start starts (mark.Answered number (At mode prefix index clock deadline) known contact ∷ past) x =
    let q = x.0.0 in
    ((q, x.0.1, x.0.2, waited_more start starts past number index q.asked x.0.3), reads_more start starts past x.1)
reads_more start starts (other ∷ past) x = reads_more start starts past x

pub starts_wait : (start : Start) (starts : List Start) (lag : ℕ → ℕ) (w : World) (held : List Pending) (past : List Mark) → Waits starts lag w held past → Waits (start ∷ starts) lag w held past
starts_wait start starts lag w held past x = record {
  count = x.count;
  clocks = x.clocks;
  held_wait = each_map (HeldWaits starts past) (HeldWaits (start ∷ starts) past) (λ h y. (y.0, stand_more start starts past h.question h.server h.stand y.1)) held x.held_wait;
  marks = reads_more start starts past x.marks;
}

pub moved_wait : (lag : ℕ → ℕ) (failed : Bool) (i : ℕ) (w' : World) (c : Cluster) → SameClocks c.world w' → Of lag c → Of lag (moved_with failed i w' c)
moved_wait lag failed i w' c e x = entries_wait c.starts lag w' c.held (joined c.world w') (halts_past i failed c.past) (halts_wait c.starts lag w' c.held i failed c.past (in_world c.starts lag c.world w' c.held c.past e x))

pub acted_wait : (lag : ℕ → ℕ) (i : ℕ) (input : Input) (w' : World) (c : Cluster) → NodeActs c.world i input w' → Of lag c → Of lag (moved i w' c)
acted_wait lag i input w' c a x = moved_wait lag (halted_now c.world w' i) i w' c (acts_same c.world i input w' a) x

-- The answer to a read that waited here.
waited_read : (c : Cluster) (lag : ℕ → ℕ) → Of lag c → (i : ℕ) (q : Question) (asked : Asked) (st : Stand) (mode : Mode) (prefix index clock deadline : ℕ) →
    IsRead asked (λ query m least. (mode ≡ m) × IsAnswerAt query least prefix index clock deadline c.world.agreed) → Allows c i asked st (At mode prefix index clock deadline) →
    ((d : ℕ) (looked : Bool) → st ≡ ForIndex d looked → UntilFor c.starts c.past q.number i d asked) → IsReadFor asked (HasWaited q.number index c.starts c.past)
waited_read c lag x i q (Good (Read query m least wait raw)) (ForIndex d looked) mode prefix index clock deadline r a u = elim r.1.due [
  | inl above ↦ inl above
  | inr late_enough ↦
      let w = u d looked refl in
      let same = a.1 in
      let till = a.2 in
      let here = x.clocks i in
      let full = w.3 in
      inr (i, w.1, w.0, w.2, omega (arith, late_enough, same, till, here, full))
]
waited_read c lag x i q (Good (Read query m least wait raw)) (AtPlace index' term) mode prefix index clock deadline r a u = absurd a
waited_read c lag x i q (Good (Read query m least wait raw)) (InRound round d) mode prefix index clock deadline r a u = absurd a
waited_read c lag x i q (Good (Read query m least wait raw)) (Ended number) mode prefix index clock deadline r a u = absurd a
waited_read c lag x i q other st mode prefix index clock deadline r a u = absurd r

index_stand : (starts : List Start) (past : List Mark) (q : Question) (s : ℕ) (st : Stand) (d : ℕ) (looked : Bool) → st ≡ ForIndex d looked → StandWaits starts past q s st → UntilFor starts past q.number s d q.asked
index_stand starts past q s st d looked e x = subst (λ z. StandWaits starts past q s z) e x

read_caused : (c : Cluster) (lag : ℕ → ℕ) → Of lag c → (i : ℕ) (q : Question) (mode : Mode) (prefix index clock deadline : ℕ) → IsAmong (came q) c.past → Lasting q (At mode prefix index clock deadline) c.world.agreed →
    Cause c i q (At mode prefix index clock deadline) → (p : Question) × IsAmong (came p) c.past × (p.number ≡ q.number) × IsReadFor p.asked (HasWaited q.number index c.starts c.past)
unfolding LastsFor
read_caused c lag x i q mode prefix index clock deadline m l (waited h here is at a) =
    let held : HeldWaits c.starts c.past h = each_among (HeldWaits c.starts c.past) c.held h x.held_wait here in
    let stand : StandWaits c.starts c.past q i h.stand = subst (λ z. StandWaits c.starts c.past q z h.stand) at (subst (λ (z : Question). StandWaits c.starts c.past z h.server h.stand) is held.1) in
    (q, m, refl, waited_read c lag x i q q.asked h.stand mode prefix index clock deadline l a (λ d looked e. index_stand c.starts c.past q i h.stand d looked e stand))
read_caused c lag x i q mode prefix index clock deadline m l (at_once why k goes) = absurd (cc k)
read_caused c lag x i q mode prefix index clock deadline m l (not_ready k goes st r) = absurd (cc k)
read_caused c lag x i q mode prefix index clock deadline m l (no_room command k goes ask r room) = absurd (cc k)
read_caused c lag x i q mode prefix index clock deadline m l (delay command key k goes ask r d) = absurd (cc k)
read_caused c lag x i q mode prefix index clock deadline m l (renewed id k goes ask r) = absurd (cc k)
read_caused c lag x i q mode prefix index clock deadline m l (by_agent op g ask e k) = absurd (cc k)
read_caused c lag x i q mode prefix index clock deadline m l (unknown_there op ask e k) = absurd (cc k)
read_caused c lag x i q mode prefix index clock deadline m l (stopped command k ask down) = absurd (cc k)

told_right : (c : Cluster) (lag : ℕ → ℕ) → Of lag c → (i : ℕ) (q : Question) (kind : Kind) (known : Bool) (contact : ℕ) → IsLegal c i q kind known contact → ReadsWait c.starts c.past → ReadsWait c.starts (mark.Answered q.number kind known contact ∷ c.past)
told_right c lag x i q (At mode prefix index clock deadline) known contact l r = (read_caused c lag x i q mode prefix index clock deadline l.asked l.lasts l.cause, r)
told_right c lag x i q (Acked position) known contact l r = r
told_right c lag x i q (Seen mode prefix) known contact l r = r
told_right c lag x i q (Local body) known contact l r = r
told_right c lag x i q (Delayed key until now) known contact l r = r
told_right c lag x i q (Refused why) known contact l r = r

-- Another stand of a held request ends by the same clock.
abbrev Fine : List Start → List Mark → Option Work → Type 0
Fine starts past (Some (Holds h)) = HeldWaits starts past h
Fine starts past other = Unit {0}

module _ (starts : List Start) where
  fine_if : (past : List Mark) (b : Bool) (x y : Option Work) → Fine starts past x → Fine starts past y → Fine starts past (cond b x y)
  fine_if past true x y f g = f
  fine_if past false x y f g = g

  asks_fine : (past : List Mark) (h : Pending) (others clock : ℕ) (applied : Log) (deadline : ℕ) (looked : Bool) (query : Query) (mode : Mode) (least : ℕ) → IsAmong (came h.question) past → UntilFor starts past h.question.number h.server deadline h.question.asked →
      Fine starts past (asks h others clock applied deadline looked query mode least)
  asks_fine past h others clock applied deadline looked query mode least m u =
      let index = index_of query (commands_of applied) in
      let answers : Option Work = Some (Replies h.question (At mode (length applied) index clock deadline)) in
      let refuses : Option Work = Some (Replies h.question (Refused (refusal.TooMany others))) in
      let waits : Option Work = Some (Holds (record h { stand = ForIndex deadline true })) in
      let again : HeldWaits starts past (record h { stand = ForIndex deadline true }) = (m, u) in
      let new : Option Work = cond (nat_le 4096 others) refuses waits in
      fine_if past (nat_lt least index || nat_le deadline clock) answers (cond looked None new) tt
      (fine_if past looked None new tt (fine_if past (nat_le 4096 others) refuses waits tt again))

  asks_read_fine : (past : List Mark) (h : Pending) (others clock : ℕ) (applied : Log) (deadline : ℕ) (looked : Bool) (asked : Asked) → IsAmong (came h.question) past → UntilFor starts past h.question.number h.server deadline h.question.asked →
      Fine starts past (asks_read h others clock applied deadline looked asked)
  asks_read_fine past h others clock applied deadline looked (Good (Read query mode least wait raw)) m u = asks_fine past h others clock applied deadline looked query mode least m u
  asks_read_fine past h others clock applied deadline looked (Good (Execute name limit mode)) m u = tt
  asks_read_fine past h others clock applied deadline looked (Good (Write command)) m u = tt
  asks_read_fine past h others clock applied deadline looked (Good (Renew id)) m u = tt
  asks_read_fine past h others clock applied deadline looked (Good (OfAgent op)) m u = tt
  asks_read_fine past h others clock applied deadline looked (Bad why) m u = tt

  stand_fine : (c : Cluster) (past : List Mark) (i : ℕ) (h : Pending) (st : Stand) → IsAmong (came h.question) past → StandWaits starts past h.question h.server st → Fine starts past (early_stand c i h st)
  stand_fine c past i h (Ended number) m x = tt
  stand_fine c past i h (AtPlace index term) m x = fine_if past (nat_le index (length (applied_of c i))) (Some (Replies h.question (landed index term (applied_of c i)))) None tt tt
  stand_fine c past i h (InRound round deadline) m x =
      fine_if past (nat_lt round.term (node_of c.world i).term) (Some (Replies h.question (Refused (refusal.Lost round.term (node_of c.world i).term)))) None tt tt
  stand_fine c past i h (ForIndex deadline looked) m x = asks_read_fine past h (waiting i c.held) (clock_of c.world i) (applied_of c i) deadline looked h.question.asked m x

  early_fine : (c : Cluster) (past : List Mark) (i : ℕ) (h : Pending) → HeldWaits starts past h → Fine starts past (early_work c i h)
  early_fine c past i h x =
      let halts : Option Work = Some (Replies h.question (Refused (refusal.Halted i))) in
      fine_if past (h.server == i) (cond ((node_of c.world i).halted && not (is_ended h.stand)) halts (early_stand c i h h.stand)) None
      (fine_if past ((node_of c.world i).halted && not (is_ended h.stand)) halts (early_stand c i h h.stand) tt (stand_fine c past i h h.stand x.0 x.1)) tt

  turn_fine : (c : Cluster) (past : List Mark) (i : ℕ) (h : Pending) (st : Stand) → IsAmong (came h.question) past → StandWaits starts past h.question h.server st → Fine starts past (late_stand c i h st)
  turn_fine c past i h (InRound round deadline) m x =
      let again : HeldWaits starts past (record h { stand = ForIndex deadline false }) = (m, x) in
      fine_if past (not (node_of c.world i).halted && (is_confirmed (node_of c.world i) round && nat_le round.commit (length (applied_of c i)))) (Some (Holds (record h { stand = ForIndex deadline false }))) None again tt
  turn_fine c past i h (ForIndex deadline looked) m x = tt
  turn_fine c past i h (AtPlace index term) m x = tt
  turn_fine c past i h (Ended number) m x = tt

  late_fine : (c : Cluster) (past : List Mark) (i : ℕ) (h : Pending) → HeldWaits starts past h → Fine starts past (late_work c i h)
  late_fine c past i h x = fine_if past (h.server == i) (late_stand c i h h.stand) None (turn_fine c past i h h.stand x.0 x.1) tt

  next_fine : (c : Cluster) (past : List Mark) (i : ℕ) → Fine starts past (next_work c i)
  next_fine c past i = fine_if past (nat_lt (length (applied_of c i)) (node_of c.world i).commit) (Some Applies) None tt tt

  due_fine : (c : Cluster) (i : ℕ) (w : Work) → IsDue i c w → Each (HeldWaits starts c.past) c.held → Fine starts c.past (Some w)
  due_fine c i w (early before after h at e) x = subst (λ z. Fine starts c.past z) e (early_fine c c.past i h (each_in (HeldWaits starts c.past) before after h c.held at x))
  due_fine c i w (next_one free e) x = subst (λ z. Fine starts c.past z) e (next_fine c c.past i)
  due_fine c i w (late free all before after h at e) x = subst (λ z. Fine starts c.past z) e (late_fine c c.past i h (each_in (HeldWaits starts c.past) before after h c.held at x))

did_wait : (lag : ℕ → ℕ) (c : Cluster) → Of lag c → (i : ℕ) (w : Work) → IsDue i c w → WorkIsLegal c i w → Of lag (did i w c)
unfolding did
did_wait lag c x i (Replies q kind) d l = answered_wait c.starts lag c.world c.held c.past q.number kind _ _ (told_right c lag x i q kind _ _ l) x
did_wait lag c x i (Holds h) d l = record { count = x.count; clocks = x.clocks; held_wait = each_with (HeldWaits c.starts c.past) h c.held (due_fine c.starts c i (Holds h) d x.held_wait) x.held_wait; marks = x.marks }
did_wait lag c x i (Closes number event) d l = let_go c.starts lag c.world c.held c.past number x
did_wait lag c x i Applies d l = x

pub works_wait : (lag : ℕ → ℕ) (i : ℕ) (c c' : Cluster) (p : Works i c c') → AllLegal i c c' p → Of lag c → Of lag c'
works_wait lag i c c' none l x = x
works_wait lag i c c' (work w d more) l x = works_wait lag i (did i w c) c' more l.1 (did_wait lag c x i w d l.0)

-- The request that was asked in the event at work, with the clocks then.
abbrev pub IsNewest : Event → Cluster → Type 0
IsNewest (event.Ask agent asked draw) c = IsAmong (mark.Asked c.asked agent asked draw) c.past × ((s : ℕ) → WasAskedAt c.asked s (clock_of c.world s) c.past)
IsNewest other c = Unit {0}

newest_later : (made : Event) (c c' : Cluster) → c'.asked ≡ c.asked → c'.world ≡ c.world → ((m : Mark) → IsAmong m c.past → IsAmong m c'.past) → ((k s clock : ℕ) → WasAskedAt k s clock c.past → WasAskedAt k s clock c'.past) → IsNewest made c → IsNewest made c'
newest_later (event.Ask agent asked draw) c c' a w m k x = (
  subst (λ z. IsAmong (mark.Asked z agent asked draw) c'.past) (sym a) (m _ x.0),
  λ s. subst (λ z. WasAskedAt z s (clock_of c'.world s) c'.past) (sym a) (subst (λ (v : World). WasAskedAt c.asked s (clock_of v s) c'.past) (sym w) (k c.asked s (clock_of c.world s) (x.1 s))),
)
newest_later other c c' a w m k x = tt

did_newest : (made : Event) (i : ℕ) (w : Work) (c : Cluster) → IsNewest made c → IsNewest made (did i w c)
unfolding did
did_newest made i (Replies q kind) c x = newest_later made c (did i (Replies q kind) c) refl refl (λ m y. inr y) (λ k s clock y. y) x
did_newest made i (Holds h) c x = newest_later made c (did i (Holds h) c) refl refl (λ m y. y) (λ k s clock y. y) x
did_newest made i (Closes number event) c x = newest_later made c (did i (Closes number event) c) refl refl (λ m y. y) (λ k s clock y. y) x
did_newest made i Applies c x = newest_later made c (did i Applies c) refl refl (λ m y. y) (λ k s clock y. y) x

pub works_newest : (made : Event) (i : ℕ) (c c' : Cluster) → Works i c c' → IsNewest made c → IsNewest made c'
works_newest made i c c' none x = x
works_newest made i c c' (work w d more) x = works_newest made i (did i w c) c' more (did_newest made i w c x)
