-- More marks, more starts and a later world leave sound what was sound.
use Rattle.std.proofs.Common.{◌≡◌, ℕ, ◌≤◌, inr, Bool, true, false, List, [], ◌∷◌, length, take, refl, sym, ◌∙◌, subst, arith}
use Rattle.cat_model.specs.declared.query.Query.{Query}
use Rattle.cat_model.specs.declared.request.Mode.{Mode}
use Rattle.cat_model.specs.declared.request.Mode.TheVariants.{Default, Consistent, Stale}
use Rattle.cat_model.specs.declared.request.Request.TheVariants.{Read, Execute, Write, Renew, Agent}
use Rattle.cat_model.specs.declared.request.Asked.{Asked}
use Rattle.cat_model.specs.declared.request.Asked.TheVariants.{Good, Bad}
use Rattle.cat_model.specs.declared.reply.Kind.{Kind}
use Rattle.cat_model.specs.declared.reply.Kind.TheVariants.{Acked, At, Seen, Local, Delayed, Refused}
use Rattle.cat_model.specs.declared.reply.Mark.{Mark}
use Rattle.cat_model.specs.declared.reply.Mark.TheVariants as mark
use Rattle.cat_model.specs.declared.reply.Refusal.{Refusal}
use Rattle.cat_model.specs.declared.reply.Refusal.TheVariants as refusal
use Rattle.cat_model.specs.Indexes.{index_of}
use Rattle.cat_model.specs.Log.{commands_of}
use Rattle.raft_model.specs.Log.{Log}
use Rattle.raft_model.specs.World.{World}
use Rattle.raft_model.proofs.Logs.{front_take}
use Rattle.cluster_rules.specs.Replies.{Question, came, Out, Replied, Closed, Synced}
use Rattle.cluster_rules.specs.Cluster.{Server, Stand, AtPlace, InRound, ForIndex, Ended, Pending, Start, Proposed, Probed, Looked, server_of}
use Rattle.cluster_rules.specs.Sound.{IsAmong, IsOpen, entries_before, RestartedAt, IsFresh, IsFreshKind, StartIsSound, WasBelow, LookedBelow, StandIsSound, PendingIsSound, LostFor, RestsOn, PastIsSound, OutIsSound}
use Rattle.cluster_rules.proofs.Grows.{GoesTo, write_map, look_map, front_length, lasting_grows, reply_same, term_grows, never_grows, goes_nowhere}

pub record Later (w w' : World) (past past' : List Mark) (starts starts' : List Start) : Type 0 where
  pub goes : GoesTo w w'
  pub was : (m : Mark) → IsAmong m past → IsAmong m past'
  pub restarted : (event s : ℕ) → RestartedAt event s past → RestartedAt event s past'
  pub more : (x : Start) → IsAmong x starts → IsAmong x starts'

-- of the request of this number the later marks say nothing new
pub record Same (number : ℕ) (past past' : List Mark) : Type 0 where
  pub open_ : IsOpen number past → IsOpen number past'
  pub before : entries_before number past' ≡ entries_before number past

module _ (number : ℕ) (past past' : List Mark) (same : entries_before number past' ≡ entries_before number past) (starts starts' : List Start) (more : (x : Start) → IsAmong x starts → IsAmong x starts') where
  pub fresh_later : (mode : Mode) (p p' : ℕ) → p ≤ p' → IsFresh mode number past starts p → IsFresh mode number past' starts' p'
  fresh_later Consistent p p' l x = omega (arith, same)
  fresh_later Default p p' l x = (x.0, x.1, more (Looked number x.0 x.1) x.2, let k = x.3 in omega arith)
  fresh_later Stale p p' l x = (x.0, x.1, more (Looked number x.0 x.1) x.2, let k = x.3 in omega arith)

  pub fresh_kind_later : (kind : Kind) → IsFreshKind kind number past starts → IsFreshKind kind number past' starts'
  fresh_kind_later (Acked position) x = x
  fresh_kind_later (At mode prefix index clock deadline) x = fresh_later mode prefix prefix (omega arith) x
  fresh_kind_later (Seen mode prefix) x = fresh_later mode prefix prefix (omega arith) x
  fresh_kind_later (Local body) x = x
  fresh_kind_later (Delayed key until now) x = x
  fresh_kind_later (Refused why) x = x

below_later : (query : Query) (least : ℕ) (looked : Bool) (a a' : Log) → take (length a) a' ≡ a → WasBelow query least looked a → WasBelow query least looked a'
below_later query least false a a' f x = x
below_later query least true a a' f x = (x.0, let z = x.1 in let k = front_length a a' f in omega arith, subst (λ z. index_of query (commands_of z) ≤ least) (sym (front_take x.0 a a' f x.1)) x.2)

looked_later : (asked : Asked) (looked : Bool) (a a' : Log) → take (length a) a' ≡ a → LookedBelow asked looked a → LookedBelow asked looked a'
looked_later (Good (Read query mode least wait raw)) looked a a' f x = below_later query least looked a a' f x
looked_later (Good (Write command)) looked a a' f x = x
looked_later (Good (Execute name limit mode)) looked a a' f x = x
looked_later (Good (Renew id)) looked a a' f x = x
looked_later (Good (Agent op)) looked a a' f x = x
looked_later (Bad why) looked a a' f x = x

module _ (w w' : World) (past past' : List Mark) (starts starts' : List Start) (l : Later w w' past past' starts starts') where
  -- what a held request waits for
  stand_later : (a a' : Log) (server : ℕ) (q : Question) (s : Stand) → take (length a) a' ≡ a → entries_before q.number past' ≡ entries_before q.number past → StandIsSound a past starts server q s → StandIsSound a' past' starts' server q s
  stand_later a a' server q (AtPlace index term) f e x = write_map q.asked _ _ (λ c p. l.more _ p) x
  stand_later a a' server q (InRound round deadline) f e x = look_map q.asked _ _ (λ mode p. (p.0, l.more _ p.1)) x
  stand_later a a' server q (ForIndex deadline looked) f e x =
      (look_map q.asked _ _ (λ mode p. fresh_later q.number past past' e starts starts' l.more mode (length a) (length a') (front_length a a' f) p) x.0, looked_later q.asked looked a a' f x.1)
  stand_later a a' server q (Ended event) f e x = l.restarted event server x

  pub pending_later : (servers servers' : List Server) (h : Pending) → Same h.question.number past past' →
      take (length (server_of servers h.server).applied) (server_of servers' h.server).applied ≡ (server_of servers h.server).applied → PendingIsSound servers past starts h → PendingIsSound servers' past' starts' h
  pending_later servers servers' h s f x = record {
    asked = l.was (came h.question) x.asked;
    open_ = s.open_ x.open_;
    stand = stand_later (server_of servers h.server).applied (server_of servers' h.server).applied h.server h.question h.stand f s.before x.stand;
  }

  -- starts, where the later marks say nothing new of those that were asked
  pub start_later : ((q : Question) → IsAmong (came q) past → entries_before q.number past' ≡ entries_before q.number past) → (x : Start) → StartIsSound w past x → StartIsSound w' past' x
  start_later same (Proposed index e) x = (x.0, (λ v r. x.1 v (l.goes.on v r)), (x.2.0, l.was (came x.2.0) x.2.1, x.2.2, x.2.3))
  start_later same (Probed number server round) x =
      let asked = x.1 in
      let e : entries_before number past' ≡ entries_before number past = subst (λ z. entries_before z past' ≡ entries_before z past) asked.2 (same asked.0 asked.1) in
      (λ v r j d at c. let k = x.0 v (l.goes.on v r) j d at c in omega (arith, e), (asked.0, l.was (came asked.0) asked.1, asked.2))
  start_later same (Looked number server applied) x = (x.0, l.was (came x.0) x.1, x.2)

  pub out_later : (o : Out) → OutIsSound w past o → OutIsSound w' past' o
  out_later (Replied r) x = record {
    question = x.question;
    asked = l.was (came x.question) x.asked;
    marked = l.was (mark.Answered r.number r.kind r.known r.contact) x.marked;
    is = x.is ∙ sym (reply_same w.agreed w'.agreed l.goes.grows x.question r.kind r.known r.contact x.lasts);
    lasts = lasting_grows w.agreed w'.agreed l.goes.grows x.question r.kind x.lasts;
  }
  out_later (Closed number event) x = ((x.0.0, l.was (came x.0.0) x.0.1, x.0.2), (x.1.0, l.restarted event x.1.0 x.1.1))
  out_later (Synced agent count) x = x

-- the marks themselves, in a later world and with more starts
module _ (w w' : World) (g : GoesTo w w') (starts starts' : List Start) (more : (x : Start) → IsAmong x starts → IsAmong x starts') where
  lost_later : (q : Question) (asked : Asked) (old found : ℕ) → LostFor w starts q asked old found → LostFor w' starts' q asked old found
  lost_later q (Good (Write command)) old found x = (
    x.0,
    x.1,
    more _ x.2,
    x.3,
    x.4,
    let k = front_length w.agreed w'.agreed g.grows in let z = x.5 in omega arith,
    term_grows w.agreed w'.agreed g.grows x.0 x.5 ∙ x.6,
    never_grows w w' g old q.number x.7,
  )
  lost_later q (Good (Read query mode least wait raw)) old found x = (x.0, x.1, more _ x.2, x.3)
  lost_later q (Good (Execute name limit mode)) old found x = (x.0, x.1, more _ x.2, x.3)
  lost_later q (Good (Renew id)) old found x = x
  lost_later q (Good (Agent op)) old found x = x
  lost_later q (Bad why) old found x = x

  refused_later : (q : Question) (why : Refusal) → RestsOn w starts q (Refused why) → RestsOn w' starts' q (Refused why)
  refused_later q (refusal.Lost old found) x = lost_later q q.asked old found x
  refused_later q other x = x

  rests_later : (q : Question) (kind : Kind) → RestsOn w starts q kind → RestsOn w' starts' q kind
  rests_later q (Acked position) x = (x.0, more _ x.1, x.2)
  rests_later q (At mode prefix index clock deadline) x = x
  rests_later q (Seen mode prefix) x = x
  rests_later q (Local body) x = x
  rests_later q (Delayed key until now) x = x
  rests_later q (Refused why) x = refused_later q why x

  pub past_later : (past : List Mark) → PastIsSound w starts past → PastIsSound w' starts' past
  past_later [] x = x
  past_later (mark.Asked number agent asked draw ∷ past) x = (x.0, past_later past x.1)
  past_later (mark.Made event ∷ past) x = past_later past x
  past_later (mark.Advanced ms made ∷ past) x = past_later past x
  past_later (mark.Settled pairs whole ∷ past) x = past_later past x
  past_later (mark.Halted server ∷ past) x = past_later past x
  past_later (mark.Entry entry ∷ past) x = past_later past x
  past_later (mark.Answered number kind known contact ∷ past) x = (
    let a = x.0 in
        record {
          question = a.question;
          asked = a.asked;
          number_is = a.number_is;
          once = a.once;
          lasts = lasting_grows w.agreed w'.agreed g.grows a.question kind a.lasts;
          fresh = fresh_kind_later number past past refl starts starts' more kind a.fresh;
          rests = rests_later a.question kind a.rests;
        },
    past_later past x.1,
  )
  past_later (mark.Taken number ∷ past) x = past_later past x

pub same_past : (n : ℕ) (past : List Mark) → Same n past past
same_past n past = record { open_ = λ x. x; before = refl }

pub later_nothing : (w : World) (past : List Mark) (starts : List Start) → Later w w past past starts starts
later_nothing w past starts = record { goes = goes_nowhere w; was = λ m x. x; restarted = λ e s x. x; more = λ x m. m }

-- one more mark
pub later_mark : (w : World) (m : Mark) (past : List Mark) (starts : List Start) → Later w w past (m ∷ past) starts starts
later_mark w m past starts = record { goes = goes_nowhere w; was = λ n x. inr x; restarted = λ e s x. inr x; more = λ x k. k }
