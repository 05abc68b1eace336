-- What is done to a cluster's books, one thing at a time.
use Rattle.std.proofs.Common.{◌≡◌, ℕ, suc, ◌<◌, inl, inr, Bool, true, false, cond, List, [], ◌∷◌, ◌++◌, map, refl, sym, ◌∙◌, ap, subst, arith, Option}
use Rattle.std.specs.Prelude.{◌==◌}
use Rattle.std.specs.List.{AllByRecursion as Each}
use Rattle.cat_model.specs.declared.request.Asked.{Asked}
use Rattle.cat_model.specs.declared.request.Draw.{Draw}
use Rattle.cat_model.specs.declared.request.Event.TheVariants as event
use Rattle.cat_model.specs.declared.reply.Kind.{Kind}
use Rattle.cat_model.specs.declared.reply.Mark.{Mark}
use Rattle.cat_model.specs.declared.reply.Mark.TheVariants as mark
use Rattle.raft_model.specs.Log.{Log}
use Rattle.raft_model.specs.World.{World}
use Rattle.raft_model.proofs.Tests.{at_bool, eq_tells}
use Rattle.cluster_rules.specs.Replies.{Question, came, Out, Replied, Closed, Synced, Reply, reply_of}
use Rattle.cluster_rules.specs.Cluster.{Server, Stand, ForIndex, Ended, Pending, Start, Cluster, server_of}
use Rattle.cluster_rules.specs.Due.{Work, Replies, Holds, Closes, Applies, answered, did, IsDue, Works, none, work}
use Rattle.cluster_rules.specs.Requests.{moved_with}
use Rattle.cluster_rules.specs.Proposals.{synced}
use Rattle.cluster_rules.specs.Step.{events_in, ended, begun_anew, marked, shelved}
use Rattle.cluster_rules.specs.Sound.{IsAmong, IsOpen, RestartedAt, PendingIsSound, StandIsSound, OutIsSound, IsSoundAtWork}
use Rattle.cluster_rules.specs.Booked.{PendingIsBooked, OutIsBooked, Books, IsBookedAtWork}
use Rattle.cluster_rules.proofs.Asking.{IsJustAsked}
use Rattle.cluster_rules.proofs.Cases.{Leaves, due_cases}
use Rattle.cluster_rules.proofs.Moved.{Plain, plain_moved, events_moved, ascends_ended}
use Rattle.cluster_rules.proofs.Numbered.{numbered_of, was_numbered, open_new}
use Rattle.cluster_rules.proofs.Tools.{each_map, each_append}
use Rattle.cluster_rules.proofs.Works.{each_put, each_without, each_kept, each_with, ascends_without, ascends_with, ascends_more}

-- A sound cluster's books hold.
pending_of : (servers : List Server) (past : List Mark) (starts : List Start) (h : Pending) → PendingIsSound servers past starts h → PendingIsBooked past h
pending_of servers past starts h x = record {
  asked = x.asked;
  open_ = x.open_;
  ended = λ event e. subst (λ (z : Stand). StandIsSound (server_of servers h.server).applied past starts h.server h.question z) e x.stand;
}

out_of : (w : World) (past : List Mark) (o : Out) → OutIsSound w past o → OutIsBooked past o
out_of w past (Replied r) x = ((x.question, x.asked, sym (ap (λ (z : Reply). z.number) x.is)), x.marked)
out_of w past (Closed number at) x = x
out_of w past (Synced agent count) x = tt

pub booked_at_work : (c : Cluster) → IsSoundAtWork c → IsBookedAtWork c
booked_at_work c s = record {
  asked_is = s.counts.asked_is;
  held = each_map (PendingIsSound c.servers c.past c.starts) (PendingIsBooked c.past) (pending_of c.servers c.past c.starts) c.held s.held;
  ascends = s.ascends;
  marks = numbered_of c.world c.starts c.past s.marks;
  fresh = each_map (OutIsSound c.world c.past) (OutIsBooked c.past) (out_of c.world c.past) c.fresh s.fresh;
  tray = each_map (OutIsSound c.world c.past) (OutIsBooked c.past) (out_of c.world c.past) c.tray s.tray;
}

-- More marks, of which none is of a request's fate.
module _ (past past' : List Mark) (was : (m : Mark) → IsAmong m past → IsAmong m past') (restarted : (event s : ℕ) → RestartedAt event s past → RestartedAt event s past') where
  pending_on : (h : Pending) → (IsOpen h.question.number past → IsOpen h.question.number past') → PendingIsBooked past h → PendingIsBooked past' h
  pending_on h open_ x = record { asked = was (came h.question) x.asked; open_ = open_ x.open_; ended = λ event e. restarted event h.server (x.ended event e) }

  out_on : (o : Out) → OutIsBooked past o → OutIsBooked past' o
  out_on (Replied r) x = ((x.0.0, was (came x.0.0) x.0.1, x.0.2), was (mark.Answered r.number r.kind r.known r.contact) x.1)
  out_on (Closed number at) x = ((x.0.0, was (came x.0.0) x.0.1, x.0.2), (x.1.0, restarted at x.1.0 x.1.1))
  out_on (Synced agent count) x = tt

  outs_on : (outs : List Out) → Each (OutIsBooked past) outs → Each (OutIsBooked past') outs
  outs_on outs x = each_map (OutIsBooked past) (OutIsBooked past') out_on outs x

pub plain_books : (asked : ℕ) (held : List Pending) (fresh tray : List Out) (past past' : List Mark) → Plain past past' → Books asked held fresh tray past → Books asked held fresh tray past'
plain_books asked held fresh tray past past' p b = record {
  asked_is = b.asked_is ∙ sym p.asked;
  held = each_map (PendingIsBooked past) (PendingIsBooked past') (λ h x. pending_on past past' p.was p.restarted h (p.open_ h.question.number) x) held b.held;
  ascends = b.ascends;
  marks = p.numbered b.marks;
  fresh = outs_on past past' p.was p.restarted fresh b.fresh;
  tray = outs_on past past' p.was p.restarted tray b.tray;
}

pub moved_books : (failed : Bool) (i : ℕ) (w' : World) (c : Cluster) → IsBookedAtWork c → IsBookedAtWork (moved_with failed i w' c)
moved_books failed i w' c b = plain_books c.asked c.held c.fresh c.tray c.past (moved_with failed i w' c).past (plain_moved failed i w' c) b

-- An answer.
pub answered_books : (c : Cluster) → IsBookedAtWork c → (q : Question) (kind : Kind) (known : Bool) (contact : ℕ) (log : Log) → IsAmong (came q) c.past → IsOpen q.number c.past → IsBookedAtWork (answered q kind known contact log c)
answered_books c b q kind known contact log was open_ =
    let past' = mark.Answered q.number kind known contact ∷ c.past in
    record {
      asked_is = b.asked_is;
      held = each_without (PendingIsBooked c.past) (PendingIsBooked past') q.number c.held (λ h d x. pending_on c.past past' (λ m z. inr z) (λ e s z. inr z) h (λ z. (d, z)) x) b.held;
      ascends = ascends_without q.number c.held b.ascends;
      marks = (((q, was, refl), open_), b.marks);
      fresh = each_put (OutIsBooked past') (Replied (reply_of q kind known contact log)) c.fresh ((q, inr was, refl), inl refl) (outs_on c.past past' (λ m z. inr z) (λ e s z. inr z) c.fresh b.fresh);
      tray = outs_on c.past past' (λ m z. inr z) (λ e s z. inr z) c.tray b.tray;
    }

-- A request begins to be held.
pub holding_books : (c : Cluster) → IsBookedAtWork c → (h : Pending) → PendingIsBooked c.past h → Each (λ (g : Pending). g.question.number < h.question.number) c.held → Books c.asked (c.held ++ h ∷ []) c.fresh c.tray c.past
holding_books c b h x above = record {
  asked_is = b.asked_is;
  held = each_append (PendingIsBooked c.past) c.held (h ∷ []) b.held (x, tt);
  ascends = ascends_more h c.held above b.ascends;
  marks = b.marks;
  fresh = b.fresh;
  tray = b.tray;
}

-- The outs of syncs, and of an event.
pub synced_books : (c : Cluster) → IsBookedAtWork c → (a : ℕ) (count : Option ℕ) → IsBookedAtWork (synced a count c)
synced_books c b a count = record { asked_is = b.asked_is; held = b.held; ascends = b.ascends; marks = b.marks; fresh = each_put (OutIsBooked c.past) (Synced a count) c.fresh tt b.fresh; tray = b.tray }

pub shelved_books : (c : Cluster) → IsBookedAtWork c → IsBookedAtWork (shelved c)
shelved_books c b = record { asked_is = b.asked_is; held = b.held; ascends = b.ascends; marks = b.marks; fresh = tt; tray = each_append (OutIsBooked c.past) c.tray c.fresh b.tray b.fresh }

-- A restart: what was held there is to be closed.
same_event : (a b : ℕ) → Ended a ≡ Ended b → a ≡ b
same_event a b e = cc e

module _ (i at : ℕ) (past past' : List Mark) (p : Plain past past') (here : RestartedAt at i past') where
  one_ended : (h : Pending) → PendingIsBooked past h → PendingIsBooked past' (ended i at h)
  one_ended h x = at_bool (λ b. (h.server == i) ≡ b → PendingIsBooked past' (cond b (record h { stand = Ended at }) h)) (h.server == i)
      (λ _ q. record {
        asked = p.was (came h.question) x.asked;
        open_ = p.open_ h.question.number x.open_;
        ended = λ event e. subst (λ z. RestartedAt z h.server past') (same_event at event e) (subst (λ z. RestartedAt at z past') (sym (eq_tells h.server i q)) here);
      })
      (λ _ _. pending_on past past' p.was p.restarted h (p.open_ h.question.number) x) refl

  all_ended : (hs : List Pending) → Each (PendingIsBooked past) hs → Each (PendingIsBooked past') (map (ended i at) hs)
  all_ended [] x = x
  all_ended (h ∷ hs) x = (one_ended h x.0, all_ended hs x.1)

pub restart_books : (failed : Bool) (i : ℕ) (w' : World) (c : Cluster) → IsBookedAtWork c → RestartedAt (events_in c.past) i c.past → IsBookedAtWork (begun_anew i (moved_with failed i w' c))
restart_books failed i w' c b here =
    let past' = (moved_with failed i w' c).past in
    let p = plain_moved failed i w' c in
    let m = moved_books failed i w' c b in
    let now : RestartedAt (events_in past') i past' = subst (λ z. RestartedAt z i past') (sym (events_moved failed i w' c)) (p.restarted (events_in c.past) i here) in
    record { asked_is = m.asked_is; held = all_ended i (events_in past') c.past past' p now c.held b.held; ascends = ascends_ended i (events_in past') c.held b.ascends; marks = m.marks; fresh = m.fresh; tray = m.tray }

-- What is due, and what doing it does.
abbrev WorkIsBooked : List Mark → Work → Type 0
WorkIsBooked past (Replies q kind) = IsAmong (came q) past × IsOpen q.number past
WorkIsBooked past (Holds h) = PendingIsBooked past h
WorkIsBooked past (Closes number at) = OutIsBooked past (Closed number at)
WorkIsBooked past Applies = Unit {0}

due_booked : (c : Cluster) → Each (PendingIsBooked c.past) c.held → (i : ℕ) (w : Work) → IsDue i c w → WorkIsBooked c.past w
due_booked c a i w e = due_cases c i (WorkIsBooked c.past) (PendingIsBooked c.past) a leaves (λ _. tt) w e
  where
    leaves : (h : Pending) → PendingIsBooked c.past h → h.server ≡ i → Leaves c i (WorkIsBooked c.past) h
    leaves h x at = record {
      halted = λ _ _. (x.asked, x.open_);
      closes = λ event e. ((h.question, x.asked, refl), (h.server, x.ended event e));
      lands = λ _ _ _ _. (x.asked, x.open_);
      rises = λ _ _ _ _. (x.asked, x.open_);
      answers = λ _ _ _ _ _ _ _ _ _ _. (x.asked, x.open_);
      refuses = λ _ _ _ _ _ _ _ _ _ _ _. (x.asked, x.open_);
      sees = λ deadline _ _ _ _ _ _ _ _. waits deadline true;
      runs = λ _ _ _ _ _ _ _. (x.asked, x.open_);
      turns = λ _ deadline _ _ _ _. waits deadline false;
    }
      where
        waits : (deadline : ℕ) (looked : Bool) → PendingIsBooked c.past (record h { stand = ForIndex deadline looked })
        waits deadline looked = record { asked = x.asked; open_ = x.open_; ended = λ event e. absurd (cc e) }

did_books : (c : Cluster) → IsBookedAtWork c → (i : ℕ) (w : Work) → WorkIsBooked c.past w → IsBookedAtWork (did i w c)
unfolding did
did_books c b i (Replies q kind) x = answered_books c b q kind _ _ _ x.0 x.1
did_books c b i (Holds h) x = record { asked_is = b.asked_is; held = each_with (PendingIsBooked c.past) h c.held x b.held; ascends = ascends_with h c.held b.ascends; marks = b.marks; fresh = b.fresh; tray = b.tray }
did_books c b i (Closes number at) x = record {
  asked_is = b.asked_is;
  held = each_kept (PendingIsBooked c.past) number c.held b.held;
  ascends = ascends_without number c.held b.ascends;
  marks = b.marks;
  fresh = each_put (OutIsBooked c.past) (Closed number at) c.fresh x b.fresh;
  tray = b.tray;
}
did_books c b i Applies x = b

pub works_books : (i : ℕ) (c c' : Cluster) → Works i c c' → IsBookedAtWork c → IsBookedAtWork c'
works_books i c c' none b = b
works_books i c c' (work w e more) b = works_books i (did i w c) c' more (did_books c b i w (due_booked c b.held i w e))

-- The mark of a request.
pub asks_books : (c : Cluster) → IsBookedAtWork c → (agent : ℕ) (asked : Asked) (draw : Draw) → IsBookedAtWork (marked (event.Ask agent asked draw) c)
asks_books c b agent asked draw =
    let past' = mark.Asked (suc c.asked) agent asked draw ∷ c.past in
    record {
      asked_is = ap suc b.asked_is;
      held = each_map (PendingIsBooked c.past) (PendingIsBooked past') (λ h x. pending_on c.past past' (λ m z. inr z) (λ e s z. inr z) h (λ z. z) x) c.held b.held;
      ascends = b.ascends;
      marks = (ap suc b.asked_is, b.marks);
      fresh = outs_on c.past past' (λ m z. inr z) (λ e s z. inr z) c.fresh b.fresh;
      tray = outs_on c.past past' (λ m z. inr z) (λ e s z. inr z) c.tray b.tray;
    }

pub just_asked : (c : Cluster) → IsBookedAtWork c → (agent : ℕ) (asked : Asked) (draw : Draw) → IsJustAsked (marked (event.Ask agent asked draw) c) (record { number = suc c.asked; agent = agent; asked = asked; draw = draw })
just_asked c b agent asked draw = record {
  was = inl refl;
  open_ = open_new c.past b.marks (suc c.asked) (let z = b.asked_is in omega arith);
  above = each_map (PendingIsBooked c.past) (λ (h : Pending). h.question.number < suc c.asked) (λ h x. let l = (was_numbered c.past b.marks h.question x.asked).1 in let z = b.asked_is in omega arith) c.held b.held;
  number = refl;
}

-- Making up leaves a restart that was marked last marked.
pub did_restarted : (c : Cluster) (j i : ℕ) (w : Work) → RestartedAt (events_in c.past) i c.past → RestartedAt (events_in (did j w c).past) i (did j w c).past
unfolding did
did_restarted c j i (Replies q kind) x = inr x
did_restarted c j i (Holds h) x = x
did_restarted c j i (Closes number event) x = x
did_restarted c j i Applies x = x

pub works_events : (j : ℕ) (c c' : Cluster) → Works j c c' → (i : ℕ) → RestartedAt (events_in c.past) i c.past → RestartedAt (events_in c'.past) i c'.past
works_events j c c' none i x = x
works_events j c c' (work w e more) i x = works_events j (did j w c) c' more i (did_restarted c j i w x)
