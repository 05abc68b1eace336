-- What a work leaves sound.
use Rattle.std.proofs.Common.{◌≡◌, ◌≢◌, ℕ, suc, ◌<◌, inl, inr, Bool, cond, not, List, [], ◌∷◌, ◌++◌, length, take, refl, sym, ◌∙◌, ap, subst, arith, Option, Some, None}
use Rattle.std.specs.Prelude.{◌==◌}
use Rattle.std.specs.List.{AllByRecursion as Each}
use Rattle.std.proofs.lemmas.List.{take_all, take-append-le, length-append}
use Rattle.cat_model.specs.declared.command.Entry.{Entry}
use Rattle.cat_model.specs.declared.reply.Kind.{Kind}
use Rattle.cat_model.specs.declared.reply.Mark.{Mark}
use Rattle.cat_model.specs.declared.reply.Mark.TheVariants as mark
use Rattle.raft_model.specs.Log.{Log, entry_at}
use Rattle.raft_model.specs.Node.{Node, set_server}
use Rattle.raft_model.specs.World.{World, IsReached}
use Rattle.raft_model.proofs.Tests.{at_bool, eq_tells}
use Rattle.raft_model.proofs.Theorems.{agrees}
use Rattle.cluster_rules.specs.Replies.{Question, came, reply_of, Out, Replied, Closed, Synced, number_of}
use Rattle.cluster_rules.specs.Agents.{Agent}
use Rattle.cluster_rules.specs.Offices.{Office}
use Rattle.cluster_rules.specs.Proposals.{synced}
use Rattle.cluster_rules.specs.Lasting.{Lasting}
use Rattle.cluster_rules.specs.Cluster.{Server, Pending, Cluster, no_server, node_of, server_of, applied_of, clock_of, with_office}
use Rattle.cluster_rules.specs.Due.{Work, Replies, Holds, Closes, Applies, without, with_held, put_out, is_before, answered, applies_entry, applies, did}
use Rattle.cluster_rules.specs.Sound.{IsAmong, IsOpen, IsFreshKind, RestsOn, StartIsSound, PendingIsSound, OutIsSound, Ascends, ServerIsSound, IsSoundAtWork}
use Rattle.cluster_rules.proofs.Tools.{eq_tells_not, at_item, length_set_server, there_or_none, each_append, each_map}
use Rattle.cluster_rules.proofs.Entries.{agree_entry, take_next}
use Rattle.cluster_rules.proofs.Grows.{lasting_grows, reply_same}
use Rattle.cluster_rules.proofs.Later.{Same, pending_later, start_later, out_later, same_past, later_nothing, later_mark}

pub each_put : (P : Out → Type 0) (o : Out) (os : List Out) → P o → Each P os → Each P (put_out o os)
each_put P o [] x xs = (x, xs)
each_put P o (p ∷ os) x xs = at_bool (λ b. Each P (cond b (o ∷ p ∷ os) (p ∷ put_out o os))) (is_before (number_of o) (number_of p)) (λ _. (x, xs)) (λ _. (xs.0, each_put P o os x xs.1))

-- the held requests of other numbers
pub each_without : (P Q : Pending → Type 0) (number : ℕ) (hs : List Pending) → ((h : Pending) → number ≢ h.question.number → P h → Q h) → Each P hs → Each Q (without number hs)
each_without P Q number [] f x = x
each_without P Q number (h ∷ hs) f x =
    at_bool (λ b. (h.question.number == number) ≡ b → Each Q (cond (not b) (h ∷ without number hs) (without number hs))) (h.question.number == number)
    (λ _ e. each_without P Q number hs f x.1)
    (λ _ e. (f h (λ z. eq_tells_not h.question.number number e (sym z)) x.0, each_without P Q number hs f x.1)) refl

pub each_kept : (P : Pending → Type 0) (number : ℕ) (hs : List Pending) → Each P hs → Each P (without number hs)
each_kept P number hs x = each_without P P number hs (λ h d y. y) x

pub each_with : (P : Pending → Type 0) (new : Pending) (hs : List Pending) → P new → Each P hs → Each P (with_held new hs)
each_with P new [] n x = x
each_with P new (h ∷ hs) n x = (at_bool (λ b. P (cond b new h)) (h.question.number == new.question.number) (λ _. n) (λ _. x.0), each_with P new hs n x.1)

pub ascends_without : (number : ℕ) (hs : List Pending) → Ascends hs → Ascends (without number hs)
ascends_without number [] a = a
ascends_without number (h ∷ hs) a =
    at_bool (λ b. Ascends (cond (not b) (h ∷ without number hs) (without number hs))) (h.question.number == number)
    (λ _. ascends_without number hs a.1)
    (λ _. (each_kept (λ (g : Pending). h.question.number < g.question.number) number hs a.0, ascends_without number hs a.1))

-- what is replaced keeps its number
pub with_number : (new h : Pending) → (cond (h.question.number == new.question.number) new h).question.number ≡ h.question.number
with_number new h = at_bool (λ b. (h.question.number == new.question.number) ≡ b → (cond b new h).question.number ≡ h.question.number) (h.question.number == new.question.number)
    (λ _ e. sym (eq_tells h.question.number new.question.number e)) (λ _ e. refl) refl

above_with : (new : Pending) (n : ℕ) (hs : List Pending) → Each (λ (g : Pending). n < g.question.number) hs → Each (λ (g : Pending). n < g.question.number) (with_held new hs)
above_with new n [] x = x
above_with new n (h ∷ hs) x = (let k = x.0 in let e = with_number new h in omega arith, above_with new n hs x.1)

pub ascends_with : (new : Pending) (hs : List Pending) → Ascends hs → Ascends (with_held new hs)
ascends_with new [] a = a
ascends_with new (h ∷ hs) a = (
  subst (λ z. Each (λ (g : Pending). z < g.question.number) (with_held new hs)) (sym (with_number new h)) (above_with new h.question.number hs a.0),
  ascends_with new hs a.1,
)

-- one more, behind all others
pub ascends_more : (h : Pending) (hs : List Pending) → Each (λ (g : Pending). g.question.number < h.question.number) hs → Ascends hs → Ascends (hs ++ h ∷ [])
ascends_more h [] d a = (tt, tt)
ascends_more h (x ∷ hs) d a = (each_append (λ (g : Pending). x.question.number < g.question.number) hs (h ∷ []) a.0 (d.0, tt), ascends_more h hs d.1 a.1)

-- an answer is right
pub record IsRight (c : Cluster) (a : Log) (q : Question) (kind : Kind) : Type 0 where
  pub asked : IsAmong (came q) c.past
  pub open_ : IsOpen q.number c.past
  pub lasts : Lasting q kind a
  pub fresh : IsFreshKind kind q.number c.past c.starts
  pub rests : RestsOn c.world c.starts q kind

same_answered : (n number : ℕ) (kind : Kind) (known : Bool) (contact : ℕ) (past : List Mark) → number ≢ n → Same n past (mark.Answered number kind known contact ∷ past)
same_answered n number kind known contact past d = record { open_ = λ x. (d, x); before = refl }

pub answered_sound : (c : Cluster) → IsSoundAtWork c → (q : Question) (kind : Kind) (known : Bool) (contact : ℕ) (a : Log) → take (length a) c.world.agreed ≡ a → IsRight c a q kind → IsSoundAtWork (answered q kind known contact a c)
answered_sound c s q kind known contact a front r =
    let past' = mark.Answered q.number kind known contact ∷ c.past in
    let l = later_mark c.world (mark.Answered q.number kind known contact) c.past c.starts in
    record {
      world = s.world;
      servers = s.servers;
      starts = each_map (StartIsSound c.world c.past) (StartIsSound c.world past') (λ x y. start_later c.world c.world c.past past' c.starts c.starts l (λ q' m. refl) x y) c.starts s.starts;
      held = each_without (PendingIsSound c.servers c.past c.starts) (PendingIsSound c.servers past' c.starts) q.number c.held
          (λ h d x. pending_later c.world c.world c.past past' c.starts c.starts l c.servers c.servers h (same_answered h.question.number q.number kind known contact c.past d) (take_all _ _ (omega arith)) x) s.held;
      ascends = ascends_without q.number c.held s.ascends;
      marks = (record { question = q; asked = r.asked; number_is = refl; once = r.open_; lasts = lasting_grows a c.world.agreed front q kind r.lasts; fresh = r.fresh; rests = r.rests }, s.marks);
      fresh = each_put (OutIsSound c.world past') (Replied (reply_of q kind known contact a)) c.fresh
          (record { question = q; asked = inr r.asked; marked = inl refl; is = sym (reply_same a c.world.agreed front q kind known contact r.lasts); lasts = lasting_grows a c.world.agreed front q kind r.lasts })
          (each_map (OutIsSound c.world c.past) (OutIsSound c.world past') (λ o x. out_later c.world c.world c.past past' c.starts c.starts l o x) c.fresh s.fresh);
      tray = each_map (OutIsSound c.world c.past) (OutIsSound c.world past') (λ o x. out_later c.world c.world c.past past' c.starts c.starts l o x) c.tray s.tray;
      counts = record { asked_is = s.counts.asked_is; proposed = s.counts.proposed; entries = s.counts.entries };
    }

pub holds_sound : (c : Cluster) → IsSoundAtWork c → (h : Pending) → PendingIsSound c.servers c.past c.starts h → IsSoundAtWork (record c { held = with_held h c.held })
holds_sound c s h x = record {
  world = s.world;
  servers = s.servers;
  starts = s.starts;
  held = each_with (PendingIsSound c.servers c.past c.starts) h c.held x s.held;
  ascends = ascends_with h c.held s.ascends;
  marks = s.marks;
  fresh = s.fresh;
  tray = s.tray;
  counts = s.counts;
}

pub closes_sound : (c : Cluster) → IsSoundAtWork c → (number event : ℕ) → OutIsSound c.world c.past (Closed number event) → IsSoundAtWork (record c { held = without number c.held; fresh = put_out (Closed number event) c.fresh })
closes_sound c s number event x = record {
  world = s.world;
  servers = s.servers;
  starts = s.starts;
  held = each_kept (PendingIsSound c.servers c.past c.starts) number c.held s.held;
  ascends = ascends_without number c.held s.ascends;
  marks = s.marks;
  fresh = each_put (OutIsSound c.world c.past) (Closed number event) c.fresh x s.fresh;
  tray = s.tray;
  counts = s.counts;
}

-- what a server has committed is agreed
pub commit_agrees : (w : World) → IsReached w → (i : ℕ) → take (node_of w i).commit (node_of w i).log ≡ take (node_of w i).commit w.agreed
commit_agrees w r i = elim (there_or_none w i) [
  | inl e ↦ subst (λ (n : Node). take n.commit n.log ≡ take n.commit w.agreed) (sym e) refl
  | inr at ↦ (agrees w r i (node_of w i) at).1
]

-- one more position
record Next (agreed : Log) (commit : ℕ) (s s' : Server) : Type 0 where
  is : ServerIsSound agreed commit s'
  goes : take (length s.applied) s'.applied ≡ s.applied

next_sound : (agreed log : Log) (commit clock : ℕ) (s : Server) → take commit log ≡ take commit agreed → length s.applied < commit → ServerIsSound agreed commit s →
    (o : Option Entry) → entry_at (suc (length s.applied)) log ≡ o → Next agreed commit s (applies_entry clock s o)
next_sound agreed log commit clock s a l x None e = record { is = x; goes = take_all (length s.applied) s.applied (omega arith) }
next_sound agreed log commit clock s a l x (Some n) e =
    let there : entry_at (suc (length s.applied)) agreed ≡ Some n = sym (agree_entry (suc (length s.applied)) commit log agreed (omega arith) a) ∙ e in
    let k = length-append s.applied (n ∷ []) in
    let front : s.applied ++ n ∷ [] ≡ take (suc (length s.applied)) agreed = ap (λ z. z ++ n ∷ []) x.front ∙ sym (take_next (length s.applied) agreed n there) in
    let long : suc (length s.applied) ≡ length (s.applied ++ n ∷ []) = omega (arith, k) in
    record {
      is = record {
        front = front ∙ ap (λ z. take z agreed) long;
        within = omega (arith, k);
        clocks = let c = length-append s.clocks (clock ∷ []) in let e = x.clocks in omega (arith, k, c);
      };
      goes = take-append-le (length s.applied) s.applied (n ∷ []) (omega arith) ∙ take_all (length s.applied) s.applied (omega arith);
    }

pub applies_sound : (c : Cluster) → IsSoundAtWork c → (i : ℕ) → length (applied_of c i) < (node_of c.world i).commit → IsSoundAtWork (applies i c)
applies_sound c s i l =
    let o = entry_at (suc (length (applied_of c i))) (node_of c.world i).log in
    let s' : Server = applies_entry (clock_of c.world i) (server_of c.servers i) o in
    let n = next_sound c.world.agreed (node_of c.world i).log (node_of c.world i).commit (clock_of c.world i) (server_of c.servers i) (commit_agrees c.world s.world i) l (s.servers.each i) o refl in
    record {
      world = s.world;
      servers = record {
        count = length_set_server c.servers i s' ∙ s.servers.count;
        each = λ j. at_item (λ (x : Server). ServerIsSound c.world.agreed (node_of c.world j).commit x) no_server c.servers i s' j
            (λ e. subst (λ z. ServerIsSound c.world.agreed (node_of c.world z).commit s') (sym e) n.is) (s.servers.each j);
      };
      starts = s.starts;
      held = each_map (PendingIsSound c.servers c.past c.starts) (PendingIsSound (set_server c.servers i s') c.past c.starts)
          (λ h x. pending_later c.world c.world c.past c.past c.starts c.starts (later_nothing c.world c.past c.starts) c.servers (set_server c.servers i s') h (same_past h.question.number c.past)
          (at_item (λ (z : Server). take (length (server_of c.servers h.server).applied) z.applied ≡ (server_of c.servers h.server).applied) no_server c.servers i s' h.server
          (λ e. subst (λ z. take (length (server_of c.servers z).applied) s'.applied ≡ (server_of c.servers z).applied) (sym e) n.goes)
          (take_all _ _ (omega arith))) x) c.held s.held;
      ascends = s.ascends;
      marks = s.marks;
      fresh = s.fresh;
      tray = s.tray;
      counts = s.counts;
    }

-- What is in no part of this: a server's time in office, the agents, a sync's out.
pub office_sound : (c : Cluster) → IsSoundAtWork c → (i : ℕ) (o : Office) → IsSoundAtWork (with_office i o c)
office_sound c s i o =
    let s' : Server = record (server_of c.servers i) { office = o } in
    record {
      world = s.world;
      servers = record {
        count = length_set_server c.servers i s' ∙ s.servers.count;
        each = λ j. at_item (λ (x : Server). ServerIsSound c.world.agreed (node_of c.world j).commit x) no_server c.servers i s' j
            (λ e. subst (λ z. ServerIsSound c.world.agreed (node_of c.world z).commit s') (sym e) (let x = s.servers.each i in record { front = x.front; within = x.within; clocks = x.clocks })) (s.servers.each j);
      };
      starts = s.starts;
      held = each_map (PendingIsSound c.servers c.past c.starts) (PendingIsSound (set_server c.servers i s') c.past c.starts)
          (λ h x. pending_later c.world c.world c.past c.past c.starts c.starts (later_nothing c.world c.past c.starts) c.servers (set_server c.servers i s') h (same_past h.question.number c.past)
          (at_item (λ (z : Server). take (length (server_of c.servers h.server).applied) z.applied ≡ (server_of c.servers h.server).applied) no_server c.servers i s' h.server
          (λ e. subst (λ z. take (length (server_of c.servers z).applied) s'.applied ≡ (server_of c.servers z).applied) (sym e) (take_all _ _ (omega arith)))
          (take_all _ _ (omega arith))) x) c.held s.held;
      ascends = s.ascends;
      marks = s.marks;
      fresh = s.fresh;
      tray = s.tray;
      counts = s.counts;
    }

pub agents_sound : (c : Cluster) → IsSoundAtWork c → (agents : List Agent) → IsSoundAtWork (record c { agents = agents })
agents_sound c s agents = record { world = s.world; servers = s.servers; starts = s.starts; held = s.held; ascends = s.ascends; marks = s.marks; fresh = s.fresh; tray = s.tray; counts = s.counts }

pub synced_sound : (c : Cluster) → IsSoundAtWork c → (a : ℕ) (count : Option ℕ) → IsSoundAtWork (synced a count c)
synced_sound c s a count = record { world = s.world; servers = s.servers; starts = s.starts; held = s.held; ascends = s.ascends; marks = s.marks; fresh = each_put (OutIsSound c.world c.past) (Synced a count) c.fresh tt s.fresh; tray = s.tray; counts = s.counts }

-- what a work needs to be right
abbrev pub WorkIsRight : Cluster → ℕ → Work → Type 0
WorkIsRight c i (Replies q kind) = IsRight c (applied_of c i) q kind
WorkIsRight c i (Holds h) = PendingIsSound c.servers c.past c.starts h
WorkIsRight c i (Closes number event) = OutIsSound c.world c.past (Closed number event)
WorkIsRight c i Applies = length (applied_of c i) < (node_of c.world i).commit

pub did_sound : (c : Cluster) → IsSoundAtWork c → (i : ℕ) (w : Work) → WorkIsRight c i w → IsSoundAtWork (did i w c)
unfolding did
did_sound c s i (Replies q kind) r = answered_sound c s q kind _ _ (applied_of c i) (sym (s.servers.each i).front) r
did_sound c s i (Holds h) r = holds_sound c s h r
did_sound c s i (Closes number event) r = closes_sound c s number event r
did_sound c s i Applies r = applies_sound c s i r
