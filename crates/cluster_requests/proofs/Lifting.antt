-- A step of the requests is one of the cluster.
use Rattle.std.proofs.Common.{◌≡◌, inl, inr, ℕ, suc, ◌+◌, ◌<◌, ◌==◌, Bool, true, false, cond, List, [], ◌∷◌, ◌++◌, length, map, Option, Some, None, refl, sym, ◌∙◌, ap, subst, arith}
use Rattle.std.specs.List.{AllByRecursion as Each}
use Rattle.std.proofs.lemmas.Bool.Decides.{nat_tests}
use Rattle.cat_model.specs.declared.reply.Mark.{Mark}
use Rattle.cat_model.specs.declared.reply.Mark.TheVariants as mark
use Rattle.cat_model.specs.declared.request.Asked.{Asked}
use Rattle.cat_model.specs.declared.request.Draw.{Draw}
use Rattle.cat_model.specs.declared.request.Event.TheVariants as event
use Rattle.cluster_rules.specs.Agents.{Agent}
use Rattle.raft_model.specs.World.{World}
use Rattle.raft_model.specs.Log.{Log}
use Rattle.cat_model.specs.declared.request.Event.{Event}
use Rattle.cat_model.specs.declared.reply.Kind.{Kind}
use Rattle.cluster_rules.specs.Replies.{Out, Question, number_of, shown}
use Rattle.cluster_rules.specs.Cluster.{Pending, Server, Stand, Start}
use Rattle.cluster_rules.specs.Due.{answered, with_held}
use Rattle.cluster_rules.specs.Requests.{holding, moved_with}
use Rattle.cluster_rules.specs.Sound.{Ascends, IsAmong}
use Rattle.cluster_rules.specs.Step.{ended, events_in, marked, noted, shelved}
use Rattle.cluster_requests.specs.Requests as own
use Rattle.cluster_requests.specs.Past.{taken_past}
use Rattle.cluster_requests.specs.Requests.{Requests, cluster_of, restood, came_with}
use Rattle.cluster_requests.specs.Taking.{Takes}

number_is : (a b : ℕ) → (a == b) ≡ true → a ≡ b
number_is a b e = grind (arith, nat_tests)

-- a request that waits for something else
other_kept : (b : Bool) (g h : Pending) (stand : Stand) → (b ≡ true → g ≡ h) → cond b (record g { stand = stand }) g ≡ cond b (record h { stand = stand }) g
other_kept true g h stand f = ap (λ (k : Pending). record k { stand = stand }) (f refl)
other_kept false g h stand f = refl

restood_each : (h : Pending) (stand : Stand) (held : List Pending) → Each (λ (g : Pending). g.question.number ≡ h.question.number → g ≡ h) held → map (restood h.question.number stand) held ≡ with_held (record h { stand = stand }) held
restood_each h stand [] p = refl
restood_each h stand (g ∷ held) p =
    ap (λ k. k ∷ map (restood h.question.number stand) held) (other_kept (g.question.number == h.question.number) g h stand (λ e. p.0 (number_is g.question.number h.question.number e)))
    ∙ ap (λ l. cond (g.question.number == h.question.number) (record h { stand = stand }) g ∷ l) (restood_each h stand held p.1)

each_among : {A : Type 0} (P : A → Type 0) (xs : List A) (x : A) → Each P xs → IsAmong x xs → P x
each_among P [] x p m = absurd m
each_among P (y ∷ xs) x p (inl e) = subst P (sym e) p.0
each_among P (y ∷ xs) x p (inr m) = each_among P xs x p.1 m

above : (h : Pending) (held : List Pending) → Each (λ (g : Pending). h.question.number < g.question.number) held → Each (λ (g : Pending). g.question.number ≡ h.question.number → g ≡ h) held
above h [] p = tt
above h (g ∷ held) p = (λ e. absurd (omega (arith, p.0, e)), above h held p.1)

unique : (held : List Pending) → Ascends held → (h : Pending) → IsAmong h held → Each (λ (g : Pending). g.question.number ≡ h.question.number → g ≡ h) held
unique [] a h m = tt
unique (x ∷ held) a h (inl e) = (λ _. sym e, subst (λ (k : Pending). Each (λ (g : Pending). g.question.number ≡ k.question.number → g ≡ k) held) (sym e) (above x held a.0))
unique (x ∷ held) a h (inr m) = (λ e. absurd (omega (arith, each_among (λ (g : Pending). x.question.number < g.question.number) held h a.0 m, e)), unique held a.1 h m)

pub restands_by : (h : Pending) (stand : Stand) (held : List Pending) → Ascends held → IsAmong h held → map (restood h.question.number stand) held ≡ with_held (record h { stand = stand }) held
restands_by h stand held a m = restood_each h stand held (unique held a h m)

taken_one : (out : Option ℕ) (number : ℕ) (past : List Mark) → out ≡ Some number → taken_past out past ≡ mark.Taken number ∷ past
taken_one None number past e = absurd cc
taken_one (Some k) number past e = let same : k ≡ number = cc in ap (λ n. mark.Taken n ∷ past) same

pub takes_by : (w : World) (servers : List Server) (agents : List Agent) (old new : Requests) (out : Out) (number : ℕ) → number_of out ≡ Some number → (t : Takes out old new) → cluster_of w servers agents new ≡ record (cluster_of w servers agents old) { tray = t.before ++ t.after; past = mark.Taken number ∷ old.past }
takes_by w servers agents old new out number e t =
    ap (cluster_of w servers agents) t.is ∙ ap (λ p. record (cluster_of w servers agents old) { tray = t.before ++ t.after; past = p }) (taken_one (number_of out) number old.past e)

taken_none : (out : Option ℕ) (past : List Mark) → out ≡ None → taken_past out past ≡ past
taken_none None past e = refl
taken_none (Some k) past e = absurd cc

pub hands_by : (w : World) (servers : List Server) (agents : List Agent) (old new : Requests) (out : Out) → number_of out ≡ None → (t : Takes out old new) → cluster_of w servers agents new ≡ record (cluster_of w servers agents old) { tray = t.before ++ t.after }
hands_by w servers agents old new out e t =
    ap (cluster_of w servers agents) t.is ∙ ap (λ p. record (cluster_of w servers agents old) { tray = t.before ++ t.after; past = p }) (taken_none (number_of out) old.past e)

pub comes_by : (w : World) (servers : List Server) (agents : List Agent) (r : Requests) (agent : ℕ) (asked : Asked) (draw : Draw) → cluster_of w servers agents (came_with agent asked draw r) ≡ marked (event.Ask agent asked draw) (cluster_of w servers agents r)
comes_by w servers agents r agent asked draw =
    let next : r.asked + 1 ≡ suc r.asked = omega arith in
    ap (λ n. record (cluster_of w servers agents r) { asked = n; past = mark.Asked n agent asked draw ∷ r.past }) next

-- Each other call is a step of the rules' by computation alone.
noted_lifts : (w : World) (servers : List Server) (agents : List Agent) (r : Requests) (made : Event) → cluster_of w servers agents (own.noted made r) ≡ noted made (cluster_of w servers agents r)
noted_lifts w servers agents r made = refl

answered_lifts : (w : World) (servers : List Server) (agents : List Agent) (r : Requests) (q : Question) (kind : Kind) (known : Bool) (contact : ℕ) (log : Log) → cluster_of w servers agents (own.answered_with q.number kind known contact (shown q kind log) r) ≡ answered q kind known contact log (cluster_of w servers agents r)
answered_lifts w servers agents r q kind known contact log = refl

held_lifts : (w : World) (servers : List Server) (agents : List Agent) (r : Requests) (q : Question) (i : ℕ) (stand : Stand) (start : Start) → cluster_of w servers agents (own.holding_with q i stand start r) ≡ holding q i stand start (cluster_of w servers agents r)
held_lifts w servers agents r q i stand start = refl

ended_lifts : (w : World) (servers : List Server) (agents : List Agent) (r : Requests) (i : ℕ) → let c = cluster_of w servers agents r in cluster_of w servers agents (own.ended_all i r) ≡ record c { held = map (ended i (events_in c.past)) c.held }
ended_lifts w servers agents r i = refl

shelved_lifts : (w : World) (servers : List Server) (agents : List Agent) (r : Requests) → cluster_of w servers agents (own.shelved_all r) ≡ shelved (cluster_of w servers agents r)
shelved_lifts w servers agents r = refl

moved_lifts : (failed : Bool) (i : ℕ) (w w' : World) (servers : List Server) (agents : List Agent) (r : Requests) → cluster_of w' servers agents (own.joining (length w.agreed) w'.agreed (own.halted_with failed i r)) ≡ moved_with failed i w' (cluster_of w servers agents r)
moved_lifts failed i w w' servers agents r = refl
