-- A restart: the server has applied nothing, and what it holds is to be closed.
use Rattle.std.proofs.Common.{◌≡◌, inl, ℕ, ◌<◌, ◌≤◌, Bool, true, false, cond, List, [], ◌∷◌, Ok, drop, length, map, refl, sym, ◌∙◌, ap, subst, arith}
use Rattle.std.specs.Prelude.{◌==◌, Contains}
use Rattle.std.specs.List.{AllByRecursion as Each}
use Rattle.cat_model.specs.declared.reply.Mark.{Mark}
use Rattle.cat_model.specs.declared.request.Event.TheVariants as event
use Rattle.raft_model.proofs.Tests.{at_bool, eq_tells}
use Rattle.raft_model.specs.Log.{Log}
use Rattle.raft_model.specs.Node.{set_server}
use Rattle.raft_model.specs.World.{World, WorldStep}
use Rattle.raft_model.specs.World as world
use Rattle.cluster_rules.specs.Cluster.{Cluster, Ended, Pending, Server, no_server, node_of, server_of}
use Rattle.cluster_rules.specs.Requests.{halts_past}
use Rattle.cluster_rules.specs.Sound.{Ascends}
use Rattle.cluster_rules.specs.Step.{begun_anew, ended, events_in, restarts}
use Rattle.cluster_rules.proofs.Tools.{eq_tells_not, item_other, length_set_server}
use Rattle.cluster_requests.proofs.Numbering.{entries_uncounted}
use Rattle.cluster_requests.specs.Held.{NumbersAll}
use Rattle.cluster_requests.specs.Requests.{Requests, cluster_of as whole_of, ended_all}
use Rattle.cluster_works.specs.declared.moves.Seen.{Seen}
use Rattle.cluster_works.specs.Acting.{Acted, AreAwake}
use Rattle.cluster_works.specs.Moving.{IsMarked, seen_of}
use Rattle.cluster_works.specs.Standing as standing
use Rattle.cluster_works.proofs.Carried.{held_same, restarting_many}
use Rattle.cluster_works.proofs.Marking.{cluster_marked, stands_marked}
use Rattle.cluster_rules.specs.Agents.{Agent}
use Rattle.cluster_works.specs.Watching.{Watching, MayBeDue}

module _ (gs : List Agent) (wt : Watching) where
  -- the cluster of these parts, with these agents
  abbrev cluster_of : World → List Server → Requests → Cluster
  cluster_of w servers r = whole_of w servers gs r

  abbrev Stands : World → List Server → Requests → Type 0
  Stands w servers r = standing.Stands wt w servers r

  abbrev IsHeld : List Server → ℕ → Pending → Type 0
  IsHeld servers asked h = standing.IsHeld wt servers asked h

  number_kept : (i made : ℕ) (h : Pending) → (ended i made h).question.number ≡ h.question.number
  number_kept i made h = at_bool (λ b. (cond b (record h { stand = Ended made }) h).question.number ≡ h.question.number) (h.server == i) (λ _. refl) (λ _. refl)

  above_kept : (i made n m : ℕ) (held : List Pending) → m ≡ n → Each (λ (g : Pending). n < g.question.number) held → Each (λ (g : Pending). m < g.question.number) (map (ended i made) held)
  above_kept i made n m [] e all = tt
  above_kept i made n m (h ∷ held) e all = (omega (arith, e, all.0, number_kept i made h), above_kept i made n m held e all.1)

  ascends_kept : (i made : ℕ) (held : List Pending) → Ascends held → Ascends (map (ended i made) held)
  ascends_kept i made [] a = tt
  ascends_kept i made (h ∷ held) a = (above_kept i made h.question.number (ended i made h).question.number held (number_kept i made h) a.0, ascends_kept i made held a.1)

  is_held : (servers : List Server) (i made asked : ℕ) (h : Pending) → (h.server ≡ i → MayBeDue h.question.number wt) → IsHeld servers asked h → IsHeld (set_server servers i no_server) asked (ended i made h)
  is_held servers i made asked h awake s = at_bool (λ b. IsHeld (set_server servers i no_server) asked (cond b (record h { stand = Ended made }) h)) (h.server == i)
      (λ e. record { numbered = s.numbered; taken = s.taken; awaited = tt; watched = inl (awake (eq_tells h.server i e)) })
      (λ e. held_same wt servers (set_server servers i no_server) asked h (ap (λ (x : Server). x.applied) (item_other no_server servers i h.server no_server (eq_tells_not h.server i e))) s)

  held_kept : (servers : List Server) (i made asked : ℕ) (held : List Pending) → AreAwake wt i held → Each (IsHeld servers asked) held → Each (IsHeld (set_server servers i no_server) asked) (map (ended i made) held)
  held_kept servers i made asked [] awake all = tt
  held_kept servers i made asked (h ∷ held) awake all = (is_held servers i made asked h awake.0 all.0, held_kept servers i made asked held awake.1 all.1)

  -- what server i holds is to be closed
  abbrev ended_with : ℕ → ℕ → Requests → Requests
  ended_with i made r = record r { held = map (ended i made) r.held }

  -- the parts of a server that begins again stand
  stands_ended : (i made : ℕ) (w : World) (servers : List Server) (r : Requests) → AreAwake wt i r.held → Stands w servers r → Stands w (set_server servers i no_server) (ended_with i made r)
  stands_ended i made w servers r awake s = record {
    some = omega (arith, s.some, length_set_server servers i no_server);
    count = length_set_server servers i no_server ∙ s.count;
    watching = (s.watching.0 ∙ sym (length_set_server servers i no_server), s.watching.1);
    proposed = s.proposed;
    ascends = ascends_kept i made r.held s.ascends;
    held = held_kept servers i made r.asked r.held awake s.held;
  }

  ended_marked : (failed : Bool) (i made from : ℕ) (agreed : Log) (r r' : Requests) → IsMarked failed i from agreed r r' → IsMarked failed i from agreed (ended_with i made r) (ended_with i made r')
  ended_marked failed i made from agreed r r' m = ap (ended_with i made) m

  restart_stands : (failed : Bool) (i : ℕ) (w w' : World) (servers : List Server) (r r' : Requests) → AreAwake wt i r.held → Stands w servers r → WorldStep w (world.Restarts i) w'
      → IsMarked failed i (length w.agreed) w'.agreed r r' → Stands w' (set_server servers i no_server) (ended_all i r')
  restart_stands failed i w w' servers r r' awake s step m =
      let made = events_in r'.past in
      stands_marked gs wt failed i w w' (set_server servers i no_server) (ended_with i made r) (ended_with i made r') (stands_ended i made w servers r awake s)
      (restarting_many w i w' step) (ap (λ (v : World). v.greatest) step.4) (ended_marked failed i made (length w.agreed) w'.agreed r r' m)

  pub restart_acts : (i : ℕ) (w w' : World) (servers servers' : List Server) (r r₁ r' : Requests) (before now : Seen) (agreed : Log) → AreAwake wt i r.held → Stands w servers r → servers' ≡ set_server servers i no_server → WorldStep w (world.Restarts i) w'
      → before ≡ seen_of w i → now ≡ seen_of w' i → agreed ≡ w'.agreed → IsMarked now.halted i before.agreed agreed r r₁ → r' ≡ ended_all i r₁ → Acted gs wt i (event.Restart i) (cluster_of w servers r) w' servers' r' (Ok tt)
  restart_acts i w w' servers servers' r r₁ r' before now agreed awake s same step was seen all m e =
      let failed = (node_of w' i).halted in
      let marks : IsMarked failed i (length w.agreed) w'.agreed r r₁ = subst (λ (z : Seen). IsMarked failed i z.agreed w'.agreed r r₁) was (subst (λ (z : Seen). IsMarked z.halted i before.agreed w'.agreed r r₁) seen (subst (λ (l : Log). IsMarked now.halted i before.agreed l r r₁) all m)) in
      let moves = cluster_marked gs wt failed i w w' servers r r₁ marks in
      subst (λ (q : Requests). Acted gs wt i (event.Restart i) (cluster_of w servers r) w' servers' q (Ok tt)) (sym e)
      (subst (λ (l : List Server). Acted gs wt i (event.Restart i) (cluster_of w servers r) w' l (ended_all i r₁) (Ok tt)) (sym same)
      (record { stands = restart_stands failed i w w' servers r r₁ awake s step marks; whole = (restarts w' refl refl step (ap (begun_anew i) moves), tt); cut = tt }))

-- a halt is no event
halt_uncounted : (failed : Bool) (i : ℕ) (past : List Mark) → events_in (halts_past i failed past) ≡ events_in past
halt_uncounted true i past = refl
halt_uncounted false i past = refl

-- marks of a server count no event
pub still_counted : (failed : Bool) (i from event : ℕ) (agreed : Log) (r r' : Requests) → event ≡ events_in r.past → IsMarked failed i from agreed r r' → event ≡ events_in r'.past
still_counted failed i from event agreed r r' is m =
    is ∙ sym (ap (λ (q : Requests). events_in q.past) m ∙ entries_uncounted (drop from agreed) (halts_past i failed r.past) ∙ halt_uncounted failed i r.past)

module _ (wt : Watching) where
  -- marks of a server leave what is held and asked as it is
  pub still_awake : (failed : Bool) (i from : ℕ) (agreed : Log) (r r' : Requests) → AreAwake wt i r.held → IsMarked failed i from agreed r r' → AreAwake wt i r'.held
  still_awake failed i from agreed r r' awake m = subst (λ (q : Requests). AreAwake wt i q.held) (sym m) awake

  -- held requests have numbers that were given
  abbrev AreGiven : ℕ → List Pending → Type 0
  AreGiven asked held = Each (λ (h : Pending). h.question.number ≤ asked) held

  are_given : (servers : List Server) (asked : ℕ) (held : List Pending) → Each (standing.IsHeld wt servers asked) held → AreGiven asked held
  are_given servers asked [] all = tt
  are_given servers asked (h ∷ held) all = (all.0.numbered, are_given servers asked held all.1)

  pub still_numbered : (failed : Bool) (i from : ℕ) (agreed : Log) (w : World) (servers : List Server) (r r' : Requests) → standing.Stands wt w servers r → IsMarked failed i from agreed r r' → AreGiven r'.asked r'.held
  still_numbered failed i from agreed w servers r r' s m = subst (λ (q : Requests). AreGiven q.asked q.held) (sym m) (are_given servers r.asked r.held s.held)

  -- where the numbers of what is awake tell all of which something may be due
  abbrev Covers : ℕ → List ℕ → Type 0
  Covers asked numbers = (n : ℕ) → n ≤ asked → MayBeDue n wt → Contains numbers n

  all_of : (i asked : ℕ) (numbers : List ℕ) (held : List Pending) → Covers asked numbers → AreGiven asked held → AreAwake wt i held → NumbersAll i numbers held
  all_of i asked numbers [] covers given awake = tt
  all_of i asked numbers (h ∷ held) covers given awake = ((λ own. covers h.question.number given.0 (awake.0 own)), all_of i asked numbers held covers given.1 awake.1)

  pub numbers_all : (i asked : ℕ) (r : Requests) (numbers : List ℕ) → asked ≡ r.asked → numbers ≡ wt.watch.awake → Covers asked wt.watch.awake → AreGiven r.asked r.held → AreAwake wt i r.held → NumbersAll i numbers r.held
  numbers_all i asked r numbers count is covers given awake =
      subst (λ l. NumbersAll i l r.held) (sym is) (all_of i r.asked wt.watch.awake r.held (λ n low due. covers n (omega (arith, low, count)) due) given awake)
