-- What proposals and probes make of a world's parts, and what they show.
use Rattle.std.proofs.Common.{◌≡◌, ◌≢◌, ℕ, zero, suc, ◌+◌, ◌<◌, ◌≤◌, cond, true, false, inl, inr, min, max, length, get_or, List, [], ◌∷◌, ◌++◌, Some, Ok, Err, refl, sym, ap, ◌∙◌, subst, arith, add-one}
use Rattle.std.specs.Prelude.{◌==◌}
use Rattle.std.proofs.lemmas.List.{get_or_default, get_or-set_same, length-set, length_push}
use Rattle.cat_model.specs.declared.command.Command.{Command}
use Rattle.cat_model.specs.declared.command.Entry.{Entry}
use Rattle.cat_model.specs.declared.reply.Role.{Role}
use Rattle.cat_model.specs.declared.reply.Role.TheVariants.{Candidate, Follower, Leader}
use Rattle.raft_model.specs.declared.message.Place.{Place}
use Rattle.raft_model.specs.declared.message.Round.{Round}
use Rattle.raft_model.specs.declared.message.Sent.{Sent}
use Rattle.raft_model.specs.Facts.{ShowsAgreed, next_round}
use Rattle.raft_model.specs.Log.{Log, entry_at}
use Rattle.raft_model.specs.Node.{Done, Node, Store, last, quiet}
use Rattle.raft_model.specs.Rules.{Input, Probe, Propose, append_all, appended, does, done, has_room, probes, proposal, proposes}
use Rattle.raft_model.specs.Step.{LogFails, LogStored, NodeStep, Outcome, VoteSaved, Works, halts}
use Rattle.raft_model.specs.World.{World, Acts, IsNew, IsReached, IsServer, Probes, Proposes, raised}
use Rattle.raft_model.specs.World as world
use Rattle.raft_model.proofs.Servers.{running_done}
use Rattle.raft_model.proofs.Tests.{at_bool}
use Rattle.raft_model.proofs.Theorems.{placed, shows}
use Rattle.raft_node.specs.declared.fault.ProposeFault.{ProposeFault}
use Rattle.raft_node.specs.declared.fault.ProposeFault.TheVariants.{NotLeader, Halted, Full, Memory}
use Rattle.raft_node.specs.Steps.{MayPropose}
use Rattle.raft_node.specs.Steps as node
use Rattle.raft_world.specs.Agreeing.{count_of}
use Rattle.raft_world.specs.Steps.{Begun, IsNumber, IsProposed, IsRefused, KeepsAgreement, Places, Shows, counted, raised_to}
use Rattle.raft_world.specs.Steps as steps
use Rattle.raft_world.proofs.Calling.{by_move, by_same, call_same, call_works}
use Rattle.raft_world.proofs.Eventful.{server}
use Rattle.raft_world.proofs.Stepped.{Is, Parts, acts, still, step_is, unchanged, with_node, with_step, world_of}

-- servers of one number are one
pub same_server : (w : World) (s : ℕ) (n m : Node) → IsServer w s n → IsServer w s m → n ≡ m
same_server w zero n m a b = absurd a
same_server w (suc i) n m a b = sym a.1 ∙ get_or_default w.nodes i n m a.0 ∙ b.1

-- items at one place of a list are one
pub one_item : (nodes : List Node) (at : ℕ) (n m : Node) → at < length nodes → n ≡ get_or nodes at n → m ≡ get_or nodes at m → n ≡ m
one_item nodes at n m l a b = a ∙ get_or_default nodes at n m l ∙ sym b

probe_is : (n : Node) → n.role ≡ Leader → does n Probe ≡ append_all (record n { round = n.round + 1 })
unfolding does probes
probe_is n e = ap (probes n) e

pub begun_round : (n new : Node) (sent : List Sent) → n.halted ≡ false → n.role ≡ Leader → NodeStep Works n Probe new sent → record { term = new.term; number = new.round; commit = new.commit } ≡ next_round n
begun_round n new sent runs leads (between, v, l, is, out) =
    let d : (done n Probe).node ≡ record n { round = n.round + 1 } = ap (λ (z : Done). z.node) (running_done n Probe runs ∙ probe_is n leads) in
    λ i. record {
      term = (ap (λ (z : Node). z.term) is ∙ ap (λ (z : Node). z.term) d) i;
      number = (ap (λ (z : Node). z.round) is ∙ ap (λ (z : Node). z.round) d ∙ add-one n.round) i;
      commit = (ap (λ (z : Node). z.commit) is ∙ ap (λ (z : Node). z.commit) d) i;
    }

pub begins : (w : World) (s : ℕ) (w' : World) (old new : Node) (round : Round) → (a : Acts w s Probe w') → a.outcome ≡ Works → a.old ≡ old → old.halted ≡ false → old.role ≡ Leader → round ≡ next_round old → Begun w s w' round
begins w s w' old new round a works same runs leads is =
    (a, works, (ap (λ (n : Node). n.halted) same ∙ runs, ap (λ (n : Node). n.role) same ∙ leads), is ∙ ap next_round (sym same))

pub shows_all : (w : World) (s : ℕ) (old : Node) (round : Round) → IsServer w s old → round ≡ next_round old → Shows w s round
shows_all w s old round at is = λ r n there ready. subst (ShowsAgreed w) (ap next_round (same_server w s n old there at) ∙ sym is) (shows w r s n there ready)

entry_pushed : (log : Log) (e : Entry) → entry_at (suc (length log)) (log ++ e ∷ []) ≡ Some e
entry_pushed [] e = refl
entry_pushed (x ∷ xs) e = entry_pushed xs e

abbrev Pushed : Node → Entry → Node → Type 0
Pushed n e m = (m.log ≡ n.log ++ e ∷ []) × (m.halted ≡ n.halted) × (m.term ≡ n.term)

appended_is : (n : Node) (e : Entry) → Pushed n e (appended n e)
appended_is n e = at_bool (λ b. Pushed n e (cond b (record n { log = n.log ++ e ∷ []; commit = length (n.log ++ e ∷ []) }) (record n { log = n.log ++ e ∷ [] }))) (n.servers == 1) (λ _. (refl, refl, refl)) (λ _. (refl, refl, refl))

propose_is : (n : Node) (number : ℕ) (command : Command) → n.role ≡ Leader → does n (Propose number command) ≡ cond (has_room n number command) (append_all (appended n (proposal n number command))) (quiet n)
unfolding does proposes
propose_is n number command e = ap (λ r. proposes n r number command) e

pub pushed : (n new : Node) (number : ℕ) (command : Command) (sent : List Sent) → MayPropose n number command → NodeStep Works n (Propose number command) new sent → Pushed n (proposal n number command) new
pushed n new number command sent may (between, v, l, is, out) =
    let d : (done n (Propose number command)).node ≡ appended n (proposal n number command) =
    ap (λ (z : Done). z.node) (running_done n (Propose number command) may.0 ∙ propose_is n number command may.1 ∙ ap (λ b. cond b (append_all (appended n (proposal n number command))) (quiet n)) may.2) in
    let a = appended_is n (proposal n number command) in (
      ap (λ (z : Node). z.log) (is ∙ ap (λ (z : Node). record z { store = new.store }) d) ∙ a.0,
      ap (λ (z : Node). z.halted) (is ∙ ap (λ (z : Node). record z { store = new.store }) d) ∙ a.1,
      ap (λ (z : Node). z.term) (is ∙ ap (λ (z : Node). record z { store = new.store }) d) ∙ a.2,
    )

-- a step that does nothing
quiet_step : (n : Node) (input : Input) → done n input ≡ quiet n → NodeStep Works n input n []
quiet_step n input e =
    let Does : Done → Type 0 = λ d. (between : Store) × VoteSaved n d.node n.store between × LogStored n d.node between n.store × (n ≡ record d.node { store = n.store }) × ([] ≡ d.sent) in
    subst Does (sym e) (n.store, inl ((refl, refl), refl), inl (refl, refl), refl, refl)

halted_quiet : (n : Node) (input : Input) → n.halted ≡ true → done n input ≡ quiet n
unfolding done
halted_quiet n input e = ap (λ b. cond b (quiet n) (does n input)) e

not_led : (n : Node) (r : Role) (number : ℕ) (command : Command) → r ≢ Leader → proposes n r number command ≡ quiet n
unfolding proposes
not_led n Leader number command ne = absurd (ne refl)
not_led n Follower number command ne = refl
not_led n Candidate number command ne = refl

not_led_quiet : (n : Node) (number : ℕ) (command : Command) → n.role ≢ Leader → does n (Propose number command) ≡ quiet n
unfolding does
not_led_quiet n number command ne = not_led n n.role number command ne

module _ (p : Parts) (is : Is p) (w : World) (view : world_of p ≡ w) (at s : ℕ) (place : at + 1 ≡ s) (number : IsNumber s w) (old new : Node) (here : old ≡ get_or p.nodes at old) where
  size : at < length p.nodes
  size = omega (arith, place, number.1, ap (λ (v : World). length v.nodes) view)

  named : suc at ≡ s
  named = sym (add-one at) ∙ place

  abbrev counts : ℕ → Parts
  counts greatest = record (with_node p at new) { greatest = greatest }

  -- a step that commits nothing new and sends nothing
  lone : (outcome : Outcome) (k : ℕ) (command : Command) → IsNew w (Propose k command) → min new.commit (length new.log) ≤ count_of p.agreed → NodeStep outcome old (Propose k command) new []
      → Is (counts (max p.greatest k)) × ((a : Acts w s (Propose k command) (world_of (counts (max p.greatest k)))) × (a.outcome ≡ outcome) × (a.old ≡ old))
  lone outcome k command fresh most step =
      let same = still p is at size old new (sym here) (max p.greatest k) most in
      let r = acts p is at size old new (sym here) outcome (Propose k command) [] (max p.greatest k) refl (subst (λ v. IsNew v (Propose k command)) (sym view) fresh) step in
      let Goal : World → ℕ → World → Type 0 = λ v i v'. (a : Acts v i (Propose k command) v') × (a.outcome ≡ outcome) × (a.old ≡ old) in (
        subst Is same (step_is p is at size old new (sym here) outcome (Propose k command) [] (max p.greatest k) tt step),
        subst (λ z. Goal w s (world_of z)) same (subst (λ v. Goal v s (world_of (with_step p at new [] (max p.greatest k)))) view (subst (λ i. Goal (world_of p) i (world_of (with_step p at new [] (max p.greatest k)))) named (r.0, r.1, r.2))),
      )

  raised_is : (k : ℕ) → new ≡ old → world_of (counts (max p.greatest k)) ≡ raised_to k w
  raised_is k e = let same = unchanged p is at size old new (sym here) e in (λ i. world_of (record (same i) { greatest = max p.greatest k })) ∙ ap (raised_to k) view

  refused : (k : ℕ) (command : Command) → IsNew w (Propose k command) → new ≡ old → done old (Propose k command) ≡ quiet old
      → Is (counts (max p.greatest k)) × IsRefused w s k command (world_of (counts (max p.greatest k)))
  refused k command fresh e idle =
      let seat = is.seated at old size (sym here) in
      let most : min new.commit (length new.log) ≤ count_of p.agreed = omega (arith, seat.committed, ap (λ (n : Node). n.commit) e, ap (λ (n : Node). length n.log) e) in
      let r = lone Works k command fresh most (subst (λ (n : Node). NodeStep Works old (Propose k command) n []) (sym e) (quiet_step old (Propose k command) idle)) in
      (r.0, ((r.1.0, r.1.1), raised_is k e))

  same_as : (n : Node) → IsServer w s n → old ≡ n
  same_as n there = same_server w s old n (server p is w view at s place number old here) there

  abbrev Refuses : ℕ → Command → ProposeFault → Type 0
  Refuses k command fault = Is (counts (counted fault k p.greatest)) × steps.Proposes w s k command (world_of (counts (counted fault k p.greatest))) (Err fault) × KeepsAgreement w (world_of (counts (counted fault k p.greatest)))

  pub refuses : (k : ℕ) (command : Command) (fault : ProposeFault) → IsNew w (Propose k command) → node.Proposes old k command new (Err fault) → Refuses k command fault
  refuses k command NotLeader fresh (runs, ne, e) =
      let r = refused k command fresh e (running_done old (Propose k command) runs ∙ not_led_quiet old k command ne) in
      (r.0, (r.1, λ n there. subst (λ (m : Node). (m.halted ≡ false) × (m.role ≢ Leader)) (same_as n there) (runs, ne)), by_move w _ (Proposes s k command) r.1.0.0)
  refuses k command Full fresh (runs, leads, room, e) =
      let r = refused k command fresh e (running_done old (Propose k command) runs ∙ propose_is old k command leads ∙ ap (λ b. cond b (append_all (appended old (proposal old k command))) (quiet old)) room) in
      (r.0, (r.1, λ n there. subst (λ (m : Node). (m.halted ≡ false) × (m.role ≡ Leader) × (has_room m k command ≡ false)) (same_as n there) (runs, leads, room)), by_move w _ (Proposes s k command) r.1.0.0)
  refuses k command Halted fresh (inl (halted, e)) =
      let r = refused k command fresh e (halted_quiet old (Propose k command) halted) in
      (r.0, inl (r.1, λ n there. subst (λ (m : Node). m.halted ≡ true) (same_as n there) halted), by_move w _ (Proposes s k command) r.1.0.0)
  refuses k command Halted fresh (inr (may, step)) =
      let seat = is.seated at old size (sym here) in
      let node : new ≡ halts old new.store = step.4 in
      let most : min new.commit (length new.log) ≤ count_of p.agreed = omega (arith, seat.committed, ap (λ (n : Node). n.commit) node, ap (λ (n : Node). length n.log) node) in
      let r = lone LogFails k command fresh most step in
      (r.0, inr (r.1.0, r.1.1, subst (λ (n : Node). MayPropose n k command) (sym r.1.2) may), by_move w _ (Proposes s k command) r.1.0)
  refuses k command Memory fresh (runs, leads, e) =
      let r = call_same p is w view at s place number old new here e in
      (r.0, (r.1, (old, server p is w view at s place number old here, (runs, leads))), by_same w _ r.1)

  -- what an entry that was proposed has
  pub enters : (q : Parts) (k : ℕ) (command : Command) (sent : List Sent) (answer : Place) → q ≡ with_step p at new sent q.greatest → IsNew w (Propose k command) → q.greatest ≡ max p.greatest k
      → node.Proposes old k command new (Ok (answer, sent)) → Is q × IsProposed w s k command (world_of q) answer × Places w s k command (world_of q) answer × KeepsAgreement w (world_of q)
  enters q k command sent answer same fresh up (may, step, where_is) =
      let r = call_works p is w view at s place number old new here q (Propose k command) sent same tt fresh up step in
      let a = r.1.0 in let was = r.1.2 in let now = r.1.3 in
      let log = pushed old new k command sent may step in
      let index : last new ≡ suc (last old) = ap length log.0 ∙ length_push old.log (proposal old k command) ∙ add-one (last old) in
      let answer_is : answer ≡ record { index = suc (last old); term = old.term } = where_is ∙ (λ i. record { index = index i; term = log.2 i }) in
      let there : IsServer (world_of q) s new = subst (λ z. IsServer (world_of z) s new) (sym same) (subst (λ i. IsServer (world_of (with_step p at new sent q.greatest)) i new) named
      (omega (arith, size, length-set p.nodes at new), get_or-set_same p.nodes at new new size)) in (
        r.0,
        record {
          acts = a;
          works = r.1.1;
          may = subst (λ (n : Node). MayPropose n k command) (sym was) may;
          runs = ap (λ (n : Node). n.halted) now ∙ log.1 ∙ may.0;
          log = ap (λ (n : Node). n.log) now ∙ log.0 ∙ ap (λ (n : Node). n.log ++ proposal n k command ∷ []) (sym was);
          is = answer_is ∙ ap (λ (n : Node). record { index = suc (last n); term = n.term }) (sym was);
        },
        (λ reached n at_w.
            let entry : entry_at answer.index new.log ≡ Some (proposal n k command) = (λ i. entry_at (answer_is i).index (log.0 i)) ∙ entry_pushed old.log (proposal old k command) ∙ ap (λ (m : Node). Some (proposal m k command)) (same_as n at_w) in
            placed (world_of q) (world.step (Proposes s k command) reached a) s new there (log.1 ∙ may.0) answer.index (proposal n k command) entry),
        by_move w _ (Proposes s k command) a,
      )
