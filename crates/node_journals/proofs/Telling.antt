-- The steps of all journals, one at a time in the order of their times, make one run.
use Rattle.std.proofs.Common.{ℕ, List, None, Some, [], ap, arith, cond, get_or, inl, inr, length, map, refl, set, subst, suc, sym, take, zero, ◌+◌, ◌<◌, ◌∙◌, ◌∷◌, ◌≡◌, ◌≢◌, ◌≤◌, ◌⊎◌}
use Rattle.std.specs.Prelude.{Contains, ◌==◌}
use Rattle.std.proofs.lemmas.List.{length-set, get_or-map, map-set, take_all}
use Rattle.raft_model.proofs.Going.{longer_length}
use Rattle.raft_model.proofs.History.{History, Sound}
use Rattle.raft_model.proofs.Logs.{front_take}
use Rattle.raft_model.proofs.Moving.{commits_of}
use Rattle.raft_model.proofs.Sound.{Fits, GoesOn}
use Rattle.raft_model.proofs.Tests.{eq_is, eq_tells, no_bool, at_bool}
use Rattle.raft_model.specs.Facts.{IsLeading}
use Rattle.raft_model.specs.Node.{Node, committed, set_server}
use Rattle.raft_model.specs.Rules.{Beat, Input, Probe, Propose, Receive, Timeout}
use Rattle.raft_model.specs.World.{Acts, IsNew, IsServer, World, WorldStep, after}
use Rattle.node_journals.proofs.Accounting.{Accounts, GoesTo, accounts_go, adds_nothing, fits_here}
use Rattle.node_journals.proofs.Lists.{IsNext, among, at_first, at_set, behind, is_other, is_stepped, made_or, same_or_not, stepped, in_none}
use Rattle.node_journals.proofs.Soonest.{AllDone, AllRise, Soonest, rises_from, soonest}
use Rattle.node_journals.specs.Causal.{Rises, WasSent}
use Rattle.node_journals.specs.Journals.{Event, Given, IsJournal, IsProcess, IsStep, IsUnnumbered, Made, Process, Restart, Step, Was, ended}
use Rattle.node_journals.specs.OneWorld.{ends, goes, IsHeard, Leads, Takes, Turn, handing, move_of, steps_of}

abbrev pub starts : List Process → List Node
starts ps = map (λ p. p.start) ps

-- what the step hears was sent before, in an earlier turn or in a step that is still to come
abbrev pub Heard : List Turn → List Process → ℕ → ℕ → Event → Type 0
Heard earlier ps i time event = IsHeard earlier i event ⊎ WasSent ps i time event

-- what is still to come of the journals
pub record Ready (earlier : List Turn) (ps : List Process) : Type 0 where
  pub journals : (j : ℕ) (d : Process) → j < length ps → IsJournal (get_or ps j d).start (get_or ps j d).steps
  pub rise : AllRise ps
  pub heard : (j : ℕ) (d : Process) (e : Step) → j < length ps → Contains (get_or ps j d).steps e → Heard earlier ps (suc j) e.time e.event

-- the next step's messages were sent in earlier turns
heard_now : (earlier : List Turn) (ps : List Process) (r : Soonest ps) (i : ℕ) (event : Event) → Heard earlier ps i r.step.time event → IsHeard earlier i event
heard_now earlier ps r i event (inl h) = h
heard_now earlier ps r i (Given (Receive from m)) (inr (e, made, l, c)) = absurd (before from made)
  where
    before : (from : ℕ) → Made ps from e → ⊥
    before zero (p, is, c) = is
    before (suc j) (p, is, c) = let q = r.least j p e is.0 (subst (λ (z : Process). Contains z.steps e) (sym (is.1)) c) in omega arith
heard_now earlier ps r i (Given Timeout) (inr h) = tt
heard_now earlier ps r i (Given Beat) (inr h) = tt
heard_now earlier ps r i (Given (Propose number command)) (inr h) = tt
heard_now earlier ps r i (Given Probe) (inr h) = tt
heard_now earlier ps r i Restart (inr h) = tt

heard_behind : (earlier : List Turn) (turn : Turn) (i : ℕ) (event : Event) → IsHeard earlier i event → IsHeard (turn ∷ earlier) i event
heard_behind earlier turn i (Given (Receive from m)) (t, c, e, s) = (t, behind turn t earlier c, e, s)
heard_behind earlier turn i (Given Timeout) h = tt
heard_behind earlier turn i (Given Beat) h = tt
heard_behind earlier turn i (Given (Propose number command)) h = tt
heard_behind earlier turn i (Given Probe) h = tt
heard_behind earlier turn i Restart h = tt

-- once the next step is made, it is an earlier turn
heard_then : (earlier : List Turn) (ps : List Process) (at : ℕ) (s : Step) (rest : List Step) → IsNext ps at s rest → (i time : ℕ) (event : Event) → Heard earlier ps i time event → Heard (record { server = suc at; step = s } ∷ earlier) (stepped ps at s rest) i time event
heard_then earlier ps at s rest n i time event (inl h) = inl (heard_behind earlier (record { server = suc at; step = s }) i event h)
heard_then earlier ps at s rest n i time (Given (Receive from m)) (inr (e, made, l, c)) = elim (made_or ps at s rest n from e made) [
  | inl q ↦ inr (e, q, l, c)
  | inr q ↦ inl (record { server = suc at; step = s }, at_first (record { server = suc at; step = s }) earlier, q.0, subst (λ (z : Step). Contains z.sent (record { to = i; message = m })) (sym (q.1)) c)
]
heard_then earlier ps at s rest n i time (Given Timeout) (inr h) = inr tt
heard_then earlier ps at s rest n i time (Given Beat) (inr h) = inr tt
heard_then earlier ps at s rest n i time (Given (Propose number command)) (inr h) = inr tt
heard_then earlier ps at s rest n i time (Given Probe) (inr h) = inr tt
heard_then earlier ps at s rest n i time Restart (inr h) = inr tt

-- a process before its next step
before : (ps : List Process) (at : ℕ) (s : Step) → Process
before ps at s = get_or ps at (record { start = s.node; steps = [] })

own_journal : (earlier : List Turn) (ps : List Process) (at : ℕ) (s : Step) (rest : List Step) → IsNext ps at s rest → Ready earlier ps → IsJournal (before ps at s).start (s ∷ rest)
unfolding before
own_journal earlier ps at s rest n r = let d : Process = record { start = s.node; steps = [] } in subst (IsJournal (get_or ps at d).start) (n.steps d) (r.journals at d n.within)

ready_then : (earlier : List Turn) (ps : List Process) (at : ℕ) (s : Step) (rest : List Step) → IsNext ps at s rest → Ready earlier ps → Ready (record { server = suc at; step = s } ∷ earlier) (stepped ps at s rest)
ready_then earlier ps at s rest n r = record {
  journals = λ j d l. at_set (λ j (z : Process). IsJournal z.start z.steps) ps at q j d (in_all j l) (λ _. (own_journal earlier ps at s rest n r).1) (λ _. r.journals j d (in_all j l));
  rise = λ j d l. at_set (λ j (z : Process). Rises 0 z.steps) ps at q j d (in_all j l) (λ _. rises_from 0 (suc s.time) rest (omega arith) own.1) (λ _. r.rise j d (in_all j l));
  heard = λ j d e l c. heard_then earlier ps at s rest n (suc j) e.time e.event (r.heard j d e (in_all j l) (among ps at s rest n j d e (in_all j l) c));
}
  where
    q : Process
    q = record { start = s.node; steps = rest }

    in_all : (j : ℕ) → j < length (stepped ps at s rest) → j < length ps
    in_all j l = subst (λ z. j < z) (length-set ps at q) l

    own : Rises 0 (s ∷ rest)
    own = subst (Rises 0) (n.steps q) (r.rise at q n.within)

-- the world after a turn
abbrev world_then : World → ℕ → Event → Step → World
world_then w i (Given input) s = after (handing w i (Given input)) i input s.node s.sent
world_then w i Restart s = record (handing w i Restart) { nodes = set_server w.nodes i s.node; contacts = set_server w.contacts i None }

-- a turn of the world, with the accounts after it
record Turns (earlier : List Turn) (w : World) (a : Accounts w.nodes w.agreed earlier) (at : ℕ) (s : Step) : Type 0 where
  next : World
  takes : Takes earlier w (record { server = suc at; step = s }) next
  nodes : next.nodes ≡ set w.nodes at s.node
  goes : GoesTo w.nodes w.agreed earlier a (suc at) next.nodes next.agreed (record { server = suc at; step = s } ∷ earlier)

new_input : (w : World) (input : Input) → IsUnnumbered input → IsNew w input
new_input w (Propose number command) u = inl u
new_input w Timeout u = tt
new_input w Beat u = tt
new_input w (Receive from m) u = tt
new_input w Probe u = tt

moves_by : (w : World) (i : ℕ) (input : Input) (v : World) → Acts (handing w i (Given input)) i input v → WorldStep (handing w i (Given input)) (move_of i (Given input)) v
moves_by w i Timeout v a = a
moves_by w i Beat v a = a
moves_by w i (Receive from m) v a = (record { number = 1; from = from; to = i; message = m }, refl, a)
moves_by w i (Propose number command) v a = a
moves_by w i Probe v a = a

turns_to : (earlier : List Turn) (w : World) (a : Accounts w.nodes w.agreed earlier) (at : ℕ) (old : Node) (time : ℕ) (event : Event) (n : Node) (sent : List _) → at < length w.nodes → get_or w.nodes at old ≡ old → IsHeard earlier (suc at) event → IsStep old event n sent → Turns earlier w a at (record { time = time; event = event; node = n; sent = sent })
turns_to earlier w a at old time (Given input) n sent l e heard (u, outcome, step) =
    let s : Step = record { time = time; event = Given input; node = n; sent = sent } in
    let acts : Acts (handing w (suc at) (Given input)) (suc at) input (world_then w (suc at) (Given input) s) = record { old = old; outcome = outcome; new = n; sent = sent; server = (l, e); fresh = new_input (handing w (suc at) (Given input)) input u; step = step; becomes = refl } in
    record {
      next = world_then w (suc at) (Given input) s;
      takes = record { heard = heard; moves = moves_by w (suc at) input (world_then w (suc at) (Given input) s) acts; makes = (acts, refl, refl) };
      nodes = refl;
      goes = accounts_go w.nodes w.agreed earlier a at old s l e heard (u, outcome, step);
    }
turns_to earlier w a at old time Restart n sent l e heard (r, none) =
    let s : Step = record { time = time; event = Restart; node = n; sent = sent } in
    let g = accounts_go w.nodes w.agreed earlier a at old s l e heard (r, none) in
    record {
      next = world_then w (suc at) Restart s;
      takes = record {
        heard = heard;
        moves = (old, n, (l, e), r, refl);
        makes = ((subst (λ z. at < z) (sym (length-set w.nodes at n)) l, is_set w.nodes at n l), none);
      };
      nodes = refl;
      goes = subst (λ z. GoesTo w.nodes w.agreed earlier a (suc at) (set w.nodes at n) z (record { server = suc at; step = s } ∷ earlier)) (adds_nothing w.nodes w.agreed earlier a old n r) g;
    }
  where
    is_set : (ns : List Node) (at : ℕ) (n : Node) → at < length ns → get_or (set ns at n) at n ≡ n
    is_set [] at n l = absurd (omega arith)
    is_set (m ∷ ns) zero n l = refl
    is_set (m ∷ ns) (suc at) n l = is_set ns at n (omega arith)

-- What a history says of a node of process i at any time: it has committed a front of what is agreed, and where it
-- leads it is its term's leader.
pub record IsTold (h : History) (i : ℕ) (n : Node) : Type 0 where
  pub within : n.commit ≤ length h.agreed
  pub front : committed n ≡ take n.commit h.agreed
  pub leads : IsLeading n → h.leaders n.term ≡ Some i

told_now : (servers : ℕ) (h : History) → Sound servers h → (i : ℕ) (n : Node) → Fits servers h i n → IsTold h i n
told_now servers h s i n f =
    let c = commits_of servers h i n f in
    record { within = c.within; front = c.agrees; leads = λ lead. leader f lead }
  where
    leader : Fits servers h i n → IsLeading n → h.leaders n.term ≡ Some i
    leader (inl (k, r, b)) lead = ap h.leaders (sym r.term) ∙ s.roles.elected i (r.role ∙ lead.1)
    leader (inr (q, r)) lead = absurd (no_bool n.halted q lead.0)

-- what a later history has of an earlier one
pub record Keeps (h h' : History) : Type 0 where
  pub agreed : take (length h.agreed) h'.agreed ≡ h.agreed
  pub leaders : (t c : ℕ) → h.leaders t ≡ Some c → h'.leaders t ≡ Some c

told_later : (h h' : History) (i : ℕ) (n : Node) → Keeps h h' → IsTold h i n → IsTold h' i n
told_later h h' i n k t = record {
  within = let q = longer_length h.agreed h'.agreed k.agreed in let z = t.within in omega arith;
  front = t.front ∙ sym (front_take n.commit h.agreed h'.agreed k.agreed t.within);
  leads = λ lead. k.leaders n.term i (t.leads lead);
}

keeps_itself : (h : History) → Keeps h h
keeps_itself h = record { agreed = take_all (length h.agreed) h.agreed (omega arith); leaders = λ t c e. e }

keeps_on : (i : ℕ) (h h' h'' : History) → GoesOn i h h' → Keeps h' h'' → Keeps h h''
keeps_on i h h' h'' g k = record {
  agreed = front_take (length h.agreed) h'.agreed h''.agreed k.agreed (longer_length h.agreed h'.agreed g.agreed) ∙ g.agreed;
  leaders = λ t c e. k.leaders t c (g.leaders t c e);
}

-- The run of what is still to come, and what its last history says of all nodes on the way.
pub record Story (earlier : List Turn) (w : World) (ps : List Process) (h : History) : Type 0 where
  pub turns : List Turn
  pub last : World
  pub run : Leads earlier w turns last
  pub steps : (i : ℕ) (p : Process) → IsProcess ps i p → steps_of i turns ≡ p.steps
  pub nodes : (i : ℕ) (p : Process) → IsProcess ps i p → IsServer last i (ended p.start p.steps)
  pub accounts : Accounts last.nodes last.agreed []
  pub keeps : Keeps h accounts.history
  pub told : (i : ℕ) (n : Node) → Was ps i n → IsTold accounts.history i n

-- how many steps are still to come
abbrev pub total : List Process → ℕ
total [] = 0
total (p ∷ ps) = length p.steps + total ps

total_then : (ps : List Process) (at : ℕ) (s : Step) (rest : List Step) → IsNext ps at s rest → total ps ≡ suc (total (stepped ps at s rest))
total_then [] at s rest n = absurd (let l = n.within in omega arith)
total_then (p ∷ ps) zero s rest n = let e = ap length (n.steps p) in omega arith
total_then (p ∷ ps) (suc at) s rest n = let q = total_then ps at s rest (record { within = let l = n.within in omega arith; steps = n.steps }) in omega arith

-- a process's node is the world's
node_at : (w : World) (ps : List Process) → w.nodes ≡ starts ps → (j : ℕ) (d : Process) (e : Node) → j < length ps → get_or w.nodes j e ≡ (get_or ps j d).start
node_at w ps e j d n l = ap (λ z. get_or z j n) e ∙ get_or-map (λ p. p.start) ps j d n l

node_within : (w : World) (ps : List Process) → w.nodes ≡ starts ps → (j : ℕ) → j < length ps → j < length w.nodes
node_within w ps e j l = subst (λ z. j < z) (sym (ap length e ∙ map_length ps)) l
  where
    map_length : (ps : List Process) → length (starts ps) ≡ length ps
    map_length [] = refl
    map_length (p ∷ ps) = ap suc (map_length ps)

start_told : (earlier : List Turn) (w : World) (ps : List Process) → w.nodes ≡ starts ps → (a : Accounts w.nodes w.agreed earlier) → (i : ℕ) (p : Process) (n : Node) → IsProcess ps i p → p.start ≡ n → IsTold a.history i n
start_told earlier w ps e a zero p n is same = absurd is
start_told earlier w ps e a (suc j) p n (l, at) same =
    let here : get_or w.nodes j n ≡ n = node_at w ps e j p n l ∙ ap (λ (z : Process). z.start) at ∙ same in
    told_now (length w.nodes) a.history a.sound (suc j) n (fits_here w.nodes w.agreed earlier a j n (node_within w ps e j l) here)

-- nothing is still to come
ends_here : (earlier : List Turn) (w : World) (ps : List Process) → w.nodes ≡ starts ps → (a : Accounts w.nodes w.agreed earlier) → AllDone ps → Story earlier w ps a.history
ends_here earlier w ps e a done = record {
  turns = [];
  last = w;
  run = ends;
  steps = λ i p is. sym (none i p is);
  nodes = λ i p is. subst (λ z. IsServer w i (ended p.start z)) (sym (none i p is)) (server i p is);
  accounts = record { history = a.history; sound = a.sound; fits = a.fits; told = λ turn c. absurd (in_none turn c); agrees = a.agrees };
  keeps = keeps_itself a.history;
  told = λ i n was. elim was [ inl (p, is, same) ↦ start_told earlier w ps e a i p n is same | inr (s, made, same) ↦ absurd (in_none s (subst (λ z. Contains z s) (none i made.0 made.1) made.2)) ];
}
  where
    none : (i : ℕ) (p : Process) → IsProcess ps i p → p.steps ≡ []
    none zero p is = absurd is
    none (suc j) p (l, at) = ap (λ (z : Process). z.steps) (sym at) ∙ done j p l

    server : (i : ℕ) (p : Process) → IsProcess ps i p → IsServer w i p.start
    server zero p is = is
    server (suc j) p (l, at) = (node_within w ps e j l, node_at w ps e j p p.start l ∙ ap (λ (z : Process). z.start) at)

-- the steps of a server where one more was made
steps_then : (ps : List Process) (at : ℕ) (s : Step) (rest : List Step) → IsNext ps at s rest → (turns : List Turn) → ((i : ℕ) (p : Process) → IsProcess (stepped ps at s rest) i p → steps_of i turns ≡ p.steps)
    → (i : ℕ) (p : Process) → IsProcess ps i p → steps_of i (record { server = suc at; step = s } ∷ turns) ≡ p.steps
steps_then ps at s rest n turns before zero p is = absurd is
steps_then ps at s rest n turns before (suc j) p (l, e) = at_bool (λ b. (suc at == suc j) ≡ b → cond b (s ∷ steps_of (suc j) turns) (steps_of (suc j) turns) ≡ p.steps) (suc at == suc j)
    (λ _ q. own (let k = eq_tells (suc at) (suc j) q in omega arith))
    (λ _ q. before (suc j) p (is_other ps at s rest j p (λ k. no_bool (suc at == suc j) (eq_is (suc at) (suc j) (omega arith)) q) (l, e)))
    refl
  where
    own : j ≡ at → s ∷ steps_of (suc j) turns ≡ p.steps
    own same =
        let here : steps_of (suc j) turns ≡ rest = subst (λ z. steps_of (suc z) turns ≡ rest) (sym same) (before (suc at) (record { start = s.node; steps = rest }) (is_stepped ps at s rest n)) in
        ap (λ (z : List Step). s ∷ z) here ∙ sym (ap (λ (z : Process). z.steps) (sym e) ∙ subst (λ z. (get_or ps z p).steps ≡ s ∷ rest) (sym same) (n.steps p))

-- where it ends
nodes_then : (ps : List Process) (at : ℕ) (s : Step) (rest : List Step) → IsNext ps at s rest → (w : World) → ((i : ℕ) (p : Process) → IsProcess (stepped ps at s rest) i p → IsServer w i (ended p.start p.steps))
    → (i : ℕ) (p : Process) → IsProcess ps i p → IsServer w i (ended p.start p.steps)
nodes_then ps at s rest n w after zero p is = absurd is
nodes_then ps at s rest n w after (suc j) p (l, e) = go (same_or_not j at)
  where
    own : j ≡ at → p.steps ≡ s ∷ rest
    own same = ap (λ (z : Process). z.steps) (sym e) ∙ subst (λ z. (get_or ps z p).steps ≡ s ∷ rest) (sym same) (n.steps p)

    go : (j ≡ at) ⊎ (j ≢ at) → IsServer w (suc j) (ended p.start p.steps)
    go (inl same) = subst (λ z. IsServer w (suc j) (ended p.start z)) (sym (own same)) (subst (λ z. IsServer w (suc z) (ended s.node rest)) (sym same) (after (suc at) (record { start = s.node; steps = rest }) (is_stepped ps at s rest n)))
    go (inr ne) = after (suc j) p (is_other ps at s rest j p ne (l, e))

-- one more step is made, and then what follows
goes_on : (earlier : List Turn) (w : World) (ps : List Process) → w.nodes ≡ starts ps → (a : Accounts w.nodes w.agreed earlier) → (at : ℕ) (s : Step) (rest : List Step) → IsNext ps at s rest → (t : Turns earlier w a at s)
    → Story (record { server = suc at; step = s } ∷ earlier) t.next (stepped ps at s rest) t.goes.accounts.history → Story earlier w ps a.history
goes_on earlier w ps e a at s rest n t story = record {
  turns = record { server = suc at; step = s } ∷ story.turns;
  last = story.last;
  run = goes (record { server = suc at; step = s }) t.takes story.run;
  steps = steps_then ps at s rest n story.turns story.steps;
  nodes = nodes_then ps at s rest n story.last story.nodes;
  accounts = story.accounts;
  keeps = keeps;
  told = λ i m was. elim was [
    | inl (p, is, same) ↦ told_later a.history story.accounts.history i m keeps (start_told earlier w ps e a i p m is same)
    | inr (u, made, same) ↦ elim (made_or ps at s rest n i u made) [
      | inl later ↦ story.told i m (inr (u, later, same))
      | inr now ↦ subst (λ z. IsTold story.accounts.history z m) (now.0) (story.told (suc at) m (inl (record { start = s.node; steps = rest }, is_stepped ps at s rest n, ap (λ (z : Step). z.node) (now.1) ∙ same)))
    ]
  ];
}
  where
    keeps : Keeps a.history story.accounts.history
    keeps = keeps_on (suc at) a.history t.goes.accounts.history story.accounts.history t.goes.goes story.keeps

-- the next step of all
next_turn : (earlier : List Turn) (w : World) (ps : List Process) → w.nodes ≡ starts ps → (a : Accounts w.nodes w.agreed earlier) → Ready earlier ps → (r : Soonest ps) → Turns earlier w a r.at r.step
next_turn earlier w ps e a ready r =
    let d : Process = record { start = r.step.node; steps = [] } in
    let old : Node = (get_or ps r.at d).start in
    let journal : IsJournal old (r.step ∷ r.rest) = subst (IsJournal old) (r.next.steps d) (ready.journals r.at d r.next.within) in
    let c : Contains (get_or ps r.at d).steps r.step = subst (λ z. Contains z r.step) (sym (r.next.steps d)) (at_first r.step r.rest) in
    turns_to earlier w a r.at old r.step.time r.step.event r.step.node r.step.sent (node_within w ps e r.at r.next.within) (node_at w ps e r.at d old r.next.within)
    (heard_now earlier ps r (suc r.at) r.step.event (ready.heard r.at d r.step r.next.within c)) journal.0

pub story : (k : ℕ) (earlier : List Turn) (w : World) (ps : List Process) → total ps ≤ k → w.nodes ≡ starts ps → (a : Accounts w.nodes w.agreed earlier) → Ready earlier ps → Story earlier w ps a.history
story zero earlier w ps l e a ready = elim (soonest ps ready.rise) [
  | inl done ↦ ends_here earlier w ps e a done
  | inr r ↦ absurd (let q = total_then ps r.at r.step r.rest r.next in omega arith)
]
story (suc k) earlier w ps l e a ready = elim (soonest ps ready.rise) [
  | inl done ↦ ends_here earlier w ps e a done
  | inr r ↦
      let t = next_turn earlier w ps e a ready r in
      let q = total_then ps r.at r.step r.rest r.next in
      goes_on earlier w ps e a r.at r.step r.rest r.next t
      (story k (record { server = suc r.at; step = r.step } ∷ earlier) t.next (stepped ps r.at r.step r.rest) (omega arith)
      (t.nodes ∙ ap (λ z. set z r.at r.step.node) e ∙ sym (map-set (λ p. p.start) ps r.at (record { start = r.step.node; steps = r.rest })))
      t.goes.accounts (ready_then earlier ps r.at r.step r.rest r.next ready))
]
