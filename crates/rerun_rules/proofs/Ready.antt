-- Once server 1 is elected it is ready, and stays so.
use Rattle.std.proofs.Common.{◌≡◌, ℕ, zero, suc, ◌<◌, ◌≤◌, inl, inr, Bool, true, false, not, List, [], ◌∷◌, length, None, refl, sym, ◌∙◌, ap, subst, arith}
use Rattle.std.specs.Prelude.{nat_lt, ◌&&◌}
use Rattle.std.proofs.Math.Seq.{take-length}
use Rattle.std.proofs.lemmas.Bool.Decides.{nat_tests}
use Rattle.cat_model.specs.declared.reply.Role.TheVariants.{Leader}
use Rattle.cat_model.specs.Role.{leads as is_leading}
use Rattle.raft_model.specs.Facts.{IsReady}
use Rattle.raft_model.specs.Log.{Log, last_term, term_at}
use Rattle.raft_model.specs.World.{IsReached, IsServer, Reaches, World, here}
use Rattle.raft_model.proofs.Agreement.{led}
use Rattle.raft_model.proofs.Forming.{agreed_well_formed}
use Rattle.raft_model.proofs.Going.{longer_length}
use Rattle.raft_model.proofs.Logs.{agree_length, agree_term}
use Rattle.raft_model.proofs.Places.{agreed_follows}
use Rattle.raft_model.proofs.Quorum.{majorities_meet}
use Rattle.raft_model.proofs.Sound.{IsSound, Runs}
use Rattle.raft_model.proofs.Starts.{reached_sound}
use Rattle.raft_model.proofs.Tests.{at_bool, lt_tells, no_bool}
use Rattle.raft_model.proofs.Theorems.{agrees, grows_far}
use Rattle.raft_model.proofs.Worlds.{fits_at}
use Rattle.cluster_rules.specs.Cluster.{Cluster, applied_of, no_node, node_of, server_of}
use Rattle.cluster_rules.specs.Due.{due}
use Rattle.cluster_rules.specs.Reached.{Makes, Move, Reached, at_start, by_advancing, by_event, by_handing, by_settling, by_taking}
use Rattle.cluster_rules.specs.Requests.{is_ready}
use Rattle.cluster_rules.specs.Sound.{ServerIsSound}
use Rattle.cluster_rules.proofs.Boundary.{leader_there}
use Rattle.cluster_rules.proofs.Reached.{run_sound, start_sound}
use Rattle.cluster_rules.proofs.Starting.{kept_start}
use Rattle.cluster_rules.proofs.Steps.{all_applied}
use Rattle.cluster_rules.proofs.Tools.{is_place}
use Rattle.run_rules.specs.Serving.{Serves}
use Rattle.run_rules.proofs.ServingHolds.{run_goes}
use Rattle.rerun_rules.specs.Leading.{Election, WasAt}
use Rattle.rerun_rules.proofs.Ahead.{IsAhead, StaysAhead}
use Rattle.rerun_rules.proofs.Beginning.{empty_foremost, runs_on, start_ahead}
use Rattle.rerun_rules.proofs.Elected.{at_rest}
use Rattle.rerun_rules.proofs.Serving.{run_since}

-- No agreed entry is of a term above server 1's.
module _ (w : World) (s : IsSound w) (ahead : IsAhead w) where
  -- a server's kept term
  kept_term : (i : ℕ) → 0 < i → i ≤ length w.nodes → s.history.terms i ≤ (node_of w 1).term
  kept_term zero p l = absurd (omega arith)
  kept_term (suc j) p l = elim (s.fits j no_node (omega arith)) [
    | inl x ↦ let t = x.1.term in let u = under j l in omega arith
    | inr x ↦ absurd (no_bool (node_of w (suc j)).halted x.0 (ahead.well (suc j) p l).runs)
  ]
    where
      under : (j : ℕ) → suc j ≤ length w.nodes → (node_of w (suc j)).term ≤ (node_of w 1).term
      under zero l = omega arith
      under (suc k) l = (ahead.follow (suc (suc k)) (omega arith) l (λ e. omega arith)).1

  pub agreed_bound : 0 < length w.agreed → last_term w.agreed ≤ (node_of w 1).term
  agreed_bound some =
      let t = last_term w.agreed in
      let f = agreed_follows w s (length w.agreed) (omega arith) in
      let within = agree_length (length w.agreed) (s.history.ledger t) w.agreed (sym f) (omega arith) in
      let c = led (length w.nodes) s.history s.sound t (omega arith) in
      let m = s.sound.votes.majority t c.0 c.1 in
      let i = majorities_meet (length w.nodes) (s.history.electors t) (s.history.electors t) m m in
      let v = s.sound.votes.for_leader t c.0 i.0 c.1 i.2 in
      let k = kept_term i.0 i.1.0 i.1.1 in
      let up : t ≤ s.history.terms i.0 = at_bool (λ b. nat_lt (s.history.terms i.0) t ≡ b → t ≤ s.history.terms i.0) (nat_lt (s.history.terms i.0) t)
      (λ _ e. absurd (let n = s.sound.votes.later i.0 t (lt_tells (s.history.terms i.0) t e) in cc (n, v))) (λ _ e. grind (arith, nat_tests)) refl in
      omega arith

-- Server 1 leads, and an entry of its term is agreed.
ready_by : (w : World) → IsReached w → IsAhead w → (node_of w 1).role ≡ Leader → (k : ℕ) → 0 < k → k ≤ length w.agreed → term_at k w.agreed ≡ (node_of w 1).term → IsReady (node_of w 1)
ready_by w r ahead lead k p l t = ((up, lead), some, own)
  where
    s : IsSound w
    s = reached_sound w r

    at : IsServer w 1 (node_of w 1)
    at = leader_there w 1 (runs_on w ahead lead)

    up : (node_of w 1).halted ≡ false
    up = (ahead.well 1 (omega arith) (is_place w 1 (node_of w 1) at).1).runs

    -- the last agreed entry is of its term
    last_is : last_term w.agreed ≡ (node_of w 1).term
    last_is = let a = (agreed_well_formed w s).rises k (length w.agreed) p l (omega arith) in let b = agreed_bound w s ahead (omega arith) in omega arith

    runs : Runs (length w.nodes) s.history 1 (node_of w 1)
    runs = elim (fits_at w s 1 (node_of w 1) at) [ inl x ↦ x.1 | inr x ↦ absurd (no_bool (node_of w 1).halted x.0 up) ]

    commit_is : (node_of w 1).commit ≡ length w.agreed
    commit_is =
        let a = runs.own lead (ap last_term s.agreed ∙ last_is) in let b = ap length s.agreed in let c = (agrees w r 1 (node_of w 1) at).0 in omega arith

    some : 0 < (node_of w 1).commit
    some = let c = commit_is in omega arith

    own : term_at (node_of w 1).commit (node_of w 1).log ≡ (node_of w 1).term
    own = agree_term (node_of w 1).commit (node_of w 1).commit (node_of w 1).log w.agreed (omega arith) (agrees w r 1 (node_of w 1) at).1 ∙ ap (λ z. term_at z w.agreed) commit_is ∙ last_is

-- It stays ready.
pub ready_on : (w w' : World) → IsReached w → IsReached w' → Reaches w w' → StaysAhead w w' → IsReady (node_of w 1) → IsServer w 1 (node_of w 1) → IsReady (node_of w' 1)
ready_on w w' r r' reaches x (lead, some, own) at =
    let o = x.on lead.1 in
    let a = agrees w r 1 (node_of w 1) at in
    let g = grows_far w w' r reaches in
    let long : length w.agreed ≤ length w'.agreed = longer_length w.agreed w'.agreed g in
    ready_by w' r' x.ahead o.0 (node_of w 1).commit some (let q = a.0 in omega arith)
    (agree_term (node_of w 1).commit (length w.agreed) w'.agreed w.agreed a.0 (g ∙ sym (take-length w.agreed))
    ∙ sym (agree_term (node_of w 1).commit (node_of w 1).commit (node_of w 1).log w.agreed (omega arith) a.1) ∙ own ∙ sym o.1)

-- The worlds since an earlier one.
pub record GoesOn (d c : World) : Type 0 where
  pub on : (v : World) → Reaches c v → Reaches d v
  pub before : IsReached d
  pub reached : IsReached c

same_on : (c d : Cluster) → IsReached c.world → d ≡ c → GoesOn d.world c.world
same_on c d r e = subst (λ (z : Cluster). GoesOn z.world c.world) (sym e) (record { on = λ v z. z; before = r; reached = r })

pub was_goes : (start : Cluster) (whole : Bool) (moves : List Move) (c : Cluster) (r : Reached start whole moves c) → IsReached start.world → (d : Cluster) → WasAt d r → GoesOn d.world c.world
was_goes start whole moves c at_start w d e = same_on c d w e
was_goes start whole moves c (by_event made all r fits step) w d (inl e) = same_on c d (run_goes start whole moves c (by_event made all r fits step) w).reached e
was_goes start whole moves c (by_event {whole = w₀} {moves = ms} {c = c₀} made all r fits step) w d (inr x) =
    let b = was_goes start w₀ ms c₀ r w d x in
    let g = run_goes c₀ (true && all) (Makes made ∷ []) c (by_event made all at_start fits step) b.reached in
    record { on = λ v z. b.on v (g.on v z); before = b.before; reached = g.reached }
was_goes start whole moves c (by_taking number out before after r is there) w d (inl e) = same_on c d (run_goes start whole moves c (by_taking number out before after r is there) w).reached e
was_goes start whole moves c (by_taking {whole = w₀} {moves = ms} {c = c₀} number out before after r is there) w d (inr x) = let b = was_goes start w₀ ms c₀ r w d x in record { on = b.on; before = b.before; reached = b.reached }
was_goes start whole moves c (by_handing out before after r is there) w d (inl e) = same_on c d (run_goes start whole moves c (by_handing out before after r is there) w).reached e
was_goes start whole moves c (by_handing {whole = w₀} {moves = ms} {c = c₀} out before after r is there) w d (inr x) = let b = was_goes start w₀ ms c₀ r w d x in record { on = b.on; before = b.before; reached = b.reached }
was_goes start whole moves c (by_settling pairs all r ends) w d (inl e) = same_on c d (run_goes start whole moves c (by_settling pairs all r ends) w).reached e
was_goes start whole moves c (by_settling {whole = w₀} {moves = ms} {c = c₀} pairs all r ends) w d (inr x) = let b = was_goes start w₀ ms c₀ r w d x in record { on = b.on; before = b.before; reached = b.reached }
was_goes start whole moves c (by_advancing ms made r ends) w d (inl e) = same_on c d (run_goes start whole moves c (by_advancing ms made r ends) w).reached e
was_goes start whole moves c (by_advancing {whole = w₀} {moves = ms'} {c = c₀} ms made r ends) w d (inr x) = let b = was_goes start w₀ ms' c₀ r w d x in record { on = b.on; before = b.before; reached = b.reached }

-- An election makes server 1 ready.
pub elected_ready : (e : Election) → IsReady (node_of e.cluster.world 1)
elected_ready e =
    let x = at_rest e in
    let p = is_place e.cluster.world 1 (node_of e.cluster.world 1) (leader_there e.cluster.world 1 (runs_on e.cluster.world x.ahead x.role)) in
    (((x.ahead.well 1 p.0 p.1).runs, x.role), let c = (x.committed refl refl).1 in omega arith, ap (λ z. term_at z (node_of e.cluster.world 1).log) (x.committed refl refl).1 ∙ ap (λ (z : Log). term_at 1 z) (x.committed refl refl).0.log ∙ sym (x.committed refl refl).0.term)

pub stays_ready : (e : Election) (c : Cluster) (s : Serves e.size c) → WasAt e.cluster s.reached → IsReady (node_of c.world 1)
stays_ready e c s was =
    let start = start_sound s.start (kept_start e.size.stores s.start s.begins (inl e.are_empty)) in
    let g = was_goes s.start s.whole s.moves c s.reached start.parts.world e.cluster was in
    let begun = start_ahead e.size.stores s.start s.begins e.sure (empty_foremost e.size.stores e.are_empty) in
    let x = at_rest e in
    ready_on e.cluster.world c.world g.before g.reached (g.on c.world here) (run_since s.start s.whole s.moves c s.reached s.serving begun e.cluster was) (elected_ready e)
    (leader_there e.cluster.world 1 (runs_on e.cluster.world x.ahead x.role))

-- where nothing is due there it has applied an entry of its term
pub ready_applied : (c : Cluster) → ServerIsSound c.world.agreed (node_of c.world 1).commit (server_of c.servers 1) → IsReached c.world → IsReady (node_of c.world 1) → IsServer c.world 1 (node_of c.world 1) → due 1 c ≡ None → is_ready c 1 ≡ true
ready_applied c own r (lead, some, term) at none =
    ap not (le_not (last_term (applied_of c 1)) (node_of c.world 1).term last_is)
  where
    le_not : (a b : ℕ) → b ≤ a → nat_lt a b ≡ false
    le_not a b l = grind (arith, nat_tests)

    at_commit : (node_of c.world 1).commit ≡ length (applied_of c 1)
    at_commit = let k = own.within in let l = all_applied c 1 none in omega arith

    last_is : (node_of c.world 1).term ≤ last_term (applied_of c 1)
    last_is =
        let a = agrees c.world r 1 (node_of c.world 1) at in
        let e : last_term (applied_of c 1) ≡ (node_of c.world 1).term =
        agree_term (length (applied_of c 1)) (length (applied_of c 1)) (applied_of c 1) c.world.agreed (omega arith) (take-length (applied_of c 1) ∙ own.front)
        ∙ ap (λ z. term_at z c.world.agreed) (sym at_commit)
        ∙ sym (agree_term (node_of c.world 1).commit (node_of c.world 1).commit (node_of c.world 1).log c.world.agreed (omega arith) a.1) ∙ term in omega arith

pub counts_ready : (e : Election) (c : Cluster) (s : Serves e.size c) → WasAt e.cluster s.reached → due 1 c ≡ None → is_ready c 1 ≡ true
counts_ready e c s was none =
    let sound = run_sound s.start (kept_start e.size.stores s.start s.begins (inl e.are_empty)) s.whole s.moves c s.reached in
    let ready = stays_ready e c s was in
    ready_applied c (sound.parts.servers.each 1) sound.parts.world ready (leader_there c.world 1 (ap (λ b. not b && is_leading (node_of c.world 1).role) ready.0.0 ∙ ap is_leading ready.0.1)) none
