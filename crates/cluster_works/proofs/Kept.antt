-- What stands of a cluster once something was done.
use Rattle.std.proofs.Common.{◌≡◌, ◌≢◌, ◌⊎◌, inl, inr, ℕ, zero, suc, ◌<◌, ◌≤◌, ◌==◌, ◌||◌, Bool, true, false, length, List, [], ◌∷◌, ◌++◌, Option, Some, None, Result, Ok, Err, refl, sym, ap, ◌∙◌, subst, arith}
use Rattle.std.specs.Prelude.{OnOk, OnErr, ◌&&◌, nat_le}
use Rattle.std.specs.List.{AllByRecursion as Each}
use Rattle.std.proofs.lemmas.List.{length-append}
use Rattle.cat_model.specs.declared.command.Entry.{Entry}
use Rattle.cat_model.specs.declared.query.Chan.{Chan}
use Rattle.cat_model.specs.Log.{commands_of}
use Rattle.cat_model.specs.Reach.{is_on}
use Rattle.cat_model.specs.declared.reply.Kind.{Kind}
use Rattle.cat_model.specs.declared.request.Asked.{Asked}
use Rattle.raft_model.specs.Log.{entry_at}
use Rattle.raft_model.specs.Node.{Node, set_server}
use Rattle.raft_model.specs.World.{World}
use Rattle.cluster_rules.specs.Cluster.{AtPlace, Cluster, Ended, ForIndex, InRound, Pending, Server, Stand, applied_of, clock_of, no_node, no_server, node_of, server_of}
use Rattle.cluster_rules.specs.Due.{applies_entry, without}
use Rattle.cluster_rules.specs.Replies.{Content}
use Rattle.cluster_rules.proofs.Tools.{at_item, each_map, eq_self, get_past, item_same, le_tells_not, length_set_server}
use Rattle.raft_model.proofs.Tests.{le_tells}
use Rattle.cluster_rules.proofs.Works.{ascends_without, each_kept}
use Rattle.cluster_requests.specs.Requests.{Requests, answered_with, closed_with, cluster_of as whole_of}
use Rattle.cluster_replicas.specs.Servers.{Servers, applies_next}
use Rattle.cluster_works.specs.Looking.{is_early, is_stand_due, servers_of}
use Rattle.cluster_works.specs.Standing as standing
use Rattle.cluster_works.specs.Standing.{IsAwaited, IsWatched}
use Rattle.cluster_works.proofs.Numbered.{others_left}
use Rattle.cluster_works.proofs.Watched.{fired_watched, others_stand, same_leave, watched_by}
use Rattle.applied_state.specs.Sparing.{SparesOthers}
use Rattle.cluster_works.specs.Watching.{LeaveLine, MayBeDue, SameLines, Sleeps, StayAwake, Watching}

-- a server at which more is committed than applied is one of them
no_commit : (w : World) (i : ℕ) → (i ≡ 0) ⊎ (length w.nodes < i) → (node_of w i).commit ≡ 0
no_commit w zero e = refl
no_commit w (suc i) (inl e) = absurd (omega (arith, e))
no_commit w (suc i) (inr l) = ap (λ (n : Node). n.commit) (get_past w.nodes i no_node (omega (arith, l)))

committing : (w : World) (servers : List Server) (i : ℕ) → length servers ≡ length w.nodes → length (server_of servers i).applied < (node_of w i).commit → (0 < i) × (i ≤ length servers)
committing w servers zero count more = absurd (omega (arith, more, no_commit w zero (inl refl)))
committing w servers (suc i) count more = (omega arith, by (nat_le (suc i) (length servers)) refl)
  where
    by : (b : Bool) → nat_le (suc i) (length servers) ≡ b → suc i ≤ length servers
    by true e = le_tells (suc i) (length servers) e
    by false e = let l = le_tells_not (suc i) (length servers) e in absurd (omega (arith, more, no_commit w (suc i) (inr (omega (arith, l, count)))))

module _ (wt : Watching) where
  -- the cluster of these parts, whose agents are left out
  abbrev cluster_of : World → List Server → Requests → Cluster
  cluster_of w servers r = whole_of w servers [] r

  abbrev Stands : World → List Server → Requests → Type 0
  Stands w servers r = standing.Stands wt w servers r

  abbrev IsHeld : List Server → ℕ → Pending → Type 0
  IsHeld servers asked h = standing.IsHeld wt servers asked h

  pub answer_stands : (w : World) (servers : List Server) (r : Requests) (number : ℕ) (kind : Kind) (known : Bool) (contact : ℕ) (content : Content) → Stands w servers r → Stands w servers (answered_with number kind known contact content r)
  answer_stands w servers r number kind known contact content s =
      record { some = s.some; count = s.count; watching = s.watching; proposed = s.proposed; ascends = ascends_without number r.held s.ascends; held = each_kept (IsHeld servers r.asked) number r.held s.held }

  closing_stands : (w : World) (servers : List Server) (r : Requests) (number event : ℕ) → Stands w servers r → Stands w servers (closed_with number event r)
  closing_stands w servers r number event s =
      record { some = s.some; count = s.count; watching = s.watching; proposed = s.proposed; ascends = ascends_without number r.held s.ascends; held = each_kept (IsHeld servers r.asked) number r.held s.held }

  -- after a call that did something or nothing
  pub call_stands : {A B : Type 0} (w : World) (servers : List Server) (r done new : Requests) (result : Result A B) → Stands w servers r → Stands w servers done → OnOk result (new ≡ done) → OnErr result (new ≡ r) → Stands w servers new
  call_stands w servers r done new (Ok a) s d ok err = subst (λ (q : Requests). Stands w servers q) (sym ok) d
  call_stands w servers r done new (Err b) s d ok err = subst (λ (q : Requests). Stands w servers q) (sym err) s

  pub answer_call : {A B : Type 0} (w : World) (servers : List Server) (r new : Requests) (number : ℕ) (kind : Kind) (known : Bool) (contact : ℕ) (content : Content) (result : Result A B) → Stands w servers r
      → OnOk result (new ≡ answered_with number kind known contact content r) → OnErr result (new ≡ r) → Stands w servers new
  answer_call w servers r new number kind known contact content result s ok err = call_stands w servers r (answered_with number kind known contact content r) new result s (answer_stands w servers r number kind known contact content s) ok err

  pub close_call : {A B : Type 0} (w : World) (servers : List Server) (r new : Requests) (number event : ℕ) (result : Result A B) → Stands w servers r
      → OnOk result (new ≡ closed_with number event r) → OnErr result (new ≡ r) → Stands w servers new
  close_call w servers r new number event result s ok err = call_stands w servers r (closed_with number event r) new result s (closing_stands w servers r number event s) ok err

  -- one more position of a server
  one_longer : (clock : ℕ) (s : Server) (o : Option Entry) → length (applies_entry clock s o).applied ≤ suc (length s.applied)
  one_longer clock s None = omega arith
  one_longer clock s (Some e) = let k = length-append s.applied (e ∷ []) in omega arith

  -- Nothing that waits for a position at the server is due: its position comes later.
  not_due : (a b c : Bool) → a ≡ true → (a && (b || c)) ≡ false → c ≡ false
  not_due true false c e n = n
  not_due true true c e n = absurd cc
  not_due false b c e n = absurd cc

  awaited_next : (c : Cluster) (i : ℕ) (asked : Asked) (s : Stand) (n m : ℕ) → n ≡ length (applied_of c i) → m ≤ suc n → is_stand_due (servers_of c) i asked s ≡ false → IsAwaited n s → IsAwaited m s
  awaited_next c i asked (AtPlace index term) n m e l d x = let k = le_tells_not index (length (applied_of c i)) d in omega arith
  awaited_next c i asked (InRound round deadline) n m e l d x = tt
  awaited_next c i asked (ForIndex deadline looked) n m e l d x = tt
  awaited_next c i asked (Ended event) n m e l d x = tt

  -- the request of a number is dropped, and is not watched any more
  pub forget_stands : (new : Watching) (w : World) (servers : List Server) (r : Requests) (held : List Pending) (number : ℕ) → r.held ≡ without number held → ((n : ℕ) → n ≢ number → MayBeDue n wt → MayBeDue n new)
      → ((i n : ℕ) (on : List Chan) (until : ℕ) → n ≢ number → Sleeps i n on until wt → Sleeps i n on until new) → length new.watch.servers ≡ length wt.watch.servers → SameLines wt new → new.seen ≡ wt.seen → Stands w servers r → standing.Stands new w servers r
  forget_stands new w servers r held number is up down size lines seen s =
      others_stand wt new w servers r number up down size (λ i n stand _ waits. same_leave wt new lines i n stand waits) (omega (arith, seen, s.watching.1))
      (each_map (λ (h : Pending). h.question.number ≢ number) (λ (h : Pending). (h.question.number ≢ number) ⊎ IsWatched new (server_of servers h.server).applied h) (λ h n. inl n) r.held
      (subst (Each (λ (h : Pending). h.question.number ≢ number)) (sym is) (others_left number held))) s

  -- Those wake that hang on what server i's next position fired.
  abbrev Wakes : ℕ → List Chan → Watching → Type 0
  Wakes i fired new = (server n : ℕ) (on : List Chan) (until : ℕ) → Sleeps server n on until wt → MayBeDue n new ⊎ (Sleeps server n on until new × (server ≡ i → is_on fired on ≡ false))

  module _ (c : Cluster) (i : ℕ) (x : Server) (more : length x.applied ≤ suc (length (applied_of c i))) (new : Watching) (fired : List Chan) (spares : SparesOthers (commands_of (applied_of c i)) (commands_of x.applied) fired) (up : StayAwake wt new) (wakes : Wakes i fired new) (lines : LeaveLine wt new) where
    still_asleep : (h : Pending) (on : List Chan) (until : ℕ) → Sleeps h.server h.question.number on until wt → MayBeDue h.question.number new ⊎ Sleeps h.server h.question.number on until new
    still_asleep h on until s = by (wakes h.server h.question.number on until s)
      where
        by : MayBeDue h.question.number new ⊎ (Sleeps h.server h.question.number on until new × (h.server ≡ i → is_on fired on ≡ false)) → MayBeDue h.question.number new ⊎ Sleeps h.server h.question.number on until new
        by (inl a) = inl a
        by (inr b) = inr b.0

    off_fired : (h : Pending) → h.server ≡ i → (on : List Chan) (until : ℕ) → Sleeps h.server h.question.number on until wt → MayBeDue h.question.number new ⊎ (Sleeps h.server h.question.number on until new × (is_on fired on ≡ false))
    off_fired h here on until s = by (wakes h.server h.question.number on until s)
      where
        by : MayBeDue h.question.number new ⊎ (Sleeps h.server h.question.number on until new × (h.server ≡ i → is_on fired on ≡ false)) → MayBeDue h.question.number new ⊎ (Sleeps h.server h.question.number on until new × (is_on fired on ≡ false))
        by (inl a) = inl a
        by (inr b) = inr (b.0, b.1 here)

    one_watched : (h : Pending) → IsWatched wt (server_of c.servers h.server).applied h → IsWatched new (server_of (set_server c.servers i x) h.server).applied h
    one_watched h w = at_item (λ (y : Server). IsWatched new y.applied h) no_server c.servers i x h.server
        (λ e. fired_watched wt new (applied_of c i) x.applied fired h spares (up h.question.number) (off_fired h e) (lines h.server h.question.number h.stand) (subst (λ k. IsWatched wt (server_of c.servers k).applied h) e w))
        (watched_by wt new (server_of c.servers h.server).applied h (up h.question.number) (still_asleep h) (lines h.server h.question.number h.stand) w)

    one_held : (h : Pending) → is_early (servers_of c) i h ≡ false → IsHeld c.servers c.asked h → standing.IsHeld new (set_server c.servers i x) c.asked h
    one_held h none held = record {
      numbered = held.numbered;
      taken = held.taken;
      awaited = at_item (λ (y : Server). IsAwaited (length y.applied) h.stand) no_server c.servers i x h.server
          (λ e. let same : length (server_of c.servers h.server).applied ≡ length (applied_of c i) = ap (λ k. length (server_of c.servers k).applied) e in
          let here : (h.server == i) ≡ true = ap (λ k. k == i) e ∙ eq_self i in
          awaited_next c i h.question.asked h.stand (length (server_of c.servers h.server).applied) (length x.applied) same (omega (arith, more, same))
          (not_due (h.server == i) (node_of c.world i).halted (is_stand_due (servers_of c) i h.question.asked h.stand) here none) held.awaited)
          held.awaited;
      watched = one_watched h held.watched;
    }

    pub all_held : (held : List Pending) → Each (λ (h : Pending). is_early (servers_of c) i h ≡ false) held → Each (IsHeld c.servers c.asked) held → Each (standing.IsHeld new (set_server c.servers i x) c.asked) held
    all_held [] none all = tt
    all_held (h ∷ held) none all = (one_held h none.0 all.0, all_held held none.1 all.1)

  -- a server's next position is applied, where nothing is due before
  applying_stands : (s : Servers) (r : Requests) (i : ℕ) (new : Watching) (fired : List Chan) → Stands s.world s.servers r
      → length (server_of s.servers i).applied < (node_of s.world i).commit → Each (λ (h : Pending). is_early s i h ≡ false) r.held
      → SparesOthers (commands_of (server_of s.servers i).applied) (commands_of (server_of (applies_next i s).servers i).applied) fired → StayAwake wt new → Wakes i fired new → length new.watch.servers ≡ length wt.watch.servers → SameLines wt new → new.seen ≡ wt.seen
      → standing.Stands new (applies_next i s).world (applies_next i s).servers r
  applying_stands s r i new fired a more none spares up wakes size lines seen =
      let o = entry_at (suc (length (server_of s.servers i).applied)) (node_of s.world i).log in
      let x = applies_entry (clock_of s.world i) (server_of s.servers i) o in
      let there : (0 < i) × (i ≤ length s.servers) = committing s.world s.servers i a.count more in
      let here : server_of (set_server s.servers i x) i ≡ x = item_same no_server s.servers i x there.0 there.1 in
      record {
        some = omega (arith, a.some, length_set_server s.servers i x);
        count = length_set_server s.servers i x ∙ a.count;
        watching = (size ∙ a.watching.0 ∙ sym (length_set_server s.servers i x), omega (arith, seen, a.watching.1));
        proposed = a.proposed;
        ascends = a.ascends;
        held = all_held (cluster_of s.world s.servers r) i x (one_longer (clock_of s.world i) (server_of s.servers i) o) new fired
            (subst (λ (y : Server). SparesOthers (commands_of (server_of s.servers i).applied) (commands_of y.applied) fired) here spares) up wakes (same_leave wt new lines) r.held none a.held;
      }

  pub applied_stands : (s next : Servers) (r : Requests) (i : ℕ) (new : Watching) (fired : List Chan) → Stands s.world s.servers r
      → length (server_of s.servers i).applied < (node_of s.world i).commit → Each (λ (h : Pending). is_early s i h ≡ false) r.held → next ≡ applies_next i s
      → SparesOthers (commands_of (server_of s.servers i).applied) (commands_of (server_of next.servers i).applied) fired → StayAwake wt new → Wakes i fired new → length new.watch.servers ≡ length wt.watch.servers → SameLines wt new → new.seen ≡ wt.seen
      → standing.Stands new next.world next.servers r
  applied_stands s next r i new fired stands more none is spares up wakes size lines seen =
      subst (λ (q : Servers). standing.Stands new q.world q.servers r) (sym is)
      (applying_stands s r i new fired stands more none (subst (λ (q : Servers). SparesOthers (commands_of (server_of s.servers i).applied) (commands_of (server_of q.servers i).applied) fired) is spares) up wakes size lines seen)
