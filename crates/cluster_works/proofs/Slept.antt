-- A read that waits for an index goes to sleep where nothing is due.
use Rattle.std.proofs.Common.{◌≡◌, ◌≢◌, ◌⊎◌, inl, inr, ℕ, ◌≤◌, ◌==◌, ◌&&◌, ◌||◌, Bool, true, false, nat_le, nat_lt, length, List, [], ◌∷◌, Option, None, Some, is_some, refl, sym, ap, ◌∙◌, subst, arith}
use Rattle.std.specs.List.{AllByRecursion as Each}
use Rattle.cat_model.specs.Channels.{chans}
use Rattle.cat_model.specs.Indexes.{index_of}
use Rattle.cat_model.specs.Log.{commands_of}
use Rattle.cat_model.specs.Machine.{catalog_at}
use Rattle.cat_model.specs.declared.query.Chan.{Chan}
use Rattle.cat_model.specs.declared.query.Query.{Query}
use Rattle.cat_model.specs.declared.request.Asked.{Asked}
use Rattle.cat_model.specs.declared.request.Asked.TheVariants.{Good}
use Rattle.cat_model.specs.declared.request.Mode.{Mode}
use Rattle.cat_model.specs.declared.request.Request.TheVariants.{Read}
use Rattle.raft_model.proofs.Tests.{at_bool, eq_tells, lt_tells_not}
use Rattle.raft_model.specs.World.{World}
use Rattle.cluster_rules.specs.Cluster.{Cluster, ForIndex, Pending, Server, Stand, applied_of, clock_of, node_of, server_of}
use Rattle.cluster_rules.specs.Due.{Work, due, early_work, first_work}
use Rattle.cluster_rules.proofs.Steps.{or_left, or_right}
use Rattle.cluster_rules.proofs.Tools.{eq_self, eq_tells_not, neither}
use Rattle.cluster_requests.specs.Requests.{Requests, cluster_of}
use Rattle.cluster_works.specs.Looking.{is_early, is_look_due, is_stand_due, numbered_in, servers_of}
use Rattle.cluster_works.specs.Standing.{IsWatched, Stands}
use Rattle.cluster_works.specs.Watching.{MayBeDue, SameLines, Sleeps, Watching}
use Rattle.cluster_works.proofs.Finding.{early_is}
use Rattle.cluster_works.proofs.Numbered.{each_numbered, each_one, none_found, number_of_found, one_found}
use Rattle.cluster_works.proofs.Watched.{others_stand, rests_so, same_leave}

-- no request of this number is held
pub gone_stands : (old new : Watching) (w : World) (servers : List Server) (r : Requests) (number : ℕ) → numbered_in number r.held ≡ None → ((n : ℕ) → n ≢ number → MayBeDue n old → MayBeDue n new)
    → ((i n : ℕ) (on : List Chan) (until : ℕ) → n ≢ number → Sleeps i n on until old → Sleeps i n on until new) → length new.watch.servers ≡ length old.watch.servers → SameLines old new → new.seen ≡ old.seen → Stands old w servers r → Stands new w servers r
gone_stands old new w servers r number none up down size lines seen s =
    others_stand old new w servers r number up down size (λ i n stand _ waits. same_leave old new lines i n stand waits) (omega (arith, seen, s.watching.1)) (go r.held (none_found (λ (h : Pending). h.question.number == number) r.held none)) s
  where
    go : (held : List Pending) → Each (λ (h : Pending). (h.question.number == number) ≡ false) held → Each (λ (h : Pending). (h.question.number ≢ number) ⊎ IsWatched new (server_of servers h.server).applied h) held
    go [] all = tt
    go (h ∷ held) all = (inl (eq_tells_not h.question.number number all.0), go held all.1)

-- Where nothing is due at its server, the index of a read that waits is not above the one given.
pub none_first : (f : Pending → Option Work) (hs : List Pending) → first_work f hs ≡ None → Each (λ h. f h ≡ None) hs
none_first f [] e = tt
none_first f (h ∷ hs) e = (or_left (f h) (first_work f hs) e, none_first f hs (or_right (f h) (first_work f hs) e))

pub not_above : (wt : Watching) (c : Cluster) (i : ℕ) (h : Pending) (query : Query) (mode : Mode) (least wait : ℕ) (raw : Bool) (deadline number : ℕ) → due i c ≡ None → numbered_in number c.held ≡ Some h → h.server ≡ i
    → h.question.asked ≡ Good (Read query mode least wait raw) → h.stand ≡ ForIndex deadline true → index_of query (commands_of (applied_of c i)) ≤ least
not_above wt c i h query mode least wait raw deadline number none found here asked stand =
    let o = one_found (λ (g : Pending). g.question.number == number) c.held h found in
    let nothing : early_work c i h ≡ None = each_one (λ (g : Pending). early_work c i g ≡ None) (λ (g : Pending). g.question.number == number) c.held h o (none_first (early_work c i) c.held (or_left (first_work (early_work c i) c.held) _ none)) in
    let fails : is_early (servers_of c) i h ≡ false = early_is c i h ∙ ap is_some nothing in
    let at : (h.server == i) ≡ true = ap (λ k. k == i) here ∙ eq_self i in
    let rest : ((node_of c.world i).halted || is_stand_due (servers_of c) i h.question.asked h.stand) ≡ false = ap (λ b. b && ((node_of c.world i).halted || is_stand_due (servers_of c) i h.question.asked h.stand)) (sym at) ∙ fails in
    let stays = (neither (node_of c.world i).halted (is_stand_due (servers_of c) i h.question.asked h.stand) rest).1 in
    let looks : is_look_due (servers_of c) i deadline true (Good (Read query mode least wait raw)) ≡ false = sym (ap (λ (a : Asked). is_look_due (servers_of c) i deadline true a) asked) ∙ sym (ap (λ (s : Stand). is_stand_due (servers_of c) i h.question.asked s) stand) ∙ stays in
    lt_tells_not least (index_of query (commands_of (applied_of c i))) ((neither (nat_le deadline (clock_of c.world i)) (nat_lt least (index_of query (commands_of (applied_of c i)))) looks).1)

-- It sleeps, or there was no memory.
pub slept_stands : (old new : Watching) (w : World) (servers : List Server) (r : Requests) (c : Cluster) (i : ℕ) (h : Pending) (query : Query) (mode : Mode) (least wait : ℕ) (raw : Bool) (deadline number : ℕ) (on : List Chan)
    → Stands old w servers r → cluster_of w servers [] r ≡ c → due i c ≡ None → numbered_in number r.held ≡ Some h → h.server ≡ i → h.question.asked ≡ Good (Read query mode least wait raw) → h.stand ≡ ForIndex deadline true
    → on ≡ chans query (catalog_at (commands_of (server_of servers i).applied)) → ((n : ℕ) → n ≢ number → MayBeDue n old → MayBeDue n new) → ((j n : ℕ) (at : List Chan) (until : ℕ) → n ≢ number → Sleeps j n at until old → Sleeps j n at until new)
    → MayBeDue number new ⊎ Sleeps i number on deadline new → length new.watch.servers ≡ length old.watch.servers → SameLines old new → new.seen ≡ old.seen → Stands new w servers r
slept_stands old new w servers r c i h query mode least wait raw deadline number on s view none found here asked stand hangs up down rests size lines seen =
    others_stand old new w servers r number up down size (λ j n at _ waits. same_leave old new lines j n at waits) (omega (arith, seen, s.watching.1)) (go r.held (each_numbered r.held s.ascends)) s
  where
    own : Cluster
    own = cluster_of w servers [] r

    low : index_of query (commands_of (server_of servers i).applied) ≤ least
    low = not_above old own i h query mode least wait raw deadline number (subst (λ (d : Cluster). due i d ≡ None) (sym view) none) found here asked stand

    numbered : h.question.number ≡ number
    numbered = number_of_found number r.held h found

    asleep : MayBeDue number new ⊎ Sleeps i number on deadline new → IsWatched new (server_of servers h.server).applied h
    asleep (inl awake) = inl (subst (λ k. MayBeDue k new) (sym numbered) awake)
    asleep (inr sleeps) = inr (inl (rests_so new (server_of servers h.server).applied h.server h.question.number h.question.asked h.stand (record {
      query = query;
      mode = mode;
      least = least;
      wait = wait;
      raw = raw;
      deadline = deadline;
      asked_is = asked;
      stand_is = stand;
      sleeps = subst (λ k. Sleeps k h.question.number (chans query (catalog_at (commands_of (server_of servers k).applied))) deadline new) (sym here)
          (subst (λ k. Sleeps i k (chans query (catalog_at (commands_of (server_of servers i).applied))) deadline new) (sym numbered) (subst (λ (l : List Chan). Sleeps i number l deadline new) hangs sleeps));
      low = subst (λ k. index_of query (commands_of (server_of servers k).applied) ≤ least) (sym here) low;
    })))

    one : (g : Pending) → numbered_in g.question.number r.held ≡ Some g → (g.question.number ≢ number) ⊎ IsWatched new (server_of servers g.server).applied g
    one g mine = at_bool (λ b. (g.question.number == number) ≡ b → (g.question.number ≢ number) ⊎ IsWatched new (server_of servers g.server).applied g) (g.question.number == number)
        (λ _ e. let same : h ≡ g = some_same h g (sym found ∙ ap (λ k. numbered_in k r.held) (sym (eq_tells g.question.number number e)) ∙ mine) in inr (subst (λ (x : Pending). IsWatched new (server_of servers x.server).applied x) same (asleep rests)))
        (λ _ e. inl (eq_tells_not g.question.number number e)) refl
      where
        some_same : (x y : Pending) → Some x ≡ Some y → x ≡ y
        some_same x y e = cc e

    go : (held : List Pending) → Each (λ (g : Pending). numbered_in g.question.number r.held ≡ Some g) held → Each (λ (g : Pending). (g.question.number ≢ number) ⊎ IsWatched new (server_of servers g.server).applied g) held
    go [] all = tt
    go (g ∷ held) all = (one g all.0, go held all.1)
