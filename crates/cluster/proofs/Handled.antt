-- A request that was just noted is handled: it takes its number, and is refused or held.
use Rattle.std.proofs.Common.{◌≡◌, ◌≢◌, inl, inr, ℕ, suc, ◌+◌, ◌<◌, ◌≤◌, ◌||◌, true, false, length, take, List, [], ◌∷◌, ◌++◌, Option, Some, refl, sym, ap, ◌∙◌, subst, arith}
use Rattle.std.specs.List.{AllByRecursion as Each}
use Rattle.cat_model.specs.declared.request.Asked.{Asked}
use Rattle.cat_model.specs.declared.request.Draw.{Draw}
use Rattle.cat_model.specs.declared.request.Mode.{Mode}
use Rattle.cat_model.specs.declared.request.Asked.TheVariants.{Good}
use Rattle.cat_model.specs.declared.request.Mode.TheVariants.{Consistent, Default}
use Rattle.cat_model.specs.declared.request.Request.TheVariants.{Renew, Write}
use Rattle.cat_model.specs.declared.row.SessionRow.{SessionRow}
use Rattle.cat_model.specs.declared.command.Command.{Command}
use Rattle.cat_model.specs.Catalog.{session_at}
use Rattle.cat_model.specs.Log.{commands_of}
use Rattle.cat_model.specs.Machine.{catalog_at}
use Rattle.cat_model.specs.declared.reply.Kind.{Kind}
use Rattle.cat_model.specs.declared.reply.Kind.TheVariants.{Delayed, Refused, Seen}
use Rattle.cat_model.specs.declared.reply.Refusal.{Refusal}
use Rattle.cat_model.specs.declared.reply.Refusal.TheVariants as refusal
use Rattle.raft_model.specs.Log.{Log, last_term}
use Rattle.raft_model.specs.Node.{set_server}
use Rattle.raft_model.specs.World.{World}
use Rattle.cat_model.specs.Taken.{IsTakenAsked}
use Rattle.cluster_rules.specs.Cluster.{Cluster, ForIndex, Looked, Pending, Server, Stand, Start, applied_of, clock_of, node_of, server_of, until_at, with_office}
use Rattle.cluster_rules.specs.Due.{answered}
use Rattle.cluster_rules.specs.Replies.{Content, Defers, Question, Renews, Says, shown, shown_delay, shown_seen}
use Rattle.cluster_rules.specs.Requests.{delayed_at, delays, holding, is_ready, is_stale_read, look_of, refused, renews, unready, reads, wait_of}
use Rattle.cluster_rules.specs.Sound.{Ascends}
use Rattle.cluster_rules.proofs.Tools.{each_append, each_map, neither, one_of}
use Rattle.cluster_order.specs.Turns.{HandlesNewest, IsCome, newest, numbered}
use Rattle.cluster_requests.specs.Past.{IsMadeLast}
use Rattle.cluster_requests.specs.Requests.{Requests, answered_with, cluster_of as whole_of, holding_with, numbered_with, used}
use Rattle.cluster_works.specs.Standing as standing
use Rattle.cluster_works.specs.Standing.{IsAwaited}
use Rattle.cluster_rules.specs.Offices.{Office, renew_in}
use Rattle.cluster_replicas.specs.Servers.{Servers, officed}
use Rattle.cluster_works.proofs.Acting.{stands_officed}
use Rattle.cluster_works.proofs.Kept.{answer_stands}
use Rattle.cluster.proofs.Notes.{come_made, numbers_by}
use Rattle.cluster.proofs.Results.{stands_alike, stands_more}
use Rattle.cluster.proofs.Taken.{delayed_as_asked}
use Rattle.cluster_rules.specs.Agents.{Agent}
use Rattle.cluster_works.specs.Watching.{Watching}

module _ (gs : List Agent) (wt : Watching) where
  -- the cluster of these parts, with these agents
  abbrev cluster_of : World → List Server → Requests → Cluster
  cluster_of w servers r = whole_of w servers gs r

  abbrev Stands : World → List Server → Requests → Type 0
  Stands w servers r = standing.Stands wt w servers r

  abbrev IsHeld : List Server → ℕ → Pending → Type 0
  IsHeld servers asked h = standing.IsHeld wt servers asked h

  -- what a request that came last is handled on
  pub record Comes (w : World) (servers : List Server) (r : Requests) (c : Cluster) (agent : ℕ) (asked : Asked) (draw : Draw) : Type 0 where
    pub stands : Stands w servers r
    pub view : cluster_of w servers r ≡ c
    pub come : IsCome agent asked draw c.past

  module _ (w : World) (servers : List Server) (r : Requests) (c : Cluster) (agent : ℕ) (asked : Asked) (draw : Draw) (at : Comes w servers r c agent asked draw) where
    pub made_last : (p : Requests) → p ≡ record r { room = 4 } → IsMadeLast p.past
    made_last p e = subst (λ (q : Requests). IsMadeLast q.past) (sym e) (come_made agent asked draw r.past (subst (λ (d : Cluster). IsCome agent asked draw d.past) (sym at.view) at.come))

    pub numbered_cluster : cluster_of w servers (used (numbered_with agent asked draw (record r { room = 4 }))) ≡ numbered agent asked draw c
    numbered_cluster = numbers_by w servers gs r agent asked draw ∙ ap (numbered agent asked draw) at.view

    pub numbered_stands : Stands w servers (used (numbered_with agent asked draw (record r { room = 4 })))
    numbered_stands = let more : r.asked ≤ r.asked + 1 = omega arith in stands_more at.stands refl more refl

    -- its number in the rules
    pub number_is : (newest agent asked draw (numbered agent asked draw c)).number ≡ r.asked + 1
    number_is = let next : suc r.asked ≡ r.asked + 1 = omega arith in ap (λ (d : Cluster). suc d.asked) (sym at.view) ∙ next

  -- a refusal in the rules
  refuses : (w : World) (servers : List Server) (r : Requests) (q : Question) (why : Refusal) → cluster_of w servers (used (answered_with q.number (Refused why) false 0 (Says why) r)) ≡ refused q why (cluster_of w servers r)
  unfolding shown
  refuses w servers r q why = refl

  pub refuses_as : (w : World) (servers : List Server) (r new : Requests) (q : Question) (why : Refusal) (c : Cluster) (number : ℕ) → q.number ≡ number → cluster_of w servers r ≡ c → new ≡ used (answered_with number (Refused why) false 0 (Says why) r)
      → cluster_of w servers new ≡ refused q why c
  refuses_as w servers r new q why c number n view e =
      ap (cluster_of w servers) e ∙ ap (λ k. cluster_of w servers (used (answered_with k (Refused why) false 0 (Says why) r))) (sym n) ∙ refuses w servers r q why ∙ ap (refused q why) view

  -- a request that is answered
  answer_leaves : (w : World) (servers : List Server) (r new : Requests) (number : ℕ) (kind : Kind) (content : Content) → Stands w servers r → new ≡ used (answered_with number kind false 0 content r) → Stands w servers new
  answer_leaves w servers r new number kind content s e = stands_alike (answer_stands wt w servers r number kind false 0 content s) e refl refl

  pub refusal_stands : (w : World) (servers : List Server) (r new : Requests) (number : ℕ) (why : Refusal) → Stands w servers r → new ≡ used (answered_with number (Refused why) false 0 (Says why) r) → Stands w servers new
  refusal_stands w servers r new number why s e = answer_leaves w servers r new number (Refused why) (Says why) s e

  pub unready_handles : (w : World) (servers : List Server) (r r' : Requests) (c : Cluster) (i agent : ℕ) (asked : Asked) (draw : Draw) (number term applied : ℕ) → Comes w servers r c agent asked draw → (is_stale_read asked || is_ready c i) ≡ false
      → number ≡ r.asked + 1 → term ≡ (node_of c.world i).term → applied ≡ last_term (applied_of c i)
      → r' ≡ used (answered_with number (Refused (refusal.NotReady term applied)) false 0 (Says (refusal.NotReady term applied)) (used (numbered_with agent asked draw (record r { room = 4 }))))
      → HandlesNewest i agent asked draw c (cluster_of w servers r')
  unready_handles w servers r r' c i agent asked draw number term applied at stays n t l e =
      let c₁ = numbered agent asked draw c in
      let q = newest agent asked draw c₁ in
      let done = refuses_as w servers (used (numbered_with agent asked draw (record r { room = 4 }))) r' q (refusal.NotReady term applied) c₁ number (number_is w servers r c agent asked draw at ∙ sym n) (numbered_cluster w servers r c agent asked draw at) e in
      let waits = neither (is_stale_read asked) (is_ready c i) stays in
      unready waits.0 waits.1 (done ∙ ap (λ k. refused q (refusal.NotReady k applied) c₁) t ∙ ap (λ k. refused q (refusal.NotReady (node_of c.world i).term k) c₁) l)

  pub unready_stands : (w : World) (servers : List Server) (r r' : Requests) (c : Cluster) (agent : ℕ) (asked : Asked) (draw : Draw) (number : ℕ) (why : Refusal) → Comes w servers r c agent asked draw
      → r' ≡ used (answered_with number (Refused why) false 0 (Says why) (used (numbered_with agent asked draw (record r { room = 4 })))) → Stands w servers r'
  unready_stands w servers r r' c agent asked draw number why at e = refusal_stands w servers (used (numbered_with agent asked draw (record r { room = 4 }))) r' number why (numbered_stands w servers r c agent asked draw at) e

  ascends_last : (hs : List Pending) (h : Pending) → Ascends hs → Each (λ (g : Pending). g.question.number < h.question.number) hs → Ascends (hs ++ h ∷ [])
  ascends_last [] h a b = (tt, tt)
  ascends_last (g ∷ hs) h a b = (each_append (λ (x : Pending). g.question.number < x.question.number) hs (h ∷ []) a.0 (b.0, tt), ascends_last hs h a.1 b.1)

  -- a request that is held behind all others
  pub hold_stands : (w : World) (servers : List Server) (r new : Requests) (q : Question) (i : ℕ) (stand : Stand) (start : Start) → Stands w servers r → Each (λ (h : Pending). h.question.number < q.number) r.held → q.number ≤ r.asked → IsTakenAsked q.asked
      → IsAwaited (length (server_of servers i).applied) stand → wt.seen < q.number → new ≡ used (holding_with q i stand start r) → Stands w servers new
  hold_stands w servers r new q i stand start s below given taken awaited fresh e =
      let h : Pending = record { question = q; server = i; stand = stand } in
      subst (Stands w servers) (sym e) (record {
        some = s.some;
        count = s.count;
        watching = s.watching;
        proposed = s.proposed;
        ascends = ascends_last r.held h s.ascends below;
        held = each_append (IsHeld servers r.asked) r.held (h ∷ []) s.held (record { numbered = given; taken = taken; awaited = awaited; watched = inl (inl fresh) }, tt);
      })

  pub holds_as : (w : World) (servers : List Server) (r new : Requests) (q : Question) (i : ℕ) (stand : Stand) (start : Start) (c : Cluster) → cluster_of w servers r ≡ c → new ≡ used (holding_with q i stand start r) → cluster_of w servers new ≡ holding q i stand start c
  holds_as w servers r new q i stand start c view e = ap (cluster_of w servers) e ∙ ap (holding q i stand start) view

  -- all that are held have numbers below the next one
  pub below_next : (w : World) (servers : List Server) (r : Requests) (number : ℕ) → Stands w servers r → number ≡ r.asked + 1 → Each (λ (h : Pending). h.question.number < number) r.held
  below_next w servers r number s n = each_map (IsHeld servers r.asked) (λ (h : Pending). h.question.number < number) (λ h l. omega (arith, l.numbered, n)) r.held s.held

  -- a read that needs no round is held, to be looked for at once
  pub read_handles : (w : World) (servers : List Server) (r r' : Requests) (c : Cluster) (i agent : ℕ) (asked : Asked) (draw : Draw) (mode : Mode) (wait number deadline applied : ℕ) →
      Comes w servers r c agent asked draw → IsTakenAsked asked → look_of asked ≡ Some (mode, wait) → mode ≢ Consistent → (is_stale_read asked || is_ready c i) ≡ true → number ≡ r.asked + 1 → deadline ≡ clock_of c.world i + wait_of wait → applied ≡ length (applied_of c i)
      → r' ≡ used (holding_with (record { number = number; agent = agent; asked = asked; draw = draw }) i (ForIndex deadline false) (Looked number i applied) (used (numbered_with agent asked draw (record r { room = 4 }))))
      → HandlesNewest i agent asked draw c (cluster_of w servers r') × Stands w servers r'
  read_handles w servers r r' c i agent asked draw mode wait number deadline applied at taken look other go n d l e =
      let c₁ = numbered agent asked draw c in
      let r₂ = used (numbered_with agent asked draw (record r { room = 4 })) in
      let q : Question = record { number = number; agent = agent; asked = asked; draw = draw } in
      let same : q ≡ newest agent asked draw c₁ = ap (λ k. record { number = k; agent = agent; asked = asked; draw = draw }) (n ∙ sym (number_is w servers r c agent asked draw at)) in
      let done = holds_as w servers r₂ r' q i (ForIndex deadline false) (Looked number i applied) c₁ (numbered_cluster w servers r c agent asked draw at) e in (
        reads mode wait look other (one_of (is_stale_read asked) (is_ready c i) go)
            (done ∙ ap (λ (p : Question). holding p i (ForIndex deadline false) (Looked p.number i applied) c₁) same
            ∙ ap (λ k. holding (newest agent asked draw c₁) i (ForIndex k false) (Looked (newest agent asked draw c₁).number i applied) c₁) d
            ∙ ap (λ k. holding (newest agent asked draw c₁) i (ForIndex (clock_of c.world i + wait_of wait) false) (Looked (newest agent asked draw c₁).number i k) c₁) l),
        hold_stands w servers r₂ r' q i (ForIndex deadline false) (Looked number i applied) (numbered_stands w servers r c agent asked draw at) (below_next w servers r number at.stands n) (omega (arith, n)) taken tt (omega (arith, n, at.stands.watching.1)) e,
      )

  -- A request that is answered at once, by what its server has applied.
  answers_as : (w : World) (servers : List Server) (r new : Requests) (q : Question) (kind : Kind) (content : Content) (log : Log) (c : Cluster) (number : ℕ) → q.number ≡ number → content ≡ shown q kind log → cluster_of w servers r ≡ c
      → new ≡ used (answered_with number kind false 0 content r) → cluster_of w servers new ≡ answered q kind false 0 log c
  answers_as w servers r new q kind content log c number n is view e =
      ap (cluster_of w servers) e ∙ ap (λ k. cluster_of w servers (used (answered_with k kind false 0 content r))) (sym n)
      ∙ ap (λ (x : Content). cluster_of w servers (used (answered_with q.number kind false 0 x r))) is ∙ ap (answered q kind false 0 log) view

  -- what a write shows that a lock delay refuses
  delay_shown : (q : Question) (c : Cluster) (i : ℕ) (command : Command) (key : List ℕ) (until now : ℕ) (log : Log) → q.asked ≡ Good (Write command) → delayed_at c i command ≡ Some key → Defers command key ≡ shown q (Delayed key until now) log
  unfolding shown
  delay_shown q c i command key until now log e d =
      subst (λ (a : Asked). Defers command key ≡ shown_delay q a key) (sym e) (ap (λ (x : Command). Defers x key) (sym (delayed_as_asked q (until_at c i) (clock_of c.world i) command key d)))

  -- a write that a lock delay refuses
  pub delay_handles : (w : World) (servers : List Server) (r r' : Requests) (c : Cluster) (i agent : ℕ) (asked : Asked) (draw : Draw) (command : Command) (key : List ℕ) (number until now : ℕ) →
      Comes w servers r c agent asked draw → asked ≡ Good (Write command) → is_ready c i ≡ true → delayed_at c i command ≡ Some key → number ≡ r.asked + 1 → until ≡ until_at c i key → now ≡ clock_of c.world i
      → r' ≡ used (answered_with number (Delayed key until now) false 0 (Defers command key) (used (numbered_with agent asked draw (record r { room = 4 }))))
      → HandlesNewest i agent asked draw c (cluster_of w servers r') × Stands w servers r'
  delay_handles w servers r r' c i agent asked draw command key number until now at is ready delayed n u t e =
      let c₁ = numbered agent asked draw c in
      let r₂ = used (numbered_with agent asked draw (record r { room = 4 })) in
      let q = newest agent asked draw c₁ in
      let done = answers_as w servers r₂ r' q (Delayed key until now) (Defers command key) [] c₁ number (number_is w servers r c agent asked draw at ∙ sym n) (delay_shown q c i command key until now [] is delayed) (numbered_cluster w servers r c agent asked draw at) e in (
        delays command key is (inr ready) delayed
            (done ∙ ap (λ k. answered q (Delayed key k now) false 0 [] c₁) u ∙ ap (λ k. answered q (Delayed key (until_at c i key) k) false 0 [] c₁) t),
        answer_leaves w servers r₂ r' number (Delayed key until now) (Defers command key) (numbered_stands w servers r c agent asked draw at) e,
      )

  -- what a renewal shows
  all_taken : (log : Log) → take (length log) log ≡ log
  all_taken [] = refl
  all_taken (x ∷ log) = ap (λ l. x ∷ l) (all_taken log)

  renewal_shown : (q : Question) (id : ℕ) (log : Log) → q.asked ≡ Good (Renew id) → Renews (session_at id (catalog_at (commands_of log)).sessions) ≡ shown q (Seen Default (length log)) log
  unfolding shown
  renewal_shown q id log e =
      subst (λ (a : Asked). Renews (session_at id (catalog_at (commands_of log)).sessions) ≡ shown_seen a (length log) log) (sym e)
      (ap (λ (l : Log). Renews (session_at id (catalog_at (commands_of l)).sessions)) (sym (all_taken log)))

  -- a session is renewed, where there is one
  abbrev renewing : ℕ → ℕ → World → List Server → Office
  renewing i id w servers = renew_in (session_at id (catalog_at (commands_of (server_of servers i).applied)).sessions) (clock_of w i) (server_of servers i).office

  pub renew_handles : (s s' : Servers) (r r' : Requests) (c : Cluster) (i agent : ℕ) (asked : Asked) (draw : Draw) (id number applied : ℕ) (row : Option SessionRow) →
      Comes s.world s.servers r c agent asked draw → s' ≡ officed i (renew_in (session_at id (catalog_at (commands_of (server_of s.servers i).applied)).sessions) (clock_of s.world i) (server_of s.servers i).office) s
      → asked ≡ Good (Renew id) → is_ready c i ≡ true → number ≡ r.asked + 1 → applied ≡ length (server_of s.servers i).applied → row ≡ session_at id (catalog_at (commands_of (server_of s.servers i).applied)).sessions
      → (let r₂ = used (numbered_with agent asked draw (record r { room = 4 })) in r' ≡ used (answered_with number (Seen Default applied) false 0 (Renews row) (record r₂ { starts = Looked number i applied ∷ r₂.starts })))
      → HandlesNewest i agent asked draw c (cluster_of s'.world s'.servers r') × Stands s'.world s'.servers r'
  renew_handles s s' r r' c i agent asked draw id number applied row at moved_to is ready n l known e =
      subst (λ (z : Servers). HandlesNewest i agent asked draw c (cluster_of z.world z.servers r') × Stands z.world z.servers r') (sym moved_to)
      (subst (λ (d : Cluster). HandlesNewest i agent asked draw d (cluster_of s.world new r') × Stands s.world new r') at.view (handled, stands))
    where
      office : Office
      office = renewing i id s.world s.servers

      new : List Server
      new = set_server s.servers i (record (server_of s.servers i) { office = office })

      own : Cluster
      own = cluster_of s.world s.servers r

      here : Comes s.world s.servers r own agent asked draw
      here = record { stands = at.stands; view = refl; come = subst (λ (d : Cluster). IsCome agent asked draw d.past) (sym at.view) at.come }

      c₁ : Cluster
      c₁ = numbered agent asked draw own

      q : Question
      q = newest agent asked draw c₁

      r₂ : Requests
      r₂ = used (numbered_with agent asked draw (record r { room = 4 }))

      r₃ : Requests
      r₃ = record r₂ { starts = Looked number i applied ∷ r₂.starts }

      log : Log
      log = (server_of s.servers i).applied

      begun : Cluster
      begun = with_office i office (record c₁ { starts = Looked q.number i (length log) ∷ c₁.starts })

      same_number : q.number ≡ number
      same_number = number_is s.world s.servers r own agent asked draw here ∙ sym n

      before : cluster_of s.world new r₃ ≡ begun
      before =
          ap (λ (d : Cluster). with_office i office (record d { starts = Looked number i applied ∷ d.starts })) (numbered_cluster s.world s.servers r own agent asked draw here)
          ∙ ap (λ k. with_office i office (record c₁ { starts = Looked k i applied ∷ c₁.starts })) (sym same_number)
          ∙ ap (λ k. with_office i office (record c₁ { starts = Looked q.number i k ∷ c₁.starts })) l

      shown_is : Renews row ≡ shown q (Seen Default applied) log
      shown_is = ap Renews known ∙ renewal_shown q id log is ∙ ap (λ k. shown q (Seen Default k) log) (sym l)

      handled : HandlesNewest i agent asked draw own (cluster_of s.world new r')
      handled = renews id is (inr (subst (λ (d : Cluster). is_ready d i ≡ true) (sym at.view) ready))
          (answers_as s.world new r₃ r' q (Seen Default applied) (Renews row) log begun number same_number shown_is before e ∙ ap (λ k. answered q (Seen Default k) false 0 log begun) l)

      stands : Stands s.world new r'
      stands = answer_leaves s.world new r₃ r' number (Seen Default applied) (Renews row) (stands_alike officed_stands refl refl refl) e
        where
          officed_stands : Stands s.world new r₂
          officed_stands = stands_officed gs wt i office s.world s.servers r₂ (numbered_stands s.world s.servers r own agent asked draw here)
