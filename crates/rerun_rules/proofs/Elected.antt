-- Over empty stores server 1 is elected, once nothing is on its way any more.
use Rattle.std.proofs.Common.{◌≡◌, ◌≢◌, ℕ, zero, suc, ◌+◌, ◌-◌, ◌^◌, ◌<◌, ◌≤◌, ◌⊎◌, inl, inr, Bool, true, cond, List, [], ◌∷◌, ◌++◌, length, get_or, Option, Some, None, refl, sym, ◌∙◌, ap, subst, arith}
use Rattle.std.specs.Prelude.{◌==◌}
use Rattle.cat_model.specs.declared.request.Event.{Event}
use Rattle.cat_model.specs.declared.request.Event.TheVariants as event
use Rattle.cat_model.specs.declared.reply.Role.TheVariants.{Follower, Leader}
use Rattle.raft_model.specs.declared.message.Message.{Message}
use Rattle.raft_model.specs.declared.message.Message.TheVariants.{Append, AskVote, No, Vote, Yes}
use Rattle.raft_model.specs.declared.message.Sent.{Sent}
use Rattle.raft_model.specs.Log.{IsUpToDate, Log, last_term}
use Rattle.raft_model.specs.Node.{Kept, Node, Store, begun, of_server, to_others}
use Rattle.raft_model.specs.Rules.{Receive, Timeout, done, term_of, with_voter}
use Rattle.raft_model.specs.Step.{Forgets, Starts}
use Rattle.raft_model.specs.World.{Acts as NodeActs, Bag, Begins, Drops, Packet, StartAll, World, WorldStep, nothing_kept, numbered, posted_all, without}
use Rattle.raft_model.proofs.Moving.{reads_told}
use Rattle.raft_model.proofs.Tests.{at_bool, eq_tells}
use Rattle.cluster_rules.specs.Cluster.{Cluster, no_node, node_of, runs_leading}
use Rattle.cluster_rules.specs.Reached.{IsBegun, Makes, Move, Reached, at_start, by_advancing, by_event, by_handing, by_settling, by_taking}
use Rattle.cluster_rules.specs.Sound.{IsAmong}
use Rattle.cluster_rules.specs.Step.{ClusterStep, received}
use Rattle.cluster_rules.proofs.Tools.{both, each_map, is_place, there_or_none}
use Rattle.run_rules.specs.Serving.{AreServing, Serves}
use Rattle.rerun_rules.specs.Leading.{Election, HoldBehind, IsAheadBy, LaterElection, OnlyDelivered}
use Rattle.rerun_rules.proofs.Ahead.{IsAhead, IsFirsts, StaysAhead, acts_ahead}
use Rattle.rerun_rules.proofs.Bags.{among_left, among_without, each_numbered, each_without, without_then}
use Rattle.rerun_rules.proofs.Beginning.{ahead_foremost, empty_ahead, runs_on, start_ahead}
use Rattle.rerun_rules.proofs.Canvass.{Canvass, IsAsk, IsBallot, IsGrant, ask_came, canvass_begins, few, few_bytes, grant_came, none_left, packet_of, posted_is, worth_without}
use Rattle.rerun_rules.proofs.Rested.{start_length}
use Rattle.rerun_rules.proofs.Serving.{run_ahead}
use Rattle.rerun_rules.proofs.Delivering.{ReignOf, reign_of, reign_on}
use Rattle.rerun_rules.proofs.Reigning.{Calls, IsMail, Reign, calls, packets_of, posted_are, reign_begins}
use Rattle.rerun_rules.proofs.Spreading.{Opens, Reigns, all_have, reigns_stored}
use Rattle.rerun_rules.proofs.Stepping.{bag_then, count, now, others, place, was, well}
use Rattle.rerun_rules.proofs.Taking.{TakesTo, step_loses, step_takes}
use Rattle.rerun_rules.proofs.Winning.{HasRoom, IsAppend, Wins, all_behind, all_posted_in, done_led, numbered_then}
use Rattle.rerun_rules.proofs.Voting.{Asks, Counts, Grants, IsOpen, IsShort, done_alone, done_asks, done_counts, done_grants, open_plain, standing_short}

module _ (term : ℕ) (mine : Log) where
  -- The canvass in a world, with these messages still to come.
  abbrev CanvassOf : World → List Packet → Type 0
  CanvassOf w ps = Canvass (length w.nodes) term mine (node_of w) w.bag.last ps

  -- each other server holds server 1 for leader, or will, since an Append to it is still to come
  abbrev IsHeard : World → List Packet → Type 0
  IsHeard w ps = (j : ℕ) → 1 < j → j ≤ length w.nodes → ((p : Packet) × IsAmong p ps × (p.to ≡ j) × IsAppend p.message) ⊎ ((node_of w j).leader ≡ Some 1)

  -- it began in term 1 with nothing in its log
  abbrev IsPlain : Type 0
  IsPlain = (term ≡ 1) × (mine ≡ [])

  -- server 1 leads, or it canvasses
  abbrev Elects : World → List Packet → Type 0
  Elects w ps = (((node_of w 1).role ≡ Leader) × IsHeard w ps × (IsPlain → ReignOf w ps)) ⊎ CanvassOf w ps

  -- A delivery.
  module _ (w : World) (k : ℕ) (p : Packet) (w' : World) (ahead : IsAhead w) (c : CanvassOf w w.bag.packets) (e : numbered k w.bag.packets ≡ Some p) (a : NodeActs w p.to (Receive p.from p.message) w') (r : a.outcome ≢ Forgets) where
    ask_delivered : IsAsk (length w.nodes) term mine p → CanvassOf w' (without k w'.bag.packets)
    ask_delivered ask =
        subst (λ n. Canvass n term mine (node_of w') w'.bag.last (without k w'.bag.packets)) (sym (count w p.to _ w' ahead a r))
        (subst (λ (b : Bag). Canvass (length w.nodes) term mine (node_of w') b.last (without k b.packets)) (sym bag_is)
        (subst (Canvass (length w.nodes) term mine (node_of w') (suc w.bag.last)) (sym (without_then k w.bag.packets (v ∷ []) p e))
        (ask_came (length w.nodes) term mine w.bag.last (node_of w) (node_of w') k w.bag.packets p v c e ask (ask.1, ask.2, refl, refl) refl open_ (others w p.to _ w' ahead a r))))
      where
        v : Packet
        v = packet_of p.to (record { to = 1; message = Vote term true }) w.bag

        g : Grants term mine (done a.old (Receive p.from p.message))
        g = subst (λ f. Grants term mine (done a.old (Receive f p.message))) (sym ask.0) (subst (λ m. Grants term mine (done a.old (Receive 1 m))) (sym ask.3)
            (done_grants term mine a.old (well w p.to _ w' ahead a r).runs (subst (IsOpen term mine) (was w p.to _ w' ahead a r) (c.unvoted p.to ask.1 ask.2))))

        bag_is : w'.bag ≡ record { packets = w.bag.packets ++ v ∷ []; last = suc w.bag.last }
        bag_is = bag_then w p.to _ w' ahead a r ∙ ap (λ (s : List Sent). posted_all p.to s w.bag) g.sent ∙ posted_is (length w.nodes) term mine p.to (record { to = 1; message = Vote term true }) w.bag refl c.ballots c.small

        open_ : IsOpen term mine (node_of w' p.to)
        open_ = subst (IsOpen term mine) (sym (now w p.to _ w' ahead a r)) (record { log = g.log; vote = inr (g.term_is, g.vote) })

    grant_delivered : IsGrant (length w.nodes) term p → Elects w' (without k w'.bag.packets)
    grant_delivered grant = elim counts [
      | inl l ↦ inl (ap (λ (n : Node). n.role) now_first ∙ l.role, heard l, λ plain. reign plain l)
      | inr q ↦ inr (subst (λ n. Canvass n term mine (node_of w') w'.bag.last (without k w'.bag.packets)) (sym (count w p.to _ w' ahead a r))
          (subst (λ (b : Bag). Canvass (length w.nodes) term mine (node_of w') b.last (without k b.packets)) (sym (bag_then w p.to _ w' ahead a r ∙ ap (λ (s : List Sent). posted_all p.to s w.bag) q.sent))
          (grant_came (length w.nodes) term mine w.bag.last (node_of w) (node_of w') k w.bag.packets p c e grant
          (subst (IsShort (length w.nodes) term mine) (sym now_first) (record { role = q.short.role; term_is = q.short.term_is; id = q.short.id; servers_are = q.short.servers_are; log = q.short.log; idle = q.short.idle; itself = q.short.itself; short = q.short.short }))
          (ap (λ (n : Node). n.votes) now_first ∙ q.votes ∙ ap (λ (n : Node). with_voter n.votes p.from) (sym was_first))
          (λ j d. others w p.to _ w' ahead a r j (λ z. d (z ∙ grant.2))))))
    ]
      where
        was_first : node_of w 1 ≡ a.old
        was_first = ap (node_of w) (sym grant.2) ∙ was w p.to _ w' ahead a r

        now_first : node_of w' 1 ≡ record (done a.old (Receive p.from p.message)).node { store = a.new.store }
        now_first = ap (node_of w') (sym grant.2) ∙ now w p.to _ w' ahead a r

        counts : Wins (length w.nodes) term mine (done a.old (Receive p.from p.message)) ⊎ Counts (length w.nodes) term mine p.from a.old (done a.old (Receive p.from p.message))
        counts = subst (λ m. Wins (length w.nodes) term mine (done a.old (Receive p.from m)) ⊎ Counts (length w.nodes) term mine p.from a.old (done a.old (Receive p.from m))) (sym grant.3)
            (done_counts (length w.nodes) term mine p.from a.old (well w p.to _ w' ahead a r).runs (subst (IsShort (length w.nodes) term mine) was_first c.first))

        -- the bag has room for the calls of a new leader
        room : Wins (length w.nodes) term mine (done a.old (Receive p.from p.message)) → HasRoom w.bag (length (done a.old (Receive p.from p.message)).sent)
        room l =
            let n = few w.bag.packets in let b = few_bytes (length w.nodes) term mine w.bag.packets c.ballots in let s = c.small in let f = l.few in let g = c.servers_few in
            record { count = omega arith; bytes = omega arith; numbers = omega arith }

        heard : Wins (length w.nodes) term mine (done a.old (Receive p.from p.message)) → IsHeard w' (without k w'.bag.packets)
        heard l j x y =
            let call = l.calls j x (omega (arith, count w p.to _ w' ahead a r)) in
            let q = all_posted_in p.to (done a.old (Receive p.from p.message)).sent w.bag l.small (room l) call.0 call.1 in
            let behind = all_behind p.to (done a.old (Receive p.from p.message)).sent w.bag in
            let there : numbered k w'.bag.packets ≡ Some p = ap (λ (z : Bag). numbered k z.packets) (bag_then w p.to _ w' ahead a r) ∙ ap (numbered k) behind.are ∙ numbered_then k w.bag.packets behind.more p e in
            let among : IsAmong q.0 w'.bag.packets = subst (λ (z : Bag). IsAmong q.0 z.packets) (sym (bag_then w p.to _ w' ahead a r)) q.1 in
            inl (elim (among_without k w'.bag.packets p q.0 there among) [
              | inl same ↦ absurd (subst IsAppend (sym q.3 ∙ ap (λ (z : Packet). z.message) same ∙ grant.3) call.3)
              | inr m ↦ (q.0, m, q.2 ∙ call.2, subst IsAppend (sym q.3) call.3)
            ])

        ballot_mail : IsPlain → (q : Packet) → IsBallot (length w.nodes) term mine q → IsMail (length w.nodes) (node_of w') q
        ballot_mail plain q (inl x) = inl (x.0, x.1, x.2, x.3 ∙ ap (λ z. AskVote z (length mine) (last_term mine)) plain.0 ∙ ap (λ (z : Log). AskVote 1 (length z) (last_term z)) plain.1)
        ballot_mail plain q (inr x) = inr (inl (x.2, (true, x.3 ∙ ap (λ z. Vote z true) plain.0)))

        -- its reign begins
        reign : IsPlain → Wins (length w.nodes) term mine (done a.old (Receive p.from p.message)) → ReignOf w' (without k w'.bag.packets)
        reign plain l =
            let opens = l.opens plain.0 plain.1 in
            let d = done a.old (Receive p.from p.message) in
            let first : Reigns (length w.nodes) (node_of w' 1) = subst (Reigns (length w.nodes)) (sym now_first) (reigns_stored (length w.nodes) d.node a.new.store opens.reigns) in
            let next : (j : ℕ) → 1 < j → j ≤ length w.nodes → of_server (node_of w' 1).next j ≡ 1 = λ j u v. ap (λ (n : Node). of_server n.next j) now_first ∙ opens.next j u v in
            let cs : Calls (length w.nodes) (node_of w') d.sent = subst (Calls (length w.nodes) (node_of w')) (sym opens.sent)
            (calls (length w.nodes) (node_of w') (record d.node { store = a.new.store }) (sym now_first) first (λ j u v. inl (next j u v))) in
            reign_of w' (length w.nodes) (w.bag.last + length d.sent) k p w.bag.packets (packets_of 1 w.bag.last d.sent) (count w p.to _ w' ahead a r)
            (bag_then w p.to _ w' ahead a r ∙ ap (λ z. posted_all z d.sent w.bag) grant.2 ∙ posted_are 1 d.sent w.bag l.small (room l)) e
            (reign_begins (length w.nodes) w.bag.last (node_of w') (without k w.bag.packets) d.sent first
            (λ j u v. inl (ap (λ (n : Node). n.log) (others w p.to _ w' ahead a r j (λ z. let q = grant.2 in omega arith)) ∙ open_plain term mine (node_of w j) plain.1 (c.unvoted j u v))) next
            (each_map (IsBallot (length w.nodes) term mine) (IsMail (length w.nodes) (node_of w')) (ballot_mail plain) (without k w.bag.packets) (each_without (IsBallot (length w.nodes) term mine) k w.bag.packets c.ballots))
            cs (let b = worth_without k w.bag.packets p e in let z = c.small in omega arith) c.servers_few)

    delivered : Elects w' (without k w'.bag.packets)
    delivered = elim (each_numbered (IsBallot (length w.nodes) term mine) k w.bag.packets p e c.ballots) [ inl ask ↦ inr (ask_delivered ask) | inr grant ↦ grant_delivered grant ]

  -- A delivery while server 1 leads.
  append_led : (w : World) (j from : ℕ) (m : Message) (w' : World) → IsAhead w → (a : NodeActs w j (Receive from m) w') → a.outcome ≢ Forgets → j ≢ 1 → IsFirsts (node_of w 1) from m → IsAppend m → (node_of w' j).leader ≡ Some 1
  append_led w j from (Append term prev prev_term entries commit round) w' ahead a r d f is =
      let p = place w j _ w' ahead a r in
      let q = ahead.follow j p.0 p.1 d in
      let same = was w j _ w' ahead a r in
      ap (λ (n : Node). n.leader) (now w j _ w' ahead a r)
      ∙ done_led a.old from term prev prev_term entries commit round (well w j _ w' ahead a r).runs (ap (λ (n : Node). n.role) (sym same) ∙ q.0) (let k = ap (λ (n : Node). n.term) same in let l = q.1 in let t = f.1 in omega arith)
      ∙ ap (λ z. Some z) f.0
  append_led w j from (AskVote term last_index last_term) w' ahead a r d f is = absurd is
  append_led w j from (Vote term granted) w' ahead a r d f is = absurd is
  append_led w j from (Yes term matched round) w' ahead a r d f is = absurd is
  append_led w j from (No term last) w' ahead a r d f is = absurd is

  leading_delivered : (w : World) (k : ℕ) (p : Packet) (w' : World) → IsAhead w → (node_of w 1).role ≡ Leader → (IsPlain → ReignOf w w.bag.packets) → IsHeard w w.bag.packets → numbered k w.bag.packets ≡ Some p → (a : NodeActs w p.to (Receive p.from p.message) w') → a.outcome ≢ Forgets → Elects w' (without k w'.bag.packets)
  leading_delivered w k p w' ahead lead reign heard e a r = inl ((x.on lead).0, λ j u v. one j u (omega (arith, x.count)) (heard j u (omega (arith, x.count))), λ plain. reign_on w k p w' ahead (reign plain) e a r)
    where
      firsts : IsFirsts (node_of w 1) p.from p.message
      firsts = each_numbered (λ (z : Packet). IsFirsts (node_of w 1) z.from z.message) k w.bag.packets p e ahead.appends

      x : StaysAhead w w'
      x = acts_ahead w p.to (Receive p.from p.message) w' a (each_numbered (λ (z : Packet). term_of z.message ≤ (node_of w 1).term) k w.bag.packets p e ahead.told, firsts) ahead

      one : (j : ℕ) → 1 < j → j ≤ length w.nodes → ((q : Packet) × IsAmong q w.bag.packets × (q.to ≡ j) × IsAppend q.message) ⊎ ((node_of w j).leader ≡ Some 1) → ((q : Packet) × IsAmong q (without k w'.bag.packets) × (q.to ≡ j) × IsAppend q.message) ⊎ ((node_of w' j).leader ≡ Some 1)
      one j u v (inr l) = inr (x.holds j (omega arith) v (λ z. omega arith) l)
      one j u v (inl q) = elim (among_without k w.bag.packets p q.0 e q.1) [
        | inl same ↦ inr (ap (λ z. (node_of w' z).leader) (sym q.2 ∙ ap (λ (z : Packet). z.to) same)
            ∙ append_led w p.to p.from p.message w' ahead a r (λ z. let t = ap (λ (z : Packet). z.to) same in let s = q.2 in omega arith) firsts (subst (λ (z : Packet). IsAppend z.message) same q.3))
        | inr m ↦
            let behind = all_behind p.to (done a.old (Receive p.from p.message)).sent w.bag in
            let are : without k w'.bag.packets ≡ without k w.bag.packets ++ behind.more = ap (λ (z : Bag). without k z.packets) (bag_then w p.to _ w' ahead a r) ∙ ap (without k) behind.are ∙ without_then k w.bag.packets behind.more p e in
            inl (q.0, subst (IsAmong q.0) (sym are) (among_left q.0 (without k w.bag.packets) behind.more m), q.2, q.3)
      ]

  any_delivered : (w : World) (k : ℕ) (p : Packet) (w' : World) → IsAhead w → Elects w w.bag.packets → numbered k w.bag.packets ≡ Some p → (a : NodeActs w p.to (Receive p.from p.message) w') → a.outcome ≢ Forgets → Elects w' (without k w'.bag.packets)
  any_delivered w k p w' ahead (inl l) e a r = leading_delivered w k p w' ahead l.0 l.2 l.1 e a r
  any_delivered w k p w' ahead (inr c) e a r = delivered w k p w' ahead c e a r

  event_delivered : (w : World) (k : ℕ) (w' : World) → IsAhead w → Elects w w.bag.packets → TakesTo w (event.Deliver k) w' → Elects w' (without k w'.bag.packets)
  event_delivered w k w' ahead c t = by (numbered k w.bag.packets) refl t.given
    where
      by : (o : Option Packet) → numbered k w.bag.packets ≡ o → received t.server o ≡ Some t.input → Elects w' (without k w'.bag.packets)
      by None n g = cc g
      by (Some p) n g = at_bool (λ b. (p.to == t.server) ≡ b → cond b (Some (Receive p.from p.message)) None ≡ Some t.input → Elects w' (without k w'.bag.packets)) (p.to == t.server)
          (λ _ q g. let same : Receive p.from p.message ≡ t.input = cc g in
          subst (λ z. (a : NodeActs w t.server z w') → a.outcome ≢ Forgets → Elects w' (without k w'.bag.packets)) same
          (subst (λ z. (a : NodeActs w z (Receive p.from p.message) w') → a.outcome ≢ Forgets → Elects w' (without k w'.bag.packets)) (eq_tells p.to t.server q)
          (λ a r. any_delivered w k p w' ahead c n a r)) t.acts t.remembers)
          (λ _ _ g. cc g) refl g

  -- A message is lost.
  lost : (w : World) (k : ℕ) (w' : World) → WorldStep w (Drops k) w' → Elects w (without k w.bag.packets) → Elects w' w'.bag.packets
  lost w k w' (p, n, e) x = subst (λ (z : World). Elects z z.bag.packets) (sym e) x

-- Server 1 stands for election at the beginning.
start_is : (id servers : ℕ) (s : Store) (n : Node) → Starts id servers s n → (kept : Kept) → s.contents ≡ Some kept → n ≡ begun id servers n.store kept
start_is id servers s n (read, works, reads, is) kept told = is ∙ ap (λ (k : Kept). begun id servers n.store k) (reads_told s kept read told reads)

pub first_is : (servers : ℕ) (ss : List Store) (ns : List Node) → StartAll servers 1 ss ns → (first : Kept) → IsAheadBy first ss → 0 < length ns → get_or ns 0 no_node ≡ begun 1 servers (get_or ns 0 no_node).store first
first_is servers [] [] a first by l = absurd (omega arith)
first_is servers [] (n ∷ ns) a first by l = absurd a
first_is servers (s ∷ ss) [] a first by l = absurd a
first_is servers (s ∷ ss) (n ∷ ns) a first by l = start_is 1 servers s n a.0 first by.0

all_open : (servers id : ℕ) (first : Kept) (ss : List Store) (ns : List Node) → StartAll servers id ss ns → HoldBehind first ss → (j : ℕ) → j < length ns → IsOpen (suc first.term) first.log (get_or ns j no_node)
all_open servers id first [] [] a h j l = absurd (omega arith)
all_open servers id first [] (n ∷ ns) a h j l = absurd a
all_open servers id first (s ∷ ss) [] a h j l = absurd a
all_open servers id first (s ∷ ss) (n ∷ ns) a ((kept, told, low, log), more) zero l =
    let e = start_is id servers s n a.0 kept told in
    record { log = subst (IsUpToDate (last_term first.log) (length first.log)) (sym (ap (λ (z : Node). z.log) e)) log; vote = inl (let t = ap (λ (z : Node). z.term) e in omega arith) }
all_open servers id first (s ∷ ss) (n ∷ ns) a h (suc j) l = all_open servers (suc id) first ss ns a.1 h.1 j (omega arith)

pub others_open : (servers : ℕ) (first : Kept) (ss : List Store) (ns : List Node) → StartAll servers 1 ss ns → IsAheadBy first ss → (j : ℕ) → suc j < length ns → IsOpen (suc first.term) first.log (get_or ns (suc j) no_node)
others_open servers first [] [] a by j l = absurd (omega arith)
others_open servers first [] (n ∷ ns) a by j l = absurd a
others_open servers first (s ∷ ss) [] a by j l = absurd a
others_open servers first (s ∷ ss) (n ∷ ns) a by j l = all_open servers 2 first ss ns a.1 by.1 j (omega arith)

module _ (ss : List Store) (w w' : World) (begins : Begins ss w) (first : Kept) (by : IsAheadBy first ss) (rise : first.term < 2 ^ 64 - 1) (some : 0 < length ss) (few : length ss ≤ 7) (ahead : IsAhead w) (a : NodeActs w 1 Timeout w') (r : a.outcome ≢ Forgets) where
  all : length w.nodes ≡ length ss
  all = start_length (length ss) 1 ss w.nodes begins.nodes

  old_is : a.old ≡ begun 1 (length ss) (node_of w 1).store first
  old_is = sym (was w 1 Timeout w' ahead a r) ∙ first_is (length ss) ss w.nodes begins.nodes first by (omega (arith, all))

  silence : length ss ≡ 1 → (done a.old Timeout).sent ≡ []
  silence one = ap (λ (n : Node). (done n Timeout).sent) (old_is ∙ ap (λ z. begun 1 z (node_of w 1).store first) one) ∙ done_alone (node_of w 1).store first rise

  alone : length ss ≡ 1 → w'.bag.packets ≡ []
  alone one = ap (λ (b : Bag). b.packets) (bag_then w 1 Timeout w' ahead a r ∙ ap (λ (s : List Sent). posted_all 1 s w.bag) (silence one) ∙ begins.bag)

  stood : Elects (suc first.term) first.log w' w'.bag.packets
  stood = elim (subst (λ n. ((length ss ≡ 1) × Wins (length ss) (suc first.term) first.log (done n Timeout)) ⊎ Asks (length ss) (node_of w 1).store first (done n Timeout)) (sym old_is) (done_asks (length ss) (node_of w 1).store first some rise)) [
    | inl l ↦ inl (ap (λ (n : Node). n.role) (now w 1 Timeout w' ahead a r) ∙ l.1.role, λ j u v. absurd (let one = l.0 in let n = count w 1 Timeout w' ahead a r in omega (arith, all)), λ plain. reign_alone l.0 (l.1.opens plain.0 plain.1))
    | inr q ↦ inr (subst (λ n. Canvass n (suc first.term) first.log (node_of w') w'.bag.last w'.bag.packets) (sym (count w 1 Timeout w' ahead a r ∙ all))
        (canvass_begins (length ss) (suc first.term) first.log (node_of w') few
        (subst (IsShort (length ss) (suc first.term) first.log) (sym (now w 1 Timeout w' ahead a r ∙ ap (λ (n : Node). record n { store = a.new.store }) q.node)) (standing_short (length ss) a.new.store first q.some))
        unvoted w'.bag
        (bag_then w 1 Timeout w' ahead a r ∙ ap (λ (s : List Sent). posted_all 1 s w.bag) q.sent ∙ ap (posted_all 1 (to_others 1 (λ peer. AskVote (suc first.term) (length first.log) (last_term first.log)) (length ss))) begins.bag)))
  ]
    where
      -- a single server sends nothing
      reign_alone : length ss ≡ 1 → Opens (length ss) (done a.old Timeout) → ReignOf w' w'.bag.packets
      reign_alone one o =
          let sent : (done a.old Timeout).sent ≡ [] = silence one in
          subst (λ n. Reign n (node_of w') w'.bag.last w'.bag.packets) (sym (count w 1 Timeout w' ahead a r ∙ all))
          (subst (λ (b : Bag). Reign (length ss) (node_of w') b.last b.packets) (sym (bag_then w 1 Timeout w' ahead a r ∙ ap (λ (s : List Sent). posted_all 1 s w.bag) sent ∙ begins.bag))
          (reign_begins (length ss) 0 (node_of w') [] [] (subst (Reigns (length ss)) (sym (now w 1 Timeout w' ahead a r)) (reigns_stored (length ss) (done a.old Timeout).node a.new.store o.reigns))
          (λ j u v. absurd (omega (arith, one))) (λ j u v. absurd (omega (arith, one))) tt
          (record { small = tt; few = omega arith; mails = λ last. tt; all = λ last j u v. absurd (omega (arith, one)) }) (omega arith) few))

      unvoted : (j : ℕ) → 1 < j → j ≤ length ss → IsOpen (suc first.term) first.log (node_of w' j)
      unvoted zero l m = absurd (omega arith)
      unvoted (suc zero) l m = absurd (omega arith)
      unvoted (suc (suc j)) l m = subst (IsOpen (suc first.term) first.log) (sym (others w 1 Timeout w' ahead a r (suc (suc j)) (λ z. omega arith))) (others_open (length ss) first ss w.nodes begins.nodes by j (omega (arith, all)))

-- what a timeout of server 1 is
pub from_timeout : (R : Type 0) (w w' : World) → ((a : NodeActs w 1 Timeout w') → a.outcome ≢ Forgets → R) → TakesTo w (event.Timeout 1) w' → R
from_timeout R w w' f t = at_bool (λ x. (1 == t.server) ≡ x → cond x (Some Timeout) None ≡ Some t.input → R) (1 == t.server)
    (λ _ q g. let input : Timeout ≡ t.input = cc g in
    subst (λ z. (a : NodeActs w t.server z w') → a.outcome ≢ Forgets → R) input
    (subst (λ z. (a : NodeActs w z Timeout w') → a.outcome ≢ Forgets → R) (eq_tells 1 t.server q) f) t.acts t.remembers)
    (λ _ _ g. cc g) refl t.given

begins_same : (ss : List Store) (start : Cluster) (w : World) → IsBegun ss start → w ≡ start.world → Begins ss w
begins_same ss start w b same = subst (λ (z : World). Begins ss z) (sym (same ∙ ap (λ (z : Cluster). z.world) b.is)) b.begins

event_stood : (ss : List Store) (start : Cluster) (w w' : World) → IsBegun ss start → (first : Kept) → IsAheadBy first ss → first.term < 2 ^ 64 - 1 → w ≡ start.world → IsAhead w → TakesTo w (event.Timeout 1) w' → Elects (suc first.term) first.log w' w'.bag.packets
event_stood ss start w w' b first by rise same ahead t = from_timeout (Elects (suc first.term) first.log w' w'.bag.packets) w w' (λ a r. stood ss w w' (begins_same ss start w b same) first by rise b.some.0 b.some.1 ahead a r) t

-- a single server has nobody to send anything to
pub event_alone : (ss : List Store) (start : Cluster) (w w' : World) → IsBegun ss start → (first : Kept) → IsAheadBy first ss → first.term < 2 ^ 64 - 1 → length ss ≡ 1 → w ≡ start.world → IsAhead w → TakesTo w (event.Timeout 1) w' → w'.bag.packets ≡ []
event_alone ss start w w' b first by rise one same ahead t = from_timeout (w'.bag.packets ≡ []) w w' (λ a r. alone ss w w' (begins_same ss start w b same) first by rise b.some.0 b.some.1 ahead a r one) t

-- The moves.
dropped : (j : ℕ) (ms : List Move) → OnlyDelivered (Makes (event.Drop j) ∷ ms) → (before : List Move) × (ms ≡ Makes (event.Deliver j) ∷ before) × OnlyDelivered before
dropped j (Makes (event.Deliver k) ∷ before) x = (before, ap (λ z. Makes (event.Deliver z) ∷ before) (sym x.0), x.1)
dropped j other x = absurd x

pub nothing_done : (start : Cluster) (whole : Bool) (moves : List Move) (c : Cluster) → Reached start whole moves c → moves ≡ [] → c.world ≡ start.world
nothing_done start whole moves c at_start e = refl
nothing_done start whole moves c (by_event made all r fits step) e = cc e
nothing_done start whole moves c (by_taking number out before after r is there) e = cc e
nothing_done start whole moves c (by_handing {whole = w} {moves = ms} {c = c₀} out before after r is there) e = nothing_done start w ms c₀ r e
nothing_done start whole moves c (by_settling pairs all r ends) e = cc e
nothing_done start whole moves c (by_advancing ms made r ends) e = cc e

-- With each delivered message lost, and with the last one still to be lost.
record Runs (term : ℕ) (mine : Log) (moves : List Move) (w : World) : Type 0 where
  pub settled : OnlyDelivered moves → Elects term mine w w.bag.packets
  pub between : (k : ℕ) (before : List Move) → moves ≡ Makes (event.Deliver k) ∷ before → OnlyDelivered before → Elects term mine w (without k w.bag.packets)

then_delivered : (term : ℕ) (mine : Log) (c c' : Cluster) (k : ℕ) (whole : Bool) → ClusterStep c (event.Deliver k) c' whole → whole ≡ true → IsAhead c.world → Elects term mine c.world c.world.bag.packets → Elects term mine c'.world (without k c'.world.bag.packets)
then_delivered term mine c c' k whole step t ahead x = event_delivered term mine c.world k c'.world ahead x (step_takes c c' (event.Deliver k) whole tt t step)

then_event : (ss : List Store) (start c c' : Cluster) (made : Event) (whole whole' : Bool) (before : List Move) → IsBegun ss start → (first : Kept) → IsAheadBy first ss → first.term < 2 ^ 64 - 1 → Reached start whole before c → ClusterStep c made c' whole' → whole' ≡ true → AreServing (Makes made ∷ before) → IsAhead c.world → Runs (suc first.term) first.log before c.world →
    OnlyDelivered (Makes made ∷ before) → Elects (suc first.term) first.log c'.world c'.world.bag.packets
then_event ss start c c' (event.Timeout s) whole whole' before b first by rise r step t serving ahead x o =
    event_stood ss start c.world c'.world b first by rise (nothing_done start whole before c r serving.0.1) ahead
    (subst (λ z. TakesTo c.world (event.Timeout z) c'.world) serving.0.0 (step_takes c c' (event.Timeout s) whole' tt t step))
then_event ss start c c' (event.Drop j) whole whole' before b first by rise r step t serving ahead x o =
    let d = dropped j before o in lost (suc first.term) first.log c.world j c'.world (step_loses c c' j whole' t step) (x.between j d.0 d.1 d.2)
then_event ss start c c' other whole whole' before b first by rise r step t serving ahead x o = absurd o

elects : (ss : List Store) (start : Cluster) → IsBegun ss start → (first : Kept) → IsAheadBy first ss → first.term < 2 ^ 64 - 1 → IsAhead start.world → (whole : Bool) (moves : List Move) (c : Cluster) → Reached start whole moves c → whole ≡ true → AreServing moves → Runs (suc first.term) first.log moves c.world
elects ss start b first by rise a whole moves c at_start t s = record { settled = λ o. absurd o; between = λ k before e o. cc e }
elects ss start b first by rise a whole moves c (by_event {whole = w} {moves = ms} {c = c₀} made all r fits step) t s =
    let q = both w all t in
    let x = elects ss start b first by rise a w ms c₀ r q.0 s.1 in
    let ahead = run_ahead start w ms c₀ r s.1 a in
    record {
      settled = λ o. then_event ss start c₀ c made w all ms b first by rise r step q.1 s ahead x o;
      between = λ k before e o.
          let made_is : made ≡ event.Deliver k = cc e in
          let rest_is : ms ≡ before = cc e in
          then_delivered (suc first.term) first.log c₀ c k all (subst (λ m. ClusterStep c₀ m c all) made_is step) q.1 ahead (x.settled (subst OnlyDelivered (sym rest_is) o));
    }
elects ss start b first by rise a whole moves c (by_taking number out before after r is there) t s = record { settled = λ o. absurd o; between = λ k before e o. cc e }
elects ss start b first by rise a whole moves c (by_handing {whole = w} {moves = ms} {c = c₀} out before after r is there) t s = elects ss start b first by rise a w ms c₀ r t s
elects ss start b first by rise a whole moves c (by_settling {whole = w} {moves = ms} {c = c₀} pairs all r ends) t s =
    let x = elects ss start b first by rise a w ms c₀ r t s.1 in record { settled = λ o. x.settled o; between = λ k before e o. cc e }
elects ss start b first by rise a whole moves c (by_advancing ms made r ends) t s = absurd s.0

-- An election at rest: server 1 leads, and each other server holds it for leader.
pub record AtRest (term : ℕ) (mine : Log) (w : World) : Type 0 where
  pub ahead : IsAhead w
  pub role : (node_of w 1).role ≡ Leader
  pub held : (j : ℕ) → 1 < j → j ≤ length w.nodes → (node_of w j).leader ≡ Some 1
  pub committed : term ≡ 1 → mine ≡ [] → Reigns (length w.nodes) (node_of w 1) × ((node_of w 1).commit ≡ 1)

pub later_rest : (e : LaterElection) → AtRest (suc e.first.term) e.first.log e.cluster.world
later_rest e = by ((elects e.size.stores s.start s.begins e.first e.ahead e.can_rise start s.whole s.moves e.cluster s.reached e.whole s.serving).settled e.delivered)
  where
    s : Serves e.size e.cluster
    s = e.serves

    start : IsAhead s.start.world
    start = start_ahead e.size.stores s.start s.begins e.sure (ahead_foremost e.size.stores e.first e.ahead)

    -- who is no follower is there
    some : (node_of e.cluster.world 1).role ≢ Follower → 0 < length e.cluster.world.nodes
    some q = elim (there_or_none e.cluster.world 1) [ inl n ↦ absurd (q (ap (λ (z : Node). z.role) n)) | inr at ↦ (is_place e.cluster.world 1 (node_of e.cluster.world 1) at).1 ]

    by : Elects (suc e.first.term) e.first.log e.cluster.world e.cluster.world.bag.packets → AtRest (suc e.first.term) e.first.log e.cluster.world
    by (inl l) = record {
      ahead = run_ahead s.start s.whole s.moves e.cluster s.reached s.serving start;
      role = l.0;
      held = λ j u v. elim (subst (λ (ps : List Packet). IsHeard (suc e.first.term) e.first.log e.cluster.world ps) e.settled l.1 j u v) [ inl x ↦ absurd x.1 | inr k ↦ k ];
      committed = λ one none. let x = l.2 (one, none) in (
        x.first,
        all_have (length e.cluster.world.nodes) (node_of e.cluster.world 1) (some (λ f. let k = l.0 in cc (f, k))) x.first
            (λ j u v. elim (x.pending j u v) [ inl y ↦ absurd (subst (IsAmong y.0) e.settled y.1) | inr k ↦ k ]),
      );
    }
    by (inr x) = absurd (none_left (length e.cluster.world.nodes) (suc e.first.term) e.first.log (node_of e.cluster.world) e.cluster.world.bag.last (some (λ f. let k = x.first.role in cc (f, k))) (subst (CanvassOf (suc e.first.term) e.first.log e.cluster.world) e.settled x))

pub later_elected : (e : LaterElection) → runs_leading e.cluster.world 1 ≡ true
later_elected e = let x = later_rest e in runs_on e.cluster.world x.ahead x.role

pub later_held : (e : LaterElection) (j : ℕ) → 1 < j → j ≤ length e.cluster.world.nodes → (node_of e.cluster.world j).leader ≡ Some 1
later_held e j u v = (later_rest e).held j u v

-- empty stores are such
abbrev pub is_later : Election → LaterElection
is_later e = record {
  size = e.size;
  cluster = e.cluster;
  serves = e.serves;
  first = nothing_kept;
  ahead = empty_ahead e.size.stores e.are_empty;
  can_rise = omega arith;
  sure = e.sure;
  whole = e.whole;
  delivered = e.delivered;
  settled = e.settled;
}

pub at_rest : (e : Election) → AtRest 1 [] e.cluster.world
at_rest e = later_rest (is_later e)

pub is_elected : (e : Election) → runs_leading e.cluster.world 1 ≡ true
is_elected e = later_elected (is_later e)

pub is_held : (e : Election) (j : ℕ) → 1 < j → j ≤ length e.cluster.world.nodes → (node_of e.cluster.world j).leader ≡ Some 1
is_held e j u v = later_held (is_later e) j u v
