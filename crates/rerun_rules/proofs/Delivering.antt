-- A delivery while server 1 reigns.
use Rattle.std.proofs.Common.{◌≡◌, ◌≢◌, ℕ, suc, ◌+◌, ◌<◌, ◌≤◌, ◌⊎◌, inl, inr, Bool, false, List, [], ◌∷◌, ◌++◌, length, Some, refl, sym, ◌∙◌, ap, subst, arith}
use Rattle.std.specs.Prelude.{◌==◌}
use Rattle.std.specs.List.{AllByRecursion as Each}
use Rattle.raft_model.specs.declared.message.Message.{Message}
use Rattle.raft_model.specs.declared.message.Message.TheVariants.{Vote, Yes}
use Rattle.raft_model.specs.declared.message.Sent.{Sent}
use Rattle.raft_model.specs.Node.{Done, Node, of_server, quiet, to_others}
use Rattle.raft_model.specs.Rules.{Receive, append_to, done}
use Rattle.raft_model.specs.Step.{Forgets}
use Rattle.raft_model.specs.World.{Acts as NodeActs, Bag, Packet, World, message_bytes, numbered, posted_all, without}
use Rattle.raft_model.proofs.Tests.{at_bool, eq_tells}
use Rattle.cluster_rules.specs.Cluster.{node_of}
use Rattle.cluster_rules.proofs.Tools.{eq_tells_not}
use Rattle.rerun_rules.proofs.Ahead.{IsAhead}
use Rattle.rerun_rules.proofs.Bags.{each_numbered, without_then}
use Rattle.rerun_rules.proofs.Canvass.{IsAsk, worth, worth_append, worth_of, worth_without}
use Rattle.rerun_rules.proofs.Reigning.{Calls, Has, IsCall, IsMail, IsYes, NextIs, Reign, calls, first_came, other_came, packets_of, posted_are, small_room, worth_packets}
use Rattle.rerun_rules.proofs.Spreading.{Counted, IsBlank, IsLow, Reigns, Takes, Votes, low_has, low_takes, low_votes, reigns_counts, reigns_stored, reigns_votes}
use Rattle.rerun_rules.proofs.Stepping.{bag_then, count, now, others, was, well}
use Rattle.rerun_rules.proofs.Winning.{IsAppend, IsSmall}

-- server 1's reign in a world, with these messages still to come
abbrev pub ReignOf : World → List Packet → Type 0
ReignOf w ps = Reign (length w.nodes) (node_of w) w.bag.last ps

pub reign_of : (w' : World) (servers last : ℕ) (k : ℕ) (p : Packet) (ps qs : List Packet) → length w'.nodes ≡ servers → w'.bag ≡ record { packets = ps ++ qs; last = last } → numbered k ps ≡ Some p → Reign servers (node_of w') last (without k ps ++ qs) → ReignOf w' (without k w'.bag.packets)
reign_of w' servers last k p ps qs n b e x =
    subst (λ n. Reign n (node_of w') w'.bag.last (without k w'.bag.packets)) (sym n)
    (subst (λ (z : Bag). Reign servers (node_of w') z.last (without k z.packets)) (sym b) (subst (Reign servers (node_of w') last) (sym (without_then k ps qs p e)) x))

module _ (w : World) (k : ℕ) (p : Packet) (w' : World) (ahead : IsAhead w) (x : ReignOf w w.bag.packets) (e : numbered k w.bag.packets ≡ Some p) (a : NodeActs w p.to (Receive p.from p.message) w') (r : a.outcome ≢ Forgets) where
  -- Another server answers by one small message.
  low : 1 < p.to → p.to ≤ length w.nodes → IsLow a.old
  low l m =
      let same = was w p.to _ w' ahead a r in
      let f = ahead.follow p.to (omega arith) m (λ q. omega arith) in
      record {
        up = (well w p.to _ w' ahead a r).runs;
        role = ap (λ (n : Node). n.role) (sym same) ∙ f.0;
        term = let q = ap (λ (n : Node). n.term) same in let t = f.1 in let u = x.first.term in omega arith;
      }

  replied : (m : Message) → 1 < p.to → (done a.old (Receive p.from p.message)).sent ≡ record { to = 1; message = m } ∷ [] → message_bytes m ≤ 1000 → IsBlank (done a.old (Receive p.from p.message)).node.log → (Has a.old → Has (done a.old (Receive p.from p.message)).node) → suc (worth_of m) ≤ worth_of p.message →
      IsMail (length w.nodes) (node_of w') (record { number = suc w.bag.last; from = p.to; to = 1; message = m }) → (IsAppend p.message → IsYes m) → (IsYes p.message → ⊥) → ReignOf w' (without k w'.bag.packets)
  replied m l s small blank has less mail agrees not_yes =
      let now_is = now w p.to _ w' ahead a r in
      let v : Packet = record { number = suc w.bag.last; from = p.to; to = 1; message = m } in
      reign_of w' (length w.nodes) (w.bag.last + 1) k p w.bag.packets (v ∷ []) (count w p.to _ w' ahead a r)
      (bag_then w p.to _ w' ahead a r ∙ ap (λ (ss : List Sent). posted_all p.to ss w.bag) s
      ∙ posted_are p.to (record { to = 1; message = m } ∷ []) w.bag (small, tt) (small_room (length w.nodes) (node_of w) w.bag 1 x (omega arith))) e
      (subst (λ z. Reign (length w.nodes) (node_of w') z (without k w.bag.packets ++ v ∷ [])) (let q : suc w.bag.last ≡ w.bag.last + 1 = omega arith in q)
      (other_came (length w.nodes) w.bag.last (node_of w) (node_of w') k w.bag.packets p v x e l
      (subst (λ (n : Node). IsBlank n.log) (sym now_is) blank) (λ h. subst Has (sym now_is) (has (subst Has (was w p.to _ w' ahead a r) h)))
      (others w p.to _ w' ahead a r) mail less (λ q. (refl, agrees q)) not_yes))

  asked : IsAsk (length w.nodes) 1 [] p → ReignOf w' (without k w'.bag.packets)
  asked ask =
      let v : Votes a.old.log (done a.old (Receive p.from p.message)) =
      subst (λ f. Votes a.old.log (done a.old (Receive f p.message))) (sym ask.0) (subst (λ m. Votes a.old.log (done a.old (Receive 1 m))) (sym ask.3) (low_votes a.old (low ask.1 ask.2))) in
      replied (Vote 1 v.granted) ask.1 v.sent (omega arith) (subst IsBlank (ap (λ (n : Node). n.log) (was w p.to _ w' ahead a r) ∙ sym v.log_is) (x.blank p.to ask.1 ask.2)) (λ h. v.log_is ∙ h)
      (let q = ap worth_of ask.3 in omega arith) (inr (inl (refl, (v.granted, refl)))) (λ q. absurd (subst IsAppend ask.3 q)) (λ q. subst IsYes ask.3 q)

  -- An Append.
  took : (round : ℕ) → 1 < p.to → p.to ≤ length w.nodes → IsAppend p.message → (IsYes p.message → ⊥) → worth_of p.message ≡ 2 → Takes round (done a.old (Receive p.from p.message)) → ReignOf w' (without k w'.bag.packets)
  took round l m is not worth t =
      replied (Yes 1 1 round) l t.sent (omega arith) (inr t.log) (λ _. t.log) (omega arith)
      (inr (inr (inr (refl, l, m, subst Has (sym (now w p.to _ w' ahead a r)) t.log, (round, refl))))) (λ _. tt) not

  called : (p.from ≡ 1) × (1 < p.to) × (p.to ≤ length w.nodes) × IsCall (node_of w p.to) p.message → ReignOf w' (without k w'.bag.packets)
  called (f, l, m, (commit, round, inl is)) =
      took round l m (subst IsAppend (sym is) tt) (λ q. subst IsYes is q) (ap worth_of is)
      (subst (λ f. Takes round (done a.old (Receive f p.message))) (sym f) (subst (λ m. Takes round (done a.old (Receive 1 m))) (sym is)
      (low_takes a.old commit round (low l m) (subst (λ (n : Node). IsBlank n.log) (was w p.to _ w' ahead a r) (x.blank p.to l m)))))
  called (f, l, m, (commit, round, inr (is, has))) =
      took round l m (subst IsAppend (sym is) tt) (λ q. subst IsYes is q) (ap worth_of is)
      (subst (λ f. Takes round (done a.old (Receive f p.message))) (sym f) (subst (λ m. Takes round (done a.old (Receive 1 m))) (sym is)
      (low_has a.old commit round (low l m) (subst Has (was w p.to _ w' ahead a r) has))))

  -- Server 1 was sent a message.
  module _ (to : p.to ≡ 1) where
    was_first : node_of w 1 ≡ a.old
    was_first = ap (node_of w) (sym to) ∙ was w p.to _ w' ahead a r

    now_first : node_of w' 1 ≡ record (done a.old (Receive p.from p.message)).node { store = a.new.store }
    now_first = ap (node_of w') (sym to) ∙ now w p.to _ w' ahead a r

    others_same : (j : ℕ) → j ≢ 1 → node_of w' j ≡ node_of w j
    others_same j n = others w p.to _ w' ahead a r j (λ z. n (z ∙ to))

    up : a.old.halted ≡ false
    up = (well w p.to _ w' ahead a r).runs

    old_reigns : Reigns (length w.nodes) a.old
    old_reigns = subst (Reigns (length w.nodes)) was_first x.first

    said : (ss : List Sent) → (done a.old (Receive p.from p.message)).sent ≡ ss → Each IsSmall ss → length ss ≤ 7 → Reigns (length w.nodes) (node_of w' 1) → ((j : ℕ) → 1 < j → j ≤ length w.nodes → NextIs (node_of w') j) → ((j : ℕ) → of_server (node_of w 1).matched j ≤ of_server (node_of w' 1).matched j) →
        (IsYes p.message → 1 ≤ of_server (node_of w' 1).matched p.from) → (IsAppend p.message → ⊥) → Each (IsMail (length w.nodes) (node_of w')) (packets_of 1 w.bag.last ss) →
        (worth (without k w.bag.packets ++ packets_of 1 w.bag.last ss) + (w.bag.last + length ss) ≤ 55) ⊎ (((node_of w' 1).commit ≡ 1) × (worth (without k w.bag.packets ++ packets_of 1 w.bag.last ss) + (w.bag.last + length ss) ≤ 80)) →
        ReignOf w' (without k w'.bag.packets)
    said ss s small few reigns next more has not mails total =
        reign_of w' (length w.nodes) (w.bag.last + length ss) k p w.bag.packets (packets_of 1 w.bag.last ss) (count w p.to _ w' ahead a r)
        (bag_then w p.to _ w' ahead a r ∙ ap (λ (z : List Sent). posted_all p.to z w.bag) s ∙ ap (λ z. posted_all z ss w.bag) to ∙ posted_are 1 ss w.bag small (small_room (length w.nodes) (node_of w) w.bag (length ss) x few)) e
        (first_came (length w.nodes) w.bag.last (w.bag.last + length ss) (node_of w) (node_of w') k w.bag.packets p (packets_of 1 w.bag.last ss) x e to reigns next others_same more has not mails total)

    -- with nothing sent, and the same commit
    less : (node_of w' 1).commit ≡ (node_of w 1).commit → (worth (without k w.bag.packets ++ []) + (w.bag.last + 0) ≤ 55) ⊎ (((node_of w' 1).commit ≡ 1) × (worth (without k w.bag.packets ++ []) + (w.bag.last + 0) ≤ 80))
    less same =
        let b = worth_append (without k w.bag.packets) [] in let c = worth_without k w.bag.packets p e in
        elim x.small [ inl s ↦ inl (omega arith) | inr s ↦ inr (same ∙ s.0, let u = s.1 in omega arith) ]

    voted : (granted : Bool) → p.message ≡ Vote 1 granted → ReignOf w' (without k w'.bag.packets)
    voted granted is =
        said [] (ap (λ (z : Done). z.sent) quiet_is) tt (omega arith) (subst (Reigns (length w.nodes)) (sym same_first) (reigns_stored (length w.nodes) a.old a.new.store old_reigns))
        (λ j l m. next j l (x.next j l m)) (λ j. let q = ap (λ (n : Node). of_server n.matched j) same_first in let z = ap (λ (n : Node). of_server n.matched j) was_first in omega arith)
        (λ q. absurd (subst IsYes is q)) (λ q. subst IsAppend is q) tt (less (ap (λ (n : Node). n.commit) same_first ∙ ap (λ (n : Node). n.commit) (sym was_first)))
      where
        quiet_is : done a.old (Receive p.from p.message) ≡ quiet a.old
        quiet_is = ap (λ m. done a.old (Receive p.from m)) is ∙ reigns_votes (length w.nodes) a.old p.from granted up old_reigns

        same_first : node_of w' 1 ≡ record a.old { store = a.new.store }
        same_first = now_first ∙ ap (λ (z : Done). record z.node { store = a.new.store }) quiet_is

        next_same : (j : ℕ) → of_server (node_of w' 1).next j ≡ of_server (node_of w 1).next j
        next_same j = ap (λ (n : Node). of_server n.next j) same_first ∙ ap (λ (n : Node). of_server n.next j) (sym was_first)

        next : (j : ℕ) → 1 < j → NextIs (node_of w) j → NextIs (node_of w') j
        next j l (inl q) = inl (next_same j ∙ q)
        next j l (inr q) = inr (next_same j ∙ q.0, subst Has (sym (others_same j (λ z. omega arith))) q.1)

    answered : 1 < p.from → p.from ≤ length w.nodes → Has (node_of w p.from) → (round : ℕ) → p.message ≡ Yes 1 1 round → ReignOf w' (without k w'.bag.packets)
    answered l m has round is = elim counted.sent [
      | inl s ↦ said [] s.0 tt (omega arith) reigns next more (λ _. it_has) (λ q. subst IsAppend is q) tt
          (less (ap (λ (n : Node). n.commit) now_first ∙ s.1 ∙ ap (λ (n : Node). n.commit) (sym was_first)))
      | inr s ↦ said (to_others 1 (append_to (done a.old (Receive p.from p.message)).node) (length w.nodes)) s.2 cs.small (let u = cs.few in let f = x.servers_few in omega arith) reigns next more (λ _. it_has) (λ q. subst IsAppend is q) (cs.mails w.bag.last)
          (inr (ap (λ (n : Node). n.commit) now_first ∙ s.1, rises s.0))
    ]
      where
        counted : Counted (length w.nodes) p.from a.old (done a.old (Receive p.from p.message))
        counted = subst (λ m. Counted (length w.nodes) p.from a.old (done a.old (Receive p.from m))) (sym is) (reigns_counts (length w.nodes) p.from round a.old up old_reigns (omega arith) m)

        reigns : Reigns (length w.nodes) (node_of w' 1)
        reigns = subst (Reigns (length w.nodes)) (sym now_first) (reigns_stored (length w.nodes) (done a.old (Receive p.from p.message)).node a.new.store counted.reigns)

        more : (j : ℕ) → of_server (node_of w 1).matched j ≤ of_server (node_of w' 1).matched j
        more j = let q = counted.more j in let z = ap (λ (n : Node). of_server n.matched j) was_first in let y = ap (λ (n : Node). of_server n.matched j) now_first in omega arith

        it_has : 1 ≤ of_server (node_of w' 1).matched p.from
        it_has = let q = counted.has in let y = ap (λ (n : Node). of_server n.matched p.from) now_first in omega arith

        at_last : NextIs (node_of w) p.from → of_server (node_of w' 1).next p.from ≡ 2
        at_last n =
            let y = ap (λ (n : Node). of_server n.next p.from) now_first in let z = ap (λ (n : Node). of_server n.next p.from) was_first in let q = counted.next in
            elim n [ inl u ↦ omega arith | inr u ↦ let v = u.0 in omega arith ]

        next_same : (j : ℕ) → j ≢ p.from → of_server (node_of w' 1).next j ≡ of_server (node_of w 1).next j
        next_same j n = ap (λ (n : Node). of_server n.next j) now_first ∙ counted.others j n ∙ ap (λ (n : Node). of_server n.next j) (sym was_first)

        next : (j : ℕ) → 1 < j → j ≤ length w.nodes → NextIs (node_of w') j
        next j u v = at_bool (λ b. (j == p.from) ≡ b → NextIs (node_of w') j) (j == p.from)
            (λ _ q. subst (NextIs (node_of w')) (sym (eq_tells j p.from q)) (inr (at_last (x.next p.from l m), subst Has (sym (others_same p.from (λ z. omega arith))) has)))
            (λ _ q. let n = eq_tells_not j p.from q in elim (x.next j u v) [ inl y ↦ inl (next_same j n ∙ y) | inr y ↦ inr (next_same j n ∙ y.0, subst Has (sym (others_same j (λ z. omega arith))) y.1) ]) refl

        cs : Calls (length w.nodes) (node_of w') (to_others 1 (append_to (done a.old (Receive p.from p.message)).node) (length w.nodes))
        cs = calls (length w.nodes) (node_of w') (record (done a.old (Receive p.from p.message)).node { store = a.new.store }) (sym now_first) reigns next

        -- it had not committed it before
        rises : a.old.commit ≡ 0 → worth (without k w.bag.packets ++ packets_of 1 w.bag.last (to_others 1 (append_to (done a.old (Receive p.from p.message)).node) (length w.nodes))) + (w.bag.last + length (to_others 1 (append_to (done a.old (Receive p.from p.message)).node) (length w.nodes))) ≤ 80
        rises z =
            let ss : List Sent = to_others 1 (append_to (done a.old (Receive p.from p.message)).node) (length w.nodes) in
            let b = worth_append (without k w.bag.packets) (packets_of 1 w.bag.last ss) in let c = worth_without k w.bag.packets p e in let g = worth_packets 1 w.bag.last ss in let u = cs.few in let f = x.servers_few in
            elim x.small [ inl s ↦ omega arith | inr s ↦ absurd (let y = s.0 in let o = ap (λ (n : Node). n.commit) was_first in omega arith) ]

  any : IsMail (length w.nodes) (node_of w) p → ReignOf w' (without k w'.bag.packets)
  any (inl ask) = asked ask
  any (inr (inl v)) = voted v.0 v.1.0 v.1.1
  any (inr (inr (inl c))) = called c
  any (inr (inr (inr y))) = answered y.0 y.1 y.2 y.3 y.4.0 y.4.1

pub reign_on : (w : World) (k : ℕ) (p : Packet) (w' : World) → IsAhead w → ReignOf w w.bag.packets → numbered k w.bag.packets ≡ Some p → (a : NodeActs w p.to (Receive p.from p.message) w') → a.outcome ≢ Forgets → ReignOf w' (without k w'.bag.packets)
reign_on w k p w' ahead x e a r = any w k p w' ahead x e a r (each_numbered (IsMail (length w.nodes) (node_of w)) k w.bag.packets p e x.mails)
