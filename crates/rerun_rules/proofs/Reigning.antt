-- Server 1 leads: each other server has its first entry, or will, as no message is lost.
use Rattle.std.proofs.Common.{◌≡◌, ◌≢◌, ℕ, suc, ◌+◌, ◌*◌, ◌-◌, ◌<◌, ◌≤◌, ◌⊎◌, inl, inr, Bool, List, [], ◌∷◌, ◌++◌, length, drop, Some, refl, sym, ◌∙◌, ap, subst, arith}
use Rattle.std.specs.Prelude.{◌==◌}
use Rattle.std.specs.List.{AllByRecursion as Each}
use Rattle.std.proofs.lemmas.List.{append_assoc}
use Rattle.raft_model.specs.declared.message.Message.{Message}
use Rattle.raft_model.specs.declared.message.Message.TheVariants.{Append, AskVote, No, Vote, Yes}
use Rattle.raft_model.specs.declared.message.Sent.{Sent}
use Rattle.raft_model.specs.Limits.{batch}
use Rattle.raft_model.specs.Log.{Log, term_at}
use Rattle.raft_model.specs.Node.{Node, of_server, to_others}
use Rattle.raft_model.specs.Rules.{append_to}
use Rattle.raft_model.specs.World.{Bag, Packet, message_bytes, numbered, packets_bytes, posted_all, without}
use Rattle.raft_model.proofs.Tests.{at_bool, eq_tells}
use Rattle.cluster_rules.specs.Sound.{IsAmong}
use Rattle.cluster_rules.proofs.Tools.{each_append, each_map, eq_tells_not}
use Rattle.rerun_rules.proofs.Bags.{among_last, among_left, among_without, each_without}
use Rattle.rerun_rules.proofs.Canvass.{IsAsk, few, worth, worth_append, worth_of, worth_without}
use Rattle.rerun_rules.proofs.Spreading.{IsBlank, Reigns, first_log}
use Rattle.rerun_rules.proofs.Winning.{HasRoom, IsAppend, IsSmall, bag_takes_it, others_length, others_to, others_within}

abbrev pub IsYes : Message → Type 0
IsYes (Yes term matched round) = Unit {0}
IsYes other = ⊥

-- this server has the entry
abbrev pub Has : Node → Type 0
Has n = n.log ≡ first_log

-- an Append carries it, or goes to a server that has it
abbrev pub IsCall : Node → Message → Type 0
IsCall n m = (commit : ℕ) × (round : ℕ) × ((m ≡ Append 1 0 0 first_log commit round) ⊎ ((m ≡ Append 1 1 1 [] commit round) × Has n))

-- What is on its way: an AskVote or a Vote of the election, an Append to a follower, or its Yes.
abbrev pub IsMail : ℕ → (ℕ → Node) → Packet → Type 0
IsMail servers nodes p =
    IsAsk servers 1 [] p
    ⊎ ((p.to ≡ 1) × ((granted : Bool) × (p.message ≡ Vote 1 granted)))
    ⊎ ((p.from ≡ 1) × (1 < p.to) × (p.to ≤ servers) × IsCall (nodes p.to) p.message)
    ⊎ ((p.to ≡ 1) × (1 < p.from) × (p.from ≤ servers) × Has (nodes p.from) × ((round : ℕ) × (p.message ≡ Yes 1 1 round)))

mail_on : (servers : ℕ) (nodes nodes' : ℕ → Node) → ((j : ℕ) → Has (nodes j) → Has (nodes' j)) → (p : Packet) → IsMail servers nodes p → IsMail servers nodes' p
mail_on servers nodes nodes' f p (inl a) = inl a
mail_on servers nodes nodes' f p (inr (inl a)) = inr (inl a)
mail_on servers nodes nodes' f p (inr (inr (inl a))) = inr (inr (inl (a.0, a.1, a.2, call a.3)))
  where
    call : IsCall (nodes p.to) p.message → IsCall (nodes' p.to) p.message
    call (commit, round, inl e) = (commit, round, inl e)
    call (commit, round, inr e) = (commit, round, inr (e.0, f p.to e.1))
mail_on servers nodes nodes' f p (inr (inr (inr a))) = inr (inr (inr (a.0, a.1, a.2, f p.from a.3, a.4)))

small_call : (n : Node) (m : Message) → IsCall n m → message_bytes m ≤ 1000
small_call n m (commit, round, inl e) = subst (λ (z : Message). message_bytes z ≤ 1000) (sym e) (omega arith)
small_call n m (commit, round, inr e) = subst (λ (z : Message). message_bytes z ≤ 1000) (sym e.0) (omega arith)

small_mail : (servers : ℕ) (nodes : ℕ → Node) (p : Packet) → IsMail servers nodes p → message_bytes p.message ≤ 1000
small_mail servers nodes p (inl a) = let k = ap message_bytes a.3 in omega arith
small_mail servers nodes p (inr (inl a)) = let k = ap message_bytes a.1.1 in omega arith
small_mail servers nodes p (inr (inr (inl a))) = small_call (nodes p.to) p.message a.3
small_mail servers nodes p (inr (inr (inr a))) = let k = ap message_bytes a.4.1 in omega arith

small_bytes : (servers : ℕ) (nodes : ℕ → Node) (ps : List Packet) → Each (IsMail servers nodes) ps → packets_bytes ps ≤ 1000 * length ps
small_bytes servers nodes [] a = omega arith
small_bytes servers nodes (p ∷ ps) a = let k = small_bytes servers nodes ps a.1 in let l = small_mail servers nodes p a.0 in omega arith

-- The packets of what is posted, where the bag has room for them.
abbrev pub packets_of : ℕ → ℕ → List Sent → List Packet
packets_of from last [] = []
packets_of from last (s ∷ ss) = record { number = suc last; from = from; to = s.to; message = s.message } ∷ packets_of from (suc last) ss

pub posted_are : (from : ℕ) (ss : List Sent) (bag : Bag) → Each IsSmall ss → HasRoom bag (length ss) → posted_all from ss bag ≡ record { packets = bag.packets ++ packets_of from bag.last ss; last = bag.last + length ss }
posted_are from [] bag a r = ap (λ (z : List Packet). record { packets = z; last = bag.last }) (sym (append_none bag.packets)) ∙ ap (λ z. record { packets = bag.packets ++ []; last = z }) (let e : bag.last ≡ bag.last + 0 = omega arith in e)
  where
    append_none : (xs : List Packet) → xs ++ [] ≡ xs
    append_none [] = refl
    append_none (x ∷ xs) = ap (λ (z : List Packet). x ∷ z) (append_none xs)
posted_are from (s ∷ ss) bag a r =
    let x = bag_takes_it from s ss bag a.0 r in
    ap (posted_all from ss) x.0 ∙ posted_are from ss (record { packets = bag.packets ++ record { number = suc bag.last; from = from; to = s.to; message = s.message } ∷ []; last = suc bag.last }) a.1 x.1
    ∙ ap (λ (z : List Packet). record { packets = z; last = suc bag.last + length ss }) (append_assoc bag.packets (record { number = suc bag.last; from = from; to = s.to; message = s.message } ∷ []) (packets_of from (suc bag.last) ss))
    ∙ ap (λ z. record { packets = bag.packets ++ packets_of from bag.last (s ∷ ss); last = z }) (let e : suc bag.last + length ss ≡ bag.last + suc (length ss) = omega arith in e)

each_packet : (P : Packet → Type 0) (Q : Sent → Type 0) (from : ℕ) → ((s : Sent) (number : ℕ) → Q s → P (record { number = number; from = from; to = s.to; message = s.message })) → (last : ℕ) (ss : List Sent) → Each Q ss → Each P (packets_of from last ss)
each_packet P Q from f last [] a = tt
each_packet P Q from f last (s ∷ ss) a = (f s (suc last) a.0, each_packet P Q from f (suc last) ss a.1)

among_packets : (from last : ℕ) (ss : List Sent) (s : Sent) → IsAmong s ss → (p : Packet) × IsAmong p (packets_of from last ss) × (p.to ≡ s.to) × (p.message ≡ s.message)
among_packets from last [] s m = absurd m
among_packets from last (x ∷ ss) s (inl e) = (record { number = suc last; from = from; to = x.to; message = x.message }, inl refl, ap (λ (z : Sent). z.to) (sym e), ap (λ (z : Sent). z.message) (sym e))
among_packets from last (x ∷ ss) s (inr m) = let y = among_packets from (suc last) ss s m in (y.0, inr y.1, y.2, y.3)

most_worth : (m : Message) → worth_of m ≤ 2
most_worth (AskVote term last_index last_term) = omega arith
most_worth (Vote term granted) = omega arith
most_worth (Append term prev prev_term entries commit round) = omega arith
most_worth (Yes term matched round) = omega arith
most_worth (No term last) = omega arith

pub worth_packets : (from last : ℕ) (ss : List Sent) → worth (packets_of from last ss) ≤ 2 * length ss
worth_packets from last [] = omega arith
worth_packets from last (s ∷ ss) = let k = worth_packets from (suc last) ss in let l = most_worth s.message in omega arith

among_right : {A : Type 0} (x : A) (xs ys : List A) → IsAmong x ys → IsAmong x (xs ++ ys)
among_right x [] ys m = m
among_right x (y ∷ xs) ys m = inr (among_right x xs ys m)

-- a message to or from this server that will make it known that it has the entry
abbrev pub IsToward : ℕ → Packet → Type 0
IsToward j p = ((p.to ≡ j) × IsAppend p.message) ⊎ ((p.from ≡ j) × IsYes p.message)

abbrev pub NextIs : (ℕ → Node) → ℕ → Type 0
NextIs nodes j = (of_server (nodes 1).next j ≡ 1) ⊎ ((of_server (nodes 1).next j ≡ 2) × Has (nodes j))

pub record Reign (servers : ℕ) (nodes : ℕ → Node) (last : ℕ) (ps : List Packet) : Type 0 where
  pub first : Reigns servers (nodes 1)
  pub blank : (j : ℕ) → 1 < j → j ≤ servers → IsBlank (nodes j).log
  pub next : (j : ℕ) → 1 < j → j ≤ servers → NextIs nodes j
  pub mails : Each (IsMail servers nodes) ps
  pub pending : (j : ℕ) → 1 < j → j ≤ servers → ((p : Packet) × IsAmong p ps × IsToward j p) ⊎ (1 ≤ of_server (nodes 1).matched j)
  pub small : (worth ps + last ≤ 55) ⊎ (((nodes 1).commit ≡ 1) × (worth ps + last ≤ 80))
  pub servers_few : servers ≤ 7

pub small_room : (servers : ℕ) (nodes : ℕ → Node) (bag : Bag) (n : ℕ) → Reign servers nodes bag.last bag.packets → n ≤ 7 → HasRoom bag n
small_room servers nodes bag n x l =
    let a = few bag.packets in let b = small_bytes servers nodes bag.packets x.mails in
    let s : worth bag.packets + bag.last ≤ 80 = elim x.small [ inl e ↦ omega arith | inr e ↦ let k = e.1 in omega arith ] in
    record { count = omega arith; bytes = omega arith; numbers = omega arith }

-- Another server was sent a message, and answers it.
pub other_came : (servers last : ℕ) (nodes nodes' : ℕ → Node) (k : ℕ) (ps : List Packet) (p v : Packet) → Reign servers nodes last ps → numbered k ps ≡ Some p → 1 < p.to →
    IsBlank (nodes' p.to).log → (Has (nodes p.to) → Has (nodes' p.to)) → ((j : ℕ) → j ≢ p.to → nodes' j ≡ nodes j) → IsMail servers nodes' v → suc (worth_of v.message) ≤ worth_of p.message →
    (IsAppend p.message → (v.from ≡ p.to) × IsYes v.message) → (IsYes p.message → ⊥) → Reign servers nodes' (suc last) (without k ps ++ v ∷ [])
other_came servers last nodes nodes' k ps p v x e to blank has others mail less answers not_yes = record {
  first = subst (Reigns servers) (sym same) x.first;
  blank = λ j l m. at_bool (λ b. (j == p.to) ≡ b → IsBlank (nodes' j).log) (j == p.to)
      (λ _ q. subst (λ z. IsBlank (nodes' z).log) (sym (eq_tells j p.to q)) blank)
      (λ _ q. subst (λ (n : Node). IsBlank n.log) (sym (others j (eq_tells_not j p.to q))) (x.blank j l m)) refl;
  next = λ j l m. next_on j (x.next j l m);
  mails = each_append (IsMail servers nodes') (without k ps) (v ∷ []) (each_map (IsMail servers nodes) (IsMail servers nodes') (mail_on servers nodes nodes' keeps) (without k ps) (each_without (IsMail servers nodes) k ps x.mails)) (mail, tt);
  pending = λ j l m. elim (x.pending j l m) [
    | inl q ↦ inl (elim (among_without k ps p q.0 e q.1) [
      | inl y ↦ (v, among_last (without k ps) v, inr (toward j (subst (IsToward j) y q.2)))
      | inr y ↦ (q.0, among_left q.0 (without k ps) (v ∷ []) y, q.2)
    ])
    | inr q ↦ inr (subst (λ (n : Node). 1 ≤ of_server n.matched j) (sym same) q)
  ];
  small = let a = worth_append (without k ps) (v ∷ []) in let b = worth_without k ps p e in
      elim x.small [ inl s ↦ inl (omega arith) | inr s ↦ inr (ap (λ (n : Node). n.commit) same ∙ s.0, let u = s.1 in omega arith) ];
  servers_few = x.servers_few;
}
  where
    same : nodes' 1 ≡ nodes 1
    same = others 1 (λ q. omega arith)

    keeps : (j : ℕ) → Has (nodes j) → Has (nodes' j)
    keeps j h = at_bool (λ b. (j == p.to) ≡ b → Has (nodes' j)) (j == p.to)
        (λ _ q. subst (λ z. Has (nodes' z)) (sym (eq_tells j p.to q)) (has (subst (λ z. Has (nodes z)) (eq_tells j p.to q) h)))
        (λ _ q. subst Has (sym (others j (eq_tells_not j p.to q))) h) refl

    next_on : (j : ℕ) → NextIs nodes j → NextIs nodes' j
    next_on j (inl q) = inl (ap (λ (n : Node). of_server n.next j) same ∙ q)
    next_on j (inr q) = inr (ap (λ (n : Node). of_server n.next j) same ∙ q.0, keeps j q.1)

    toward : (j : ℕ) → IsToward j p → (v.from ≡ j) × IsYes v.message
    toward j (inl q) = let a = answers q.1 in (a.0 ∙ q.0, a.1)
    toward j (inr q) = absurd (not_yes q.1)

-- Server 1 was sent a message, and sends these.
pub first_came : (servers last last' : ℕ) (nodes nodes' : ℕ → Node) (k : ℕ) (ps : List Packet) (p : Packet) (qs : List Packet) → Reign servers nodes last ps → numbered k ps ≡ Some p → p.to ≡ 1 →
    Reigns servers (nodes' 1) → ((j : ℕ) → 1 < j → j ≤ servers → NextIs nodes' j) → ((j : ℕ) → j ≢ 1 → nodes' j ≡ nodes j) → ((j : ℕ) → of_server (nodes 1).matched j ≤ of_server (nodes' 1).matched j) →
    (IsYes p.message → 1 ≤ of_server (nodes' 1).matched p.from) → (IsAppend p.message → ⊥) → Each (IsMail servers nodes') qs →
    (worth (without k ps ++ qs) + last' ≤ 55) ⊎ (((nodes' 1).commit ≡ 1) × (worth (without k ps ++ qs) + last' ≤ 80)) → Reign servers nodes' last' (without k ps ++ qs)
first_came servers last last' nodes nodes' k ps p qs x e to reigns next others more has not_append mails small = record {
  first = reigns;
  blank = λ j l m. subst (λ (n : Node). IsBlank n.log) (sym (others j (λ q. omega arith))) (x.blank j l m);
  next = next;
  mails = each_append (IsMail servers nodes') (without k ps) qs (each_map (IsMail servers nodes) (IsMail servers nodes') (mail_on servers nodes nodes' keeps) (without k ps) (each_without (IsMail servers nodes) k ps x.mails)) mails;
  pending = λ j l m. elim (x.pending j l m) [
    | inl q ↦ elim (among_without k ps p q.0 e q.1) [
      | inl y ↦ inr (toward j (subst (IsToward j) y q.2))
      | inr y ↦ inl (q.0, among_left q.0 (without k ps) qs y, q.2)
    ]
    | inr q ↦ inr (let u = more j in omega arith)
  ];
  small = small;
  servers_few = x.servers_few;
}
  where
    keeps : (j : ℕ) → Has (nodes j) → Has (nodes' j)
    keeps j h = at_bool (λ b. (j == 1) ≡ b → Has (nodes' j)) (j == 1)
        (λ _ q. subst (λ z. Has (nodes' z)) (sym (eq_tells j 1 q)) reigns.log)
        (λ _ q. subst Has (sym (others j (eq_tells_not j 1 q))) h) refl

    toward : (j : ℕ) → IsToward j p → 1 ≤ of_server (nodes' 1).matched j
    toward j (inl q) = absurd (not_append q.1)
    toward j (inr q) = subst (λ z. 1 ≤ of_server (nodes' 1).matched z) q.0 (has q.1)

-- What server 1 sends to all.
append_first : (t x : ℕ) (log : Log) (c r : ℕ) → t ≡ 1 → x ≡ 1 → log ≡ first_log → Append t (x - 1) (term_at (x - 1) log) (batch (drop (x - 1) log)) c r ≡ Append 1 0 0 first_log c r
append_first t x log c r a b e =
    ap (λ z. Append z (x - 1) (term_at (x - 1) log) (batch (drop (x - 1) log)) c r) a
    ∙ ap (λ z. Append 1 (z - 1) (term_at (z - 1) log) (batch (drop (z - 1) log)) c r) b
    ∙ ap (λ (z : Log). Append 1 0 (term_at 0 z) (batch (drop 0 z)) c r) e

append_second : (t x : ℕ) (log : Log) (c r : ℕ) → t ≡ 1 → x ≡ 2 → log ≡ first_log → Append t (x - 1) (term_at (x - 1) log) (batch (drop (x - 1) log)) c r ≡ Append 1 1 1 [] c r
append_second t x log c r a b e =
    ap (λ z. Append z (x - 1) (term_at (x - 1) log) (batch (drop (x - 1) log)) c r) a
    ∙ ap (λ z. Append 1 (z - 1) (term_at (z - 1) log) (batch (drop (z - 1) log)) c r) b
    ∙ ap (λ (z : Log). Append 1 1 (term_at 1 z) (batch (drop 1 z)) c r) e

is_call : (servers : ℕ) (nodes : ℕ → Node) (j : ℕ) → Reigns servers (nodes 1) → NextIs nodes j → IsCall (nodes j) (append_to (nodes 1) j)
is_call servers nodes j x (inl e) = ((nodes 1).commit, (nodes 1).round, inl (append_first (nodes 1).term (of_server (nodes 1).next j) (nodes 1).log (nodes 1).commit (nodes 1).round x.term e x.log))
is_call servers nodes j x (inr e) = ((nodes 1).commit, (nodes 1).round, inr (append_second (nodes 1).term (of_server (nodes 1).next j) (nodes 1).log (nodes 1).commit (nodes 1).round x.term e.0 x.log, e.1))

-- all that it sends
pub record Calls (servers : ℕ) (nodes : ℕ → Node) (ss : List Sent) : Type 0 where
  pub small : Each IsSmall ss
  pub few : length ss ≤ servers
  pub mails : (last : ℕ) → Each (IsMail servers nodes) (packets_of 1 last ss)
  pub all : (last j : ℕ) → 1 < j → j ≤ servers → (p : Packet) × IsAmong p (packets_of 1 last ss) × IsToward j p

pub calls : (servers : ℕ) (nodes : ℕ → Node) (m : Node) → m ≡ nodes 1 → Reigns servers (nodes 1) → ((j : ℕ) → 1 < j → j ≤ servers → NextIs nodes j) → Calls servers nodes (to_others 1 (append_to m) servers)
calls servers nodes m is x next = subst (λ (z : Node). Calls servers nodes (to_others 1 (append_to z) servers)) (sym is) (record {
  small = others_within IsSmall servers (append_to (nodes 1)) (λ j l u. small_call (nodes j) (append_to (nodes 1) j) (is_call servers nodes j x (next j l u))) servers (omega arith);
  few = others_length (append_to (nodes 1)) servers;
  mails = λ last. each_packet (IsMail servers nodes) (λ (s : Sent). (1 < s.to) × (s.to ≤ servers) × IsCall (nodes s.to) s.message) 1 (λ s number q. inr (inr (inl (refl, q.0, q.1, q.2)))) last (to_others 1 (append_to (nodes 1)) servers)
      (others_within (λ (s : Sent). (1 < s.to) × (s.to ≤ servers) × IsCall (nodes s.to) s.message) servers (append_to (nodes 1)) (λ j l u. (l, u, is_call servers nodes j x (next j l u))) servers (omega arith));
  all = λ last j l u. let q = among_packets 1 last (to_others 1 (append_to (nodes 1)) servers) (record { to = j; message = append_to (nodes 1) j }) (others_to (append_to (nodes 1)) j servers l u) in
      (q.0, q.1, inl (q.2, subst IsAppend (sym q.3) tt));
})

-- It begins.
pub reign_begins : (servers last : ℕ) (nodes : ℕ → Node) (ps : List Packet) (ss : List Sent) → Reigns servers (nodes 1) → ((j : ℕ) → 1 < j → j ≤ servers → IsBlank (nodes j).log) → ((j : ℕ) → 1 < j → j ≤ servers → of_server (nodes 1).next j ≡ 1) →
    Each (IsMail servers nodes) ps → Calls servers nodes ss → worth ps + last ≤ 31 → servers ≤ 7 → Reign servers nodes (last + length ss) (ps ++ packets_of 1 last ss)
reign_begins servers last nodes ps ss x blank next mails c s l = record {
  first = x;
  blank = blank;
  next = λ j u v. inl (next j u v);
  mails = each_append (IsMail servers nodes) ps (packets_of 1 last ss) mails (c.mails last);
  pending = λ j u v. let q = c.all last j u v in inl (q.0, among_right q.0 ps (packets_of 1 last ss) q.1, q.2);
  small = inl (let a = worth_append ps (packets_of 1 last ss) in let b = worth_packets 1 last ss in let f = c.few in omega arith);
  servers_few = l;
}
