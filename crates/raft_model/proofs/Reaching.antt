-- The runs that compute are runs of the world.
use Rattle.std.proofs.Common.{ℕ, List, None, Option, Some, [], ap, arith, cond, get_or, inl, inr, length, refl, replicate, set, subst, suc, sym, true, zero, ◌++◌, ◌<◌, ◌∷◌, ◌≡◌, ◌≤◌, ◌⊎◌}
use Rattle.std.proofs.lemmas.List.{length-replicate}
use Rattle.raft_model.specs.Node.{begun, Kept, Node, Store}
use Rattle.raft_model.specs.World.{here, next, step, empty, Acts, AreEmpty, Bag, Delivers, Drops, IsNew, IsReached, IsServer, Packet, Reaches, StartAll, TimesOut, World, WorldStep, nothing_kept, numbered, posted, posted_all, takes}
use Rattle.raft_model.proofs.Deciding.{log_decided, vote_decided}
use Rattle.raft_model.proofs.History.{rest}
use Rattle.raft_model.proofs.Moving.{vote_saved}
use Rattle.raft_model.proofs.Saving.{half_kept}
use Rattle.raft_model.proofs.Sound.{kept_of}
use Rattle.raft_model.proofs.Tests.{and_tells, at_bool, eq_is, le_tells, lt_tells, no_bool}
use Rattle.raft_model.specs.Log.{Log}
use Rattle.raft_model.specs.Rules.{Input, Receive, Timeout, done}
use Rattle.raft_model.specs.Runs.{dropped, empty_store, first_delivered, fresh, fresh_nodes, given, is_server, saved, server, settled}
use Rattle.raft_model.specs.Step.{HasVoteOf, LogStored, NodeStep, SavesVote, StoresLog, VoteSaved, Works, changed, with_vote}
use Rattle.raft_model.specs.declared.message.Sent.{Sent}
use Rattle.std.specs.Prelude.{nat_le, nat_lt, ◌==◌}

-- a node whose store works and holds its values
abbrev IsPlain : Node → Type 0
IsPlain n = (n.store.contents ≡ Some (kept_of n)) × (n.store.armed ≡ 0)

abbrev AllPlain : List Node → Type 0
AllPlain [] = Unit {0}
AllPlain (n ∷ ns) = IsPlain n × AllPlain ns

plain_at : (ns : List Node) (i : ℕ) (d : Node) → i < length ns → AllPlain ns → IsPlain (get_or ns i d)
plain_at [] i d l a = absurd (omega arith)
plain_at (n ∷ ns) zero d l a = a.0
plain_at (n ∷ ns) (suc i) d l a = plain_at ns i d (omega arith) a.1

plain_set : (ns : List Node) (i : ℕ) (n : Node) → IsPlain n → AllPlain ns → AllPlain (set ns i n)
plain_set [] i n p a = a
plain_set (m ∷ ns) zero n p a = (p, a.1)
plain_set (m ∷ ns) (suc i) n p a = (a.0, plain_set ns i n p a.1)

same_default : (ns : List Node) (i : ℕ) (c d : Node) → i < length ns → get_or ns i c ≡ get_or ns i d
same_default [] i c d l = absurd (omega arith)
same_default (n ∷ ns) zero c d l = refl
same_default (n ∷ ns) (suc i) c d l = same_default ns i c d (omega arith)

-- a store with other contents
abbrev holding : Store → Kept → Store
holding s k = record s { contents = Some k }

holding_same : (s : Store) (k : Kept) → s.contents ≡ Some k → holding s k ≡ s
holding_same s k e = let change : Option Kept → Store = λ c. record s { contents = c } in ap change (sym e)

plain_step : (old : Node) (input : Input) → IsPlain old → NodeStep Works old input (saved old (done old input).node) (done old input).sent
plain_step old input (told, free) = (holding old.store (half_kept old (done old input).node), vote (vote_decided old (done old input).node), log (log_decided old input), refl, refl)
  where
    vote : HasVoteOf old (done old input).node ⊎ SavesVote old (done old input).node → VoteSaved old (done old input).node old.store (holding old.store (half_kept old (done old input).node))
    vote (inl e) = inl (e, holding_same old.store (half_kept old (done old input).node) (vote_saved old (done old input).node old.store old.store told (inl (e, refl))))
    vote (inr un) = inr (un, record { unarmed = λ q. absurd (omega arith); armed = omega arith; faults = omega arith; contents = sym (ap (changed (with_vote (done old input).node.term (done old input).node.vote)) told); sure = refl })

    log : ((done old input).node.log ≡ old.log) ⊎ StoresLog old (done old input).node → LogStored old (done old input).node (holding old.store (half_kept old (done old input).node)) (holding old.store (kept_of (done old input).node))
    log (inl e) = inl (e, ap (λ (x : Log). holding old.store (record { term = (done old input).node.term; vote = (done old input).node.vote; log = x })) e)
    log (inr un) = inr (un, record { unarmed = λ q. absurd (omega arith); armed = omega arith; faults = omega arith; contents = refl; sure = refl })

abbrev IsHere : World → ℕ → Type 0
IsHere w i = (0 < i) × (i ≤ length w.nodes)

here_tells : (w : World) (i : ℕ) → is_server w i ≡ true → IsHere w i
here_tells w i e = let a = and_tells (nat_lt 0 i) (nat_le i (length w.nodes)) e in (lt_tells 0 i a.0, le_tells i (length w.nodes) a.1)

server_here : (w : World) (i : ℕ) → IsHere w i → IsServer w i (server w i)
server_here w zero l = absurd (omega (arith, l.0))
server_here w (suc i) l = (omega (arith, l.1), same_default w.nodes i (get_or w.nodes i (begun 0 0 empty_store nothing_kept)) (begun 0 0 empty_store nothing_kept) (omega (arith, l.1)))

server_plain : (w : World) (i : ℕ) → IsHere w i → AllPlain w.nodes → IsPlain (server w i)
server_plain w zero l a = absurd (omega (arith, l.0))
server_plain w (suc i) l a = plain_at w.nodes i (begun 0 0 empty_store nothing_kept) (omega (arith, l.1)) a

given_acts : (w : World) (i : ℕ) (input : Input) → IsHere w i → AllPlain w.nodes → IsNew w input → Acts w i input (given w i input)
unfolding given
given_acts w i input l a fresh = record {
  old = server w i;
  outcome = Works;
  new = saved (server w i) (done (server w i) input).node;
  sent = (done (server w i) input).sent;
  server = server_here w i l;
  fresh = fresh;
  step = plain_step (server w i) input (server_plain w i l a);
  becomes = refl;
}

given_plain : (w : World) (i : ℕ) (input : Input) → IsHere w i → AllPlain w.nodes → AllPlain (given w i input).nodes
unfolding given
given_plain w zero input l a = a
given_plain w (suc i) input l a = plain_set w.nodes i (saved (server w (suc i)) (done (server w (suc i)) input).node) (refl, (server_plain w (suc i) l a).1) a

-- the first message stays the first
abbrev StartsWith : Packet → List Packet → Type 0
StartsWith p ps = (rest : List Packet) × (ps ≡ p ∷ rest)

starts_posted : (i : ℕ) (s : Sent) (bag : Bag) (p : Packet) → StartsWith p bag.packets → StartsWith p (posted i s bag).packets
starts_posted i s bag p (rest, e) =
    let new : Packet = record { number = suc bag.last; from = i; to = s.to; message = s.message } in
    let more : Bag = record { packets = bag.packets ++ new ∷ []; last = suc bag.last } in
    at_bool (λ b. StartsWith p (cond b more bag).packets) (takes bag s.message) (λ _. (rest ++ new ∷ [], ap (λ z. z ++ new ∷ []) e)) (λ _. (rest, e))

starts_all : (i : ℕ) (sent : List Sent) (bag : Bag) (p : Packet) → StartsWith p bag.packets → StartsWith p (posted_all i sent bag).packets
starts_all i [] bag p a = a
starts_all i (s ∷ ss) bag p a = starts_all i ss (posted i s bag) p (starts_posted i s bag p a)

starts_given : (w : World) (i : ℕ) (input : Input) (p : Packet) → StartsWith p w.bag.packets → StartsWith p (given w i input).bag.packets
unfolding given
starts_given w i input p s = starts_all i (done (server w i) input).sent w.bag p s

numbered_first : (p : Packet) (ps : List Packet) → StartsWith p ps → numbered p.number ps ≡ Some p
numbered_first p ps (rest, e) = subst (λ z. numbered p.number z ≡ Some p) (sym e) (at_bool (λ b. (p.number == p.number) ≡ b → cond b (Some p) (numbered p.number rest) ≡ Some p) (p.number == p.number) (λ _ _. refl) (λ _ f. absurd (no_bool (p.number == p.number) (eq_is p.number p.number refl) f)) refl)

-- reached with plain nodes
abbrev ReachesPlain : World → World → Type 0
ReachesPlain w w' = Reaches w w' × AllPlain w'.nodes

delivered_reaches : (w : World) (ps : List Packet) → w.bag.packets ≡ ps → AllPlain w.nodes → ReachesPlain w (first_delivered w ps)
unfolding first_delivered
delivered_reaches w [] e a = (here, a)
delivered_reaches w (p ∷ ps) e a = at_bool (λ b. ReachesPlain w (cond b (dropped (given w p.to (Receive p.from p.message)) p.number) w)) (is_server w p.to) (λ q. delivers (here_tells w p.to q)) (λ _. (here, a))
  where
    starts : StartsWith p (given w p.to (Receive p.from p.message)).bag.packets
    starts = starts_given w p.to (Receive p.from p.message) p (ps, e)

    delivers : IsHere w p.to → ReachesPlain w (dropped (given w p.to (Receive p.from p.message)) p.number)
    delivers l =
        let one : WorldStep w (Delivers p.number) (given w p.to (Receive p.from p.message)) = (p, numbered_first p w.bag.packets (ps, e), given_acts w p.to (Receive p.from p.message) l a tt) in
        let two : WorldStep (given w p.to (Receive p.from p.message)) (Drops p.number) (dropped (given w p.to (Receive p.from p.message)) p.number) = (p, numbered_first p (given w p.to (Receive p.from p.message)).bag.packets starts, refl) in
        (next (Drops p.number) (next (Delivers p.number) here one) two, given_plain w p.to (Receive p.from p.message) l a)

reaches_on : (u v w : World) → Reaches u v → Reaches v w → Reaches u w
reaches_on u v w a here = a
reaches_on u v w a (next {v = x} move b e) = next move (reaches_on u v x a b) e

settled_reaches : (n : ℕ) (w : World) → AllPlain w.nodes → Reaches w (settled n w)
unfolding settled
settled_reaches zero w a = here
settled_reaches (suc n) w a =
    let d = delivered_reaches w w.bag.packets refl a in
    reaches_on w (first_delivered w w.bag.packets) (settled n (first_delivered w w.bag.packets)) d.0 (settled_reaches n (first_delivered w w.bag.packets) d.1)

reached_on : (w w' : World) → IsReached w → Reaches w w' → IsReached w'
reached_on w w' r here = r
reached_on w w' r (next {v = v} move a e) = step move (reached_on w v r a) e

-- the start
empty_stores : (n : ℕ) → AreEmpty (replicate n empty_store)
empty_stores zero = tt
empty_stores (suc n) = (refl, empty_stores n)

fresh_starts : (servers id n : ℕ) → StartAll servers id (replicate n empty_store) (fresh_nodes servers id n)
fresh_starts servers id zero = tt
fresh_starts servers id (suc n) =
    ((nothing_kept, record { unarmed = λ q. absurd (omega arith); armed = refl; faults = omega arith; contents = refl; sure = refl }, inr refl, refl), fresh_starts servers (suc id) n)

fresh_plain : (servers id n : ℕ) → AllPlain (fresh_nodes servers id n)
fresh_plain servers id zero = tt
fresh_plain servers id (suc n) = ((refl, refl), fresh_plain servers (suc id) n)

pub fresh_reached : (servers : ℕ) → IsReached (fresh servers)
unfolding fresh
fresh_reached servers =
    let ln : length (replicate servers empty_store) ≡ servers = length-replicate servers empty_store in
    empty (replicate servers empty_store) (empty_stores servers) (record {
      nodes = subst (λ z. StartAll z 1 (replicate servers empty_store) (fresh_nodes servers 1 servers)) (sym ln) (fresh_starts servers 1 servers);
      clocks = ap (λ z. replicate z 0) (sym ln);
      contacts = ap (λ z. replicate z None) (sym ln);
      bag = refl;
      greatest = refl;
      agreed = refl;
    })

-- a timeout of the first server, and so many deliveries
pub election_reached : (servers n : ℕ) → 0 < servers → IsReached (settled n (given (fresh servers) 1 Timeout))
unfolding fresh
election_reached servers n p =
    let plain = fresh_plain servers 1 servers in
    let at : IsHere (fresh servers) 1 = (omega arith, omega (arith, fresh_length servers 1 servers)) in
    let one : WorldStep (fresh servers) (TimesOut 1) (given (fresh servers) 1 Timeout) = given_acts (fresh servers) 1 Timeout at plain tt in
    reached_on (given (fresh servers) 1 Timeout) (settled n (given (fresh servers) 1 Timeout)) (step (TimesOut 1) (fresh_reached servers) one) (settled_reaches n (given (fresh servers) 1 Timeout) (given_plain (fresh servers) 1 Timeout at plain))
  where
    fresh_length : (servers id n : ℕ) → length (fresh_nodes servers id n) ≡ n
    fresh_length servers id zero = refl
    fresh_length servers id (suc n) = ap suc (fresh_length servers (suc id) n)
