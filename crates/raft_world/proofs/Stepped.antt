-- What a server's step makes of a world's parts.
use Rattle.std.proofs.Common.{◌≡◌, ◌≢◌, ℕ, suc, ◌+◌, ◌<◌, ◌≤◌, eqb, true, false, cond, ◌⊎◌, inl, inr, min, length, set, get_or, List, [], ◌∷◌, ◌++◌, Option, Some, refl, sym, ap, ◌∙◌, subst, arith}
use Rattle.std.specs.Prelude.{nat_lt, nat_le}
use Rattle.std.proofs.lemmas.Bool.Decides.{eqb_tells, nat_tests}
use Rattle.std.proofs.lemmas.List.{get_or-set_same, get_or-set_other, length-set, set-get_or}
use Rattle.cat_model.specs.LogLimits.{command_bytes, entries_bytes, is_noop, log_bytes, most_bytes, most_entries}
use Rattle.raft_model.specs.declared.message.Message.{Message}
use Rattle.raft_model.specs.declared.message.Message.TheVariants.{Append, AskVote, No, Vote, Yes}
use Rattle.raft_model.specs.declared.message.Sent.{Sent}
use Rattle.raft_model.specs.Log.{Log}
use Rattle.raft_model.specs.Node.{Node, committed}
use Rattle.raft_model.specs.Rules.{Input, done}
use Rattle.raft_model.specs.Step.{Outcome, Works, VoteFails, LogFails, Forgets, NodeStep, forgets}
use Rattle.raft_model.specs.World.{World, Packet, Bag, Acts, IsNew, after, longer, message_bytes, posted, posted_all, raised, says_yes, takes}
use Rattle.raft_model.proofs.Tests.{and_is, at_bool, le_is}
use Rattle.raft_node.specs.Receiving.{CarriesAllowed}
use Rattle.raft_node.specs.Steps.{Steps}
use Rattle.raft_node.specs.Steps as node
use Rattle.raft_world.specs.declared.agreed.Agreed.{Agreed}
use Rattle.raft_world.specs.declared.agreed.Agreed.TheVariants.{Committed}
use Rattle.raft_world.specs.Agreeing.{count_of, grown, shown}
use Rattle.raft_world.specs.Steps.{FindsNoMemory, StepsWhole}
use Rattle.raft_world.specs.Worlds.{AllMayCome, IsSeated, IsWorld, MayCome}
use Rattle.raft_world.proofs.Fronting.{step_kept}
use Rattle.raft_world.proofs.Outgoing.{AllGo, IsFit, IsPeer, IsShort, step_sends}
use Rattle.raft_world.proofs.Sharing.{grown_list, grown_stands, stays}
use Rattle.raft_world.proofs.Within.{step_within}

-- a world's parts
pub record Parts : Type 0 where
  pub nodes : List Node
  pub clocks : List ℕ
  pub contacts : List (Option ℕ)
  pub bag : Bag
  pub greatest : ℕ
  pub agreed : Agreed

abbrev pub world_of : Parts → World
world_of p = record { nodes = p.nodes; clocks = p.clocks; contacts = p.contacts; bag = p.bag; greatest = p.greatest; agreed = shown p.agreed p.nodes }

abbrev pub Is : Parts → Type 0
Is p = IsWorld p.nodes p.clocks p.contacts p.bag.packets p.agreed

abbrev pub noted : Parts → ℕ → List Sent → List (Option ℕ)
noted p at sent = cond (says_yes sent) (set p.contacts at (Some (get_or p.clocks at 0))) p.contacts

-- the parts once the node at a place has become another, and has sent these
abbrev pub with_step : Parts → ℕ → Node → List Sent → ℕ → Parts
with_step p at new sent greatest = record {
  nodes = set p.nodes at new;
  clocks = p.clocks;
  contacts = noted p at sent;
  bag = posted_all (suc at) sent p.bag;
  greatest = greatest;
  agreed = grown p.agreed at (min new.commit (length new.log));
}

-- the parts once the node at a place has become another
abbrev pub with_node : Parts → ℕ → Node → Parts
with_node p at new = record p { nodes = set p.nodes at new }

lighter : (es : Log) → log_bytes es ≤ entries_bytes es
lighter [] = omega arith
lighter (e ∷ es) =
    let ih = lighter es in
    at_bool (λ b. cond b 0 (command_bytes e.command) + log_bytes es ≤ command_bytes e.command + entries_bytes es) (is_noop e.command) (λ _. omega arith) (λ _. omega arith)

allowed : (m : Message) → IsShort m → message_bytes m ≤ 67108864 → CarriesAllowed m
allowed (AskVote t li lt) s b = tt
allowed (Vote t g) s b = tt
allowed (Append t prev pt es commit round) s b =
    let light = lighter es in
    and_is (nat_le (length es) most_entries) (nat_le (log_bytes es) most_bytes) (le_is (length es) most_entries (omega arith)) (le_is (log_bytes es) most_bytes (omega arith))
allowed (Yes t matched round) s b = tt
allowed (No t k) s b = tt

come_more : (servers : ℕ) (ps : List Packet) (p : Packet) → AllMayCome servers ps → MayCome servers p → AllMayCome servers (ps ++ p ∷ [])
come_more servers [] p a m = (m, tt)
come_more servers (q ∷ qs) p a m = (a.0, come_more servers qs p a.1 m)

taken_light : (bag : Bag) (m : Message) → takes bag m ≡ true → message_bytes m ≤ 67108864
taken_light bag m e = grind (arith, nat_tests)

post_comes : (servers id : ℕ) (s : Sent) (bag : Bag) → (1 ≤ id) × (id ≤ servers) → IsPeer id servers s.to × IsShort s.message → AllMayCome servers bag.packets → AllMayCome servers (posted id s bag).packets
post_comes servers id s bag i (peer, short) a =
    at_bool (λ b. AllMayCome servers (cond b (record { packets = bag.packets ++ record { number = suc bag.last; from = id; to = s.to; message = s.message } ∷ []; last = suc bag.last }) bag).packets) (takes bag s.message)
    (λ e. come_more servers bag.packets (record { number = suc bag.last; from = id; to = s.to; message = s.message }) a
    (record { from = i; to = (peer.0, peer.1); other = λ same. peer.2 (sym same); allowed = allowed s.message short (taken_light bag s.message e) }))
    (λ _. a)

posts_come : (servers id : ℕ) (ss : List Sent) (bag : Bag) → (1 ≤ id) × (id ≤ servers) → AllGo id servers ss → AllMayCome servers bag.packets → AllMayCome servers (posted_all id ss bag).packets
posts_come servers id [] bag i g a = a
posts_come servers id (s ∷ ss) bag i g a = posts_come servers id ss (posted id s bag) i g.1 (post_comes servers id s bag i g.0 a)

longer_count : (a : Agreed) (at c : ℕ) → (count_of a ≤ count_of (grown a at c)) × (c ≤ count_of (grown a at c))
longer_count a at c =
    at_bool (λ b. nat_lt (count_of a) c ≡ b → (count_of a ≤ count_of (cond b (Committed at c) a)) × (c ≤ count_of (cond b (Committed at c) a))) (nat_lt (count_of a) c)
    (λ _ e. (grind (arith, nat_tests), omega arith)) (λ _ e. (omega arith, grind (arith, nat_tests))) refl

grown_same : (a : Agreed) (at c : ℕ) → c ≤ count_of a → grown a at c ≡ a
grown_same a at c l = at_bool (λ b. nat_lt (count_of a) c ≡ b → cond b (Committed at c) a ≡ a) (nat_lt (count_of a) c) (λ _ e. absurd (grind (arith, nat_tests))) (λ _ e. refl) refl

seat_up : (servers a b at : ℕ) (n : Node) → a ≤ b → IsSeated servers a at n → IsSeated servers b at n
seat_up servers a b at n l s = record { id = s.id; servers = s.servers; committed = omega (arith, s.committed); within = s.within }

-- the seats, once the node at a place is another with the same numbers
pub seats : (nodes : List Node) (a b at : ℕ) (old new : Node) → ((j : ℕ) (n : Node) → j < length nodes → get_or nodes j n ≡ n → IsSeated (length nodes) a j n)
    → at < length nodes → get_or nodes at old ≡ old → a ≤ b → new.id ≡ old.id → new.servers ≡ old.servers → min new.commit (length new.log) ≤ b → new.commit ≤ length new.log
    → (j : ℕ) (n : Node) → j < length (set nodes at new) → get_or (set nodes at new) j n ≡ n → IsSeated (length (set nodes at new)) b j n
seats nodes a b at old new all l here up id servers most within j n k e = go (eqb_tells j at)
  where
    size : length (set nodes at new) ≡ length nodes
    size = length-set nodes at new

    go : ((eqb j at ≡ true) × (j ≡ at)) ⊎ ((eqb j at ≡ false) × (j ≢ at)) → IsSeated (length (set nodes at new)) b j n
    go (inl q) =
        let same : new ≡ n = sym (get_or-set_same nodes at new n l) ∙ ap (λ i. get_or (set nodes at new) i n) (sym q.1) ∙ e in
        let was = all at old l here in
        subst (λ (m : Node). IsSeated (length (set nodes at new)) b j m) same
        (record { id = id ∙ was.id ∙ ap suc (sym q.1); servers = servers ∙ was.servers ∙ sym size; committed = most; within = within })
    go (inr q) =
        let was = all j n (omega (arith, k, size)) (sym (get_or-set_other nodes at j new n q.1) ∙ e) in
        record { id = was.id; servers = was.servers ∙ sym size; committed = omega (arith, was.committed); within = was.within }

module _ (p : Parts) (is : Is p) (at : ℕ) (l : at < length p.nodes) (old new : Node) (here : get_or p.nodes at old ≡ old) where
  size : length (set p.nodes at new) ≡ length p.nodes
  size = length-set p.nodes at new

  here_now : get_or (set p.nodes at new) at new ≡ new
  here_now = get_or-set_same p.nodes at new new l

  -- the parts after a step
  pub step_is : (outcome : Outcome) (input : Input) (sent : List Sent) (greatest : ℕ) → IsFit old input → NodeStep outcome old input new sent → Is (with_step p at new sent greatest)
  step_is outcome input sent greatest fit step =
      let out = step_sends outcome old input new sent fit step in
      let seat = is.seated at old l here in
      let c = min new.commit (length new.log) in
      let up = longer_count p.agreed at c in
      let kept = stays p.nodes at old new l here (λ x. step_kept x outcome old input new sent step) p.agreed is.stands in
      let go : AllGo (suc at) (length p.nodes) sent = subst (λ k. AllGo k (length p.nodes) sent) seat.id (subst (λ k. AllGo old.id k sent) seat.servers out.2) in
      record {
        count = omega (arith, is.count, size);
        has_clocks = is.has_clocks ∙ sym size;
        has_contacts = at_bool (λ b. length (cond b (set p.contacts at (Some (get_or p.clocks at 0))) p.contacts) ≡ length (set p.nodes at new)) (says_yes sent)
            (λ _. length-set p.contacts at (Some (get_or p.clocks at 0)) ∙ is.has_contacts ∙ sym size) (λ _. is.has_contacts ∙ sym size);
        seated = seats p.nodes (count_of p.agreed) (count_of (grown p.agreed at c)) at old new is.seated l here up.0 out.0 out.1 up.1 (step_within outcome old input new sent step seat.within);
        come = subst (λ k. AllMayCome k (posted_all (suc at) sent p.bag).packets) (sym size) (posts_come (length p.nodes) (suc at) sent p.bag (omega arith, omega arith) go is.come);
        stands = grown_stands (set p.nodes at new) at new (omega (arith, l, size)) here_now p.agreed c refl kept.stands;
      }

  -- the world is what the step makes of it
  pub step_becomes : (outcome : Outcome) (input : Input) (sent : List Sent) (greatest : ℕ) → greatest ≡ raised input p.greatest → NodeStep outcome old input new sent
      → world_of (with_step p at new sent greatest) ≡ after (world_of p) (suc at) input new sent
  step_becomes outcome input sent greatest up step =
      let kept = stays p.nodes at old new l here (λ x. step_kept x outcome old input new sent step) p.agreed is.stands in
      let list : shown (grown p.agreed at (min new.commit (length new.log))) (set p.nodes at new) ≡ longer (shown p.agreed p.nodes) (committed new) =
      grown_list (set p.nodes at new) at new (omega (arith, l, size)) here_now p.agreed (min new.commit (length new.log)) refl kept.stands ∙ ap (λ x. longer x (committed new)) kept.list in
      λ i. record {
        nodes = set p.nodes at new;
        clocks = p.clocks;
        contacts = noted p at sent;
        bag = posted_all (suc at) sent p.bag;
        greatest = up i;
        agreed = list i;
      }

  pub acts : (outcome : Outcome) (input : Input) (sent : List Sent) (greatest : ℕ) → greatest ≡ raised input p.greatest → IsNew (world_of p) input → NodeStep outcome old input new sent
      → (a : Acts (world_of p) (suc at) input (world_of (with_step p at new sent greatest))) × (a.outcome ≡ outcome) × (a.old ≡ old) × (a.new ≡ new)
  acts outcome input sent greatest up fresh step =
      (record { old = old; outcome = outcome; new = new; sent = sent; server = (l, here); fresh = fresh; step = step; becomes = step_becomes outcome input sent greatest up step }, refl, refl, refl)

  -- a step that commits nothing new and sends nothing
  pub still : (greatest : ℕ) → min new.commit (length new.log) ≤ count_of p.agreed → with_step p at new [] greatest ≡ record (with_node p at new) { greatest = greatest }
  still greatest most = λ i. record {
    nodes = set p.nodes at new;
    clocks = p.clocks;
    contacts = p.contacts;
    bag = p.bag;
    greatest = greatest;
    agreed = grown_same p.agreed at (min new.commit (length new.log)) most i;
  }

  -- the step that found no memory once the vote was saved
  pub forgot : (input : Input) → IsFit old input → IsNew (world_of p) input → p.greatest ≡ raised input p.greatest → NodeStep Forgets old input new []
      → Is (with_node p at new) × FindsNoMemory (world_of p) (suc at) input (world_of (with_node p at new))
  forgot input fit fresh up step =
      let seat = is.seated at old l here in
      let node : new ≡ forgets old (done old input).node new.store = step.3 in
      let most : min new.commit (length new.log) ≤ count_of p.agreed = omega (arith, seat.committed, ap (λ (n : Node). n.commit) node, ap (λ (n : Node). length n.log) node) in
      let same = still p.greatest most in
      let a = acts Forgets input [] p.greatest up fresh step in
      (subst Is same (step_is Forgets input [] p.greatest fit step), inr (subst (λ q. (b : Acts (world_of p) (suc at) input (world_of q)) × (b.outcome ≡ Forgets)) same (a.0, a.1)))

  -- nothing came of it
  pub unchanged : new ≡ old → with_node p at new ≡ p
  unchanged e =
      let same : set p.nodes at new ≡ p.nodes = ap (set p.nodes at) (e ∙ sym here) ∙ set-get_or p.nodes at old in
      λ i. record p { nodes = same i }

  pub finds : (input : Input) → IsFit old input → IsNew (world_of p) input → p.greatest ≡ raised input p.greatest → node.FindsNoMemory old input new
      → Is (with_node p at new) × FindsNoMemory (world_of p) (suc at) input (world_of (with_node p at new))
  finds input fit fresh up (inl e) = let same = unchanged e in (subst Is (sym same) is, inl (ap world_of same))
  finds input fit fresh up (inr step) = forgot input fit fresh up step

  pub makes : (input : Input) (sent : List Sent) → IsFit old input → IsNew (world_of p) input → p.greatest ≡ raised input p.greatest → Steps old input new sent
      → Is (with_step p at new sent p.greatest) × StepsWhole (world_of p) (suc at) input (world_of (with_step p at new sent p.greatest))
  makes input sent fit fresh up (inl step) =
      let a = acts Works input sent p.greatest up fresh step in
      (step_is Works input sent p.greatest fit step, (a.0, λ e. absurd (cc (sym a.1 ∙ e))))
  makes input sent fit fresh up (inr (inl step)) =
      let a = acts VoteFails input sent p.greatest up fresh step in
      (step_is VoteFails input sent p.greatest fit step, (a.0, λ e. absurd (cc (sym a.1 ∙ e))))
  makes input sent fit fresh up (inr (inr step)) =
      let a = acts LogFails input sent p.greatest up fresh step in
      (step_is LogFails input sent p.greatest fit step, (a.0, λ e. absurd (cc (sym a.1 ∙ e))))
