-- A proposed number is counted.
use Rattle.std.proofs.Common.{ℕ, List, [], arith, inl, inr, max, refl, ◌∷◌, ◌≡◌}
use Rattle.raft_model.proofs.History.{History, count_number}
use Rattle.raft_model.proofs.Sound.{AllPackets, Fits, IsTrueOf, Runs}
use Rattle.raft_model.specs.Node.{Node, last}
use Rattle.raft_model.specs.Rules.{Beat, Input, Probe, Propose, Receive, Timeout}
use Rattle.raft_model.specs.World.{Packet, raised}
use Rattle.raft_model.specs.declared.message.Message.{Message}
use Rattle.raft_model.specs.declared.message.Message.TheVariants.{Append, AskVote, No, Vote, Yes}

pub runs_count : (servers : ℕ) (h : History) (g i : ℕ) (n : Node) → Runs servers h i n → Runs servers (count_number g h) i n
runs_count servers h g i n r = record {
  id = r.id;
  count = r.count;
  place = r.place;
  running = r.running;
  term = r.term;
  vote = r.vote;
  log = r.log;
  role = r.role;
  commit_within = r.commit_within;
  commit_agrees = r.commit_agrees;
  votes = r.votes;
  matched = r.matched;
  next = r.next;
  round = r.round;
  acked = r.acked;
  own = r.own;
}

pub fits_count : (servers : ℕ) (h : History) (g i : ℕ) (n : Node) → Fits servers h i n → Fits servers (count_number g h) i n
fits_count servers h g i n (inl (k, r, b)) = inl (k, runs_count servers h g i n r, b)
fits_count servers h g i n (inr (e, r)) = inr (e, record { id = r.id; count = r.count; place = r.place; kept = r.kept; holds = r.holds; rests = r.rests; term = r.term; vote = r.vote; log = r.log; role = r.role; commit_within = r.commit_within; commit_agrees = r.commit_agrees })

pub true_count : (h : History) (g from to : ℕ) (m : Message) → IsTrueOf h from to m → IsTrueOf (count_number g h) from to m
true_count h g from to (AskVote t li lt) a = record { stands = a.stands; index = a.index; last = a.last }
true_count h g from to (Vote t granted) a = a
true_count h g from to (Append t prev pt es commit round) a = record { leads = a.leads; within = a.within; before = a.before; entries_are = a.entries_are; commit_within = a.commit_within; commit_agrees = a.commit_agrees; begun = a.begun }
true_count h g from to (Yes t matched round) a = a
true_count h g from to (No t last) a = tt

pub told_count : (h : History) (g : ℕ) (ps : List Packet) → AllPackets (λ p. IsTrueOf h p.from p.to p.message) ps → AllPackets (λ p. IsTrueOf (count_number g h) p.from p.to p.message) ps
told_count h g [] a = tt
told_count h g (p ∷ ps) a = (true_count h g p.from p.to p.message a.0, told_count h g ps a.1)

abbrev pub number_of : Input → ℕ
number_of (Propose number command) = number
number_of input = 0

pub raised_is : (input : Input) (g : ℕ) → raised input g ≡ max g (number_of input)
raised_is (Propose number command) g = refl
raised_is Timeout g = omega arith
raised_is Beat g = omega arith
raised_is (Receive from message) g = omega arith
raised_is Probe g = omega arith
