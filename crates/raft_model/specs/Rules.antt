-- The rules of a server (extended Raft paper, figure 2, "Rules for Servers" and the receivers' rules; its section on
-- read-only operations for rounds). Each says what the server becomes and sends where its store works.
use Rattle.std.specs.Prelude.{ℕ, zero, suc, ◌+◌, ◌-◌, ◌^◌, ◌==◌, nat_le, nat_lt, min, max, not, ◌&&◌, ◌||◌, Bool, true, false, List, [], ◌∷◌, ◌++◌, length, drop, replicate, if◌then◌else◌, Option, Some, None}
use Rattle.cat_model.specs.declared.command.Command.TheVariants.{Noop}
use Rattle.cat_model.specs.declared.command.Command.{Command}
use Rattle.cat_model.specs.declared.command.Entry.{Entry}
use Rattle.cat_model.specs.declared.reply.Role.{Role}
use Rattle.cat_model.specs.declared.reply.Role.TheVariants.{Follower, Candidate, Leader}
use Rattle.raft_model.specs.declared.message.Message.{Message}
use Rattle.raft_model.specs.declared.message.Message.TheVariants.{AskVote, Vote, Append, Yes, No}
use Rattle.raft_model.specs.declared.message.Round.{Round}
use Rattle.raft_model.specs.Quorum.{Servers, is_majority, members}
use Rattle.raft_model.specs.Log.{Log, term_at, last_term, accepted}
use Rattle.raft_model.specs.Limits.{is_full, keeps_limits, batch}
use Rattle.raft_model.specs.Node.{Node, Done, last, of_server, set_server, quiet, reply, to_others}

-- An Append carries the entries from the receiver's next on, by its limits, and the leader's commit and round.
abbrev pub append_to : Node → ℕ → Message
append_to n peer =
    let prev = of_server n.next peer - 1 in
    Append n.term prev (term_at prev n.log) (batch (drop prev n.log)) n.commit n.round

abbrev pub append_all : Node → Done
append_all n = record { node = n; sent = to_others n.id (append_to n) n.servers }

-- A message of a higher term makes the node a follower of that term, with no vote and no known leader.
abbrev pub risen : Node → ℕ → Node
risen n t = if nat_lt n.term t then record n { term = t; vote = None; role = Follower; leader = None } else n

-- A server has index k: it is the node itself, or it matched that far.
abbrev pub has_index : Node → ℕ → Servers
has_index n k peer = peer == n.id || nat_le k (of_server n.matched peer)

-- The commit rises to the greatest index up to k of an entry of the own term that a majority has matched, the node
-- itself counted.
abbrev pub committed_upto : Node → ℕ → ℕ
committed_upto n zero = n.commit
committed_upto n (suc k) =
    if nat_lt n.commit (suc k) && (term_at (suc k) n.log == n.term && is_majority n.servers (has_index n (suc k)))
    then suc k
    else committed_upto n k

abbrev pub with_commit : Node → Node
with_commit n = record n { commit = committed_upto n (last n) }

-- A leader appends an entry. In a cluster of one server it is committed at once.
abbrev pub appended : Node → Entry → Node
appended n e =
    let new = record n { log = n.log ++ e ∷ [] } in
    if n.servers == 1 then record new { commit = last new } else new

-- A new leader: next is last + 1 for all, matched and the acknowledged round are 0 for all, and the round is 0.
abbrev pub leading : Node → Node
leading n = record n {
  role = Leader;
  next = replicate n.servers (last n + 1);
  matched = replicate n.servers 0;
  acked = replicate n.servers 0;
  round = 0;
}

abbrev pub noop : ℕ → Entry
noop term = record { term = term; number = 0; command = Noop }

-- It appends a Noop with number 0, unless its log is full in entries, and sends Append to all others.
unfoldable pub leads : Node → Done
leads n = append_all (if is_full n.log then leading n else appended (leading n) (noop n.term))

-- A timeout: the next term, a vote for itself, candidate, no known leader.
abbrev pub stands : Node → Node
stands n = record n { term = suc n.term; vote = Some n.id; role = Candidate; leader = None; votes = n.id ∷ [] }

abbrev pub ask_all : Node → Done
ask_all n = record { node = n; sent = to_others n.id (λ peer. AskVote n.term (last n) (last_term n.log)) n.servers }

-- It asks all others for their votes. A single server leads at once.
unfoldable pub candidate : Node → Done
candidate n = if n.servers == 1 then leads n else ask_all n

unfoldable pub timed_out : Node → Role → Done
timed_out n Leader = quiet n
timed_out n role = if nat_lt n.term (2 ^ 64 - 1) then candidate (stands n) else quiet n

abbrev pub may_vote : Option ℕ → ℕ → Bool
may_vote None from = true
may_vote (Some c) from = c == from

abbrev pub is_up_to_date : ℕ → ℕ → Log → Bool
is_up_to_date t n log = nat_lt (last_term log) t || (last_term log == t && nat_le (length log) n)

-- An AskVote of the own term is granted exactly where there is no vote or one for the sender, and the sender's
-- last entry is not smaller than the node's own, terms compared first.
unfoldable pub asked : Node → ℕ → ℕ → ℕ → Done
asked n from last_index last_term =
    if may_vote n.vote from && is_up_to_date last_term last_index n.log
    then reply (record n { vote = Some from }) from (Vote n.term true)
    else reply n from (Vote n.term false)

-- A candidate that has a majority's votes leads.
unfoldable pub counted : Node → Done
counted n = if is_majority n.servers (members n.votes) then leads n else quiet n

abbrev pub with_voter : List ℕ → ℕ → List ℕ
with_voter votes from = if members votes from then votes else votes ++ from ∷ []

-- A granted Vote of the own term is counted by a candidate, once per voter.
unfoldable pub voted : Node → ℕ → Bool → Role → Done
voted n from true Candidate = counted (record n { votes = with_voter n.votes from })
voted n from granted role = quiet n

-- The log has an entry prev of that term.
abbrev pub matches : Node → ℕ → ℕ → Bool
matches n prev prev_term = nat_le prev (last n) && term_at prev n.log == prev_term

-- the first k entries have the same terms in both
abbrev pub keeps_front : ℕ → Log → Log → Bool
keeps_front zero old new = true
keeps_front (suc k) [] new = true
keeps_front (suc k) (e ∷ old) [] = false
keeps_front (suc k) (e ∷ old) (f ∷ new) = e.term == f.term && keeps_front k old new

-- A committed entry would be cut, or the log would pass a limit.
abbrev pub is_refused : Node → Log → Bool
is_refused n new = not (keeps_limits new) || not (keeps_front n.commit n.log new)

abbrev pub follows : Node → ℕ → Node
follows n from = record n { role = Follower; leader = Some from }

-- The commit becomes the greater of itself and the smaller of the message's commit and the last index that the
-- message tells of.
unfoldable pub accepts : Node → ℕ → ℕ → Log → ℕ → ℕ → Done
accepts n from prev entries commit round =
    let new = accepted n.log prev entries in
    if is_refused n new
    then quiet (follows n from)
    else reply (record (follows n from) { log = new; commit = max n.commit (min commit (prev + length entries)) })
    from (Yes n.term (prev + length entries) round)

-- An Append of the own term: a leader ignores it. Any other follows the sender, and answers No where it has no
-- entry prev of that term.
unfoldable pub offered : Node → Role → ℕ → ℕ → ℕ → Log → ℕ → ℕ → Done
offered n Leader from prev prev_term entries commit round = quiet n
offered n role from prev prev_term entries commit round =
    if matches n prev prev_term
    then accepts n from prev entries commit round
    else reply (follows n from) from (No n.term (last n))

-- Where the commit rose, Append goes to all others, else to the sender where it lacks entries.
unfoldable pub after_yes : Node → Node → ℕ → Done
after_yes old n from =
    if nat_lt old.commit n.commit then append_all n
    else if nat_le (of_server n.next from) (last n) then reply n from (append_to n from)
    else quiet n

-- matched and the acknowledged round of the sender rise to the message's, next to matched + 1
abbrev pub noted : Node → ℕ → ℕ → ℕ → Node
noted n from matched round = record n {
  matched = set_server n.matched from (max (of_server n.matched from) matched);
  acked = set_server n.acked from (max (of_server n.acked from) round);
  next = set_server n.next from (max (of_server n.next from) (matched + 1));
}

-- A Yes of the own term at a leader, with matched not above its last.
unfoldable pub agreed_to : Node → Role → ℕ → ℕ → ℕ → Done
agreed_to n Leader from matched round =
    if nat_le matched (last n) then after_yes n (with_commit (noted n from matched round)) from else quiet n
agreed_to n role from matched round = quiet n

-- next becomes the greater of matched + 1 and the smaller of next - 1 and the message's last + 1
abbrev pub stepped_back : Node → ℕ → ℕ → Node
stepped_back n from last = record n {
  next = set_server n.next from (max (of_server n.matched from + 1) (min (of_server n.next from - 1) (last + 1)));
}

-- A No of the own term at a leader: Append goes to the sender.
unfoldable pub declined : Node → Role → ℕ → ℕ → Done
declined n Leader from last = let new = stepped_back n from last in reply new from (append_to new from)
declined n role from last = quiet n

unfoldable pub of_own_term : Node → ℕ → Message → Done
of_own_term n from (AskVote term last_index last_term) = asked n from last_index last_term
of_own_term n from (Vote term granted) = voted n from granted n.role
of_own_term n from (Append term prev prev_term entries commit round) = offered n n.role from prev prev_term entries commit round
of_own_term n from (Yes term matched round) = agreed_to n n.role from matched round
of_own_term n from (No term last) = declined n n.role from last

-- Of a lower term an AskVote is answered Vote not granted, an Append No, both with the own term, and others are
-- ignored.
unfoldable pub of_lower_term : Node → ℕ → Message → Done
of_lower_term n from (AskVote term last_index last_term) = reply n from (Vote n.term false)
of_lower_term n from (Append term prev prev_term entries commit round) = reply n from (No n.term (last n))
of_lower_term n from message = quiet n

abbrev pub term_of : Message → ℕ
term_of (AskVote term last_index last_term) = term
term_of (Vote term granted) = term
term_of (Append term prev prev_term entries commit round) = term
term_of (Yes term matched round) = term
term_of (No term last) = term

unfoldable pub received : Node → ℕ → Message → Done
received n from message =
    if nat_lt (term_of message) n.term then of_lower_term n from message
    else of_own_term (risen n (term_of message)) from message

-- A leader's heartbeat.
unfoldable pub beats : Node → Role → Done
beats n Leader = append_all n
beats n role = quiet n

abbrev pub proposal : Node → ℕ → Command → Entry
proposal n number command = record { term = n.term; number = number; command = command }

-- the log limits have room for a proposal
abbrev pub has_room : Node → ℕ → Command → Bool
has_room n number command = keeps_limits (n.log ++ proposal n number command ∷ [])

-- A proposal at a leader whose log has room for it is appended, and Append goes to all others.
unfoldable pub proposes : Node → Role → ℕ → Command → Done
proposes n Leader number command = if has_room n number command then append_all (appended n (proposal n number command)) else quiet n
proposes n role number command = quiet n

-- A probe at a leader begins the next round, and Append goes to all others.
unfoldable pub probes : Node → Role → Done
probes n Leader = append_all (record n { round = n.round + 1 })
probes n role = quiet n

-- A server acknowledged round r, or a later one, or is the node itself.
abbrev pub has_round : Node → ℕ → Servers
has_round n r peer = peer == n.id || nat_le r (of_server n.acked peer)

abbrev pub is_leader : Role → Bool
is_leader Leader = true
is_leader role = false

-- A round is confirmed where the node leads in its term, and a majority, itself counted, has acknowledged
-- that round or a later one.
abbrev pub is_confirmed : Node → Round → Bool
is_confirmed n round = is_leader n.role && n.term == round.term && is_majority n.servers (has_round n round.number)

-- What a server is given. A restart is a step of its own.
pub data Input : Type 0 where
  Timeout : Input
  Beat : Input
  Receive : (from : ℕ) (message : Message) → Input
  Propose : (number : ℕ) (command : Command) → Input
  Probe : Input

unfoldable pub does : Node → Input → Done
does n Timeout = timed_out n n.role
does n Beat = beats n n.role
does n (Receive from message) = received n from message
does n (Propose number command) = proposes n n.role number command
does n Probe = probes n n.role

-- What a server does with an input where its store works. A halted one does nothing.
unfoldable pub done : Node → Input → Done
done n input = if n.halted then quiet n else does n input
