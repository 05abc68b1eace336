-- Small runs, computed.
use Rattle.std.proofs.Common.{refl, arith}
use Rattle.raft_model.specs.Rules.{done, does, timed_out, candidate, received, of_own_term, of_lower_term, asked, voted, counted, leads, offered, accepts, agreed_to, after_yes}
use Rattle.raft_model.specs.Runs.{ElectionRow, CountsRow, fresh, given, settled, first_delivered}
use Rattle.raft_model.proofs.Reaching.{election_reached}

pub election : ElectionRow
unfolding done does timed_out candidate received of_own_term voted counted leads agreed_to after_yes
election = record { asks = refl; leads = refl; commits = refl; index = refl }

pub counts : CountsRow
unfolding done does timed_out candidate received of_own_term of_lower_term asked voted counted leads offered accepts agreed_to after_yes fresh given settled first_delivered
counts = record { reached = election_reached 3 12 (omega arith); last = refl; delivered = refl; commits = refl; agreed = refl }
