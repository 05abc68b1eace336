-- What the rules of a server come to, case by case, as code decides them.
use Rattle.std.proofs.Common.{◌≡◌, ℕ, zero, suc, ◌+◌, ◌==◌, min, max, nat_lt, true, false, ◌&&◌, cond, length, refl, ◌∙◌, ap}
use Rattle.raft_model.specs.declared.message.Message.TheVariants.{Yes}
use Rattle.raft_model.specs.Log.{Log, term_at, accepted}
use Rattle.raft_model.specs.Quorum.{is_majority}
use Rattle.raft_model.specs.Node.{Node, quiet, reply}
use Rattle.raft_model.specs.Rules.{has_index, committed_upto, is_refused, follows, accepts}
use Rattle.raft_node.specs.Counting.{counting}
use Rattle.raft_node.specs.Accepting.{refuses}

pub commit_same : (n : Node) (k : ℕ) → committed_upto n k ≡ committed_upto (counting n.id n.servers n.term n.commit n.log n.matched) k
commit_same n zero = refl
commit_same n (suc k) =
    ap (λ z. cond (nat_lt n.commit (suc k) && (term_at (suc k) n.log == n.term && is_majority n.servers (has_index n (suc k)))) (suc k) z) (commit_same n k)

-- An Append that is refused, and one that is not.
pub accepts_refused : (n : Node) (from prev : ℕ) (entries : Log) (commit round : ℕ) → refuses n.commit n.log (accepted n.log prev entries) ≡ true
    → accepts n from prev entries commit round ≡ quiet (follows n from)
unfolding accepts
accepts_refused n from prev entries commit round e =
    ap (λ t. cond t (quiet (follows n from))
    (reply (record (follows n from) { log = accepted n.log prev entries; commit = max n.commit (min commit (prev + length entries)) }) from (Yes n.term (prev + length entries) round))) e

pub accepts_taken : (n : Node) (from prev : ℕ) (entries : Log) (commit round : ℕ) (new : Log) → accepted n.log prev entries ≡ new → refuses n.commit n.log new ≡ false
    → accepts n from prev entries commit round ≡ reply (record (follows n from) { log = new; commit = max n.commit (min commit (prev + length entries)) }) from (Yes n.term (prev + length entries) round)
unfolding accepts
accepts_taken n from prev entries commit round new e f =
    ap (λ (z : Log). cond (is_refused n z) (quiet (follows n from))
    (reply (record (follows n from) { log = z; commit = max n.commit (min commit (prev + length entries)) }) from (Yes n.term (prev + length entries) round))) e
    ∙ ap (λ t. cond t (quiet (follows n from))
    (reply (record (follows n from) { log = new; commit = max n.commit (min commit (prev + length entries)) }) from (Yes n.term (prev + length entries) round))) f
