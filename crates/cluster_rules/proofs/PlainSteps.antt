-- A node whose store works and holds its values takes each input.
use Rattle.std.proofs.Common.{◌≡◌, Option, Some, ap, arith, inl, inr, refl, sym, ◌⊎◌}
use Rattle.raft_model.specs.Node.{Kept, Node, Store}
use Rattle.raft_model.specs.Log.{Log}
use Rattle.raft_model.specs.Rules.{Input, done}
use Rattle.raft_model.specs.Runs.{saved}
use Rattle.raft_model.specs.Step.{HasVoteOf, LogStored, NodeStep, SavesVote, StoresLog, VoteSaved, Works, changed, with_vote}
use Rattle.raft_model.proofs.Deciding.{log_decided, vote_decided}
use Rattle.raft_model.proofs.Moving.{vote_saved}
use Rattle.raft_model.proofs.Saving.{half_kept}
use Rattle.raft_model.proofs.Sound.{kept_of}

abbrev pub IsPlain : Node → Type 0
IsPlain n = (n.store.contents ≡ Some (kept_of n)) × (n.store.armed ≡ 0)

abbrev holding : Store → Kept → Store
holding s k = record s { contents = Some k }

holding_same : (s : Store) (k : Kept) → s.contents ≡ Some k → holding s k ≡ s
holding_same s k e = let change : Option Kept → Store = λ c. record s { contents = c } in ap change (sym e)

pub plain_step : (old : Node) (input : Input) → IsPlain old → NodeStep Works old input (saved old (done old input).node) (done old input).sent
plain_step old input (told, free) = (holding old.store (half_kept old (done old input).node), vote (vote_decided old (done old input).node), log (log_decided old input), refl, refl)
  where
    vote : HasVoteOf old (done old input).node ⊎ SavesVote old (done old input).node → VoteSaved old (done old input).node old.store (holding old.store (half_kept old (done old input).node))
    vote (inl e) = inl (e, holding_same old.store (half_kept old (done old input).node) (vote_saved old (done old input).node old.store old.store told (inl (e, refl))))
    vote (inr un) = inr (un, record { unarmed = λ q. absurd (omega arith); armed = omega arith; faults = omega arith; contents = sym (ap (changed (with_vote (done old input).node.term (done old input).node.vote)) told); sure = refl })

    log : ((done old input).node.log ≡ old.log) ⊎ StoresLog old (done old input).node → LogStored old (done old input).node (holding old.store (half_kept old (done old input).node)) (holding old.store (kept_of (done old input).node))
    log (inl e) = inl (e, ap (λ (x : Log). holding old.store (record { term = (done old input).node.term; vote = (done old input).node.vote; log = x })) e)
    log (inr un) = inr (un, record { unarmed = λ q. absurd (omega arith); armed = omega arith; faults = omega arith; contents = refl; sure = refl })
