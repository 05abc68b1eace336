-- An answer is not too long to be written.
use Rattle.std.proofs.Common.{◌≡◌, ℕ, zero, suc, ◌+◌, ◌/◌, ◌%◌, ◌≤◌, nat_lt, Bool, true, false, cond, List, [], ◌∷◌, ◌++◌, length, arith}
use Rattle.std.proofs.lemmas.List.{length-append}
use Rattle.cat_model.specs.declared.reply.Role.{Role}
use Rattle.cat_model.specs.declared.reply.Role.TheVariants.{Candidate, Follower, Leader}
use Rattle.cat_model.specs.Spelling.{number_bytes, number_within}
use Rattle.peer_frames.specs.declared.frame.Frame.{Frame}
use Rattle.peer_frames.specs.declared.frame.Frame.TheVariants as frames
use Rattle.peer_frames.specs.declared.frame.Why.{Why}
use Rattle.peer_frames.specs.declared.frame.Why.TheVariants as whys
use Rattle.peer_frames.specs.Spelling.{body_bytes, most_body, role_bytes, why_bytes}
use Rattle.node_connections.specs.Turning.{IsReply}

number_within_short : (k n : ℕ) → length (number_within k n) ≤ suc k
unfolding number_within
number_within_short zero n = omega arith
number_within_short (suc k) n = go (nat_lt n 128) (number_within_short k (n / 128))
  where
    go : (b : Bool) → length (number_within k (n / 128)) ≤ suc k → length (cond b (n ∷ []) ((128 + n % 128) ∷ number_within k (n / 128))) ≤ suc (suc k)
    go true h = omega arith
    go false h = omega (arith, h)

number_short : (n : ℕ) → length (number_bytes n) ≤ 10
number_short n = number_within_short 9 n

role_short : (r : Role) → length (role_bytes r) ≤ 1
role_short Follower = omega arith
role_short Candidate = omega arith
role_short Leader = omega arith

why_short : (w : Why) → length (why_bytes w) ≤ 1
why_short whys.NotLeader = omega arith
why_short whys.Full = omega arith
why_short whys.Halted = omega arith

pub reply_short : (f : Frame) → IsReply f → length (body_bytes f) ≤ most_body
reply_short (frames.Placed index term) h = let a = number_short index in let b = number_short term in simp length-append (omega arith)
reply_short (frames.Refused why) h = let a = why_short why in simp length-append (omega arith)
reply_short (frames.State term role commit last) h =
    let a = number_short term in let r = role_short role in let b = number_short commit in let d = number_short last in simp length-append (omega arith)
reply_short (frames.Peer sender message) h = absurd h
reply_short (frames.Propose command) h = absurd h
reply_short frames.Status h = absurd h
