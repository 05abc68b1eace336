-- The numbers in marks whose books hold.
use Rattle.std.proofs.Common.{◌≡◌, ℕ, ◌<◌, ◌≤◌, inl, inr, List, [], ◌∷◌, arith}
use Rattle.cat_model.specs.declared.reply.Mark.{Mark}
use Rattle.cat_model.specs.declared.reply.Mark.TheVariants as mark
use Rattle.raft_model.specs.World.{World}
use Rattle.cluster_rules.specs.Cluster.{Start}
use Rattle.cluster_rules.specs.Replies.{Question, came}
use Rattle.cluster_rules.specs.Sound.{IsAmong, IsOpen, PastIsSound, asked_in}
use Rattle.cluster_rules.specs.Booked.{IsNumbered}

-- sound marks are numbered
pub numbered_of : (w : World) (starts : List Start) (past : List Mark) → PastIsSound w starts past → IsNumbered past
numbered_of w starts [] x = tt
numbered_of w starts (mark.Asked number agent asked draw ∷ past) x = (x.0, numbered_of w starts past x.1)
numbered_of w starts (mark.Answered number kind known contact ∷ past) x = let a = x.0 in (((a.question, a.asked, a.number_is), a.once), numbered_of w starts past x.1)
numbered_of w starts (mark.Made made ∷ past) x = numbered_of w starts past x
numbered_of w starts (mark.Advanced ms made ∷ past) x = numbered_of w starts past x
numbered_of w starts (mark.Settled pairs whole ∷ past) x = numbered_of w starts past x
numbered_of w starts (mark.Halted server ∷ past) x = numbered_of w starts past x
numbered_of w starts (mark.Entry entry ∷ past) x = numbered_of w starts past x
numbered_of w starts (mark.Taken number ∷ past) x = numbered_of w starts past x

-- the number of a request that was asked
pub was_numbered : (past : List Mark) → IsNumbered past → (q : Question) → IsAmong (came q) past → (0 < q.number) × (q.number ≤ asked_in past)
was_numbered [] x q y = absurd y
was_numbered (mark.Asked number agent asked draw ∷ past) x q (inl e) = (let k = numbers e in let n = x.0 in omega arith, let k = numbers e in let n = x.0 in omega arith)
  where
    numbers : came q ≡ mark.Asked number agent asked draw → q.number ≡ number
    numbers p = cc p
was_numbered (mark.Asked number agent asked draw ∷ past) x q (inr y) = let k = was_numbered past x.1 q y in (k.0, omega (arith, k.1))
was_numbered (mark.Made event ∷ past) x q (inl e) = absurd (cc e)
was_numbered (mark.Made event ∷ past) x q (inr y) = was_numbered past x q y
was_numbered (mark.Advanced ms made ∷ past) x q (inl e) = absurd (cc e)
was_numbered (mark.Advanced ms made ∷ past) x q (inr y) = was_numbered past x q y
was_numbered (mark.Settled pairs whole ∷ past) x q (inl e) = absurd (cc e)
was_numbered (mark.Settled pairs whole ∷ past) x q (inr y) = was_numbered past x q y
was_numbered (mark.Halted server ∷ past) x q (inl e) = absurd (cc e)
was_numbered (mark.Halted server ∷ past) x q (inr y) = was_numbered past x q y
was_numbered (mark.Entry entry ∷ past) x q (inl e) = absurd (cc e)
was_numbered (mark.Entry entry ∷ past) x q (inr y) = was_numbered past x q y
was_numbered (mark.Answered number kind known contact ∷ past) x q (inl e) = absurd (cc e)
was_numbered (mark.Answered number kind known contact ∷ past) x q (inr y) = was_numbered past x.1 q y
was_numbered (mark.Taken number ∷ past) x q (inl e) = absurd (cc e)
was_numbered (mark.Taken number ∷ past) x q (inr y) = was_numbered past x q y

-- a greater number has no answer
pub open_new : (past : List Mark) → IsNumbered past → (n : ℕ) → asked_in past < n → IsOpen n past
open_new [] x n l = tt
open_new (mark.Asked number agent asked draw ∷ past) x n l = open_new past x.1 n (omega arith)
open_new (mark.Made event ∷ past) x n l = open_new past x n l
open_new (mark.Advanced ms made ∷ past) x n l = open_new past x n l
open_new (mark.Settled pairs whole ∷ past) x n l = open_new past x n l
open_new (mark.Halted server ∷ past) x n l = open_new past x n l
open_new (mark.Entry entry ∷ past) x n l = open_new past x n l
open_new (mark.Answered number kind known contact ∷ past) x n l =
    (λ e. let a = x.0.0 in let k = (was_numbered past x.1 a.0 a.1).1 in let z = a.2 in omega (arith, k, z, e, l), open_new past x.1 n l)
open_new (mark.Taken number ∷ past) x n l = open_new past x n l
