-- How long a read waits, and how fresh it is, by the marks of a cluster, the last one first (Consul, "Blocking Queries":
-- a read with an index is answered once its own index is above that one, or its wait is over; "Consistency Modes").
use Rattle.std.specs.Prelude.{◌≡◌, ℕ, ◌+◌, ◌<◌, ◌≤◌, ◌==◌, ◌⊎◌, if◌then◌else◌, Bool, List, [], ◌∷◌}
use Rattle.cat_model.specs.declared.request.Asked.{Asked}
use Rattle.cat_model.specs.declared.request.Asked.TheVariants.{Good}
use Rattle.cat_model.specs.declared.request.Mode.TheVariants.{Default, Consistent, Stale}
use Rattle.cat_model.specs.declared.request.Request.TheVariants.{Read}
use Rattle.cat_model.specs.declared.request.Event.TheVariants as event
use Rattle.cat_model.specs.declared.reply.Kind.TheVariants.{At}
use Rattle.cat_model.specs.declared.reply.Mark.{Mark}
use Rattle.cat_model.specs.declared.reply.Mark.TheVariants as mark
use Rattle.raft_model.specs.declared.message.Round.{Round}
use Rattle.cluster_rules.specs.Cluster.{Start, Probed, Looked, Cluster}
use Rattle.cluster_rules.specs.Replies.{Question, came}
use Rattle.cluster_rules.specs.Requests.{wait_of}
use Rattle.cluster_rules.specs.Sound.{IsAmong, LookedBefore, entries_before}

-- by how much server s's clock went on, in milliseconds
abbrev pub clock_in : ℕ → List Mark → ℕ
clock_in s [] = 0
clock_in s (mark.Made (event.Tick i ms) ∷ past) = (if i == s then ms else 0) + clock_in s past
clock_in s (other ∷ past) = clock_in s past

-- request k was asked when server s's clock had gone on by so much
abbrev pub WasAskedAt : ℕ → ℕ → ℕ → List Mark → Type 0
WasAskedAt k s clock [] = ⊥
WasAskedAt k s clock (mark.Asked number agent asked draw ∷ past) = ((number ≡ k) × (clock_in s past ≡ clock)) ⊎ WasAskedAt k s clock past
WasAskedAt k s clock (other ∷ past) = WasAskedAt k s clock past

-- the request is a read, and of the index that it gives and of its wait this holds
abbrev pub IsReadFor : Asked → (ℕ → ℕ → Type 0) → Type 0
IsReadFor (Good (Read query mode least wait raw)) P = P least wait
IsReadFor other P = ⊥

-- Server s held request k: it looked for the answer when it was asked, or began a round for it.
abbrev pub HeldBy : ℕ → ℕ → List Start → Type 0
HeldBy k s starts = ((applied : ℕ) × IsAmong (Looked k s applied) starts) ⊎ ((round : Round) × IsAmong (Probed k s round) starts)

-- Of request k, which gives this index and this wait: the index of its answer is above the one given, or its full wait is
-- over by the clock of the server that held it.
abbrev pub HasWaited : ℕ → ℕ → List Start → List Mark → ℕ → ℕ → Type 0
HasWaited k index starts past least wait =
    (least < index) ⊎ ((s : ℕ) × (asked : ℕ) × HeldBy k s starts × WasAskedAt k s asked past × (asked + wait_of wait ≤ clock_in s past))

-- each answer to a read, with what was marked before it
abbrev pub ReadsWait : List Start → List Mark → Type 0
ReadsWait starts [] = Unit {0}
ReadsWait starts (mark.Answered number (At mode prefix index clock deadline) known contact ∷ past) =
    ((q : Question) × IsAmong (came q) past × (q.number ≡ number) × IsReadFor q.asked (HasWaited number index starts past)) × ReadsWait starts past
ReadsWait starts (other ∷ past) = ReadsWait starts past

-- A consistent read's prefix is no shorter than what was agreed when it was asked. That of any other is no shorter than
-- what its server had applied then.
pub record ReadsAreFresh (c : Cluster) : Type 0 where
  pub consistent : (number prefix index clock deadline : ℕ) (known : Bool) (contact : ℕ) → IsAmong (mark.Answered number (At Consistent prefix index clock deadline) known contact) c.past →
      entries_before number c.past ≤ prefix
  pub default : (number prefix index clock deadline : ℕ) (known : Bool) (contact : ℕ) → IsAmong (mark.Answered number (At Default prefix index clock deadline) known contact) c.past →
      LookedBefore number c.starts prefix
  pub stale : (number prefix index clock deadline : ℕ) (known : Bool) (contact : ℕ) → IsAmong (mark.Answered number (At Stale prefix index clock deadline) known contact) c.past →
      LookedBefore number c.starts prefix
