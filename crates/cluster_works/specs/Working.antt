-- What the program's work means in the rules.
use Rattle.std.specs.Prelude.{◌≡◌, ℕ, [], Option, Some, None}
use Rattle.raft_model.specs.Log.{Log}
use Rattle.cluster_rules.specs.Replies.{Closed, shown}
use Rattle.cluster_rules.specs.Cluster.{Cluster, applied_of}
use Rattle.cluster_rules.specs.Due as rules
use Rattle.cluster_rules.specs.Due.{IsDue, did, due, put_out, without}
use Rattle.cluster_replicas.specs.Servers.{Servers}
use Rattle.cluster_requests.specs.Contents.{content_of, stand_of}
use Rattle.cluster_requests.specs.Requests.{Requests, cluster_of}
use Rattle.cluster_works.specs.declared.work.Work.{Work}
use Rattle.cluster_works.specs.declared.work.Work.TheVariants.{Answer, Hold, Close, Apply}

-- It is this work of the rules at a server that has applied this log.
abbrev pub IsWork : Log → Work → rules.Work → Type 0
IsWork log (Answer number kind content) (rules.Replies q kind') =
    (number ≡ q.number) × (kind ≡ kind') × (content_of content ≡ shown q kind' log)
IsWork log (Hold number stand) (rules.Holds h) = (number ≡ h.question.number) × (stand_of stand ≡ h.stand)
IsWork log (Close number event) (rules.Closes number' event') = (number ≡ number') × (event ≡ event')
IsWork log Apply rules.Applies = Unit {0}
IsWork log work other = ⊥

-- what the program found is what the rules find
abbrev pub IsFound : Log → Option rules.Work → Option Work → Type 0
IsFound log None None = Unit {0}
IsFound log (Some w) (Some work) = IsWork log work w
IsFound log found other = ⊥

-- it is due at server i, or nothing is
abbrev pub Finds : Cluster → ℕ → Option Work → Type 0
Finds c i None = due i c ≡ None
Finds c i (Some work) = (w : rules.Work) × IsDue i c w × IsWork (applied_of c i) work w

-- this was done, which is due at server i
abbrev pub DidWork : ℕ → Work → Cluster → Cluster → Type 0
DidWork i work c c' = (w : rules.Work) × IsDue i c w × (c' ≡ did i w c) × IsWork (applied_of c i) work w

-- a held request was closed, since its server restarted in this event
abbrev pub closed : ℕ → ℕ → Cluster → Cluster
closed number event c = record c { held = without number c.held; fresh = put_out (Closed number event) c.fresh }

-- the cluster of these parts, whose agents are left out, since nothing that is due is theirs
abbrev pub whole : Servers → Requests → Cluster
whole s r = cluster_of s.world s.servers [] r
