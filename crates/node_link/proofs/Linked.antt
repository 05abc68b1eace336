-- The journals of hosts at other times: the rules allow them too, and the nodes were the same.
use Rattle.std.proofs.Common.{◌≡◌, ℕ, zero, suc, ◌<◌, inl, inr, List, [], ◌∷◌, length, map, get_or, refl, sym, ap, subst, ◌∙◌, arith}
use Rattle.std.specs.Prelude.{Contains}
use Rattle.std.specs.List.{AllByRecursion}
use Rattle.raft_model.specs.Node.{Node}
use Rattle.raft_model.specs.World.{StartAll}
use Rattle.node_journals.specs.Agreement.{Agree, HaveOneLeader, HaveOneLog}
use Rattle.node_journals.specs.Journals.{AreProcesses, IsJournal, IsProcess, Process, Step, Was}
use Rattle.node_link.specs.Hosts.{Hosted, IsHost}
use Rattle.node_link.specs.Links.{AreHosts, at_times, observed, processes_of}

journal_at : (clock : ℕ → ℕ) (n : Node) (steps : List Step) → IsJournal n steps → IsJournal n (at_times clock steps)
journal_at clock n [] j = tt
journal_at clock n (s ∷ steps) j = (j.0, journal_at clock s.node steps j.1)

abbrev HasJournal : Process → Type 0
HasJournal p = IsJournal p.start p.steps

all_journals : (clocks : ℕ → ℕ → ℕ) (i : ℕ) (hosts : List Hosted) → AllByRecursion IsHost hosts → AllByRecursion HasJournal (observed clocks i (processes_of hosts))
all_journals clocks i [] a = tt
all_journals clocks i (h ∷ hosts) a = (journal_at (clocks i) h.process.start h.process.steps (a.0.journal), all_journals clocks (suc i) hosts a.1)

all_at : {A : Type 0} (P : A → Type 0) (xs : List A) (i : ℕ) (d : A) → AllByRecursion P xs → i < length xs → P (get_or xs i d)
all_at P [] i d a l = absurd (omega arith)
all_at P (x ∷ xs) zero d a l = a.0
all_at P (x ∷ xs) (suc i) d a l = all_at P xs i d a.1 (omega arith)

starts_same : (clocks : ℕ → ℕ → ℕ) (i : ℕ) (ps : List Process) → map (λ (p : Process). p.start) (observed clocks i ps) ≡ map (λ (p : Process). p.start) ps
starts_same clocks i [] = refl
starts_same clocks i (p ∷ ps) = ap (λ (ns : List Node). p.start ∷ ns) (starts_same clocks (suc i) ps)

pub are_processes : (clocks : ℕ → ℕ → ℕ) (hosts : List Hosted) → AreHosts hosts → AreProcesses (observed clocks 1 (processes_of hosts))
are_processes clocks hosts are = record {
  stores = are.stores;
  empty = are.empty;
  started = subst (λ (ns : List Node). StartAll (length are.stores) 1 are.stores ns) (sym (starts_same clocks 1 (processes_of hosts))) are.started;
  journals = journals;
}
  where
    journals : (i : ℕ) (p : Process) → IsProcess (observed clocks 1 (processes_of hosts)) i p → IsJournal p.start p.steps
    journals zero p is = absurd is
    journals (suc i) p is = subst HasJournal is.1 (all_at HasJournal (observed clocks 1 (processes_of hosts)) i p (all_journals clocks 1 hosts are.told) is.0)

-- a step stands among the steps at other times, with its node
abbrev HasNode : List Step → Step → Type 0
HasNode steps s = (t : Step) × Contains steps t × (t.node ≡ s.node)

step_at : (clock : ℕ → ℕ) (steps : List Step) (s : Step) (k : ℕ) → k < length steps → get_or steps k s ≡ s → HasNode (at_times clock steps) s
step_at clock [] s k l e = absurd (omega arith)
step_at clock (t ∷ steps) s zero l e = (record { time = clock t.time; event = t.event; node = t.node; sent = t.sent }, (zero, omega arith, refl), ap (λ (z : Step). z.node) e)
step_at clock (t ∷ steps) s (suc k) l e = let (u, (j, m, f), g) = step_at clock steps s k (omega arith) e in (u, (suc j, omega arith, f), g)

-- a process stands among the observed ones, with its start and its nodes
pub record IsSeen (ps : List Process) (i : ℕ) (p : Process) : Type 0 where
  pub seen : Process
  pub within : i < length ps
  pub is : get_or ps i seen ≡ seen
  pub start : seen.start ≡ p.start
  pub steps : (s : Step) → Contains p.steps s → HasNode seen.steps s

seen_at : (clocks : ℕ → ℕ → ℕ) (k : ℕ) (ps : List Process) (i : ℕ) (p : Process) → i < length ps → get_or ps i p ≡ p → IsSeen (observed clocks k ps) i p
seen_at clocks k [] i p l e = absurd (omega arith)
seen_at clocks k (q ∷ ps) zero p l e = record {
  seen = record { start = q.start; steps = at_times (clocks k) q.steps };
  within = omega arith;
  is = refl;
  start = ap (λ (z : Process). z.start) e;
  steps = λ s c. let (j, m, f) = subst (λ (z : Process). Contains z.steps s) (sym e) c in step_at (clocks k) q.steps s j m f;
}
seen_at clocks k (q ∷ ps) (suc i) p l e =
    let z = seen_at clocks (suc k) ps i p (omega arith) e in
    record { seen = z.seen; within = let w = z.within in omega arith; is = z.is; start = z.start; steps = z.steps }

was_seen : (clocks : ℕ → ℕ → ℕ) (ps : List Process) (i : ℕ) (n : Node) → Was ps i n → Was (observed clocks 1 ps) i n
was_seen clocks ps zero n (inl (p, is, e)) = absurd is
was_seen clocks ps zero n (inr (s, (p, is, c), e)) = absurd is
was_seen clocks ps (suc i) n (inl (p, is, e)) = let z = seen_at clocks 1 ps i p is.0 is.1 in inl (z.seen, (z.within, z.is), z.start ∙ e)
was_seen clocks ps (suc i) n (inr (s, (p, is, c), e)) =
    let z = seen_at clocks 1 ps i p is.0 is.1 in let (t, d, f) = z.steps s c in inr (t, (z.seen, (z.within, z.is), d), f ∙ e)

pub one_log : (clocks : ℕ → ℕ → ℕ) (ps : List Process) → HaveOneLog (observed clocks 1 ps) → HaveOneLog ps
one_log clocks ps (log, has) = (log, λ i n was. has i n (was_seen clocks ps i n was))

pub agree : (clocks : ℕ → ℕ → ℕ) (ps : List Process) → Agree (observed clocks 1 ps) → Agree ps
agree clocks ps has = λ i j n m was is. has i j n m (was_seen clocks ps i n was) (was_seen clocks ps j m is)

pub one_leader : (clocks : ℕ → ℕ → ℕ) (ps : List Process) → HaveOneLeader (observed clocks 1 ps) → HaveOneLeader ps
one_leader clocks ps has = λ i j n m was is. has i j n m (was_seen clocks ps i n was) (was_seen clocks ps j m is)
