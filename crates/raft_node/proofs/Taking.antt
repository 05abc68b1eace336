-- Plans on an Append, as far as its entries fit into the log.
use Rattle.std.proofs.Common.{◌≡◌, ℕ, ◌+◌, ◌-◌, ◌≤◌, min, max, true, false, [], ◌∷◌, ◌++◌, length, take, drop, refl, sym, ◌∙◌, ap, subst, Option, None, Some}
use Rattle.std.proofs.lemmas.List.{take_rest}
use Rattle.cat_model.specs.declared.reply.Role.TheVariants.{Follower}
use Rattle.raft_model.specs.declared.message.Message.TheVariants.{Yes}
use Rattle.raft_model.specs.Log.{Log, accepted}
use Rattle.raft_model.specs.Rules.{accepts}
use Rattle.raft_node.specs.declared.state.State.{State}
use Rattle.raft_node.specs.declared.state.Tail.{Tail}
use Rattle.raft_node.specs.declared.state.Planned.{Planned}
use Rattle.raft_node.specs.Accepting.{refuses, IsChanged}
use Rattle.raft_node.specs.Nodes.{seen, after, Fits, MayReplace, Plans}
use Rattle.raft_node.proofs.Deciding.{accepts_refused, accepts_taken}
use Rattle.raft_node.proofs.Fitting.{commit_within, taken_limits}
use Rattle.raft_node.proofs.Planning.{fits_none, plan_of, plan_stays}

-- a state that follows another server
abbrev pub following : State → ℕ → State
following s from = record s { role = Follower; leader = Some from }

-- what is planned where the entries are taken
abbrev pub taking : State → ℕ → ℕ → ℕ → ℕ → Option Tail → Planned
taking s from last commit round tail = record {
  state = record (following s from) { commit = max s.commit (min commit last) };
  tail = tail;
  sent = record { to = from; message = Yes s.term last round } ∷ [];
}

pub plan_refused : (s : State) (log : Log) (from prev : ℕ) (entries : Log) (commit round : ℕ) (planned : Planned) → planned ≡ record { state = following s from; tail = None; sent = [] }
    → refuses s.commit log (accepted log prev entries) ≡ true → Plans (λ n. accepts n from prev entries commit round) s log planned
plan_refused s log from prev entries commit round planned e r =
    plan_stays (λ n. accepts n from prev entries commit round) s (following s from) log [] planned e (λ store. accepts_refused (seen store s log) from prev entries commit round r) refl (λ l. l)

pub plan_taken : (s : State) (log : Log) (from prev : ℕ) (entries : Log) (commit round : ℕ) (tail : Option Tail) (planned : Planned) → planned ≡ taking s from (prev + length entries) commit round tail
    → accepted log prev entries ≡ after log tail → refuses s.commit log (after log tail) ≡ false → prev + length entries ≤ length (after log tail) → Fits log tail
    → Plans (λ n. accepts n from prev entries commit round) s log planned
plan_taken s log from prev entries commit round tail planned e a r w f =
    let p = taking s from (prev + length entries) commit round tail in
    plan_of (λ n. accepts n from prev entries commit round) s p.state log tail p.sent planned e
    (λ store. accepts_taken (seen store s log) from prev entries commit round (after log tail) a r) f refl
    (λ l. commit_within s.commit commit (prev + length entries) log (after log tail) r w l)

pub plan_standing : (s : State) (log : Log) (from prev : ℕ) (entries : Log) (commit round : ℕ) (planned : Planned) → planned ≡ taking s from (prev + length entries) commit round None
    → accepted log prev entries ≡ log → refuses s.commit log log ≡ false → prev + length entries ≤ length log → Plans (λ n. accepts n from prev entries commit round) s log planned
plan_standing s log from prev entries commit round planned e a r w = plan_taken s log from prev entries commit round None planned e a r w (fits_none log)

pub fits_some : (log : Log) (tail : Tail) → MayReplace log tail → Fits log (Some tail)
fits_some log tail m = λ x e. let P : Tail → Type 0 = λ t. MayReplace log t in let q : tail ≡ x = cc in subst P q m

pub plan_changed : (s : State) (log : Log) (from prev : ℕ) (entries : Log) (commit round kept passed : ℕ) (rest : Log) (planned : Planned)
    → IsChanged s.commit prev log (accepted log prev entries) entries kept passed → rest ≡ take (length entries - passed) (drop passed entries)
    → planned ≡ taking s from (prev + length entries) commit round (Some (record { keep = kept; entries = rest }))
    → Plans (λ n. accepts n from prev entries commit round) s log planned
plan_changed s log from prev entries commit round kept passed rest planned ch t e =
    let tail : Tail = record { keep = kept; entries = rest } in
    let new : Log = take kept log ++ rest in
    let q : accepted log prev entries ≡ new = ch.same ∙ ap (λ (z : Log). take kept log ++ z) (sym (t ∙ take_rest entries passed)) in
    let A : Log → Type 0 = λ z. refuses s.commit log z ≡ false in
    let L : Log → Type 0 = λ z. prev + length entries ≤ length z in
    let a = subst A q ch.allowed in
    plan_taken s log from prev entries commit round (Some tail) planned e q a (subst L q ch.reaches)
    (fits_some log tail (record { within = ch.fits; changes = λ h. ch.differs (q ∙ h); limits = λ _. taken_limits s.commit log new a }))
