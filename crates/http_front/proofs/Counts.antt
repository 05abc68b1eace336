-- Counts of faults.
use Rattle.std.proofs.Common.{◌≡◌, ℕ, Result, Ok, Err, refl}
use Rattle.std.specs.Prelude.{IfErr, MatchResult, OnOk}
use Rattle.outside.specs.Causes.{Rose}
use Rattle.outside.specs.declared.faults.KeepFail.{KeepFail}
use Rattle.outside.specs.declared.faults.KeepFail.TheVariants as keep_fail
use Rattle.script_player.specs.Stage.{CountsWrite}
use Rattle.http_front.specs.declared.stop.Stop.{Stop}
use Rattle.http_front.specs.declared.stop.Stop.TheVariants as stops
use Rattle.http_front.specs.Served.{CountsBinds, CountsKeepers, CountsServing, CountsSink, CountsStop, stop_of_write}

-- a failed write
pub counts_write : (fail : KeepFail) (why : Stop) (writes writes' : ℕ) → why ≡ stop_of_write fail → CountsWrite fail writes writes' → CountsSink why writes writes'
counts_write keep_fail.Failed why writes writes' e counts = rw e counts
counts_write keep_fail.Memory why writes writes' e counts = rw e counts

pub never_listener : (fail : KeepFail) (why : Stop) → why ≡ stop_of_write fail → why ≡ stops.Listener → ⊥
never_listener keep_fail.Failed why e f = cc (e, f)
never_listener keep_fail.Memory why e f = cc (e, f)

-- a server that broke off, by its sink's count and, where the listener failed, by that one's
pub counts_serving : (why : Stop) (listens listens' writes writes' : ℕ) → (why ≡ stops.Listener → Rose listens listens') → CountsSink why writes writes' → CountsServing why listens listens' writes writes'
counts_serving stops.Listener listens listens' writes writes' rose counts = (rose refl, counts)
counts_serving stops.Sink listens listens' writes writes' rose counts = counts
counts_serving stops.Keepers listens listens' writes writes' rose counts = counts
counts_serving stops.Datagrams listens listens' writes writes' rose counts = absurd counts
counts_serving stops.Memory listens listens' writes writes' rose counts = counts

-- whoever writes binds no port
pub counts_no_bind : (why : Stop) (writes writes' binds binds' : ℕ) → CountsSink why writes writes' → binds' ≡ binds → CountsBinds why binds binds'
counts_no_bind stops.Listener writes writes' binds binds' counts same = same
counts_no_bind stops.Sink writes writes' binds binds' counts same = same
counts_no_bind stops.Keepers writes writes' binds binds' counts same = same
counts_no_bind stops.Datagrams writes writes' binds binds' counts same = absurd counts
counts_no_bind stops.Memory writes writes' binds binds' counts same = same

pub never_binds : (why : Stop) (writes writes' : ℕ) → CountsSink why writes writes' → why ≡ stops.Datagrams → ⊥
never_binds stops.Listener writes writes' counts e = cc e
never_binds stops.Sink writes writes' counts e = cc e
never_binds stops.Keepers writes writes' counts e = counts
never_binds stops.Datagrams writes writes' counts e = counts
never_binds stops.Memory writes writes' counts e = cc e

-- a server whose stores were all made
module _ {T : Type 0} where
  pub counts_stop : (r : Result T Stop) (listens listens' writes writes' : ℕ) → MatchResult r (λ _. writes' ≡ writes) (λ why. CountsServing why listens listens' writes writes')
      → MatchResult r (λ _. writes' ≡ writes) (λ why. CountsStop why listens listens' writes writes')
  counts_stop (Ok done) listens listens' writes writes' counts = counts
  counts_stop (Err stops.Listener) listens listens' writes writes' counts = counts
  counts_stop (Err stops.Sink) listens listens' writes writes' counts = counts
  counts_stop (Err stops.Keepers) listens listens' writes writes' counts = absurd counts
  counts_stop (Err stops.Datagrams) listens listens' writes writes' counts = counts
  counts_stop (Err stops.Memory) listens listens' writes writes' counts = counts

  pub counts_keepers : (r : Result T Stop) (keeps keeps' listens listens' writes writes' : ℕ) → keeps' ≡ keeps → MatchResult r (λ _. writes' ≡ writes) (λ why. CountsServing why listens listens' writes writes')
      → MatchResult r (λ _. keeps' ≡ keeps) (λ why. CountsKeepers why keeps keeps')
  counts_keepers (Ok done) keeps keeps' listens listens' writes writes' same counts = same
  counts_keepers (Err stops.Listener) keeps keeps' listens listens' writes writes' same counts = same
  counts_keepers (Err stops.Sink) keeps keeps' listens listens' writes writes' same counts = same
  counts_keepers (Err stops.Keepers) keeps keeps' listens listens' writes writes' same counts = absurd counts
  counts_keepers (Err stops.Datagrams) keeps keeps' listens listens' writes writes' same counts = same
  counts_keepers (Err stops.Memory) keeps keeps' listens listens' writes writes' same counts = same

  pub all_made : (r : Result T Stop) (listens listens' writes writes' : ℕ) (P : Type 0) → MatchResult r (λ _. writes' ≡ writes) (λ why. CountsServing why listens listens' writes writes')
      → IfErr r (λ why. why ≡ stops.Keepers → P)
  all_made (Ok done) listens listens' writes writes' P counts = tt
  all_made (Err stops.Listener) listens listens' writes writes' P counts = λ e. cc e
  all_made (Err stops.Sink) listens listens' writes writes' P counts = λ e. cc e
  all_made (Err stops.Keepers) listens listens' writes writes' P counts = absurd counts
  all_made (Err stops.Datagrams) listens listens' writes writes' P counts = λ e. cc e
  all_made (Err stops.Memory) listens listens' writes writes' P counts = λ e. cc e

  pub on_ok : (r : Result T Stop) (P : Type 0) → P → OnOk r P
  on_ok (Ok done) P p = p
  on_ok (Err why) P p = tt

  -- how a server ends that has its port
  pub ends_bound : (r : Result T Stop) (writes writes' binds binds' : ℕ) → MatchResult r (λ _. writes' ≡ writes) (λ why. CountsSink why writes writes') → binds' ≡ binds → MatchResult r (λ _. binds' ≡ binds) (λ why. CountsBinds why binds binds')
  ends_bound (Ok done) writes writes' binds binds' counts same = same
  ends_bound (Err why) writes writes' binds binds' counts same = counts_no_bind why writes writes' binds binds' counts same

  pub was_bound : (r : Result T Stop) (writes writes' : ℕ) (P : Type 0) → MatchResult r (λ _. writes' ≡ writes) (λ why. CountsSink why writes writes') → IfErr r (λ why. why ≡ stops.Datagrams → P)
  was_bound (Ok done) writes writes' P counts = tt
  was_bound (Err why) writes writes' P counts = λ e. absurd (never_binds why writes writes' counts e)
