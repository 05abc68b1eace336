-- How a script's run ends, from its parts.
use Rattle.std.proofs.Common.{◌≡◌, ◌⊎◌, ℕ, ◌<◌, ◌≤◌, true, false, nat_lt, ◌||◌, List, [], length, Err, refl, subst, sym, inl, inr, arith}
use Rattle.std.proofs.lemmas.Bool.Decides.{nat_tests}
use Rattle.std.specs.Io.KnownBytes.{Consumes, Appends}
use Rattle.std.proofs.KnownBytes.{Appends-nil}
use Rattle.outside.specs.declared.faults.KeepFail.{KeepFail}
use Rattle.outside.specs.declared.faults.KeepFail.TheVariants as keep_fail
use Rattle.script_player.specs.declared.report.Report.{Report}
use Rattle.script_player.specs.Line.{lines_of}
use Rattle.script_player.specs.Script.{script_of}
use Rattle.script_player.specs.Run.{PartOfRun, RefusedRun, WholeRun, WritesPart}
use Rattle.script_player.specs.Stage.{CountsWrite}
use Rattle.catalog_top.specs.declared.input.ReadFail.{ReadFail}
use Rattle.catalog_top.specs.declared.input.ReadFail.TheVariants as read_fail
use Rattle.catalog_top.specs.declared.stop.Stop.{Stop}
use Rattle.catalog_top.specs.Text.{limit_text}
use Rattle.catalog_top.specs.Limits.{is_too_long}
use Rattle.catalog_top.specs.Outside.{Input, Output}
use Rattle.catalog_top.specs.Input.{CountsRead, TakesSome}
use Rattle.catalog_top.specs.Ends.{PlaysScript}
use Rattle.catalog_top.specs.Run.{Ran, RefusesLine, PassesLimit, IsReadOut, StopsShort, TookScript, nothing, of_limit, of_run}
use Rattle.catalog_top.specs.Status.{stop_of_read, stop_of_write}

-- a script within the limits has been read to its end
short_is_short : (n lines : ℕ) → (nat_lt 16777216 n || nat_lt 1048576 lines) ≡ false → 16777216 < n → ⊥
short_is_short n lines e h = grind (arith, nat_tests)

too_long-bytes : (bytes : List ℕ) → is_too_long bytes ≡ false → 16777216 < length bytes → ⊥
unfolding is_too_long
too_long-bytes bytes e h = short_is_short (length bytes) (length (lines_of bytes)) e h

within : (n lines : ℕ) → (nat_lt 16777216 n || nat_lt 1048576 lines) ≡ false → n ≤ 16777216
within n lines e = grind (arith, nat_tests)

pub within_bytes : (bytes : List ℕ) → false ≡ is_too_long bytes → length bytes ≤ 16777216
unfolding is_too_long
within_bytes bytes e = within (length bytes) (length (lines_of bytes)) (sym e)

module _ (i i' : Input) (bytes : List ℕ) (took : Consumes i.left i'.left bytes) (out : IsReadOut i i' bytes) where
  took_from : IsReadOut i i' bytes → false ≡ is_too_long bytes → (t : TookScript i i') × (t.bytes ≡ bytes)
  took_from (inl end) short = (record { bytes = bytes; consumed = took; at_end = end.0; found = end.1; within = sym short }, refl)
  took_from (inr long) short = absurd (too_long-bytes bytes (sym short) long)

  pub ran_from : (o o' : Output) (report : Report) → false ≡ is_too_long bytes → WholeRun (script_of bytes) o.held o'.held report → Ran i i' o o' report
  ran_from o o' report short run =
      let t = took_from out short in
      record { took = t.0; run = subst (λ b. WholeRun (script_of b) o.held o'.held report) (sym t.1) run }

  pub refuses_from : (o o' : Output) → false ≡ is_too_long bytes → RefusedRun (script_of bytes) o.held o'.held → RefusesLine i i' o o'
  refuses_from o o' short run =
      let t = took_from out short in
      record { took = t.0; run = subst (λ b. RefusedRun (script_of b) o.held o'.held) (sym t.1) run }

  pub passes_from : (o o' : Output) → length bytes ≤ 16777217 → true ≡ is_too_long bytes → Appends o.held o'.held limit_text → PassesLimit i i' o o'
  passes_from o o' most long written = record { bytes = bytes; consumed = took; too_long = sym long; most = most; written = written }

-- a failed read, before which the sink was not touched
pub stops_reading : (i i' : Input) (o : Output) (fail : ReadFail) (stop : Stop) →
    stop ≡ stop_of_read fail → TakesSome i.left i'.left → CountsRead fail i.faults i'.faults → PlaysScript i i' o o (Err stop)
stops_reading i i' o read_fail.Failed stop e some counts = rw e (counts, refl, Appends-nil o.held)
stops_reading i i' o read_fail.Memory stop e some counts =
    rw e ((counts, refl), record { bytes = some.bytes; consumed = some.consumed; part = nothing (Appends-nil o.held); read = inl (Appends-nil o.held) })

-- a failed write
stops-writing : (i i' : Input) (o o' : Output) (fail : KeepFail) (stop : Stop) →
    stop ≡ stop_of_write fail → i'.faults ≡ i.faults → CountsWrite fail o.faults o'.faults → StopsShort i i' o o' → PlaysScript i i' o o' (Err stop)
stops-writing i i' o o' keep_fail.Failed stop e same counts short = rw e (same, counts, short)
stops-writing i i' o o' keep_fail.Memory stop e same counts short = rw e ((same, counts), short)

pub stops_at_limit : (i i' : Input) (o o' : Output) (bytes : List ℕ) (fail : KeepFail) (stop : Stop) →
    stop ≡ stop_of_write fail → i'.faults ≡ i.faults → CountsWrite fail o.faults o'.faults →
    Consumes i.left i'.left bytes → IsReadOut i i' bytes → true ≡ is_too_long bytes → WritesPart o.held o'.held limit_text → PlaysScript i i' o o' (Err stop)
stops_at_limit i i' o o' bytes fail stop e same counts took out long part =
    stops-writing i i' o o' fail stop e same counts (record { bytes = bytes; consumed = took; part = of_limit (sym long) part; read = inr out })

pub stops_playing : (i i' : Input) (o o' : Output) (bytes : List ℕ) (fail : KeepFail) (stop : Stop) →
    stop ≡ stop_of_write fail → i'.faults ≡ i.faults → CountsWrite fail o.faults o'.faults →
    Consumes i.left i'.left bytes → IsReadOut i i' bytes → false ≡ is_too_long bytes → Appends o.held o'.held [] ⊎ PartOfRun (script_of bytes) o.held o'.held → PlaysScript i i' o o' (Err stop)
stops_playing i i' o o' bytes fail stop e same counts took out short (inl none) =
    stops-writing i i' o o' fail stop e same counts (record { bytes = bytes; consumed = took; part = nothing none; read = inr out })
stops_playing i i' o o' bytes fail stop e same counts took out short (inr part) =
    stops-writing i i' o o' fail stop e same counts (record { bytes = bytes; consumed = took; part = of_run (sym short) part; read = inr out })
