-- The statuses with which the program ends, and why a run stops by what its parts say.
use Rattle.std.specs.Prelude.{ℕ, Result, Ok, Err}
use Rattle.outside.specs.declared.faults.KeepFail.{KeepFail}
use Rattle.outside.specs.declared.faults.KeepFail.TheVariants as keep_fail
use Rattle.script_player.specs.declared.report.Report.{Report}
use Rattle.http_front.specs.declared.stop.Stop.{Stop as ServerStop}
use Rattle.http_front.specs.declared.stop.Stop.TheVariants as server
use Rattle.catalog_top.specs.declared.input.ReadFail.{ReadFail}
use Rattle.catalog_top.specs.declared.input.ReadFail.TheVariants as read_fail
use Rattle.catalog_top.specs.declared.stop.Stop.{Stop}
use Rattle.catalog_top.specs.declared.stop.Stop.TheVariants as stop

abbrev pub number_of : Stop → ℕ
number_of stop.Words = 2
number_of stop.Line = 3
number_of stop.Source = 4
number_of stop.Sink = 5
number_of stop.Listener = 6
number_of stop.Limit = 7
number_of stop.Memory = 8
number_of stop.Store = 9
number_of stop.Datagrams = 10

-- 0 where there is a report
abbrev pub status_of : Result Report Stop → ℕ
status_of (Ok report) = 0
status_of (Err why) = number_of why

abbrev pub stop_of_read : ReadFail → Stop
stop_of_read read_fail.Failed = stop.Source
stop_of_read read_fail.Memory = stop.Memory

abbrev pub stop_of_write : KeepFail → Stop
stop_of_write keep_fail.Failed = stop.Sink
stop_of_write keep_fail.Memory = stop.Memory

abbrev pub stop_of_server : ServerStop → Stop
stop_of_server server.Listener = stop.Listener
stop_of_server server.Sink = stop.Sink
stop_of_server server.Keepers = stop.Store
stop_of_server server.Datagrams = stop.Datagrams
stop_of_server server.Memory = stop.Memory
