-- How a server's end is told.
use Rattle.std.proofs.Common.{◌≡◌, ℕ, List, Result, Err, refl, subst}
use Rattle.script_player.specs.declared.report.Report.{Report}
use Rattle.http_front.specs.declared.options.Options.{Options}
use Rattle.http_front.specs.declared.stop.Stop.{Stop as ServerStop}
use Rattle.http_front.specs.declared.stop.Stop.TheVariants as server
use Rattle.http_front.specs.Options.{AsksFor}
use Rattle.http_front.specs.Served.{CountsBinds, CountsKeepers, CountsStop, WritesFront, WritesWhole}
use Rattle.http_front.proofs.Asking.{asks_once}
use Rattle.catalog_top.specs.declared.stop.Stop.{Stop}
use Rattle.catalog_top.specs.Ends.{EndsServing, IsUnserved, Serves}
use Rattle.catalog_top.specs.Outside.{Output, Outside}
use Rattle.catalog_top.specs.Status.{stop_of_server}

-- words ask for one server alone
pub asked_serves : (words : List (List ℕ)) (a b : Options) (s s' : Outside) (o o' : Output) (as_before : Type 0) (r : Result Report Stop) →
    AsksFor words a → AsksFor words b → Serves a s s' o o' as_before r → Serves b s s' o o' as_before r
asked_serves words a b s s' o o' as_before r x y served = subst (λ (p : Options). Serves p s s' o o' as_before r) (asks_once words a b x y) served

module _ (options : Options) (s s' : Outside) (o o' : Output) (as_before : Type 0) where
  pub ends_short : (why : ServerStop) (stop : Stop) → stop ≡ stop_of_server why → WritesFront options o.held o'.held →
      (why ≡ server.Listener → WritesWhole options o.held o'.held) → CountsStop why s.listens s'.listens o.faults o'.faults →
      CountsKeepers why s.keeps s'.keeps → CountsBinds why s.binds s'.binds → (why ≡ server.Keepers → as_before) → (why ≡ server.Datagrams → IsUnserved s s' o o') → EndsServing options s s' o o' as_before (Err stop)
  ends_short server.Listener stop e part whole counts keeps binds untouched unserved = rw e (counts.0, whole refl, part, counts.1, keeps, binds)
  ends_short server.Sink stop e part whole counts keeps binds untouched unserved = rw e (counts, part, keeps, binds)
  ends_short server.Keepers stop e part whole counts keeps binds untouched unserved = rw e (keeps, untouched refl, part)
  ends_short server.Datagrams stop e part whole counts keeps binds untouched unserved = rw e (binds, unserved refl, counts.0, keeps)
  ends_short server.Memory stop e part whole counts keeps binds untouched unserved = rw e (part, counts, keeps, binds)
