-- Which words ask for a load, and how a load and the line of wrong words end.
use Rattle.std.proofs.Common.{◌≡◌, ℕ, List, Result, Err, subst, sym, ◌∙◌}
use Rattle.outside.specs.declared.faults.KeepFail.{KeepFail}
use Rattle.outside.specs.declared.faults.KeepFail.TheVariants as keep_fail
use Rattle.load_player.specs.declared.load.Load.{Load}
use Rattle.load_player.specs.Load.{AsksForLoad}
use Rattle.load_player.proofs.Asking.{asks_load_once}
use Rattle.load_player.specs.Played.{WritesLoadPart}
use Rattle.script_player.specs.declared.report.Report.{Report}
use Rattle.script_player.specs.Run.{WritesPart}
use Rattle.script_player.specs.Stage.{CountsWrite}
use Rattle.http_front.specs.declared.options.Options.{Options}
use Rattle.http_front.specs.Options.{AsksFor}
use Rattle.http_front.proofs.Asking.{words_are}
use Rattle.catalog_top.specs.declared.stop.Stop.{Stop}
use Rattle.catalog_top.specs.Ends.{PlaysLoad, SaysUsage}
use Rattle.catalog_top.specs.Forms.{HasForm, HasPlainForm, AsksForNoServer, asks_load, asks_nothing, asks_script, plays_load, plays_nothing, plays_script}
use Rattle.catalog_top.specs.Outside.{Output}
use Rattle.catalog_top.specs.Status.{stop_of_write}
use Rattle.catalog_top.specs.Text.{usage_text}

-- they ask for no server
pub asks_load_no_server : (words : List (List ℕ)) (which : Load) (options : Options) → AsksForLoad words which → AsksFor words options → ⊥
asks_load_no_server words which options x y = cc (sym x.are ∙ words_are words options y)

pub form_with : (words : List (List ℕ)) → AsksForNoServer words → HasPlainForm words → HasForm words
form_with words unasked (plays_script asked) = asks_script asked
form_with words unasked (plays_load which asked) = asks_load which asked
form_with words unasked (plays_nothing plays) = asks_nothing plays unasked

-- words ask for one load alone
pub asked_plays : (words : List (List ℕ)) (a b : Load) (o o' : Output) (r : Result Report Stop) →
    AsksForLoad words a → AsksForLoad words b → PlaysLoad a o o' r → PlaysLoad b o o' r
asked_plays words a b o o' r x y plays = subst (λ (l : Load). PlaysLoad l o o' r) (asks_load_once words a b x y) plays

pub stops_loading : (which : Load) (o o' : Output) (fail : KeepFail) (stop : Stop) →
    stop ≡ stop_of_write fail → WritesLoadPart which o.held o'.held → CountsWrite fail o.faults o'.faults → PlaysLoad which o o' (Err stop)
stops_loading which o o' keep_fail.Failed stop e part counts = rw e (part, counts)
stops_loading which o o' keep_fail.Memory stop e part counts = rw e (part, counts)

pub stops_saying : (o o' : Output) (fail : KeepFail) (stop : Stop) →
    stop ≡ stop_of_write fail → WritesPart o.held o'.held usage_text → CountsWrite fail o.faults o'.faults → SaysUsage o o' (Err stop)
stops_saying o o' keep_fail.Failed stop e part counts = rw e (part, counts)
stops_saying o o' keep_fail.Memory stop e part counts = rw e (part, counts)
