-- A server on which nothing failed is complete.
use Rattle.std.proofs.Common.{◌≡◌, ◌⊎◌, inl, inr, ℕ, zero, suc, ◌+◌, ◌-◌, ◌^◌, ◌≤◌, List, length, map, reverse, Option, None, Some, refl, sym, ◌∙◌, arith, Result, Ok, Err}
use Rattle.std.specs.Prelude.{IfOk, MatchResult, min}
use Rattle.std.proofs.lemmas.List.{length-map}
use Rattle.cat_model.specs.declared.command.Command.{Command}
use Rattle.cat_model.specs.Log.{commands_of}
use Rattle.outside.specs.Causes.{Rose}
use Rattle.datagram_outside.specs.Ports.{PortState}
use Rattle.script_player.specs.declared.report.Report.{Report}
use Rattle.cluster_rules.specs.Reached.{MayBegin}
use Rattle.turn_lock.specs.Lists.{Among, IsFront}
use Rattle.http_connections.specs.Runs.{Back, turned_of}
use Rattle.http_connections.proofs.Complete.{all_answered, all_came}
use Rattle.http_front.specs.Shown.{ShowsOver}
use Rattle.http_front.specs.declared.stop.Stop.{Stop}
use Rattle.http_front.specs.declared.stop.Stop.TheVariants as stop
use Rattle.http_front.specs.declared.options.Dns.{Dns}
use Rattle.http_front.specs.Names.{NamesServed}
use Rattle.http_front.specs.Served.{CountsBinds, CountsKeepers, CountsStop, Served}
use Rattle.http_front.specs.Complete.{IsComplete, IsFaultless, IsServers, NamesAnswered, Run}

-- where the spawner counts no fault, no link was turned away
none_turned : (faults faults' lacked turned : ℕ) → (Rose faults faults' → ⊥) → lacked ≡ 0 → min (faults + turned) (2 ^ 64 - 1) ≤ faults' + lacked → turned ≡ 0
none_turned faults faults' lacked zero f e l = refl
none_turned faults faults' lacked (suc turned) f e l = absurd (f (omega (arith, e, l)))

-- where the spawner counts no fault, the job of names was started
names_answered : (dns : Option Dns) (agrees : Type 0) (agreed : List Command) (spawns spawns' : ℕ) (ports ports' : List PortState) → (Rose spawns spawns' → ⊥) → NamesServed dns agrees agreed spawns spawns' ports ports' → NamesAnswered dns agrees agreed ports ports'
names_answered None agrees agreed spawns spawns' ports ports' f served = served
names_answered (Some dns) agrees agreed spawns spawns' ports ports' f (first, port, new, closes, inl answered) = (first, port, new, closes, answered)
names_answered (Some dns) agrees agreed spawns spawns' ports ports' f (first, port, new, closes, inr missed) = absurd (f missed.1)

done : (run : Run) → IsFaultless run → (report : Report) → run.ended ≡ Ok report → Served run.options run.made run.made' run.draws run.closed run.closed' run.spawns run.spawns' run.given run.port run.ports run.ports' run.held run.held' report → IsComplete run
done run f report e s =
    let b = s.run.links in let links = b.all.links in
    let none = none_turned run.spawns run.spawns' b.lacked (turned_of links) f.spawner b.well.0 b.all.few in
    let long = sym b.all.short_is ∙ b.well.1 in
    record {
      report = report;
      ended = e;
      size = s.size;
      fits = s.fits;
      stores_are = s.stores_are;
      reached = s.run.reached;
      serves = s.run.serves;
      links = map (λ l. l.0) links;
      back = b.all.are;
      count = length-map links (λ (l : Back). l.0) ∙ ((let k = b.all.count in let g : length links ≡ run.given = omega (arith, k) in g) ∙ s.run.count);
      answered = all_answered (ShowsOver s.size.stores) (MayBegin s.size.stores) s.size.agents run.draws (λ seen. IsFront seen (reverse s.run.reached.past)) links b.all.each none long;
      asked = λ n a. all_came (ShowsOver s.size.stores) (MayBegin s.size.stores) s.size.agents run.draws (λ seen. IsFront seen (reverse s.run.reached.past)) links b.all.each none long n (b.all.own n a);
      names = names_answered run.options.dns (MayBegin s.size.stores) (commands_of s.run.reached.world.agreed) run.spawns run.spawns' run.ports run.ports' f.spawner s.run.names;
    }

pub complete : (run : Run) → IsServers run → IsFaultless run → (run.ended ≡ Err stop.Memory) ⊎ IsComplete run
complete run s f = by_end run.ended refl s.served s.cause s.keepers s.binds_are
  where
    by_end : (r : Result Report Stop) → run.ended ≡ r → IfOk r (Served run.options run.made run.made' run.draws run.closed run.closed' run.spawns run.spawns' run.given run.port run.ports run.ports' run.held run.held')
        → MatchResult r (λ _. run.writes' ≡ run.writes) (λ why. CountsStop why run.listens run.listens' run.writes run.writes')
        → MatchResult r (λ _. run.keeps' ≡ run.keeps) (λ why. CountsKeepers why run.keeps run.keeps')
        → MatchResult r (λ _. run.binds' ≡ run.binds) (λ why. CountsBinds why run.binds run.binds') → (run.ended ≡ Err stop.Memory) ⊎ IsComplete run
    by_end (Ok report) e served c k b = inr (done run f report e served)
    by_end (Err stop.Listener) e served c k b = absurd (f.listener c.0)
    by_end (Err stop.Sink) e served c k b = absurd (f.sink c)
    by_end (Err stop.Keepers) e served c k b = absurd (f.keepers k)
    by_end (Err stop.Datagrams) e served c k b = absurd (f.datagrams b)
    by_end (Err stop.Memory) e served c k b = inl e
