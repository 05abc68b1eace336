-- How a server ends, from its parts.
use Rattle.std.proofs.Common.{◌≡◌, inl, ℕ, Bool, false, List, [], ◌∷◌, reverse, Option, None, Some, Result, Ok, Err, sym, ap, ◌∙◌, subst}
use Rattle.std.specs.List.{AllByRecursion}
use Rattle.std.proofs.lemmas.List.{reverse-reverse}
use mathlib.Core.List.{IsPrefix}
use Rattle.cat_model.specs.declared.command.Command.{Command}
use Rattle.cat_model.specs.declared.reply.Mark.{Mark}
use Rattle.cat_model.specs.Log.{commands_of}
use Rattle.cluster_rules.specs.Reached.{MayBegin}
use Rattle.datagram_outside.specs.Ports.{PortState}
use Rattle.cluster_rules.specs.Sound.{entered_in}
use Rattle.turn_lock.specs.Lists.{IsFront}
use Rattle.http_exchanges.specs.Marks.{agreed_by}
use Rattle.http_exchanges.proofs.Agreeing.{agreed_front}
use Rattle.run_rules.specs.Holding.{Holds}
use Rattle.http_front.specs.Shown.{ShowsOver}
use Rattle.std.specs.Prelude.{IfErr, IfOk, OnErr, OnOk}
use Rattle.std.specs.Io.KnownBytes.{Appends}
use Rattle.std.proofs.KnownBytes.{Appends-trans}
use Rattle.cat_model.specs.declared.request.Draw.{Draw}
use Rattle.cluster_rules.specs.Cluster.{Cluster}
use Rattle.cluster_rules.specs.Step.{events_in}
use Rattle.run_rules.specs.Plays.{Whole}
use Rattle.script_player.specs.declared.report.Report.{Report}
use Rattle.script_player.specs.Run.{IsReportOf, WritesPart}
use Rattle.script_player.specs.Text.{last_text}
use Rattle.serve_outside.specs.Links.{LinkState}
use Rattle.serve_outside.specs.Stores.{AddsMade, Made, made_from}
use Rattle.http_connections.specs.declared.run.Stop as loop
use Rattle.http_connections.specs.Runs.{Back, HaveRead, IsBack, most_of}
use Rattle.run_rules.specs.Serving.{Size, Serves}
use Rattle.run_rules.proofs.ServingHolds.{holds}
use Rattle.http_front.specs.declared.options.Options.{Options}
use Rattle.http_front.specs.declared.stop.Stop.{Stop}
use Rattle.http_front.specs.declared.stop.Stop.TheVariants as stops
use Rattle.http_front.specs.Names.{NamesServed}
use Rattle.http_front.specs.Served.{Fits, GivesBack, Serve, Served, ServedBy, WritesFront, WritesWhole, all_back, none_given, of_first}
use Rattle.http_front.specs.Text.{listening_text}
use Rattle.http_front.proofs.Naming.{names_agreed}
use Rattle.http_front.proofs.Texts.{front_all, whole_all}

-- the agreed log that its marks tell
agreed_is : (size : Size) (c : Cluster) → Holds size.stores c → agreed_by (reverse c.past) ≡ commands_of c.world.agreed
agreed_is size c h = ap (λ (l : List Mark). commands_of (entered_in l)) (reverse-reverse c.past) ∙ ap commands_of h.sound.parts.counts.entries

-- what the viewers of these links had read is of the one log
have_read : (size : Size) (draws : Option (List Draw)) (c : Cluster) → Holds size.stores c → MayBegin size.stores → (links : List Back) (each : AllByRecursion (IsBack (ShowsOver size.stores) (MayBegin size.stores) size.agents draws (λ seen. IsFront seen (reverse c.past))) links)
    → HaveRead (ShowsOver size.stores) (MayBegin size.stores) size.agents draws (λ seen. IsFront seen (reverse c.past)) (commands_of c.world.agreed) links each
have_read size draws c h kept [] each = tt
have_read size draws c h kept ((link, None) ∷ links) each = have_read size draws c h kept links each.1
have_read size draws c h kept ((link, Some why) ∷ links) each =
    (λ long. subst (IsPrefix each.0.known.read) (agreed_is size c h) (subst (λ (l : List Command). IsPrefix l (agreed_by (reverse c.past))) (sym (each.0.learned long kept)) (agreed_front each.0.known.seen (reverse c.past) each.0.seen)), have_read size draws c h kept links each.1)

-- the links of a run, whose listener had given none before
module _ (o : Options) (size : Size) (f : Fits o size) (draws : Option (List Draw)) (closed closed₁ closed' : List LinkState) (same : closed₁ ≡ closed) (faults faults' given : ℕ) (c : Cluster) (ended : Result Unit loop.Stop) where
  links_of : Serve size draws c closed₁ closed' faults faults' given ended → Serve size draws c closed closed' faults faults' given ended
  links_of links = subst (λ (l : List LinkState). Serve size draws c l closed' faults faults' given ended) same links

  pub back_of : Serves size c → Serve size draws c closed₁ closed' faults faults' given ended → GivesBack o draws closed closed' faults faults' given
  back_of serves links = all_back size c ended f serves (links_of links)

  pub served_of : (port : Option ℕ) → port ≡ Some o.port → (ports ports₁ ports' : List PortState) → ports₁ ≡ ports → (short : Bool) → (held mid held' : Option (List ℕ)) (r : Result Report Stop) → Serves size c
      → Serve size draws c closed₁ closed' faults faults' given ended
      → OnOk ended (given ≡ most_of o.connections) → (ended ≡ Ok tt → short ≡ false → NamesServed o.dns (MayBegin size.stores) (agreed_by (reverse c.past)) faults faults' ports₁ ports')
      → Appends held mid (listening_text o.port) → OnOk r (Appends mid held' (last_text Whole c)) → IfOk r (IsReportOf c (events_in c.past)) → OnOk r ((ended ≡ Ok tt) × (short ≡ false))
      → IfOk r (ServedBy size o draws closed closed' faults faults' given port ports ports' held held')
  served_of port at ports ports₁ ports' kept short held mid held' (Ok report) serves links count names first text tells whole =
      let all : Serve size draws c closed closed' faults faults' given (Ok tt) = subst (λ (z : Result Unit loop.Stop). Serve size draws c closed closed' faults faults' given z) whole.0 (links_of links) in record {
        reached = c;
        serves = serves;
        holds = holds size c serves;
        links = all;
        views = λ kept. have_read size draws c (holds size c serves kept) kept all.all.links all.all.each;
        names = names_agreed o.dns (MayBegin size.stores) (agreed_by (reverse c.past)) (commands_of c.world.agreed) faults faults' ports ports' (λ may. agreed_is size c (holds size c serves may))
            (subst (λ (l : List PortState). NamesServed o.dns (MayBegin size.stores) (agreed_by (reverse c.past)) faults faults' l ports') kept (names whole.0 whole.1));
        count = subst (λ (z : Result Unit loop.Stop). OnOk z (given ≡ most_of o.connections)) whole.0 count;
        listens = at;
        written = Appends-trans held mid held' (listening_text o.port) (last_text Whole c) first text;
        tells = tells;
      }
  served_of port at ports ports₁ ports' kept short held mid held' (Err why) serves links count names first text tells whole = tt

  pub front_of : (held mid held' : Option (List ℕ)) (r : Result Report Stop) → Serves size c → Appends held mid (listening_text o.port) → OnErr r (WritesPart mid held' (last_text Whole c)) → OnErr r (WritesFront o held held')
  front_of held mid held' (Ok report) serves first part = tt
  front_of held mid held' (Err why) serves first part = front_all o size f held mid held' c serves first part

  pub lined_of : (held mid held' : Option (List ℕ)) (r : Result Report Stop) → Serves size c → Appends held mid (listening_text o.port)
      → IfErr r (λ why. why ≡ stops.Listener → Appends mid held' (last_text Whole c)) → IfErr r (λ why. why ≡ stops.Listener → WritesWhole o held held')
  lined_of held mid held' (Ok report) serves first lined = tt
  lined_of held mid held' (Err why) serves first lined = λ is. whole_all o size f held mid held' c serves first (lined is)

-- what was served by the cluster of this size was served by just the stores that were made
pub served_all : (o : Options) (made made₁ made' : Option (List Made)) (size : Size) → Fits o size → AddsMade made made₁ (made_from o.folder 1 size.stores) → made' ≡ made₁
    → (draws : Option (List Draw)) (closed closed' : List LinkState) (faults faults' given : ℕ) (port : Option ℕ) (ports ports' : List PortState) (held held' : Option (List ℕ)) (r : Result Report Stop)
    → IfOk r (ServedBy size o draws closed closed' faults faults' given port ports ports' held held') → IfOk r (Served o made made' draws closed closed' faults faults' given port ports ports' held held')
served_all o made made₁ made' size f are same draws closed closed' faults faults' given port ports ports' held held' (Ok report) run = record {
  size = size;
  fits = f;
  stores_are = subst (λ (m : Option (List Made)). AddsMade made m (made_from o.folder 1 size.stores)) (sym same) are;
  run = run;
  holds = λ none. run.holds (inl (f.empty none).0);
}
served_all o made made₁ made' size f are same draws closed closed' faults faults' given port ports ports' held held' (Err why) run = tt

-- no link was given
pub back_none : (o : Options) (draws : Option (List Draw)) (closed closed' : List LinkState) (faults faults' given : ℕ) → given ≡ 0 → closed' ≡ closed → GivesBack o draws closed closed' faults faults' given
back_none o draws closed closed' faults faults' given none same = none_given none same

-- the first line alone
pub front_first : (o : Options) (held held' : Option (List ℕ)) → WritesPart held held' (listening_text o.port) → WritesFront o held held'
front_first o held held' part = of_first part
