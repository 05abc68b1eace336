use Rattle.std.proofs.Common.{map}
use Rattle.std.specs.Option.{option_copied}
use Rattle.http_front.proofs.Asking.{added_from}
use Rattle.http_front.proofs.options.added_of.Goals as goal

pub returns-in-None : goal.returns-in-None
returns-in-None c = record { added = λ connections folder dns x. c.in-None.ensures x.count folder x.port x.packets x.are }

pub returns-in-Some : goal.returns-in-Some
returns-in-Some c = record {
  added = added_from (map (λ w. w.now) c.args.words.now) (option_copied c.in-Some.told.count) (option_copied c.in-Some.told.folder) (option_copied c.in-Some.told.port) (option_copied c.in-Some.told.packets)
      c.added_in.result c.in-Some.ensures c.added_in.ensures;
}
