use Rattle.http_exchanges.proofs.served.Served.make.Goals as goal

pub ask-requires : goal.ask-requires
ask-requires g c = c.requires c.in-Some.ask c.in-Some.is
