use Rattle.std.proofs.Common.{refl}
use Rattle.catalog_top.specs.Forms.{plays_load}
use Rattle.catalog_top.specs.Outside.{output_of}
use Rattle.catalog_top.proofs.Loading.{asked_plays}
use Rattle.catalog_top.proofs.program.played.Goals as goal

pub returns-in-Some-clause-form : goal.returns-in-Some-clause-form
returns-in-Some-clause-form g c = plays_load c.in-Some.load c.in-Some.ensures.asked

pub returns-in-Some-clause-load : goal.returns-in-Some-clause-load
returns-in-Some-clause-load g c = λ which asked.
    (asked_plays _ _ _ (output_of g.Si.Sink c.args.sink.now) (output_of g.Si.Sink c.loaded.new.sink) c.loaded.result c.in-Some.ensures.asked asked c.loaded.ensures, refl)

pub returns-in_default-words-clause-load : goal.returns-in_default-words-clause-load
returns-in_default-words-clause-load g c = λ which asked. absurd (c.in_default.ensures.asked which asked)
