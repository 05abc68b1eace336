use Rattle.std.proofs.Common.{arith, ◌∙◌}
use Rattle.store_records.specs.declared.records.Record.TheVariants.{Vote}
use Rattle.file_keeper.proofs.Putting.{vote_put}
use Rattle.file_keeper.proofs.file_keeper.FileKeeperKeeper.save_vote.Goals as goal

pub put-requires-clause-fits : goal.put-requires-clause-fits
put-requires-clause-fits g c =
    (Vote c.args.term c.args.vote, vote_put c.args.self.now.bytes c.as_slice.result.now c.args.term c.args.vote (omega arith) c.fits_vote.ensures (c.as_slice.ensures ∙ c.in-Ok.ensures))

pub returns-clause-held : goal.returns-clause-held
returns-clause-held g c =
    c.put.ensures.held (Vote c.args.term c.args.vote)
    (vote_put c.args.self.now.bytes c.as_slice.result.now c.args.term c.args.vote (omega arith) c.fits_vote.ensures (c.as_slice.ensures ∙ c.in-Ok.ensures))
