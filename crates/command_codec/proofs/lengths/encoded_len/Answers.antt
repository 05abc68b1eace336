use Rattle.std.proofs.Common.{◌∙◌, arith}
use Rattle.cat_model.specs.Spelling.{spelling}
use Rattle.command_codec.proofs.Counting.{spelling_fits}
use Rattle.command_codec.proofs.Taking.{all_counted}
use Rattle.command_codec.proofs.lengths.encoded_len.Goals as goal

pub returns-clause-counted : goal.returns-clause-counted
returns-clause-counted c =
    let all = c.in-Ok.ensures ∙ all_counted 0 (spelling c.args.command.now) (omega arith) in omega (arith, all)

pub returns-clause-exact : goal.returns-clause-exact
returns-clause-exact c = λ v.
    let all = c.in-Ok.ensures ∙ all_counted 0 (spelling c.args.command.now) (omega arith) in let fits = spelling_fits c.args.command.now v in omega (arith, all, fits)
