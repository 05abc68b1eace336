use Rattle.std.proofs.Common.{◌++◌, ◌∙◌, [], ap}
use Rattle.std.proofs.lemmas.Result.{on_ok_weaker}
use Rattle.cat_model.specs.Spelling.{spelling}
use Rattle.command_codec.proofs.Taking.{all_kept}
use Rattle.command_codec.proofs.encoder.encode.Goals as goal

pub returns-clause-ok : goal.returns-clause-ok
returns-clause-ok c =
    let bytes = spelling c.args.command.now in
    on_ok_weaker c.extend.result
    (λ e. e ∙ ap (λ z. c.args.out.now ++ z) (c.deref.ensures.value ∙ c.in_ok-put_command.ensures ∙ all_kept c.new-bytes.result.items bytes ∙ ap (λ z. z ++ bytes) c.new-bytes.ensures.items))
    c.extend.ensures.ok
