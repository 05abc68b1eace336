use Rattle.std.proofs.Common.{◌+◌, ◌-◌, length, take, drop, ap, ◌∙◌}
use Rattle.std.proofs.lemmas.List.{take_rest}
use Rattle.std.proofs.lemmas.Option.{same_Some}
use Rattle.filter_expr.specs.Tokens.{read, between, before}
use Rattle.filter_expr.proofs.Reading.{word_read}
use Rattle.filter_expr.proofs.lexer.word_in.Goals as goal

pub returns-clause-found : goal.returns-clause-found
returns-clause-found c =
    word_read c.args.bytes.now _ c.word_length-end.result (take_rest c.args.bytes.now 1) c.requires.some c.requires.word c.word_length-end.ensures.word
    ∙ ap (λ t. before t (read between (take (length c.args.bytes.now - (c.word_length-end.result + 1)) (drop (c.word_length-end.result + 1) c.args.bytes.now)))) (same_Some _ _ c.in_ok-token.ensures)
