use Rattle.std.proofs.Common.{sym, true≢false}
use Rattle.uuid.specs.Text.{parsed}
use Rattle.http_routes.proofs.Identifiers.{unparsed}
use Rattle.http_routes.proofs.params.id_of.Goals as goal

pub returns-in-Err : goal.returns-in-Err
returns-in-Err c = unparsed (parsed c.args.text.now) (λ p. true≢false (sym (c.in-Err.ensures.ok.1 p)))
