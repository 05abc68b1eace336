use Rattle.std.proofs.Common.{sym, true≢false}
use Rattle.uuid.specs.Text.{parsed}
use Rattle.cluster_works.proofs.Executed.{unparsed}
use Rattle.cluster_works.proofs.identifiers.id_in.Goals as goal

pub returns-in-Err : goal.returns-in-Err
returns-in-Err c = unparsed (parsed c.args.text.now) (λ p. true≢false (sym (c.in-Err.ensures.ok.1 p)))
