use Rattle.std.proofs.Common.{◌∙◌}
use Rattle.http_routes.proofs.Numbers.{number_is}
use Rattle.http_routes.proofs.params.parsed.Goals as goal

pub returns : goal.returns
returns c = c.ok.ensures.value ∙ number_is c.args.text.now c.parse.result c.parse.ensures.value.0 c.requires
