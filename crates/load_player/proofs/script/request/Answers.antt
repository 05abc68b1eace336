use Rattle.std.proofs.Common.{ap, ◌∙◌, sym}
use Rattle.load_player.specs.LoadScript.{request}
use Rattle.load_player.proofs.Texts.{put_text}
use Rattle.load_player.proofs.script.request.Goals as goal

pub returns-in_ok-format-in-Put : goal.returns-in_ok-format-in-Put
returns-in_ok-format-in-Put c =
    put_text c.args.number c.args.key _ (ap (λ v. v.items) c.into_bytes.ensures.value ∙ c.in_ok-format-in-Put.ensures.ok)
    ∙ ap (λ m. request m c.args.number c.args.key) (sym c.in-Put.is)
