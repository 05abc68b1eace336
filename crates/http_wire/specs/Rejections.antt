-- How the server answers bytes that it refuses.
use Rattle.std.specs.Prelude.{codes}
use Rattle.cat_model.specs.declared.reply.Refusal.{Refusal}
use Rattle.cat_model.specs.declared.reply.Refusal.TheVariants as refusals
use Rattle.http_wire.specs.declared.rejection.Rejection.{Rejection}
use Rattle.http_wire.specs.declared.rejection.Rejection.TheVariants as rejections

abbrev pub answer_to : Rejection → Refusal
answer_to rejections.Head = refusals.Invalid (codes "head")
answer_to rejections.ContentLength = refusals.Invalid (codes "Content-Length")
answer_to rejections.Host = refusals.Invalid (codes "Host")
answer_to rejections.TooLarge = refusals.TooLarge
answer_to rejections.Unsupported = refusals.Unsupported
answer_to rejections.HeadTooLarge = refusals.HeadTooLarge
