-- What refusals show: each is a plain text.
use Rattle.std.specs.Prelude.{◌++◌, codes}
use Rattle.cat_model.specs.declared.reply.Refusal.{Refusal}
use Rattle.cat_model.specs.declared.reply.Refusal.TheVariants as r
use Rattle.reply_body.specs.Bodies.{plain}
use Rattle.reply_body.specs.declared.shown.Shown.{Shown}

abbrev pub shown_refusal : Refusal → Shown
shown_refusal (r.Invalid field) = plain 400 (codes "Invalid " ++ field)
shown_refusal (r.NotFound what) = plain 404 what
shown_refusal (r.Method allow) = plain 405 (codes "Method not allowed")
shown_refusal r.TooLarge = plain 413 (codes "Too large")
shown_refusal (r.NoLeader term role held) = plain 500 (codes "No cluster leader")
shown_refusal (r.NotReady term applied_term) = plain 500 (codes "Not ready")
shown_refusal (r.Lost entered found) = plain 500 (codes "Leadership lost")
shown_refusal (r.TooMany waiting) = plain 503 (codes "Too many waiting")
shown_refusal (r.LogFull entries bytes) = plain 503 (codes "Log full")
shown_refusal r.Unsupported = plain 501 (codes "Not implemented")
shown_refusal r.Memory = plain 503 (codes "Out of memory")
shown_refusal (r.Halted server) = plain 500 (codes "Server halted")
shown_refusal r.HeadTooLarge = plain 431 (codes "Head too large")
shown_refusal r.NoWorker = plain 503 (codes "No worker")
