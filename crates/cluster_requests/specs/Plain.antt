-- Causes to refuse a request that have no text.
use Rattle.cat_model.specs.declared.reply.Refusal.{Refusal}
use Rattle.cat_model.specs.declared.reply.Refusal.TheVariants as refusal
use Rattle.cluster_requests.specs.declared.plain.Plain.{Plain}
use Rattle.cluster_requests.specs.declared.plain.Plain.TheVariants.{Halted, LogFull, NotReady}

abbrev pub refusal_of : Plain → Refusal
refusal_of (Halted server) = refusal.Halted server
refusal_of (LogFull entries bytes) = refusal.LogFull entries bytes
refusal_of (NotReady term applied) = refusal.NotReady term applied
