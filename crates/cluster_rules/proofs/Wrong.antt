-- Answers that do not last, whatever the log.
use Rattle.std.proofs.Common.{◌≡◌, ◌≢◌, ℕ, Bool, List, refl, subst}
use Rattle.cat_model.specs.declared.command.Command.{Command}
use Rattle.cat_model.specs.declared.query.Query.{Query}
use Rattle.cat_model.specs.declared.request.Mode.{Mode}
use Rattle.cat_model.specs.declared.request.Mode.TheVariants.{Default, Consistent, Stale}
use Rattle.cat_model.specs.declared.request.Request.{Request}
use Rattle.cat_model.specs.declared.request.Request.TheVariants.{Read, Execute, Write, Renew, Agent}
use Rattle.cat_model.specs.declared.request.Asked.{Asked}
use Rattle.cat_model.specs.declared.request.Asked.TheVariants.{Good, Bad}
use Rattle.cat_model.specs.declared.reply.Kind.TheVariants.{Refused}
use Rattle.cat_model.specs.declared.reply.Refusal.{Refusal}
use Rattle.cat_model.specs.declared.reply.Refusal.TheVariants as refusal
use Rattle.raft_model.specs.Log.{Log}
use Rattle.cluster_rules.specs.Replies.{Question}
use Rattle.cluster_rules.specs.Lasting.{IsRefused, LastsFor, Lasting}

none_invalid : (request : Request) (field : List ℕ) → IsRefused (Good request) (refusal.Invalid field) → ⊥
none_invalid (Read query mode least wait raw) field x = x
none_invalid (Write command) field x = x
none_invalid (Execute name limit mode) field x = x
none_invalid (Renew id) field x = x
none_invalid (Agent op) field x = x

pub good_never_invalid : (q : Question) (request : Request) (field : List ℕ) (log : Log) → q.asked ≡ Good request → Lasting q (Refused (refusal.Invalid field)) log → ⊥
unfolding LastsFor
good_never_invalid q request field log e x = none_invalid request field (subst (λ (z : Asked). IsRefused z (refusal.Invalid field)) e x)

pub bad_keeps_its_refusal : (q : Question) (why other : Refusal) (log : Log) → q.asked ≡ Bad why → Lasting q (Refused other) log → other ≡ why
unfolding LastsFor
bad_keeps_its_refusal q why other log e x = subst (λ (z : Asked). IsRefused z other) e x

lost_mode : (mode : Mode) → mode ≢ Consistent → (query : Query) (least wait : ℕ) (raw : Bool) (old found : ℕ) → IsRefused (Good (Read query mode least wait raw)) (refusal.Lost old found) → ⊥
lost_mode Default d query least wait raw old found x = x
lost_mode Stale d query least wait raw old found x = x
lost_mode Consistent d query least wait raw old found x = d refl

pub read_never_lost : (q : Question) (query : Query) (mode : Mode) (least wait : ℕ) (raw : Bool) (old found : ℕ) (log : Log) → mode ≢ Consistent → q.asked ≡ Good (Read query mode least wait raw) → Lasting q (Refused (refusal.Lost old found)) log → ⊥
unfolding LastsFor
read_never_lost q query mode least wait raw old found log d e x = lost_mode mode d query least wait raw old found (subst (λ (z : Asked). IsRefused z (refusal.Lost old found)) e x)

pub write_never_crowded : (q : Question) (command : Command) (n : ℕ) (log : Log) → q.asked ≡ Good (Write command) → Lasting q (Refused (refusal.TooMany n)) log → ⊥
unfolding LastsFor
write_never_crowded q command n log e x = subst (λ (z : Asked). IsRefused z (refusal.TooMany n)) e x

pub read_never_full : (q : Question) (query : Query) (mode : Mode) (least wait : ℕ) (raw : Bool) (entries bytes : ℕ) (log : Log) → q.asked ≡ Good (Read query mode least wait raw) → Lasting q (Refused (refusal.LogFull entries bytes)) log → ⊥
unfolding LastsFor
read_never_full q query mode least wait raw entries bytes log e x = subst (λ (z : Asked). IsRefused z (refusal.LogFull entries bytes)) e x
