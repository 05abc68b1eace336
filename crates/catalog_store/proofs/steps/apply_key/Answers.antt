use Rattle.std.proofs.Common.{refl}
use Rattle.std.proofs.lemmas.Result.{IfOk-weaker}
use Rattle.catalog_store.specs.States.{now_of}
use Rattle.catalog_store.proofs.KeySteps.{key_acts}
use Rattle.catalog_store.proofs.steps.apply_key.Goals as goal

pub returns-clause-acts : goal.returns-clause-acts
returns-clause-acts c = IfOk-weaker c.apply.result _ _ (λ d step. key_acts c.args.position c.args.command.now (now_of c.args.tables.now) c.requires.ready c.args.tables.now.kv c.apply.new.table d.0 d.1 refl (step c.args.tables.now.sessions.now c.is_holder_known-known.ensures)) c.apply.ensures.step
