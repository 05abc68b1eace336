use Rattle.std.proofs.Common.{Option, None, Some, ℕ, sym, ◌∙◌, ap, subst}
use Rattle.cat_model.specs.Keys.{same_option}
use Rattle.cat_model.specs.Kv.{write_kv}
use Rattle.cat_model.specs.declared.applied.Applied.TheVariants.{No}
use Rattle.cat_model.specs.declared.command.Command.TheVariants.{KvUnlock}
use Rattle.catalog_store.specs.Steps.{KeyStep}
use Rattle.catalog_store.proofs.Commands.{unlock_step, unlock_no}
use Rattle.catalog_store.proofs.key_commands.locks.release.Goals as goal

pub returns-then-not-is_same_holder-clause-step : goal.returns-then-not-is_same_holder-clause-step
returns-then-not-is_same_holder-clause-step c sessions =
    subst (KeyStep c.args.w.now.version sessions c.args.w.now.position (KvUnlock c.args.w.now.key.now c.args.w.now.flags c.args.w.now.value.now c.args.session) c.args.table.now c.args.table.now No) (sym c.new.ensures)
    (unlock_no c.args.w.now.version sessions c.args.w.now.position c.args.table.now c.args.w.now.key.now c.args.w.now.value.now c.args.w.now.flags c.args.session
    (ap (λ (h : Option ℕ). same_option h (Some c.args.session)) (sym c.lock_at-held.ensures.session) ∙ sym c.is_same_holder.ensures ∙ c.if-not-is_same_holder.true))

pub returns-clause-step : goal.returns-clause-step
returns-clause-step c sessions =
    unlock_step c.args.w.now.version sessions c.args.w.now.position c.args.table.now c.put.new.table c.in_ok-chans.chans c.args.w.now.key.now c.args.w.now.value.now c.args.w.now.flags c.args.session
    (ap (λ (h : Option ℕ). same_option h (Some c.args.session)) (sym c.lock_at-held.ensures.session) ∙ sym c.is_same_holder.ensures ∙ c.if-not-is_same_holder.false)
    (c.in_ok-chans.ensures.rows ∙ ap (λ (n : ℕ). write_kv c.args.w.now.version c.args.w.now.position c.args.w.now.key.now c.args.w.now.value.now c.args.w.now.flags None n c.args.table.now.now.rows) c.lock_at-held.ensures.index)
    c.in_ok-chans.ensures.moves
