use Rattle.std.proofs.Common.{rules, ℕ, List, Option, ◌≡◌, ◌∷◌, Some, ap, sym, ◌∙◌, subst, refl}
use Rattle.atomic_table.specs.Table.{rest}
use Rattle.turn_lock.specs.declared.knowledge.Knowledge.{Knowledge}
use Rattle.turn_lock.proofs.Keeps.{leaves, MayAdd}
use Rattle.turn_lock.proofs.lock.HistoryLock.give.Goals as goal

pub fetch_add-served-requires : goal.fetch_add-served-requires
fetch_add-served-requires g c =
    let e = c.exchange-before.ensures.3 in let taken = c.requires.taken in let may = c.requires.may in
    let state = c.args.turn.state in
    let holds = ap (λ m. m.1) e ∙ ap (λ (l : List (ℕ × Option g.row.S.Denot)). (0, Some state) ∷ rest l) taken.0.0 in
    let same : c.args.pass.now.seat.me.0 ≡ c.exchange-before.new.seat.me.0 = sym (ap (λ m. m.0) e) in (
      search rules,
      search rules,
      leaves _ _ _ _ _ _ state may.0 _ holds (ap (λ (v : Knowledge g.row.S-Item.Denot). v.turn) (sym same) ∙ taken.0.1)
          (subst (λ (v : Knowledge g.row.S-Item.Denot). MayAdd g.S.History.items g.S.History.opens g.S.History.takes v (g.S.History.items state) may.0) same (may.1, may.2, may.3)) refl,
    )
