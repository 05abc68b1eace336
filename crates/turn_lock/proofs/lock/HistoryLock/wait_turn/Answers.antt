use Rattle.std.proofs.Common.{rules, ℕ, List, Option, ◌≡◌, ◌≤◌, ◌∷◌, Some, ◌%◌, ◌^◌, ap, sym, ◌∙◌, subst}
use Rattle.std.proofs.lemmas.Option.{same_Some}
use Rattle.atomic_table.specs.Table.{rest}
use Rattle.turn_lock.specs.declared.knowledge.Knowledge.{Knowledge}
use Rattle.turn_lock.specs.Lists.{AreFronts, Extends, OpensAll, OpensOnly}
use Rattle.turn_lock.specs.Rule.{all_shares}
use Rattle.turn_lock.proofs.Keeps.{draws, awaits, in_hand}
use Rattle.turn_lock.proofs.lock.HistoryLock.wait_turn.Goals as goal

pub fetch_add-ticket-requires : goal.fetch_add-ticket-requires
fetch_add-ticket-requires g c = let free = c.requires.free in (search rules, search rules, draws _ _ _ _ _ _ free.0.1 free.0.2 free.1)

pub load-requires : goal.load-requires
load-requires g c = let i = c.loop.invariant.3 in let free = c.requires.free in (search rules, search rules, awaits _ _ _ _ _ _ (ap (λ m. m.1) i) (ap (λ m. m.0.waits) i) (ap (λ m. m.0.turn) i ∙ free.0.2))

pub exchange-requires : goal.exchange-requires
exchange-requires g c =
    let i = c.loop.invariant in
    let hit : c.load.result ≡ c.loop.seat.me.0.ticket % 2 ^ 64 = c.if-load-ticket.true ∙ (i.2 ∙ ap (λ m. m.0.ticket % 2 ^ 64) (sym i.3)) in
    let come = c.load.ensures.2.0 hit in
    let e = ap (λ m. m.1) come.1 in
    (search rules, (Some come.0, e ∙ ap (λ (l : List (ℕ × Option g.row.S.Denot)). (0, Some come.0) ∷ rest l) (sym e)))

pub returns-in-Some-exchange-clause-grown : goal.returns-in-Some-exchange-clause-grown
returns-in-Some-exchange-clause-grown g c =
    let i = c.loop.invariant in
    let hit : c.load.result ≡ c.loop.seat.me.0.ticket % 2 ^ 64 = c.if-load-ticket.true ∙ (i.2 ∙ ap (λ m. m.0.ticket % 2 ^ 64) (sym i.3)) in
    let come = c.load.ensures.2.0 hit in
    let state = c.in-Some-exchange.state in
    let e = ap (λ m. m.1) come.1 in
    let same : come.0 ≡ state = same_Some _ _ (ap (in_hand g.S.History.items g.S.History.opens g.S.History.takes) (sym e ∙ c.exchange.ensures.2) ∙ c.in-Some-exchange.is) in
    let P : Knowledge g.row.S-Item.Denot → g.row.S.Denot → Type 0 = λ v x. Extends g.S.History.opens g.S.History.takes v.mine v.seen (g.S.History.items x) in
    subst (λ x. P (c.args.seat.now.me.0) x) same (subst (λ v. Extends g.S.History.opens g.S.History.takes v.0.mine v.0.seen (g.S.History.items come.0)) i.3 come.2)

pub returns-in-Some-exchange-clause-told : goal.returns-in-Some-exchange-clause-told
returns-in-Some-exchange-clause-told g c =
    let i = c.loop.invariant in
    let hit : c.load.result ≡ c.loop.seat.me.0.ticket % 2 ^ 64 = c.if-load-ticket.true ∙ (i.2 ∙ ap (λ m. m.0.ticket % 2 ^ 64) (sym i.3)) in
    let come = c.load.ensures.2.0 hit in
    let state = c.in-Some-exchange.state in
    let e = ap (λ m. m.1) come.1 in
    let same : come.0 ≡ state = same_Some _ _ (ap (in_hand g.S.History.items g.S.History.opens g.S.History.takes) (sym e ∙ c.exchange.ensures.2) ∙ c.in-Some-exchange.is) in
    let P : Knowledge g.row.S-Item.Denot → g.row.S.Denot → Type 0 = λ v x. AreFronts v.told (g.S.History.items x) in
    subst (λ x. P (c.args.seat.now.me.0) x) same (subst (λ v. AreFronts v.0.told (g.S.History.items come.0)) i.3 come.3)

pub returns-in-Some-exchange-clause-opened : goal.returns-in-Some-exchange-clause-opened
returns-in-Some-exchange-clause-opened g c =
    let i = c.loop.invariant in
    let hit : c.load.result ≡ c.loop.seat.me.0.ticket % 2 ^ 64 = c.if-load-ticket.true ∙ (i.2 ∙ ap (λ m. m.0.ticket % 2 ^ 64) (sym i.3)) in
    let come = c.load.ensures.2.0 hit in
    let state = c.in-Some-exchange.state in
    let e = ap (λ m. m.1) come.1 in
    let same : come.0 ≡ state = same_Some _ _ (ap (in_hand g.S.History.items g.S.History.opens g.S.History.takes) (sym e ∙ c.exchange.ensures.2) ∙ c.in-Some-exchange.is) in
    let P : Knowledge g.row.S-Item.Denot → g.row.S.Denot → Type 0 = λ v x. OpensAll g.S.History.opens v.mine (g.S.History.items x) in
    subst (λ x. P (c.args.seat.now.me.0) x) same (subst (λ v. P v.0 come.0) i.3 come.4)

pub returns-in-Some-exchange-clause-whole : goal.returns-in-Some-exchange-clause-whole
returns-in-Some-exchange-clause-whole g c =
    let i = c.loop.invariant in
    let hit : c.load.result ≡ c.loop.seat.me.0.ticket % 2 ^ 64 = c.if-load-ticket.true ∙ (i.2 ∙ ap (λ m. m.0.ticket % 2 ^ 64) (sym i.3)) in
    let come = c.load.ensures.2.0 hit in
    let state = c.in-Some-exchange.state in
    let e = ap (λ m. m.1) come.1 in
    let same : come.0 ≡ state = same_Some _ _ (ap (in_hand g.S.History.items g.S.History.opens g.S.History.takes) (sym e ∙ c.exchange.ensures.2) ∙ c.in-Some-exchange.is) in
    let P : Knowledge g.row.S-Item.Denot → g.row.S.Denot → Type 0 = λ v x. all_shares ≤ v.shares → OpensOnly g.S.History.opens v.mine (g.S.History.items x) in
    subst (λ x. P (c.args.seat.now.me.0) x) same (subst (λ v. P v.0 come.0) i.3 come.5)
