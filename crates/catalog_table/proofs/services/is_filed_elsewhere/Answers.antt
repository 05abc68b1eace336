use Rattle.std.proofs.Common.{◌≡◌, true, false, not, ◌∙◌, refl, sym, ap}
use Rattle.std.specs.List.{list_any}
use Rattle.cat_model.specs.Keys.{text_cmp, same_text}
use Rattle.row_table.proofs.FiledUnder.{is_mine}
use Rattle.row_table.proofs.Places.{text_place}
use Rattle.row_table.proofs.Spans.{leading}
use Rattle.catalog_table.proofs.Indexes.{any_leading}
use Rattle.catalog_table.proofs.Labels.{any_elsewhere, is_off}
use Rattle.catalog_table.proofs.services.is_filed_elsewhere.Goals as goal

pub returns-then-not-is_text : goal.returns-then-not-is_text
returns-then-not-is_text c =
    let name = c.args.name.now in let node = c.args.node.now in let h = c.in-Some.entry.now in
    let other : is_mine text_cmp name h ≡ false = sym (text_place h.0 name) ∙ ap (λ g. same_text g.0 name) (sym c.entry.view_is) ∙ sym c.is_text.ensures ∙ c.if-not-is_text.true in
    sym (any_leading (is_mine text_cmp name) (λ g. is_off node g.1) h c.loop-entry.entry-iterator c.next.new.self c.in-Some.ensures.steps false other (is_off node h.1) refl)
    ∙ c.loop-entry.invariant ∙ any_elsewhere name node c.args.rows.now.now c.args.names.now.now c.in_order.ensures c.in_order-2.ensures c.requires

pub returns-then-not-is_text-2 : goal.returns-then-not-is_text-2
returns-then-not-is_text-2 c =
    let name = c.args.name.now in let node = c.args.node.now in let h = c.in-Some.entry.now in
    let mine : is_mine text_cmp name h ≡ true = sym (text_place h.0 name) ∙ ap (λ g. same_text g.0 name) (sym c.entry.view_is) ∙ sym c.is_text.ensures ∙ c.if-not-is_text.false in
    let off : is_off node h.1 ≡ true = ap not (ap (λ g. same_text g.1.0 node) (sym c.entry.view_is) ∙ sym c.is_text-in-loop-entry.ensures ∙ c.if-not-is_text-2.true) in
    sym (any_leading (is_mine text_cmp name) (λ g. is_off node g.1) h c.loop-entry.entry-iterator c.next.new.self c.in-Some.ensures.steps true mine true off)
    ∙ c.loop-entry.invariant ∙ any_elsewhere name node c.args.rows.now.now c.args.names.now.now c.in_order.ensures c.in_order-2.ensures c.requires

pub loop-entry-preserved : goal.loop-entry-preserved
loop-entry-preserved c =
    let name = c.args.name.now in let node = c.args.node.now in let h = c.in-Some.entry.now in
    let mine : is_mine text_cmp name h ≡ true = sym (text_place h.0 name) ∙ ap (λ g. same_text g.0 name) (sym c.entry.view_is) ∙ sym c.is_text.ensures ∙ c.if-not-is_text.false in
    let off : is_off node h.1 ≡ false = ap not (ap (λ g. same_text g.1.0 node) (sym c.entry.view_is) ∙ sym c.is_text-in-loop-entry.ensures ∙ c.if-not-is_text-2.false) in
    sym (any_leading (is_mine text_cmp name) (λ g. is_off node g.1) h c.loop-entry.entry-iterator c.next.new.self c.in-Some.ensures.steps true mine false off) ∙ c.loop-entry.invariant

pub returns : goal.returns
returns c =
    let name = c.args.name.now in let node = c.args.node.now in
    sym (ap (λ l. list_any (λ g. is_off node g.1) (leading (is_mine text_cmp name) l)) c.in-None.ensures.steps.0)
    ∙ c.loop-entry.invariant ∙ any_elsewhere name node c.args.rows.now.now c.args.names.now.now c.in_order.ensures c.in_order-2.ensures c.requires
