use Rattle.std.proofs.Common.{◌||◌, List, ℕ, take, get_or, sym, ◌∙◌, ap}
use Rattle.std.specs.Ordering.{is_eq, nat_cmp}
use Rattle.std.proofs.lemmas.List.{take_more}
use Rattle.session_table.specs.Places.{has_id}
use Rattle.session_table.proofs.Identifiers.{id_more}
use Rattle.session_table.proofs.ids.add_each.Goals as goal

pub loop-id-preserved : goal.loop-id-preserved
loop-id-preserved c = λ k.
    let i = c.loop-id.id-index in let more : List ℕ = c.args.more.now in let old : List ℕ = c.args.ids.now.now in
    c.in_ok-add.ensures k ∙ ap (λ b. is_eq (nat_cmp k (get_or more i 0)) || b) (c.loop-id.invariant k) ∙ id_more k (get_or more i 0) (take i more) (has_id k old)
    ∙ ap (λ l. has_id k l || has_id k old) (sym (take_more more i 0 c.loop-id-test.true))
