use Rattle.std.proofs.Common.{◌≡◌, ℕ, Bool, true, false, None, ◌∙◌, ◌+◌, refl, sym, subst, ap, take, get_or, nat_eq}
use Rattle.std.specs.Ordering.{nat_cmp}
use Rattle.std.specs.Map.{lookup}
use Rattle.std.specs.BTreeMap.{is_at}
use Rattle.std.proofs.lemmas.Bool.{eqb-true, eqb-false}
use Rattle.read_watch.specs.Watch.{is_among}
use Rattle.timer_wheel.proofs.Lookups.{found_without}
use Rattle.read_watch.proofs.Members.{before_it, not_before}
use Rattle.read_watch.proofs.exits.remove_each.Goals as goal

pub loop-number-preserved : goal.loop-number-preserved
loop-number-preserved c = record {
  others = λ n h.
      let b = not_before n c.loop-number.number-index c.args.numbers.now c.loop-number-test.true h in
      ap (lookup (is_at (nat_cmp n))) c.remove.ensures.left ∙ found_without n (get_or c.args.numbers.now c.loop-number.number-index 0) c.loop-number.registry b.1 ∙ c.loop-number.invariant.others n b.0;
  gone = λ n h. go n h (nat_eq n (get_or c.args.numbers.now c.loop-number.number-index 0)) refl;
}
  where
    go : (n : ℕ) → is_among n (take (c.loop-number.number-index + 1) c.args.numbers.now) ≡ true → (b : Bool) → nat_eq n (get_or c.args.numbers.now c.loop-number.number-index 0) ≡ b → lookup (is_at (nat_cmp n)) c.remove.new.self ≡ None
    go n h true q = subst (λ m. lookup (is_at (nat_cmp m)) c.remove.new.self ≡ None) (sym (eqb-true n _ q)) c.remove.ensures.gone
    go n h false q =
        let d = eqb-false n (get_or c.args.numbers.now c.loop-number.number-index 0) q in
        ap (lookup (is_at (nat_cmp n))) c.remove.ensures.left ∙ found_without n (get_or c.args.numbers.now c.loop-number.number-index 0) c.loop-number.registry d
        ∙ c.loop-number.invariant.gone n (before_it n c.loop-number.number-index c.args.numbers.now c.loop-number-test.true d h)
