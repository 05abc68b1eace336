use Rattle.std.proofs.Common.{◌≡◌, ℕ, ◌+◌, Bool, true, false, ◌⊎◌, inl, inr, ◌∙◌, refl, sym, ap, subst, take, get_or, Contains, nat_eq, arith}
use Rattle.std.proofs.lemmas.Bool.{eqb-true, eqb-false}
use Rattle.std.proofs.lemmas.List.Elements.{Contains-get_or}
use Rattle.read_watch.specs.Watch.{IsAwake, is_among}
use Rattle.read_watch.proofs.Members.{among, before_it, whole_taken}
use Rattle.read_watch.proofs.watch.Watch.wake_each.Goals as goal

pub loop-number-preserved : goal.loop-number-preserved
loop-number-preserved c = record {
  awake = λ n h. go n h (nat_eq n (get_or c.args.numbers.now c.loop-number.number-index 0)) refl;
  alone = λ n h. both n (c.wake.ensures.alone n h);
  kept = λ n h. c.wake.ensures.kept n (c.loop-number.invariant.kept n h);
  servers = c.wake.ensures.servers ∙ c.loop-number.invariant.servers;
  lines = (c.wake.ensures.lines.0 ∙ c.loop-number.invariant.lines.0, c.wake.ensures.lines.1 ∙ c.loop-number.invariant.lines.1);
}
  where
    go : (n : ℕ) → is_among n (take (c.loop-number.number-index + 1) c.args.numbers.now) ≡ true → (b : Bool) → nat_eq n (get_or c.args.numbers.now c.loop-number.number-index 0) ≡ b → IsAwake n c.wake.new.self
    go n h true q = subst (λ m. IsAwake m c.wake.new.self) (sym (eqb-true n _ q)) c.wake.ensures.awake
    go n h false q =
        let d = eqb-false n (get_or c.args.numbers.now c.loop-number.number-index 0) q in
        c.wake.ensures.kept n (c.loop-number.invariant.awake n (before_it n c.loop-number.number-index c.args.numbers.now c.loop-number-test.true d h))

    both : (n : ℕ) → Contains c.loop-number.self.awake n ⊎ (n ≡ get_or c.args.numbers.now c.loop-number.number-index 0) → Contains c.args.self.now.awake n ⊎ Contains c.args.numbers.now n
    both n (inl p) = c.loop-number.invariant.alone n p
    both n (inr q) = inr (subst (Contains c.args.numbers.now) (sym q) (Contains-get_or c.args.numbers.now c.loop-number.number-index 0 c.loop-number-test.true))

pub returns-clause-awake : goal.returns-clause-awake
returns-clause-awake c = λ n h.
    let all : take c.loop-number.number-index c.args.numbers.now ≡ c.args.numbers.now = whole_taken c.loop-number.number-index c.args.numbers.now (omega (arith, c.loop-number-test.false)) in
    c.loop-number.invariant.awake n (ap (is_among n) all ∙ among n c.args.numbers.now h)
