use Rattle.std.proofs.Common.{arith, ◌≡◌, ◌≤◌, ◌-◌, ◌+◌, ◌++◌, ℕ, List, None, Err, nat_lt, length, take, drop, refl, sym, ap, subst, ◌∙◌}
use Rattle.std.proofs.lemmas.List.{take_rest, length-drop}
use Rattle.std.proofs.lemmas.Result.{err_from_is_err_and}
use Rattle.cat_model.specs.declared.kept.Kept.{Kept}
use Rattle.cat_model.specs.Keeping.{nothing_kept}
use Rattle.store_records.specs.RecordReading.{IsCut}
use Rattle.file_keeper.specs.declared.window.Unread.TheVariants.{Other}
use Rattle.file_keeper.specs.Journal.{IsFound, IsNext, Leads, replay}
use Rattle.file_keeper.proofs.Finding.{Going, going_start, going_other, going_next, found_all}
use Rattle.file_keeper.proofs.reader.read_journal.Goals as goal

pub loop-init : goal.loop-init
loop-init g c = record {
  going = λ b e. subst (λ (k : Kept). Going b k 0 c.new-window.result.items) (sym c.new-log.ensures) (subst (λ (w : List ℕ). Going b nothing_kept 0 w) (sym c.new-window.ensures.items) (going_start b));
  room = omega (arith, ap length c.new-window.ensures.items);
  same = refl;
  quiet = refl;
}

pub returns-in_err-used-clause-other : goal.returns-in_err-used-clause-other
returns-in_err-used-clause-other g c = λ h b e.
    let p = err_from_is_err_and c.from_residual.result c.from_residual.ensures.1 in
    let q = p.1 in
    let r = p.2 in
    let told : c.from_residual.result ≡ Err Other = h in
    let is : c.in_err-used.field-0.0 ≡ Other = cc in
    going_other b c.loop.log c.loop.at c.loop.window.items (c.loop.invariant.going b (c.loop.invariant.same ∙ e))
    (λ rest bytes. subst (λ (l : List ℕ). replay c.loop.log (l ++ rest) ≡ None) c.deref.ensures.value (c.in_err-used.ensures.other (ap Err is) rest bytes))

pub overflow_sub-end : goal.overflow_sub-end
overflow_sub-end g c =
    let same : length c.deref.result.now ≡ length c.loop.window.items = ap length c.deref.ensures.value in
    omega (arith, c.loop.invariant.room, c.len.ensures, c.deref.ensures.len, same)

pub returns-then-count-eq0-clause-ok : goal.returns-then-count-eq0-clause-ok
returns-then-count-eq0-clause-ok g c = λ b e.
    let here = c.loop.invariant.same ∙ e in
    let used = c.in_ok-used.used in
    let window = c.loop.window.items in
    let next = c.in_ok-window.window.items in
    let within = subst (λ (l : List ℕ). c.in_ok-used.used ≤ length l) c.deref.ensures.value c.in_ok-used.ensures.within in
    let leads = subst (λ (l : List ℕ). Leads c.loop.log (take c.in_ok-used.used l) c.make_all.new.log) c.deref.ensures.value c.in_ok-used.ensures.leads in
    let cut = subst (λ (l : List ℕ). IsCut (drop c.in_ok-used.used l)) c.deref.ensures.value c.in_ok-used.ensures.cut in
    let n = subst (λ (l : List ℕ). IsNext b c.loop.at (drop c.in_ok-used.used l) c.in_ok-window.window.items) c.deref-in-loop.ensures.value
    (subst (λ (l : List ℕ). IsNext b c.loop.at l c.in_ok-window.window.items) (take_rest c.deref-in-loop.result.now c.in_ok-used.used) (c.in_ok-window.ensures.ok b here)) in
    let left : length (drop c.in_ok-used.used c.loop.window.items) ≡ length c.loop.window.items - c.in_ok-used.used = length-drop c.in_ok-used.used c.loop.window.items in
    let same : length c.deref.result.now ≡ length c.loop.window.items = ap length c.deref.ensures.value in
    let none : length c.in_ok-window.window.items - length (drop c.in_ok-used.used c.loop.window.items) ≡ 0 =
    omega (arith, c.if-count-eq0.true, c.len-in-loop.ensures, c.len.ensures, c.deref.ensures.len, left, same) in
    let rest : c.len.result - c.in_ok-used.used ≡ length (drop c.in_ok-used.used c.loop.window.items) = omega (arith, c.len.ensures, c.deref.ensures.len, left, same) in
    subst (λ (k : Kept). IsFound b k (c.loop.at - (c.len.result - c.in_ok-used.used)) (nat_lt 0 (c.len.result - c.in_ok-used.used))) (sym c.into_kept-kept.ensures)
    (found_all b c.loop.log c.make_all.new.log c.loop.at window used next (c.loop.invariant.going b here) within leads cut n none (c.len.result - c.in_ok-used.used) rest (c.loop.at - (c.len.result - c.in_ok-used.used)) refl)

pub loop-preserved : goal.loop-preserved
loop-preserved g c =
    let within = subst (λ (l : List ℕ). c.in_ok-used.used ≤ length l) c.deref.ensures.value c.in_ok-used.ensures.within in
    let leads = subst (λ (l : List ℕ). Leads c.loop.log (take c.in_ok-used.used l) c.make_all.new.log) c.deref.ensures.value c.in_ok-used.ensures.leads in
    let left : length (drop c.in_ok-used.used c.loop.window.items) ≡ length c.loop.window.items - c.in_ok-used.used = length-drop c.in_ok-used.used c.loop.window.items in
    let same : length c.deref.result.now ≡ length c.loop.window.items = ap length c.deref.ensures.value in
    let after : c.in-Some.next ≡ c.loop.at + (length c.in_ok-window.window.items - length (drop c.in_ok-used.used c.loop.window.items)) =
    first_of (omega (arith, c.in-Some.ensures, c.len-in-loop.ensures, c.len.ensures, c.deref.ensures.len, left, same), grind (arith, c.in-Some.ensures, c.len-in-loop.ensures, c.len.ensures, c.deref.ensures.len, left, same)) in
    record {
      going = λ b e.
          let here = sym c.in_ok-window.ensures.same ∙ e in
          going_next b c.loop.log c.make_all.new.log c.loop.at c.loop.window.items c.in_ok-used.used c.in_ok-window.window.items (c.loop.invariant.going b here) within leads
          (subst (λ (l : List ℕ). IsNext b c.loop.at (drop c.in_ok-used.used l) c.in_ok-window.window.items) c.deref-in-loop.ensures.value
          (subst (λ (l : List ℕ). IsNext b c.loop.at l c.in_ok-window.window.items) (take_rest c.deref-in-loop.result.now c.in_ok-used.used) (c.in_ok-window.ensures.ok b here)))
          c.in-Some.next after;
      room = omega (arith, after, left, c.loop.invariant.room);
      same = c.in_ok-window.ensures.same ∙ c.loop.invariant.same;
      quiet = c.in_ok-window.ensures.quiet ∙ c.loop.invariant.quiet;
    }
