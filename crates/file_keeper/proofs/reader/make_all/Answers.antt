use Rattle.std.proofs.Common.{rules, arith, ap, sym, subst, ◌∙◌, ◌+◌, ◌≤◌, ℕ, List, length, Ok, Err}
use Rattle.std.proofs.lemmas.List.{take_rest}
use Rattle.store_records.specs.RecordReading.{Begins, IsCut, IsWrong}
use Rattle.std.proofs.lemmas.Grind.{common_steps}
use Rattle.command_codec.proofs.Grammar.{IsBytes}
use Rattle.file_keeper.proofs.Replaying.{leads_none}
use Rattle.file_keeper.proofs.Finding.{bytes_by, size_fits, leads_more, refused, wrong}
use Rattle.file_keeper.proofs.reader.make_all.Goals as goal

pub records-init : goal.records-init
records-init c = record { within = omega arith; leads = leads_none c.args.log.now }

pub returns-then-not-branch-clause-other : goal.returns-then-not-branch-clause-other
returns-then-not-branch-clause-other c =
    let bytes : IsBytes c.args.bytes.now = bytes_by c.args.bytes.now (λ i. omega (arith, c.type_inv.bytes i)) in
    λ h. refused c.args.log.now c.records.log c.records.used c.in-Ok.size c.args.bytes.now c.in-Ok.call bytes c.records.invariant.leads (subst (λ (l : List ℕ). Begins c.in-Ok.call c.in-Ok.size l) (take_rest c.args.bytes.now c.records.used) c.in-Ok.ensures.ok) (sym c.in_ok-make-in-Ok.ensures.may ∙ c.if-not-branch.true)

pub overflow_add-used : goal.overflow_add-used
overflow_add-used c =
    let f = size_fits c.records.used c.in-Ok.size c.args.bytes.now c.in-Ok.call c.records.invariant.within (subst (λ (l : List ℕ). Begins c.in-Ok.call c.in-Ok.size l) (take_rest c.args.bytes.now c.records.used) c.in-Ok.ensures.ok) in
    let fits : c.records.used + c.in-Ok.size ≤ length c.args.bytes.now = f.1 in
    first_of (search rules, grind (arith, common_steps, fits))

pub records-smaller : goal.records-smaller
records-smaller c =
    let f = size_fits c.records.used c.in-Ok.size c.args.bytes.now c.in-Ok.call c.records.invariant.within (subst (λ (l : List ℕ). Begins c.in-Ok.call c.in-Ok.size l) (take_rest c.args.bytes.now c.records.used) c.in-Ok.ensures.ok) in
    let long : 3 ≤ c.in-Ok.size = f.0 in
    let fits : c.records.used + c.in-Ok.size ≤ length c.args.bytes.now = f.1 in
    omega arith

pub records-preserved : goal.records-preserved
records-preserved c =
    let bytes : IsBytes c.args.bytes.now = bytes_by c.args.bytes.now (λ i. omega (arith, c.type_inv.bytes i)) in
    let f = size_fits c.records.used c.in-Ok.size c.args.bytes.now c.in-Ok.call c.records.invariant.within (subst (λ (l : List ℕ). Begins c.in-Ok.call c.in-Ok.size l) (take_rest c.args.bytes.now c.records.used) c.in-Ok.ensures.ok) in
    record {
      within = f.1;
      leads = rw (c.in_ok-make-in-Ok.ensures.made (ap Ok c.if-not-branch.false))
          (leads_more c.args.log.now c.records.log c.records.used c.in-Ok.size c.args.bytes.now c.in-Ok.call bytes c.records.invariant.within c.records.invariant.leads (subst (λ (l : List ℕ). Begins c.in-Ok.call c.in-Ok.size l) (take_rest c.args.bytes.now c.records.used) c.in-Ok.ensures.ok)
          (sym c.in_ok-make-in-Ok.ensures.may ∙ c.if-not-branch.false));
    }

pub returns-in-Err-Cut-clause-cut : goal.returns-in-Err-Cut-clause-cut
returns-in-Err-Cut-clause-cut c = subst IsCut (take_rest c.args.bytes.now c.records.used) (c.in-Err-Cut.ensures.cut (ap Err c.in-Err-Cut.field-0-is))

pub returns-in-Err-Bad-clause-other : goal.returns-in-Err-Bad-clause-other
returns-in-Err-Bad-clause-other c =
    let bytes : IsBytes c.args.bytes.now = bytes_by c.args.bytes.now (λ i. omega (arith, c.type_inv.bytes i)) in
    λ h. wrong c.args.log.now c.records.log c.records.used c.args.bytes.now bytes c.records.invariant.leads (subst IsWrong (take_rest c.args.bytes.now c.records.used) (c.in-Err-Bad.ensures.bad c.in-Err-Bad._at (ap Err c.in-Err-Bad.field-0-is)))
