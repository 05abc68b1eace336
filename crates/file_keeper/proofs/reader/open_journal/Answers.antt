use Rattle.std.proofs.Common.{◌∙◌, ap, sym, subst, Bool, take, inl, inr}
use Rattle.std.specs.Option.{ForSome, option_map}
use Rattle.file_keeper.specs.Journal.{IsFound, held_by}
use Rattle.file_keeper.proofs.Putting.{whole_cut, whole_same, told_cut, after_err, after_ok}
use Rattle.file_keeper.proofs.reader.open_journal.Goals.{else-found-via-then-found+else-is_err, else-found-via-else-found}
use Rattle.file_keeper.proofs.reader.open_journal.Goals as goal

pub returns-then-is_err-clause-told : goal.returns-then-is_err-clause-told
returns-then-is_err-clause-told g c =
    let o = g.J.Journal.bytes c.args.journal.now in
    let n = g.J.Journal.bytes c.cut.new.self in
    let same = c.in_ok-found.ensures.same in
    elim (after_err _ c.cut.result (sym c.is_err.ensures.value ∙ c.if-is_err.true) c.cut.ensures.bytes.failed) [
      | inl h ↦ ap held_by (h ∙ same)
      | inr h ↦ told_cut o n c.in_ok-found.found.kept c.in_ok-found.found.end c.in_ok-found.found.tail c.in_ok-found.ensures.ok (h ∙ ap (option_map (take c.in_ok-found.found.end)) same)
    ]

pub returns-clause-ok : goal.returns-clause-ok
returns-clause-ok g c = λ b e. (c.in_ok-found.ensures.ok b e).all

pub returns-clause-whole : goal.returns-clause-whole
returns-clause-whole g c =
    let o = g.J.Journal.bytes c.args.journal.now in
    let same = c.in_ok-found.ensures.same in
    elim c.else-found.branch [
      | else-found-via-then-found+else-is_err w ↦ rw w.journal-is (whole_cut o (g.J.Journal.bytes w.cut.new.self) c.in_ok-found.found.kept c.in_ok-found.found.end c.in_ok-found.found.tail c.in_ok-found.ensures.ok
          (after_ok _ w.cut.result (sym w.is_err.ensures.value ∙ w.if-is_err.false) w.cut.ensures.bytes.ok ∙ ap (option_map (take c.in_ok-found.found.end)) same))
      | else-found-via-else-found w ↦ rw (w.journal-is, same) (whole_same o c.in_ok-found.found.kept c.in_ok-found.found.end
          (subst (λ (t : Bool). ForSome o (λ b. IsFound b c.in_ok-found.found.kept c.in_ok-found.found.end t)) w.if-found.false c.in_ok-found.ensures.ok))
    ]

pub returns-clause-told : goal.returns-clause-told
returns-clause-told g c =
    let o = g.J.Journal.bytes c.args.journal.now in
    let same = c.in_ok-found.ensures.same in
    elim c.else-found.branch [
      | else-found-via-then-found+else-is_err w ↦ rw w.journal-is (told_cut o (g.J.Journal.bytes w.cut.new.self) c.in_ok-found.found.kept c.in_ok-found.found.end c.in_ok-found.found.tail c.in_ok-found.ensures.ok
          (after_ok _ w.cut.result (sym w.is_err.ensures.value ∙ w.if-is_err.false) w.cut.ensures.bytes.ok ∙ ap (option_map (take c.in_ok-found.found.end)) same))
      | else-found-via-else-found w ↦ rw w.journal-is (ap held_by same)
    ]

pub returns-then-is_err-clause-left : goal.returns-then-is_err-clause-left
returns-then-is_err-clause-left g c = λ b e none. absurd (let all = (c.in_ok-found.ensures.ok b e).all in cc)

pub returns-clause-left : goal.returns-clause-left
returns-clause-left g c = λ b e none. absurd (let all = (c.in_ok-found.ensures.ok b e).all in cc)
