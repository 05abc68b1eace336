use Rattle.std.proofs.lemmas.Result.{on_ok_weaker}
use Rattle.index_list.specs.declared.family.Family.TheVariants.{First, Second}
use Rattle.read_watch.specs.Hits.{FamilyNoted}
use Rattle.read_watch.proofs.Hits.{family_still}
use Rattle.read_watch.proofs.hit.note_list.Goals as goal

pub returns-clause-noted : goal.returns-clause-noted
returns-clause-noted c =
    on_ok_weaker c.note_family-2.result
    (λ (second : FamilyNoted Second c.args.list.now c.args.waiters.now.entries c.args.fired.now c.args.number c.note_family-2.new.found.keys). record {
      first = family_still First c.args.list.now c.args.waiters.now.entries c.args.fired.now c.args.number c.note_family.new.found.keys c.note_family-2.new.found.keys c.note_family-2.ensures.keeps c.in_ok-note_family.ensures.noted;
      second = second;
    })
    c.note_family-2.ensures.noted
