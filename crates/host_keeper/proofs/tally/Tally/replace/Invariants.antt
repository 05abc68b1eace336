use Rattle.std.proofs.Common.{◌≡◌, ◌-◌, ◌++◌, List, take}
use Rattle.cat_model.specs.declared.command.Entry.{Entry}
use Rattle.host_keeper.specs.Tallies.{totals_from}
use Rattle.host_keeper.proofs.tally.Tally.replace.Given as goal

-- the first of the entries stand behind what was left
abbrev pub invariant-loop-entry : goal.invariant-loop-entry
invariant-loop-entry l = (log : List Entry) → l.fn.self ≡ totals_from 0 log → l.self ≡ totals_from 0 (take (l.index - 1) log ++ take l.entry-index l.entries)
