use Rattle.std.proofs.Common.{◌≡◌, ◌≤◌, length}
use Rattle.std.specs.Option.{ForSome}
use Rattle.file_keeper.proofs.Finding.{Going}
use Rattle.file_keeper.proofs.reader.read_journal.Given as goal

abbrev pub invariant-loop : goal.invariant-loop
invariant-loop g l = record {
  going : ForSome (g.J.Journal.bytes l.journal) (λ bytes. Going bytes l.log l.at l.window.items);
  room : length l.window.items ≤ l.at;
  same : g.J.Journal.bytes l.journal ≡ g.J.Journal.bytes l.fn.journal;
  quiet : g.J.Journal.faults l.journal ≡ g.J.Journal.faults l.fn.journal;
}
