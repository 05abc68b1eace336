use Rattle.std.proofs.Common.{◌≡◌, ℕ, ◌<◌, None}
use Rattle.std.specs.Option.{ForSome}
use Rattle.host_keeper.proofs.folder.refuse_surplus.Given as goal

-- none of the servers so far has a file
abbrev pub invariant-loop-server : goal.invariant-loop-server
invariant-loop-server g l = (l.server < 8 → l.servers < l.server) × ForSome (g.F.JournalFiles.files l.files) (λ all. (s : ℕ) → l.servers < s → s < l.server → all l.folder s ≡ None)
