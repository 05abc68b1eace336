use Rattle.std.proofs.Common.{◌≡◌, ℕ, ◌<◌, ◌≤◌, []}
use Rattle.std.specs.Option.{ForSome}
use Rattle.host_keeper.specs.Folders.{bytes_in}
use Rattle.host_keeper.proofs.folder.has_any_kept.Given as goal

-- none of the servers so far has kept anything
abbrev pub invariant-loop-server : goal.invariant-loop-server
invariant-loop-server g l = (1 ≤ l.server) × ForSome (g.F.JournalFiles.files l.files) (λ all. (s : ℕ) → 1 ≤ s → s < l.server → bytes_in (all l.folder s) ≡ [])
