-- What a connection tells, and what its calls do to that.
use Rattle.std.specs.Prelude.{◌≡◌, ℕ, ◌≤◌, Bool, false, true, List, [], ◌∷◌, ◌++◌, length, take, Option, Result, MatchResult}
use Rattle.std.specs.Option.{ForSome}
use Rattle.std.specs.Io.{ReadsAtMost, WritesAtMost}
use Rattle.std.specs.Io.KnownBytes.{append_known}
use Rattle.outside.specs.Causes.{Rose, HasCause, WriteHasCause, CountsEnd}
use Rattle.outside.specs.declared.faults.Failed.{Failed}
use Rattle.outside.specs.declared.faults.KeepFail.{KeepFail}

-- What a connection tells: its number, the bytes read from it and written to it where it tells them, for each read what had
-- been read and written before it, the last read first, how often a read found the end, how many reads and writes failed, and
-- whether it is shut. That its client has gone while a request waited counts as a read that failed.
pub record LinkState : Type 0 where
  pub number : ℕ
  pub heard : Option (List ℕ)
  pub said : Option (List ℕ)
  pub reads : List (Option (List ℕ) × Option (List ℕ))
  pub ends : ℕ
  pub read_faults : ℕ
  pub write_faults : ℕ
  pub shut : Bool

-- the n-th connection, of which nothing was read and to which nothing was written
pub record IsNew (n : ℕ) (link : LinkState) : Type 0 where
  pub number : link.number ≡ n
  pub nothing_heard : ForSome link.heard (λ bytes. bytes ≡ [])
  pub nothing_said : ForSome link.said (λ bytes. bytes ≡ [])
  pub unread : link.reads ≡ []
  pub no_ends : link.ends ≡ 0
  pub no_read_faults : link.read_faults ≡ 0
  pub no_write_faults : link.write_faults ≡ 0
  pub open_yet : link.shut ≡ false

-- a read put the next bytes into the front of a buffer, and failed only where its faults are one more
pub record Reads (old : LinkState) (into : List ℕ) (result : Result ℕ Failed) (new : LinkState) : Type 0 where
  pub bound : ReadsAtMost result into
  pub heard : MatchResult result (λ count. new.heard ≡ append_known old.heard (take count into)) (λ _. new.heard ≡ old.heard)
  pub reads : new.reads ≡ (old.heard, old.said) ∷ old.reads
  pub at_end : CountsEnd old.ends new.ends result (length into)
  pub cause : HasCause old.read_faults new.read_faults result
  pub number : new.number ≡ old.number
  pub said : new.said ≡ old.said
  pub write_faults : new.write_faults ≡ old.write_faults
  pub shut : new.shut ≡ old.shut

-- a write took the first bytes of a piece, and failed or took none of them only where its faults are one more
pub record Writes (old : LinkState) (piece : List ℕ) (result : Result ℕ KeepFail) (new : LinkState) : Type 0 where
  pub bound : WritesAtMost result piece
  pub said : MatchResult result (λ count. new.said ≡ append_known old.said (take count piece)) (λ _. new.said ≡ old.said)
  pub cause : WriteHasCause old.write_faults new.write_faults result (length piece)
  pub number : new.number ≡ old.number
  pub heard : new.heard ≡ old.heard
  pub reads : new.reads ≡ old.reads
  pub ends : new.ends ≡ old.ends
  pub read_faults : new.read_faults ≡ old.read_faults
  pub shut : new.shut ≡ old.shut

-- a look whether the client has gone: that counts as a failed read, and else nothing changes
pub record Leaves (old : LinkState) (gone : Bool) (new : LinkState) : Type 0 where
  pub still : gone ≡ false → new ≡ old
  pub counted : gone ≡ true → Rose old.read_faults new.read_faults
  pub later : old.read_faults ≤ new.read_faults
  pub rest : new ≡ record old { read_faults = new.read_faults }

-- the connection is shut, and nothing else has changed
abbrev pub Shuts : LinkState → LinkState → Type 0
Shuts old new = new ≡ record old { shut = true }

-- of these bytes a first part was written
pub record Part (old new : LinkState) (whole : List ℕ) : Type 0 where
  pub part : List ℕ
  pub rest : List ℕ
  pub whole_is : whole ≡ part ++ rest
  pub written : new.said ≡ append_known old.said part
