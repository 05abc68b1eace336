-- What stands in a folder with the journals of servers, and which servers may begin there.
use Rattle.std.specs.Prelude.{◌≡◌, ◌≢◌, ℕ, zero, suc, ◌<◌, ◌≤◌, Bool, true, false, List, [], Option, None, Some, ⊤}
use Rattle.std.specs.List.{slice_get}
use Rattle.host_keeper.specs.declared.faults.Fault.{Fault}
use Rattle.host_keeper.specs.declared.faults.Fault.TheVariants.{Unopened, Taken, Missing, Surplus, Unread, Foreign}
use Rattle.host_keeper.specs.declared.faults.Refusal.{Refusal}

-- the bytes in the file of each server, and none where it is not there
abbrev pub Files : Type 0
Files = ℕ → Option (List ℕ)

-- what a journal in this file begins with
abbrev pub bytes_in : Option (List ℕ) → List ℕ
bytes_in None = []
bytes_in (Some bytes) = bytes

-- the file of each server, where these are those of the servers from 1 on
abbrev pub file_of : List (List ℕ) → Files
file_of files zero = None
file_of files (suc n) = slice_get files n

-- no server above these has a file
abbrev pub IsWithin : ℕ → Files → Type 0
IsWithin servers files = (s : ℕ) → servers < s → s ≤ 7 → files s ≡ None

-- some server has kept something
pub record HasAnyKept (files : Files) : Type 0 where
  pub server : ℕ
  pub from : 1 ≤ server
  pub to : server ≤ 7
  pub some : bytes_in (files server) ≢ []

-- no server has
abbrev pub HasNothingKept : Files → Type 0
HasNothingKept files = (s : ℕ) → 1 ≤ s → s ≤ 7 → bytes_in (files s) ≡ []

-- the answers to three questions: whether a file is there, whether it has bytes, and whether any server kept something
abbrev pub IsThere : Bool → Option (List ℕ) → Type 0
IsThere true file = file ≢ None
IsThere false file = file ≡ None

abbrev pub HasBytes : Bool → Option (List ℕ) → Type 0
HasBytes true file = bytes_in file ≢ []
HasBytes false file = bytes_in file ≡ []

abbrev pub IsKept : Bool → Files → Type 0
IsKept true files = HasAnyKept files
IsKept false files = HasNothingKept files

-- The folder fits this server, one of so many: no other has a file, and its own is there if anything was kept.
pub record Fits (files : Files) (server servers : ℕ) : Type 0 where
  pub within : IsWithin servers files
  pub there : files server ≡ None → HasNothingKept files

-- the fault is there at the file of this server
abbrev pub IsFault : Files → ℕ → ℕ → Fault → Type 0
IsFault files servers server (Unopened e) = ⊤
IsFault files servers server Taken = ⊤
IsFault files servers server Missing = (files server ≡ None) × HasAnyKept files
IsFault files servers server Surplus = (servers < server) × (server ≤ 7) × (files server ≢ None)
IsFault files servers server Unread = ⊥
IsFault files servers server (Foreign at) = ⊥

-- why a folder with these files is refused to so many servers
abbrev pub HasReason : Files → ℕ → Refusal → Type 0
HasReason files servers refusal = IsFault files servers refusal.server refusal.fault

-- the first of two that is there
abbrev pub first_of : Option Refusal → Option Refusal → Option Refusal
first_of None later = later
first_of (Some first) later = Some first

-- the first refusal is told: an earlier one, or one with a reason
pub record Tells (files : Files) (servers : ℕ) (before after : Option Refusal) : Type 0 where
  pub refusal : Refusal
  pub reason : HasReason files servers refusal
  pub is : after ≡ first_of before (Some refusal)
