-- What a server notes agrees with lock delays and with the TTLs of its sessions: what a greatest end for each key, and a
-- timer for each pending session, would be set to, and when.
use Rattle.std.specs.Prelude.{◌≡◌, ◌≢◌, ℕ, suc, ◌+◌, ◌≤◌, true, false, List, [], ◌∷◌, ◌++◌, length, Some}
use Rattle.std.specs.List.{AllByRecursion as Each}
use Rattle.std.proofs.Common.{max}
use Rattle.cat_model.specs.Delays.{Start as Renewal, freed_until}
use Rattle.cat_model.specs.Machine.{catalog_at, freed}
use Rattle.cat_model.specs.declared.row.SessionRow.{SessionRow}
use Rattle.cat_model.specs.declared.command.Command.{Command}
use Rattle.cluster_rules.specs.Offices.{Office, delay_over, office_from, ttl_from, is_pending, ended_too, renew_in}

-- Nothing that was noted, the clock of an applied position, of taking office or of a renewal, lies ahead of the clock.
pub record IsTimely (now : ℕ) (clocks : List ℕ) (o : Office) : Type 0 where
  pub positions : Each (λ k. k ≤ now) clocks
  pub since : o.since ≤ now
  pub renewals : Each (λ (r : Renewal). r.clock ≤ now) o.renewals

-- Then a session's TTL begins anew, and is pending, where the server takes office, applies the creation, or renews the
-- session; nothing else moves it. It is pending no longer once its end is proposed.
pub record TtlLaw (now : ℕ) (clocks : List ℕ) (o : Office) (row : SessionRow) : Type 0 where
  pub office : ttl_from clocks (office_from now) row ≡ now
  pub created : row.create ≡ suc (length clocks) → ttl_from (clocks ++ now ∷ []) o row ≡ now
  pub renewed : ttl_from clocks (renew_in (Some row) now o) row ≡ now
  pub again : row.ttl_ms ≢ 0 → is_pending (renew_in (Some row) now o) row ≡ true
  pub applied : row.create ≢ 0 → row.create ≤ length clocks → ttl_from (clocks ++ now ∷ []) o row ≡ ttl_from clocks o row
  pub others : (other : SessionRow) → other.id ≢ row.id → ttl_from clocks (renew_in (Some other) now o) row ≡ ttl_from clocks o row
  pub proposed : is_pending (ended_too (row ∷ []) o) row ≡ false

-- A key's lock delay is over at the start, and goes on with each applied position to the greatest end among the keys that
-- the position frees, if that is later. Nothing else moves it.
pub record DelayLaw (commands : List Command) (clocks : List ℕ) (key : List ℕ) : Type 0 where
  pub begun : delay_over [] [] key ≡ 0
  pub applied : (command : Command) (now : ℕ) → delay_over (commands ++ command ∷ []) (clocks ++ now ∷ []) key ≡ max (freed_until key now (freed (length commands + 1) command (catalog_at commands))) (delay_over commands clocks key)
