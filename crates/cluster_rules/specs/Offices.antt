-- What a server decides by its own clock: when a key's lock delay is over, and in office when a session's time is over
-- and when removed keys are to be reaped.
-- Consul, Sessions: "Session Design" (lock-delay; the TTL, after which a session may be invalidated, at the latest after twice the TTL).
use Rattle.std.specs.Prelude.{ℕ, ◌+◌, ◌-◌, ◌==◌, nat_le, not, ◌&&◌, ◌||◌, Bool, false, if◌then◌else◌, List, [], ◌∷◌, ◌++◌, filter, get_or, is_some, map, reverse, Option, Some, None}
use Rattle.std.specs.List.{list_any}
use Rattle.std.specs.Ordering.{nat_cmp}
use Rattle.std.proofs.Common.{max}
use Rattle.cat_model.specs.Catalog.{kv_at}
use Rattle.cat_model.specs.Delays.{Timed, Start as Renewal, delay_until, ttl_start, ttl_end}
use Rattle.cat_model.specs.Indexes.{is_reap}
use Rattle.cat_model.specs.Machine.{at_past, catalog_at}
use Rattle.cat_model.specs.Tables.{put}
use Rattle.cat_model.specs.declared.command.Command.{Command}
use Rattle.cat_model.specs.declared.row.SessionRow.{SessionRow}

-- A server's time in office: since when, by its clock; of each session the last renewal in it, in the order of their IDs;
-- the positions at which those sessions were made whose end it proposed and that were not renewed since, the last one
-- first; and when it looks next for what is to be reaped. It is read only where the server leads.
pub record Office : Type 0 where
  pub since : ℕ
  pub renewals : List Renewal
  pub ended : List ℕ
  pub reap : ℕ

abbrev pub no_office : Office
no_office = record { since = 0; renewals = []; ended = []; reap = 0 }

-- how long after a look for what is to be reaped the next one comes
abbrev pub reap_pause : ℕ
reap_pause = 900000

abbrev pub office_from : ℕ → Office
office_from now = record { since = now; renewals = []; ended = []; reap = now + reap_pause }

-- Lock delays: the commands that were applied, each with the server's clock then.
abbrev pub timed : List Command → List ℕ → List Timed
timed [] clocks = []
timed (command ∷ commands) [] = []
timed (command ∷ commands) (k ∷ clocks) = record { command = command; clock = k } ∷ timed commands clocks

-- the clock at which the key's lock delay is over, at a server that applied these commands at these clocks
abbrev pub delay_over : List Command → List ℕ → List ℕ → ℕ
delay_over commands clocks key = delay_until key (timed commands clocks)

-- TTLs: when a session began to live anew in office, which is the latest of when the server took office, applied the
-- session's creation, and renewed it.
abbrev pub applied_at : List ℕ → ℕ → ℕ
applied_at clocks position = get_or clocks (position - 1) 0

abbrev pub ttl_from : List ℕ → Office → SessionRow → ℕ
ttl_from clocks o s = max (applied_at clocks s.create) (ttl_start s.id o.since o.renewals)

-- when its time is over
abbrev pub over_at : List ℕ → Office → SessionRow → ℕ
over_at clocks o s = ttl_end (ttl_from clocks o s) s.ttl_ms

-- it has a TTL, and its end is not proposed yet
abbrev pub is_pending : Office → SessionRow → Bool
is_pending o s = not (s.ttl_ms == 0) && not (list_any (λ p. p == s.create) o.ended)

abbrev pub is_over : List ℕ → Office → ℕ → SessionRow → Bool
is_over clocks o now s = is_pending o s && nat_le (over_at clocks o s) now

-- in ascending order of a number; equal ones stay in their order
abbrev pub put_by : {A : Type 0} → (A → ℕ) → A → List A → List A
put_by f x [] = x ∷ []
put_by f x (y ∷ ys) = if nat_le (f x) (f y) then x ∷ y ∷ ys else y ∷ put_by f x ys

abbrev pub sorted_by : {A : Type 0} → (A → ℕ) → List A → List A
sorted_by f [] = []
sorted_by f (x ∷ xs) = put_by f x (sorted_by f xs)

-- the sessions that are over, by when they were and then by ID
abbrev pub over_now : List Command → List ℕ → Office → ℕ → List SessionRow
over_now commands clocks o now = sorted_by (over_at clocks o) (filter (is_over clocks o now) (catalog_at commands).sessions)

-- their ends are proposed
abbrev pub ended_too : List SessionRow → Office → Office
ended_too rows o = record o { ended = reverse (map (λ (s : SessionRow). s.create) rows) ++ o.ended }

abbrev pub renewal_id : Renewal → ℕ
renewal_id r = r.session

-- a session lives anew, and its end is to be proposed again
abbrev pub renew_in : Option SessionRow → ℕ → Office → Office
renew_in None now o = o
renew_in (Some s) now o = record o { renewals = put nat_cmp renewal_id (record { session = s.id; clock = now }) o.renewals; ended = filter (λ p. not (p == s.create)) o.ended }

-- Reaps: the command removes a key.
abbrev pub removes : Command → List Command → Bool
removes command past = list_any (λ r. not (is_some (kv_at r.key (at_past (command ∷ past)).kv))) (at_past past).kv

-- a key was removed after the last reap; the last command is the first
abbrev pub removed_since : List Command → Bool
removed_since [] = false
removed_since (command ∷ past) = if is_reap command then false else removes command past || removed_since past

abbrev pub has_removed : List Command → Bool
has_removed commands = removed_since (reverse commands)

-- the next look is due, and moves on
abbrev pub looks_on : ℕ → Office → Office
looks_on now o = if nat_le o.reap now then record o { reap = now + reap_pause } else o
