-- The command bytes of a log, as code counts them.
use Rattle.std.proofs.Common.{◌≡◌, ℕ, ◌+◌, ◌-◌, cond, min, [], ◌∷◌, ◌++◌, length, take, sym, ◌∙◌, ap, arith}
use Rattle.std.specs.Prelude.{◌&&◌, ◌^◌, nat_le, nat_lt}
use Rattle.std.proofs.lemmas.Bool.Decides.{nat_tests}
use Rattle.std.proofs.lemmas.List.{length_push, take_all}
use Rattle.cat_model.specs.LogLimits.{command_bytes, is_noop, keeps_limits, log_bytes}
use Rattle.cat_model.specs.declared.command.Entry.{Entry}
use Rattle.command_codec.specs.Counts.{capped}
use Rattle.raft_model.specs.Log.{Log}
use Rattle.raft_node.specs.Counts.{bytes_of}
use Rattle.raft_node.proofs.Leads.{bytes_push}

pub room_is : (log : Log) (count bytes : ℕ) (e : Entry) → count ≡ bytes_of (take (length log) log) → bytes ≡ capped (cond (is_noop e.command) 0 (command_bytes e.command)) →
    (nat_lt (length log) 262144 && nat_le (count + bytes) 67108864) ≡ keeps_limits (log ++ e ∷ [])
room_is log count bytes e c b =
    let push = bytes_push log e in let n = length_push log e in
    let counted : count ≡ min (log_bytes log) (2 ^ 64 - 1) = c ∙ ap bytes_of (take_all (length log) log (omega arith)) in
    (λ i. entries (length log) (length (log ++ e ∷ [])) n i && limit count (log_bytes log) bytes (cond (is_noop e.command) 0 (command_bytes e.command)) (log_bytes (log ++ e ∷ [])) counted b push i)
  where
    entries : (a c : ℕ) → c ≡ a + 1 → nat_lt a 262144 ≡ nat_le c 262144
    entries a c e = grind (arith, nat_tests, e)

    limit : (a c b m d : ℕ) → a ≡ min c (2 ^ 64 - 1) → b ≡ min m (2 ^ 64 - 1) → d ≡ c + m → nat_le (a + b) 67108864 ≡ nat_le d 67108864
    limit a c b m d e f g = grind (arith, nat_tests, e, f, g)
