-- What a journal stands for keeps the limits of a log.
use Rattle.std.proofs.Common.{◌≡◌, ℕ, zero, suc, ◌+◌, nat_le, cond, Bool, true, false, List, length, refl, subst, Option, Some, None, Ok, Err}
use Rattle.std.specs.Prelude.{◌&&◌}
use Rattle.cat_model.specs.declared.kept.Kept.{Kept}
use Rattle.cat_model.specs.Keeping.{nothing_kept, with_entries}
use Rattle.cat_model.specs.LogLimits.{keeps_limits}
use Rattle.command_codec.specs.declared.fault.Fault.TheVariants.{Cut, Bad}
use Rattle.command_codec.specs.Reading.{Read}
use Rattle.store_records.specs.declared.records.Record.{Record}
use Rattle.store_records.specs.declared.records.Record.TheVariants.{Vote, Store}
use Rattle.store_records.specs.RecordReading.{record_at}
use Rattle.file_keeper.specs.Journal.{may_make, made, replays, replay_in, replay, kept_of}

last_true : (a b c : Bool) → (a && (b && c)) ≡ true → c ≡ true
last_true true true c h = h
last_true true false c h = cc
last_true false b c h = cc

made_keeps : (r : Record) (k : Kept) → may_make r k ≡ true → keeps_limits k.log ≡ true → keeps_limits (made r k).log ≡ true
made_keeps (Vote term vote) k may keeps = keeps
made_keeps (Store index entries) k may keeps =
    last_true (nat_le 1 index) (nat_le index (length k.log + 1)) (keeps_limits (with_entries index entries k).log) may

abbrev Keeps : (Kept → List ℕ → Option Kept) → Type 0
Keeps next = (k : Kept) (t : List ℕ) (kept : Kept) → keeps_limits k.log ≡ true → next k t ≡ Some kept → keeps_limits kept.log ≡ true

after_test : (next : Kept → List ℕ → Option Kept) → Keeps next → (k : Kept) (r : Record) (t : List ℕ) (kept : Kept) → keeps_limits k.log ≡ true
    → (may : Bool) → may_make r k ≡ may → cond may (next (made r k) t) None ≡ Some kept → keeps_limits kept.log ≡ true
after_test next ih k r t kept keeps true m e = ih (made r k) t kept (made_keeps r k m keeps) e
after_test next ih k r t kept keeps false m e = cc

after_read : (next : Kept → List ℕ → Option Kept) → Keeps next → (k : Kept) (kept : Kept) → keeps_limits k.log ≡ true → (out : Read Record) → replays next k out ≡ Some kept → keeps_limits kept.log ≡ true
after_read next ih k kept keeps (Ok x) e = after_test next ih k x.0 x.1 kept keeps (may_make x.0 k) refl e
after_read next ih k kept keeps (Err Cut) e = let same : k ≡ kept = cc in subst (λ (s : Kept). keeps_limits s.log ≡ true) same keeps
after_read next ih k kept keeps (Err (Bad left)) e = cc

limits_in : (n : ℕ) → Keeps (replay_in n)
unfolding replay_in
limits_in zero k t kept keeps e = cc
limits_in (suc n) k t kept keeps e = after_read (replay_in n) (limits_in n) k kept keeps (record_at t) e

pub limits_of : (bytes : List ℕ) (kept : Kept) → kept_of bytes ≡ Some kept → keeps_limits kept.log ≡ true
unfolding replay
limits_of bytes kept e = limits_in (suc (length bytes)) nothing_kept bytes kept refl e
