-- What is known of a request that is taken.
use Rattle.std.proofs.Common.{◌≡◌, ℕ, true, false, List, Some, refl}
use Rattle.cat_model.specs.declared.command.Command.{Command}
use Rattle.cat_model.specs.declared.command.Command.TheVariants.{Noop, KvLock, Txn, QuerySet}
use Rattle.cat_model.specs.LogLimits.{is_noop}
use Rattle.cat_model.specs.Taken.{is_command_taken}
use Rattle.cluster_rules.specs.Locks.{delayed}
use Rattle.cluster_rules.specs.Replies.{Question, entered}

-- A write that is taken has a size as it is entered.
pub is_counted : (q : Question) (command : Command) → is_command_taken command ≡ true → is_noop (entered q command) ≡ false
unfolding entered
is_counted q Noop p = absurd (cc p)
is_counted q (QuerySet id true name session service only_passing tags dns_ttl_ms) p = refl
is_counted q (QuerySet id false name session service only_passing tags dns_ttl_ms) p = refl
is_counted q other p = refl

-- a write that a lock delay refuses would be entered as it is asked for
pub delayed_as_asked : (q : Question) (until : List ℕ → ℕ) (now : ℕ) (command : Command) (key : List ℕ) → delayed until now command ≡ Some key → entered q command ≡ command
unfolding entered
delayed_as_asked q until now (KvLock k flags value session) key e = refl
delayed_as_asked q until now (Txn ops) key e = refl
delayed_as_asked q until now other key e = absurd (cc e)
