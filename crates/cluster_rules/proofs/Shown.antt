-- No reply that lasts shows nothing.
use Rattle.std.proofs.Common.{◌≡◌, ◌≢◌, ℕ, List, Option, Some, None}
use Rattle.cat_model.specs.declared.command.Command.{Command}
use Rattle.cat_model.specs.declared.command.Entry.{Entry}
use Rattle.cat_model.specs.declared.query.Query.{Query}
use Rattle.cat_model.specs.declared.request.Mode.{Mode}
use Rattle.cat_model.specs.declared.request.Asked.{Asked}
use Rattle.cat_model.specs.declared.request.Asked.TheVariants.{Good, Bad}
use Rattle.cat_model.specs.declared.request.Request.TheVariants.{Read, Execute, Write, Renew, Agent}
use Rattle.cat_model.specs.declared.reply.Kind.{Kind}
use Rattle.cat_model.specs.declared.reply.Kind.TheVariants.{Acked, At, Seen, Local, Delayed, Refused}
use Rattle.raft_model.specs.Log.{Log, entry_at}
use Rattle.cluster_rules.specs.Replies.{Question, Blank, entered, shown, shown_entry, shown_write, shown_read, shown_seen, shown_delay}
use Rattle.cluster_rules.specs.Lasting.{IsWrite, IsEntered, IsRead, IsSeen, LastsFor, Lasting}

-- the entry that stands there is shown
entry_shows : (o : Option Entry) (e : Entry) (position : ℕ) (log : Log) → o ≡ Some e → shown_entry o position log ≢ Blank
entry_shows None e position log is = absurd (cc is)
entry_shows (Some n) e position log is = λ p. cc

write_shows : (q : Question) (asked : Asked) (position : ℕ) (log : Log) → IsWrite asked (λ command. IsEntered position q.number (entered q command) log) → shown_write asked position log ≢ Blank
write_shows q (Good (Write command)) position log w = entry_shows (entry_at position log) w.entry position log w.there
write_shows q (Good (Read query mode least wait raw)) position log w = λ e. w
write_shows q (Good (Execute name limit mode)) position log w = λ e. w
write_shows q (Good (Renew id)) position log w = λ e. w
write_shows q (Good (Agent op)) position log w = λ e. w
write_shows q (Bad why) position log w = λ e. w

delay_shows : (q : Question) (asked : Asked) (P : Command → Type 0) (key : List ℕ) → IsWrite asked P → shown_delay q asked key ≢ Blank
delay_shows q (Good (Write command)) P key w e = cc
delay_shows q (Good (Read query mode least wait raw)) P key w e = w
delay_shows q (Good (Execute name limit mode)) P key w e = w
delay_shows q (Good (Renew id)) P key w e = w
delay_shows q (Good (Agent op)) P key w e = w
delay_shows q (Bad why) P key w e = w

read_shows : (asked : Asked) (P : Query → Mode → ℕ → Type 0) (prefix : ℕ) (log : Log) → IsRead asked P → shown_read asked prefix log ≢ Blank
read_shows (Good (Read query mode least wait raw)) P prefix log r e = cc
read_shows (Good (Write command)) P prefix log r e = r
read_shows (Good (Execute name limit mode)) P prefix log r e = r
read_shows (Good (Renew id)) P prefix log r e = r
read_shows (Good (Agent op)) P prefix log r e = r
read_shows (Bad why) P prefix log r e = r

seen_shows : (asked : Asked) (by : Mode) (prefix : ℕ) (log : Log) → IsSeen asked by → shown_seen asked prefix log ≢ Blank
seen_shows (Good (Execute name limit mode)) by prefix log s e = cc
seen_shows (Good (Renew id)) by prefix log s e = cc
seen_shows (Good (Write command)) by prefix log s e = s
seen_shows (Good (Read query mode least wait raw)) by prefix log s e = s
seen_shows (Good (Agent op)) by prefix log s e = s
seen_shows (Bad why) by prefix log s e = s

pub lasting_shows : (q : Question) (kind : Kind) (log : Log) → Lasting q kind log → shown q kind log ≢ Blank
unfolding shown LastsFor
lasting_shows q (Acked position) log l = write_shows q q.asked position log l
lasting_shows q (At mode prefix index clock deadline) log l = read_shows q.asked _ prefix log l
lasting_shows q (Seen mode prefix) log l = seen_shows q.asked mode prefix log l.0
lasting_shows q (Local body) log l = λ e. cc
lasting_shows q (Delayed key until now) log l = delay_shows q q.asked _ key l.0
lasting_shows q (Refused why) log l = λ e. cc
