-- What the reads of a run find.
use Rattle.std.specs.Prelude.{ℕ, Bool, true, false, ◌&&◌, ◌==◌, if◌then◌else◌, List, [], ◌∷◌}
use Rattle.cluster_rules.specs.Replies as rules
use Rattle.reply_body.specs.Written.{written}

-- a reply shows what a query answers
abbrev pub shows_answer : rules.Content → Bool
shows_answer (rules.Shows query raw answer) = true
shows_answer other = false

-- it is a read's and has status 200: what is asked for is there
abbrev pub is_found : rules.Reply → Bool
is_found reply = shows_answer reply.content && (written reply).status == 200

-- the number of a request that found something
abbrev pub found_in : rules.Out → List ℕ
found_in (rules.Replied reply) = if is_found reply then reply.number ∷ [] else []
found_in (rules.Closed number event) = []
found_in (rules.Synced agent count) = []
