-- What the content of a reply shows.
use Rattle.std.specs.Prelude.{[]}
use Rattle.cluster_rules.specs.Replies.{Content, Shows, Tells, Runs, Renews, Holds, Defers, Says, Blank}
use Rattle.reply_body.specs.Bodies.{plain}
use Rattle.reply_body.specs.Others.{shown_delay, shown_ran, shown_renewal, shown_rows_of_agent}
use Rattle.reply_body.specs.Reads.{shown_read}
use Rattle.reply_body.specs.Refusals.{shown_refusal}
use Rattle.reply_body.specs.Writes.{shown_write}
use Rattle.reply_body.specs.declared.shown.Shown.{Shown}

-- its status, body and form; no lasting reply is blank
abbrev pub shown_content : Content → Shown
shown_content (Shows query raw answer) = shown_read query raw answer
shown_content (Tells command applied) = shown_write command applied
shown_content (Runs ran) = shown_ran ran
shown_content (Renews row) = shown_renewal row
shown_content (Holds body) = shown_rows_of_agent body
shown_content (Defers command key) = shown_delay command key
shown_content (Says why) = shown_refusal why
shown_content Blank = plain 500 []
