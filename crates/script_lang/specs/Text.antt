-- The text that a script's run writes.
use Rattle.std.specs.Prelude.{ℕ, ◌/◌, ◌%◌, ◌==◌, nat_le, ◌&&◌, if◌then◌else◌, false, List, [], ◌∷◌, ◌++◌, length, Option, None, Some, codes}
use Rattle.std.specs.List.{flat_map}
use Rattle.std.specs.Fmt.{decimal, digit_glyph}
use Rattle.cat_model.specs.declared.reply.Reply.{Reply}
use Rattle.cat_model.specs.declared.reply.Out as out
use Rattle.script_lang.specs.declared.bad_line.BadLine.{BadLine}
use Rattle.script_lang.specs.declared.bad_line.BadLine.TheVariants.{ExpectedCluster, UnknownLine, BadNumber, BadRequestLine, NoSuchServer, NoSuchAgent, NoSuchMessage, ClockTooFar, Memory}

-- why a line is refused
abbrev pub reason_text : BadLine → List ℕ
reason_text ExpectedCluster = codes "expected cluster"
reason_text UnknownLine = codes "unknown line"
reason_text BadNumber = codes "bad number"
reason_text BadRequestLine = codes "bad request line"
reason_text NoSuchServer = codes "no such server"
reason_text NoSuchAgent = codes "no such agent"
reason_text NoSuchMessage = codes "no such message"
reason_text ClockTooFar = codes "clock too far"
reason_text Memory = codes "out of memory"

-- the line that says which line is refused, and why
abbrev pub refused_text : ℕ → BadLine → List ℕ
refused_text line reason = codes "line " ++ decimal line ++ codes ": " ++ reason_text reason ++ codes "\n"

-- a byte of a body: printable ones as they are, but a backslash doubled; any other in two hex digits
abbrev pub escaped : ℕ → List ℕ
escaped b =
    if b == 92 then 92 ∷ 92 ∷ []
    else if nat_le 32 b && nat_le b 126 then b ∷ []
    else 92 ∷ 120 ∷ digit_glyph false (b / 16) ∷ digit_glyph false (b % 16) ∷ []

abbrev pub index_text : Option ℕ → List ℕ
index_text None = codes "-"
index_text (Some index) = decimal index

-- a body stands after a space, and an empty one leaves the line ended
abbrev pub body_text : List ℕ → List ℕ
body_text [] = []
body_text (b ∷ bs) = 32 ∷ flat_map escaped (b ∷ bs)

abbrev pub reply_text : Reply → List ℕ
reply_text reply =
    codes "#" ++ decimal reply.number ++ codes " " ++ decimal reply.status ++ codes " "
    ++ index_text reply.index ++ body_text reply.body ++ codes "\n"

-- a request that was closed, and a sync of an agent
abbrev pub closed_text : ℕ → List ℕ
closed_text number = codes "#" ++ decimal number ++ codes " closed\n"

abbrev pub count_text : Option ℕ → List ℕ
count_text None = codes "no leader"
count_text (Some count) = decimal count

abbrev pub synced_text : ℕ → Option ℕ → List ℕ
synced_text agent count = codes "sync " ++ decimal agent ++ codes " " ++ count_text count ++ codes "\n"

abbrev pub out_text : out.Out → List ℕ
out_text (out.TheVariants.Reply reply) = reply_text reply
out_text (out.TheVariants.Closed number event) = closed_text number
out_text (out.TheVariants.Synced agent count) = synced_text agent count

-- the last line of a whole run: the length of the agreed log, and the requests that have no reply
abbrev pub end_text : ℕ → List ℕ → List ℕ
end_text log unanswered =
    codes "end log " ++ decimal log ++ codes " open " ++ decimal (length unanswered)
    ++ flat_map (λ number. 32 ∷ decimal number) unanswered ++ codes "\n"
