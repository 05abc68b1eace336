-- The process of a node, and what it does with a frame that came in.
use Rattle.std.specs.Prelude.{◌≡◌, ℕ, Bool, false, Option, Result, Ok, Err}
use Rattle.cat_model.specs.declared.memory.Memory.{Memory}
use Rattle.node_link.specs.Hosts.{Hosted}
use Rattle.peer_frames.specs.declared.frame.Frame.{Frame}
use Rattle.node_service.specs.declared.alarm.Alarm.{Alarm}
use Rattle.node_service.specs.declared.answers.Answer.{Answer}
use Rattle.node_service.specs.Alarms.{heard}
use Rattle.node_service.specs.Answering.{AnswersFrame}

-- the host of the node, and the alarm for what it does by itself
pub record Running : Type 0 where
  pub host : Hosted
  pub alarm : Alarm

-- what is told the link
abbrev pub told_link : Result Answer Memory → Result (Option Frame) Memory
told_link (Ok answer) = Ok answer.frame
told_link (Err e) = Err e

-- Whether a vote was granted. Where memory ran out none was.
abbrev pub has_granted : Result Answer Memory → Bool
has_granted (Ok answer) = answer.granted
has_granted (Err e) = false

-- The frame is answered, and the alarm hears of it: it is set anew exactly where the frame was an Append of the leader
-- that the host now follows, or a vote was granted.
pub record TakesFrame (old : Running) (frame : Frame) (now word : ℕ) (result : Result (Option Frame) Memory) (new : Running) : Type 0 where
  pub answer : Result Answer Memory
  pub answered : AnswersFrame old.host frame answer new.host
  pub told : result ≡ told_link answer
  pub alarm : new.alarm ≡ heard new.host frame (has_granted answer) now word old.alarm
