-- A request from its asking to its reply, over the marks that a pass has seen and the numbers that it opened.
use Rattle.std.specs.Prelude.{◌≡◌, ℕ, ◌≤◌, true, List, [], ◌∷◌, ◌++◌, length, Result, Ok, Err}
use Rattle.cat_model.specs.declared.reply.Mark.{Mark}
use Rattle.cluster_rules.specs.Replies.{Reply}
use Rattle.cluster_rules.specs.Sound.{IsAmong}
use Rattle.serve_outside.specs.Links.{LinkState, Leaves}
use mathlib.Core.List.{IsPrefix}
use Rattle.turn_lock.specs.Lists.{Among, EachOnce, numbers}
use Rattle.http_exchanges.specs.declared.cluster.Ask.{Ask}
use Rattle.http_exchanges.specs.declared.cluster.Collected.{Collected}
use Rattle.http_exchanges.specs.declared.cluster.Collected.TheVariants as collected
use Rattle.http_exchanges.specs.declared.turns.NoReply.{NoReply}
use Rattle.http_exchanges.specs.declared.turns.NoReply.TheVariants as no_reply
use Rattle.http_exchanges.specs.Knowing.{Known}
use Rattle.http_exchanges.specs.Marks.{answered_mark, answers, asked_mark, opens, takes}

-- what was seen, opened and read begins as before, and no share was given away
pub record Grows (v w : Known) : Type 0 where
  pub rest : List Mark
  pub more : List ℕ
  pub seen : w.seen ≡ v.seen ++ rest
  pub mine : w.mine ≡ v.mine ++ more
  pub shares : w.shares ≡ v.shares
  pub read : IsPrefix v.read w.read

-- the request was asked by this pass, and its reply is not taken
pub record Waits (n : ℕ) (ask : Ask) (seen : List Mark) (mine : List ℕ) : Type 0 where
  pub own : Among n mine
  pub asked : IsAmong (asked_mark n ask) seen
  pub untaken : Among n (numbers takes seen) → ⊥

-- The request was asked by this pass, behind these numbers of its own and as the last of all, and is held: its reply is not
-- taken.
pub record IsHeld (ask : Ask) (mine : List ℕ) (known : Known) : Type 0 where
  pub number : ℕ
  pub waits : Waits number ask known.seen known.mine
  pub last : known.mine ≡ mine ++ number ∷ []

-- at most one number more was opened
pub record OpensFew (old new : List ℕ) : Type 0 where
  pub last : List ℕ
  pub are : new ≡ old ++ last
  pub few : length last ≤ 1

-- A link behind a request that has a reply or none: where there is none since its client went away that is counted, and
-- else nothing has changed.
abbrev pub IsAfterAsk : {T : Type 0} → Result T NoReply → LinkState → LinkState → Type 0
IsAfterAsk (Err no_reply.Left) old new = Leaves old true new
IsAfterAsk (Err no_reply.Memory) old new = new ≡ old
IsAfterAsk (Ok reply) old new = new ≡ old

-- The reply to a request that was asked once, by this pass: it is that of the one Answered mark of its number among
-- the marks that were seen then, and shows what they tell.
pub record IsAnswered (shows : ℕ → Ask → Reply → List Mark → Type 0) (ask : Ask) (reply : Reply) (seen : List Mark) (mine : List ℕ) : Type 0 where
  pub own : Among reply.number mine
  pub front : List Mark
  pub rest : List Mark
  pub seen_is : seen ≡ front ++ rest
  pub asked : IsAmong (asked_mark reply.number ask) front
  pub once : EachOnce (numbers opens front)
  pub answered : IsAmong (answered_mark reply) front
  pub only : EachOnce (numbers answers front)
  pub shown : shows reply.number ask reply front

-- after a turn there is the reply, which has the request's number, or the request still waits
abbrev pub Stands : (ℕ → Ask → Reply → List Mark → Type 0) → ℕ → Ask → Collected → Known → Type 0
Stands shows n ask (collected.Ready reply) k = (reply.number ≡ n) × IsAnswered shows ask reply k.seen k.mine
Stands shows n ask collected.NotYet k = Waits n ask k.seen k.mine
Stands shows n ask collected.Gone k = ⊥

-- the loop of a request that waits: whatever stood at its start stands now, of the same number
pub record Looks (shows : ℕ → Ask → Reply → List Mark → Type 0) (n : ℕ) (got : Collected) (v : Known) (n' : ℕ) (got' : Collected) (w : Known) : Type 0 where
  pub grows : Grows v w
  pub same : n' ≡ n
  pub some : (ask : Ask) × Stands shows n' ask got' w
  pub each : (ask : Ask) → Stands shows n ask got v → Stands shows n' ask got' w

-- the request was asked behind all that had been seen
pub record IsBehind (n : ℕ) (ask : Ask) (before seen : List Mark) : Type 0 where
  pub more : List Mark
  pub seen_is : seen ≡ before ++ more
  pub asked : IsAmong (asked_mark n ask) more
