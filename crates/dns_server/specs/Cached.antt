-- Which replies a cache may keep.
use Rattle.std.specs.Prelude.{◌≡◌, ℕ, ◌≤◌, List, ◌++◌, length, take, drop, Option, Some, IfSome, All}
use Rattle.cat_model.specs.declared.command.Command.{Command}
use Rattle.dns_service.specs.Reading.{answers_at}
use Rattle.dns_service.specs.Replies.{dns_reply}
use Rattle.dns_server.specs.declared.cache.CachedReply.{CachedReply}

-- a packet with its ID has this reply, whichever ID that is, where these bytes stand behind it
abbrev pub Replies : List Command → List ℕ → List ℕ → Type 0
Replies commands asked reply =
    (packet : List ℕ) → 2 ≤ length packet → drop 2 packet ≡ asked → dns_reply (answers_at commands) packet ≡ Some (take 2 packet ++ reply)

-- a reply that was made when the first so many of these commands were there
pub record Holds (commands : List Command) (cached : CachedReply) : Type 0 where
  pub few : cached.count ≤ length commands
  pub replies : Replies (take cached.count commands) cached.asked cached.reply

abbrev pub AllHold : List Command → List (Option CachedReply) → Type 0
AllHold commands places = All (λ place. IfSome place (Holds commands)) places
