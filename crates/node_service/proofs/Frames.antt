-- A message that a frame holds is not too long to be written as one.
use Rattle.std.proofs.Common.{◌≡◌, ℕ, zero, suc, ◌+◌, ◌*◌, ◌/◌, ◌%◌, ◌≤◌, nat_lt, nat_le, Bool, true, false, cond, List, [], ◌∷◌, ◌++◌, length, arith}
use Rattle.std.specs.List.{flat_map}
use Rattle.std.proofs.lemmas.List.{length-append}
use Rattle.cat_model.specs.declared.command.Entry.{Entry}
use Rattle.cat_model.specs.LogLimits.{command_bytes, entries_bytes}
use Rattle.cat_model.specs.Spelling.{number_bytes, number_within, flag_bytes}
use Rattle.raft_model.proofs.Tests.{and_tells, le_tells}
use Rattle.raft_model.specs.declared.message.Message.{Message}
use Rattle.raft_model.specs.declared.message.Message.TheVariants.{AskVote, Vote, Append, Yes, No}
use Rattle.store_records.specs.Records.{entry_bytes}
use Rattle.peer_frames.specs.declared.frame.Frame.TheVariants.{Peer}
use Rattle.peer_frames.specs.Spelling.{body_bytes, most_body}
use Rattle.node_service.specs.Sending.{has_frame}

number_within_short : (k n : ℕ) → length (number_within k n) ≤ suc k
unfolding number_within
number_within_short zero n = omega arith
number_within_short (suc k) n = go (nat_lt n 128) (number_within_short k (n / 128))
  where
    go : (b : Bool) → length (number_within k (n / 128)) ≤ suc k → length (cond b (n ∷ []) ((128 + n % 128) ∷ number_within k (n / 128))) ≤ suc (suc k)
    go true h = omega arith
    go false h = omega (arith, h)

number_short : (n : ℕ) → length (number_bytes n) ≤ 10
number_short n = number_within_short 9 n

flag_short : (b : Bool) → length (flag_bytes b) ≤ 1
flag_short true = omega arith
flag_short false = omega arith

entry_short : (e : Entry) → length (entry_bytes e) ≤ 20 + command_bytes e.command
unfolding entry_bytes
entry_short e =
    let a = number_short e.term in let b = number_short e.number in
    simp length-append (omega arith)

entries_short : (es : List Entry) → length (flat_map entry_bytes es) ≤ 20 * length es + entries_bytes es
entries_short [] = omega arith
entries_short (e ∷ es) =
    let first = entry_short e in let rest = entries_short es in
    let sum : length (entry_bytes e ++ flat_map entry_bytes es) ≡ length (entry_bytes e) + length (flat_map entry_bytes es) = length-append (entry_bytes e) (flat_map entry_bytes es) in
    omega arith

pub body_short : (sender : ℕ) (m : Message) → has_frame m ≡ true → length (body_bytes (Peer sender m)) ≤ most_body
body_short sender (AskVote term last_index last_term) has =
    let s = number_short sender in let a = number_short term in let b = number_short last_index in let c = number_short last_term in
    simp length-append (omega arith)
body_short sender (Vote term granted) has =
    let s = number_short sender in let a = number_short term in let b = flag_short granted in simp length-append (omega arith)
body_short sender (Append term prev_index prev_term entries commit round) has =
    let s = number_short sender in let a = number_short term in let b = number_short prev_index in let c = number_short prev_term in
    let n = number_short (length entries) in let es = entries_short entries in let d = number_short commit in let f = number_short round in
    let both = and_tells (nat_le (length entries) 64) (nat_le (entries_bytes entries) 67108864) has in
    let few = le_tells (length entries) 64 both.0 in let small = le_tells (entries_bytes entries) 67108864 both.1 in
    simp length-append (omega arith)
body_short sender (Yes term matched round) has =
    let s = number_short sender in let a = number_short term in let b = number_short matched in let c = number_short round in
    simp length-append (omega arith)
body_short sender (No term last) has =
    let s = number_short sender in let a = number_short term in let b = number_short last in simp length-append (omega arith)
