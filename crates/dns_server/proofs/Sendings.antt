-- A reply is sent, or none.
use Rattle.std.proofs.Common.{◌≡◌, ℕ, List, [], sym, subst, ◌∙◌, arith, Option, Some, None, Result, Ok, Err, OnOk, OnErr}
use Rattle.cat_model.specs.declared.command.Command.{Command}
use Rattle.outside.specs.declared.faults.KeepFail.{KeepFail}
use Rattle.datagram_outside.specs.Ports.{PortState, append_told, Sends}
use Rattle.dns_service.specs.Reading.{answers_at}
use Rattle.dns_service.specs.Replies.{dns_reply}
use Rattle.dns_server.specs.Served.{Passed, reply_by, sent_to}
use Rattle.dns_server.proofs.Rounds.{passed_none, told_none}

-- the reply was sent
pub sent_one : (old new : PortState) (peer : ℕ) (packet reply : List ℕ) (commands : List Command) (result : Result Unit KeepFail)
    → Sends old peer reply result new → Some reply ≡ dns_reply (answers_at commands) packet
    → OnOk result (Passed old new [] (reply_by commands (record { peer = peer; packet = packet })))
sent_one old new peer packet reply commands (Ok u) s e = record {
  given = omega (arith, s.given);
  came_told = s.came ∙ sym (told_none old.came);
  went_told = subst (λ (r : Option (List ℕ)). new.went ≡ append_told old.went (sent_to peer r)) e s.went;
}
sent_one old new peer packet reply commands (Err f) s e = tt

-- it could not be sent
pub sent_none : (old new : PortState) (peer : ℕ) (reply : List ℕ) (result : Result Unit KeepFail) → Sends old peer reply result new → OnErr result (Passed old new [] [])
sent_none old new peer reply (Ok u) s = tt
sent_none old new peer reply (Err f) s = record {
  given = omega (arith, s.given);
  came_told = s.came ∙ sym (told_none old.came);
  went_told = s.went ∙ sym (told_none old.went);
}

-- there is no reply
pub no_reply : (port : PortState) (peer : ℕ) (packet : List ℕ) (commands : List Command) → None ≡ dns_reply (answers_at commands) packet
    → Passed port port [] (reply_by commands (record { peer = peer; packet = packet }))
no_reply port peer packet commands e =
    subst (λ (r : Option (List ℕ)). Passed port port [] (sent_to peer r)) e (passed_none port)
