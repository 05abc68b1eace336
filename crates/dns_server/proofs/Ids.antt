-- A packet's ID stands in its reply, and nothing else of the reply depends on it.
use Rattle.std.proofs.Common.{◌≡◌, ℕ, ◌≤◌, Bool, true, false, not, ◌==◌, if◌then◌else◌, List, [], ◌∷◌, ◌++◌, length, take, drop, refl, ap, sym, subst, ◌∙◌, arith, Option, Some, None, option_map}
use Rattle.cat_model.specs.declared.command.Command.{Command}
use Rattle.cat_model.specs.declared.query.Query.{Query}
use Rattle.cat_model.specs.declared.query.Answer.{Answer}
use Rattle.dns_service.specs.Reading.{answers_at}
use Rattle.dns_service.specs.Names.{number_at, question_in}
use Rattle.dns_service.specs.Replies.{dns_reply, has_no_reply, opcode, reply_asked, reply_found}
use Rattle.dns_server.specs.Cached.{Replies}

option_cases : {X : Type 0} (P : Option X → Type 0) → P None → ((x : X) → P (Some x)) → (o : Option X) → P o
option_cases P none some None = none
option_cases P none some (Some x) = some x

-- a choice, of which each case is seen by the same view
choice_seen : {X Y : Type 0} (b : Bool) (view : X → Y) (x y : X) (u v : Y) → u ≡ view x → v ≡ view y → (if b then u else v) ≡ view (if b then x else y)
choice_seen true view x y u v e f = e
choice_seen false view x y u v e f = f

-- two packets that differ in the ID alone
module _ (answer : Query → Answer) (a b c d : ℕ) (rest : List ℕ) where
  abbrev one : List ℕ
  one = a ∷ b ∷ rest

  abbrev other : List ℕ
  other = c ∷ d ∷ rest

  -- a reply with the other ID
  abbrev moved : List ℕ → List ℕ
  moved reply = c ∷ d ∷ drop 2 reply

  reply_moved : dns_reply answer other ≡ option_map moved (dns_reply answer one)
  unfolding dns_reply
  reply_moved =
      choice_seen (has_no_reply one) (option_map moved) _ _ _ _ refl
      (choice_seen (not (opcode one == 0)) (option_map moved) _ _ _ _ refl
      (choice_seen (not (number_at 4 one == 1)) (option_map moved) _ _ _ _ refl
      (option_cases (λ question. Some (reply_asked answer other question) ≡ Some (moved (reply_asked answer one question))) refl
      (λ question. ap Some (choice_seen _ moved _ _ _ _
      (option_cases (λ found. reply_found other question found ≡ moved (reply_found one question found)) refl (λ found. refl) _)
      refl))
      (question_in (drop 12 one)))))

reply_to_other : (commands : List Command) (packet reply : List ℕ) → 2 ≤ length packet → Some reply ≡ dns_reply (answers_at commands) packet
    → (other : List ℕ) → 2 ≤ length other → drop 2 other ≡ drop 2 packet → dns_reply (answers_at commands) other ≡ Some (take 2 other ++ drop 2 reply)
reply_to_other commands [] reply long e other long' same = absurd (omega arith)
reply_to_other commands (a ∷ []) reply long e other long' same = absurd (omega arith)
reply_to_other commands (a ∷ b ∷ rest) reply long e [] long' same = absurd (omega arith)
reply_to_other commands (a ∷ b ∷ rest) reply long e (c ∷ []) long' same = absurd (omega arith)
reply_to_other commands (a ∷ b ∷ rest) reply long e (c ∷ d ∷ rest') long' same =
    subst (λ (r : List ℕ). dns_reply (answers_at commands) (c ∷ d ∷ r) ≡ Some (c ∷ d ∷ drop 2 reply)) (sym same)
    (reply_moved (answers_at commands) a b c d rest ∙ ap (option_map (λ (r : List ℕ). c ∷ d ∷ drop 2 r)) (sym e))

-- the reply to one packet is, behind the ID, that to each packet with the same bytes behind the ID
pub replies_of : (commands : List Command) (packet reply : List ℕ) → 2 ≤ length packet → Some reply ≡ dns_reply (answers_at commands) packet → Replies commands (drop 2 packet) (drop 2 reply)
replies_of commands packet reply long e = reply_to_other commands packet reply long e
