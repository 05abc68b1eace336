-- What is kept still holds when more commands came, and what is made by all commands may be kept.
use Rattle.std.proofs.Common.{◌≡◌, ℕ, zero, suc, ◌+◌, ◌-◌, ◌≤◌, List, [], ◌∷◌, ◌++◌, length, take, drop, refl, ap, sym, subst, ◌∙◌, arith, append-nil, length-append, length-drop, Option, Some, None, IfSome, All}
use Rattle.std.proofs.Math.Seq.{take-length}
use Rattle.std.proofs.lemmas.List.Elements.{All-nil, All-push, All-weaker}
use mathlib.Core.List.{IsPrefix}
use Rattle.cat_model.specs.declared.command.Command.{Command}
use Rattle.dns_service.specs.Reading.{answers_at}
use Rattle.dns_service.specs.Replies.{dns_reply}
use Rattle.dns_server.specs.declared.cache.CachedReply.{CachedReply}
use Rattle.dns_server.specs.Cached.{AllHold, Holds, Replies}
use Rattle.dns_server.proofs.Ids.{replies_of}

-- ---- lists that begin one another

take_front : {A : Type 0} (n : ℕ) (xs ys : List A) → n ≤ length xs → take n (xs ++ ys) ≡ take n xs
take_front zero xs ys few = refl
take_front (suc n) [] ys few = absurd (omega (arith, few))
take_front (suc n) (x ∷ xs) ys few = ap (λ l. x ∷ l) (take_front n xs ys (omega (arith, few)))

-- the bytes from the third on
pub behind_two : (bytes : List ℕ) → take (length bytes - 2) (drop 2 bytes) ≡ drop 2 bytes
behind_two bytes = subst (λ n. take n (drop 2 bytes) ≡ drop 2 bytes) (length-drop 2 bytes) (take-length (drop 2 bytes))

take_whole : {A : Type 0} (xs : List A) → take (length xs) xs ≡ xs
take_whole [] = refl
take_whole (x ∷ xs) = ap (λ l. x ∷ l) (take_whole xs)

no_more : {A : Type 0} (xs : List A) → length xs ≡ 0 → xs ≡ []
no_more [] none = refl
no_more (x ∷ xs) some = absurd (omega (arith, some))

-- one that is as long is the same
pub same_length : (a b : List Command) → IsPrefix a b → length a ≡ length b → a ≡ b
same_length a b begins same =
    let none : length begins.0 ≡ 0 = omega (arith, same, length-append a begins.0, ap length begins.1) in
    sym (append-nil a) ∙ (ap (λ more. a ++ more) (sym (no_more begins.0 none)) ∙ begins.1)

prefix_longer : (a b : List Command) → IsPrefix a b → length a ≤ length b
prefix_longer a b begins = omega (arith, length-append a begins.0, ap length begins.1)

-- one between two that are as long
pub between_same : (a b d : List Command) → IsPrefix a b → IsPrefix b d → length d ≡ length a → b ≡ d
between_same a b d ab bd same =
    same_length b d bd (omega (arith, prefix_longer a b ab, prefix_longer b d bd, same))

-- a reply by one between two that are as long is by the last one
pub reply_between : (a b d : List Command) (packet : List ℕ) (reply : Option (List ℕ)) → IsPrefix a b → IsPrefix b d → length d ≡ length a
    → reply ≡ dns_reply (answers_at b) packet → reply ≡ dns_reply (answers_at d) packet
reply_between a b d packet reply ab bd same e = subst (λ (cs : List Command). reply ≡ dns_reply (answers_at cs) packet) (between_same a b d ab bd same) e

-- ---- replies that are kept

one_holds_on : (a b : List Command) → IsPrefix a b → (cached : CachedReply) → Holds a cached → Holds b cached
one_holds_on a b begins cached h = record {
  few = omega (arith, h.few, prefix_longer a b begins);
  replies = subst (λ (commands : List Command). Replies commands cached.asked cached.reply)
      (sym (take_front cached.count a begins.0 h.few) ∙ ap (take cached.count) begins.1)
      h.replies;
}

place_holds_on : (a b : List Command) → IsPrefix a b → (place : Option CachedReply) → IfSome place (Holds a) → IfSome place (Holds b)
place_holds_on a b begins None h = tt
place_holds_on a b begins (Some cached) h = one_holds_on a b begins cached h

pub holds_on : (a b : List Command) (places : List (Option CachedReply)) → IsPrefix a b → AllHold a places → AllHold b places
holds_on a b places begins all =
    All-weaker (λ place. IfSome place (Holds a)) (λ place. IfSome place (Holds b)) (place_holds_on a b begins) places all

-- nothing is kept yet
pub none_hold : (commands : List Command) → AllHold commands []
none_hold commands = All-nil (λ place. IfSome place (Holds commands))

-- one place more with nothing in it
pub empty_holds : (commands : List Command) (places : List (Option CachedReply)) → AllHold commands places → AllHold commands (places ++ None ∷ [])
empty_holds commands places all = All-push (λ place. IfSome place (Holds commands)) places None all tt

-- a reply by all these commands
pub made_holds : (commands : List Command) (packet reply : List ℕ) (cached : CachedReply) → 2 ≤ length packet → cached.count ≡ length commands
    → cached.asked ≡ drop 2 packet → cached.reply ≡ drop 2 reply → Some reply ≡ dns_reply (answers_at commands) packet → Holds commands cached
made_holds commands packet reply cached long all asked is e = record {
  few = omega (arith, all);
  replies = λ other long' same.
      ap (λ (cs : List Command). dns_reply (answers_at cs) other) (ap (λ n. take n commands) all ∙ take_whole commands)
      ∙ (replies_of commands packet reply long e other long' (same ∙ asked) ∙ ap (λ (r : List ℕ). Some (take 2 other ++ r)) (sym is));
}

-- the reply that is kept is that to a packet
pub found_replies : (commands : List Command) (packet : List ℕ) (cached : CachedReply) → Holds commands cached → 2 ≤ length packet
    → cached.count ≡ length commands → cached.asked ≡ drop 2 packet → Some (take 2 packet ++ cached.reply) ≡ dns_reply (answers_at commands) packet
found_replies commands packet cached h long all asked =
    let e : take cached.count commands ≡ commands = ap (λ n. take n commands) all ∙ take_whole commands in
    sym (subst (λ (cs : List Command). dns_reply (answers_at cs) packet ≡ Some (take 2 packet ++ cached.reply)) e (h.replies packet long (sym asked)))
