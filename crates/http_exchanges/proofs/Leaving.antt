-- A link that is asked whether its client has gone.
use Rattle.std.proofs.Common.{◌≡◌, Bool, true, false, refl, sym, ap, ◌∙◌, subst, arith, Result, Ok, Err}
use Rattle.std.specs.Prelude.{IfErr}
use Rattle.cluster_rules.specs.Replies.{Reply}
use Rattle.serve_outside.specs.Links.{Leaves, LinkState}
use Rattle.http_exchanges.specs.declared.turns.NoReply.{NoReply}
use Rattle.http_exchanges.specs.declared.turns.NoReply.TheVariants as no_reply
use Rattle.http_exchanges.specs.Waiting.{IsAfterAsk}

-- nothing has changed
pub stays : (old new : LinkState) → new ≡ old → Leaves old false new
stays old new e = record {
  still = λ f. e;
  counted = λ f. absurd (cc f);
  later = let n = ap (λ (l : LinkState). l.read_faults) e in omega arith;
  rest = subst (λ (l : LinkState). l ≡ record old { read_faults = l.read_faults }) (sym e) refl;
}

pub leaves_from : (first old new : LinkState) (gone : Bool) → old ≡ first → Leaves old gone new → Leaves first gone new
leaves_from first old new gone e l = subst (λ (z : LinkState). Leaves z gone new) e l

-- a link behind an ask that has no reply, by why it has none
pub after_memory : (why : NoReply) (old new : LinkState) → why ≡ no_reply.Memory → IsAfterAsk {T = Reply} (Err why) old new → new ≡ old
after_memory no_reply.Memory old new e x = x
after_memory no_reply.Left old new e x = absurd (cc e)

pub after_left : (why : NoReply) (old new : LinkState) → why ≡ no_reply.Left → IsAfterAsk {T = Reply} (Err why) old new → Leaves old true new
after_left no_reply.Memory old new e x = absurd (cc e)
after_left no_reply.Left old new e x = x

-- a refusal looks for no client
pub after_refused : (r : Result Reply NoReply) (link : LinkState) → IfErr r (λ why. why ≡ no_reply.Memory) → IsAfterAsk r link link
after_refused (Ok reply) link e = refl
after_refused (Err no_reply.Memory) link e = refl
after_refused (Err no_reply.Left) link e = absurd (cc e)

pub never_left : (P : Type 0) (r : Result Reply NoReply) → IfErr r (λ why. why ≡ no_reply.Memory) → IfErr r (λ why. why ≡ no_reply.Left → P)
never_left P (Ok reply) e = tt
never_left P (Err why) e = λ l. absurd (cc (sym e ∙ l))
