-- The command that a write enters.
use Rattle.std.proofs.Common.{◌≡◌, ℕ, ◌+◌, ◌<◌, ◌≤◌, Bool, true, false, List, [], ◌∷◌, ◌++◌, Option, refl, ◌∙◌, ap, arith}
use Rattle.std.specs.Prelude.{◌/◌, ◌%◌, nat_lt, if◌then◌else◌, codes}
use Rattle.std.specs.Fmt.{decimal}
use Rattle.std.proofs.lemmas.Fmt.{decimal_digit, decimal_step}
use Rattle.raft_model.proofs.Tests.{lt_tells, lt_tells_not}
use Rattle.cat_model.specs.Identifiers.{identifier}
use Rattle.cat_model.specs.declared.command.Command.TheVariants.{QuerySet}
use Rattle.cluster_rules.specs.Agents.{agent_node}
use Rattle.cluster_rules.specs.Replies.{Question, entered}

-- a number of one digit or two
digits_of : (agent : ℕ) → agent ≤ 99 → (b : Bool) → nat_lt agent 10 ≡ b → decimal agent ≡ (if b then (48 + agent) ∷ [] else (48 + agent / 10) ∷ (48 + agent % 10) ∷ [])
digits_of agent small true e = decimal_digit agent (lt_tells agent 10 e)
digits_of agent small false e =
    let above = lt_tells_not agent 10 e in
    let high : agent / 10 < 10 = omega (arith, small) in
    decimal_step agent above (omega (arith, small)) ∙ ap (λ l. l ++ (48 + agent % 10) ∷ []) (decimal_digit (agent / 10) high)

pub two_digits : (agent : ℕ) → agent ≤ 99 → codes "agent-" ++ decimal agent ≡ agent_node agent
two_digits agent small = ap (λ l. codes "agent-" ++ l) (digits_of agent small (nat_lt agent 10) refl)

pub entered_query : (q : Question) (id : ℕ) (create : Bool) (name : List ℕ) (session : Option ℕ) (service : List ℕ) (only_passing : Bool) (tags : List (List ℕ)) (dns_ttl_ms : ℕ) →
    entered q (QuerySet id create name session service only_passing tags dns_ttl_ms) ≡ QuerySet (if create then identifier q.draw.hi q.draw.lo else id) create name session service only_passing tags dns_ttl_ms
unfolding entered
entered_query q id true name session service only_passing tags dns_ttl_ms = refl
entered_query q id false name session service only_passing tags dns_ttl_ms = refl
