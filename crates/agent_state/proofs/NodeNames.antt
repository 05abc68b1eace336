-- The names of agents' nodes.
use Rattle.std.proofs.Common.{◌≡◌, ◌∙◌, ℕ, ◌+◌, ◌<◌, ◌≤◌, Bool, true, false, [], ◌∷◌, ◌++◌, refl, ap, arith}
use Rattle.std.specs.Prelude.{◌/◌, ◌%◌, nat_lt, if◌then◌else◌, codes}
use Rattle.std.specs.Fmt.{decimal}
use Rattle.std.proofs.lemmas.Fmt.{decimal_digit, decimal_step}
use Rattle.std.proofs.lemmas.Bool.Decides.{nat_tests}
use Rattle.cluster_rules.specs.Agents.{agent_node}

-- a number of one digit or two
digits_of : (agent : ℕ) → agent < 100 → (b : Bool) → nat_lt agent 10 ≡ b → decimal agent ≡ (if b then (48 + agent) ∷ [] else (48 + agent / 10) ∷ (48 + agent % 10) ∷ [])
digits_of agent small true e = decimal_digit agent (grind (arith, nat_tests))
digits_of agent small false e =
    let above : 10 ≤ agent = grind (arith, nat_tests) in
    let high : agent / 10 < 10 = omega (arith, small) in
    decimal_step agent above (omega (arith, small)) ∙ ap (λ l. l ++ (48 + agent % 10) ∷ []) (decimal_digit (agent / 10) high)

pub two_digits : (agent : ℕ) → agent < 100 → codes "agent-" ++ decimal agent ≡ agent_node agent
two_digits agent small = ap (λ l. codes "agent-" ++ l) (digits_of agent small (nat_lt agent 10) refl)
