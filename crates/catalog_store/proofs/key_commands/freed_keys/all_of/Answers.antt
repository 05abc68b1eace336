use Rattle.std.proofs.Common.{rules, ◌≡◌, List, [], ◌∷◌, true, refl, ◌∙◌, ap, filter}
use Rattle.catalog_store.specs.declared.key_commands.freed_keys.Holding.{Holding}
use Rattle.catalog_store.proofs.key_commands.freed_keys.all_of.Goals as goal

all_pass : (hs : List Holding) → filter (λ h. true) hs ≡ hs
all_pass [] = refl
all_pass (h ∷ hs) = ap (λ l. h ∷ l) (all_pass hs)

pub returns-clause-all : goal.returns-clause-all
returns-clause-all c = c.in_ok-all.ensures.rows (λ h. true) (λ x b h. search rules) ∙ all_pass c.args.found.now.now
