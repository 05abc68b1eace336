use Rattle.std.proofs.Common.{rules, not, sym, subst}
use Rattle.std.proofs.lemmas.Fn.{filter_same}
use Rattle.cat_model.specs.Keys.{pair_cmp, same_text}
use Rattle.cat_model.proofs.Pairs.{pair_cmp_total}
use Rattle.cat_model.proofs.TableLemmas.{Ascends-filter}
use Rattle.cluster_rules.specs.Agents.{watched_key}
use Rattle.agent_state.specs.Order.{ChecksAscend}
use Rattle.agent_state.proofs.checks.drop_checks_of.Goals as goal

pub returns-clause-rows : goal.returns-clause-rows
returns-clause-rows c = filter_same _ (λ w. not (same_text w.row.service c.args.service.now)) _ (λ x b f' k. search rules) _ _ c.retain.ensures.filtered

pub returns-clause-order : goal.returns-clause-order
returns-clause-order c =
    subst ChecksAscend (sym (returns-clause-rows c)) (Ascends-filter pair_cmp watched_key pair_cmp_total (λ w. not (same_text w.row.service c.args.service.now)) c.args.checks.now.items c.requires)
