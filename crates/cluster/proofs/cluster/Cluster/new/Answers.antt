use Rattle.std.proofs.Common.{◌<◌, ℕ, sym, subst}
use Rattle.std.proofs.lemmas.List.{length-map}
use Rattle.cluster.proofs.Beginning.{none_read}
use Rattle.cluster.proofs.cluster.Cluster.new.Goals as goal

pub returns-in-Err-clause-back : goal.returns-in-Err-clause-back
returns-in-Err-clause-back g c = none_read _ (subst (λ (n : ℕ). 0 < n) (sym (length-map c.args.keepers _)) c.requires.some)

pub returns-in-Err-new-clause-back : goal.returns-in-Err-new-clause-back
returns-in-Err-new-clause-back g c = none_read _ (subst (λ (n : ℕ). 0 < n) (sym (length-map c.args.keepers _)) c.requires.some)
