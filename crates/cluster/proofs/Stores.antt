-- What is known of the stores of a cluster that has begun, and of those that were handed back.
use Rattle.std.proofs.Common.{◌≡◌, inl, inr, ℕ, ◌<◌, ◌≤◌, length, map, List, [], ◌∷◌, Result, Ok, Err, refl, ap, ◌∙◌, sym, subst, arith}
use Rattle.std.specs.Prelude.{All, IfErr, IfOk}
use Rattle.std.proofs.lemmas.List.{length-map, length-replicate}
use Rattle.std.proofs.lemmas.List.Elements.{All-head, All-tail}
use Rattle.cluster_rules.specs.Agents.{new_agent}
use Rattle.outside.specs.declared.faults.KeepFail.{KeepFail}
use Rattle.outside.specs.declared.faults.KeepFail.TheVariants.{Failed}
use Rattle.raft_model.specs.Node.{Store}
use Rattle.raft_node.specs.Steps.{FailsToLoad}
use Rattle.raft_world.specs.Starting.{AreGivenBack}
use Rattle.cluster_rules.specs.Cluster.{Cluster}
use Rattle.cluster_rules.specs.Reached.{AreUnarmed, IsBegun}
use Rattle.cluster_interface.specs.Starting.{HasFailed}
use Rattle.cluster.specs.Beginning.{HasBegun}

module _ {X : Type 0} (seen : X → Store) where
  are_unarmed : (xs : List X) → All (λ x. (seen x).armed ≡ 0) xs → AreUnarmed (map seen xs)
  are_unarmed [] all = tt
  are_unarmed (x ∷ xs) all = (All-head (λ y. (seen y).armed ≡ 0) x xs all, are_unarmed xs (All-tail (λ y. (seen y).armed ≡ 0) x xs all))

  is_begun : (xs : List X) (agents : ℕ) (c : Cluster) → 0 < length xs → length xs ≤ 7 → agents ≤ 64 → All (λ x. (seen x).armed ≡ 0) xs → HasBegun (map seen xs) agents c → IsBegun (map seen xs) c
  is_begun xs agents c some most few unarmed begun =
      let size : length (map seen xs) ≡ length xs = length-map xs seen in
      record {
        world = begun.0;
        agents = agents;
        some = (omega (arith, some, size), omega (arith, most, size));
        few = few;
        unarmed = are_unarmed xs unarmed;
        begins = begun.1;
        is = begun.2;
      }

  pub begun_ok : {E : Type 0} (xs : List X) (agents : ℕ) (r : Result Cluster E) → IfOk r (HasBegun (map seen xs) agents) → 0 < length xs → length xs ≤ 7 → agents ≤ 64 → All (λ x. (seen x).armed ≡ 0) xs → IfOk r (IsBegun (map seen xs))
  begun_ok xs agents (Ok c) begun some most few unarmed = is_begun xs agents c some most few unarmed begun
  begun_ok xs agents (Err e) begun some most few unarmed = tt

  pub agents_ok : {E : Type 0} (xs : List X) (agents : ℕ) (r : Result Cluster E) → IfOk r (HasBegun (map seen xs) agents) → IfOk r (λ c. length c.agents ≡ agents)
  agents_ok xs agents (Ok c) begun = ap (λ (d : Cluster). length d.agents) begun.2 ∙ length-replicate agents new_agent
  agents_ok xs agents (Err e) begun = tt

  counts_of : (xs : List X) → map (λ x. (seen x).faults) xs ≡ map (λ (s : Store). s.faults) (map seen xs)
  counts_of [] = refl
  counts_of (x ∷ xs) = ap (λ ns. (seen x).faults ∷ ns) (counts_of xs)

  same_counts : (xs ys : List X) → map seen ys ≡ map seen xs → map (λ x. (seen x).faults) ys ≡ map (λ x. (seen x).faults) xs
  same_counts xs ys e = counts_of ys ∙ ap (map (λ (s : Store). s.faults)) e ∙ sym (counts_of xs)

  -- where a store failed, its count rose
  failed : (xs ys : List X) (why : KeepFail) → why ≡ Failed → AreGivenBack why (map seen xs) (map seen ys) → HasFailed (map (λ x. (seen x).faults) xs) (map (λ x. (seen x).faults) ys)
  failed [] [] why e given = absurd (cc (e, given))
  failed [] (y ∷ ys) why e given = absurd given
  failed (x ∷ xs) [] why e given = absurd given
  failed (x ∷ xs) (y ∷ ys) why e (inl (fails, same)) = inl ((subst (λ w. FailsToLoad w (seen x) (seen y)) e fails).faults, same_counts xs ys same)
  failed (x ∷ xs) (y ∷ ys) why e (inr (works, given)) = inr (works.faults, failed xs ys why e given)

  pub failed_err : {T : Type 0} (xs : List X) (r : Result T (List X × KeepFail)) → IfErr r (λ why. AreGivenBack why.1 (map seen xs) (map seen why.0))
      → IfErr r (λ why. why.1 ≡ Failed → HasFailed (map (λ x. (seen x).faults) xs) (map (λ x. (seen x).faults) why.0))
  failed_err xs (Ok x) given = tt
  failed_err xs (Err why) given = λ e. failed xs why.0 why.1 e given
