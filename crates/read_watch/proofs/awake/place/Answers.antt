use Rattle.std.proofs.Common.{ltb, arith, rules, ℕ}
use Rattle.std.proofs.lemmas.List.Sorted.{IsPartitionPoint-from_clause, IsPartitionedBy-ltb}
use Rattle.std.proofs.lemmas.Bool.Decides.{nat_tests}
use Rattle.read_watch.proofs.Ascending.{in_order}
use Rattle.read_watch.proofs.awake.place.Goals as goal

pub returns-clause-below : goal.returns-clause-below
returns-clause-below c =
    let ns = c.args.numbers.now in
    let part = IsPartitionPoint-from_clause (λ (n : ℕ). ltb n c.args.number) ns c.partition_point.result c.partition_point.ensures.partitioned (IsPartitionedBy-ltb (λ n. n) ns c.args.number (in_order ns c.requires)) (λ a r f called. search rules) in
    λ k d l. let passes = part.0 k d (omega arith) l in grind (arith, nat_tests)

pub returns-clause-above : goal.returns-clause-above
returns-clause-above c =
    let ns = c.args.numbers.now in
    let part = IsPartitionPoint-from_clause (λ (n : ℕ). ltb n c.args.number) ns c.partition_point.result c.partition_point.ensures.partitioned (IsPartitionedBy-ltb (λ n. n) ns c.args.number (in_order ns c.requires)) (λ a r f called. search rules) in
    λ k d l m. let fails = part.1 k d l m in grind (arith, nat_tests)
