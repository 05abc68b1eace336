-- The event of an impulse, where it is known at which server.
use Rattle.std.proofs.Common.{◌≡◌, ℕ, Some, sym, ◌∙◌, ap}
use Rattle.cluster_rules.specs.Cluster.{Cluster}
use Rattle.cluster_rules.specs.Step.{goes_to}
use Rattle.cluster_order.specs.declared.impulse.Impulse.{Impulse}
use Rattle.cluster_order.specs.Turns.{event_of}

pub as_named : (c : Cluster) (f : ℕ → Impulse) → ((s : ℕ) → goes_to c (event_of (f s)) ≡ Some s) → (m : Impulse) (s i : ℕ) → m ≡ f s → goes_to c (event_of m) ≡ Some i → event_of (f i) ≡ event_of m
as_named c f here m s i is goes =
    let both : Some s ≡ Some i = sym (here s) ∙ sym (ap (λ z. goes_to c (event_of z)) is) ∙ goes in
    let same : s ≡ i = cc in
    ap (λ n. event_of (f n)) (sym same) ∙ sym (ap event_of is)
