-- The end of an event that was noted, whole or cut short.
use Rattle.std.proofs.Common.{◌≡◌, inl, ℕ, ◌+◌, true, ◌∙◌, subst, Result, Ok, Err, OnOk, OnErr, IfErr}
use Rattle.cat_model.specs.declared.request.Event.{Event}
use Rattle.cluster_rules.specs.Cluster.{Cluster}
use Rattle.cluster_rules.specs.Step.{ClusterStep, noted, shelved}
use Rattle.cluster_order.specs.declared.cut.Cut.{Cut}
use Rattle.cluster_order.specs.declared.cut.Cut.TheVariants.{Before, Within}
use Rattle.cluster_order.specs.Evaluations.{EvaluatesIn, lacking}
use Rattle.cluster_order.specs.Turns.{Concludes, FindsNoMemory, IsJustNoted}
use Rattle.cluster_order.proofs.Adding.{forgot_adds, noted_adds, shelved_adds}
use Rattle.cluster_order.proofs.Evaluating.{evaluates_within}

-- An event is noted from a to b, worked from b to c as `Cuts` says of where it is cut short, and concluded from c to d.
pub just_noted : {T : Type 0} (made : Event) (a b c : Cluster) (done : Result T Cut) (Cuts : Cut → Type 0) → b ≡ noted made a → IfErr done Cuts → (Cuts Before → c ≡ b) → done ≡ Err Before → IsJustNoted c
just_noted made a b c done Cuts e k same is = (made, a, same (subst (λ r. IfErr r Cuts) is k) ∙ e)

pub concluded_whole : {T U E : Type 0} (made : Event) (a c d : Cluster) (done : Result T Cut) (result : Result U E) (Whole : Type 0) → OnOk done Whole → (Whole → d ≡ shelved c → ClusterStep a made d true) → Concludes done result c d → OnOk result (ClusterStep a made d true)
concluded_whole made a c d (Ok x) (Ok y) Whole w step p = step w p
concluded_whole made a c d (Ok x) (Err y) Whole w step p = tt
concluded_whole made a c d (Err Before) (Ok y) Whole w step p = absurd p
concluded_whole made a c d (Err Within) (Ok y) Whole w step p = absurd p
concluded_whole made a c d (Err found) (Err y) Whole w step p = tt

pub concluded_cut : {T U E : Type 0} (made : Event) (a b c d : Cluster) (done : Result T Cut) (result : Result U E) (Cuts : Cut → Type 0) → b ≡ noted made a → IfErr done Cuts → (Cuts Before → c ≡ b) → (Cuts Within → d ≡ shelved c → FindsNoMemory made a d) →
    Concludes done result c d → OnErr result (FindsNoMemory made a d)
concluded_cut made a b c d done (Ok y) Cuts e k same step p = tt
concluded_cut made a b c d (Ok x) (Err y) Cuts e k same step p = absurd p
concluded_cut made a b c d (Err Before) (Err y) Cuts e k same step p = inl (p made a (same k ∙ e))
concluded_cut made a b c d (Err Within) (Err y) Cuts e k same step p = step k p

pub concluded_counted : {T U E : Type 0} (n from to : ℕ) (made : Event) (a b c d : Cluster) (done : Result T Cut) (result : Result U E) (Cuts : Cut → Type 0) → b ≡ noted made a → IfErr done Cuts → (Cuts Before → c ≡ b) → EvaluatesIn (n + lacking done) from to b c →
    Concludes done result c d → EvaluatesIn (n + lacking result) from to a d
concluded_counted n from to made a b c d (Ok x) (Ok y) Cuts e k same l p = evaluates_within (n + 0) from to a b c d (noted_adds made a b e) l (shelved_adds c d p)
concluded_counted n from to made a b c d (Ok x) (Err y) Cuts e k same l p = absurd p
concluded_counted n from to made a b c d (Err Before) (Ok y) Cuts e k same l p = absurd p
concluded_counted n from to made a b c d (Err Within) (Ok y) Cuts e k same l p = absurd p
concluded_counted n from to made a b c d (Err Before) (Err y) Cuts e k same l p = evaluates_within (n + 1) from to a b c d (noted_adds made a b e) l (forgot_adds made a c d (same k ∙ e) (p made a (same k ∙ e)))
concluded_counted n from to made a b c d (Err Within) (Err y) Cuts e k same l p = evaluates_within (n + 1) from to a b c d (noted_adds made a b e) l (shelved_adds c d p)
