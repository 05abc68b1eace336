-- `new` makes a value of no bytes, with no items.
use mathlib.Core.Path.{refl}
use mathlib.Core.List.{[], ◌∷◌}
use mir.Val.{Val, vstruct, vnil}
use base.Fml.{Fml}
use contract.Running.{tables}
use types.Kit.{‵, raw, ◌⊛◌, ◌$◌, ◌∵◌, !, qed, done, move, keep, split, join, use0, suffices}
use types.Part.{agg}
use types.Run.{enter, no_more, returns}
use types.ByLocal.{alloc_all, pass_all, free_all, look_at, sets}
use denote.RattleType.{owns}
use denote.Shadow.{makes_shadow}
use denote.Signature.{types_at}
use denote.Steps.{nothing}
use denote.Triple.Entry.{alive}
use denote.Triple.Walked.{says, Stays, walk_of, ends_at}
use Rattle.std.proofs.raw_atomic.Walks.{proved}
use Rattle.cluster_requests.specs.contracts.past.Past as Past
use Rattle.cluster_requests.specs.contracts.past.Past.new as f
use Rattle.cluster_requests.proofs.past.Past.new.Statement.{statement}
use Rattle.cluster_requests.proofs.past.Past.new.Code as code

abbrev stayed : Stays f.ended.signature.params f.ended.kept
stayed = tt

pub new_spec : {M : Type 1} → statement M
new_spec 𝓤 𝓛 𝓜 𝓡 wired =
    let c = f.clauses 𝓛 𝓜.mem 𝓡.returns in let W = walk_of 𝓛 f.ended stayed c in let 𝓣 = tables 𝓤 𝓛.H 𝓜 𝓡 𝓡.env in
    proved 𝓛 f.ended stayed c 𝓜 𝓡 tt
    f.Key.name code.function (code.unfolded 𝓤 𝓛.H 𝓜 𝓡 wired)
    (λ κs. tt) (λ κs. tt) (λ κs qs bounds a g are.
    let y : W.Ghost = ((κs, qs, bounds, a, tt), g) in
    let r : Past.the_row.Denot = record { items = [] } in
    let v : Val = vstruct vnil in
    let O : Fml = Past.the_row.own_val r (v ∷ []) in
    qed 𝓛 ((raw (alive 𝓛 f.ended.signature κs qs) ⊛ ‵ (owns (types_at f.ended.signature.params κs) a tt)) ∷ raw ((c κs a).requires g) ∷ []) ∵
    split ! $ keep ! (0 ∷ []) $
    enter ! _ _ _ _ _ $ alloc_all ! (λ l. pass_all ! refl tt $
    sets ! (agg ! (no_more !)) refl (tt, tt) $
    returns ! (look_at ! 0 refl) $ free_all ! refl $
    use0 𝓛 (‵ O) (makes_shadow 𝓛 O ((λ vss. (tt, tt)), tt) ((tt, (refl, tt)), tt)) $
    suffices ! _ (ends_at 𝓛 f.ended stayed c y v r tt tt) $ says ! refl $
    nothing ! $ join ! $ move ! (1 ∷ 0 ∷ []) $ join ! $ done !))
