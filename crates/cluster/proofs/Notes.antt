-- The request that was noted last takes its number.
use Rattle.std.proofs.Common.{◌≡◌, ℕ, suc, ◌+◌, List, [], ◌∷◌, refl, ap, ◌∙◌, arith}
use Rattle.cat_model.specs.declared.request.Asked.{Asked}
use Rattle.cat_model.specs.declared.request.Draw.{Draw}
use Rattle.cat_model.specs.declared.reply.Mark.{Mark}
use Rattle.cat_model.specs.declared.reply.Mark.TheVariants as mark
use Rattle.raft_model.specs.World.{World}
use Rattle.cluster_rules.specs.Agents.{Agent}
use Rattle.cluster_rules.specs.Cluster.{Server}
use Rattle.cluster_order.specs.Turns.{IsCome, in_place, numbered}
use Rattle.cluster_requests.specs.Past as own
use Rattle.cluster_requests.specs.Past.{IsMadeLast}
use Rattle.cluster_requests.specs.Requests.{Requests, cluster_of, numbered_with}

pub come_made : (agent : ℕ) (asked : Asked) (draw : Draw) (past : List Mark) → IsCome agent asked draw past → IsMadeLast past
come_made agent asked draw [] h = absurd h
come_made agent asked draw (mark.Answered a b c d ∷ past) h = come_made agent asked draw past h
come_made agent asked draw (mark.Made made ∷ past) h = tt
come_made agent asked draw (other ∷ past) h = absurd h

same_place : (m : Mark) (past : List Mark) → own.in_place m past ≡ in_place m past
same_place m [] = refl
same_place m (mark.Answered a b c d ∷ past) = ap (λ l. mark.Answered a b c d ∷ l) (same_place m past)
same_place m (other ∷ past) = refl

pub numbers_by : (w : World) (servers : List Server) (gs : List Agent) (r : Requests) (agent : ℕ) (asked : Asked) (draw : Draw) →
    cluster_of w servers gs (numbered_with agent asked draw r) ≡ numbered agent asked draw (cluster_of w servers gs r)
numbers_by w servers gs r agent asked draw =
    let next : r.asked + 1 ≡ suc r.asked = omega arith in
    ap (λ n. record (cluster_of w servers gs r) { asked = n; past = own.in_place (mark.Asked n agent asked draw) r.past }) next
    ∙ ap (λ (p : List Mark). record (cluster_of w servers gs r) { asked = suc r.asked; past = p }) (same_place (mark.Asked (suc r.asked) agent asked draw) r.past)
