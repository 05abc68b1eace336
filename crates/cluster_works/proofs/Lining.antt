-- A held request that is in line for what it waits for is watched.
use Rattle.std.proofs.Common.{◌≡◌, ◌≢◌, ◌⊎◌, inl, inr, ℕ, ◌==◌, Bool, true, false, length, List, [], ◌∷◌, Some, refl, sym, ap, ◌∙◌, subst, arith}
use Rattle.std.specs.List.{AllByRecursion as Each}
use Rattle.raft_model.proofs.Tests.{eq_tells}
use Rattle.raft_model.specs.World.{World}
use Rattle.read_watch.specs.Watch as plain
use Rattle.cluster_rules.specs.Cluster.{Pending, Server, Stand, server_of}
use Rattle.cluster_rules.proofs.Tools.{eq_tells_not}
use Rattle.cluster_requests.specs.Requests.{Requests}
use Rattle.cluster_works.specs.Looking.{numbered_in}
use Rattle.cluster_works.specs.Standing.{IsWatched, Stands}
use Rattle.cluster_works.specs.Watching.{IsInLine, MayBeDue, StayInLine, Watching}
use Rattle.cluster_works.proofs.Numbered.{each_numbered}
use Rattle.cluster_works.proofs.Watched.{in_line, others_stand}

some_same : (x y : Pending) → Some x ≡ Some y → x ≡ y
some_same x y e = cc e

-- of a number that one request has, no other is held
only_one : (watch : Watching) (servers : List Server) (all : List Pending) (number : ℕ) (h : Pending) → numbered_in number all ≡ Some h → IsWatched watch (server_of servers h.server).applied h → (held : List Pending)
    → Each (λ (g : Pending). numbered_in g.question.number all ≡ Some g) held → Each (λ (g : Pending). (g.question.number ≢ number) ⊎ IsWatched watch (server_of servers g.server).applied g) held
only_one watch servers all number h found x [] mine = tt
only_one watch servers all number h found x (g ∷ held) mine = (by (g.question.number == number) refl, only_one watch servers all number h found x held mine.1)
  where
    by : (same : Bool) → (g.question.number == number) ≡ same → (g.question.number ≢ number) ⊎ IsWatched watch (server_of servers g.server).applied g
    by false e = inl (eq_tells_not g.question.number number e)
    by true e =
        let is : h ≡ g = some_same h g (sym found ∙ (ap (λ k. numbered_in k all) (sym (eq_tells g.question.number number e)) ∙ mine.0)) in
        inr (subst (λ (y : Pending). IsWatched watch (server_of servers y.server).applied y) is x)

-- It is in line, or there was no memory.
pub lined_stands : (old new : Watching) (w : World) (servers : List Server) (r : Requests) (i number : ℕ) (h : Pending) (stand : Stand) → Stands old w servers r → numbered_in h.question.number r.held ≡ Some h → h.server ≡ i → number ≡ h.question.number → stand ≡ h.stand
    → ((n : ℕ) → n ≢ number → MayBeDue n old → MayBeDue n new) → MayBeDue number new ⊎ IsInLine i number stand new → StayInLine old new → new.watch.servers ≡ old.watch.servers → new.seen ≡ old.seen → Stands new w servers r
lined_stands old new w servers r i number h stand s found here numbered stands up rests stay same seen =
    let within = s.watching.1 in
    others_stand old new w servers r number up (λ j n on until other x. subst (λ (ss : List plain.Sleepers). plain.SleepsAmong n on until (plain.sleepers_of ss j)) (sym same) x) (ap length same)
    (λ j n at other x. inr (stay j n at x)) (omega (arith, seen, within))
    (only_one new servers r.held number h (ap (λ k. numbered_in k r.held) numbered ∙ found) watched r.held (each_numbered r.held s.ascends)) s
  where
    mine : MayBeDue number new ⊎ IsInLine i number stand new → MayBeDue h.question.number new ⊎ IsInLine h.server h.question.number h.stand new
    mine (inl due) = inl (subst (λ k. MayBeDue k new) numbered due)
    mine (inr x) =
        inr (subst (λ k. IsInLine k h.question.number h.stand new) (sym here)
        (subst (λ k. IsInLine i k h.stand new) numbered (subst (λ (y : Stand). IsInLine i number y new) stands x)))

    watched : IsWatched new (server_of servers h.server).applied h
    watched = in_line new (server_of servers h.server).applied h (mine rests)
