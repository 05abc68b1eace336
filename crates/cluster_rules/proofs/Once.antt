-- A request is answered at most once, and not while it is held.
use Rattle.std.proofs.Common.{◌≡◌, ℕ, ◌+◌, ◌≤◌, cond, List, [], ◌∷◌, refl, subst, arith}
use Rattle.std.specs.Prelude.{◌==◌}
use Rattle.std.specs.List.{AllByRecursion as Each}
use Rattle.cat_model.specs.declared.reply.Mark.{Mark}
use Rattle.cat_model.specs.declared.reply.Mark.TheVariants as mark
use Rattle.raft_model.proofs.Tests.{at_bool, eq_tells}
use Rattle.cluster_rules.specs.Cluster.{Pending, Cluster}
use Rattle.cluster_rules.specs.Sound.{IsOpen, answers_in}
use Rattle.cluster_rules.specs.Booked.{Booked, IsNumbered, PendingIsBooked}
use Rattle.cluster_rules.proofs.Tools.{each_map}

open_none : (k : ℕ) (past : List Mark) → IsOpen k past → answers_in k past ≡ 0
open_none k [] x = refl
open_none k (mark.Answered number kind known contact ∷ past) x =
    let r = open_none k past x.1 in
    at_bool (λ b. (number == k) ≡ b → cond b 1 0 + answers_in k past ≡ 0) (number == k) (λ _ e. absurd (x.0 (eq_tells number k e))) (λ _ _. omega (arith, r)) refl
open_none k (mark.Asked number agent asked draw ∷ past) x = open_none k past x
open_none k (mark.Made made ∷ past) x = open_none k past x
open_none k (mark.Advanced ms made ∷ past) x = open_none k past x
open_none k (mark.Settled pairs whole ∷ past) x = open_none k past x
open_none k (mark.Halted server ∷ past) x = open_none k past x
open_none k (mark.Entry entry ∷ past) x = open_none k past x
open_none k (mark.Taken number ∷ past) x = open_none k past x

past_once : (k : ℕ) (past : List Mark) → IsNumbered past → answers_in k past ≤ 1
past_once k [] x = omega arith
past_once k (mark.Answered number kind known contact ∷ past) x =
    let r = past_once k past x.1 in
    at_bool (λ b. (number == k) ≡ b → cond b 1 0 + answers_in k past ≤ 1) (number == k)
    (λ _ e. let z = open_none k past (subst (λ y. IsOpen y past) (eq_tells number k e) x.0.1) in omega arith) (λ _ _. omega (arith, r)) refl
past_once k (mark.Asked number agent asked draw ∷ past) x = past_once k past x.1
past_once k (mark.Made made ∷ past) x = past_once k past x
past_once k (mark.Advanced ms made ∷ past) x = past_once k past x
past_once k (mark.Settled pairs whole ∷ past) x = past_once k past x
past_once k (mark.Halted server ∷ past) x = past_once k past x
past_once k (mark.Entry entry ∷ past) x = past_once k past x
past_once k (mark.Taken number ∷ past) x = past_once k past x

pub answered_once : (c : Cluster) → Booked c → (k : ℕ) → answers_in k c.past ≤ 1
answered_once c b k = past_once k c.past b.parts.marks

pub held_unanswered : (c : Cluster) → Booked c → Each (λ (h : Pending). answers_in h.question.number c.past ≡ 0) c.held
held_unanswered c b = each_map (PendingIsBooked c.past) (λ (h : Pending). answers_in h.question.number c.past ≡ 0) (λ h x. open_none h.question.number c.past x.open_) c.held b.parts.held
