-- A request that was just asked, and its way.
use Rattle.std.proofs.Common.{◌≡◌, ◌≢◌, ℕ, ◌<◌, inr, Bool, true, false, cond, List, length, refl, sym, ◌∙◌, ap, subst, arith, Option, Some, None}
use Rattle.std.specs.Prelude.{◌||◌}
use Rattle.std.specs.List.{AllByRecursion as Each}
use Rattle.cat_model.specs.Role.{leads as is_leading}
use Rattle.cat_model.specs.declared.request.Mode.TheVariants.{Default, Consistent, Stale}
use Rattle.cat_model.specs.declared.request.Request.TheVariants.{Read, Execute, Write, Renew, Agent}
use Rattle.cat_model.specs.declared.request.Asked.{Asked}
use Rattle.cat_model.specs.declared.request.Asked.TheVariants.{Good, Bad}
use Rattle.cat_model.specs.declared.reply.Kind.TheVariants.{Refused}
use Rattle.cat_model.specs.declared.reply.Refusal.{Refusal}
use Rattle.cat_model.specs.declared.reply.Refusal.TheVariants as refusal
use Rattle.raft_model.specs.World.{World, IsReached}
use Rattle.raft_model.proofs.Tests.{at_bool}
use Rattle.cluster_rules.specs.Replies.{Question, came}
use Rattle.cluster_rules.specs.Lasting.{is_stale, IsRefused}
use Rattle.cluster_rules.specs.Cluster.{Pending, Start, Cluster, node_of, runs_leading}
use Rattle.cluster_rules.specs.Due.{Work, Replies, Holds, Closes, Applies, did, IsDue, Works, none, work}
use Rattle.cluster_rules.specs.Requests.{Way, Answers, Goes, to_leader, way_of, way, is_stale_read}
use Rattle.cluster_rules.specs.Sound.{IsAmong, IsOpen, entries_before, RestsOn, LostFor}
use Rattle.cluster_rules.proofs.Boundary.{not_leading}
use Rattle.cluster_rules.proofs.Cases.{Leaves, due_cases}
use Rattle.cluster_rules.proofs.Tools.{neither}
use Rattle.cluster_rules.proofs.Works.{each_kept, each_with}

-- before its event has held or answered it
pub record IsJustAsked (c : Cluster) (q : Question) : Type 0 where
  pub was : IsAmong (came q) c.past
  pub open_ : IsOpen q.number c.past
  pub above : Each (λ (h : Pending). h.question.number < q.number) c.held
  pub number : q.number ≡ c.asked

-- in a sound cluster
pub record AskIsNew (c : Cluster) (q : Question) : Type 0 where
  pub now : IsJustAsked c q
  pub before : entries_before q.number c.past ≡ length c.world.agreed
  pub numbers : c.world.greatest < q.number

-- a work for another request
abbrev pub WorkIsNot : ℕ → Work → Type 0
WorkIsNot n (Replies q kind) = q.number ≢ n
WorkIsNot n (Holds h) = h.question.number < n
WorkIsNot n (Closes number event) = number ≢ n
WorkIsNot n Applies = Unit {0}

pub due_not : (n : ℕ) (c : Cluster) (i : ℕ) → Each (λ (h : Pending). h.question.number < n) c.held → (w : Work) → IsDue i c w → WorkIsNot n w
due_not n c i a w e = due_cases c i (WorkIsNot n) (λ (h : Pending). h.question.number < n) a leaves (λ _. tt) w e
  where
    leaves : (h : Pending) → h.question.number < n → h.server ≡ i → Leaves c i (WorkIsNot n) h
    leaves h l at = record {
      halted = λ _ _. other;
      closes = λ _ _. other;
      lands = λ _ _ _ _. other;
      rises = λ _ _ _ _. other;
      answers = λ _ _ _ _ _ _ _ _ _ _. other;
      refuses = λ _ _ _ _ _ _ _ _ _ _ _. other;
      sees = λ _ _ _ _ _ _ _ _ _. l;
      runs = λ _ _ _ _ _ _ _. other;
      turns = λ _ _ _ _ _ _. l;
    }
      where
        other : h.question.number ≢ n
        other = λ e. omega arith

-- what is done for others leaves a new request new
did_asked : (c : Cluster) (q : Question) → IsJustAsked c q → (i : ℕ) (w : Work) → WorkIsNot q.number w → IsJustAsked (did i w c) q
unfolding did
did_asked c q a i (Replies r kind) d = record { was = inr a.was; open_ = (d, a.open_); above = each_kept (λ (h : Pending). h.question.number < q.number) r.number c.held a.above; number = a.number }
did_asked c q a i (Holds h) d = record { was = a.was; open_ = a.open_; above = each_with (λ (h : Pending). h.question.number < q.number) h c.held d a.above; number = a.number }
did_asked c q a i (Closes number event) d = record { was = a.was; open_ = a.open_; above = each_kept (λ (h : Pending). h.question.number < q.number) number c.held a.above; number = a.number }
did_asked c q a i Applies d = record { was = a.was; open_ = a.open_; above = a.above; number = a.number }

pub works_asked : (i : ℕ) (c c' : Cluster) → Works i c c' → (q : Question) → IsJustAsked c q → IsJustAsked c' q
works_asked i c c' none q a = a
works_asked i c c' (work w e more) q a = works_asked i (did i w c) c' more q (did_asked c q a i w (due_not q.number c i a.above w e))

did_before : (c : Cluster) (n : ℕ) (i : ℕ) (w : Work) → (entries_before n (did i w c).past ≡ entries_before n c.past) × ((did i w c).world ≡ c.world)
unfolding did
did_before c n i (Replies r kind) = (refl, refl)
did_before c n i (Holds h) = (refl, refl)
did_before c n i (Closes number event) = (refl, refl)
did_before c n i Applies = (refl, refl)

did_new : (c : Cluster) (q : Question) → AskIsNew c q → (i : ℕ) (w : Work) → WorkIsNot q.number w → AskIsNew (did i w c) q
did_new c q a i w d = let e = did_before c q.number i w in record {
  now = did_asked c q a.now i w d;
  before = e.0 ∙ a.before ∙ sym (ap (λ (z : World). length z.agreed) e.1);
  numbers = subst (λ (z : World). z.greatest < q.number) (sym e.1) a.numbers;
}

pub works_new : (i : ℕ) (c c' : Cluster) → Works i c c' → (q : Question) → AskIsNew c q → AskIsNew c' q
works_new i c c' none q a = a
works_new i c c' (work w e more) q a = works_new i (did i w c) c' more q (did_new c q a i w (due_not q.number c i a.now.above w e))

-- Ways.
some_goes : (i j : ℕ) → Some (Goes i) ≡ Some (Goes j) → i ≡ j
some_goes i j e = cc e

no_goes : (why : Refusal) (j : ℕ) → Some (Answers why) ≡ Some (Goes j) → ⊥
no_goes why j e = cc e

some_answers : (a b : Refusal) → Some (Answers a) ≡ Some (Answers b) → a ≡ b
some_answers a b e = cc e

no_answers : (i : ℕ) (b : Refusal) → Some (Goes i) ≡ Some (Answers b) → ⊥
no_answers i b e = cc e

no_way : (x : Way) → None ≡ Some x → ⊥
no_way x e = cc e

-- a request that isn't stale goes to a leading server alone
leads_at : (w : World) (a i : ℕ) → Some (way_of w a false) ≡ Some (Goes i) → runs_leading w i ≡ true
leads_at w a i =
    at_bool (λ b. Some (cond b (Answers (refusal.Halted a)) (cond (false || runs_leading w a) (Goes a) (to_leader w a (node_of w a).leader))) ≡ Some (Goes i) → runs_leading w i ≡ true) (node_of w a).halted
    (λ _ e. absurd (no_goes _ i e))
    (λ _. at_bool (λ b. runs_leading w a ≡ b → Some (cond b (Goes a) (to_leader w a (node_of w a).leader)) ≡ Some (Goes i) → runs_leading w i ≡ true) (runs_leading w a)
    (λ _ l e. subst (λ z. runs_leading w z ≡ true) (some_goes a i e) l)
    (λ _ _. led (node_of w a).leader) refl)
  where
    led : (o : Option ℕ) → Some (to_leader w a o) ≡ Some (Goes i) → runs_leading w i ≡ true
    led None = λ e. absurd (no_goes _ i e)
    led (Some l) = at_bool (λ b. runs_leading w l ≡ b → Some (cond b (Goes l) (Answers (refusal.NoLeader (node_of w a).term (node_of w a).role (Some (record { server = l; term = (node_of w l).term; role = (node_of w l).role }))))) ≡ Some (Goes i) → runs_leading w i ≡ true) (runs_leading w l)
        (λ _ r e. subst (λ z. runs_leading w z ≡ true) (some_goes l i e) r)
        (λ _ _ e. absurd (no_goes _ i e)) refl

pub goes_leading : (w : World) (a i : ℕ) (asked : Asked) → way w a asked ≡ Some (Goes i) → is_stale_read asked ≡ false → runs_leading w i ≡ true
goes_leading w a i (Good (Read query Default least wait raw)) e st = leads_at w a i e
goes_leading w a i (Good (Read query Consistent least wait raw)) e st = leads_at w a i e
goes_leading w a i (Good (Read query Stale least wait raw)) e st = absurd (cc st)
goes_leading w a i (Good (Write command)) e st = leads_at w a i e
goes_leading w a i (Good (Execute name limit Default)) e st = leads_at w a i e
goes_leading w a i (Good (Execute name limit Consistent)) e st = leads_at w a i e
goes_leading w a i (Good (Execute name limit Stale)) e st = absurd (cc st)
goes_leading w a i (Good (Renew id)) e st = leads_at w a i e
goes_leading w a i (Good (Agent op)) e st = absurd (no_way _ e)
goes_leading w a i (Bad why) e st = absurd (no_goes why i e)

-- one that goes to a server that isn't ready
pub unready_refused : (w : World) (a i : ℕ) (asked : Asked) (term applied : ℕ) → way w a asked ≡ Some (Goes i) → is_stale_read asked ≡ false → applied < term → IsRefused asked (refusal.NotReady term applied)
unready_refused w a i (Good (Read query mode least wait raw)) term applied e st l = (st, l)
unready_refused w a i (Good (Write command)) term applied e st l = l
unready_refused w a i (Good (Execute name limit mode)) term applied e st l = (st, l)
unready_refused w a i (Good (Renew id)) term applied e st l = (refl, l)
unready_refused w a i (Good (Agent op)) term applied e st l = absurd (no_way _ e)
unready_refused w a i (Bad why) term applied e st l = absurd (no_goes why i e)

-- What a request that is answered at once is answered: a halted server, or none that leads.
pub record AtOnce (w : World) (stale : Bool) (why : Refusal) (P : Refusal → Type 0) : Type 0 where
  pub halted : (a : ℕ) → P (refusal.Halted a)
  pub none : stale ≡ false → (a : ℕ) → is_leading (node_of w a).role ≡ false → P (refusal.NoLeader (node_of w a).term (node_of w a).role None)
  pub held : stale ≡ false → (a l : ℕ) → is_leading (node_of w a).role ≡ false → is_leading (node_of w l).role ≡ false →
      P (refusal.NoLeader (node_of w a).term (node_of w a).role (Some (record { server = l; term = (node_of w l).term; role = (node_of w l).role })))

pub at_once : (w : World) → IsReached w → (a : ℕ) (stale : Bool) (why : Refusal) (P : Refusal → Type 0) → AtOnce w stale why P → Some (way_of w a stale) ≡ Some (Answers why) → P why
at_once w r a stale why P x =
    at_bool (λ b. Some (cond b (Answers (refusal.Halted a)) (cond (stale || runs_leading w a) (Goes a) (to_leader w a (node_of w a).leader))) ≡ Some (Answers why) → P why) (node_of w a).halted
    (λ _ e. subst P (some_answers _ why e) (x.halted a))
    (λ _. at_bool (λ b. (stale || runs_leading w a) ≡ b → Some (cond b (Goes a) (to_leader w a (node_of w a).leader)) ≡ Some (Answers why) → P why) (stale || runs_leading w a)
    (λ _ _ e. absurd (no_answers a why e))
    (λ _ f. let n = neither stale (runs_leading w a) f in led n.0 (not_leading w r a n.1) (node_of w a).leader) refl)
  where
    led : stale ≡ false → is_leading (node_of w a).role ≡ false → (o : Option ℕ) → Some (to_leader w a o) ≡ Some (Answers why) → P why
    led st d None = λ e. subst P (some_answers _ why e) (x.none st a d)
    led st d (Some l) = at_bool (λ b. runs_leading w l ≡ b → Some (cond b (Goes l) (Answers (refusal.NoLeader (node_of w a).term (node_of w a).role (Some (record { server = l; term = (node_of w l).term; role = (node_of w l).role }))))) ≡ Some (Answers why) → P why) (runs_leading w l)
        (λ _ _ e. absurd (no_answers l why e))
        (λ _ f e. subst P (some_answers _ why e) (x.held st a l d (not_leading w r l f))) refl

-- it is refused rightly, and lost nothing
abbrev pub IsRightRefusal : Question → Asked → Refusal → Type 0
IsRightRefusal q asked why = IsRefused asked why × ((w : World) (starts : List Start) → q.asked ≡ asked → RestsOn w starts q (Refused why))

bad_rests : (q : Question) (why : Refusal) (w : World) (starts : List Start) → q.asked ≡ Bad why → RestsOn w starts q (Refused why)
bad_rests q (refusal.Lost old found) w starts e = subst (λ z. LostFor w starts q z old found) (sym e) tt
bad_rests q other w starts e = tt

pub now_refused : (w : World) → IsReached w → (a : ℕ) (q : Question) (asked : Asked) (why : Refusal) → way w a asked ≡ Some (Answers why) → IsRightRefusal q asked why
now_refused w r a q (Bad b) why e = subst (IsRightRefusal q (Bad b)) (some_answers b why e) (refl, bad_rests q b)
now_refused w r a q (Good (Read query mode least wait raw)) why e = at_once w r a (is_stale mode) why (IsRightRefusal q (Good (Read query mode least wait raw))) (record {
  halted = λ b. (tt, λ _ _ _. tt);
  none = λ st b d. ((st, d, tt), λ _ _ _. tt);
  held = λ st b l d f. ((st, d, f), λ _ _ _. tt);
}) e
now_refused w r a q (Good (Write command)) why e = at_once w r a false why (IsRightRefusal q (Good (Write command))) (record {
  halted = λ b. (tt, λ _ _ _. tt);
  none = λ st b d. ((d, tt), λ _ _ _. tt);
  held = λ st b l d f. ((d, f), λ _ _ _. tt);
}) e
now_refused w r a q (Good (Execute name limit mode)) why e = at_once w r a (is_stale mode) why (IsRightRefusal q (Good (Execute name limit mode))) (record {
  halted = λ b. (tt, λ _ _ _. tt);
  none = λ st b d. ((st, d, tt), λ _ _ _. tt);
  held = λ st b l d f. ((st, d, f), λ _ _ _. tt);
}) e
now_refused w r a q (Good (Renew id)) why e = at_once w r a false why (IsRightRefusal q (Good (Renew id))) (record {
  halted = λ b. (tt, λ _ _ _. tt);
  none = λ st b d. ((st, d, tt), λ _ _ _. tt);
  held = λ st b l d f. ((st, d, f), λ _ _ _. tt);
}) e
now_refused w r a q (Good (Agent op)) why e = absurd (no_way _ e)
