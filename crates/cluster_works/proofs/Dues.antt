-- What is due first is due.
use Rattle.std.proofs.Common.{◌≡◌, inl, inr, ℕ, ◌<◌, ◌≤◌, Bool, true, false, cond, List, [], ◌∷◌, length, map, Option, Some, None, Result, Ok, Err, refl, sym, ap, ◌∙◌, subst}
use Rattle.std.specs.Prelude.{OnOk, ◌==◌, ◌&&◌, ◌||◌, is_some, nat_le, nat_lt, not}
use Rattle.cat_model.specs.declared.command.Entry.{Entry}
use Rattle.cat_model.specs.declared.reply.Kind.{Kind}
use Rattle.cat_model.specs.declared.reply.Kind.TheVariants.{At, Refused}
use Rattle.cat_model.specs.declared.reply.Refusal.TheVariants as refusal
use Rattle.cat_model.specs.Indexes.{index_of}
use Rattle.cat_model.specs.Log.{commands_of}
use Rattle.std.specs.List.{AllByRecursion as Each}
use Rattle.raft_model.specs.World.{World}
use Rattle.cluster_rules.specs.Cluster.{AtPlace, Cluster, Ended, ForIndex, InRound, Pending, Server, Stand, applied_of, clock_of, contact_of, knows, node_of, server_of}
use Rattle.cluster_rules.specs.Due.{Work, Replies, Holds, Closes, Applies, answered, applies, asks_read, did, early_stand, early_work, first_work, is_ended, landed, waiting, with_held, IsDue, early, next_one, late}
use Rattle.cluster_rules.specs.Replies.{Question, shown}
use Rattle.cluster_rules.specs.Sound.{Ascends, IsAmong}
use Rattle.cluster_rules.proofs.Cases.{Leaves, due_cases}
use Rattle.cluster_rules.proofs.Works.{ascends_with, each_with}
use Rattle.cluster_replicas.specs.Servers.{Servers}
use Rattle.cluster_requests.specs.declared.content.Content.{Content}
use Rattle.cluster_requests.specs.declared.pending.Stand as own_stand
use Rattle.cluster_requests.specs.Contents.{content_of, stand_of}
use Rattle.cluster_requests.specs.Requests.{Requests, cluster_of as whole_of, restood}
use Rattle.cluster_requests.proofs.Lifting.{restands_by}
use Rattle.cluster_works.specs.declared.work.Work as own
use Rattle.cluster_works.specs.declared.work.Work.TheVariants.{Answer, Hold, Close, Apply}
use Rattle.cluster_works.specs.Looking.{is_early, servers_of}
use Rattle.cluster_works.specs.Standing as standing
use Rattle.cluster_works.specs.Standing.{IsAwaited}
use Rattle.cluster_works.proofs.Finding.{early_is}
use Rattle.cluster_rules.proofs.Steps.{or_left, or_right}
use Rattle.cat_model.specs.declared.request.Asked.{Asked}
use Rattle.cat_model.specs.declared.request.Asked.TheVariants.{Good, Bad}
use Rattle.cat_model.specs.declared.request.Request.TheVariants.{Read, Execute, Write, Renew, Agent as AsksAgent}
use Rattle.cat_model.specs.Taken.{IsTakenAsked}
use Rattle.cluster_works.specs.Working.{DidWork, IsWork, closed, whole}
use Rattle.cluster_works.specs.Watching.{MayBeDue, Watching}

module _ (wt : Watching) where
  -- the cluster of these parts, whose agents are left out
  abbrev cluster_of : World → List Server → Requests → Cluster
  cluster_of w servers r = whole_of w servers [] r

  abbrev Stands : World → List Server → Requests → Type 0
  Stands w servers r = standing.Stands wt w servers r

  abbrev IsHeld : List Server → ℕ → Pending → Type 0
  IsHeld servers asked h = standing.IsHeld wt servers asked h

  -- A position is applied only where no held request has something due before.
  applies_not : Option Work → Bool
  applies_not None = true
  applies_not (Some (Replies q kind)) = true
  applies_not (Some (Holds h)) = true
  applies_not (Some (Closes number event)) = true
  applies_not (Some Applies) = false

  either_not : (b : Bool) (x y : Option Work) → applies_not x ≡ true → applies_not y ≡ true → applies_not (cond b x y) ≡ true
  either_not true x y p q = p
  either_not false x y p q = q

  read_not : (c : Cluster) (i : ℕ) (h : Pending) (others deadline : ℕ) (looked : Bool) (asked : Asked) → applies_not (asks_read h others (clock_of c.world i) (applied_of c i) deadline looked asked) ≡ true
  unfolding applies_not
  read_not c i h others deadline looked (Good (Read query mode least wait raw)) =
      let index = index_of query (commands_of (applied_of c i)) in
      let clock = clock_of c.world i in
      let answers : Option Work = Some (Replies h.question (At mode (length (applied_of c i)) index clock deadline)) in
      let refuses : Option Work = Some (Replies h.question (Refused (refusal.TooMany others))) in
      let holds : Option Work = Some (Holds (record h { stand = ForIndex deadline true })) in
      either_not (nat_lt least index || nat_le deadline clock) answers (cond looked None (cond (nat_le 4096 others) refuses holds)) refl
      (either_not looked None (cond (nat_le 4096 others) refuses holds) refl (either_not (nat_le 4096 others) refuses holds refl refl))
  read_not c i h others deadline looked (Good (Execute name limit mode)) = refl
  read_not c i h others deadline looked (Good (Write command)) = refl
  read_not c i h others deadline looked (Good (Renew id)) = refl
  read_not c i h others deadline looked (Good (AsksAgent op)) = refl
  read_not c i h others deadline looked (Bad why) = refl

  stand_not : (c : Cluster) (i : ℕ) (h : Pending) (s : Stand) → applies_not (early_stand c i h s) ≡ true
  unfolding applies_not
  stand_not c i h (Ended event) = refl
  stand_not c i h (AtPlace index term) = either_not (nat_le index (length (applied_of c i))) (Some (Replies h.question (landed index term (applied_of c i)))) None refl refl
  stand_not c i h (InRound round deadline) = either_not (nat_lt round.term (node_of c.world i).term) (Some (Replies h.question (Refused (refusal.Lost round.term (node_of c.world i).term)))) None refl refl
  stand_not c i h (ForIndex deadline looked) = read_not c i h (waiting i c.held) deadline looked h.question.asked

  early_not : (c : Cluster) (i : ℕ) (h : Pending) → applies_not (early_work c i h) ≡ true
  unfolding applies_not
  early_not c i h =
      let halts : Option Work = Some (Replies h.question (Refused (refusal.Halted i))) in
      let down = (node_of c.world i).halted && not (is_ended h.stand) in
      either_not (h.server == i) (cond down halts (early_stand c i h h.stand)) None (either_not down halts (early_stand c i h h.stand) refl (stand_not c i h h.stand)) refl

  no_early : (c : Cluster) (i : ℕ) (h : Pending) → early_work c i h ≡ Some Applies → ⊥
  unfolding applies_not
  no_early c i h e = cc (ap applies_not e, early_not c i h)

  applies_alone : (c : Cluster) (i : ℕ) → IsDue i c Applies → first_work (early_work c i) c.held ≡ None
  applies_alone c i (early before after h there e) = absurd (no_early c i h e)
  applies_alone c i (next_one none e) = none
  applies_alone c i (late none next before after h there e) = none

  none_test : (c : Cluster) (i : ℕ) (held : List Pending) → first_work (early_work c i) held ≡ None → Each (λ (h : Pending). is_early (servers_of c) i h ≡ false) held
  none_test c i [] e = tt
  none_test c i (h ∷ held) e = (early_is c i h ∙ ap is_some (or_left (early_work c i h) (first_work (early_work c i) held) e), none_test c i held (or_right (early_work c i h) (first_work (early_work c i) held) e))

  pub none_before : (c : Cluster) (i : ℕ) → IsDue i c Applies → Each (λ (h : Pending). is_early (servers_of c) i h ≡ false) c.held
  none_before c i d = none_test c i c.held (applies_alone c i d)

  -- only the next position is applied
  abbrev AppliesNext : Cluster → ℕ → Work → Type 0
  AppliesNext c i Applies = length (applied_of c i) < (node_of c.world i).commit
  AppliesNext c i other = Unit {0}

  anything : (c : Cluster) (i : ℕ) (h : Pending) → Leaves c i (AppliesNext c i) h
  anything c i h = record {
    halted = λ _ _. tt;
    closes = λ _ _. tt;
    lands = λ _ _ _ _. tt;
    rises = λ _ _ _ _. tt;
    answers = λ _ _ _ _ _ _ _ _ _ _. tt;
    refuses = λ _ _ _ _ _ _ _ _ _ _ _. tt;
    sees = λ _ _ _ _ _ _ _ _ _. tt;
    runs = λ _ _ _ _ _ _ _. tt;
    turns = λ _ _ _ _ _ _. tt;
  }

  all_held : (hs : List Pending) → Each (λ (h : Pending). Unit {0}) hs
  all_held [] = tt
  all_held (h ∷ hs) = (tt, all_held hs)

  pub applies_next : (c : Cluster) (i : ℕ) → IsDue i c Applies → length (applied_of c i) < (node_of c.world i).commit
  applies_next c i d = due_cases c i (AppliesNext c i) (λ h. Unit {0}) (all_held c.held) (λ h _ _. anything c i h) (λ l. l) Applies d

  -- the work that was found is due
  abbrev Found : Cluster → ℕ → own.Work → Type 0
  Found c i work = (w : Work) × IsDue i c w × IsWork (applied_of c i) work w

  apply_by : (c : Cluster) (i : ℕ) (w : Work) → IsWork (applied_of c i) Apply w → IsDue i c w → IsDue i c Applies
  apply_by c i Applies f d = d
  apply_by c i (Replies q kind) f d = absurd f
  apply_by c i (Holds h) f d = absurd f
  apply_by c i (Closes number event) f d = absurd f

  pub apply_due : (c : Cluster) (i : ℕ) (work : own.Work) → Found c i work → work ≡ Apply → IsDue i c Applies
  apply_due c i work found is = apply_by c i found.0 (subst (λ x. IsWork (applied_of c i) x found.0) is found.2) found.1

  -- A request that is held on is one that was held, with another stand.
  record HoldsOn (c : Cluster) (h : Pending) : Type 0 where
    from : Pending
    among : IsAmong from c.held
    is : h ≡ record from { stand = h.stand }
    numbered : h.question.number ≤ c.asked
    taken : IsTakenAsked h.question.asked
    awaited : IsAwaited (length (server_of c.servers h.server).applied) h.stand

  abbrev HoldsRight : Cluster → Work → Type 0
  HoldsRight c (Holds h) = HoldsOn c h
  HoldsRight c other = Unit {0}

  abbrev IsHeldThere : Cluster → Pending → Type 0
  IsHeldThere c h = IsAmong h c.held × IsHeld c.servers c.asked h

  held_for : (c : Cluster) (h : Pending) (deadline : ℕ) (looked : Bool) → IsHeldThere c h → HoldsOn c (record h { stand = ForIndex deadline looked })
  held_for c h deadline looked x = record {
    from = h;
    among = x.0;
    is = refl;
    numbered = x.1.numbered;
    taken = x.1.taken;
    awaited = tt;
  }

  leaves_right : (c : Cluster) (i : ℕ) (h : Pending) → IsHeldThere c h → h.server ≡ i → Leaves c i (HoldsRight c) h
  leaves_right c i h x here = record {
    halted = λ _ _. tt;
    closes = λ _ _. tt;
    lands = λ _ _ _ _. tt;
    rises = λ _ _ _ _. tt;
    answers = λ _ _ _ _ _ _ _ _ _ _. tt;
    refuses = λ _ _ _ _ _ _ _ _ _ _ _. tt;
    sees = λ deadline query mode least wait raw st ask low. held_for c h deadline true x;
    runs = λ _ _ _ _ _ _ _. tt;
    turns = λ round deadline st up confirmed reached. held_for c h deadline false x;
  }

  all_there : (c : Cluster) (held : List Pending) → ((h : Pending) → IsAmong h held → IsAmong h c.held) → Each (IsHeld c.servers c.asked) held → Each (IsHeldThere c) held
  all_there c [] among all = tt
  all_there c (h ∷ held) among all = ((among h (inl refl), all.0), all_there c held (λ g a. among g (inr a)) all.1)

  holds_on : (c : Cluster) (i : ℕ) (h : Pending) → Each (IsHeld c.servers c.asked) c.held → IsDue i c (Holds h) → HoldsOn c h
  holds_on c i h all d = due_cases c i (HoldsRight c) (IsHeldThere c) (all_there c c.held (λ _ a. a) all) (leaves_right c i) (λ _. tt) (Holds h) d

  module _ (w : World) (servers : List Server) (r : Requests) (s : Stands w servers r) (i : ℕ) (h : Pending) (due_now : IsDue i (cluster_of w servers r) (Holds h)) (number : ℕ) (stand : Stand) (n : number ≡ h.question.number) (same : stand ≡ h.stand) where
    on : HoldsOn (cluster_of w servers r) h
    on = holds_on (cluster_of w servers r) i h s.held due_now

    pub restood_is : map (restood number stand) r.held ≡ with_held h r.held
    restood_is =
        let from : on.from.question.number ≡ number = sym (n ∙ ap (λ (g : Pending). g.question.number) on.is) in
        let is : record on.from { stand = stand } ≡ h = ap (λ (t : Stand). record on.from { stand = t }) same ∙ sym on.is in
        ap (λ k. map (restood k stand) r.held) (sym from) ∙ restands_by on.from stand r.held s.ascends on.among ∙ ap (λ (g : Pending). with_held g r.held) is

    -- something may be due of it, so that it is watched wherever it stands
    held_on : MayBeDue number wt → IsHeld servers r.asked h
    held_on awake = record { numbered = on.numbered; taken = on.taken; awaited = on.awaited; watched = inl (subst (λ k. MayBeDue k wt) n awake) }

    pub restood_stands : MayBeDue number wt → Stands w servers (record r { held = map (restood number stand) r.held })
    restood_stands awake = record {
      some = s.some;
      count = s.count;
      watching = s.watching;
      proposed = s.proposed;
      ascends = subst Ascends (sym restood_is) (ascends_with h r.held s.ascends);
      held = subst (Each (IsHeld servers r.asked)) (sym restood_is) (each_with (IsHeld servers r.asked) h r.held (held_on awake) s.held);
    }

  pub restand_stands : (w : World) (servers : List Server) (r new : Requests) (c : Cluster) (number : ℕ) (stand : Stand) → Stands w servers r → cluster_of w servers r ≡ c
      → (i : ℕ) (h : Pending) → IsDue i c (Holds h) → number ≡ h.question.number → stand ≡ h.stand → MayBeDue number wt → new ≡ record r { held = map (restood number stand) r.held } → Stands w servers new
  restand_stands w servers r new c number stand s view i h e n same awake is =
      subst (Stands w servers) (sym is) (restood_stands w servers r s i h (subst (λ (d : Cluster). IsDue i d (Holds h)) (sym view) e) number stand n same awake)

  pub restand_is : (w : World) (servers : List Server) (r new : Requests) (c : Cluster) (number : ℕ) (stand : Stand) → Stands w servers r → cluster_of w servers r ≡ c → new ≡ record r { held = map (restood number stand) r.held }
      → (i : ℕ) (h : Pending) → IsDue i c (Holds h) → number ≡ h.question.number → stand ≡ h.stand → cluster_of w servers new ≡ record c { held = with_held h c.held }
  restand_is w servers r new c number stand s view is i h e n same =
      ap (cluster_of w servers) is
      ∙ ap (λ (l : List Pending). cluster_of w servers (record r { held = l })) (restood_is w servers r s i h (subst (λ (d : Cluster). IsDue i d (Holds h)) (sym view) e) number stand n same)
      ∙ ap (λ (d : Cluster). record d { held = with_held h d.held }) view

  -- what each of them did
  abbrev AnswerDone : Cluster → Cluster → ℕ → ℕ → Kind → Content → Type 0
  AnswerDone c new i number kind content =
      (q : Question) → number ≡ q.number → content_of content ≡ shown q kind (applied_of c i) → new ≡ answered q kind (knows c.world i kind) (contact_of c.world i kind) (applied_of c i) c

  answer_of : (c new : Cluster) (i number : ℕ) (kind : Kind) (content : Content) → AnswerDone c new i number kind content → (w : Work) → IsWork (applied_of c i) (Answer number kind content) w → new ≡ did i w c
  unfolding did
  answer_of c new i number kind content done (Replies q k) f =
      done q f.0 (f.2 ∙ ap (λ x. shown q x (applied_of c i)) (sym f.1))
      ∙ ap (λ x. answered q x (knows c.world i x) (contact_of c.world i x) (applied_of c i) c) f.1
  answer_of c new i number kind content done (Holds h) f = absurd f
  answer_of c new i number kind content done (Closes n event) f = absurd f
  answer_of c new i number kind content done Applies f = absurd f

  hold_of : (c new : Cluster) (i number : ℕ) (stand : own_stand.Stand) → ((h : Pending) → IsDue i c (Holds h) → number ≡ h.question.number → stand_of stand ≡ h.stand → new ≡ record c { held = with_held h c.held })
      → (w : Work) → IsDue i c w → IsWork (applied_of c i) (Hold number stand) w → new ≡ did i w c
  unfolding did
  hold_of c new i number stand done (Holds h) e f = done h e f.0 f.1
  hold_of c new i number stand done (Replies q k) e f = absurd f
  hold_of c new i number stand done (Closes n m) e f = absurd f
  hold_of c new i number stand done Applies e f = absurd f

  close_of : (c new : Cluster) (i number event : ℕ) → new ≡ closed number event c → (w : Work) → IsWork (applied_of c i) (Close number event) w → new ≡ did i w c
  unfolding did
  close_of c new i number event done (Closes n m) f = done ∙ ap (λ x. closed x event c) f.0 ∙ ap (λ x. closed n x c) f.1
  close_of c new i number event done (Replies q k) f = absurd f
  close_of c new i number event done (Holds h) f = absurd f
  close_of c new i number event done Applies f = absurd f

  apply_of : (c new : Cluster) (i : ℕ) → new ≡ applies i c → (w : Work) → IsWork (applied_of c i) Apply w → new ≡ did i w c
  unfolding did
  apply_of c new i done Applies f = done
  apply_of c new i done (Replies q k) f = absurd f
  apply_of c new i done (Holds h) f = absurd f
  apply_of c new i done (Closes n m) f = absurd f

  does : (c new : Cluster) (i : ℕ) (work known : own.Work) → Found c i work → work ≡ known → ((w : Work) → IsDue i c w → IsWork (applied_of c i) known w → new ≡ did i w c) → DidWork i work c new
  does c new i work known found is done = (found.0, found.1, done found.0 found.1 (subst (λ x. IsWork (applied_of c i) x found.0) is found.2), found.2)

  pub answer_done : {A B : Type 0} (c new : Cluster) (i : ℕ) (work : own.Work) (number : ℕ) (kind : Kind) (content : Content) (result : Result A B) → Found c i work → work ≡ Answer number kind content
      → OnOk result (AnswerDone c new i number kind content) → OnOk result (DidWork i work c new)
  answer_done c new i work number kind content (Err b) found is done = tt
  answer_done c new i work number kind content (Ok a) found is done = does c new i work (Answer number kind content) found is (λ w _. answer_of c new i number kind content done w)

  -- the work that is to hold a request on is due
  hold_by : (c : Cluster) (i number : ℕ) (stand : own_stand.Stand) (w : Work) → IsDue i c w → IsWork (applied_of c i) (Hold number stand) w → (k : ℕ) × (h : Pending) × IsDue k c (Holds h) × (number ≡ h.question.number) × (stand_of stand ≡ h.stand)
  hold_by c i number stand (Holds h) e f = (i, h, e, f.0, f.1)
  hold_by c i number stand (Replies q k) e f = absurd f
  hold_by c i number stand (Closes n m) e f = absurd f
  hold_by c i number stand Applies e f = absurd f

  pub hold_due : (c : Cluster) (i : ℕ) (work : own.Work) (number : ℕ) (stand : own_stand.Stand) → Found c i work → work ≡ Hold number stand → (k : ℕ) × (h : Pending) × IsDue k c (Holds h) × (number ≡ h.question.number) × (stand_of stand ≡ h.stand)
  hold_due c i work number stand found is = hold_by c i number stand found.0 found.1 (subst (λ x. IsWork (applied_of c i) x found.0) is found.2)

  pub hold_done : (c new : Cluster) (i : ℕ) (work : own.Work) (number : ℕ) (stand : own_stand.Stand) → Found c i work → work ≡ Hold number stand
      → ((k : ℕ) (h : Pending) → IsDue k c (Holds h) → number ≡ h.question.number → stand_of stand ≡ h.stand → new ≡ record c { held = with_held h c.held }) → DidWork i work c new
  hold_done c new i work number stand found is done = does c new i work (Hold number stand) found is (hold_of c new i number stand (done i))

  pub close_done : {A B : Type 0} (c new : Cluster) (i : ℕ) (work : own.Work) (number event : ℕ) (result : Result A B) → Found c i work → work ≡ Close number event
      → OnOk result (new ≡ closed number event c) → OnOk result (DidWork i work c new)
  close_done c new i work number event (Err b) found is done = tt
  close_done c new i work number event (Ok a) found is done = does c new i work (Close number event) found is (λ w _. close_of c new i number event done w)

  pub apply_done : {A B : Type 0} (c new : Cluster) (i : ℕ) (work : own.Work) (result : Result A B) → Found c i work → work ≡ Apply
      → OnOk result (new ≡ applies i c) → OnOk result (DidWork i work c new)
  apply_done c new i work (Err b) found is done = tt
  apply_done c new i work (Ok a) found is done = does c new i work Apply found is (λ w _. apply_of c new i done w)

  -- an answer that was put out is the one of the rules
  pub answer_told : {A B : Type 0} (s : Servers) (r new : Requests) (i number : ℕ) (kind : Kind) (known : Bool) (contact : ℕ) (content : Content) (result : Result A B) → known ≡ knows s.world i kind → contact ≡ contact_of s.world i kind
      → OnOk result ((w : World) (servers : List Server) (log : List Entry) (q : Question) → number ≡ q.number → content_of content ≡ shown q kind log → cluster_of w servers new ≡ answered q kind known contact log (cluster_of w servers r))
      → OnOk result (AnswerDone (whole s r) (whole s new) i number kind content)
  answer_told s r new i number kind known contact content (Err b) k c told = tt
  answer_told s r new i number kind known contact content (Ok a) k c told =
      λ q n shows. told s.world s.servers (applied_of (whole s r) i) q n shows
      ∙ ap (λ (b : Bool). answered q kind b contact (applied_of (whole s r) i) (whole s r)) k
      ∙ ap (λ (m : ℕ). answered q kind (knows s.world i kind) m (applied_of (whole s r) i) (whole s r)) c

  -- a closing that was put out, beside these servers
  pub closed_told : {A B : Type 0} (P : World → List Server → Type 0) (result : Result A B) (w : World) (servers : List Server) → OnOk result ((w : World) (servers : List Server) → P w servers) → OnOk result (P w servers)
  closed_told P (Err b) w servers told = tt
  closed_told P (Ok a) w servers told = told w servers
