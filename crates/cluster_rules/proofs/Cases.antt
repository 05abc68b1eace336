-- All the ways in which something is due at a server, for any fact on works.
use Rattle.std.proofs.Common.{◌≡◌, ℕ, ◌<◌, ◌≤◌, ◌⊎◌, inl, inr, Bool, true, false, cond, not, List, length, refl, subst, Option, Some, None}
use Rattle.std.specs.Prelude.{◌==◌, nat_lt, nat_le, ◌&&◌, ◌||◌}
use Rattle.std.specs.List.{AllByRecursion as Each}
use Rattle.cat_model.specs.declared.query.Query.{Query}
use Rattle.cat_model.specs.declared.request.Mode.{Mode}
use Rattle.cat_model.specs.declared.request.Request.TheVariants.{Read, Execute, Write, Renew, Agent}
use Rattle.cat_model.specs.declared.request.Asked.{Asked}
use Rattle.cat_model.specs.declared.request.Asked.TheVariants.{Good, Bad}
use Rattle.cat_model.specs.declared.reply.Kind.TheVariants.{At, Seen, Refused}
use Rattle.cat_model.specs.declared.reply.Refusal.TheVariants as refusal
use Rattle.cat_model.specs.Indexes.{index_of}
use Rattle.cat_model.specs.Log.{commands_of}
use Rattle.raft_model.specs.declared.message.Round.{Round}
use Rattle.raft_model.specs.Rules.{is_confirmed}
use Rattle.raft_model.proofs.Tests.{lt_tells, lt_tells_not, le_tells, eq_tells}
use Rattle.cluster_rules.specs.Cluster.{Stand, AtPlace, InRound, ForIndex, Ended, Pending, Cluster, node_of, applied_of, clock_of}
use Rattle.cluster_rules.specs.Due.{Work, Replies, Holds, Closes, Applies, landed, waiting, asks_read, early_stand, is_ended, early_work, late_stand, late_work, IsDue, early, next_one, late}
use Rattle.cluster_rules.proofs.Tools.{both, neither, one_of, not_tells_not, le_tells_not, each_in}

-- what a fact has to hold of for a held request
pub record Leaves (c : Cluster) (i : ℕ) (P : Work → Type 0) (h : Pending) : Type 0 where
  pub halted : (node_of c.world i).halted ≡ true → is_ended h.stand ≡ false → P (Replies h.question (Refused (refusal.Halted i)))
  pub closes : (event : ℕ) → h.stand ≡ Ended event → P (Closes h.question.number event)
  pub lands : (index term : ℕ) → h.stand ≡ AtPlace index term → index ≤ length (applied_of c i) → P (Replies h.question (landed index term (applied_of c i)))
  pub rises : (round : Round) (deadline : ℕ) → h.stand ≡ InRound round deadline → round.term < (node_of c.world i).term → P (Replies h.question (Refused (refusal.Lost round.term (node_of c.world i).term)))
  pub answers : (deadline : ℕ) (looked : Bool) (query : Query) (mode : Mode) (least wait : ℕ) (raw : Bool) → h.stand ≡ ForIndex deadline looked → h.question.asked ≡ Good (Read query mode least wait raw) →
      (least < index_of query (commands_of (applied_of c i))) ⊎ (deadline ≤ clock_of c.world i) →
      P (Replies h.question (At mode (length (applied_of c i)) (index_of query (commands_of (applied_of c i))) (clock_of c.world i) deadline))
  pub refuses : (deadline : ℕ) (query : Query) (mode : Mode) (least wait : ℕ) (raw : Bool) → h.stand ≡ ForIndex deadline false → h.question.asked ≡ Good (Read query mode least wait raw) →
      index_of query (commands_of (applied_of c i)) ≤ least → clock_of c.world i < deadline → 4096 ≤ waiting i c.held → P (Replies h.question (Refused (refusal.TooMany (waiting i c.held))))
  pub sees : (deadline : ℕ) (query : Query) (mode : Mode) (least wait : ℕ) (raw : Bool) → h.stand ≡ ForIndex deadline false → h.question.asked ≡ Good (Read query mode least wait raw) →
      index_of query (commands_of (applied_of c i)) ≤ least → P (Holds (record h { stand = ForIndex deadline true }))
  pub runs : (deadline : ℕ) (looked : Bool) (name : List ℕ) (limit : ℕ) (mode : Mode) → h.stand ≡ ForIndex deadline looked → h.question.asked ≡ Good (Execute name limit mode) →
      P (Replies h.question (Seen mode (length (applied_of c i))))
  pub turns : (round : Round) (deadline : ℕ) → h.stand ≡ InRound round deadline → (node_of c.world i).halted ≡ false → is_confirmed (node_of c.world i) round ≡ true → round.commit ≤ length (applied_of c i) → P (Holds (record h { stand = ForIndex deadline false }))

pub some_work : (w v : Work) → Some w ≡ Some v → w ≡ v
some_work w v e = cc e

pub no_work : (w : Work) → None ≡ Some w → ⊥
no_work w e = cc e

module _ (c : Cluster) (i : ℕ) (P : Work → Type 0) where
  is_it : (v w : Work) → P v → Some v ≡ Some w → P w
  is_it v w x e = subst P (some_work v w e) x

  is_none : (w : Work) → None ≡ Some w → P w
  is_none w e = absurd (no_work w e)

  -- a test on the way
  on : (b : Bool) (x y : Option Work) (w : Work) → (b ≡ true → x ≡ Some w → P w) → (b ≡ false → y ≡ Some w → P w) → cond b x y ≡ Some w → P w
  on true x y w f g = f refl
  on false x y w f g = g refl

  either : (a b m n : ℕ) → (nat_lt a b ≡ true) ⊎ (nat_le m n ≡ true) → (a < b) ⊎ (m ≤ n)
  either a b m n (inl e) = inl (lt_tells a b e)
  either a b m n (inr e) = inr (le_tells m n e)

  read_case : (h : Pending) → Leaves c i P h → (deadline : ℕ) (looked : Bool) → h.stand ≡ ForIndex deadline looked → (asked : Asked) → h.question.asked ≡ asked → (w : Work) → asks_read h (waiting i c.held) (clock_of c.world i) (applied_of c i) deadline looked asked ≡ Some w → P w
  read_case h l deadline looked st (Good (Read query mode least wait raw)) ask w =
      on (nat_lt least index || nat_le deadline clock) _ _ w
      (λ e. is_it _ w (l.answers deadline looked query mode least wait raw st ask (either least index deadline clock (one_of (nat_lt least index) (nat_le deadline clock) e))))
      (λ e. on looked _ _ w (λ _. is_none w)
      (λ u. let n = neither (nat_lt least index) (nat_le deadline clock) e in let new = subst (λ z. h.stand ≡ ForIndex deadline z) u st in
      on (nat_le 4096 (waiting i c.held)) _ _ w
      (λ f. is_it _ w (l.refuses deadline query mode least wait raw new ask (lt_tells_not least index n.0) (le_tells_not deadline clock n.1) (le_tells 4096 (waiting i c.held) f)))
      (λ _. is_it _ w (l.sees deadline query mode least wait raw new ask (lt_tells_not least index n.0)))))
    where
      index : ℕ
      index = index_of query (commands_of (applied_of c i))

      clock : ℕ
      clock = clock_of c.world i
  read_case h l deadline looked st (Good (Write command)) ask w = is_none w
  read_case h l deadline looked st (Good (Execute name limit mode)) ask w = is_it _ w (l.runs deadline looked name limit mode st ask)
  read_case h l deadline looked st (Good (Renew id)) ask w = is_none w
  read_case h l deadline looked st (Good (Agent op)) ask w = is_none w
  read_case h l deadline looked st (Bad why) ask w = is_none w

  early_case : (h : Pending) → (h.server ≡ i → Leaves c i P h) → (w : Work) → early_work c i h ≡ Some w → P w
  early_case h m w = on (h.server == i) _ _ w
      (λ t. let l = m (eq_tells h.server i t) in on ((node_of c.world i).halted && not (is_ended h.stand)) _ _ w
      (λ e. let b = both (node_of c.world i).halted (not (is_ended h.stand)) e in is_it _ w (l.halted b.0 (not_tells_not (is_ended h.stand) b.1))) (λ _. by l h.stand refl))
      (λ _. is_none w)
    where
      by : Leaves c i P h → (st : Stand) → h.stand ≡ st → early_stand c i h st ≡ Some w → P w
      by l (Ended event) e = is_it _ w (l.closes event e)
      by l (AtPlace index term) e = on (nat_le index (length (applied_of c i))) _ _ w (λ t. is_it _ w (l.lands index term e (le_tells index _ t))) (λ _. is_none w)
      by l (InRound round deadline) e = on (nat_lt round.term (node_of c.world i).term) _ _ w (λ t. is_it _ w (l.rises round deadline e (lt_tells round.term _ t))) (λ _. is_none w)
      by l (ForIndex deadline looked) e = read_case h l deadline looked e h.question.asked refl w

  late_case : (h : Pending) → (h.server ≡ i → Leaves c i P h) → (w : Work) → late_work c i h ≡ Some w → P w
  late_case h m w = on (h.server == i) _ _ w (λ t. by (m (eq_tells h.server i t)) h.stand refl) (λ _. is_none w)
    where
      by : Leaves c i P h → (st : Stand) → h.stand ≡ st → late_stand c i h st ≡ Some w → P w
      by l (Ended event) e = is_none w
      by l (AtPlace index term) e = is_none w
      by l (ForIndex deadline looked) e = is_none w
      by l (InRound round deadline) e = on (not (node_of c.world i).halted && (is_confirmed (node_of c.world i) round && nat_le round.commit (length (applied_of c i)))) _ _ w
          (λ t. let a = both (not (node_of c.world i).halted) (is_confirmed (node_of c.world i) round && nat_le round.commit (length (applied_of c i))) t in
          let b = both (is_confirmed (node_of c.world i) round) (nat_le round.commit (length (applied_of c i))) a.1 in
          is_it _ w (l.turns round deadline e (not_tells_not _ a.0) b.0 (le_tells round.commit _ b.1)))
          (λ _. is_none w)

  -- for any fact H of the held requests
  pub due_cases : (H : Pending → Type 0) → Each H c.held → ((h : Pending) → H h → h.server ≡ i → Leaves c i P h) → (length (applied_of c i) < (node_of c.world i).commit → P Applies) → (w : Work) → IsDue i c w → P w
  due_cases H a l applies w (early before after h is e) = early_case h (l h (each_in H before after h c.held is a)) w e
  due_cases H a l applies w (late none_early none_next before after h is e) = late_case h (l h (each_in H before after h c.held is a)) w e
  due_cases H a l applies w (next_one none_early e) = on (nat_lt (length (applied_of c i)) (node_of c.world i).commit) _ _ w (λ t. is_it Applies w (applies (lt_tells _ _ t))) (λ _. is_none w) e
