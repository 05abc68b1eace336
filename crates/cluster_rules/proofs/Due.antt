-- What is due is right, so doing it leaves the cluster sound.
use Rattle.std.proofs.Common.{◌≡◌, ◌≢◌, ℕ, ◌<◌, ◌≤◌, ◌⊎◌, inl, inr, Bool, true, false, cond, List, length, take, refl, sym, ◌∙◌, ap, subst, arith}
use Rattle.std.specs.Prelude.{◌==◌}
use Rattle.std.proofs.lemmas.List.{take_all, length-take}
use Rattle.cat_model.specs.declared.query.Query.{Query}
use Rattle.cat_model.specs.declared.command.Command.{Command}
use Rattle.cat_model.specs.declared.command.Entry.{Entry}
use Rattle.cat_model.specs.declared.request.Mode.{Mode}
use Rattle.cat_model.specs.declared.request.Mode.TheVariants.{Consistent}
use Rattle.cat_model.specs.declared.request.Request.TheVariants.{Read, Execute, Write, Renew, Agent}
use Rattle.cat_model.specs.declared.request.Asked.{Asked}
use Rattle.cat_model.specs.declared.request.Asked.TheVariants.{Good, Bad}
use Rattle.cat_model.specs.declared.reply.Kind.TheVariants.{Acked, At, Seen, Refused}
use Rattle.cat_model.specs.declared.reply.Refusal.{Refusal}
use Rattle.cat_model.specs.declared.reply.Refusal.TheVariants as refusal
use Rattle.cat_model.specs.Indexes.{index_of}
use Rattle.cat_model.specs.Log.{commands_of}
use Rattle.raft_model.specs.declared.message.Round.{Round}
use Rattle.raft_model.specs.Facts.{IsPlaced}
use Rattle.raft_model.specs.Log.{Log, term_at}
use Rattle.raft_model.specs.Node.{Node}
use Rattle.raft_model.specs.Rules.{is_confirmed}
use Rattle.raft_model.specs.World.{World, here, IsServer}
use Rattle.raft_model.proofs.Logs.{agree_term}
use Rattle.raft_model.proofs.Tests.{at_bool, eq_tells}
use Rattle.raft_model.proofs.Theorems.{grows_far}
use Rattle.cluster_rules.specs.Replies.{Question, entered}
use Rattle.cluster_rules.specs.Lasting.{IsWrite, IsRead, IsLook, IsSeen, RefusesLook, RefusesRead, RefusesWrite, IsRefused, HasLostRound, LastsFor, IsAnswerAt}
use Rattle.cluster_rules.specs.Cluster.{Stand, AtPlace, InRound, ForIndex, Ended, Pending, Start, Proposed, Probed, Cluster, node_of, server_of, applied_of, clock_of}
use Rattle.cluster_rules.specs.Due.{Work, landed, waiting, is_ended, did, IsDue, Works, none, work}
use Rattle.cluster_rules.specs.Sound.{IsAmong, NeverEnters, entries_before, IsFresh, StartIsSound, LookedBelow, StandIsSound, PendingIsSound, LostFor, ServerIsSound, IsSoundAtWork}
use Rattle.cluster_rules.proofs.Tools.{eq_tells_not, there_or_none, each_among}
use Rattle.cluster_rules.proofs.Entries.{agree_entry}
use Rattle.cluster_rules.proofs.Grows.{write_map, look_map}
use Rattle.cluster_rules.proofs.Numbered.{numbered_of, was_numbered}
use Rattle.cluster_rules.proofs.Works.{IsRight, WorkIsRight, did_sound}
use Rattle.cluster_rules.proofs.Cases.{Leaves, due_cases}

pub write_refused : (asked : Asked) (P : Command → Type 0) (why : Refusal) → IsWrite asked P → RefusesWrite why → IsRefused asked why
write_refused (Good (Write command)) P why x r = r
write_refused (Good (Read query mode least wait raw)) P why x r = absurd x
write_refused (Good (Execute name limit mode)) P why x r = absurd x
write_refused (Good (Renew id)) P why x r = absurd x
write_refused (Good (Agent op)) P why x r = absurd x
write_refused (Bad other) P why x r = absurd x

look_is_read : (mode : Mode) (why : Refusal) → RefusesLook mode why → RefusesRead mode why
look_is_read mode (refusal.TooMany waiting) x = absurd x
look_is_read mode other x = x

pub look_refused : (asked : Asked) (P : Mode → Type 0) (why : Refusal) → IsLook asked P → ((mode : Mode) → P mode → RefusesLook mode why) → IsRefused asked why
look_refused (Good (Read query mode least wait raw)) P why x r = look_is_read mode why (r mode x)
look_refused (Good (Execute name limit mode)) P why x r = r mode x
look_refused (Good (Write command)) P why x r = absurd x
look_refused (Good (Renew id)) P why x r = absurd x
look_refused (Good (Agent op)) P why x r = absurd x
look_refused (Bad other) P why x r = absurd x

lost_look : (w : World) (starts : List Start) (q : Question) (asked : Asked) (P : Mode → Type 0) (old found server : ℕ) (round : Round) → IsLook asked P → IsAmong (Probed q.number server round) starts → round.term ≡ old → LostFor w starts q asked old found
lost_look w starts q (Good (Read query mode least wait raw)) P old found server round x m e = (server, round, m, e)
lost_look w starts q (Good (Execute name limit mode)) P old found server round x m e = (server, round, m, e)
lost_look w starts q (Good (Write command)) P old found server round x m e = absurd x
lost_look w starts q (Good (Renew id)) P old found server round x m e = absurd x
lost_look w starts q (Good (Agent op)) P old found server round x m e = absurd x
lost_look w starts q (Bad why) P old found server round x m e = absurd x

-- what is known of a look in a mode
look_start : (asked : Asked) (mode : Mode) (Q : Type 0) → IsLook asked (λ mode'. (mode' ≡ mode) × Q) → Q
look_start (Good (Read query mode' least wait raw)) mode Q x = x.1
look_start (Good (Execute name limit mode')) mode Q x = x.1
look_start (Good (Write command)) mode Q x = absurd x
look_start (Good (Renew id)) mode Q x = absurd x
look_start (Good (Agent op)) mode Q x = absurd x
look_start (Bad why) mode Q x = absurd x

pub new_below : (asked : Asked) (applied : Log) → LookedBelow asked false applied
new_below (Good (Read query mode least wait raw)) applied = tt
new_below (Good (Execute name limit mode)) applied = tt
new_below (Good (Write command)) applied = tt
new_below (Good (Renew id)) applied = tt
new_below (Good (Agent op)) applied = tt
new_below (Bad why) applied = tt

module _ (c : Cluster) (s : IsSoundAtWork c) (i : ℕ) where
  abbrev applied : Log
  applied = applied_of c i

  own : ServerIsSound c.world.agreed (node_of c.world i).commit (server_of c.servers i)
  own = s.servers.each i

  within : length (applied_of c i) ≤ length c.world.agreed
  within = let k = ap length own.front in omega (arith, length-take (length (applied_of c i)) c.world.agreed)

  fronts : take (length (applied_of c i)) c.world.agreed ≡ take (length (applied_of c i)) (applied_of c i)
  fronts = sym own.front ∙ sym (take_all (length (applied_of c i)) (applied_of c i) (omega arith))

  same_term : (m : ℕ) → m ≤ length (applied_of c i) → term_at m c.world.agreed ≡ term_at m (applied_of c i)
  same_term m l = agree_term m (length (applied_of c i)) c.world.agreed (applied_of c i) l fronts

  module _ (h : Pending) (x : PendingIsSound c.servers c.past c.starts h) (at : h.server ≡ i) where
    q : Question
    q = h.question

    -- what is known of its stand, at this server
    of_stand : (st : Stand) → h.stand ≡ st → StandIsSound (applied_of c i) c.past c.starts i h.question st
    of_stand st e = subst (λ z. StandIsSound (server_of c.servers z).applied c.past c.starts z h.question st) at
        (subst (λ z. StandIsSound (server_of c.servers h.server).applied c.past c.starts h.server h.question z) e x.stand)

    number_above : 0 < h.question.number
    number_above = (was_numbered c.past (numbered_of c.world c.starts c.past s.marks) h.question x.asked).0

    -- the place of a write's proposal
    module _ (index term : ℕ) (l : index ≤ length (applied_of c i)) where
      entry : Command → Entry
      entry command = record { term = term; number = h.question.number; command = entered h.question command }

      abbrev IsHeldWrite : Asked → Type 0
      IsHeldWrite asked = IsWrite asked (λ command. IsAmong (Proposed index (record { term = term; number = h.question.number; command = entered h.question command })) c.starts)

      place : (command : Command) → IsAmong (Proposed index (record { term = term; number = h.question.number; command = entered h.question command })) c.starts → IsPlaced c.world index (record { term = term; number = h.question.number; command = entered h.question command })
      place command m = (each_among (StartIsSound c.world c.past) c.starts (Proposed index (record { term = term; number = h.question.number; command = entered h.question command })) s.starts m).1

      never : (e : Entry) → IsPlaced c.world index e → e.number ≡ h.question.number → e.term ≡ term → term_at index (applied_of c i) ≢ term → NeverEnters c.world term h.question.number
      never e p en et d = λ v r k pk lk tk nk.
          let z = (p v r).1 (λ z. let a = number_above in omega arith) k pk lk (tk ∙ sym et) (nk ∙ sym en) in
          let g = grows_far c.world v s.world r in
          let a = agree_term index (length c.world.agreed) v.agreed c.world.agreed (let k = within in omega arith) (g ∙ sym (take_all (length c.world.agreed) c.world.agreed (omega arith))) in
          d (sym (same_term index l) ∙ sym a ∙ sym (ap (λ y. term_at y v.agreed) z) ∙ tk)

      acked : (asked : Asked) → IsHeldWrite asked → (e : Entry) × IsAmong (Proposed index e) c.starts × (e.number ≡ h.question.number)
      acked (Good (Write command)) m = (_, m, refl)
      acked (Good (Read query mode least wait raw)) m = absurd m
      acked (Good (Execute name limit mode)) m = absurd m
      acked (Good (Renew id)) m = absurd m
      acked (Good (Agent op)) m = absurd m
      acked (Bad why) m = absurd m

      lost : (asked : Asked) → IsHeldWrite asked → term_at index (applied_of c i) ≢ term → LostFor c.world c.starts h.question asked term (term_at index (applied_of c i))
      lost (Good (Write command)) m d = (index, _, m, refl, refl, let k = within in omega arith, same_term index l, never _ (place command m) refl refl d)
      lost (Good (Read query mode least wait raw)) m d = absurd m
      lost (Good (Execute name limit mode)) m d = absurd m
      lost (Good (Renew id)) m d = absurd m
      lost (Good (Agent op)) m d = absurd m
      lost (Bad why) m d = absurd m

      -- acknowledged, or lost for ever
      landed_right : IsHeldWrite h.question.asked → IsRight c (applied_of c i) h.question (landed index term (applied_of c i))
      unfolding LastsFor
      landed_right m =
          at_bool (λ b. (term_at index (applied_of c i) == term) ≡ b → IsRight c (applied_of c i) h.question (cond b (Acked index) (Refused (refusal.Lost term (term_at index (applied_of c i)))))) (term_at index (applied_of c i) == term)
          (λ _ e. record {
            asked = x.asked;
            open_ = x.open_;
            lasts = write_map h.question.asked _ _ (λ command p. record {
              entry = record { term = term; number = h.question.number; command = entered h.question command };
              there = sym (agree_entry index (length (applied_of c i)) c.world.agreed (applied_of c i) l fronts)
                  ∙ (place command p c.world here).0 (let k = within in omega arith) (same_term index l ∙ eq_tells (term_at index (applied_of c i)) term e);
              number_is = refl;
              command_is = refl;
            }) m;
            fresh = tt;
            rests = acked h.question.asked m;
          })
          (λ _ e. record {
            asked = x.asked;
            open_ = x.open_;
            lasts = write_refused h.question.asked _ _ m (λ z. eq_tells_not (term_at index (applied_of c i)) term e (sym z));
            fresh = tt;
            rests = lost h.question.asked m (eq_tells_not (term_at index (applied_of c i)) term e);
          }) refl

    halted_right : is_ended h.stand ≡ false → IsRight c (applied_of c i) h.question (Refused (refusal.Halted i))
    unfolding LastsFor
    halted_right e = record { asked = x.asked; open_ = x.open_; lasts = by h.stand refl e; fresh = tt; rests = tt }
      where
        by : (st : Stand) → h.stand ≡ st → is_ended st ≡ false → IsRefused h.question.asked (refusal.Halted i)
        by (AtPlace index term) e _ = write_refused h.question.asked _ _ (of_stand (AtPlace index term) e) tt
        by (InRound round deadline) e _ = look_refused h.question.asked _ _ (of_stand (InRound round deadline) e) (λ mode p. tt)
        by (ForIndex deadline looked) e _ = look_refused h.question.asked _ _ (of_stand (ForIndex deadline looked) e).0 (λ mode p. tt)
        by (Ended event) e n = absurd (cc n)

    rises_right : (round : Round) (deadline : ℕ) → h.stand ≡ InRound round deadline → round.term < (node_of c.world i).term → IsRight c (applied_of c i) h.question (Refused (refusal.Lost round.term (node_of c.world i).term))
    unfolding LastsFor
    rises_right round deadline e l = record {
      asked = x.asked;
      open_ = x.open_;
      lasts = look_refused h.question.asked _ _ (of_stand (InRound round deadline) e) (λ mode p. subst (λ z. HasLostRound z round.term (node_of c.world i).term) (sym p.0) l);
      fresh = tt;
      rests = lost_look c.world c.starts h.question h.question.asked _ round.term (node_of c.world i).term i round (of_stand (InRound round deadline) e) (look_start h.question.asked Consistent _ (of_stand (InRound round deadline) e)) refl;
    }

    -- of a read or an execution, what its stand says
    look_stand : (deadline : ℕ) (looked : Bool) (asked : Asked) → h.stand ≡ ForIndex deadline looked → h.question.asked ≡ asked →
        IsLook asked (λ mode. IsFresh mode h.question.number c.past c.starts (length (applied_of c i))) × LookedBelow asked looked (applied_of c i)
    look_stand deadline looked asked st ask =
        subst (λ z. IsLook z (λ mode. IsFresh mode h.question.number c.past c.starts (length (applied_of c i))) × LookedBelow z looked (applied_of c i)) ask (of_stand (ForIndex deadline looked) st)

    answers_right : (deadline : ℕ) (looked : Bool) (query : Query) (mode : Mode) (least wait : ℕ) (raw : Bool) → h.stand ≡ ForIndex deadline looked → h.question.asked ≡ Good (Read query mode least wait raw) →
        (least < index_of query (commands_of (applied_of c i))) ⊎ (deadline ≤ clock_of c.world i) →
        IsRight c (applied_of c i) h.question (At mode (length (applied_of c i)) (index_of query (commands_of (applied_of c i))) (clock_of c.world i) deadline)
    unfolding LastsFor
    answers_right deadline looked query mode least wait raw st ask due = record {
      asked = x.asked;
      open_ = x.open_;
      lasts = subst (λ z. IsRead z (λ query' mode' least'. (mode ≡ mode') × IsAnswerAt query' least' (length (applied_of c i)) (index_of query (commands_of (applied_of c i))) (clock_of c.world i) deadline (applied_of c i))) (sym ask)
          (refl, record { within = omega arith; index_is = ap (λ z. index_of query (commands_of z)) (sym (take_all (length (applied_of c i)) (applied_of c i) (omega arith))); due = due });
      fresh = (look_stand deadline looked (Good (Read query mode least wait raw)) st ask).0;
      rests = tt;
    }

    refuses_right : (query : Query) (mode : Mode) (least wait : ℕ) (raw : Bool) → h.question.asked ≡ Good (Read query mode least wait raw) → 4096 ≤ waiting i c.held → IsRight c (applied_of c i) h.question (Refused (refusal.TooMany (waiting i c.held)))
    unfolding LastsFor
    refuses_right query mode least wait raw ask l = record {
      asked = x.asked;
      open_ = x.open_;
      lasts = subst (λ z. IsRefused z (refusal.TooMany (waiting i c.held))) (sym ask) l;
      fresh = tt;
      rests = tt;
    }

    runs_right : (deadline : ℕ) (looked : Bool) (name : List ℕ) (limit : ℕ) (mode : Mode) → h.stand ≡ ForIndex deadline looked → h.question.asked ≡ Good (Execute name limit mode) →
        IsRight c (applied_of c i) h.question (Seen mode (length (applied_of c i)))
    unfolding LastsFor
    runs_right deadline looked name limit mode st ask = record {
      asked = x.asked;
      open_ = x.open_;
      lasts = subst (λ z. IsSeen z mode × (length (applied_of c i) ≤ length (applied_of c i))) (sym ask) (refl, omega arith);
      fresh = (look_stand deadline looked (Good (Execute name limit mode)) st ask).0;
      rests = tt;
    }

    -- another stand
    waits_on : (deadline : ℕ) (looked : Bool) → IsLook h.question.asked (λ mode. IsFresh mode h.question.number c.past c.starts (length (applied_of c i))) × LookedBelow h.question.asked looked (applied_of c i) → PendingIsSound c.servers c.past c.starts (record h { stand = ForIndex deadline looked })
    waits_on deadline looked y = record {
      asked = x.asked;
      open_ = x.open_;
      stand = subst (λ z. StandIsSound (server_of c.servers z).applied c.past c.starts z h.question (ForIndex deadline looked)) (sym at) y;
    }

    sees_right : (deadline : ℕ) (query : Query) (mode : Mode) (least wait : ℕ) (raw : Bool) → h.stand ≡ ForIndex deadline false → h.question.asked ≡ Good (Read query mode least wait raw) →
        index_of query (commands_of (applied_of c i)) ≤ least → PendingIsSound c.servers c.past c.starts (record h { stand = ForIndex deadline true })
    sees_right deadline query mode least wait raw st ask below =
        waits_on deadline true
        (subst (λ z. IsLook z (λ mode. IsFresh mode h.question.number c.past c.starts (length (applied_of c i))) × LookedBelow z true (applied_of c i)) (sym ask)
        ((look_stand deadline false (Good (Read query mode least wait raw)) st ask).0, (length (applied_of c i), omega arith, subst (λ z. index_of query (commands_of z) ≤ least) (sym (take_all (length (applied_of c i)) (applied_of c i) (omega arith))) below)))

    turns_right : (round : Round) (deadline : ℕ) → h.stand ≡ InRound round deadline → is_confirmed (node_of c.world i) round ≡ true → round.commit ≤ length (applied_of c i) → PendingIsSound c.servers c.past c.starts (record h { stand = ForIndex deadline false })
    turns_right round deadline st confirmed applies =
        waits_on deadline false (look_map h.question.asked _ _ (λ mode p. subst (λ z. IsFresh z h.question.number c.past c.starts (length (applied_of c i))) (sym p.0) (fresh p.1)) (of_stand (InRound round deadline) st), new_below h.question.asked (applied_of c i))
      where
        -- the node is there, since it leads
        there : IsServer c.world i (node_of c.world i)
        there = elim (there_or_none c.world i) [
          | inl e ↦ absurd (let k = ap (λ (n : Node). is_confirmed n round) e in cc (k, confirmed))
          | inr at ↦ at
        ]

        fresh : IsAmong (Probed h.question.number i round) c.starts → entries_before h.question.number c.past ≤ length (applied_of c i)
        fresh m = let f = (each_among (StartIsSound c.world c.past) c.starts (Probed h.question.number i round) s.starts m).0 c.world here i (node_of c.world i) there confirmed in omega arith

    leaves : Leaves c i (WorkIsRight c i) h
    leaves = record {
      halted = λ e n. halted_right n;
      closes = λ event e. ((h.question, x.asked, refl), (i, of_stand (Ended event) e));
      lands = λ index term e l. landed_right index term l (of_stand (AtPlace index term) e);
      rises = rises_right;
      answers = answers_right;
      refuses = λ deadline query mode least wait raw st ask below early l. refuses_right query mode least wait raw ask l;
      sees = sees_right;
      runs = runs_right;
      turns = λ round deadline st up confirmed l. turns_right round deadline st confirmed l;
    }

  pub due_right : (w : Work) → IsDue i c w → WorkIsRight c i w
  due_right w e = due_cases c i (WorkIsRight c i) (PendingIsSound c.servers c.past c.starts) s.held (λ h x at. leaves h x at) (λ l. l) w e

-- All that is done at a server leaves the cluster sound.
pub works_sound : (i : ℕ) (c c' : Cluster) → Works i c c' → IsSoundAtWork c → IsSoundAtWork c'
works_sound i c c' none s = s
works_sound i c c' (work w e more) s = works_sound i (did i w c) c' more (did_sound c s i w (due_right c s i w e))
