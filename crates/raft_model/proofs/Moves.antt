-- Each move keeps the history sound.
use Rattle.std.proofs.Common.{◌≡◌, ◌≢◌, ℕ, suc, ◌+◌, ◌<◌, ◌≤◌, max, true, ◌⊎◌, inl, inr, Option, Some, None, [], ◌∷◌, ◌++◌, length, take, drop, refl, sym, ◌∙◌, ap, subst, arith}
use Rattle.std.proofs.lemmas.List.{take-take, take_all, length-take, length-drop}
use Rattle.raft_model.specs.Quorum.{Servers, IsMajority}
use Rattle.cat_model.specs.declared.command.Entry.{Entry}
use Rattle.raft_model.specs.Log.{Log, term_at, last_term, accepted, IsUpToDate}
use Rattle.raft_model.proofs.Pairs.{OpensWithNoop}
use Rattle.raft_model.proofs.Logs.{agree_below, term_take}
use Rattle.raft_model.proofs.Election.{at_put, at_put₂, put_up, put_other, votes_rise, votes_grant, votes_win, same_leader}
use Rattle.raft_model.proofs.Accepting.{Accepts, accepts}
use Rattle.raft_model.proofs.Matching.{Grows, has_grown, follows_take, grows_append, grows_win, ledger_bound, ledgers_win, ledgers_append, logs_rise, logs_stand, logs_set, logs_win, logs_append}
use Rattle.raft_model.proofs.Acks.{acks_rise, acks_rest, acks_stand, acks_grant, acks_win, acks_append, acks_accept}
use Rattle.raft_model.proofs.Roles.{roles_rise, roles_rest, roles_step_down, roles_stand, roles_grant, roles_win, roles_append}
use Rattle.raft_model.proofs.Numbers.{numbers_rise, numbers_role, numbers_win, numbers_append}
use Rattle.raft_model.proofs.History.{History, put, put₂, Has, Follows, IsCommitted, Sound, rise, rest, stand, grant, win, append, accept, agree, hear, probe, IsNewNumber, count_number, MayFollow}
use Rattle.cat_model.specs.declared.reply.Role.TheVariants.{Follower, Candidate, Leader}
use Rattle.raft_model.proofs.Agreement.{committed_grown, committed_agree}
use Rattle.raft_model.proofs.Opening.{opens_follows, opens_push}
use Rattle.raft_model.specs.Rules.{asked, stands}

abbrev pub IsAgreed : ℕ → (ℕ → Log) → (ℕ → Log) → (ℕ → ℕ → ℕ) → Log → Type 0
IsAgreed servers first ledger acks agreed = (agreed ≡ []) ⊎ ((t : ℕ) × IsCommitted servers first ledger acks t (length agreed) × Has ledger t (length agreed) agreed)

pub agreed_grown : (servers : ℕ) (first first' ledger ledger' : ℕ → Log) (acks acks' : ℕ → ℕ → ℕ) (agreed : Log) →
    ((t : ℕ) → 0 < length (ledger t) → first' t ≡ first t) → Grows ledger ledger' → ((i t : ℕ) → acks i t ≤ acks' i t) →
    IsAgreed servers first ledger acks agreed → IsAgreed servers first' ledger' acks' agreed
agreed_grown servers first first' ledger ledger' acks acks' agreed f g a (inl e) = inl e
agreed_grown servers first first' ledger ledger' acks acks' agreed f g a (inr (t, d, e)) =
    inr (t, committed_grown servers first first' ledger ledger' acks acks' t (length agreed) (f t (omega (arith, d.own, d.there))) (omega (arith, length-take (length (ledger t)) (ledger' t), ap length (g t))) (λ i. a i t) d, has_grown ledger ledger' g t (length agreed) agreed e (omega arith))

module _ (servers : ℕ) (h : History) (s : Sound servers h) where
  pub sound_rise : (i t : ℕ) → h.terms i < t → Sound servers (rise i t h)
  sound_rise i t l = record {
    votes = votes_rise servers h.terms h.votes h.leaders h.electors s.votes i t l;
    roles = roles_rise h.terms h.votes h.logs h.roles h.stood h.leaders h.ledger s.roles i t l;
    ledgers = s.ledgers;
    opens = s.opens;
    logs = logs_rise h.terms h.logs h.stood h.ledger s.logs i t (omega arith);
    acks = acks_rise servers h s i t l;
    numbers = numbers_rise h.terms h.roles h.leaders h.first h.ledger h.spent h.greatest s.numbers i t;
    rounds = record { begun = s.rounds.begun; none_yet = λ j u k. let up = put_up h.terms i t j (omega arith) in s.rounds.none_yet j u (omega arith); unled = s.rounds.unled };
    agreed = s.agreed;
  }

  pub sound_rest : (i : ℕ) → Sound servers (rest i h)
  sound_rest i = record {
    votes = s.votes;
    roles = roles_step_down h.terms h.votes h.logs h.roles h.stood h.leaders h.ledger s.roles i;
    ledgers = s.ledgers;
    opens = s.opens;
    logs = s.logs;
    acks = acks_rest servers h s i;
    numbers = numbers_role h.terms h.roles h.leaders h.first h.ledger h.spent h.greatest s.numbers i Follower (λ e. cc e);
    rounds = s.rounds;
    agreed = s.agreed;
  }

  pub sound_grant : (i c : ℕ) → (h.votes i (h.terms i) ≡ None) ⊎ (h.votes i (h.terms i) ≡ Some c) → h.votes c (h.terms i) ≡ Some c →
      IsUpToDate (last_term (h.stood c (h.terms i))) (length (h.stood c (h.terms i))) (h.logs i) → Sound servers (grant i c h)
  sound_grant i c free asked up = record {
    votes = votes_grant servers h.terms h.votes h.leaders h.electors s.votes i c (h.terms i) refl free (inr asked);
    roles = roles_grant h.terms h.votes h.logs h.roles h.stood h.leaders h.ledger s.roles i c free;
    ledgers = s.ledgers;
    opens = s.opens;
    logs = s.logs;
    acks = acks_grant servers h s i c up;
    numbers = s.numbers;
    rounds = s.rounds;
    agreed = s.agreed;
  }

  pub sound_append : (c : ℕ) (e : Entry) → h.roles c ≡ Leader → e.term ≡ h.terms c → IsNewNumber h e.number → MayFollow (h.logs c) e → Sound servers (append c e h)
  sound_append c e lead et fresh may = record {
    votes = s.votes;
    roles = roles_append h.terms h.votes h.logs h.roles h.stood h.leaders h.ledger s.roles c e lead;
    ledgers = ledgers_append h.leaders h.first h.ledger s.ledgers (h.terms c) c e et (s.roles.elected c lead);
    logs = logs_append h.terms h.logs h.stood h.ledger s.logs (h.terms c) c e et refl (s.roles.leading c lead);
    acks = acks_append servers h s c e lead;
    numbers = numbers_append servers h s c e lead fresh;
    opens = λ t. at_put (λ z. OpensWithNoop z) h.ledger (h.terms c) (h.ledger (h.terms c) ++ e ∷ []) t (λ _. opens_push (h.ledger (h.terms c)) e (s.opens (h.terms c)) (subst (λ z. MayFollow z e) (sym (s.roles.leading c lead)) may)) (λ _. s.opens t);
    rounds = s.rounds;
    agreed = agreed_grown servers h.first h.first h.ledger (put h.ledger (h.terms c) (h.ledger (h.terms c) ++ e ∷ [])) h.acks (put₂ h.acks c (h.terms c) (suc (length (h.logs c)))) h.agreed (λ t _. refl) (grows_append h.ledger (h.terms c) e)
        (λ i t. at_put₂ (λ a. h.acks i t ≤ a) h.acks c (h.terms c) (suc (length (h.logs c))) i t (λ ei et. more i t ei et) (λ _. omega arith)) s.agreed;
  }
    where
      more : (i t : ℕ) → i ≡ c → t ≡ h.terms c → h.acks i t ≤ suc (length (h.logs c))
      more i t ei et = let q = s.acks.leader c lead in let p : h.acks i t ≡ h.acks c (h.terms c) = ap (λ z. h.acks z t) ei ∙ ap (h.acks c) et in omega arith

  pub no_leader : (c : ℕ) (by : Servers) → h.roles c ≡ Candidate → IsMajority servers by → ((i : ℕ) → by i ≡ true → h.votes i (h.terms c) ≡ Some c) → h.leaders (h.terms c) ≡ None
  no_leader c by stands most for = go (h.leaders (h.terms c)) refl
    where
      go : (o : Option ℕ) → h.leaders (h.terms c) ≡ o → h.leaders (h.terms c) ≡ None
      go None e = e
      go (Some d) e = absurd (s.roles.unelected c stands (e ∙ ap Some (sym (same_leader servers h.terms h.votes h.leaders h.electors s.votes c d (h.terms c) by most for e))))

  pub sound_win : (c : ℕ) (by : Servers) → h.roles c ≡ Candidate → IsMajority servers by → ((i : ℕ) → by i ≡ true → h.votes i (h.terms c) ≡ Some c) → Sound servers (win c by h)
  sound_win c by stands most for =
      let none = no_leader c by stands most for in
      let nil = s.ledgers.none (h.terms c) none in
      record {
        votes = votes_win servers h.terms h.votes h.leaders h.electors s.votes c (h.terms c) by none most for;
        roles = roles_win h.terms h.votes h.logs h.roles h.stood h.leaders h.ledger s.roles c none;
        ledgers = ledgers_win h.leaders h.first h.ledger s.ledgers (h.terms c) c (h.logs c) (λ n. subst (λ (x : Log). 0 < n → n ≤ length x → term_at n x < h.terms c) (s.roles.log c stands) (s.logs.stood_older c (h.terms c) n));
        logs = logs_win h.terms h.logs h.stood h.ledger s.logs (h.terms c) c nil;
        acks = acks_win servers h s c by none (s.roles.log c stands) for;
        numbers = numbers_win servers h s c none;
        opens = λ t. at_put (λ z. OpensWithNoop z) h.ledger (h.terms c) (h.logs c) t (λ _. opens_follows h.ledger s.opens (h.logs c) (s.logs.of_logs c)) (λ _. s.opens t);
        rounds = record { begun = s.rounds.begun; none_yet = s.rounds.none_yet; unled = λ t e. at_put (λ z. z ≡ None → h.probed t ≡ 0) h.leaders (h.terms c) (Some c) t (λ _ q. cc q) (λ _ q. s.rounds.unled t q) e };
        agreed = agreed_grown servers h.first (put h.first (h.terms c) (h.logs c)) h.ledger (put h.ledger (h.terms c) (h.logs c)) h.acks (put₂ h.acks c (h.terms c) (length (h.logs c))) h.agreed
            (λ t l. put_other h.first (h.terms c) (h.logs c) t (λ e. some t e nil l)) (grows_win h.ledger (h.terms c) (h.logs c) nil)
            (λ i t. at_put₂ (λ a. h.acks i t ≤ a) h.acks c (h.terms c) (length (h.logs c)) i t (λ _ et. fewer i t et nil) (λ _. omega arith)) s.agreed;
      }
    where
      some : (t : ℕ) → t ≡ h.terms c → h.ledger (h.terms c) ≡ [] → 0 < length (h.ledger t) → ⊥
      some t e nil l = let q = ap length (ap h.ledger e ∙ nil) in omega arith

      fewer : (i t : ℕ) → t ≡ h.terms c → h.ledger (h.terms c) ≡ [] → h.acks i t ≤ length (h.logs c)
      fewer i t e nil = let q = ap length (ap h.ledger e ∙ nil) in let w = s.acks.within i t in omega arith

  pub sound_accept : (i c prev k : ℕ) (entries : Log) → h.leaders (h.terms i) ≡ Some c → prev ≤ length (h.logs i) → prev + k ≤ length (h.ledger (h.terms i)) →
      term_at prev (h.logs i) ≡ term_at prev (h.ledger (h.terms i)) → entries ≡ take k (drop prev (h.ledger (h.terms i))) → Sound servers (accept i prev entries h)
  sound_accept i c prev k entries lead lp lk et es =
      let a = accepts h.ledger (h.logs i) (h.ledger (h.terms i)) prev k (s.logs.of_logs i) (s.logs.of_ledgers (h.terms i)) lp lk et in
      let b = taken i c prev k lead lk a in
      let ln : k ≡ length entries = omega (arith, ap length es, length-take k (drop prev (h.ledger (h.terms i))), length-drop prev (h.ledger (h.terms i))) in
      subst (λ z. Sound servers (accept i prev z h)) (sym es) (subst (λ z. Sound servers (record h { logs = put h.logs i (accepted (h.logs i) prev (take k (drop prev (h.ledger (h.terms i))))); roles = put h.roles i Follower; acks = put₂ h.acks i (h.terms i) (max (h.acks i (h.terms i)) (prev + z)) })) (ln ∙ ap length es) b)
    where
      taken : (i c prev k : ℕ) → h.leaders (h.terms i) ≡ Some c → prev + k ≤ length (h.ledger (h.terms i)) → Accepts (h.logs i) (h.ledger (h.terms i)) prev k →
          Sound servers (record h { logs = put h.logs i (accepted (h.logs i) prev (take k (drop prev (h.ledger (h.terms i))))); roles = put h.roles i Follower; acks = put₂ h.acks i (h.terms i) (max (h.acks i (h.terms i)) (prev + k)) })
      taken i c prev k lead lk a =
          let x : Log = accepted (h.logs i) prev (take k (drop prev (h.ledger (h.terms i)))) in
          let f : Follows h.ledger x × ((n : ℕ) → 0 < n → n ≤ length x → term_at n x ≤ h.terms i) = front i prev k x a.front in
          record {
            votes = s.votes;
            roles = roles_rest h.terms h.votes h.logs h.roles h.stood h.leaders h.ledger s.roles i x;
            ledgers = s.ledgers;
            opens = s.opens;
            logs = logs_set h.terms h.logs h.stood h.ledger s.logs i x f.0 f.1;
            acks = acks_accept servers h s i c (prev + k) x lead lk a.keeps a.reaches;
            numbers = numbers_role h.terms h.roles h.leaders h.first h.ledger h.spent h.greatest s.numbers i Follower (λ e. cc e);
            rounds = s.rounds;
            agreed = agreed_grown servers h.first h.first h.ledger h.ledger h.acks (put₂ h.acks i (h.terms i) (max (h.acks i (h.terms i)) (prev + k))) h.agreed (λ t _. refl) (λ t. take_all (length (h.ledger t)) (h.ledger t) (omega arith))
                (λ j t. at_put₂ (λ b. h.acks j t ≤ b) h.acks i (h.terms i) (max (h.acks i (h.terms i)) (prev + k)) j t (λ ej et. let p : h.acks j t ≡ h.acks i (h.terms i) = ap (λ z. h.acks z t) ej ∙ ap (h.acks i) et in omega arith) (λ _. omega arith)) s.agreed;
          }
        where
          front : (i prev k : ℕ) (x : Log) → (x ≡ h.logs i) ⊎ (x ≡ take (prev + k) (h.ledger (h.terms i))) → Follows h.ledger x × ((n : ℕ) → 0 < n → n ≤ length x → term_at n x ≤ h.terms i)
          front i prev k x (inl e) = subst (λ (y : Log). Follows h.ledger y × ((n : ℕ) → 0 < n → n ≤ length y → term_at n y ≤ h.terms i)) (sym e) (s.logs.of_logs i, s.logs.bound i)
          front i prev k x (inr e) = subst (λ (y : Log). Follows h.ledger y × ((n : ℕ) → 0 < n → n ≤ length y → term_at n y ≤ h.terms i)) (sym e)
              (follows_take h.ledger (h.ledger (h.terms i)) (prev + k) (s.logs.of_ledgers (h.terms i)), λ n p l. bound_front i (prev + k) n p l)
            where
              bound_front : (i m n : ℕ) → 0 < n → n ≤ length (take m (h.ledger (h.terms i))) → term_at n (take m (h.ledger (h.terms i))) ≤ h.terms i
              bound_front i m n p l =
                  let lm : (n ≤ m) × (n ≤ length (h.ledger (h.terms i))) = omega (arith, length-take m (h.ledger (h.terms i))) in
                  let b = ledger_bound h.leaders h.first h.ledger s.ledgers (h.terms i) n p lm.1 in
                  let q = term_take n m (h.ledger (h.terms i)) lm.0 in omega arith

  pub sound_agree : (t n : ℕ) → IsCommitted servers h.first h.ledger h.acks t n → Sound servers (agree t n h)
  sound_agree t n d = record {
    votes = s.votes;
    roles = s.roles;
    ledgers = s.ledgers;
    opens = s.opens;
    logs = s.logs;
    acks = s.acks;
    numbers = s.numbers;
    rounds = s.rounds;
    agreed =
        let l : n ≡ length (take n (h.ledger t)) = omega (arith, length-take n (h.ledger t), d.there) in
        inr (t, subst (λ z. IsCommitted servers h.first h.ledger h.acks t z) l d, subst (λ z. take z (take n (h.ledger t)) ≡ take z (h.ledger t)) l (take-take n n (h.ledger t) (omega arith)));
  }

  -- a longer committed list begins with the agreed list
  pub agreed_extends : (t n : ℕ) → IsCommitted servers h.first h.ledger h.acks t n → length h.agreed ≤ n → take (length h.agreed) (take n (h.ledger t)) ≡ h.agreed
  agreed_extends t n d l = go s.agreed
    where
      go : IsAgreed servers h.first h.ledger h.acks h.agreed → take (length h.agreed) (take n (h.ledger t)) ≡ h.agreed
      go (inl e) = rw e refl
      go (inr (u, a, b)) = take-take (length h.agreed) n (h.ledger t) l ∙ sym (committed_agree servers h s u (length h.agreed) t n a d l) ∙ sym b ∙ take_all (length h.agreed) h.agreed (omega arith)

  -- and a shorter one is a front of it
  pub committed_is_agreed : (t n : ℕ) → IsCommitted servers h.first h.ledger h.acks t n → n ≤ length h.agreed → take n (h.ledger t) ≡ take n h.agreed
  committed_is_agreed t n d l = go s.agreed
    where
      go : IsAgreed servers h.first h.ledger h.acks h.agreed → take n (h.ledger t) ≡ take n h.agreed
      go (inl e) = absurd (let q = ap length e in omega (arith, d.own))
      go (inr (u, a, b)) = committed_agree servers h s t n u (length h.agreed) d a l ∙ sym (agree_below n (length h.agreed) h.agreed (h.ledger u) l b)

  -- a server stands in its term where it has no vote there, does not lead it, and has no entry of it
  pub sound_stand : (i : ℕ) → h.votes i (h.terms i) ≡ None → h.leaders (h.terms i) ≢ Some i → ((n : ℕ) → 0 < n → n ≤ length (h.logs i) → term_at n (h.logs i) < h.terms i) → Sound servers (stand i h)
  sound_stand i free un young = record {
    votes = votes_grant servers h.terms h.votes h.leaders h.electors s.votes i i (h.terms i) refl (inl free) (inl refl);
    roles = roles_stand h.terms h.votes h.logs h.roles h.stood h.leaders h.ledger s.roles i un;
    ledgers = s.ledgers;
    opens = s.opens;
    logs = logs_stand h.terms h.logs h.stood h.ledger s.logs i (h.terms i) young;
    acks = acks_stand servers h s i free;
    numbers = numbers_role h.terms h.roles h.leaders h.first h.ledger h.spent h.greatest s.numbers i Candidate (λ e. cc e);
    rounds = s.rounds;
    agreed = s.agreed;
  }

  pub sound_hear : (i round : ℕ) → round ≤ h.probed (h.terms i) → Sound servers (hear i round h)
  sound_hear i round l = record {
    votes = s.votes;
    roles = s.roles;
    ledgers = s.ledgers;
    opens = s.opens;
    logs = s.logs;
    acks = s.acks;
    agreed = s.agreed;
    numbers = s.numbers;
    rounds = record {
      begun = λ j t. at_put₂ (λ z. z ≤ h.probed t) h.heard i (h.terms i) (max (h.heard i (h.terms i)) round) j t
          (λ _ et. let q = ap h.probed et in let w = s.rounds.begun i (h.terms i) in omega arith) (λ _. s.rounds.begun j t);
      none_yet = λ j t k. at_put₂ (λ z. z ≡ 0) h.heard i (h.terms i) (max (h.heard i (h.terms i)) round) j t
          (λ ej et. let q = ap h.terms ej in absurd (omega arith)) (λ _. s.rounds.none_yet j t k);
      unled = s.rounds.unled;
    };
  }

  pub sound_probe : (c : ℕ) → h.leaders (h.terms c) ≡ Some c → Sound servers (probe c h)
  sound_probe c lead = record {
    votes = s.votes;
    roles = s.roles;
    ledgers = s.ledgers;
    opens = s.opens;
    logs = s.logs;
    acks = s.acks;
    agreed = s.agreed;
    numbers = s.numbers;
    rounds = record {
      begun = λ j t. at_put (λ z. h.heard j t ≤ z) h.probed (h.terms c) (suc (h.probed (h.terms c))) t (λ e. let q = ap h.probed e in let w = s.rounds.begun j t in omega arith) (λ _. s.rounds.begun j t);
      none_yet = s.rounds.none_yet;
      unled = λ t e. at_put (λ z. z ≡ 0) h.probed (h.terms c) (suc (h.probed (h.terms c))) t (λ q. let k = ap h.leaders q in cc (k, e, lead)) (λ _. s.rounds.unled t e);
    };
  }

  pub sound_count : (g : ℕ) → Sound servers (count_number g h)
  sound_count g = record {
    votes = s.votes;
    roles = s.roles;
    ledgers = s.ledgers;
    opens = s.opens;
    logs = s.logs;
    acks = s.acks;
    agreed = s.agreed;
    rounds = s.rounds;
    numbers = record { apart = s.numbers.apart; known = λ t m e p l. let k = s.numbers.known t m e p l in omega arith; across = s.numbers.across; leading = s.numbers.leading; unled = s.numbers.unled };
  }
