-- The history goes on by each move.
use Rattle.std.proofs.Common.{◌≡◌, ◌≢◌, ℕ, suc, ◌+◌, ◌<◌, ◌≤◌, max, ◌⊎◌, inl, inr, Some, None, [], ◌∷◌, ◌++◌, length, take, refl, ◌∙◌, ap, subst, arith}
use Rattle.std.proofs.lemmas.List.{take_all, length-take}
use Rattle.raft_model.specs.Quorum.{Servers}
use Rattle.cat_model.specs.declared.command.Entry.{Entry}
use Rattle.raft_model.specs.Log.{Log, term_at, last_term, accepted}
use Rattle.raft_model.proofs.Logs.{term_take}
use Rattle.raft_model.proofs.Election.{at_put, at_put₂, put_up, put_other}
use Rattle.raft_model.proofs.Matching.{grows_append, grows_win}
use Rattle.raft_model.proofs.History.{History, put₂, IsCommitted, Sound, rise, rest, stand, grant, win, append, accept, agree, hear, probe}
use Rattle.cat_model.specs.declared.reply.Role.TheVariants.{Follower, Candidate, Leader}
use Rattle.raft_model.proofs.Sound.{GoesOn}
use Rattle.raft_model.proofs.Moves.{agreed_extends}

put₂_other : {A : Type 0} (f : ℕ → ℕ → A) (i k : ℕ) (x : A) (j l : ℕ) → j ≢ i → put₂ f i k x j l ≡ f j l
put₂_other f i k x j l ne = at_put₂ (λ v. v ≡ f j l) f i k x j l (λ e _. absurd (ne e)) (λ _. refl)

same_list : (x : Log) → take (length x) x ≡ x
same_list x = take_all (length x) x (omega arith)

module _ (servers : ℕ) (h : History) (s : Sound servers h) where
  pub goes_rise : (i t : ℕ) → h.terms i < t → GoesOn i h (rise i t h)
  goes_rise i t l = record {
    votes = λ _ _ _ e. e;
    leaders = λ _ _ e. e;
    stood = λ _ _ _. refl;
    ledger = λ t. same_list (h.ledger t);
    acks = λ _ _. omega arith;
    agreed = same_list h.agreed;
    agreed_by = inl refl;
    heard = λ _ _. omega arith;
    probed = λ _. omega arith;
    terms_up = λ j. put_up h.terms i t j (omega arith);
    first = λ _ _. refl;
    greatest = refl;
    spent = λ _. refl;
    heard_old = λ _ _ _. refl;
    other_heard = λ _ _ _. refl;
    other_probed = λ _ _. refl;
    other_terms = λ j ne. put_other h.terms i t j ne;
    other_votes = λ _ _ _. refl;
    other_logs = λ _ _. refl;
    other_roles = λ j ne. put_other h.roles i Follower j ne;
  }

  pub goes_rest : (i : ℕ) → GoesOn i h (rest i h)
  goes_rest i = record {
    votes = λ _ _ _ e. e;
    leaders = λ _ _ e. e;
    stood = λ _ _ _. refl;
    ledger = λ t. same_list (h.ledger t);
    acks = λ _ _. omega arith;
    agreed = same_list h.agreed;
    agreed_by = inl refl;
    heard = λ _ _. omega arith;
    probed = λ _. omega arith;
    terms_up = λ _. omega arith;
    first = λ _ _. refl;
    greatest = refl;
    spent = λ _. refl;
    heard_old = λ _ _ _. refl;
    other_heard = λ _ _ _. refl;
    other_probed = λ _ _. refl;
    other_terms = λ _ _. refl;
    other_votes = λ _ _ _. refl;
    other_logs = λ _ _. refl;
    other_roles = λ j ne. put_other h.roles i Follower j ne;
  }

  vote_more : (i c : ℕ) → (h.votes i (h.terms i) ≡ None) ⊎ (h.votes i (h.terms i) ≡ Some c) → (j t d : ℕ) → h.votes j t ≡ Some d → put₂ h.votes i (h.terms i) (Some c) j t ≡ Some d
  vote_more i c free j t d e = at_put₂ (λ v. v ≡ Some d) h.votes i (h.terms i) (Some c) j t (λ ej et. same ej et free) (λ _. e)
    where
      at : j ≡ i → t ≡ h.terms i → h.votes i (h.terms i) ≡ Some d
      at ej et = subst (λ z. h.votes i z ≡ Some d) et (subst (λ z. h.votes z t ≡ Some d) ej e)

      same : j ≡ i → t ≡ h.terms i → (h.votes i (h.terms i) ≡ None) ⊎ (h.votes i (h.terms i) ≡ Some c) → Some c ≡ Some d
      same ej et (inl f) = let q = at ej et in cc (q, f)
      same ej et (inr f) = let q = at ej et in cc (q, f)

  pub goes_grant : (i c : ℕ) → (h.votes i (h.terms i) ≡ None) ⊎ (h.votes i (h.terms i) ≡ Some c) → GoesOn i h (grant i c h)
  goes_grant i c free = record {
    votes = vote_more i c free;
    leaders = λ _ _ e. e;
    stood = λ _ _ _. refl;
    ledger = λ t. same_list (h.ledger t);
    acks = λ _ _. omega arith;
    agreed = same_list h.agreed;
    agreed_by = inl refl;
    heard = λ _ _. omega arith;
    probed = λ _. omega arith;
    terms_up = λ _. omega arith;
    first = λ _ _. refl;
    greatest = refl;
    spent = λ _. refl;
    heard_old = λ _ _ _. refl;
    other_heard = λ _ _ _. refl;
    other_probed = λ _ _. refl;
    other_terms = λ _ _. refl;
    other_votes = λ j t ne. put₂_other h.votes i (h.terms i) (Some c) j t ne;
    other_logs = λ _ _. refl;
    other_roles = λ _ _. refl;
  }

  pub goes_stand : (i : ℕ) → h.votes i (h.terms i) ≡ None → GoesOn i h (stand i h)
  goes_stand i free = record {
    votes = vote_more i i (inl free);
    leaders = λ _ _ e. e;
    stood = λ c t e. at_put₂ (λ (x : Log). x ≡ h.stood c t) h.stood i (h.terms i) (h.logs i) c t
        (λ ec et. absurd (let q = subst (λ z. h.votes i z ≡ Some c) et (subst (λ z. h.votes z t ≡ Some c) ec e) in cc (q, free)))
        (λ _. refl);
    ledger = λ t. same_list (h.ledger t);
    acks = λ _ _. omega arith;
    agreed = same_list h.agreed;
    agreed_by = inl refl;
    heard = λ _ _. omega arith;
    probed = λ _. omega arith;
    terms_up = λ _. omega arith;
    first = λ _ _. refl;
    greatest = refl;
    spent = λ _. refl;
    heard_old = λ _ _ _. refl;
    other_heard = λ _ _ _. refl;
    other_probed = λ _ _. refl;
    other_terms = λ _ _. refl;
    other_votes = λ j t ne. put₂_other h.votes i (h.terms i) (Some i) j t ne;
    other_logs = λ _ _. refl;
    other_roles = λ j ne. put_other h.roles i Candidate j ne;
  }

  pub goes_win : (c : ℕ) (by : Servers) → h.leaders (h.terms c) ≡ None → GoesOn c h (win c by h)
  goes_win c by none = record {
    votes = λ _ _ _ e. e;
    leaders = λ t d e. at_put (λ v. v ≡ Some d) h.leaders (h.terms c) (Some c) t (λ et. absurd (let q = ap h.leaders et in cc (q, e, none))) (λ _. e);
    stood = λ _ _ _. refl;
    ledger = grows_win h.ledger (h.terms c) (h.logs c) (s.ledgers.none (h.terms c) none);
    acks = λ i t. at_put₂ (λ a. h.acks i t ≤ a) h.acks c (h.terms c) (length (h.logs c)) i t
        (λ _ et. let q = ap length (ap h.ledger et ∙ s.ledgers.none (h.terms c) none) in let w = s.acks.within i t in omega arith) (λ _. omega arith);
    agreed = same_list h.agreed;
    agreed_by = inl refl;
    heard = λ _ _. omega arith;
    probed = λ _. omega arith;
    terms_up = λ _. omega arith;
    first = λ t l. put_other h.first (h.terms c) (h.logs c) t (λ e. let q = ap length (ap h.ledger e ∙ s.ledgers.none (h.terms c) none) in omega arith);
    greatest = refl;
    spent = λ _. refl;
    heard_old = λ _ _ _. refl;
    other_heard = λ _ _ _. refl;
    other_probed = λ _ _. refl;
    other_terms = λ _ _. refl;
    other_votes = λ _ _ _. refl;
    other_logs = λ _ _. refl;
    other_roles = λ j ne. put_other h.roles c Leader j ne;
  }

  pub goes_append : (c : ℕ) (e : Entry) → h.roles c ≡ Leader → GoesOn c h (append c e h)
  goes_append c e lead = record {
    votes = λ _ _ _ e. e;
    leaders = λ _ _ e. e;
    stood = λ _ _ _. refl;
    ledger = grows_append h.ledger (h.terms c) e;
    acks = λ i t. at_put₂ (λ a. h.acks i t ≤ a) h.acks c (h.terms c) (suc (length (h.logs c))) i t
        (λ ei et. let q = s.acks.leader c lead in let p : h.acks i t ≡ h.acks c (h.terms c) = ap (λ z. h.acks z t) ei ∙ ap (h.acks c) et in omega arith) (λ _. omega arith);
    agreed = same_list h.agreed;
    agreed_by = inl refl;
    heard = λ _ _. omega arith;
    probed = λ _. omega arith;
    terms_up = λ _. omega arith;
    first = λ _ _. refl;
    greatest = refl;
    spent = λ _. refl;
    heard_old = λ _ _ _. refl;
    other_heard = λ _ _ _. refl;
    other_probed = λ _ _. refl;
    other_terms = λ _ _. refl;
    other_votes = λ _ _ _. refl;
    other_logs = λ j ne. put_other h.logs c (h.logs c ++ e ∷ []) j ne;
    other_roles = λ _ _. refl;
  }

  pub goes_accept : (i prev : ℕ) (es : Log) → GoesOn i h (accept i prev es h)
  goes_accept i prev es = record {
    votes = λ _ _ _ e. e;
    leaders = λ _ _ e. e;
    stood = λ _ _ _. refl;
    ledger = λ t. same_list (h.ledger t);
    acks = λ j t. at_put₂ (λ a. h.acks j t ≤ a) h.acks i (h.terms i) (max (h.acks i (h.terms i)) (prev + length es)) j t
        (λ ej et. let p : h.acks j t ≡ h.acks i (h.terms i) = ap (λ z. h.acks z t) ej ∙ ap (h.acks i) et in omega arith) (λ _. omega arith);
    agreed = same_list h.agreed;
    agreed_by = inl refl;
    heard = λ _ _. omega arith;
    probed = λ _. omega arith;
    terms_up = λ _. omega arith;
    first = λ _ _. refl;
    greatest = refl;
    spent = λ _. refl;
    heard_old = λ _ _ _. refl;
    other_heard = λ _ _ _. refl;
    other_probed = λ _ _. refl;
    other_terms = λ _ _. refl;
    other_votes = λ _ _ _. refl;
    other_logs = λ j ne. put_other h.logs i (accepted (h.logs i) prev es) j ne;
    other_roles = λ j ne. put_other h.roles i Follower j ne;
  }

  pub goes_agree : (i t n : ℕ) → IsCommitted servers h.first h.ledger h.acks t n → length h.agreed ≤ n → h.leaders t ≡ Some i → GoesOn i h (agree t n h)
  goes_agree i t n d l lead = record {
    votes = λ _ _ _ e. e;
    leaders = λ _ _ e. e;
    stood = λ _ _ _. refl;
    ledger = λ t. same_list (h.ledger t);
    acks = λ _ _. omega arith;
    agreed = agreed_extends servers h s t n d l;
    agreed_by = inr (ap h.leaders term_is ∙ lead);
    heard = λ _ _. omega arith;
    probed = λ _. omega arith;
    terms_up = λ _. omega arith;
    first = λ _ _. refl;
    greatest = refl;
    spent = λ _. refl;
    heard_old = λ _ _ _. refl;
    other_heard = λ _ _ _. refl;
    other_probed = λ _ _. refl;
    other_terms = λ _ _. refl;
    other_votes = λ _ _ _. refl;
    other_logs = λ _ _. refl;
    other_roles = λ _ _. refl;
  }
    where
      front : length (take n (h.ledger t)) ≡ n
      front = omega (arith, length-take n (h.ledger t), d.there)

      term_is : last_term (take n (h.ledger t)) ≡ t
      term_is = ap (λ z. term_at z (take n (h.ledger t))) front ∙ term_take n n (h.ledger t) (omega arith) ∙ s.ledgers.own t n d.own d.there

  pub goes_hear : (i round : ℕ) → GoesOn i h (hear i round h)
  goes_hear i round = record {
    votes = λ _ _ _ e. e;
    leaders = λ _ _ e. e;
    stood = λ _ _ _. refl;
    ledger = λ t. same_list (h.ledger t);
    acks = λ _ _. omega arith;
    agreed = same_list h.agreed;
    agreed_by = inl refl;
    probed = λ _. omega arith;
    other_probed = λ _ _. refl;
    heard = λ j t. at_put₂ (λ a. h.heard j t ≤ a) h.heard i (h.terms i) (max (h.heard i (h.terms i)) round) j t
        (λ ej et. let p : h.heard j t ≡ h.heard i (h.terms i) = ap (λ z. h.heard z t) ej ∙ ap (h.heard i) et in omega arith) (λ _. omega arith);
    terms_up = λ _. omega arith;
    first = λ _ _. refl;
    greatest = refl;
    spent = λ _. refl;
    heard_old = λ j t l. at_put₂ (λ z. z ≡ h.heard j t) h.heard i (h.terms i) (max (h.heard i (h.terms i)) round) j t (λ ej et. let q = ap h.terms ej in absurd (omega arith)) (λ _. refl);
    other_heard = λ j t ne. put₂_other h.heard i (h.terms i) (max (h.heard i (h.terms i)) round) j t ne;
    other_terms = λ _ _. refl;
    other_votes = λ _ _ _. refl;
    other_logs = λ _ _. refl;
    other_roles = λ _ _. refl;
  }

  pub goes_probe : (c : ℕ) → h.leaders (h.terms c) ≡ Some c → GoesOn c h (probe c h)
  goes_probe c lead = record {
    votes = λ _ _ _ e. e;
    leaders = λ _ _ e. e;
    stood = λ _ _ _. refl;
    ledger = λ t. same_list (h.ledger t);
    acks = λ _ _. omega arith;
    agreed = same_list h.agreed;
    agreed_by = inl refl;
    heard = λ _ _. omega arith;
    terms_up = λ _. omega arith;
    first = λ _ _. refl;
    greatest = refl;
    spent = λ _. refl;
    heard_old = λ _ _ _. refl;
    other_heard = λ _ _ _. refl;
    probed = λ t. at_put (λ z. h.probed t ≤ z) h.probed (h.terms c) (suc (h.probed (h.terms c))) t (λ e. let q = ap h.probed e in omega arith) (λ _. omega arith);
    other_probed = λ t ne. put_other h.probed (h.terms c) (suc (h.probed (h.terms c))) t (λ e. ne (ap h.leaders e ∙ lead));
    other_terms = λ _ _. refl;
    other_votes = λ _ _ _. refl;
    other_logs = λ _ _. refl;
    other_roles = λ _ _. refl;
  }
