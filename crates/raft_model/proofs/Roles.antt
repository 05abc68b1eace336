-- Roles are true of the history, move by move.
use Rattle.std.proofs.Common.{◌≡◌, ◌≢◌, ℕ, ◌<◌, ◌≤◌, cond, ◌⊎◌, inl, inr, Option, Some, None, [], ◌∷◌, ◌++◌, sym, ◌∙◌, ap, subst, arith}
use Rattle.cat_model.specs.declared.command.Entry.{Entry}
use Rattle.raft_model.specs.Log.{Log}
use Rattle.cat_model.specs.declared.reply.Role.{Role}
use Rattle.cat_model.specs.declared.reply.Role.TheVariants.{Follower, Candidate, Leader}
use Rattle.raft_model.proofs.History.{put, put₂, RolesAreTrue}
use Rattle.raft_model.proofs.Election.{at_eq, at_put, at_put₂, put_up, put_same, put_other}

module _ (terms : ℕ → ℕ) (votes : ℕ → ℕ → Option ℕ) (logs : ℕ → Log) (roles : ℕ → Role) (stood : ℕ → ℕ → Log) (leaders : ℕ → Option ℕ) (ledger : ℕ → Log) (r : RolesAreTrue terms votes logs roles stood leaders ledger) where
  pub roles_rise : (i t : ℕ) → terms i < t → RolesAreTrue (put terms i t) votes logs (put roles i Follower) stood leaders ledger
  roles_rise i t l = record {
    term = λ u c e. let k = put_up terms i t c (omega arith) in let q = r.term u c e in omega arith;
    vote = λ c. at_eq (λ b. cond b Follower (roles c) ≡ Candidate → votes c (cond b t (terms c)) ≡ Some c) c i (λ _ e. cc e) (λ _. r.vote c);
    log = λ c. at_eq (λ b. cond b Follower (roles c) ≡ Candidate → stood c (cond b t (terms c)) ≡ logs c) c i (λ _ e. cc e) (λ _. r.log c);
    unelected = λ c. at_eq (λ b. cond b Follower (roles c) ≡ Candidate → leaders (cond b t (terms c)) ≢ Some c) c i (λ _ e. cc e) (λ _. r.unelected c);
    elected = λ c. at_eq (λ b. cond b Follower (roles c) ≡ Leader → leaders (cond b t (terms c)) ≡ Some c) c i (λ _ e. cc e) (λ _. r.elected c);
    leading = λ c. at_eq (λ b. cond b Follower (roles c) ≡ Leader → ledger (cond b t (terms c)) ≡ logs c) c i (λ _ e. cc e) (λ _. r.leading c);
  }

  -- a server with another log follows
  pub roles_rest : (i : ℕ) (x : Log) → RolesAreTrue terms votes (put logs i x) (put roles i Follower) stood leaders ledger
  roles_rest i x = record {
    term = r.term;
    vote = λ c. at_put (λ z. z ≡ Candidate → votes c (terms c) ≡ Some c) roles i Follower c (λ _ e. cc e) (λ _. r.vote c);
    log = λ c. at_eq (λ b. cond b Follower (roles c) ≡ Candidate → stood c (terms c) ≡ cond b x (logs c)) c i (λ _ e. cc e) (λ _. r.log c);
    unelected = λ c. at_put (λ z. z ≡ Candidate → leaders (terms c) ≢ Some c) roles i Follower c (λ _ e. cc e) (λ _. r.unelected c);
    elected = λ c. at_put (λ z. z ≡ Leader → leaders (terms c) ≡ Some c) roles i Follower c (λ _ e. cc e) (λ _. r.elected c);
    leading = λ c. at_eq (λ b. cond b Follower (roles c) ≡ Leader → ledger (terms c) ≡ cond b x (logs c)) c i (λ _ e. cc e) (λ _. r.leading c);
  }

  pub roles_step_down : (i : ℕ) → RolesAreTrue terms votes logs (put roles i Follower) stood leaders ledger
  roles_step_down i = record {
    term = r.term;
    vote = λ c. at_put (λ z. z ≡ Candidate → votes c (terms c) ≡ Some c) roles i Follower c (λ _ e. cc e) (λ _. r.vote c);
    log = λ c. at_put (λ z. z ≡ Candidate → stood c (terms c) ≡ logs c) roles i Follower c (λ _ e. cc e) (λ _. r.log c);
    unelected = λ c. at_put (λ z. z ≡ Candidate → leaders (terms c) ≢ Some c) roles i Follower c (λ _ e. cc e) (λ _. r.unelected c);
    elected = λ c. at_put (λ z. z ≡ Leader → leaders (terms c) ≡ Some c) roles i Follower c (λ _ e. cc e) (λ _. r.elected c);
    leading = λ c. at_put (λ z. z ≡ Leader → ledger (terms c) ≡ logs c) roles i Follower c (λ _ e. cc e) (λ _. r.leading c);
  }

  pub roles_stand : (i : ℕ) → leaders (terms i) ≢ Some i → RolesAreTrue terms (put₂ votes i (terms i) (Some i)) logs (put roles i Candidate) (put₂ stood i (terms i) (logs i)) leaders ledger
  roles_stand i un = record {
    term = r.term;
    vote = λ c. at_put (λ z. z ≡ Candidate → put₂ votes i (terms i) (Some i) c (terms c) ≡ Some c) roles i Candidate c
        (λ e _. at_put₂ (λ v. v ≡ Some c) votes i (terms i) (Some i) c (terms c) (λ _ _. ap Some (sym e)) (λ ne. absurd (ne e (ap terms e))))
        (λ ne k. at_put₂ (λ v. v ≡ Some c) votes i (terms i) (Some i) c (terms c) (λ e _. ap Some (sym e)) (λ _. r.vote c k));
    log = λ c. at_put (λ z. z ≡ Candidate → put₂ stood i (terms i) (logs i) c (terms c) ≡ logs c) roles i Candidate c
        (λ e _. at_put₂ (λ v. v ≡ logs c) stood i (terms i) (logs i) c (terms c) (λ _ _. ap logs (sym e)) (λ ne. absurd (ne e (ap terms e))))
        (λ ne k. at_put₂ (λ v. v ≡ logs c) stood i (terms i) (logs i) c (terms c) (λ e _. ap logs (sym e)) (λ _. r.log c k));
    unelected = λ c. at_put (λ z. z ≡ Candidate → leaders (terms c) ≢ Some c) roles i Candidate c (λ e _. subst (λ z. leaders (terms z) ≢ Some z) (sym e) un) (λ _. r.unelected c);
    elected = λ c. at_put (λ z. z ≡ Leader → leaders (terms c) ≡ Some c) roles i Candidate c (λ _ e. cc e) (λ _. r.elected c);
    leading = λ c. at_put (λ z. z ≡ Leader → ledger (terms c) ≡ logs c) roles i Candidate c (λ _ e. cc e) (λ _. r.leading c);
  }

  pub roles_grant : (i c : ℕ) → (votes i (terms i) ≡ None) ⊎ (votes i (terms i) ≡ Some c) → RolesAreTrue terms (put₂ votes i (terms i) (Some c)) logs roles stood leaders ledger
  roles_grant i c free = record {
    term = r.term;
    vote = λ d k. at_put₂ (λ v. v ≡ Some d) votes i (terms i) (Some c) d (terms d) (λ e _. same d e k free) (λ _. r.vote d k);
    log = r.log;
    unelected = r.unelected;
    elected = r.elected;
    leading = r.leading;
  }
    where
      same : (d : ℕ) → d ≡ i → roles d ≡ Candidate → (votes i (terms i) ≡ None) ⊎ (votes i (terms i) ≡ Some c) → Some c ≡ Some d
      same d e k (inl f) = let v = subst (λ z. votes z (terms z) ≡ Some d) e (r.vote d k) in cc (v, f)
      same d e k (inr f) = let v = subst (λ z. votes z (terms z) ≡ Some d) e (r.vote d k) in cc (v, f)

  pub roles_win : (c : ℕ) → leaders (terms c) ≡ None → RolesAreTrue terms votes logs (put roles c Leader) stood (put leaders (terms c) (Some c)) (put ledger (terms c) (logs c))
  roles_win c none = record {
    term = λ u d. at_put (λ z. z ≡ Some d → u ≤ terms d) leaders (terms c) (Some c) u (λ e k. let q : c ≡ d = cc k in let q' = ap terms q in omega arith) (λ _. r.term u d);
    vote = λ d. at_put (λ z. z ≡ Candidate → votes d (terms d) ≡ Some d) roles c Leader d (λ _ e. cc e) (λ _. r.vote d);
    log = λ d. at_put (λ z. z ≡ Candidate → stood d (terms d) ≡ logs d) roles c Leader d (λ _ e. cc e) (λ _. r.log d);
    unelected = λ d. at_put (λ z. z ≡ Candidate → put leaders (terms c) (Some c) (terms d) ≢ Some d) roles c Leader d (λ _ e. cc e)
        (λ ne k. at_put (λ z. z ≢ Some d) leaders (terms c) (Some c) (terms d) (λ _ q. ne (let p : c ≡ d = cc q in sym p)) (λ _. r.unelected d k));
    elected = λ d. at_put (λ z. z ≡ Leader → put leaders (terms c) (Some c) (terms d) ≡ Some d) roles c Leader d
        (λ e _. at_put (λ z. z ≡ Some d) leaders (terms c) (Some c) (terms d) (λ _. ap Some (sym e)) (λ ne. absurd (ne (ap terms e))))
        (λ _ k. at_put (λ z. z ≡ Some d) leaders (terms c) (Some c) (terms d) (λ e. absurd (other d k e)) (λ _. r.elected d k));
    leading = λ d. at_put (λ z. z ≡ Leader → put ledger (terms c) (logs c) (terms d) ≡ logs d) roles c Leader d
        (λ e _. at_put (λ z. z ≡ logs d) ledger (terms c) (logs c) (terms d) (λ _. ap logs (sym e)) (λ ne. absurd (ne (ap terms e))))
        (λ _ k. at_put (λ z. z ≡ logs d) ledger (terms c) (logs c) (terms d) (λ e. absurd (other d k e)) (λ _. r.leading d k));
  }
    where
      other : (d : ℕ) → roles d ≡ Leader → terms d ≡ terms c → ⊥
      other d k e = let q = r.elected d k in let p = ap leaders e in cc (q, p, none)

  pub roles_append : (c : ℕ) (e : Entry) → roles c ≡ Leader → RolesAreTrue terms votes (put logs c (logs c ++ e ∷ [])) roles stood leaders (put ledger (terms c) (ledger (terms c) ++ e ∷ []))
  roles_append c e lead = record {
    term = r.term;
    vote = r.vote;
    log = λ d k. at_put (λ (x : Log). stood d (terms d) ≡ x) logs c (logs c ++ e ∷ []) d (λ q. let p = ap roles q in cc (p, k, lead)) (λ _. r.log d k);
    unelected = r.unelected;
    elected = r.elected;
    leading = λ d k. at_put (λ (x : Log). put ledger (terms c) (ledger (terms c) ++ e ∷ []) (terms d) ≡ x) logs c (logs c ++ e ∷ []) d
        (λ q. ap (put ledger (terms c) (ledger (terms c) ++ e ∷ [])) (ap terms q) ∙ put_same ledger (terms c) (ledger (terms c) ++ e ∷ []) ∙ ap (λ x. x ++ e ∷ []) (r.leading c lead))
        (λ ne. put_other ledger (terms c) (ledger (terms c) ++ e ∷ []) (terms d) (λ q. ne (one d k q)) ∙ r.leading d k);
  }
    where
      one : (d : ℕ) → roles d ≡ Leader → terms d ≡ terms c → d ≡ c
      one d k q = let a = r.elected d k in let b = r.elected c lead in let p = ap leaders q in cc (a, b, p)
