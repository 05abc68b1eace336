-- Entries that stand already in a log.
use Rattle.std.proofs.Common.{◌≡◌, ◌≢◌, ℕ, zero, suc, ◌+◌, ◌<◌, ◌≤◌, ◌==◌, nat_le, Bool, true, false, ◌&&◌, cond, [], ◌∷◌, ◌++◌, length, take, drop, get_or, refl, sym, ◌∙◌, ap, subst, arith}
use Rattle.std.proofs.lemmas.List.{drop_all, drop_more}
use Rattle.std.proofs.lemmas.Bool.Decides.{nat_tests}
use Rattle.cat_model.specs.declared.command.Entry.{Entry}
use Rattle.raft_model.specs.Log.{Log, merged, accepted}
use Rattle.raft_model.specs.Rules.{keeps_front}
use Rattle.raft_model.proofs.Election.{at_eq}

-- how many of the entries, from the first on, have the terms that the log's have
abbrev pub stand : Log → Log → ℕ
stand have [] = 0
stand [] (e ∷ es) = 0
stand (h ∷ hs) (e ∷ es) = cond (h.term == e.term) (suc (stand hs es)) 0

pub stand_all : (x y : Log) → stand x y ≡ length y → merged x y ≡ x
stand_all x [] e = refl
stand_all [] (b ∷ ys) e = absurd (omega (arith, e))
stand_all (a ∷ xs) (b ∷ ys) e = at_eq (λ t. cond t (suc (stand xs ys)) 0 ≡ length (b ∷ ys) → cond t (a ∷ merged xs ys) (b ∷ ys) ≡ a ∷ xs) a.term b.term
    (λ _ h. ap (λ z. a ∷ z) (stand_all xs ys (omega (arith, h)))) (λ _ h. absurd (omega (arith, h))) e

pub stand_some : (x y : Log) → stand x y < length y → merged x y ≡ take (stand x y) x ++ drop (stand x y) y
stand_some x [] l = absurd (omega (arith, l))
stand_some [] (b ∷ ys) l = refl
stand_some (a ∷ xs) (b ∷ ys) l = at_eq (λ t. cond t (suc (stand xs ys)) 0 < length (b ∷ ys) → cond t (a ∷ merged xs ys) (b ∷ ys) ≡ take (cond t (suc (stand xs ys)) 0) (a ∷ xs) ++ drop (cond t (suc (stand xs ys)) 0) (b ∷ ys)) a.term b.term
    (λ _ h. ap (λ z. a ∷ z) (stand_some xs ys (omega (arith, h)))) (λ _ h. refl) l

-- behind those that stand, the log has another entry or none
pub stand_changes : (x y : Log) → stand x y < length y → merged x y ≢ x
stand_changes x [] l = absurd (omega (arith, l))
stand_changes [] (b ∷ ys) l = λ e. cc e
stand_changes (a ∷ xs) (b ∷ ys) l = at_eq (λ t. cond t (suc (stand xs ys)) 0 < length (b ∷ ys) → cond t (a ∷ merged xs ys) (b ∷ ys) ≢ a ∷ xs) a.term b.term
    (λ _ h e. stand_changes xs ys (omega (arith, h)) (cc e)) (λ ne h e. ne (let m : b ≡ a = cc e in ap (λ (z : Entry). z.term) (sym m))) l

front_same : (n : ℕ) (t : Bool) → n == n && t ≡ t
front_same n t = at_eq (λ b. b && t ≡ t) n n (λ _. refl) (λ ne. absurd (ne refl))

pub le_zero : (n : ℕ) → nat_le 0 n ≡ true
le_zero n = grind (arith, nat_tests)

pub le_suc : (k m : ℕ) → nat_le (suc k) (suc m) ≡ nat_le k m
le_suc k m = grind (arith, nat_tests)

pub le_none : (k : ℕ) → nat_le (suc k) 0 ≡ false
le_none k = grind (arith, nat_tests)

pub stand_front : (k : ℕ) (x y : Log) → stand x y < length y → k ≤ length x → keeps_front k x (merged x y) ≡ nat_le k (stand x y)
stand_front k x [] l m = absurd (omega (arith, l))
stand_front zero [] (b ∷ ys) l m = refl
stand_front (suc k) [] (b ∷ ys) l m = absurd (omega (arith, m))
stand_front zero (a ∷ xs) (b ∷ ys) l m = sym (le_zero (stand (a ∷ xs) (b ∷ ys)))
stand_front (suc k) (a ∷ xs) (b ∷ ys) l m = at_eq (λ t. cond t (suc (stand xs ys)) 0 < length (b ∷ ys) → keeps_front (suc k) (a ∷ xs) (cond t (a ∷ merged xs ys) (b ∷ ys)) ≡ nat_le (suc k) (cond t (suc (stand xs ys)) 0)) a.term b.term
    (λ _ h. front_same a.term _ ∙ stand_front k xs ys (omega (arith, h)) (omega (arith, m)) ∙ sym (le_suc k (stand xs ys)))
    (λ ne h. at_eq (λ t. t && keeps_front k xs ys ≡ false) a.term b.term (λ e. absurd (ne e)) (λ _. refl) ∙ sym (le_none k)) l

-- the same behind index prev
pub accepted_all : (log : Log) (prev : ℕ) (es : Log) → prev ≤ length log → stand (drop prev log) es ≡ length es → accepted log prev es ≡ log
accepted_all log zero es l e = stand_all log es e
accepted_all [] (suc prev) es l e = absurd (omega (arith, l))
accepted_all (a ∷ log) (suc prev) es l e = ap (λ z. a ∷ z) (accepted_all log prev es (omega (arith, l)) e)

pub accepted_some : (log : Log) (prev : ℕ) (es : Log) (k : ℕ) → prev ≤ length log → stand (drop prev log) es ≡ k → k < length es → accepted log prev es ≡ take (prev + k) log ++ drop k es
accepted_some log prev es k l e h = go log prev l k e h
  where
    go : (x : Log) (p : ℕ) → p ≤ length x → (k : ℕ) → stand (drop p x) es ≡ k → k < length es → accepted x p es ≡ take (p + k) x ++ drop k es
    go x zero l k e h = subst (λ j. merged x es ≡ take j x ++ drop j es) e (stand_some x es (subst (λ j. j < length es) (sym e) h)) ∙ (let q : k ≡ 0 + k = omega arith in ap (λ j. take j x ++ drop k es) q)
    go [] (suc p) l k e h = absurd (omega (arith, l))
    go (a ∷ x) (suc p) l k e h = ap (λ z. a ∷ z) (go x p (omega (arith, l)) k e h) ∙ (let q : suc (p + k) ≡ suc p + k = omega arith in ap (λ j. take j (a ∷ x) ++ drop k es) q)

pub accepted_changes : (log : Log) (prev : ℕ) (es : Log) → prev ≤ length log → stand (drop prev log) es < length es → accepted log prev es ≢ log
accepted_changes log zero es l h = stand_changes log es h
accepted_changes [] (suc prev) es l h = absurd (omega (arith, l))
accepted_changes (a ∷ log) (suc prev) es l h = λ e. accepted_changes log prev es (omega (arith, l)) h (cc e)

pub accepted_front : (log : Log) (prev : ℕ) (es : Log) (k : ℕ) → prev ≤ length log → stand (drop prev log) es < length es → k ≤ length log → keeps_front k log (accepted log prev es) ≡ nat_le k (prev + stand (drop prev log) es)
accepted_front log zero es k l h m = stand_front k log es h m ∙ (let q : stand log es ≡ 0 + stand log es = omega arith in ap (λ j. nat_le k j) q)
accepted_front [] (suc prev) es k l h m = absurd (omega (arith, l))
accepted_front (a ∷ log) (suc prev) es zero l h m = sym (le_zero (suc prev + stand (drop prev log) es))
accepted_front (a ∷ log) (suc prev) es (suc k) l h m = front_same a.term _ ∙ accepted_front log prev es k (omega (arith, l)) h (omega (arith, m)) ∙ sym (le_suc k (prev + stand (drop prev log) es))
    ∙ (let q : suc (prev + stand (drop prev log) es) ≡ suc prev + stand (drop prev log) es = omega arith in ap (λ j. nat_le (suc k) j) q)

-- the count, entry by entry
pub stand_more : (log entries : Log) (prev k : ℕ) (d d' : Entry) → prev + k < length log → k < length entries → (get_or log (prev + k) d).term ≡ (get_or entries k d').term →
    stand (drop (prev + k) log) (drop k entries) ≡ suc (stand (drop (prev + (k + 1)) log) (drop (k + 1) entries))
stand_more log entries prev k d d' l m e =
    let i : prev + k + 1 ≡ prev + (k + 1) = omega arith in
    ap (λ z. stand z (drop k entries)) (drop_more log (prev + k) d l) ∙ ap (λ z. stand (get_or log (prev + k) d ∷ drop (prev + k + 1) log) z) (drop_more entries k d' m)
    ∙ at_eq (λ t. cond t (suc (stand (drop (prev + k + 1) log) (drop (k + 1) entries))) 0 ≡ suc (stand (drop (prev + k + 1) log) (drop (k + 1) entries))) (get_or log (prev + k) d).term (get_or entries k d').term (λ _. refl) (λ ne. absurd (ne e))
    ∙ ap (λ j. suc (stand (drop j log) (drop (k + 1) entries))) i

pub stand_none : (x y : Log) → y ≡ [] → stand x y ≡ 0
stand_none x y e = ap (λ z. stand x z) e

pub stand_end : (x y : Log) → x ≡ [] → stand x y ≡ 0
stand_end x [] e = refl
stand_end x (b ∷ ys) e = ap (λ z. stand z (b ∷ ys)) e

pub stand_apart : (log entries : Log) (m k : ℕ) (d d' : Entry) → m < length log → k < length entries → (get_or log m d).term ≢ (get_or entries k d').term →
    stand (drop m log) (drop k entries) ≡ 0
stand_apart log entries m k d d' l h ne =
    ap (λ z. stand z (drop k entries)) (drop_more log m d l) ∙ ap (λ z. stand (get_or log m d ∷ drop (m + 1) log) z) (drop_more entries k d' h)
    ∙ at_eq (λ t. cond t (suc (stand (drop (m + 1) log) (drop (k + 1) entries))) 0 ≡ 0) (get_or log m d).term (get_or entries k d').term (λ e. absurd (ne e)) (λ _. refl)

pub stand_step : (n k a b : ℕ) → n ≡ k + a → a ≡ suc b → n ≡ k + 1 + b
stand_step n k a b e f = omega (arith, e, f)

pub stand_ends : (n k a : ℕ) → n ≡ k + a → a ≡ 0 → n ≡ k
stand_ends n k a e f = omega (arith, e, f)

-- what the count tells
pub record Stands (log : Log) (prev : ℕ) (entries : Log) (k : ℕ) : Type 0 where
  pub all : k ≡ length entries → accepted log prev entries ≡ log
  pub rest : k < length entries → accepted log prev entries ≡ take (prev + k) log ++ drop k entries
  pub changes : k < length entries → accepted log prev entries ≢ log
  pub front : k < length entries → (m : ℕ) → m ≤ length log → keeps_front m log (accepted log prev entries) ≡ nat_le m (prev + k)

pub stands : (log : Log) (prev : ℕ) (entries : Log) (k : ℕ) → prev ≤ length log → stand (drop prev log) entries ≡ k → Stands log prev entries k
stands log prev entries k l e = record {
  all = λ h. accepted_all log prev entries l (e ∙ h);
  rest = λ h. accepted_some log prev entries k l e h;
  changes = λ h. accepted_changes log prev entries l (subst (λ j. j < length entries) (sym e) h);
  front = λ h m w. accepted_front log prev entries m l (subst (λ j. j < length entries) (sym e) h) w ∙ ap (λ j. nat_le m (prev + j)) e;
}

-- what it tells where the count ends
pub ends_full : (log : Log) (prev : ℕ) (entries : Log) (k : ℕ) → prev ≤ length log → stand (drop prev log) entries ≡ k + stand (drop (prev + k) log) (drop k entries) → length entries ≤ k → Stands log prev entries k
ends_full log prev entries k l e h = stands log prev entries k l (stand_ends _ k _ e (stand_none (drop (prev + k) log) (drop k entries) (drop_all k entries h)))

pub ends_short : (log : Log) (prev : ℕ) (entries : Log) (k : ℕ) → prev ≤ length log → stand (drop prev log) entries ≡ k + stand (drop (prev + k) log) (drop k entries) → length log ≤ prev + k → Stands log prev entries k
ends_short log prev entries k l e h = stands log prev entries k l (stand_ends _ k _ e (stand_end (drop (prev + k) log) (drop k entries) (drop_all (prev + k) log h)))

pub ends_apart : (log : Log) (prev : ℕ) (entries : Log) (k : ℕ) (d d' : Entry) → prev ≤ length log → stand (drop prev log) entries ≡ k + stand (drop (prev + k) log) (drop k entries) → prev + k < length log → k < length entries →
    (get_or log (prev + k) d).term ≢ (get_or entries k d').term → Stands log prev entries k
ends_apart log prev entries k d d' l e h m ne = stands log prev entries k l (stand_ends _ k _ e (stand_apart log entries (prev + k) k d d' h m ne))
