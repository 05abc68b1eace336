-- Where entries stand.
use Rattle.std.proofs.Common.{ℕ, None, Some, [], ap, arith, false, inl, inr, length, refl, subst, suc, sym, take, zero, ◌<◌, ◌∙◌, ◌∷◌, ◌≡◌, ◌≢◌, ◌≤◌, ◌⊎◌}
use Rattle.cat_model.specs.declared.command.Entry.{Entry}
use Rattle.cat_model.specs.declared.reply.Role.TheVariants.{Leader}
use Rattle.raft_model.proofs.Agreement.{leader_completeness}
use Rattle.raft_model.proofs.History.{Follows, Has, History, IsCommitted, Sound}
use Rattle.raft_model.proofs.Logs.{agree_below, agree_length, agree_term, front_take}
use Rattle.raft_model.proofs.Moving.{durable}
use Rattle.raft_model.proofs.Numbers.{agree_number}
use Rattle.raft_model.proofs.Sound.{Fits, IsSound}
use Rattle.raft_model.proofs.Tests.{no_bool}
use Rattle.raft_model.proofs.Worlds.{Goes, fits_at, reach_goes}
use Rattle.raft_model.specs.Facts.{IsLogOf, IsPlaced, StandsOnce}
use Rattle.raft_model.specs.Log.{Log, entry_at, last_term, number_at, term_at}
use Rattle.raft_model.specs.Node.{Kept, Node}
use Rattle.raft_model.specs.World.{IsServer, Reaches, World}
use Rattle.std.proofs.lemmas.Bool.{cases_lt}
use Rattle.std.proofs.lemmas.List.{take_all}

-- the agreed list of a sound world is no longer than its history's
pub agreed_shorter : (w : World) (s : IsSound w) → length w.agreed ≤ length s.history.agreed
agreed_shorter w s = omega (arith, ap length s.agreed)

pub agreed_follows : (v : World) (s : IsSound v) (m : ℕ) → m ≤ length v.agreed → take m v.agreed ≡ take m (s.history.ledger (term_at m v.agreed))
agreed_follows v s m l = from s.sound.agreed
  where
    front : take m s.history.agreed ≡ take m v.agreed
    front = ap (take m) s.agreed

    from : (s.history.agreed ≡ []) ⊎ ((t : ℕ) × IsCommitted (length v.nodes) s.history.first s.history.ledger s.history.acks t (length s.history.agreed) × Has s.history.ledger t (length s.history.agreed) s.history.agreed) → take m v.agreed ≡ take m (s.history.ledger (term_at m v.agreed))
    from (inl e) =
        let k = agreed_shorter v s in
        let z : m ≡ 0 = let q = ap length e in omega arith in
        subst (λ y. take y v.agreed ≡ take y (s.history.ledger (term_at y v.agreed))) (sym z) refl
    from (inr (t, d, e)) =
        let k = agreed_shorter v s in
        let g = agree_below m (length s.history.agreed) s.history.agreed (s.history.ledger t) (omega arith) e in
        let h = sym front ∙ g in
        let f = s.sound.logs.of_ledgers t m (agree_length m (s.history.ledger t) v.agreed (sym h) l) in
        h ∙ f ∙ ap (λ u. take m (s.history.ledger u)) (sym (agree_term m m v.agreed (s.history.ledger t) (omega arith) h))

-- A leader whose term is not below that of the last agreed entry has all that is agreed.
pub leader_has_agreed : (servers : ℕ) (h : History) → Sound servers h → (c : ℕ) → h.roles c ≡ Leader → last_term h.agreed ≤ h.terms c → take (length h.agreed) (h.logs c) ≡ h.agreed
leader_has_agreed servers h s c lead l = go s.agreed
  where
    go : (h.agreed ≡ []) ⊎ ((t : ℕ) × IsCommitted servers h.first h.ledger h.acks t (length h.agreed) × Has h.ledger t (length h.agreed) h.agreed) → take (length h.agreed) (h.logs c) ≡ h.agreed
    go (inl e) = rw e refl
    go (inr (t, d, e)) =
        let u : last_term h.agreed ≡ t = agree_term (length h.agreed) (length h.agreed) h.agreed (h.ledger t) (omega arith) e ∙ s.ledgers.own t (length h.agreed) d.own d.there in
        ap (take (length h.agreed)) (sym (s.roles.leading c lead)) ∙ at (cases_lt t (h.terms c)) u ∙ sym e ∙ take_all (length h.agreed) h.agreed (omega arith)
      where
        at : (t < h.terms c) ⊎ (h.terms c ≤ t) → last_term h.agreed ≡ t → take (length h.agreed) (h.ledger (h.terms c)) ≡ take (length h.agreed) (h.ledger t)
        at (inl k) u =
            let f = leader_completeness servers h s t (length h.agreed) (h.terms c) c d k (s.roles.elected c lead) in
            let q = agree_length (length h.agreed) (h.first (h.terms c)) (h.ledger t) f d.there in
            front_take (length h.agreed) (h.first (h.terms c)) (h.ledger (h.terms c)) (s.ledgers.begins (h.terms c)) q ∙ f
        at (inr k) u = let q : h.terms c ≡ t = omega arith in ap (λ z. take (length h.agreed) (h.ledger z)) q

-- an entry of its leader's term is behind what the leader began with
pub own_of : (servers : ℕ) (h : History) → Sound servers h → (t m : ℕ) → 0 < m → m ≤ length (h.ledger t) → term_at m (h.ledger t) ≡ t → length (h.first t) < m
own_of servers h s t m p l e = at (cases_lt (length (h.first t)) m)
  where
    at : (length (h.first t) < m) ⊎ (m ≤ length (h.first t)) → length (h.first t) < m
    at (inl k) = k
    at (inr k) =
        let o = s.ledgers.older t m p k in
        let q = agree_term m m (h.ledger t) (h.first t) (omega arith) (front_take m (h.first t) (h.ledger t) (s.ledgers.begins t) k) in
        absurd (omega arith)

-- In a sound world a leader whose term is not below that of the last agreed entry has the agreed list.
pub leader_begins : (w : World) → IsSound w → (i : ℕ) (n : Node) → IsServer w i n → n.halted ≡ false → n.role ≡ Leader → last_term w.agreed ≤ n.term → take (length w.agreed) n.log ≡ w.agreed
leader_begins w s i n is up lead l = go (fits_at w s i n is)
  where
    go : Fits (length w.nodes) s.history i n → take (length w.agreed) n.log ≡ w.agreed
    go (inr (q, r)) = absurd (no_bool n.halted q up)
    go (inl (q, r, _)) =
        let e = leader_has_agreed (length w.nodes) s.history s.sound i (r.role ∙ lead) (let k = ap last_term s.agreed in let t = r.term in omega arith) in
        subst (λ (z : Log). take (length z) n.log ≡ z) s.agreed (subst (λ (z : Log). take (length s.history.agreed) z ≡ s.history.agreed) r.log e)

-- the entry of a front
entry_take : (n m : ℕ) (x : Log) → n ≤ m → entry_at n (take m x) ≡ entry_at n x
entry_take zero m x h = refl
entry_take (suc n) zero x h = absurd (omega arith)
entry_take (suc n) (suc m) [] h = refl
entry_take (suc zero) (suc m) (e ∷ es) h = refl
entry_take (suc (suc n)) (suc m) (e ∷ es) h = entry_take (suc n) m es (omega arith)

agree_entry : (k n : ℕ) (x y : Log) → k ≤ n → take n x ≡ take n y → entry_at k x ≡ entry_at k y
agree_entry k n x y h e = sym (entry_take k n x h) ∙ ap (entry_at k) e ∙ entry_take k n y h

-- what an entry in a log says
record EntryIs (m : ℕ) (log : Log) (e : Entry) : Type 0 where
  above : 0 < m
  within : m ≤ length log
  term : term_at m log ≡ e.term
  number : number_at m log ≡ e.number

some_is : (e f : Entry) → Some e ≡ Some f → e ≡ f
some_is e f q = cc q

entry_is : (m : ℕ) (log : Log) (e : Entry) → entry_at m log ≡ Some e → EntryIs m log e
entry_is zero log e q = absurd (none q)
  where
    none : None ≡ Some e → ⊥
    none p = cc p
entry_is (suc n) [] e q = absurd (none q)
  where
    none : None ≡ Some e → ⊥
    none p = cc p
entry_is (suc zero) (f ∷ es) e q =
    let p = some_is f e q in
    record { above = omega arith; within = omega arith; term = ap (λ (z : Entry). z.term) p; number = ap (λ (z : Entry). z.number) p }
entry_is (suc (suc n)) (f ∷ es) e q =
    let r = entry_is (suc n) es e q in
    record { above = omega arith; within = let l = r.within in omega arith; term = r.term; number = r.number }

-- each log of a sound world follows its ledgers
pub log_follows : (w : World) (s : IsSound w) (x : Log) → IsLogOf w x → (m : ℕ) → m ≤ length x → take m x ≡ take m (s.history.ledger (term_at m x))
log_follows w s x (inl e) m l =
    subst (λ (z : Log). take m z ≡ take m (s.history.ledger (term_at m z))) (sym e) (agreed_follows w s m (subst (λ (z : Log). m ≤ length z) e l))
log_follows w s x (inr (inl (i, n, at, up, e))) m l = go (fits_at w s i n at)
  where
    go : Fits (length w.nodes) s.history i n → take m x ≡ take m (s.history.ledger (term_at m x))
    go (inr (q, r)) = absurd (no_bool n.halted q up)
    go (inl (q, r, _)) = (subst (λ (z : Log). Follows s.history.ledger z) (r.log ∙ sym e) (s.sound.logs.of_logs i)) m l
log_follows w s x (inr (inr (i, n, kept, at, told, e))) m l =
    let d = durable (length w.nodes) s.history i n (fits_at w s i n at) in
    let q : d.kept ≡ kept = same d.kept (sym d.holds ∙ told) in
    (subst (λ (z : Log). Follows s.history.ledger z) (d.log ∙ ap (λ (z : Kept). z.log) q ∙ sym e) (s.sound.logs.of_logs i)) m l
  where
    same : (k : Kept) → Some k ≡ Some kept → k ≡ kept
    same k p = cc p

-- two places of one ledger with one number that is not 0
one_place : (servers : ℕ) (h : History) → Sound servers h → (t m k : ℕ) → 0 < m → m ≤ length (h.ledger t) → 0 < k → k ≤ length (h.ledger t) → term_at m (h.ledger t) ≡ t → term_at k (h.ledger t) ≡ t → number_at m (h.ledger t) ≡ number_at k (h.ledger t) → number_at m (h.ledger t) ≢ 0 → m ≡ k
one_place servers h s t m k pm lm pk lk tm tk e some = at (cases_lt m k)
  where
    at : (m < k) ⊎ (k ≤ m) → m ≡ k
    at (inl z) = absurd (some (s.numbers.apart t m k (own_of servers h s t m pm lm tm) z lk e))
    at (inr z) = at' (cases_lt k m)
      where
        at' : (k < m) ⊎ (m ≤ k) → m ≡ k
        at' (inl y) = absurd (some (e ∙ s.numbers.apart t k m (own_of servers h s t k pk lk tk) y lm (sym e)))
        at' (inr y) = omega arith

-- a log of this world stands in the later ledgers too
follows_later : (w w' : World) (s : IsSound w) (g : Goes w s w') (x : Log) → IsLogOf w x → (m : ℕ) → m ≤ length x → take m x ≡ take m (g.sound.history.ledger (term_at m x))
follows_later w w' s g x a m l =
    let f = log_follows w s x a m l in
    let t = term_at m x in
    f ∙ sym (front_take m (s.history.ledger t) (g.sound.history.ledger t) (g.ledger t) (agree_length m (s.history.ledger t) x (sym f) l))

-- An entry of one term with a number other than 0 stands at one index.
pub stands_once : (w : World) → IsSound w → (w' : World) → Reaches w w' → StandsOnce w w'
stands_once w s w' reach x y m k ax ay pm lm pk lk et en some =
    let g = reach_goes w w' reach s in
    let t = term_at m x in
    let ledger = g.sound.history.ledger in
    let f : take m x ≡ take m (ledger t) = follows_later w w' s g x ax m lm in
    let f' : take k y ≡ take k (ledger t) = log_follows w' g.sound y ay k lk ∙ ap (λ z. take k (ledger z)) (sym et) in
    let nm : number_at m x ≡ number_at m (ledger t) = agree_number m m x (ledger t) (omega arith) f in
    let nk : number_at k y ≡ number_at k (ledger t) = agree_number k k y (ledger t) (omega arith) f' in
    one_place (length w'.nodes) g.sound.history g.sound.sound t m k pm (agree_length m (ledger t) x (sym f) lm) pk (agree_length k (ledger t) y (sym f') lk)
    (sym (agree_term m m x (ledger t) (omega arith) f)) (sym (agree_term k k y (ledger t) (omega arith) f') ∙ sym et) (sym nm ∙ en ∙ nk) (λ z. some (nm ∙ z))

-- The entries of a running server's log have their places.
pub is_placed : (w : World) → IsSound w → (i : ℕ) (n : Node) → IsServer w i n → n.halted ≡ false → (m : ℕ) (e : Entry) → entry_at m n.log ≡ Some e → IsPlaced w m e
is_placed w s i n at up m e q w' reach = (same, once)
  where
    is : EntryIs m n.log e
    is = entry_is m n.log e q

    log : IsLogOf w n.log
    log = inr (inl (i, n, at, up, refl))

    same : m ≤ length w'.agreed → term_at m w'.agreed ≡ e.term → entry_at m w'.agreed ≡ Some e
    same l t =
        let g = reach_goes w w' reach s in
        let f = follows_later w w' s g n.log log m is.within in
        let a = agreed_follows w' g.sound m l ∙ ap (λ z. take m (g.sound.history.ledger z)) (t ∙ sym is.term) in
        agree_entry m m w'.agreed n.log (omega arith) (a ∙ sym f) ∙ q

    once : e.number ≢ 0 → (k : ℕ) → 0 < k → k ≤ length w'.agreed → term_at k w'.agreed ≡ e.term → number_at k w'.agreed ≡ e.number → k ≡ m
    once some k pk lk et en =
        sym (stands_once w s w' reach n.log w'.agreed m k log (inl refl) is.above is.within pk lk (is.term ∙ sym et) (is.number ∙ sym en) (λ z. some (sym is.number ∙ z)))
