-- What holds of each message in the bag.
use Rattle.std.proofs.Common.{ℕ, List, None, Some, [], cond, subst, suc, ◌++◌, ◌∷◌, ◌≡◌}
use Rattle.raft_model.proofs.Going.{true_stays}
use Rattle.raft_model.proofs.History.{History}
use Rattle.raft_model.proofs.Sound.{AllPackets, AllTrue, GoesOn, IsTrueOf}
use Rattle.raft_model.proofs.Tests.{at_bool}
use Rattle.raft_model.specs.World.{Bag, Packet, numbered, posted, posted_all, takes, without}
use Rattle.raft_model.specs.declared.message.Sent.{Sent}
use Rattle.std.specs.Prelude.{◌==◌}

pub AllPackets-append : (P : Packet → Type 0) (xs ys : List Packet) → AllPackets P xs → AllPackets P ys → AllPackets P (xs ++ ys)
AllPackets-append P [] ys a b = b
AllPackets-append P (x ∷ xs) ys a b = (a.0, AllPackets-append P xs ys a.1 b)

-- the message of a number is one of them
pub AllPackets-numbered : (P : Packet → Type 0) (k : ℕ) (ps : List Packet) (p : Packet) → numbered k ps ≡ Some p → AllPackets P ps → P p
AllPackets-numbered P k [] p e a = absurd (none e)
  where
    none : {p : Packet} → None ≡ Some p → ⊥
    none q = cc q
AllPackets-numbered P k (x ∷ xs) p e a = at_bool (λ b. cond b (Some x) (numbered k xs) ≡ Some p → P p) (x.number == k) (λ _ q. subst P (same x p q) a.0) (λ _ q. AllPackets-numbered P k xs p q a.1) e
  where
    same : (x p : Packet) → Some x ≡ Some p → x ≡ p
    same x p q = cc q

pub AllPackets-without : (P : Packet → Type 0) (k : ℕ) (ps : List Packet) → AllPackets P ps → AllPackets P (without k ps)
AllPackets-without P k [] a = tt
AllPackets-without P k (x ∷ xs) a = at_bool (λ b. AllPackets P (cond b xs (x ∷ without k xs))) (x.number == k) (λ _. a.1) (λ _. (a.0, AllPackets-without P k xs a.1))

-- what is true stays true
pub told_stays : (servers i : ℕ) (h h' : History) → GoesOn i h h' → (ps : List Packet) → AllPackets (λ p. IsTrueOf h p.from p.to p.message) ps → AllPackets (λ p. IsTrueOf h' p.from p.to p.message) ps
told_stays servers i h h' g [] a = tt
told_stays servers i h h' g (p ∷ ps) a = (true_stays servers i h h' g p.from p.to p.message a.0, told_stays servers i h h' g ps a.1)

posted_told : (h : History) (i : ℕ) (s : Sent) (bag : Bag) → IsTrueOf h i s.to s.message → AllPackets (λ p. IsTrueOf h p.from p.to p.message) bag.packets → AllPackets (λ p. IsTrueOf h p.from p.to p.message) (posted i s bag).packets
posted_told h i s bag t a =
    let new : Packet = record { number = suc bag.last; from = i; to = s.to; message = s.message } in
    let more : Bag = record { packets = bag.packets ++ new ∷ []; last = suc bag.last } in
    at_bool (λ b. AllPackets (λ p. IsTrueOf h p.from p.to p.message) (cond b more bag).packets) (takes bag s.message)
    (λ _. AllPackets-append (λ p. IsTrueOf h p.from p.to p.message) bag.packets (new ∷ []) a (t, tt)) (λ _. a)

-- what is sent is true in the bag
pub told_posted : (h : History) (i : ℕ) (sent : List Sent) (bag : Bag) → AllTrue h i sent → AllPackets (λ p. IsTrueOf h p.from p.to p.message) bag.packets → AllPackets (λ p. IsTrueOf h p.from p.to p.message) (posted_all i sent bag).packets
told_posted h i [] bag t a = a
told_posted h i (s ∷ ss) bag t a = told_posted h i ss (posted i s bag) t.1 (posted_told h i s bag t.0 a)
