-- Evaluations, counted one call after another.
use Rattle.std.proofs.Common.{◌≡◌, ℕ, ◌+◌, ◌≤◌, subst, sym, arith}
use Rattle.cluster_rules.specs.Cluster.{Cluster}
use Rattle.cluster_order.specs.Evaluations.{Adds, EvaluatesIn, Evaluates, unlooked, reads_answered}

sums : (m n e k o p u v w r s t : ℕ) → m + n ≤ e → o + v + r ≤ k + m + u + s → p + w + s ≤ o + n + v + t → p + w + r ≤ k + e + u + t
sums m n e k o p u v w r s t l x y = omega (arith, l, x, y)

pub evaluates_on : (m n e k o p : ℕ) (a b c : Cluster) → m + n ≤ e → EvaluatesIn m k o a b → EvaluatesIn n o p b c → EvaluatesIn e k p a c
evaluates_on m n e k o p a b c l x y = record {
  grows = let u = x.grows in let v = y.grows in omega (arith, u, v);
  counted = sums m n e k o p (unlooked a) (unlooked b) (unlooked c) (reads_answered a) (reads_answered b) (reads_answered c) l x.counted y.counted;
}

joins : (m n e u v w r s t : ℕ) → m + n ≤ e → v + r ≤ m + u + s → w + s ≤ n + v + t → w + r ≤ e + u + t
joins m n e u v w r s t l x y = omega (arith, l, x, y)

pub adds_on : (m n e : ℕ) (a b c : Cluster) → m + n ≤ e → Adds m a b → Adds n b c → Adds e a c
adds_on m n e a b c l x y = joins m n e (unlooked a) (unlooked b) (unlooked c) (reads_answered a) (reads_answered b) (reads_answered c) l x y

stays_so : (n k u v r s : ℕ) → v + r ≤ n + u + s → k + v + r ≤ k + n + u + s
stays_so n k u v r s l = omega (arith, l)

pub evaluates_adding : (n k : ℕ) (a b : Cluster) → Adds n a b → EvaluatesIn n k k a b
evaluates_adding n k a b l = record { grows = omega arith; counted = stays_so n k (unlooked a) (unlooked b) (reads_answered a) (reads_answered b) l }

pub adds_none : (n : ℕ) (c : Cluster) → Adds n c c
adds_none n c = omega arith

pub adds_same : (n : ℕ) (a b : Cluster) → b ≡ a → Adds n a b
adds_same n a b e = subst (λ z. Adds n a z) (sym e) (adds_none n a)

pub evaluates_none : (k : ℕ) (c : Cluster) → Evaluates k k c c
evaluates_none k c = evaluates_adding 0 k c c (adds_none 0 c)

pub evaluates_same : (n k : ℕ) (a b : Cluster) → b ≡ a → EvaluatesIn n k k a b
evaluates_same n k a b e = evaluates_adding n k a b (adds_same n a b e)

-- first with none beside
pub evaluates_then : (n k o p : ℕ) (a b c : Cluster) → Evaluates k o a b → EvaluatesIn n o p b c → EvaluatesIn n k p a c
evaluates_then n k o p a b c x y = evaluates_on 0 n n k o p a b c (omega arith) x y

-- what comes before and behind adds nothing
pub evaluates_within : (n k p : ℕ) (a b c d : Cluster) → Adds 0 a b → EvaluatesIn n k p b c → Adds 0 c d → EvaluatesIn n k p a d
evaluates_within n k p a b c d x y z =
    evaluates_on n 0 n k p p a c d (omega arith) (evaluates_then n k k p a b c (evaluates_adding 0 k a b x) y) (evaluates_adding 0 p c d z)

pub evaluates_more : (m n k p : ℕ) (a c : Cluster) → m ≤ n → EvaluatesIn m k p a c → EvaluatesIn n k p a c
evaluates_more m n k p a c l x = evaluates_on m 0 n k p p a c c (omega (arith, l)) x (evaluates_none p c)

-- catching up, an act, and catching up again
pub evaluates_around : (own n k o p : ℕ) (a b c d : Cluster) → Evaluates k o a b → Adds own b c → EvaluatesIn n o p c d → EvaluatesIn (own + n) k p a d
evaluates_around own n k o p a b c d x y z =
    evaluates_then (own + n) k o p a b d x (evaluates_on own n (own + n) o o p b c d (omega arith) (evaluates_adding own o b c y) z)

-- an act that was cut short
pub evaluates_cut : (own k o : ℕ) (a b c : Cluster) → Evaluates k o a b → Adds own b c → EvaluatesIn (own + 1) k o a c
evaluates_cut own k o a b c x y = evaluates_around own 1 k o o a b c c x y (evaluates_more 0 1 o o c c (omega arith) (evaluates_none o c))
