-- The rule of commit, index by index.
use Rattle.std.proofs.Common.{◌≡◌, ℕ, zero, suc, ◌-◌, ◌<◌, ◌≤◌, ◌==◌, nat_lt, Bool, true, false, ◌&&◌, cond, List, refl, sym, ◌∙◌, ap, subst, arith}
use Rattle.std.proofs.lemmas.Bool.Decides.{nat_tests}
use Rattle.raft_model.specs.Log.{Log, term_at}
use Rattle.raft_model.specs.Node.{Node}
use Rattle.raft_model.specs.Quorum.{is_majority}
use Rattle.raft_model.specs.Rules.{has_index, committed_upto}
use Rattle.raft_model.proofs.Tests.{at_bool, lt_tells}
use Rattle.raft_node.specs.Counting.{counting, reached}

-- an entry of the own term that a majority has matched
abbrev pub counts : Node → ℕ → Bool
counts n k = term_at k n.log == n.term && is_majority n.servers (has_index n k)

pub upto_low : (n : Node) (k : ℕ) → k ≤ n.commit → committed_upto n k ≡ n.commit
upto_low n zero l = refl
upto_low n (suc k) l = at_bool (λ t. cond (t && counts n (suc k)) (suc k) (committed_upto n k) ≡ n.commit) (nat_lt n.commit (suc k)) (λ e. let h = lt_tells n.commit (suc k) e in absurd (omega (arith, h, l))) (λ _. upto_low n k (omega (arith, l)))

pub upto_passes : (n : Node) (k : ℕ) → 0 < k → counts n k ≡ false → committed_upto n k ≡ committed_upto n (k - 1)
upto_passes n zero p e = absurd (omega (arith, p))
upto_passes n (suc k) p e =
    let q : k ≡ suc k - 1 = omega arith in
    subst (λ t. cond (nat_lt n.commit (suc k) && t) (suc k) (committed_upto n k) ≡ committed_upto n k) (sym e)
    (at_bool (λ t. cond (t && false) (suc k) (committed_upto n k) ≡ committed_upto n k) (nat_lt n.commit (suc k)) (λ _. refl) (λ _. refl)) ∙ ap (λ j. committed_upto n j) q

pub upto_found : (n : Node) (k : ℕ) → n.commit < k → counts n k ≡ true → committed_upto n k ≡ k
upto_found n zero l e = absurd (omega (arith, l))
upto_found n (suc k) l e =
    subst (λ t. cond (nat_lt n.commit (suc k) && t) (suc k) (committed_upto n k) ≡ suc k) (sym e)
    (at_bool (λ t. cond (t && true) (suc k) (committed_upto n k) ≡ suc k) (nat_lt n.commit (suc k)) (λ _. refl) (λ h. absurd (not_low n.commit k l h)))
  where
    not_low : (c k : ℕ) → c < suc k → nat_lt c (suc k) ≡ false → ⊥
    not_low c k l h = grind (arith, nat_tests, l, h)

-- the same as code has it
test_is : (id servers term commit : ℕ) (entries : Log) (matched : List ℕ) (index : ℕ) (b : Bool) → b ≡ (term_at index entries == term && is_majority servers (reached id matched index)) → b ≡ counts (counting id servers term commit entries matched) index
unfolding reached
test_is id servers term commit entries matched index b e = e

pub found : (id servers term commit : ℕ) (entries : Log) (matched : List ℕ) (index total : ℕ) (b : Bool) → b ≡ (term_at index entries == term && is_majority servers (reached id matched index)) → b ≡ true → commit < index →
    committed_upto (counting id servers term commit entries matched) total ≡ committed_upto (counting id servers term commit entries matched) index → index ≡ committed_upto (counting id servers term commit entries matched) total
found id servers term commit entries matched index total b e t l h = sym (h ∙ upto_found (counting id servers term commit entries matched) index l (sym (test_is id servers term commit entries matched index b e) ∙ t))

pub passed : (id servers term commit : ℕ) (entries : Log) (matched : List ℕ) (index total : ℕ) (b : Bool) → b ≡ (term_at index entries == term && is_majority servers (reached id matched index)) → b ≡ false → commit < index →
    committed_upto (counting id servers term commit entries matched) total ≡ committed_upto (counting id servers term commit entries matched) index → committed_upto (counting id servers term commit entries matched) total ≡ committed_upto (counting id servers term commit entries matched) (index - 1)
passed id servers term commit entries matched index total b e t l h = h ∙ upto_passes (counting id servers term commit entries matched) index (omega (arith, l)) (sym (test_is id servers term commit entries matched index b e) ∙ t)

pub low : (id servers term commit : ℕ) (entries : Log) (matched : List ℕ) (index total : ℕ) → index ≤ commit →
    committed_upto (counting id servers term commit entries matched) total ≡ committed_upto (counting id servers term commit entries matched) index → commit ≡ committed_upto (counting id servers term commit entries matched) total
low id servers term commit entries matched index total l h = sym (h ∙ upto_low (counting id servers term commit entries matched) index l)
