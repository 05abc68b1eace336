-- Lists by server, as code indexes them: server s's item stands at place s - 1.
use Rattle.std.proofs.Common.{ℕ, List, ap, arith, cond, false, get_or, length, set, subst, suc, zero, ◌-◌, ◌<◌, ◌≡◌, ◌≤◌}
use Rattle.raft_model.specs.Rules.{done, does, Input}
use Rattle.raft_model.specs.Node.{Node, of_server, quiet, set_server}
use Rattle.raft_model.specs.World.{IsServer, World}

pub of_server_is : (items : List ℕ) (s : ℕ) → 0 < s → of_server items s ≡ get_or items (s - 1) 0
of_server_is items zero p = absurd (omega arith)
of_server_is items (suc s) p = let e : s ≡ suc s - 1 = omega arith in ap (λ k. get_or items k 0) e

pub set_server_is : {A : Type 0} (items : List A) (s : ℕ) (item : A) → 0 < s → set_server items s item ≡ set items (s - 1) item
set_server_is items zero item p = absurd (omega arith)
set_server_is items (suc s) item p = let e : s ≡ suc s - 1 = omega arith in ap (λ k. set items k item) e

pub is_server_is : (w : World) (s : ℕ) (n : Node) → 0 < s → s ≤ length w.nodes → get_or w.nodes (s - 1) n ≡ n → IsServer w s n
is_server_is w zero n p l e = absurd (omega arith)
is_server_is w (suc s) n p l e = let q : suc s - 1 ≡ s = omega arith in (omega arith, subst (λ k. get_or w.nodes k n ≡ n) q e)

-- a running server's step
pub running_done : (n : Node) (input : Input) → n.halted ≡ false → done n input ≡ does n input
unfolding done
running_done n input e = ap (λ b. cond b (quiet n) (does n input)) e
