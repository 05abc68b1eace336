-- A cluster over the stores that an earlier one left.
use Rattle.std.proofs.Common.{◌≡◌, ℕ, ◌<◌, ◌≤◌, inl, inr, Bool, true, length, take, min, refl, sym, ◌∙◌, ap, subst, arith, None}
use Rattle.std.specs.Prelude.{nat_lt}
use Rattle.std.proofs.lemmas.List.{take_all}
use Rattle.cat_model.specs.declared.command.Command.{Command}
use Rattle.cat_model.specs.declared.reply.Kind.TheVariants.{Acked}
use Rattle.cat_model.specs.declared.reply.Mark.TheVariants.{Answered}
use Rattle.raft_model.specs.Facts.{IsReady}
use Rattle.raft_model.specs.Log.{Log, last_term, term_at}
use Rattle.raft_model.specs.World.{Begins, HoldAll, IsServer, World, here}
use Rattle.raft_model.proofs.Logs.{agree_term}
use Rattle.raft_model.proofs.Tests.{at_bool, lt_tells, lt_tells_not}
use Rattle.cluster_rules.specs.Cluster.{Cluster, applied_of, node_of, runs_leading, server_of}
use Rattle.cluster_rules.specs.Due.{due}
use Rattle.cluster_rules.specs.Lasting.{IsEntered, IsWrite}
use Rattle.cluster_rules.specs.Replies.{Question, came, entered}
use Rattle.cluster_rules.specs.Requests.{is_ready}
use Rattle.cluster_rules.specs.Sound.{IsAmong, ServerIsSound, Sound}
use Rattle.cluster_rules.proofs.Answers.{writes_stand}
use Rattle.cluster_rules.proofs.Boundary.{commit_within, leader_there, leading_tells, term_bound}
use Rattle.cluster_rules.proofs.Entries.{agree_entry, entry_within}
use Rattle.cluster_rules.proofs.Grows.{write_map}
use Rattle.cluster_rules.proofs.Reached.{start_sound}
use Rattle.cluster_rules.proofs.Starting.{kept_start}
use Rattle.cluster_rules.proofs.Steps.{all_applied}
use Rattle.cluster_rules.proofs.Terms.{reached_has}
use Rattle.cluster_rules.proofs.Tools.{not_tells_not}
use Rattle.cluster_rules.proofs.Works.{commit_agrees}
use Rattle.run_rules.specs.Serving.{Serves, Size}
use Rattle.run_rules.proofs.ServingHolds.{run_goes}
use Rattle.rerun_rules.specs.Follows.{Follows}
use Rattle.rerun_rules.proofs.Twins.{one_log, ready_has_it}

-- a cluster that serves over the stores of an earlier one is of a later run
pub serves_later : (size : Size) (earlier later : Cluster) → Sound earlier → HoldAll size.stores earlier.world.nodes → Serves size later → Follows earlier.world later.world
serves_later size earlier later e held s =
    let start = start_sound s.start (kept_start size.stores s.start s.begins (inr (earlier.world, e.parts.world, held))) in
    record {
      stores = size.stores;
      start = s.start.world;
      held = held;
      begins = subst (λ (z : World). Begins size.stores z) (sym (ap (λ (z : Cluster). z.world) s.begins.is)) s.begins.begins;
      reaches = (run_goes s.start s.whole s.moves later s.reached start.parts.world).on later.world here;
    }

-- an entry of one log, of which the other has a front
entered_in_both : (a b : Log) → take (min (length a) (length b)) a ≡ take (min (length a) (length b)) b → (position number : ℕ) (command : Command) → position ≤ length b → IsEntered position number command a → IsEntered position number command b
entered_in_both a b e position number command l x = record {
  entry = x.entry;
  there = sym (agree_entry position (min (length a) (length b)) a b (let k = (entry_within position a x.entry x.there).1 in omega (arith, k, l)) e) ∙ x.there;
  number_is = x.number_is;
  command_is = x.command_is;
}

pub writes_outlive : (earlier later : Cluster) → Sound earlier → Follows earlier.world later.world → (number position : ℕ) (known : Bool) (contact : ℕ) → IsAmong (Answered number (Acked position) known contact) earlier.past → position ≤ length later.world.agreed →
    (q : Question) × IsAmong (came q) earlier.past × (q.number ≡ number) × IsWrite q.asked (λ command. IsEntered position number (entered q command) later.world.agreed)
writes_outlive earlier later s f number position known contact m l =
    let x = writes_stand earlier s earlier.world here number position known contact m in
    (x.0, x.1, x.2, write_map x.0.asked _ _ (λ command e. entered_in_both earlier.world.agreed later.world.agreed (one_log earlier.world later.world s.parts.world f) position number (entered x.0 command) l e) x.3)

-- A server that is ready, and has applied all that it committed.
module _ (c : Cluster) (s : Sound c) (i : ℕ) (lead : runs_leading c.world i ≡ true) (ready : is_ready c i ≡ true) (made_up : (node_of c.world i).commit ≤ length (applied_of c i)) where
  own : ServerIsSound c.world.agreed (node_of c.world i).commit (server_of c.servers i)
  own = s.parts.servers.each i

  at_commit : (node_of c.world i).commit ≡ length (applied_of c i)
  at_commit = let k = own.within in omega (arith, made_up, k)

  applied_is : take (node_of c.world i).commit (node_of c.world i).log ≡ applied_of c i
  applied_is = commit_agrees c.world s.parts.world i ∙ ap (λ z. take z c.world.agreed) at_commit ∙ sym own.front

  last_is : term_at (node_of c.world i).commit (node_of c.world i).log ≡ last_term (applied_of c i)
  last_is =
      agree_term (node_of c.world i).commit (node_of c.world i).commit (node_of c.world i).log (applied_of c i) (omega arith)
      (applied_is ∙ sym (take_all (node_of c.world i).commit (applied_of c i) (omega (arith, at_commit))))
      ∙ ap (λ z. term_at z (applied_of c i)) at_commit

  above : (node_of c.world i).term ≤ last_term (applied_of c i)
  above = lt_tells_not (last_term (applied_of c i)) (node_of c.world i).term (not_tells_not _ ready)

  has_term : 0 < (node_of c.world i).term
  has_term = elim (reached_has c.world s.parts.world i) [
    | inl e ↦ absurd (let l = (leading_tells c.world i lead).1 in cc (e, l))
    | inr l ↦ l
  ]

  some : 0 < (node_of c.world i).commit
  some = at_bool (λ b. nat_lt 0 (node_of c.world i).commit ≡ b → 0 < (node_of c.world i).commit) (nat_lt 0 (node_of c.world i).commit) (λ _ z. lt_tells 0 _ z)
      (λ _ z. absurd (let k = lt_tells_not 0 (node_of c.world i).commit z in let l = ap (λ y. term_at y (node_of c.world i).log) (zero_of (node_of c.world i).commit k) in omega (arith, l, last_is, above, has_term))) refl
    where
      zero_of : (m : ℕ) → m ≤ 0 → m ≡ 0
      zero_of m l = omega arith

  at : IsServer c.world i (node_of c.world i)
  at = leader_there c.world i lead

  is_ready_node : IsReady (node_of c.world i)
  is_ready_node = (leading_tells c.world i lead, some, own_term)
    where
      own_term : term_at (node_of c.world i).commit (node_of c.world i).log ≡ (node_of c.world i).term
      own_term =
          let b = term_bound c.world s.parts.world i (node_of c.world i) at (leading_tells c.world i lead).0 (node_of c.world i).commit some (commit_within c.world s.parts.world i (node_of c.world i) at) in
          omega (arith, b, above, last_is)

pub ready_shows_it : (earlier later : Cluster) → Sound earlier → Sound later → Follows earlier.world later.world → (i : ℕ) → runs_leading later.world i ≡ true → is_ready later i ≡ true → due i later ≡ None →
    take (length earlier.world.agreed) (applied_of later i) ≡ earlier.world.agreed
ready_shows_it earlier later e s f i lead ready up =
    let made_up = all_applied later i up in
    ap (take (length earlier.world.agreed)) (sym (applied_is later s i lead ready made_up))
    ∙ ready_has_it earlier.world later.world e.parts.world f i (node_of later.world i) (at later s i lead ready made_up) (is_ready_node later s i lead ready made_up)
