-- What the answers of a sound cluster promise, also over each later agreed log.
use Rattle.std.proofs.Common.{◌≡◌, ℕ, ◌<◌, ◌≤◌, Bool, true, false, ◌∙◌, subst, ap, arith}
use Rattle.std.specs.Prelude.{nat_lt, nat_le, ◌&&◌}
use Rattle.std.proofs.lemmas.Bool.Decides.{nat_tests}
use Rattle.cat_model.specs.declared.command.Command.{Command}
use Rattle.cat_model.specs.declared.request.Mode.TheVariants.{Default, Consistent}
use Rattle.cat_model.specs.declared.request.Request.TheVariants.{Write}
use Rattle.cat_model.specs.declared.request.Asked.{Asked}
use Rattle.cat_model.specs.declared.request.Asked.TheVariants.{Good}
use Rattle.cat_model.specs.declared.reply.Kind.{Kind}
use Rattle.cat_model.specs.declared.reply.Kind.TheVariants.{Acked, At, Seen, Refused}
use Rattle.cat_model.specs.declared.reply.Mark.TheVariants as mark
use Rattle.cat_model.specs.declared.reply.Refusal.TheVariants as refusal
use Rattle.raft_model.specs.World.{World, Reaches}
use Rattle.raft_model.proofs.Theorems.{grows_far}
use Rattle.cluster_rules.specs.Replies.{Question, came, entered}
use Rattle.cluster_rules.specs.Lasting.{IsWrite, IsEntered, LastsFor, Lasting}
use Rattle.cluster_rules.specs.Cluster.{Cluster}
use Rattle.cluster_rules.specs.Sound.{IsAmong, NeverEnters, NoneLost, entries_before, LookedBefore, LostFor, one_if, found, Sound}
use Rattle.cluster_rules.specs.Booked.{Booked}
use Rattle.cluster_rules.proofs.Grows.{lasting_grows}
use Rattle.cluster_rules.proofs.Reached.{Told, told_in}

told : (c : Cluster) → Sound c → (number : ℕ) (kind : Kind) (known : Bool) (contact : ℕ) → IsAmong (mark.Answered number kind known contact) c.past → Told c.world c.past c.starts number kind
told c s number kind known contact m = told_in c.world c.starts c.past s.parts.marks number kind known contact m

pub answers_last : (c : Cluster) → Sound c → (w : World) → Reaches c.world w → (number : ℕ) (kind : Kind) (known : Bool) (contact : ℕ) → IsAmong (mark.Answered number kind known contact) c.past →
    (q : Question) × IsAmong (came q) c.past × (q.number ≡ number) × Lasting q kind w.agreed
answers_last c s w r number kind known contact m =
    let t = told c s number kind known contact m in
    (t.question, t.asked, t.number_is, lasting_grows c.world.agreed w.agreed (grows_far c.world w s.parts.world r) t.question kind t.lasts)

pub writes_stand : (c : Cluster) → Sound c → (w : World) → Reaches c.world w → (number position : ℕ) (known : Bool) (contact : ℕ) → IsAmong (mark.Answered number (Acked position) known contact) c.past →
    (q : Question) × IsAmong (came q) c.past × (q.number ≡ number) × IsWrite q.asked (λ command. IsEntered position number (entered q command) w.agreed)
unfolding LastsFor
writes_stand c s w r number position known contact m =
    let a = answers_last c s w r number (Acked position) known contact m in
    (a.0, a.1, a.2, subst (λ z. IsWrite a.0.asked (λ command. IsEntered position z (entered a.0 command) w.agreed)) a.2 a.3)

pub lost_never : (c : Cluster) → Sound c → (number old found : ℕ) (known : Bool) (contact : ℕ) → IsAmong (mark.Answered number (Refused (refusal.Lost old found)) known contact) c.past →
    (q : Question) × IsAmong (came q) c.past × (q.number ≡ number) × ((command : Command) → q.asked ≡ Good (Write command) → NeverEnters c.world old number)
lost_never c s number old found known contact m =
    let t = told c s number (Refused (refusal.Lost old found)) known contact m in
    (t.question, t.asked, t.number_is, λ command e. subst (λ z. NeverEnters c.world old z) t.number_is (subst (λ (z : Asked). LostFor c.world c.starts t.question z old found) e t.rests).7)

pub consistent_fresh : (c : Cluster) → Sound c → (number prefix index clock deadline : ℕ) (known : Bool) (contact : ℕ) → IsAmong (mark.Answered number (At Consistent prefix index clock deadline) known contact) c.past → entries_before number c.past ≤ prefix
consistent_fresh c s number prefix index clock deadline known contact m = (told c s number (At Consistent prefix index clock deadline) known contact m).fresh

pub default_fresh : (c : Cluster) → Sound c → (number prefix index clock deadline : ℕ) (known : Bool) (contact : ℕ) → IsAmong (mark.Answered number (At Default prefix index clock deadline) known contact) c.past → LookedBefore number c.starts prefix
default_fresh c s number prefix index clock deadline known contact m = (told c s number (At Default prefix index clock deadline) known contact m).fresh

-- where a request is
pub found_once : (c : Cluster) → Booked c → (k : ℕ) → 0 < k → k ≤ c.asked → found k c ≡ 1
found_once c s k p l = s.none_lost k ∙ ap one_if (within k c.asked p l)
  where
    within : (k n : ℕ) → 0 < k → k ≤ n → (nat_lt 0 k && nat_le k n) ≡ true
    within k n p l = grind (arith, nat_tests)

pub none_beyond : (c : Cluster) → NoneLost c.asked c → (k : ℕ) → c.asked < k → found k c ≡ 0
none_beyond c n k l = n k ∙ ap one_if (beyond k c.asked l)
  where
    beyond : (k n : ℕ) → n < k → (nat_lt 0 k && nat_le k n) ≡ false
    beyond k n l = grind (arith, nat_tests)

pub found_none : (c : Cluster) → Sound c → (k : ℕ) → c.asked < k → found k c ≡ 0
found_none c s k l = none_beyond c s.none_lost k l

pub run_fresh : (c : Cluster) → Sound c → (number prefix : ℕ) (known : Bool) (contact : ℕ) → IsAmong (mark.Answered number (Seen Consistent prefix) known contact) c.past → entries_before number c.past ≤ prefix
run_fresh c s number prefix known contact m = (told c s number (Seen Consistent prefix) known contact m).fresh
