-- How fresh the answers of a sound cluster are.
use Rattle.std.proofs.Common.{ℕ, Bool}
use Rattle.cat_model.specs.declared.request.Mode.TheVariants.{Default, Consistent, Stale}
use Rattle.cat_model.specs.declared.reply.Kind.{Kind}
use Rattle.cat_model.specs.declared.reply.Kind.TheVariants.{At}
use Rattle.cat_model.specs.declared.reply.Mark.TheVariants as mark
use Rattle.cluster_rules.specs.Cluster.{Cluster}
use Rattle.cluster_rules.specs.Sound.{IsAmong, Sound}
use Rattle.cluster_rules.proofs.Reached.{Told, told_in}
use Rattle.run_rules.specs.Reads.{ReadsAreFresh}

told : (c : Cluster) → Sound c → (number : ℕ) (kind : Kind) (known : Bool) (contact : ℕ) → IsAmong (mark.Answered number kind known contact) c.past → Told c.world c.past c.starts number kind
told c s number kind known contact m = told_in c.world c.starts c.past s.parts.marks number kind known contact m

pub reads_fresh : (c : Cluster) → Sound c → ReadsAreFresh c
reads_fresh c s = record {
  consistent = λ number prefix index clock deadline known contact m. (told c s number (At Consistent prefix index clock deadline) known contact m).fresh;
  default = λ number prefix index clock deadline known contact m. (told c s number (At Default prefix index clock deadline) known contact m).fresh;
  stale = λ number prefix index clock deadline known contact m. (told c s number (At Stale prefix index clock deadline) known contact m).fresh;
}
