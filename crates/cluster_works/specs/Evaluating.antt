-- How many evaluations of a query it takes to find what is due at a server.
use Rattle.std.specs.Prelude.{◌≡◌, ℕ, ◌+◌, ◌≤◌, if◌then◌else◌, Option, None, Some, Result, Ok, Err}
use Rattle.cat_model.specs.declared.reply.Kind.{Kind}
use Rattle.cat_model.specs.declared.reply.Kind.TheVariants.{At, Refused}
use Rattle.cat_model.specs.declared.reply.Refusal.TheVariants as refusal
use Rattle.cluster_rules.specs.Due.{has_looked}
use Rattle.cluster_requests.specs.Contents.{stand_of}
use Rattle.cluster_works.specs.declared.work.Work.{Work}
use Rattle.cluster_works.specs.declared.work.Work.TheVariants.{Answer, Hold}

-- Of the answers these are those to a read that was looked for, and whose server may hold no more that wait.
abbrev pub evaluations_of_kind : Kind → ℕ
evaluations_of_kind (At mode prefix index clock deadline) = 1
evaluations_of_kind (Refused (refusal.TooMany waiting)) = 1
evaluations_of_kind other = 0

-- A read's answer is an evaluation, and that one begins to wait, or would be one too many.
abbrev pub evaluations : Work → ℕ
evaluations (Answer number kind content) = evaluations_of_kind kind
evaluations (Hold number stand) = if has_looked (stand_of stand) then 1 else 0
evaluations other = 0

abbrev pub evaluations_of : Option Work → ℕ
evaluations_of None = 0
evaluations_of (Some work) = evaluations work

-- The count went on by as many evaluations as what was found takes, and by at most one where memory lacked.
abbrev pub Counts : {T E : Type 0} → (T → ℕ) → (before after : ℕ) → Result T E → Type 0
Counts cost before after (Ok found) = after ≡ before + cost found
Counts cost before after (Err why) = (before ≤ after) × (after ≤ before + 1)
