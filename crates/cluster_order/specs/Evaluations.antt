-- How often the queries of reads are evaluated. (Consul, "Blocking Queries": a read that names an index is answered once
-- its own index is above that one, or once its wait is over. So it is looked for when it comes, and after that only to
-- be answered.)
use Rattle.std.specs.Prelude.{ℕ, ◌+◌, ◌≤◌, not, Bool, true, false, List, length, filter, Result, Ok, Err}
use Rattle.cat_model.specs.declared.reply.Kind.TheVariants.{At}
use Rattle.cat_model.specs.declared.reply.Mark.{Mark}
use Rattle.cat_model.specs.declared.reply.Mark.TheVariants as mark
use Rattle.cat_model.specs.declared.request.Asked.{Asked}
use Rattle.cat_model.specs.declared.request.Asked.TheVariants.{Good}
use Rattle.cat_model.specs.declared.request.Event.{Event}
use Rattle.cat_model.specs.declared.request.Event.TheVariants as event
use Rattle.cat_model.specs.declared.request.Request.TheVariants.{Read, Execute}
use Rattle.cluster_rules.specs.Cluster.{Cluster, Pending, Stand, InRound, ForIndex}

-- what waits so is still to be looked for
abbrev pub is_unlooked : Stand → Bool
is_unlooked (InRound round deadline) = true
is_unlooked (ForIndex deadline looked) = not looked
is_unlooked other = false

-- how many of these requests are
abbrev pub unlooked_in : List Pending → ℕ
unlooked_in held = length (filter (λ h. is_unlooked h.stand) held)

abbrev pub unlooked : Cluster → ℕ
unlooked c = unlooked_in c.held

-- the mark of a read that was answered
abbrev pub answers_read : Mark → Bool
answers_read (mark.Answered number (At mode prefix index clock deadline) known contact) = true
answers_read other = false

-- how many reads were answered
abbrev pub reads_in : List Mark → ℕ
reads_in past = length (filter answers_read past)

abbrev pub reads_answered : Cluster → ℕ
reads_answered c = reads_in c.past

-- From the first cluster to the second no more than so many reads came that are still to be looked for, and no answer was
-- taken back.
abbrev pub Adds : (come : ℕ) → Cluster → Cluster → Type 0
Adds come c c' = unlooked c' + reads_answered c ≤ come + unlooked c + reads_answered c'

-- From the first cluster to the second the count of evaluations went on from `before` to `after`: at most one for each
-- read that was answered, one for each that was still to be looked for and is no more, and so many beside.
pub record EvaluatesIn (beside before after : ℕ) (c c' : Cluster) : Type 0 where
  pub grows : before ≤ after
  pub counted : after + unlooked c' + reads_answered c ≤ before + beside + unlooked c + reads_answered c'

-- the same with none beside
abbrev pub Evaluates : (before after : ℕ) → Cluster → Cluster → Type 0
Evaluates before after c c' = EvaluatesIn 0 before after c c'

-- A call that lacks memory may have evaluated one query whose answer it could not keep.
abbrev pub lacking : {T E : Type 0} → Result T E → ℕ
lacking (Ok value) = 0
lacking (Err error) = 1

-- a request that is looked for
abbrev pub asked_reads : Asked → ℕ
asked_reads (Good (Read query mode least wait raw)) = 1
asked_reads (Good (Execute name limit mode)) = 1
asked_reads other = 0

-- An event that asks for a read may evaluate it, since it comes and is looked for within the event.
abbrev pub own_reads : Event → ℕ
own_reads (event.Ask agent asked draw) = asked_reads asked
own_reads other = 0

-- what an event evaluates at most, whether it found memory or not
abbrev pub EvaluatesFor : {T E : Type 0} → Event → Result T E → (before after : ℕ) → Cluster → Cluster → Type 0
EvaluatesFor made result before after c c' = EvaluatesIn (own_reads made + lacking result) before after c c'
