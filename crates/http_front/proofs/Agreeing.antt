-- What the publisher of a cluster that serves has taken, and what it shows.
use Rattle.std.proofs.Common.{◌≡◌, List, [], reverse, refl, sym, ap, ◌∙◌, subst, Result, Ok, Err}
use Rattle.std.specs.Prelude.{OnOk}
use Rattle.std.proofs.lemmas.List.{reverse-reverse}
use mathlib.Core.List.{IsPrefix}
use Rattle.cat_model.specs.declared.command.Command.{Command}
use Rattle.cat_model.specs.declared.reply.Mark.{Mark}
use Rattle.cat_model.specs.Log.{commands_of}
use Rattle.cluster_rules.specs.Cluster.{Cluster}
use Rattle.cluster_rules.specs.Reached.{MayBegin}
use Rattle.cluster_rules.specs.Sound.{entered_in}
use Rattle.turn_lock.specs.Lists.{IsFront}
use Rattle.run_rules.specs.Serving.{Serves, Size}
use Rattle.run_rules.proofs.Serving.{is_sound}
use Rattle.stale_view.proofs.Fronts.{prefix_trans}
use Rattle.http_exchanges.specs.Marks.{AddsQuiet, TicksNone, agreed_by}
use Rattle.http_exchanges.proofs.Agreeing.{agreed_front}

-- the marks tell the agreed log
pub agreed_is : (size : Size) (c : Cluster) → Serves size c → MayBegin size.stores → agreed_by (reverse c.past) ≡ commands_of c.world.agreed
agreed_is size c s kept = ap (λ (l : List Mark). commands_of (entered_in l)) (reverse-reverse c.past) ∙ ap commands_of (is_sound size c s kept).parts.counts.entries

-- nothing begins each list
pub nothing_begins : (agrees : Type 0) (taken log : List Command) → taken ≡ [] → agrees → IsPrefix taken log
nothing_begins agrees taken log none a = subst (λ (l : List Command). IsPrefix l log) (sym none) (log, refl)

-- what was taken begins what is agreed later
module _ (agrees : Type 0) (taken : List Command) (old new : List Mark) (begins : agrees → IsPrefix taken (agreed_by old)) where
  later : IsFront old new → agrees → IsPrefix taken (agreed_by new)
  later more a = prefix_trans taken (agreed_by old) (agreed_by new) (begins a) (agreed_front old new more)

  pub behind_quiet : AddsQuiet old new → agrees → IsPrefix taken (agreed_by new)
  behind_quiet q = later (q.rest, q.are)

  pub behind_still : TicksNone old new → agrees → IsPrefix taken (agreed_by new)
  behind_still q = later (q.rest, q.are)

-- what a publisher that found memory shows
pub all_shown : {T E : Type 0} (r : Result T E) (agrees : Type 0) (list before taken log : List Command) {agreed : List Command} → (agrees → agreed ≡ log) → (agrees → IsPrefix before agreed)
    → OnOk r ((list ≡ taken) × (IsPrefix before log → taken ≡ log)) → OnOk r (agrees → list ≡ agreed)
all_shown (Ok t) agrees list before taken log is begins ok = λ a. ok.0 ∙ (ok.1 (subst (IsPrefix before) (is a) (begins a)) ∙ sym (is a))
all_shown (Err e) agrees list before taken log is begins ok = tt
