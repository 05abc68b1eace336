-- What a collection finds. `shows` tells what a reply shows.
use Rattle.std.specs.Prelude.{◌≡◌, ℕ, ◌⊎◌, List, [], ◌∷◌, ◌++◌}
use Rattle.cat_model.specs.declared.reply.Mark.{Mark}
use Rattle.cat_model.specs.declared.reply.Mark.TheVariants as mark
use Rattle.cluster_rules.specs.Replies.{Reply}
use Rattle.cluster_rules.specs.Sound.{IsAmong}
use Rattle.turn_lock.specs.Lists.{Among, numbers}
use Rattle.http_exchanges.specs.declared.cluster.Ask.{Ask}
use Rattle.http_exchanges.specs.declared.cluster.Collected.{Collected}
use Rattle.http_exchanges.specs.declared.cluster.Collected.TheVariants as collected
use Rattle.http_exchanges.specs.Marks.{answered_mark, asked_mark, opens, takes}

module _ (shows : ℕ → Ask → Reply → List Mark → Type 0) where
  -- the reply is that of the answer's mark, and shows what the request asks for
  pub record IsGiven (number : ℕ) (reply : Reply) (marks : List Mark) : Type 0 where
    pub number_is : reply.number ≡ number
    pub answered : IsAmong (answered_mark reply) marks
    pub shown : (a : Ask) → IsAmong (asked_mark number a) marks → shows number a reply marks

  -- a reply was taken; what waits or is gone was left
  abbrev pub Collects : ℕ → Collected → List Mark → List Mark → Type 0
  Collects number (collected.Ready reply) old new = (new ≡ old ++ mark.Taken number ∷ []) × IsGiven number reply old
  Collects number collected.NotYet old new = new ≡ old
  Collects number collected.Gone old new = (new ≡ old) × ((Among number (numbers opens old) → ⊥) ⊎ Among number (numbers takes old))
