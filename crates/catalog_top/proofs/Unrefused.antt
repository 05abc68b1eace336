-- A script of which no line is refused. Server 1 asks both others for their votes, server 2 gives its vote, and each message
-- that a line delivers or loses is on its way then.
use Rattle.std.proofs.Common.{◌≡◌, ℕ, suc, List, [], ◌∷◌, length, None, codes, true, false, refl, sym, ◌∙◌, ap, subst, arith}
use Rattle.cat_model.specs.declared.request.Event.{Event}
use Rattle.cat_model.specs.declared.request.Event.TheVariants as event
use Rattle.raft_model.specs.World.{World, Begins}
use Rattle.cluster_rules.specs.Cluster.{Cluster}
use Rattle.cluster_rules.specs.Replies.{Out}
use Rattle.cluster_rules.specs.Step.{ClusterStep}
use Rattle.cluster_rules.proofs.Starting.{begun_servers}
use Rattle.run_rules.specs.Holds.{IsFirstStart}
use Rattle.run_rules.specs.Lines.{Makes, misfit}
use Rattle.run_rules.specs.Plays.{Ending, Refused, Plays}
use Rattle.script_player.specs.declared.openings.Opening.{Opening}
use Rattle.script_player.specs.Script.{Script, Opened, said, script_of}
use Rattle.script_player.specs.Run.{Played, Writes, closed, played}
use Rattle.catalog_top.specs.Limits.{is_too_long}
use Rattle.catalog_top.specs.Run.{NeverRefuses}
use Rattle.catalog_top.proofs.FirstVote.{AllOnWay, HasAsked, both_asked, differ, first_on_way, vote_given}
use Rattle.catalog_top.proofs.LineByLine.{Left, made_by, none_left, delivery_fits, loss_fits, timeout_fits}
use Rattle.catalog_top.proofs.OnTheWay.{IsOnWay, given_stays, lost_stays}

-- The script, and the lines that are left after each of its lines.
abbrev pub deliveries : List ℕ
deliveries = codes "cluster 3 0 1\ntimeout 1\ndeliver 1\ndeliver 3\ndeliver 1\ndrop 1\ndeliver 2\ndrop 3\ndrop 2\n"

abbrev one_left : List (List ℕ)
one_left = codes "drop 2" ∷ []

abbrev two_left : List (List ℕ)
two_left = codes "drop 3" ∷ one_left

abbrev three_left : List (List ℕ)
three_left = codes "deliver 2" ∷ two_left

abbrev four_left : List (List ℕ)
four_left = codes "drop 1" ∷ three_left

abbrev five_left : List (List ℕ)
five_left = codes "deliver 1" ∷ four_left

abbrev six_left : List (List ℕ)
six_left = codes "deliver 3" ∷ five_left

abbrev seven_left : List (List ℕ)
seven_left = codes "deliver 1" ∷ six_left

abbrev all_left : List (List ℕ)
all_left = codes "timeout 1" ∷ seven_left

abbrev opening : Opening
opening = record { servers = 3; agents = 0; seed = 1 }

opened : script_of deliveries ≡ Opened opening 2 all_left
opened = refl

-- What its lines say.
abbrev Says : List ℕ → Event → Type 0
Says line made = (number : ℕ) → said 1 number line ≡ Makes made

says_timeout : Says (codes "timeout 1") (event.Timeout 1)
says_timeout number = refl

delivers_first : Says (codes "deliver 1") (event.Deliver 1)
delivers_first number = refl

delivers_second : Says (codes "deliver 2") (event.Deliver 2)
delivers_second number = refl

delivers_third : Says (codes "deliver 3") (event.Deliver 3)
delivers_third number = refl

loses_first : Says (codes "drop 1") (event.Drop 1)
loses_first number = refl

loses_second : Says (codes "drop 2") (event.Drop 2)
loses_second number = refl

loses_third : Says (codes "drop 3") (event.Drop 3)
loses_third number = refl

-- the second and the third message are on their way
abbrev TwoOnWay : World → Type 0
TwoOnWay w = IsOnWay 2 w × IsOnWay 3 w

two_stay : (k : ℕ) (c c₁ : Cluster) → TwoOnWay c.world → ClusterStep c (event.Deliver k) c₁ true → TwoOnWay c₁.world
two_stay k c c₁ on s = (given_stays 2 c c₁ (event.Deliver k) s refl on.0, given_stays 3 c c₁ (event.Deliver k) s refl on.1)

all_stay : (k : ℕ) (c c₁ : Cluster) → AllOnWay c.world → ClusterStep c (event.Deliver k) c₁ true → AllOnWay c₁.world
all_stay k c c₁ on s = (given_stays 1 c c₁ (event.Deliver k) s refl on.0, given_stays 2 c c₁ (event.Deliver k) s refl on.1, given_stays 3 c c₁ (event.Deliver k) s refl on.2)

first_lost : (c c₁ : Cluster) → AllOnWay c.world → ClusterStep c (event.Drop 1) c₁ true → TwoOnWay c₁.world
first_lost c c₁ on s = (lost_stays 2 1 c c₁ true s refl (differ 2 1 (omega arith)) on.1, lost_stays 3 1 c c₁ true s refl (differ 3 1 (omega arith)) on.2)

third_lost : (c c₁ : Cluster) → TwoOnWay c.world → ClusterStep c (event.Drop 3) c₁ true → IsOnWay 2 c₁.world
third_lost c c₁ on s = lost_stays 2 3 c c₁ true s refl (λ e. differ 3 2 (omega arith) (sym e)) on.0

-- a line is refused in the end
module _ (at : ℕ) (why : List ℕ) (c' : Cluster) where
  abbrev LeftTo : (World → Type 0) → ℕ → List (List ℕ) → Type 0
  LeftTo Is number lines = Left Is (said 1) number lines (Refused at why) c'

  goes_on : (Is After : World → Type 0) {number : ℕ} (line : List ℕ) (lines : List (List ℕ)) (made : Event) → LeftTo Is number (line ∷ lines) → Says line made →
      ((c : Cluster) → Is c.world → misfit c made ≡ None) → ((c c₁ : Cluster) → Is c.world → ClusterStep c made c₁ true → After c₁.world) → LeftTo After (suc number) lines
  goes_on Is After {number = number} line lines made x says fits after =
      made_by After (said 1) number (line ∷ lines) x.from x.outs (Refused at why) c' x.plays line lines refl at why refl made (says (suc x.from.asked)) (fits x.from x.is) (λ c₁ s. after x.from c₁ x.is s)

  never_left : {number : ℕ} → LeftTo HasAsked number seven_left → ⊥
  never_left x =
      let six = goes_on HasAsked AllOnWay (codes "deliver 1") six_left (event.Deliver 1) x delivers_first (λ c on. delivery_fits c 1 (first_on_way c.world on)) vote_given in
      let five = goes_on AllOnWay AllOnWay (codes "deliver 3") five_left (event.Deliver 3) six delivers_third (λ c on. delivery_fits c 3 on.2) (all_stay 3) in
      let four = goes_on AllOnWay AllOnWay (codes "deliver 1") four_left (event.Deliver 1) five delivers_first (λ c on. delivery_fits c 1 on.0) (all_stay 1) in
      let three = goes_on AllOnWay TwoOnWay (codes "drop 1") three_left (event.Drop 1) four loses_first (λ c on. loss_fits c 1 on.0) first_lost in
      let two = goes_on TwoOnWay TwoOnWay (codes "deliver 2") two_left (event.Deliver 2) three delivers_second (λ c on. delivery_fits c 2 on.0) (two_stay 2) in
      let one = goes_on TwoOnWay (IsOnWay 2) (codes "drop 3") one_left (event.Drop 3) two loses_third (λ c on. loss_fits c 3 on.1) third_lost in
      let none = goes_on (IsOnWay 2) (λ w. Unit {0}) (codes "drop 2") [] (event.Drop 2) one loses_second (λ c on. loss_fits c 2 on) (λ c c₁ on s. tt) in
      none_left (said 1) _ [] none.from none.outs (Refused at why) c' none.plays refl at why refl

  never_from_start : (start : Cluster) → IsFirstStart start → length start.servers ≡ 3 → (number : ℕ) (outs : List Out) → Plays (said 1) number all_left start outs (Refused at why) c' → ⊥
  never_from_start start first three number outs plays =
      let begins : Begins first.stores start.world = subst (λ (c : Cluster). Begins first.stores c.world) (sym first.is) first.begins in
      let begun = begun_servers first.stores start (record { world = first.world; agents = first.agents; some = first.some; few = first.few; unarmed = first.unarmed; begins = first.begins; is = first.is }) in
      never_left (made_by HasAsked (said 1) number all_left start outs (Refused at why) c' plays (codes "timeout 1") seven_left refl at why refl (event.Timeout 1) (says_timeout (suc start.asked)) (timeout_fits start three)
      (λ c₁ s. both_asked first.stores start c₁ begins (sym begun ∙ three) first.unarmed first.sure first.empty s))

-- what an opened script is opened with
same_opened : (a b : Opening) (n m : ℕ) (ls ms : List (List ℕ)) → Opened a n ls ≡ Opened b m ms → (b ≡ a) × (ms ≡ ls)
same_opened a b n m ls ms e = (sym (cc e), sym (cc e))

never_plays : (script : Script) (outs : List Out) (end : Ending) (run : Played script outs end) → (next : ℕ) → script ≡ Opened opening next all_left → (at : ℕ) (why : List ℕ) → end ≡ Refused at why → ⊥
never_plays script outs end run next is at why refused =
    let same = same_opened opening run.opening next run.next all_left run.lines (sym is ∙ run.opened) in
    let ends : Plays (said run.opening.seed) run.next run.lines run.start outs (Refused at why) run.reached =
    subst (λ (e : Ending). Plays (said run.opening.seed) run.next run.lines run.start outs e run.reached) refused run.plays in
    let lines : Plays (said run.opening.seed) run.next all_left run.start outs (Refused at why) run.reached =
    subst (λ (ls : List (List ℕ)). Plays (said run.opening.seed) run.next ls run.start outs (Refused at why) run.reached) same.1 ends in
    let plays : Plays (said 1) run.next all_left run.start outs (Refused at why) run.reached =
    subst (λ seed. Plays (said seed) run.next all_left run.start outs (Refused at why) run.reached) (ap (λ (o : Opening). o.seed) same.0) lines in
    never_from_start at why run.reached run.start run.first (run.servers ∙ ap (λ (o : Opening). o.servers) same.0) run.next outs plays

never_writes : (script : Script) (end : Ending) (text : List ℕ) → Writes script end text → (next : ℕ) → script ≡ Opened opening next all_left → (at : ℕ) (why : List ℕ) → end ≡ Refused at why → ⊥
never_writes script end text (closed line reason shut) next is at why refused = cc (sym shut ∙ is)
never_writes script end text (played outs last run) next is at why refused = never_plays script outs last run next is at why refused

-- however it is played, no line of it is refused
pub unrefused : NeverRefuses (script_of deliveries)
unrefused line why text writes = never_writes (script_of deliveries) (Refused line why) text writes 2 opened line why refl

pub is_short : is_too_long deliveries ≡ false
unfolding is_too_long
is_short = refl
