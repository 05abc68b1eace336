-- A history accounts for the nodes, for what is agreed and for all that was sent so far.
use Rattle.std.proofs.Common.{ℕ, List, [], ap, arith, get_or, inl, inr, length, set, subst, suc, sym, ◌<◌, ◌∙◌, ◌∷◌, ◌≡◌, ◌⊎◌}
use Rattle.std.specs.Prelude.{Contains}
use Rattle.std.proofs.lemmas.List.{length-set}
use Rattle.raft_model.proofs.Going.{true_stays}
use Rattle.raft_model.proofs.History.{History, Sound}
use Rattle.raft_model.proofs.Moving.{Moves, commits_none, fits_stays, moves, moves_restart, no_more}
use Rattle.raft_model.proofs.Saving.{IsTrueInput}
use Rattle.raft_model.proofs.Sound.{AllTrue, Fits, GoesOn, IsTrueOf}
use Rattle.raft_model.proofs.Starts.{begins_sound}
use Rattle.raft_model.specs.Log.{Log}
use Rattle.raft_model.specs.Node.{Node, Store, committed}
use Rattle.raft_model.specs.Rules.{Beat, Input, Probe, Propose, Receive, Timeout}
use Rattle.raft_model.specs.Step.{RestartFails, RestartWorks}
use Rattle.raft_model.specs.World.{AreEmpty, Begins, World, longer}
use Rattle.raft_model.specs.declared.message.Message.{Message}
use Rattle.raft_model.specs.declared.message.Sent.{Sent}
use Rattle.node_journals.proofs.Lists.{at_set, first_or, in_none}
use Rattle.node_journals.specs.Journals.{Event, Given, IsStep, IsUnnumbered, Restart, Step}
use Rattle.node_journals.specs.OneWorld.{IsHeard, Turn}

pub record Accounts (nodes : List Node) (agreed : Log) (earlier : List Turn) : Type 0 where
  pub history : History
  pub sound : Sound (length nodes) history
  pub fits : (j : ℕ) (d : Node) → j < length nodes → Fits (length nodes) history (suc j) (get_or nodes j d)
  pub told : (turn : Turn) → Contains earlier turn → AllTrue history turn.server turn.step.sent
  pub agrees : history.agreed ≡ agreed

pub begins_accounted : (stores : List Store) (w : World) → AreEmpty stores → Begins stores w → Accounts w.nodes w.agreed []
begins_accounted stores w e b =
    let s = begins_sound stores w e b in
    record { history = s.history; sound = s.sound; fits = s.fits; told = λ turn c. absurd (in_none turn c); agrees = s.agreed }

-- what is true stays true
all_stay : (servers i : ℕ) (h h' : History) → GoesOn i h h' → (from : ℕ) (sent : List Sent) → AllTrue h from sent → AllTrue h' from sent
all_stay servers i h h' g from [] a = tt
all_stay servers i h h' g from (s ∷ ss) a = (true_stays servers i h h' g from s.to s.message a.0, all_stay servers i h h' g from ss a.1)

-- one of the messages that were sent
one_of : (h : History) (from to : ℕ) (m : Message) (sent : List Sent) → AllTrue h from sent → Contains sent (record { to = to; message = m }) → IsTrueOf h from to m
one_of h from to m [] a c = absurd (in_none (record { to = to; message = m }) c)
one_of h from to m (s ∷ ss) a c = elim (first_or s (record { to = to; message = m }) ss c) [ inl e ↦ subst (λ (z : Sent). IsTrueOf h from z.to z.message) e a.0 | inr q ↦ one_of h from to m ss a.1 q ]

-- what a server hears is true
heard_true : (nodes : List Node) (agreed : Log) (earlier : List Turn) (a : Accounts nodes agreed earlier) (i : ℕ) (n : Node) (input : Input) → IsUnnumbered input → IsHeard earlier i (Given input) → IsTrueInput a.history i n input
heard_true nodes agreed earlier a i n (Receive from m) u (turn, c, e, sent) = one_of a.history from i m turn.step.sent (subst (λ z. AllTrue a.history z turn.step.sent) e (a.told turn c)) sent
heard_true nodes agreed earlier a i n (Propose number command) u h = λ lead. inl u
heard_true nodes agreed earlier a i n Timeout u h = tt
heard_true nodes agreed earlier a i n Beat u h = tt
heard_true nodes agreed earlier a i n Probe u h = tt

-- a step of a server is made of moves of the history
moved : (nodes : List Node) (agreed : Log) (earlier : List Turn) (a : Accounts nodes agreed earlier) (i : ℕ) (old : Node) (event : Event) (n : Node) (sent : List Sent) → Fits (length nodes) a.history i old → IsHeard earlier i event → IsStep old event n sent → Moves (length nodes) a.history i n sent
moved nodes agreed earlier a i old (Given input) n sent f h (u, outcome, step) = moves (length nodes) a.history a.sound i old input outcome n sent f (λ r. heard_true nodes agreed earlier a i old input u h) step
moved nodes agreed earlier a i old Restart n sent f h (r, none) = subst (Moves (length nodes) a.history i n) (sym none) (moves_restart (length nodes) a.history a.sound i old n f r)

-- The accounts after a turn, whose history goes on from the one before.
pub record GoesTo (nodes : List Node) (agreed : Log) (earlier : List Turn) (a : Accounts nodes agreed earlier) (i : ℕ) (nodes' : List Node) (agreed' : Log) (earlier' : List Turn) : Type 0 where
  pub accounts : Accounts nodes' agreed' earlier'
  pub goes : GoesOn i a.history accounts.history

pub fits_here : (nodes : List Node) (agreed : Log) (earlier : List Turn) (a : Accounts nodes agreed earlier) (at : ℕ) (old : Node) → at < length nodes → get_or nodes at old ≡ old → Fits (length nodes) a.history (suc at) old
fits_here nodes agreed earlier a at old l e = subst (λ z. Fits (length nodes) a.history (suc at) z) e (a.fits at old l)

pub accounts_go : (nodes : List Node) (agreed : Log) (earlier : List Turn) (a : Accounts nodes agreed earlier) (at : ℕ) (old : Node) (s : Step) → at < length nodes → get_or nodes at old ≡ old → IsHeard earlier (suc at) s.event → IsStep old s.event s.node s.sent → GoesTo nodes agreed earlier a (suc at) (set nodes at s.node) (longer agreed (committed s.node)) (record { server = suc at; step = s } ∷ earlier)
accounts_go nodes agreed earlier a at old s l e heard step = record {
  accounts = record {
    history = m.after;
    sound = subst (λ z. Sound z m.after) (sym ln) m.sound;
    fits = λ j d lj. subst (λ z. Fits z m.after (suc j) (get_or (set nodes at s.node) j d)) (sym ln) (fit j d (subst (λ z. j < z) ln lj));
    told = λ turn c. elim (first_or (record { server = suc at; step = s }) turn earlier c) [
      | inl q ↦ subst (λ (z : Turn). AllTrue m.after z.server z.step.sent) q m.told
      | inr q ↦ all_stay (length nodes) (suc at) a.history m.after m.goes turn.server turn.step.sent (a.told turn q)
    ];
    agrees = m.agreed ∙ ap (λ z. longer z (committed s.node)) a.agrees;
  };
  goes = m.goes;
}
  where
    m : Moves (length nodes) a.history (suc at) s.node s.sent
    m = moved nodes agreed earlier a (suc at) old s.event s.node s.sent (fits_here nodes agreed earlier a at old l e) heard step

    ln : length (set nodes at s.node) ≡ length nodes
    ln = length-set nodes at s.node

    fit : (j : ℕ) (d : Node) → j < length nodes → Fits (length nodes) m.after (suc j) (get_or (set nodes at s.node) j d)
    fit j d lj = at_set (λ j z. Fits (length nodes) m.after (suc j) z) nodes at s.node j d lj
        (λ same. subst (λ z. Fits (length nodes) m.after (suc z) s.node) (sym same) m.fits)
        (λ ne. fits_stays (length nodes) (suc at) a.history m.after a.sound m.goes (suc j) (get_or nodes j d) (λ q. ne (omega arith)) (a.fits j d lj))

-- a restart adds nothing to what is agreed
pub adds_nothing : (nodes : List Node) (agreed : Log) (earlier : List Turn) (a : Accounts nodes agreed earlier) (old new : Node) → RestartWorks old new ⊎ RestartFails old new → longer agreed (committed new) ≡ agreed
adds_nothing nodes agreed earlier a old new r = subst (λ z. longer z (committed new) ≡ z) a.agrees (sym (no_more a.history new (commits_none a.history new (none r))))
  where
    none : RestartWorks old new ⊎ RestartFails old new → new.commit ≡ 0
    none (inl (read, c, reads, e)) = ap (λ (z : Node). z.commit) e
    none (inr (c, e)) = ap (λ (z : Node). z.commit) e
