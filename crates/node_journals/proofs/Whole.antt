-- The laws, of whole journals.
use Rattle.std.proofs.Common.{ℕ, List, None, Option, Some, [], ap, arith, get_or, inr, length, refl, replicate, suc, sym, take, ◌<◌, ◌∙◌, ◌≡◌}
use Rattle.std.proofs.lemmas.List.{get_or_default, take-take}
use Rattle.raft_model.proofs.Forming.{agreed_well_formed}
use Rattle.raft_model.proofs.Pairs.{ordered-well_formed}
use Rattle.raft_model.proofs.Paper.{logs_match, one_leader as leads_alone}
use Rattle.raft_model.proofs.Sound.{IsSound}
use Rattle.raft_model.proofs.Worlds.{agreement}
use Rattle.raft_model.specs.Node.{Store}
use Rattle.raft_model.specs.World.{Begins, World}
use Rattle.node_journals.proofs.Accounting.{Accounts, begins_accounted}
use Rattle.node_journals.proofs.Telling.{Ready, Story, starts, story, total}
use Rattle.node_journals.specs.Agreement.{Agree, HaveOneLeader, HaveOneLog}
use Rattle.node_journals.specs.Causal.{AreCausal}
use Rattle.node_journals.specs.Journals.{AreProcesses, IsProcess, Process}
use Rattle.node_journals.specs.OneWorld.{AreOneWorld, IsAgreed}

-- the world in which they start
first : List Store → List Process → World
first stores ps = record { nodes = starts ps; clocks = replicate (length stores) 0; contacts = replicate (length stores) None; bag = record { packets = []; last = 0 }; greatest = 0; agreed = [] }

first_begins : (ps : List Process) (p : AreProcesses ps) → Begins p.stores (first p.stores ps)
unfolding first
first_begins ps p = record { nodes = p.started; clocks = refl; contacts = refl; bag = refl; greatest = refl; agreed = refl }

accounts : (ps : List Process) (p : AreProcesses ps) → Accounts (first p.stores ps).nodes (first p.stores ps).agreed []
accounts ps p = begins_accounted p.stores (first p.stores ps) p.empty (first_begins ps p)

at_place : (ps : List Process) (j : ℕ) (d : Process) → j < length ps → IsProcess ps (suc j) (get_or ps j d)
at_place ps j d l = (l, get_or_default ps j (get_or ps j d) d l)

ready : (ps : List Process) → AreProcesses ps → AreCausal ps → Ready [] ps
ready ps p c = record {
  journals = λ j d l. p.journals (suc j) (get_or ps j d) (at_place ps j d l);
  rise = λ j d l. c.rise (suc j) (get_or ps j d) (at_place ps j d l);
  heard = λ j d e l q. inr (c.sent (suc j) e (get_or ps j d, at_place ps j d l, q));
}

told : (ps : List Process) (p : AreProcesses ps) → AreCausal ps → Story [] (first p.stores ps) ps (accounts ps p).history
unfolding first
told ps p c = story (total ps) [] (first p.stores ps) ps (omega arith) refl (accounts ps p) (ready ps p c)

-- the world with no message on its way
bare : World → ℕ → World
bare w greatest = record w { bag = record { packets = []; last = 0 }; greatest = greatest }

bare_sound : (w : World) (a : Accounts w.nodes w.agreed []) → IsSound (bare w a.history.greatest)
unfolding bare
bare_sound w a = record { history = a.history; sound = a.sound; fits = a.fits; told = tt; agreed = a.agrees; greatest = omega arith }

agreed_in : (w : World) (a : Accounts w.nodes w.agreed []) → IsAgreed w
unfolding bare
agreed_in w a =
    let s = bare_sound w a in
    record {
      agrees = agreement (bare w a.history.greatest) s;
      leader = leads_alone (bare w a.history.greatest) s;
      matching = logs_match (bare w a.history.greatest) s;
      well_formed = ordered-well_formed w.agreed (agreed_well_formed (bare w a.history.greatest) s);
    }

pub one_world : (ps : List Process) → AreProcesses ps → AreCausal ps → AreOneWorld ps
unfolding first
one_world ps p c =
    let s = told ps p c in
    record {
      stores = p.stores;
      empty = p.empty;
      first = first p.stores ps;
      begins = first_begins ps p;
      starts = refl;
      turns = s.turns;
      last = s.last;
      run = s.run;
      steps = s.steps;
      nodes = s.nodes;
      agreed = agreed_in s.last s.accounts;
    }

pub one_log : (ps : List Process) → AreProcesses ps → AreCausal ps → HaveOneLog ps
one_log ps p c =
    let s = told ps p c in
    (s.accounts.history.agreed, λ i n was. let t = s.told i n was in (t.within, t.front))

pub agree : (ps : List Process) → AreProcesses ps → AreCausal ps → Agree ps
agree ps p c i j n m was was' l =
    let s = told ps p c in
    let t = s.told i n was in
    let u = s.told j m was' in
    ap (take n.commit) u.front ∙ take-take n.commit m.commit s.accounts.history.agreed l ∙ sym t.front

pub one_leader : (ps : List Process) → AreProcesses ps → AreCausal ps → HaveOneLeader ps
one_leader ps p c i j n m was was' leads leads' e =
    let s = told ps p c in
    same ((s.told i n was).leads leads) (ap s.accounts.history.leaders e ∙ (s.told j m was').leads leads')
  where
    same : {o : Option ℕ} → o ≡ Some i → o ≡ Some j → i ≡ j
    same a b = cc (a, b)
