-- A step leaves a sound history too where the store fails in its midst.
use Rattle.std.proofs.Common.{ℕ, Bool, None, Some, [], ap, arith, cond, false, inl, inr, length, max, min, refl, subst, suc, sym, true, ◌++◌, ◌+◌, ◌-◌, ◌∙◌, ◌∷◌, ◌≡◌, ◌⊎◌}
use Rattle.raft_model.specs.Rules.{accepts, Beat, Input, Probe, Propose, Receive, Timeout, after_yes, agreed_to, append_all, append_to, appended, ask_all, beats, candidate, counted, declined, does, done, follows, has_room, is_refused, is_up_to_date, leading, leads, matches, may_vote, noop, noted, of_lower_term, of_own_term, offered, probes, proposal, proposes, received, risen, stands, term_of, timed_out, voted, with_commit, with_voter, asked}
use Rattle.raft_model.proofs.Sound.{kept_of, GoesOn, IsTrueOf, Runs, HasBegun}
use Rattle.cat_model.specs.declared.command.Command.{Command}
use Rattle.cat_model.specs.declared.command.Entry.{Entry}
use Rattle.cat_model.specs.declared.reply.Role.{Role}
use Rattle.cat_model.specs.declared.reply.Role.TheVariants.{Candidate, Follower, Leader}
use Rattle.raft_model.proofs.Came.{Came, came_append_all, came_quiet, came_risen, commit_long, then}
use Rattle.raft_model.proofs.Committing.{came_new}
use Rattle.raft_model.proofs.Election.{put_same}
use Rattle.raft_model.proofs.Going.{goes_further, goes_nowhere, true_stays}
use Rattle.raft_model.proofs.History.{History, IsNewNumber, Sound, probe, put}
use Rattle.raft_model.proofs.Moved.{goes_probe}
use Rattle.raft_model.proofs.Moves.{sound_probe}
use Rattle.raft_model.proofs.Receiving.{came_lower, came_own, risen_term}
use Rattle.raft_model.proofs.Rising.{candidate_up, own_up}
use Rattle.raft_model.proofs.Tests.{at_bool, eq_is, eq_tells, lt_tells_not, or_left}
use Rattle.raft_model.proofs.Voting.{appended_role, came_ask_all, came_leads, came_stands, one_leads}
use Rattle.raft_model.specs.Limits.{is_full}
use Rattle.raft_model.specs.Log.{Log, accepted}
use Rattle.raft_model.specs.Node.{Done, Kept, Node, last, of_server, quiet, reply}
use Rattle.raft_model.specs.Quorum.{IsMajority, is_majority, members}
use Rattle.raft_model.specs.Step.{HasVoteOf}
use Rattle.raft_model.specs.declared.message.Message.{Message}
use Rattle.raft_model.specs.declared.message.Message.TheVariants.{Append, AskVote, No, Vote, Yes}
use Rattle.std.specs.Prelude.{nat_le, nat_lt, ◌&&◌, ◌==◌, ◌^◌}
use Rattle.raft_model.specs.Runs.{fresh}

came_candidate : (servers : ℕ) (h : History) → Sound servers h → (i : ℕ) (n : Node) → Runs servers h i n → n.role ≡ Candidate → n.votes ≡ n.id ∷ [] → Came servers h i (candidate n)
unfolding candidate
came_candidate servers h s i n r stands own = at_bool (λ b. Came servers h i (cond b (leads n) (ask_all n))) (n.servers == 1)
    (λ e. came_leads servers i h s n r stands (alone (eq_tells n.servers 1 e)))
    (λ _. came_ask_all servers h s i n r stands)
  where
    alone : n.servers ≡ 1 → IsMajority servers (members n.votes)
    alone one =
        let q : servers ≡ 1 = sym r.count ∙ one in
        let id : n.id ≡ 1 = let p = r.place in let k = r.count in let z = r.id in omega (arith, p.0, p.1) in
        let e : members n.votes 1 ≡ true = ap (λ v. members v 1) own ∙ or_left (1 == n.id) false (eq_is 1 n.id (sym id)) in
        subst (λ z. IsMajority z (members n.votes)) (sym q) (one_leads (members n.votes) e)

-- A part of a step, as the store holds it.
pub record Half (servers : ℕ) (h : History) (i : ℕ) (k : Kept) : Type 0 where
  pub after : History
  pub goes : GoesOn i h after
  pub sound : Sound servers after
  pub term : after.terms i ≡ k.term
  pub vote : after.votes i k.term ≡ k.vote
  pub log : after.logs i ≡ k.log

pub half_of : (servers : ℕ) (h : History) (i : ℕ) (d : Done) → Came servers h i d → Half servers h i (kept_of d.node)
half_of servers h i d c = record { after = c.after; goes = c.goes; sound = c.sound; term = c.runs.term; vote = c.runs.vote; log = c.runs.log }

pub half_here : (servers : ℕ) (h : History) → Sound servers h → (i : ℕ) (n : Node) → Runs servers h i n → Half servers h i (kept_of n)
half_here servers h s i n r = record { after = h; goes = goes_nowhere i h; sound = s; term = r.term; vote = r.vote; log = r.log }

abbrev pub half_kept : Node → Node → Kept
half_kept old new = record { term = new.term; vote = new.vote; log = old.log }

-- one of term and vote, and the log, is as it was
abbrev One : Node → Node → Type 0
One old new = (new.log ≡ old.log) ⊎ ((new.term ≡ old.term) × (new.vote ≡ old.vote))

half_one : (servers : ℕ) (h : History) → Sound servers h → (i : ℕ) (n : Node) (d : Done) → Runs servers h i n → Came servers h i d → One n d.node → Half servers h i (half_kept n d.node)
half_one servers h s i n d r c (inl e) = record { after = c.after; goes = c.goes; sound = c.sound; term = c.runs.term; vote = c.runs.vote; log = c.runs.log ∙ e }
half_one servers h s i n d r c (inr (e, f)) = record { after = h; goes = goes_nowhere i h; sound = s; term = r.term ∙ sym e; vote = ap (h.votes i) e ∙ r.vote ∙ sym f; log = r.log }

appended_same : (n : Node) (e : Entry) → HasVoteOf n (appended n e)
appended_same n e = at_bool (λ b. HasVoteOf n (cond b (record n { log = n.log ++ e ∷ []; commit = length (n.log ++ e ∷ []) }) (record n { log = n.log ++ e ∷ [] }))) (n.servers == 1) (λ _. (refl, refl)) (λ _. (refl, refl))

leads_same : (n : Node) → HasVoteOf n (leads n).node
unfolding leads
leads_same n = at_bool (λ b. HasVoteOf n (cond b (leading n) (appended (leading n) (noop n.term)))) (is_full n.log) (λ _. (refl, refl)) (λ _. appended_same (leading n) (noop n.term))

candidate_same : (n : Node) → HasVoteOf n (candidate n).node
unfolding candidate
candidate_same n = at_bool (λ b. HasVoteOf n (cond b (leads n) (ask_all n)).node) (n.servers == 1) (λ _. leads_same n) (λ _. (refl, refl))

counted_same : (n : Node) → HasVoteOf n (counted n).node
unfolding counted
counted_same n = at_bool (λ b. HasVoteOf n (cond b (leads n) (quiet n)).node) (is_majority n.servers (members n.votes)) (λ _. leads_same n) (λ _. (refl, refl))

voted_same : (n : Node) (from : ℕ) (g : Bool) (r : Role) → HasVoteOf n (voted n from g r).node
unfolding voted
voted_same n from true Candidate = counted_same (record n { votes = with_voter n.votes from })
voted_same n from true Follower = (refl, refl)
voted_same n from true Leader = (refl, refl)
voted_same n from false Candidate = (refl, refl)
voted_same n from false Follower = (refl, refl)
voted_same n from false Leader = (refl, refl)

accepts_same : (n : Node) (from prev : ℕ) (es : Log) (commit round : ℕ) → HasVoteOf n (accepts n from prev es commit round).node
unfolding accepts
accepts_same n from prev es commit round = at_bool (λ b. HasVoteOf n (cond b (quiet (follows n from))
    (reply (record (follows n from) { log = accepted n.log prev es; commit = max n.commit (min commit (prev + length es)) }) from (Yes n.term (prev + length es) round))).node)
    (is_refused n (accepted n.log prev es)) (λ _. (refl, refl)) (λ _. (refl, refl))

offered_same : (n : Node) (r : Role) (from prev pt : ℕ) (es : Log) (commit round : ℕ) → HasVoteOf n (offered n r from prev pt es commit round).node
unfolding offered
offered_same n Leader from prev pt es commit round = (refl, refl)
offered_same n Follower from prev pt es commit round = at_bool (λ b. HasVoteOf n (cond b (accepts n from prev es commit round) (reply (follows n from) from (No n.term (last n)))).node) (matches n prev pt) (λ _. accepts_same n from prev es commit round) (λ _. (refl, refl))
offered_same n Candidate from prev pt es commit round = at_bool (λ b. HasVoteOf n (cond b (accepts n from prev es commit round) (reply (follows n from) from (No n.term (last n)))).node) (matches n prev pt) (λ _. accepts_same n from prev es commit round) (λ _. (refl, refl))

after_yes_same : (old n : Node) (from : ℕ) → HasVoteOf n (after_yes old n from).node
unfolding after_yes
after_yes_same old n from = at_bool (λ b. HasVoteOf n (cond b (append_all n) (cond (nat_le (of_server n.next from) (last n)) (reply n from (append_to n from)) (quiet n))).node) (nat_lt old.commit n.commit)
    (λ _. (refl, refl)) (λ _. at_bool (λ b. HasVoteOf n (cond b (reply n from (append_to n from)) (quiet n)).node) (nat_le (of_server n.next from) (last n)) (λ _. (refl, refl)) (λ _. (refl, refl)))

agreed_same : (n : Node) (r : Role) (from matched round : ℕ) → HasVoteOf n (agreed_to n r from matched round).node
unfolding agreed_to
agreed_same n Follower from matched round = (refl, refl)
agreed_same n Candidate from matched round = (refl, refl)
agreed_same n Leader from matched round =
    let m : Node = with_commit (noted n from matched round) in
    at_bool (λ b. HasVoteOf n (cond b (after_yes n m from) (quiet n)).node) (nat_le matched (last n)) (λ _. after_yes_same n m from) (λ _. (refl, refl))

declined_same : (n : Node) (r : Role) (from k : ℕ) → HasVoteOf n (declined n r from k).node
unfolding declined
declined_same n Leader from k = (refl, refl)
declined_same n Follower from k = (refl, refl)
declined_same n Candidate from k = (refl, refl)

own_one : (n : Node) (from : ℕ) (m : Message) → One n (of_own_term n from m).node
unfolding of_own_term asked
own_one n from (AskVote t li lt) = at_bool (λ b. One n (cond b (reply (record n { vote = Some from }) from (Vote n.term true)) (reply n from (Vote n.term false))).node) (may_vote n.vote from && is_up_to_date lt li n.log) (λ _. inl refl) (λ _. inl refl)
own_one n from (Vote t g) = inr (voted_same n from g n.role)
own_one n from (Append t prev pt es commit round) = inr (offered_same n n.role from prev pt es commit round)
own_one n from (Yes t matched round) = inr (agreed_same n n.role from matched round)
own_one n from (No t k) = inr (declined_same n n.role from k)

lower_same : (n : Node) (from : ℕ) (m : Message) → HasVoteOf n (of_lower_term n from m).node
unfolding of_lower_term
lower_same n from (AskVote t li lt) = (refl, refl)
lower_same n from (Vote t g) = (refl, refl)
lower_same n from (Append t prev pt es commit round) = (refl, refl)
lower_same n from (Yes t matched round) = (refl, refl)
lower_same n from (No t k) = (refl, refl)

pub risen_log : (n : Node) (t : ℕ) → (risen n t).log ≡ n.log
risen_log n t = at_bool (λ b. (cond b (record n { term = t; vote = None; role = Follower; leader = None }) n).log ≡ n.log) (nat_lt n.term t) (λ _. refl) (λ _. refl)

half_after : (servers : ℕ) (h : History) (i : ℕ) (n m : Node) (d : Done) (a : Came servers h i (quiet m)) → m.log ≡ n.log → Half servers a.after i (half_kept m d.node) → Half servers h i (half_kept n d.node)
half_after servers h i n m d a e b = record { after = b.after; goes = goes_further i h a.after b.after a.goes b.goes; sound = b.sound; term = b.term; vote = b.vote; log = b.log ∙ e }

-- a step, with what the store holds in its midst
pub record Steps (servers : ℕ) (h : History) (i : ℕ) (n : Node) (d : Done) : Type 0 where
  pub whole : Came servers h i d
  pub half : Half servers h i (half_kept n d.node)

steps_received : (servers : ℕ) (h : History) → Sound servers h → (i : ℕ) (n : Node) (from : ℕ) (m : Message) → Runs servers h i n → IsTrueOf h from i m → Steps servers h i n (received n from m)
unfolding received
steps_received servers h s i n from m r a = at_bool (λ b. Steps servers h i n (cond b (of_lower_term n from m) (of_own_term (risen n (term_of m)) from m))) (nat_lt (term_of m) n.term)
    (λ _. let c = came_lower servers h s i n from m r in record { whole = c; half = half_one servers h s i n (of_lower_term n from m) r c (inr (lower_same n from m)) })
    (λ e.
    let up = came_risen servers h s i n (term_of m) r in
    let n' : Node = risen n (term_of m) in
    let c = came_own servers up.after up.sound i n' from m up.runs (risen_term n (term_of m) (lt_tells_not (term_of m) n.term e)) (true_stays servers i h up.after up.goes from i m a) in
    record {
      whole = then servers h i n' (of_own_term n' from m) up (own_up n' from m (commit_long servers up.after up.sound i n' up.runs)) c;
      half = half_after servers h i n n' (of_own_term n' from m) up (risen_log n (term_of m)) (half_one servers up.after up.sound i n' (of_own_term n' from m) up.runs c (own_one n' from m));
    })

steps_candidate : (servers : ℕ) (h : History) → Sound servers h → (i : ℕ) (n : Node) → Runs servers h i n → Steps servers h i n (candidate (stands n))
unfolding candidate
steps_candidate servers h s i n r =
    let up = came_stands servers h s i n r in
    let c = came_candidate servers up.after up.sound i (stands n) up.runs refl refl in
    record {
      whole = then servers h i (stands n) (candidate (stands n)) up (candidate_up (stands n) (commit_long servers h s i n r)) c;
      half = half_after servers h i n (stands n) (candidate (stands n)) up refl (half_one servers up.after up.sound i (stands n) (candidate (stands n)) up.runs c (inr (candidate_same (stands n))));
    }

steps_quiet : (servers : ℕ) (h : History) → Sound servers h → (i : ℕ) (n : Node) → Runs servers h i n → Steps servers h i n (quiet n)
steps_quiet servers h s i n r = record { whole = came_quiet servers h s i n r; half = half_here servers h s i n r }

steps_timed_out : (servers : ℕ) (h : History) → Sound servers h → (i : ℕ) (n : Node) → Runs servers h i n → (role : Role) → Steps servers h i n (timed_out n role)
unfolding timed_out
steps_timed_out servers h s i n r Leader = steps_quiet servers h s i n r
steps_timed_out servers h s i n r Follower = at_bool (λ b. Steps servers h i n (cond b (candidate (stands n)) (quiet n))) (nat_lt n.term (2 ^ 64 - 1)) (λ _. steps_candidate servers h s i n r) (λ _. steps_quiet servers h s i n r)
steps_timed_out servers h s i n r Candidate = at_bool (λ b. Steps servers h i n (cond b (candidate (stands n)) (quiet n))) (nat_lt n.term (2 ^ 64 - 1)) (λ _. steps_candidate servers h s i n r) (λ _. steps_quiet servers h s i n r)

steps_append_all : (servers : ℕ) (h : History) → Sound servers h → (i : ℕ) (n : Node) → Runs servers h i n → n.role ≡ Leader → Steps servers h i n (append_all n)
steps_append_all servers h s i n r lead = record { whole = came_append_all servers h s i n r lead; half = half_here servers h s i n r }

steps_beats : (servers : ℕ) (h : History) → Sound servers h → (i : ℕ) (n : Node) → Runs servers h i n → (role : Role) → n.role ≡ role → Steps servers h i n (beats n role)
unfolding beats
steps_beats servers h s i n r Leader e = steps_append_all servers h s i n r e
steps_beats servers h s i n r Follower e = steps_quiet servers h s i n r
steps_beats servers h s i n r Candidate e = steps_quiet servers h s i n r

steps_proposes : (servers : ℕ) (h : History) → Sound servers h → (i : ℕ) (n : Node) → Runs servers h i n → (number : ℕ) (command : Command) → HasBegun n → (n.role ≡ Leader → IsNewNumber h number) → (role : Role) → n.role ≡ role → Steps servers h i n (proposes n role number command)
unfolding proposes
steps_proposes servers h s i n r number command begun fresh Follower e = steps_quiet servers h s i n r
steps_proposes servers h s i n r number command begun fresh Candidate e = steps_quiet servers h s i n r
steps_proposes servers h s i n r number command begun fresh Leader lead =
    at_bool (λ b. Steps servers h i n (cond b (append_all (appended n (proposal n number command))) (quiet n))) (has_room n number command) (λ _. appends) (λ _. steps_quiet servers h s i n r)
  where
    appends : Steps servers h i n (append_all (appended n (proposal n number command)))
    appends =
        let e : Entry = proposal n number command in
        let b = came_new servers h s i n e r lead refl (fresh lead) (inl (begun lead)) in
        let w = then servers h i (appended n e) (append_all (appended n e)) b (omega arith) (came_append_all servers b.after b.sound i (appended n e) b.runs (appended_role n e ∙ lead)) in
        record { whole = w; half = half_one servers h s i n (append_all (appended n e)) r w (inr (appended_same n e)) }

steps_probes : (servers : ℕ) (h : History) → Sound servers h → (i : ℕ) (n : Node) → Runs servers h i n → (role : Role) → n.role ≡ role → Steps servers h i n (probes n role)
unfolding probes
steps_probes servers h s i n r Follower e = steps_quiet servers h s i n r
steps_probes servers h s i n r Candidate e = steps_quiet servers h s i n r
steps_probes servers h s i n r Leader lead =
    let n' : Node = record n { round = n.round + 1 } in
    let led : h.leaders (h.terms i) ≡ Some i = s.roles.elected i (r.role ∙ lead) in
    let q : put h.probed (h.terms i) (suc (h.probed (h.terms i))) n.term ≡ suc (h.probed (h.terms i)) = ap (put h.probed (h.terms i) (suc (h.probed (h.terms i)))) (sym r.term) ∙ put_same h.probed (h.terms i) (suc (h.probed (h.terms i))) in
    let p : h.probed (h.terms i) ≡ h.probed n.term = ap h.probed r.term in
    let up : Came servers h i (quiet n') = record {
      after = probe i h;
      goes = goes_probe servers h s i led;
      sound = sound_probe servers h s i led;
      grew = inl refl;
      told = tt;
      runs = record {
        id = r.id;
        count = r.count;
        place = r.place;
        running = r.running;
        term = r.term;
        vote = r.vote;
        log = r.log;
        role = r.role;
        commit_within = r.commit_within;
        commit_agrees = r.commit_agrees;
        votes = r.votes;
        matched = r.matched;
        next = r.next;
        round = λ e. let k = r.round e in omega (arith, q, p);
        acked = r.acked;
        own = r.own;
      };
    } in
    let w = then servers h i n' (append_all n') up (omega arith) (came_append_all servers (probe i h) up.sound i n' up.runs lead) in
    record { whole = w; half = half_one servers h s i n (append_all n') r w (inl refl) }

-- what a running node's input rests on
abbrev pub IsTrueInput : History → ℕ → Node → Input → Type 0
IsTrueInput h i n (Receive from m) = IsTrueOf h from i m
IsTrueInput h i n (Propose number command) = n.role ≡ Leader → IsNewNumber h number
IsTrueInput h i n input = Unit {0}

steps_does : (servers : ℕ) (h : History) → Sound servers h → (i : ℕ) (n : Node) (input : Input) → Runs servers h i n → HasBegun n → IsTrueInput h i n input → Steps servers h i n (does n input)
unfolding does
steps_does servers h s i n Timeout r _ _ = steps_timed_out servers h s i n r n.role
steps_does servers h s i n Beat r _ _ = steps_beats servers h s i n r n.role refl
steps_does servers h s i n (Receive from m) r _ t = steps_received servers h s i n from m r t
steps_does servers h s i n (Propose number command) r b t = steps_proposes servers h s i n r number command b t n.role refl
steps_does servers h s i n Probe r _ _ = steps_probes servers h s i n r n.role refl

pub steps : (servers : ℕ) (h : History) → Sound servers h → (i : ℕ) (n : Node) (input : Input) → Runs servers h i n → HasBegun n → IsTrueInput h i n input → Steps servers h i n (done n input)
unfolding done
steps servers h s i n input r begun t = at_bool (λ b. Steps servers h i n (cond b (quiet n) (does n input))) n.halted (λ _. steps_quiet servers h s i n r) (λ _. steps_does servers h s i n input r begun t)
