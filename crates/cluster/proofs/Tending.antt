-- The second act of a tick: a leading server proposes the ends of the sessions that are over by its clock, and then the
-- reap that is due.
use Rattle.std.proofs.Common.{◌≡◌, inr, ℕ, zero, suc, Bool, true, false, List, [], ◌∷◌, length, map, take, Result, Ok, Err, refl, sym, ◌∙◌, ap, subst, arith}
use Rattle.std.specs.Prelude.{OnErr, OnOk, ◌&&◌, if◌then◌else◌}
use Rattle.cat_model.specs.declared.command.Command.{Command}
use Rattle.cat_model.specs.declared.command.Command.TheVariants.{Reap}
use Rattle.cat_model.specs.declared.row.SessionRow.{SessionRow}
use Rattle.raft_model.specs.Node.{set_server}
use Rattle.cluster_rules.specs.Offices.{Office, ended_too, looks_on}
use Rattle.cluster_rules.specs.Cluster.{Cluster, Server, clock_of, no_server, office_of, runs_leading, server_of, with_office}
use Rattle.cluster_rules.specs.Proposals.{Proposals, none_left, breaks, enters, refuses, Tends, in_turn, cut_off, ends_of, looked, over_rows, reaps_of}
use Rattle.cluster_rules.specs.Reached.{IsServerNumber}
use Rattle.cluster_rules.specs.Requests.{moved}
use Rattle.cluster_rules.proofs.Tools.{item_same, length_set_server}
use Rattle.cluster_rules.specs.Agents.{Agent}
use Rattle.cluster_replicas.specs.Servers.{Servers, officed}
use Rattle.cluster_requests.specs.Requests.{Requests, cluster_of}
use Rattle.session_ttl.specs.Endings.{ending_of}
use Rattle.session_ttl.specs.declared.ends.Ending.{Ending}
use Rattle.cluster_order.specs.Turns.{TendsInPart}
use Rattle.cluster.specs.Tending.{EndsProposed, ReapsProposed, is_reap_due}
use Rattle.cluster_works.specs.Ending.{end_command}

-- a server in its own place
own_set : (servers : List Server) (i : ℕ) → set_server servers i (server_of servers i) ≡ servers
own_set servers zero = refl
own_set [] (suc i) = refl
own_set (x ∷ servers) (suc zero) = refl
own_set (x ∷ servers) (suc (suc i)) = ap (λ l. x ∷ l) (own_set servers (suc i))

set_again : (servers : List Server) (i : ℕ) (x y : Server) → set_server (set_server servers i x) i y ≡ set_server servers i y
set_again servers zero x y = refl
set_again [] (suc i) x y = refl
set_again (z ∷ servers) (suc zero) x y = refl
set_again (z ∷ servers) (suc (suc i)) x y = ap (λ l. z ∷ l) (set_again servers (suc i) x y)

-- The last time in office of a server stays.
module _ (i : ℕ) (c : Cluster) (there : IsServerNumber c i) where
  server_is : (o : Office) → server_of (set_server c.servers i (record (server_of c.servers i) { office = o })) i ≡ record (server_of c.servers i) { office = o }
  server_is o = item_same no_server c.servers i (record (server_of c.servers i) { office = o }) there.0 there.1

  pub office_is : (o : Office) → office_of (with_office i o c) i ≡ o
  office_is o = ap (λ (s : Server). s.office) (server_is o)

  office_again : (o o' : Office) → with_office i o (with_office i o' c) ≡ with_office i o c
  office_again o o' =
      ap (λ (s : Server). record c { servers = set_server (set_server c.servers i (record (server_of c.servers i) { office = o' })) i (record s { office = o }) }) (server_is o')
      ∙ ap (λ (l : List Server). record c { servers = l }) (set_again c.servers i (record (server_of c.servers i) { office = o' }) (record (server_of c.servers i) { office = o }))

  office_back : (o : Office) → with_office i (office_of c i) (with_office i o c) ≡ c
  office_back o = office_again (office_of c i) o ∙ ap (λ (l : List Server). record c { servers = l }) (own_set c.servers i)

-- Proposals neither read nor change a time in office.
proposals_officed : (i : ℕ) (o : Office) (commands : List Command) (c : Cluster) (n : ℕ) (c' : Cluster) (whole : Bool) → Proposals i commands c n c' whole → Proposals i commands (with_office i o c) n (with_office i o c') whole
proposals_officed i o [] c n c' whole none_left = none_left
proposals_officed i o commands c n c' whole breaks = breaks
proposals_officed i o (command ∷ commands) c n c' whole (enters {n = m} w' lead room a up more) = enters w' lead room a up (proposals_officed i o commands (moved i w' c) m c' whole more)
proposals_officed i o (command ∷ commands) c n c' whole (refuses w' lead a why) = refuses w' lead a why

-- The ends were noted before they were proposed, and those that were not entered are noted no more.
pub ends_told : (i : ℕ) (c noted proposed new : Cluster) (n : ℕ) (whole : Bool) → IsServerNumber c i → noted ≡ with_office i (ended_too (over_rows c i) (office_of c i)) c
    → Proposals i (ends_of (over_rows c i)) noted n proposed whole → proposed.servers ≡ noted.servers → new ≡ with_office i (ended_too (take n (over_rows c i)) (office_of c i)) proposed → EndsProposed i c whole new
ends_told i c noted proposed new n whole there is p same e =
    let rows = over_rows c i in
    let own = office_of c i in
    let before : Cluster = with_office i own proposed in
    let back : with_office i own noted ≡ c = ap (with_office i own) is ∙ office_back i c there (ended_too rows own) in
    let size : length proposed.servers ≡ length c.servers = ap length same ∙ ap (λ (z : Cluster). length z.servers) is ∙ length_set_server c.servers i _ in
    let here : IsServerNumber proposed i = (there.0, omega (arith, there.1, size)) in
    let office : office_of before i ≡ own = office_is i proposed here own in
    let last : with_office i (ended_too (take n rows) own) before ≡ with_office i (ended_too (take n rows) own) proposed = office_again i proposed here (ended_too (take n rows) own) own in (
      n,
      before,
      subst (λ (z : Cluster). Proposals i (ends_of rows) z n before whole) back (proposals_officed i own (ends_of rows) noted n proposed whole p),
      e ∙ sym last ∙ ap (λ (o : Office). with_office i (ended_too (take n rows) o) before) (sym office),
    )

-- the commands that end sessions
pub ends_are : (rows : List SessionRow) (endings : List Ending) → endings ≡ map ending_of rows → map end_command endings ≡ ends_of rows
ends_are rows endings e = ap (map end_command) e ∙ same rows
  where
    same : (rows : List SessionRow) → map end_command (map ending_of rows) ≡ ends_of rows
    same [] = refl
    same (s ∷ rows) = ap (λ l. end_command (ending_of s) ∷ l) (same rows)

-- the reap that is due
pub reaps_told : (i : ℕ) (c c' : Cluster) (n : ℕ) (whole due : Bool) → (runs_leading c.world i && is_reap_due c i) ≡ due → Proposals i (if due then Reap ∷ [] else []) (looked i c) n c' whole → ReapsProposed i c whole c'
reaps_told i c c' n whole due e p =
    let reaps : List Command = Reap ∷ [] in
    (n, subst (λ (commands : List Command). Proposals i commands (looked i c) n c' whole) (sym (ap (λ b. if b then reaps else []) e)) p)

pub reaps_none : (i : ℕ) (c c' : Cluster) → (runs_leading c.world i && is_reap_due c i) ≡ false → c' ≡ looked i c → ReapsProposed i c true c'
reaps_none i c c' e is = reaps_told i c c' 0 true false e (subst (λ (z : Cluster). Proposals i [] (looked i c) 0 z true) (sym is) none_left)

-- one after the other
pub tends_on : (i : ℕ) (c c₁ c₂ : Cluster) (whole : Bool) → runs_leading c.world i ≡ true → EndsProposed i c true c₁ → ReapsProposed i c₁ whole c₂ → Tends i c c₂ whole
tends_on i c c₁ c₂ whole lead (n, d, p, e) (m, r) = in_turn n m d c₂ lead p (subst (λ (z : Cluster). Proposals i (reaps_of z i) (looked i z) m c₂ whole) e r) refl

pub tends_cut : (i : ℕ) (c c₁ : Cluster) → runs_leading c.world i ≡ true → EndsProposed i c false c₁ → Tends i c c₁ false
tends_cut i c c₁ lead (n, d, p, e) = cut_off n d lead p e

-- Proposals change no server's part.
proposals_servers : (i : ℕ) (commands : List Command) (c : Cluster) (n : ℕ) (c' : Cluster) (whole : Bool) → Proposals i commands c n c' whole → c'.servers ≡ c.servers
proposals_servers i [] c n c' whole none_left = refl
proposals_servers i commands c n c' whole breaks = refl
proposals_servers i (command ∷ commands) c n c' whole (enters {n = m} w' lead room a up more) = proposals_servers i commands (moved i w' c) m c' whole more
proposals_servers i (command ∷ commands) c n c' whole (refuses w' lead a why) = refl

pub ends_there : (i : ℕ) (c c' : Cluster) (whole : Bool) → IsServerNumber c i → EndsProposed i c whole c' → IsServerNumber c' i
ends_there i c c' whole there (n, d, p, e) =
    let size : length c'.servers ≡ length c.servers = ap (λ (z : Cluster). length z.servers) e ∙ length_set_server d.servers i _ ∙ ap length (proposals_servers i (ends_of (over_rows c i)) c n d whole p) in
    (there.0, omega (arith, there.1, size))

-- the last time in office that was noted
pub noted_office : (i : ℕ) (c noted proposed : Cluster) (o : Office) → IsServerNumber c i → noted ≡ with_office i o c → proposed.servers ≡ noted.servers → office_of proposed i ≡ o
noted_office i c noted proposed o there is same = ap (λ (l : List Server). (server_of l i).office) (same ∙ ap (λ (z : Cluster). z.servers) is) ∙ office_is i c there o

-- The servers before, once the ends were noted, once they were proposed, and at last.
pub noted_is : (gs : List Agent) (i : ℕ) (s s₁ : Servers) (r : Requests) (c : Cluster) → cluster_of s.world s.servers gs r ≡ c → s₁ ≡ officed i (ended_too (over_rows c i) (server_of s.servers i).office) s
    → cluster_of s₁.world s₁.servers gs r ≡ with_office i (ended_too (over_rows c i) (office_of c i)) c
noted_is gs i s s₁ r c view moved_to =
    ap (λ (z : Servers). cluster_of z.world z.servers gs r) moved_to ∙ ap (λ (d : Cluster). with_office i (ended_too (over_rows c i) (office_of d i)) d) view

pub proposed_office : (gs gs₂ : List Agent) (i : ℕ) (s s₁ s₂ : Servers) (r r₂ : Requests) (c proposed : Cluster) → cluster_of s.world s.servers gs r ≡ c → IsServerNumber c i → s₁ ≡ officed i (ended_too (over_rows c i) (server_of s.servers i).office) s
    → proposed.servers ≡ s₁.servers → cluster_of s₂.world s₂.servers gs₂ r₂ ≡ proposed → (server_of s₂.servers i).office ≡ ended_too (over_rows c i) (office_of c i)
proposed_office gs gs₂ i s s₁ s₂ r r₂ c proposed view there moved_to same seen =
    ap (λ (d : Cluster). office_of d i) seen ∙ noted_office i c (cluster_of s₁.world s₁.servers gs r) proposed (ended_too (over_rows c i) (office_of c i)) there (noted_is gs i s s₁ r c view moved_to) same

pub ends_done : (gs gs₂ : List Agent) (i : ℕ) (s s₁ s₂ s₃ : Servers) (r r₂ : Requests) (c proposed : Cluster) (endings : List Ending) (commands : List Command) (n : ℕ) (whole : Bool) → cluster_of s.world s.servers gs r ≡ c → IsServerNumber c i
    → endings ≡ map ending_of (over_rows c i) → commands ≡ map end_command endings → s₁ ≡ officed i (ended_too (over_rows c i) (server_of s.servers i).office) s
    → Proposals i commands (cluster_of s₁.world s₁.servers gs r) n proposed whole → proposed.servers ≡ s₁.servers → cluster_of s₂.world s₂.servers gs₂ r₂ ≡ proposed
    → s₃ ≡ officed i (ended_too (take n (over_rows c i)) (office_of c i)) s₂ → EndsProposed i c whole (cluster_of s₃.world s₃.servers gs₂ r₂)
ends_done gs gs₂ i s s₁ s₂ s₃ r r₂ c proposed endings commands n whole view there over commands_are moved_to p same seen kept =
    let noted : Cluster = cluster_of s₁.world s₁.servers gs r in
    let p' : Proposals i (ends_of (over_rows c i)) noted n proposed whole = subst (λ (cs : List Command). Proposals i cs noted n proposed whole) (commands_are ∙ ends_are (over_rows c i) endings over) p in
    ends_told i c noted proposed (cluster_of s₃.world s₃.servers gs₂ r₂) n whole there (noted_is gs i s s₁ r c view moved_to) p' same
    (ap (λ (z : Servers). cluster_of z.world z.servers gs₂ r₂) kept ∙ ap (with_office i (ended_too (take n (over_rows c i)) (office_of c i))) seen)

-- the look alone
pub looked_is : (gs : List Agent) (i : ℕ) (s s₁ : Servers) (r : Requests) (c : Cluster) → cluster_of s.world s.servers gs r ≡ c → s₁ ≡ officed i (looks_on (clock_of s.world i) (server_of s.servers i).office) s
    → cluster_of s₁.world s₁.servers gs r ≡ looked i c
looked_is gs i s s₁ r c view moved_to = ap (λ (z : Servers). cluster_of z.world z.servers gs r) moved_to ∙ ap (looked i) view

-- what the second act did, by what became of the reap
pub tended : {A B : Type 0} (i : ℕ) (c c₁ c₂ : Cluster) (result : Result A B) → runs_leading c.world i ≡ true → EndsProposed i c true c₁ → OnOk result (ReapsProposed i c₁ true c₂) → OnErr result (ReapsProposed i c₁ false c₂)
    → OnOk result (Tends i c c₂ true) × OnErr result (TendsInPart i c c₂)
tended i c c₁ c₂ (Ok x) lead ends ok err = (tends_on i c c₁ c₂ true lead ends ok, tt)
tended i c c₁ c₂ (Err x) lead ends ok err = (tt, inr (tends_on i c c₁ c₂ false lead ends err))
