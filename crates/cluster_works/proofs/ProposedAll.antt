-- What a leading server proposes for no request: several commands in their order.
use Rattle.std.proofs.Common.{◌≡◌, ℕ, suc, ◌+◌, Bool, true, false, length, take, drop, get_or, List, [], ◌∷◌, ◌++◌, append-nil, append_assoc, refl, sym, ◌∙◌, ap, subst, arith}
use Rattle.std.specs.Prelude.{◌<◌}
use Rattle.std.proofs.lemmas.List.{length-take, take-append-drop, take_more}
use Rattle.std.proofs.Common.{Result, Ok, Err}
use Rattle.cluster_rules.specs.Agents.{Agent}
use Rattle.cat_model.specs.declared.command.Command.{Command}
use Rattle.cat_model.specs.declared.memory.Memory.{Memory}
use Rattle.cluster_rules.specs.Cluster.{Cluster, runs_leading}
use Rattle.cluster_rules.specs.Proposals.{Proposals, breaks, none_left, enters, refuses}
use Rattle.cluster_rules.specs.Requests.{moved}
use Rattle.cluster_replicas.specs.Servers.{Servers}
use Rattle.cluster_requests.specs.Requests.{Requests, cluster_of}
use Rattle.cluster_works.specs.Proposing.{EndedOne, IsEntered, IsRefused, OneProposed, ProposesAll, ProposesOne}
use Rattle.cluster_works.specs.Standing.{Stands}
use Rattle.cluster_works.specs.Watching.{Watching}

-- All of these commands were entered, one after another.
pub data AllEntered (i : ℕ) : List Command → Cluster → Cluster → Type 0 where
  no_more : {c : Cluster} → AllEntered i [] c c
  one_more : {command : Command} {commands : List Command} {c c₁ c' : Cluster} → IsEntered i command c c₁ → AllEntered i commands c₁ c' → AllEntered i (command ∷ commands) c c'

pub entered_last : (i : ℕ) (commands : List Command) (command : Command) (c c₁ c' : Cluster) → AllEntered i commands c c₁ → IsEntered i command c₁ c' → AllEntered i (commands ++ command ∷ []) c c'
entered_last i [] command c c₁ c' no_more e = one_more e no_more
entered_last i (x ∷ commands) command c c₁ c' (one_more {c₁ = d} f all) e = one_more f (entered_last i commands command d c₁ c' all e)

-- what is entered first, and then proposed
pub entered_then : (i : ℕ) (commands more : List Command) (c c₁ c' : Cluster) (n m : ℕ) (whole : Bool) → AllEntered i commands c c₁ → Proposals i more c₁ n c' whole → m ≡ length commands + n → Proposals i (commands ++ more) c m c' whole
entered_then i [] more c c₁ c' n m whole no_more p e = let same : n ≡ m = omega (arith, e) in subst (λ k. Proposals i more c k c' whole) same p
entered_then i (x ∷ commands) more c c₁ c' n m whole (one_more {c₁ = d} f all) p e =
    let rest : Proposals i (commands ++ more) (moved i f.world c) (length commands + n) c' whole = subst (λ (z : Cluster). Proposals i (commands ++ more) z (length commands + n) c' whole) f.is (entered_then i commands more d c₁ c' n (length commands + n) whole all p refl) in
    let last : suc (length commands + n) ≡ m = omega (arith, e) in
    subst (λ k. Proposals i (x ∷ commands ++ more) c k c' whole) last (enters f.world f.leads f.room f.acts f.runs rest)

-- one that is refused ends it, as does lack of memory
pub refused_one : (i : ℕ) (command : Command) (more : List Command) (c c' : Cluster) → IsRefused i command c c' → Proposals i (command ∷ more) c 0 c' true
refused_one i command more c c' f = subst (λ (z : Cluster). Proposals i (command ∷ more) c 0 z true) (sym f.is) (refuses f.world f.leads f.acts f.why)

-- The list of commands at a place in it.
pub next_taken : (commands : List Command) (k : ℕ) (x : Command) → k < length commands → x ≡ get_or commands k x → take (k + 1) commands ≡ take k commands ++ x ∷ []
next_taken commands k x l is = take_more commands k x l ∙ ap (λ (y : Command). take k commands ++ y ∷ []) (sym is)

split_at : (commands : List Command) (k : ℕ) (x : Command) → k < length commands → x ≡ get_or commands k x → take k commands ++ x ∷ drop (k + 1) commands ≡ commands
split_at commands k x l is =
    sym (append_assoc (take k commands) (x ∷ []) (drop (k + 1) commands)) ∙ ap (λ (xs : List Command). xs ++ drop (k + 1) commands) (sym (next_taken commands k x l is)) ∙ take-append-drop (k + 1) commands

-- the proposals stop at the command of this place
pub stopped_at : (i : ℕ) (commands : List Command) (k : ℕ) (x : Command) (c c₁ c' : Cluster) (m : ℕ) (whole : Bool) → k < length commands → x ≡ get_or commands k x → AllEntered i (take k commands) c c₁
    → Proposals i (x ∷ drop (k + 1) commands) c₁ 0 c' whole → m ≡ k → Proposals i commands c m c' whole
stopped_at i commands k x c c₁ c' m whole l is all p e =
    let count : m ≡ length (take k commands) + 0 = omega (arith, e, l, length-take k commands) in
    subst (λ (xs : List Command). Proposals i xs c m c' whole) (split_at commands k x l is) (entered_then i (take k commands) (x ∷ drop (k + 1) commands) c c₁ c' 0 m whole all p count)

-- or all were entered
pub all_entered : (i : ℕ) (commands : List Command) (k : ℕ) (c c' : Cluster) (m : ℕ) → k ≡ length commands → AllEntered i (take k commands) c c' → m ≡ k → Proposals i commands c m c' true
all_entered i commands k c c' m e all n =
    let whole : take k commands ≡ commands = ap (λ j. take j commands) e ∙ taken_all commands in
    let count : m ≡ length commands + 0 = omega (arith, e, n) in
    subst (λ (xs : List Command). Proposals i xs c m c' true) (append-nil commands) (entered_then i commands [] c c' c' 0 m true (subst (λ (xs : List Command). AllEntered i xs c c') whole all) none_left count)
  where
    taken_all : (xs : List Command) → take (length xs) xs ≡ xs
    taken_all [] = refl
    taken_all (x ∷ xs) = ap (λ l. x ∷ l) (taken_all xs)

pub servers_kept : (i : ℕ) (command : Command) (c c' : Cluster) (entered : Bool) → OneProposed i command c entered c' → c'.servers ≡ c.servers
servers_kept i command c c' true f = ap (λ (z : Cluster). z.servers) f.is
servers_kept i command c c' false f = ap (λ (z : Cluster). z.servers) f.is

-- From parts that stand all of these commands were entered, and the parts stand.
abbrev pub AllGone : ℕ → List Command → Servers → Requests → Servers → Requests → Type 0
AllGone i commands old r new r' =
    (agents : List Agent) (watch : Watching) → Stands watch old.world old.servers r → AllEntered i commands (cluster_of old.world old.servers agents r) (cluster_of new.world new.servers agents r') × Stands watch new.world new.servers r'

pub none_gone : (i : ℕ) (s : Servers) (r : Requests) → AllGone i [] s r s r
none_gone i s r = λ gs wt stands. (no_more, stands)

-- one proposal more, by what it answered
module _ (i : ℕ) (commands : List Command) (k : ℕ) (x : Command) (s₀ s s' : Servers) (r₀ r r' : Requests) (result : Result Bool Memory) (l : k < length commands) (is : x ≡ get_or commands k x) (gone : AllGone i (take k commands) s₀ r₀ s r) (one : ProposesOne i x s r s' r' result) where
  ended : (gs : List Agent) (wt : Watching) → Stands wt s₀.world s₀.servers r₀ → (known : Result Bool Memory) → result ≡ known → EndedOne gs wt i x (cluster_of s.world s.servers gs r) s'.world s'.servers r' known
  ended gs wt stands known e = subst (λ (z : Result Bool Memory). EndedOne gs wt i x (cluster_of s.world s.servers gs r) s'.world s'.servers r' z) e (one gs wt (gone gs wt stands).1)

  pub one_gone : result ≡ Ok true → AllGone i (take (k + 1) commands) s₀ r₀ s' r'
  one_gone e = λ gs wt stands.
      let did = ended gs wt stands (Ok true) e in (
        subst (λ (xs : List Command). AllEntered i xs (cluster_of s₀.world s₀.servers gs r₀) (cluster_of s'.world s'.servers gs r')) (sym (next_taken commands k x l is))
            (entered_last i (take k commands) x _ (cluster_of s.world s.servers gs r) _ (gone gs wt stands).0 did.told),
        did.stands,
      )

  pub one_stopped : (m : ℕ) → m ≡ k → result ≡ Ok false → ProposesAll i commands s₀ r₀ s' r' (record { entered = m; whole = true })
  one_stopped m n e = λ gs wt stands.
      let did = ended gs wt stands (Ok false) e in
      record {
        proposals = stopped_at i commands k x _ (cluster_of s.world s.servers gs r) _ m true l is (gone gs wt stands).0 (refused_one i x (drop (k + 1) commands) (cluster_of s.world s.servers gs r) (cluster_of s'.world s'.servers gs r') did.told) n;
        stands = did.stands;
      }

  pub one_broken : (m : ℕ) (why : Memory) → m ≡ k → result ≡ Err why → ProposesAll i commands s₀ r₀ s' r' (record { entered = m; whole = false })
  one_broken m why n e = λ gs wt stands.
      let did = ended gs wt stands (Err why) e in
      record {
        proposals = stopped_at i commands k x _ (cluster_of s.world s.servers gs r) _ m false l is (gone gs wt stands).0
            (subst (λ (d : Cluster). Proposals i (x ∷ drop (k + 1) commands) (cluster_of s.world s.servers gs r) 0 d false) (sym did.same) breaks) n;
        stands = did.stands;
      }

  module _ (wt : Watching) (stands : Stands wt s₀.world s₀.servers r₀) where
    pub leads_then : result ≡ Ok true → runs_leading s'.world i ≡ true
    leads_then e = (ended [] wt stands (Ok true) e).leads refl

    pub same_servers : (b : Bool) → result ≡ Ok b → s'.servers ≡ s.servers
    same_servers b e = servers_kept i x (cluster_of s.world s.servers [] r) (cluster_of s'.world s'.servers [] r') b (ended [] wt stands (Ok b) e).told

    pub same_broken : (why : Memory) → result ≡ Err why → s'.servers ≡ s.servers
    same_broken why e = ap (λ (d : Cluster). d.servers) (ended [] wt stands (Err why) e).same

-- all were entered
pub all_gone : (i : ℕ) (commands : List Command) (k : ℕ) (s₀ s : Servers) (r₀ r : Requests) (m : ℕ) → k ≡ length commands → AllGone i (take k commands) s₀ r₀ s r → m ≡ k → ProposesAll i commands s₀ r₀ s r (record { entered = m; whole = true })
all_gone i commands k s₀ s r₀ r m e gone n = λ gs wt stands.
    record {
      proposals = all_entered i commands k (cluster_of s₀.world s₀.servers gs r₀) (cluster_of s.world s.servers gs r) m e (gone gs wt stands).0 n;
      stands = (gone gs wt stands).1;
    }
