-- Nothing is due of any that are held, where nothing is of those that are awake.
use Rattle.std.proofs.Common.{◌≡◌, ◌⊎◌, inl, inr, ℕ, zero, suc, ◌<◌, ◌≤◌, ◌==◌, ◌||◌, Bool, true, false, cond, length, List, [], ◌∷◌, Option, None, Some, refl, sym, ap, ◌∙◌, subst, arith}
use Rattle.std.specs.Prelude.{Contains, IfNone, slice_index_or}
use Rattle.std.specs.List.{AllByRecursion as Each, find}
use Rattle.raft_model.proofs.Tests.{eq_tells}
use Rattle.cluster_rules.specs.Cluster.{Cluster, Pending, Server, applied_of, node_of}
use Rattle.cluster_rules.proofs.Tools.{each_map}
use Rattle.cluster_replicas.specs.Servers.{Servers}
use Rattle.cluster_requests.specs.Requests.{Requests}
use Rattle.cluster_works.specs.Looking.{OnlyAwakeIsDue, is_early, is_late, is_number_early, is_number_late, is_stand_due, numbered_in, servers_of, test_held}
use Rattle.cluster_works.specs.Standing as standing
use Rattle.cluster_works.specs.Standing.{IsAwaited}
use Rattle.cluster_works.specs.Watching.{MayBeDue, Watching}
use Rattle.cluster_works.proofs.Finding.{here_first}
use Rattle.cluster_works.proofs.Numbered.{each_numbered}

module _ (wt : Watching) where
  abbrev IsHeld : List Server → ℕ → Pending → Type 0
  IsHeld servers asked h = standing.IsHeld wt servers asked h

  pub awaited_here : (c : Cluster) (i n : ℕ) (h : Pending) → is_early (servers_of c) i h ≡ true → IsHeld c.servers n h → IsAwaited (length (applied_of c i)) h.stand
  awaited_here c i n h passes held =
      let here : h.server ≡ i = eq_tells h.server i (here_first (h.server == i) ((node_of c.world i).halted || is_stand_due (servers_of c) i h.question.asked h.stand) passes) in
      subst (λ k. IsAwaited (length (applied_of c k)) h.stand) here held.awaited

  -- what is found nowhere among those that are awake
  awake_by : (test : ℕ → Bool) (n : ℕ) (numbers : List ℕ) (d : ℕ) (b : Bool) → test n ≡ b → cond b (Some n) (find test numbers) ≡ None → (find test numbers ≡ None → (k : ℕ) → k < length numbers → test (slice_index_or numbers k d) ≡ false)
      → (k : ℕ) → k < length (n ∷ numbers) → test (slice_index_or (n ∷ numbers) k d) ≡ false
  awake_by test n numbers d true e none go k l = absurd (cc none)
  awake_by test n numbers d false e none go zero l = e
  awake_by test n numbers d false e none go (suc k) l = go none k (omega (arith, l))

  awake_none : (test : ℕ → Bool) (numbers : List ℕ) (d : ℕ) → find test numbers ≡ None → (k : ℕ) → k < length numbers → test (slice_index_or numbers k d) ≡ false
  awake_none test [] d none k l = absurd (omega (arith, l))
  awake_none test (n ∷ numbers) d none k l = awake_by test n numbers d (test n) refl none (λ e. awake_none test numbers d e) k l

  -- none of these numbers passes
  abbrev pub NonePasses : (ℕ → Bool) → List ℕ → Type 0
  NonePasses test numbers = (n : ℕ) → Contains numbers n → test n ≡ false

  pub awake_passes_not : (test : ℕ → Bool) (numbers : List ℕ) (n : ℕ) → find test numbers ≡ None → Contains numbers n → test n ≡ false
  awake_passes_not test numbers n none (k, l, is) = ap test (sym is) ∙ awake_none test numbers n none k l

  tests_not : (test : Pending → Bool) (number : ℕ) (held : List Pending) (h : Pending) → numbered_in number held ≡ Some h → test_held test (numbered_in number held) ≡ false → test h ≡ false
  tests_not test number held h e t = sym (ap (test_held test) e) ∙ t

  -- Where none of those that are awake passes, and no other does, none does.
  one_fails : (test : Pending → Bool) (all : List Pending) (h : Pending) → numbered_in h.question.number all ≡ Some h → (MayBeDue h.question.number wt → Contains wt.watch.awake h.question.number)
      → NonePasses (λ number. test_held test (numbered_in number all)) wt.watch.awake → MayBeDue h.question.number wt ⊎ (test h ≡ false) → test h ≡ false
  one_fails test all h mine covers none (inl awake) = tests_not test h.question.number all h mine (none h.question.number (covers awake))
  one_fails test all h mine covers none (inr fails) = fails

  all_fail : (test : Pending → Bool) (all : List Pending) (servers : List Server) (n : ℕ) → ((number : ℕ) → number ≤ n → MayBeDue number wt → Contains wt.watch.awake number) → NonePasses (λ number. test_held test (numbered_in number all)) wt.watch.awake
      → (held : List Pending) → Each (IsHeld servers n) held → Each (λ (h : Pending). numbered_in h.question.number all ≡ Some h) held → Each (λ (h : Pending). MayBeDue h.question.number wt ⊎ (test h ≡ false)) held → Each (λ (h : Pending). test h ≡ false) held
  all_fail test all servers n covers none [] each mine only = tt
  all_fail test all servers n covers none (h ∷ held) each mine only = (one_fails test all h mine.0 (covers h.question.number each.0.numbered) none only.0, all_fail test all servers n covers none held each.1 mine.1 only.1)

  -- the same of a search among them
  none_passes : (test : Pending → Bool) (s : Servers) (r : Requests) (asked : ℕ) (numbers : List ℕ) (found : Option ℕ) → standing.Stands wt s.world s.servers r → Each (λ (h : Pending). MayBeDue h.question.number wt ⊎ (test h ≡ false)) r.held → asked ≡ r.asked
      → ((number : ℕ) → number ≤ asked → MayBeDue number wt → Contains wt.watch.awake number) → numbers ≡ wt.watch.awake → found ≡ find (λ number. test_held test (numbered_in number r.held)) numbers → IfNone found (Each (λ (h : Pending). test h ≡ false) r.held)
  none_passes test s r asked numbers (Some n) stands only all covers same e = tt
  none_passes test s r asked numbers None stands only all covers same e =
      let tests : ℕ → Bool = λ number. test_held test (numbered_in number r.held) in
      all_fail test r.held s.servers r.asked (λ number l. covers number (omega (arith, l, all)))
      (λ n there. awake_passes_not tests wt.watch.awake n (ap (find tests) (sym same) ∙ sym e) there)
      r.held stands.held (each_numbered r.held stands.ascends) only

  not_early : {A B C : Type 0} → A ⊎ (B × C) → A ⊎ B
  not_early (inl a) = inl a
  not_early (inr b) = inr b.0

  not_late : {A B C : Type 0} → A ⊎ (B × C) → A ⊎ C
  not_late (inl a) = inl a
  not_late (inr b) = inr b.1

  pub early_none : (s : Servers) (r : Requests) (i asked : ℕ) (numbers : List ℕ) (found : Option ℕ) → standing.Stands wt s.world s.servers r → OnlyAwakeIsDue wt s i r.held → asked ≡ r.asked
      → ((number : ℕ) → number ≤ asked → MayBeDue number wt → Contains wt.watch.awake number) → numbers ≡ wt.watch.awake → found ≡ find (is_number_early s r.held i) numbers → IfNone found (Each (λ (h : Pending). is_early s i h ≡ false) r.held)
  early_none s r i asked numbers found stands only all covers same e =
      none_passes (is_early s i) s r asked numbers found stands
      (each_map (λ (h : Pending). MayBeDue h.question.number wt ⊎ ((is_early s i h ≡ false) × (is_late s i h ≡ false))) (λ (h : Pending). MayBeDue h.question.number wt ⊎ (is_early s i h ≡ false)) (λ h x. not_early x) r.held only) all covers same e

  pub late_none : (s : Servers) (r : Requests) (i asked : ℕ) (numbers : List ℕ) (found : Option ℕ) → standing.Stands wt s.world s.servers r → OnlyAwakeIsDue wt s i r.held → asked ≡ r.asked
      → ((number : ℕ) → number ≤ asked → MayBeDue number wt → Contains wt.watch.awake number) → numbers ≡ wt.watch.awake → found ≡ find (is_number_late s r.held i) numbers → IfNone found (Each (λ (h : Pending). is_late s i h ≡ false) r.held)
  late_none s r i asked numbers found stands only all covers same e =
      none_passes (is_late s i) s r asked numbers found stands
      (each_map (λ (h : Pending). MayBeDue h.question.number wt ⊎ ((is_early s i h ≡ false) × (is_late s i h ≡ false))) (λ (h : Pending). MayBeDue h.question.number wt ⊎ (is_late s i h ≡ false)) (λ h x. not_late x) r.held only) all covers same e
