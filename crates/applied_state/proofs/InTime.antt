-- Which timers of sessions stay in time, as commands are applied, and that no two sessions were made at one position.
use Rattle.std.proofs.Common.{◌≡◌, ℕ, zero, suc, ◌+◌, true, List, [], ◌∷◌, ◌++◌, length, reverse, Option, Some, None, refl, sym, ◌∙◌, ap, subst, arith}
use Rattle.std.specs.List.{AllByRecursion as Each}
use Rattle.std.specs.Ordering.{is_eq, nat_cmp}
use Rattle.std.proofs.lemmas.Bool.{false≢true}
use Rattle.std.proofs.lemmas.List.{reverse-append, reverse-reverse}
use Rattle.cat_model.specs.Catalog.{session_at, session_key}
use Rattle.cat_model.specs.Machine.{at_past, catalog_at}
use Rattle.cat_model.specs.declared.command.Command.{Command}
use Rattle.cat_model.specs.declared.command.Command.TheVariants as command
use Rattle.cat_model.specs.declared.row.SessionRow.{SessionRow}
use Rattle.cat_model.proofs.InOrder.{found_in}
use Rattle.cat_model.proofs.TableLemmas.{All-weaker}
use Rattle.cluster_rules.specs.Offices.{Office, over_at}
use Rattle.session_ttl.specs.Timed.{AreTimed, AreTimedBut, Timers, is_one_of}
use Rattle.session_ttl.proofs.Timing.{IsTimed, is_own, later, over_grows}
use Rattle.applied_state.specs.Making.{made_at, made_ids}
use Rattle.applied_state.proofs.Making.{made_has}

-- the command at a position, of which the first is 1
command_at : ℕ → List Command → Option Command
command_at j [] = None
command_at zero (c ∷ log) = Some c
command_at (suc j) (c ∷ log) = command_at j log

-- a session is the one that the command at the position of its creation makes
record IsMade (log : List Command) (s : SessionRow) : Type 0 where
  before : ℕ
  position : s.create ≡ suc before
  command : Command
  there : command_at before log ≡ Some command
  makes : made_at s.create command ≡ Some s

still_there : (j : ℕ) (log : List Command) (c d : Command) → command_at j log ≡ Some d → command_at j (log ++ c ∷ []) ≡ Some d
unfolding command_at
still_there j [] c d e = cc
still_there zero (b ∷ log) c d e = e
still_there (suc j) (b ∷ log) c d e = still_there j log c d e

last_there : (log : List Command) (c : Command) → command_at (length log) (log ++ c ∷ []) ≡ Some c
unfolding command_at
last_there [] c = refl
last_there (b ∷ log) c = last_there log c

position_of : (s r : SessionRow) (i : ℕ) → r.create ≡ i → Some r ≡ Some s → s.create ≡ i
position_of s r i e is = let same : r ≡ s = cc in sym (ap (λ (x : SessionRow). x.create) same) ∙ e

-- a session that is made is made at the position
made_here : (i : ℕ) (c : Command) (s : SessionRow) → made_at i c ≡ Some s → s.create ≡ i
made_here i (command.SessionCreate id name node checks behavior delay_ms ttl_ms) s e = position_of s _ i refl e
made_here i other s e = absurd (cc e)

one_more : (n : ℕ) → n + 1 ≡ suc n
one_more n = omega arith

made_last : (past : List Command) (c : Command) (s : SessionRow) → made_at (length past + 1) c ≡ Some s → IsMade (past ++ c ∷ []) s
made_last past c s e =
    let at : s.create ≡ length past + 1 = made_here (length past + 1) c s e in
    record { before = length past; position = at ∙ one_more (length past); command = c; there = last_there past c; makes = ap (λ n. made_at n c) at ∙ e }

made_still : (past : List Command) (c : Command) (s : SessionRow) → IsMade past s → IsMade (past ++ c ∷ []) s
made_still past c s m = record { before = m.before; position = m.position; command = m.command; there = still_there m.before past c m.command m.there; makes = m.makes }

all_back : (past : List Command) → Each (IsMade (reverse past)) (catalog_at (reverse past)).sessions
unfolding at_past
all_back [] = tt
all_back (c ∷ past) =
    subst (λ (l : List Command). Each (IsMade l) (catalog_at l).sessions) (sym (reverse-append (c ∷ []) past))
    (made_has (IsMade (reverse past ++ c ∷ [])) (reverse past) c (made_last (reverse past) c) (All-weaker (IsMade (reverse past)) (IsMade (reverse past ++ c ∷ [])) (made_still (reverse past) c) (catalog_at (reverse past)).sessions (all_back past)))

all_made : (log : List Command) → Each (IsMade log) (catalog_at log).sessions
all_made log = subst (λ (l : List Command). Each (IsMade l) (catalog_at l).sessions) (reverse-reverse log) (all_back (reverse log))

same_made : (log : List Command) (s r : SessionRow) → IsMade log s → IsMade log r → s.create ≡ r.create → s.id ≡ r.id
same_made log s r a b e =
    let at : suc a.before ≡ suc b.before = sym a.position ∙ e ∙ b.position in
    let index : a.before ≡ b.before = omega (arith, at) in
    let both : Some a.command ≡ Some b.command = sym a.there ∙ ap (λ j. command_at j log) index ∙ b.there in
    let one : a.command ≡ b.command = cc in
    let rows : Some s ≡ Some r = sym a.makes ∙ ap (λ n. made_at n a.command) e ∙ ap (made_at r.create) one ∙ b.makes in
    let row : s ≡ r = cc in ap (λ (x : SessionRow). x.id) row

-- no other session was made at the position of one
pub own_position : (log : List Command) (id : ℕ) (row : SessionRow) → session_at id (catalog_at log).sessions ≡ Some row → Each (λ s. s.create ≡ row.create → s.id ≡ row.id) (catalog_at log).sessions
own_position log id row found =
    let made : IsMade log row = found_in (IsMade log) (λ s. is_eq (nat_cmp id (session_key s))) (catalog_at log).sessions (all_made log) row found in
    All-weaker (IsMade log) (λ s. s.create ≡ row.create → s.id ≡ row.id) (λ s m. same_made log s row m made) (catalog_at log).sessions (all_made log)

-- the session that is made has the identifier
id_of : (s r : SessionRow) → Some r ≡ Some s → r.id ≡ s.id
id_of s r e = let same : r ≡ s = cc in ap (λ (x : SessionRow). x.id) same

made_named : (i : ℕ) (c : Command) (s : SessionRow) → made_at i c ≡ Some s → is_one_of s.id (made_ids c) ≡ true
made_named i (command.SessionCreate id name node checks behavior delay_ms ttl_ms) s e = is_own s.id id (id_of s _ e)
made_named i other s e = absurd (cc e)

-- Once one more command is applied, only the timer of the session that it makes can be late, or be missing.
pub timed_next : (timers : Option Timers) (past : List Command) (clocks : List ℕ) (o : Office) (now : ℕ) (c : Command) → AreTimed timers clocks o (catalog_at past).sessions
    → (after : List Command) → after ≡ past ++ c ∷ [] → (at : List ℕ) → at ≡ clocks ++ now ∷ [] → AreTimedBut (made_ids c) timers at o (catalog_at after).sessions
timed_next None past clocks o now c t after log at times = tt
timed_next (Some timers) past clocks o now c t after log at times =
    subst (λ (l : List ℕ). Each (IsTimed (made_ids c) timers l o) (catalog_at after).sessions) (sym times)
    (subst (λ (l : List Command). Each (IsTimed (made_ids c) timers (clocks ++ now ∷ []) o) (catalog_at l).sessions) (sym log)
    (made_has (IsTimed (made_ids c) timers (clocks ++ now ∷ []) o) past c (λ s e off p. absurd (false≢true (sym off ∙ made_named (length past + 1) c s e)))
    (All-weaker (IsTimed [] timers clocks o) (IsTimed (made_ids c) timers (clocks ++ now ∷ []) o) (λ s f off p. later timers s.id (over_at clocks o s) (over_at (clocks ++ now ∷ []) o s) (over_grows now clocks o s) (f refl p)) (catalog_at past).sessions t)))

-- the same clocks, the same office, the same sessions
pub timed_along : (others : List ℕ) (timers : Option Timers) (clocks clocks' : List ℕ) (o o' : Office) (rows rows' : List SessionRow) → clocks ≡ clocks' → o ≡ o' → rows ≡ rows' → AreTimedBut others timers clocks o rows → AreTimedBut others timers clocks' o' rows'
timed_along others timers clocks clocks' o o' rows rows' k e s t =
    subst (λ (l : List SessionRow). AreTimedBut others timers clocks' o' l) s (subst (λ (w : Office). AreTimedBut others timers clocks' w rows) e (subst (λ (l : List ℕ). AreTimedBut others timers l o rows) k t))
