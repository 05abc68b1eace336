-- Reading a journal part by part.
use Rattle.std.proofs.Common.{◌≡◌, ℕ, suc, ◌+◌, ◌-◌, ◌<◌, ◌≤◌, nat_lt, true, false, List, [], ◌∷◌, ◌++◌, length, take, drop, get_or, refl, sym, ap, subst, ◌∙◌, arith, append_assoc, ◌⊎◌, inl, inr, Option, Some, None, Ok}
use Rattle.std.proofs.lemmas.List.Elements.{recursion_from_All}
use Rattle.server_journal.specs.Journals.{GivesAt, GivesBytes}
use Rattle.std.proofs.lemmas.Bool.{cond-false}
use Rattle.std.proofs.lemmas.Bool.Decides.{nat_tests}
use Rattle.std.proofs.lemmas.List.{length-append, length-drop, length-take-le, take-append-drop, take_at, append-nil}
use Rattle.std.proofs.Math.Seq.{take-append-add, drop-append_seam}
use Rattle.cat_model.specs.declared.kept.Kept.{Kept}
use Rattle.cat_model.specs.Keeping.{nothing_kept}
use Rattle.store_records.specs.declared.records.Record.{Record}
use Rattle.store_records.specs.Records.{record_bytes}
use Rattle.store_records.specs.RecordReading.{AreBytes, Begins, IsCut, IsWrong}
use Rattle.command_codec.proofs.Grammar.{IsBytes, suffix}
use Rattle.store_records.proofs.RecordReads.{front_bytes, both_bytes}
use Rattle.file_keeper.specs.Journal.{may_make, made, replay, kept_of, Leads, IsFound, IsNext}
use Rattle.file_keeper.proofs.Extending.{wrong_after}
use Rattle.file_keeper.proofs.Replaying.{some_bytes, replay_record, replay_cut, replay_wrong, leads_none, leads_one, leads_on, nothing_is_cut}

pub bytes_by : (s : List ℕ) → ((i : ℕ) → get_or s i 0 < 256) → IsBytes s
bytes_by [] h = tt
bytes_by (b ∷ s) h = (h 0, bytes_by s (λ i. h (suc i)))

pub front_is_bytes : (n : ℕ) (s : List ℕ) → IsBytes s → IsBytes (take n s)
front_is_bytes n s bytes = front_bytes (take n s) (drop n s) (subst IsBytes (sym (take-append-drop n s)) bytes)

pub rest_is_bytes : (n : ℕ) (s : List ℕ) → IsBytes s → IsBytes (drop n s)
rest_is_bytes n s bytes = suffix (take n s) (drop n s) (subst IsBytes (sym (take-append-drop n s)) bytes)

-- ---- one record of a window
pub size_fits : (used size : ℕ) (s : List ℕ) (r : Record) → used ≤ length s → Begins r size (drop used s) → (3 ≤ size) × (used + size ≤ length s)
size_fits used size s r within b =
    let long : 3 ≤ length (record_bytes r) = some_bytes r in
    let same : size ≡ length (record_bytes r) = b.sized in
    let sum : length (drop used s) ≡ length (record_bytes r) + length b.rest = ap length b.is ∙ length-append (record_bytes r) b.rest in
    let left : length (drop used s) ≡ length s - used = length-drop used s in
    (omega arith, omega arith)

taken_more : (used size : ℕ) (s : List ℕ) (r : Record) → used ≤ length s → Begins r size (drop used s) → take (used + size) s ≡ take used s ++ record_bytes r
taken_more used size s r within b =
    let front = take used s in
    let at : length front ≡ used = length-take-le used s within in
    let split : s ≡ front ++ drop used s = sym (take-append-drop used s) in
    ap (take (used + size)) split
    ∙ ap (λ (n : ℕ). take (n + size) (front ++ drop used s)) (sym at)
    ∙ take-append-add front (drop used s) size
    ∙ ap (λ l. front ++ l) (ap (take size) b.is ∙ take_at (record_bytes r) b.rest size (sym b.sized))

pub leads_more : (k log : Kept) (used size : ℕ) (s : List ℕ) (r : Record) → IsBytes s → used ≤ length s → Leads k (take used s) log → Begins r size (drop used s) → may_make r log ≡ true
    → Leads k (take (used + size) s) (made r log)
leads_more k log used size s r bytes within l b may =
    let rest : IsBytes (record_bytes r ++ b.rest) = subst IsBytes b.is (rest_is_bytes used s bytes) in
    subst (λ (t : List ℕ). Leads k t (made r log)) (sym (taken_more used size s r within b))
    (leads_on k log (made r log) (take used s) (record_bytes r) l (leads_one log r b.bounds (front_bytes (record_bytes r) b.rest rest) may))

after_front : (k log : Kept) (used : ℕ) (s rest : List ℕ) → IsBytes s → IsBytes rest → Leads k (take used s) log → replay k (s ++ rest) ≡ replay log (drop used s ++ rest)
after_front k log used s rest bytes more l =
    ap (replay k) (ap (λ t. t ++ rest) (sym (take-append-drop used s)) ∙ append_assoc (take used s) (drop used s) rest)
    ∙ l.each (drop used s ++ rest) (both_bytes (drop used s) rest (rest_is_bytes used s bytes) more)

-- a call that may not be made
pub refused : (k log : Kept) (used size : ℕ) (s : List ℕ) (r : Record) → IsBytes s → Leads k (take used s) log → Begins r size (drop used s) → may_make r log ≡ false
    → (rest : List ℕ) → AreBytes rest → replay k (s ++ rest) ≡ None
refused k log used size s r bytes l b may rest more =
    let regroup : drop used s ++ rest ≡ record_bytes r ++ (b.rest ++ rest) = ap (λ t. t ++ rest) b.is ∙ append_assoc (record_bytes r) b.rest rest in
    let all : IsBytes (record_bytes r ++ (b.rest ++ rest)) = subst IsBytes regroup (both_bytes (drop used s) rest (rest_is_bytes used s bytes) more) in
    after_front k log used s rest bytes more l ∙ ap (replay log) regroup ∙ replay_record log r (b.rest ++ rest) b.bounds all ∙ cond-false (may_make r log) (replay (made r log) (b.rest ++ rest)) None may

-- bytes that are no record
pub wrong : (k log : Kept) (used : ℕ) (s : List ℕ) → IsBytes s → Leads k (take used s) log → IsWrong (drop used s) → (rest : List ℕ) → AreBytes rest → replay k (s ++ rest) ≡ None
wrong k log used s bytes l w rest more =
    after_front k log used s rest bytes more l
    ∙ replay_wrong log (drop used s ++ rest) (both_bytes (drop used s) rest (rest_is_bytes used s bytes) more) (wrong_after (drop used s) rest w)

-- ---- the windows
-- whole records that were used, the window, and what was not read yet
pub record Going (b : List ℕ) (kept : Kept) (at : ℕ) (window : List ℕ) : Type 0 where
  pub front : List ℕ
  pub more : List ℕ
  pub is : b ≡ front ++ (window ++ more)
  pub at_is : at ≡ length front + length window
  pub leads : Leads nothing_kept front kept
  pub bytes : (window ≡ []) ⊎ AreBytes b

pub going_start : (b : List ℕ) → Going b nothing_kept 0 []
going_start b = record { front = []; more = b; is = refl; at_is = refl; leads = leads_none nothing_kept; bytes = inl refl }

pub going_other : (b : List ℕ) (kept : Kept) (at : ℕ) (window : List ℕ) → Going b kept at window → ((rest : List ℕ) → AreBytes rest → replay kept (window ++ rest) ≡ None) → kept_of b ≡ None
going_other b kept at window g other = elim g.bytes [
  | inl none ↦ absurd
      (let no : replay kept ([] ++ []) ≡ None = ap (λ w. replay kept (w ++ [])) (sym none) ∙ other [] tt in
      let yes : replay kept ([] ++ []) ≡ Some kept = replay_cut kept [] tt nothing_is_cut in
      let both : None ≡ Some kept = sym no ∙ yes in
      cc)
  | inr bytes ↦
      (let all : IsBytes (window ++ g.more) = suffix g.front (window ++ g.more) (subst IsBytes g.is bytes) in
      ap kept_of g.is ∙ g.leads.each (window ++ g.more) all ∙ other g.more (suffix window g.more all))
]

-- what is left of the journal
more_is : (b : List ℕ) (kept : Kept) (at : ℕ) (window : List ℕ) (g : Going b kept at window) → drop at b ≡ g.more
more_is b kept at window g =
    let front = g.front ++ window in
    let is : b ≡ front ++ g.more = g.is ∙ sym (append_assoc g.front window g.more) in
    let long : at ≡ length front = g.at_is ∙ sym (length-append g.front window) in
    ap (λ (n : ℕ). drop n b) long ∙ ap (drop (length front)) is ∙ drop-append_seam front g.more

record Used (b : List ℕ) (kept : Kept) (at : ℕ) (window : List ℕ) (used : ℕ) (more : List ℕ) : Type 0 where
  pub front : List ℕ
  pub is : b ≡ front ++ (drop used window ++ more)
  pub long : length front + length (drop used window) ≡ at
  pub leads : Leads nothing_kept front kept

use_up : (b : List ℕ) (log kept : Kept) (at : ℕ) (window : List ℕ) (used : ℕ) (g : Going b log at window) → used ≤ length window → Leads log (take used window) kept → Used b kept at window used g.more
use_up b log kept at window used g within l =
    let f = take used window in
    let r = drop used window in
    let split : f ++ r ≡ window = take-append-drop used window in
    let taken : length f ≡ used = length-take-le used window within in
    let left : length r ≡ length window - used = length-drop used window in
    let sum : length (g.front ++ f) ≡ length g.front + length f = length-append g.front f in
    let at_is : at ≡ length g.front + length window = g.at_is in
    record {
      front = g.front ++ f;
      is = g.is ∙ ap (λ w. g.front ++ (w ++ g.more)) (sym split) ∙ ap (λ w. g.front ++ w) (append_assoc f r g.more) ∙ sym (append_assoc g.front f (r ++ g.more));
      long = omega arith;
      leads = leads_on nothing_kept log kept g.front f g.leads l;
    }

pub going_next : (b : List ℕ) (log kept : Kept) (at : ℕ) (window : List ℕ) (used : ℕ) (next : List ℕ) → Going b log at window → used ≤ length window → Leads log (take used window) kept
    → IsNext b at (drop used window) next → (after : ℕ) → after ≡ at + (length next - length (drop used window)) → Going b kept after next
going_next b log kept at window used next g within l n after e =
    let u = use_up b log kept at window used g within l in
    let more : g.more ≡ n.got ++ n.behind = sym (more_is b log at window g) ∙ n.from in
    let sum : length next ≡ length (drop used window) + length n.got = ap length n.is ∙ length-append (drop used window) n.got in
    let long : length u.front + length (drop used window) ≡ at = u.long in
    record {
      front = u.front;
      more = n.behind;
      is = u.is ∙ ap (λ m. u.front ++ (drop used window ++ m)) more ∙ ap (λ m. u.front ++ m) (sym (append_assoc (drop used window) n.got n.behind)) ∙ ap (λ w. u.front ++ (w ++ n.behind)) (sym n.is);
      at_is = omega arith;
      leads = u.leads;
      bytes = inr n.each;
    }

none_left : {A : Type 0} (t : List A) → length t ≡ 0 → t ≡ []
none_left [] h = refl
none_left (x ∷ t) h = absurd (omega arith)

no_more : (n : ℕ) → nat_lt 0 n ≡ false → n ≡ 0
no_more n h = grind (arith, nat_tests)

pub found_all : (b : List ℕ) (log kept : Kept) (at : ℕ) (window : List ℕ) (used : ℕ) (next : List ℕ) → Going b log at window → used ≤ length window → Leads log (take used window) kept
    → IsCut (drop used window) → IsNext b at (drop used window) next → length next - length (drop used window) ≡ 0
    → (rest : ℕ) → rest ≡ length (drop used window) → (end : ℕ) → end ≡ at - rest → IsFound b kept end (nat_lt 0 rest)
found_all b log kept at window used next g within l cut n none rest is end end_is =
    let u = use_up b log kept at window used g within l in
    let sum : length next ≡ length (drop used window) + length n.got = ap length n.is ∙ length-append (drop used window) n.got in
    let no_got : n.got ≡ [] = none_left n.got (omega arith) in
    let past : length b ≤ at = n.end no_got in
    let long : length u.front + length (drop used window) ≡ at = u.long in
    let b_long : length b ≡ length u.front + length (drop used window ++ g.more) = ap length u.is ∙ length-append u.front (drop used window ++ g.more) in
    let more_long : length (drop used window ++ g.more) ≡ length (drop used window) + length g.more = length-append (drop used window) g.more in
    let no_more_bytes : g.more ≡ [] = none_left g.more (omega arith) in
    let is_all : b ≡ u.front ++ drop used window = u.is ∙ ap (λ m. u.front ++ (drop used window ++ m)) no_more_bytes ∙ ap (λ m. u.front ++ m) (append-nil (drop used window)) in
    let rest_bytes : IsBytes (drop used window) = suffix u.front (drop used window) (subst IsBytes is_all n.each) in
    record {
      front = u.front;
      rest = drop used window;
      is = is_all;
      end_is = omega arith;
      leads = u.leads;
      all = ap kept_of is_all ∙ u.leads.each (drop used window) rest_bytes ∙ replay_cut kept (drop used window) rest_bytes cut;
      no_tail = λ h. none_left (drop used window) (sym is ∙ no_more rest h);
    }

-- ---- more of the journal
pub given_some : (E : Type 0) (at count : ℕ) (into : List ℕ) (o : Option (List ℕ)) → GivesAt {E = E} at o (Ok count) into → (b : List ℕ) → o ≡ Some b → GivesBytes at b count into
given_some E at count into o given b e = subst (λ (x : Option (List ℕ)). GivesAt {E = E} at x (Ok count) into) e given

pub next_is : (b : List ℕ) (at : ℕ) (rest next : List ℕ) (count : ℕ) (into : List ℕ) → GivesBytes at b count into → 0 < length into → next ≡ rest ++ take count into → IsNext b at rest next
next_is b at rest next count into given room is =
    let long : length (take count (drop at b)) ≡ count = length-take-le count (drop at b) given.there in
    record {
      got = take count (drop at b);
      behind = drop count (drop at b);
      is = is ∙ ap (λ l. rest ++ l) given.given;
      from = sym (take-append-drop count (drop at b));
      end = λ none. given.end (sym long ∙ ap length none) room;
      each = recursion_from_All (λ x. x < 256) b given.each;
    }
