-- What was read of a journal's bytes is the record that they spell, and each fault is a record's own.
use Rattle.std.proofs.Common.{◌≡◌, ℕ, zero, suc, ◌+◌, ◌-◌, ◌/◌, ◌%◌, ◌<◌, ◌≤◌, nat_le, nat_lt, min, true, false, List, [], ◌∷◌, ◌++◌, length, take, drop, get_or, refl, sym, ap, subst, ◌∙◌, arith, inl, inr, Ok, Err, append_assoc, Option, Some, None}
use Rattle.std.specs.Prelude.{◌&&◌, ◌==◌}
use Rattle.std.proofs.lemmas.Bool.{cond-true, cond_both}
use Rattle.std.proofs.lemmas.Bool.Decides.{nat_tests}
use Rattle.std.proofs.lemmas.List.{length-append, length-take, append-nil, take_all, take-append-drop}
use Rattle.std.proofs.Math.Seq.{drop-append_seam, take-append_seam}
use Rattle.std.specs.List.{flat_map}
use Rattle.cat_model.specs.Spelling.{number_within, number_bytes, option_bytes}
use Rattle.cat_model.proofs.Formats.{fronts}
use Rattle.cat_model.proofs.SpellingFields.{number_field}
use Rattle.command_codec.specs.declared.fault.Fault.TheVariants.{Cut, Bad}
use Rattle.store_records.specs.declared.fault.RecordFault.TheVariants as answers
use Rattle.store_records.specs.declared.records.Record.{Record}
use Rattle.store_records.specs.declared.records.Record.TheVariants.{Vote, Store}
use Rattle.command_codec.specs.Reading.{Read, ◌>>=◌, number_at}
use Rattle.store_records.specs.Records.{entry_bytes, payload, record_bytes, IsPayload, HasSpelling}
use Rattle.store_records.specs.RecordReading.{payload_at, framed_by, framed_at, record_at, Begins, IsCut, IsWrong, UnlessMemory, answer_of}
use Rattle.command_codec.proofs.Grammar.{IsBytes, Opens, Word, Right, Single, suffix, prefix_cases}
use Rattle.command_codec.proofs.NumberReads.{Between, number_reads}
use Rattle.store_records.proofs.Certain.{read_whole, read_part, left_within}
use Rattle.store_records.proofs.PayloadReads.{Payload, payload_right, payload_field}

abbrev Size : ℕ → Type 0
Size = Between 3 100000000

abbrev SizeFormat : ℕ → List ℕ → Type 0
SizeFormat = Single number_bytes Size

size_right : (s : List ℕ) → IsBytes s → Right SizeFormat s (number_at 3 100000000 s)
size_right = (number_reads 3 100000000 (omega arith) (omega arith) (omega arith)).right

size_whole : (n : ℕ) → Size n → (rest : List ℕ) → IsBytes (number_bytes n ++ rest) → number_at 3 100000000 (number_bytes n ++ rest) ≡ Ok (n, rest)
size_whole = read_whole number_bytes Size (number_field Size) (number_at 3 100000000) size_right

size_part : (n : ℕ) → Size n → (next : ℕ) (more s : List ℕ) → number_bytes n ≡ s ++ next ∷ more → IsBytes s → number_at 3 100000000 s ≡ Err Cut
size_part = read_part number_bytes Size (number_field Size) (number_at 3 100000000) size_right

payload_whole : (r : Record) → IsPayload r → (rest : List ℕ) → IsBytes (payload r ++ rest) → payload_at (payload r ++ rest) ≡ Ok (r, rest)
payload_whole = read_whole payload IsPayload payload_field payload_at payload_right

payload_part : (r : Record) → IsPayload r → (next : ℕ) (more s : List ℕ) → payload r ≡ s ++ next ∷ more → IsBytes s → payload_at s ≡ Err Cut
payload_part = read_part payload IsPayload payload_field payload_at payload_right

pub front_bytes : (s t : List ℕ) → IsBytes (s ++ t) → IsBytes s
front_bytes [] t h = tt
front_bytes (b ∷ s) t h = (h.0, front_bytes s t h.1)

pub both_bytes : (s t : List ℕ) → IsBytes s → IsBytes t → IsBytes (s ++ t)
both_bytes [] t h g = g
both_bytes (b ∷ s) t h g = (h.0, both_bytes s t h.1 g)

-- ---- a payload has three bytes and more
some_within : (k n : ℕ) → 1 ≤ length (number_within k n)
unfolding number_within
some_within zero n = omega arith
some_within (suc k) n = cond_both (nat_lt n 128) (n ∷ []) ((128 + n % 128) ∷ number_within k (n / 128)) (λ l. 1 ≤ length l) (λ _. omega arith) (λ _. omega arith)

some_option : (o : Option ℕ) → 1 ≤ length (option_bytes number_bytes o)
some_option None = omega arith
some_option (Some x) = omega arith

pub long_payload : (r : Record) → 3 ≤ length (payload r)
long_payload (Vote term vote) =
    let a = number_bytes term in
    let b = option_bytes number_bytes vote in
    let sum : length (a ++ (b ++ [])) ≡ length a + length (b ++ []) = length-append a (b ++ []) in
    let more : length (b ++ []) ≡ length b + 0 = length-append b [] in
    let first : 1 ≤ length a = some_within 9 term in
    let second : 1 ≤ length b = some_option vote in
    omega arith
long_payload (Store index entries) =
    let a = number_bytes index in
    let n = number_bytes (length entries) in
    let f = flat_map entry_bytes entries in
    let b = n ++ f in
    let sum : length (a ++ (b ++ [])) ≡ length a + length (b ++ []) = length-append a (b ++ []) in
    let more : length (b ++ []) ≡ length b + 0 = length-append b [] in
    let list : length b ≡ length n + length f = length-append n f in
    let first : 1 ≤ length a = some_within 9 index in
    let second : 1 ≤ length n = some_within 9 (length entries) in
    omega arith

-- ---- what the frame says
record Framed (n : ℕ) (rest : List ℕ) (r : Record) (behind : List ℕ) : Type 0 where
  pub fields : IsPayload r
  pub long : length (payload r) ≡ n
  pub is : rest ≡ payload r ++ behind

record FrameCut (n : ℕ) (rest : List ℕ) : Type 0 where
  pub short : length rest < n
  pub opens : Opens (Word Payload) rest

abbrev FrameSays : ℕ → List ℕ → Read Record → Type 0
FrameSays n rest (Ok y) = Framed n rest y.0 y.1
FrameSays n rest (Err Cut) = FrameCut n rest
FrameSays n rest (Err (Bad left)) = left ≤ length rest

none_left : (t : List ℕ) → length t ≡ 0 → t ≡ []
none_left [] h = refl
none_left (x ∷ t) h = absurd (omega arith)

both_tests : (a n m : ℕ) → ((a == 0) && nat_le n m) ≡ true → (a ≡ 0) × (n ≤ m)
both_tests a n m h = grind (arith, nat_tests)

below_test : (m n : ℕ) → nat_lt m n ≡ true → m < n
below_test m n h = grind (arith, nat_tests)

above_test : (m n : ℕ) → nat_lt m n ≡ false → n ≤ m
above_test m n h = grind (arith, nat_tests)

frame_says : (n : ℕ) (rest : List ℕ) → 3 ≤ n → (out : Read Record) → Right Payload (take n rest) out → FrameSays n rest (framed_by n rest out)
frame_says n rest from (Ok x) found =
    let is : take n rest ≡ payload x.0 ++ x.1 = found.is ∙ ap (λ l. l ++ x.1) found.spelled.is in
    let sum : min n (length rest) ≡ length (payload x.0) + length x.1 = sym (length-take n rest) ∙ ap length is ∙ length-append (payload x.0) x.1 in
    cond_both ((length x.1 == 0) && nat_le n (length rest)) (Ok (x.0, drop n rest)) (Err (Bad (length x.1 + 1 + (length rest - n)))) (FrameSays n rest)
    (λ yes.
    let tests = both_tests (length x.1) n (length rest) yes in
    let none : length x.1 ≡ 0 = tests.0 in
    let there : n ≤ length rest = tests.1 in
    let front : take n rest ≡ payload x.0 = is ∙ ap (λ l. payload x.0 ++ l) (none_left x.1 none) ∙ append-nil (payload x.0) in
    record {
      fields = found.spelled.valid;
      long = omega arith;
      is = sym (take-append-drop n rest) ∙ ap (λ l. l ++ drop n rest) front;
    })
    (λ no. let long : 3 ≤ length (payload x.0) = long_payload x.0 in omega arith)
frame_says n rest from (Err Cut) o =
    cond_both (nat_lt (length rest) n) (Err Cut) (Err (Bad (1 + (length rest - n)))) (FrameSays n rest)
    (λ yes.
    let short : length rest < n = below_test (length rest) n yes in
    record { short = short; opens = subst (λ (l : List ℕ). Opens (Word Payload) l) (take_all n rest (omega arith)) o })
    (λ no. let there : n ≤ length rest = above_test (length rest) n no in omega arith)
frame_says n rest from (Err (Bad left)) o =
    let within : left ≤ length (take n rest) = left_within Payload (take n rest) left o in
    let sum : length (take n rest) ≡ min n (length rest) = length-take n rest in
    omega arith

-- ---- what was read of a record
pub record Spells (r : Record) (rest s : List ℕ) : Type 0 where
  pub bounds : HasSpelling r
  pub is : s ≡ record_bytes r ++ rest

abbrev pub Says : Read Record → List ℕ → Type 0
Says (Ok x) s = Spells x.0 x.1 s
Says (Err Cut) s = IsCut s
Says (Err (Bad left)) s = left ≤ length s

after_size : (n : ℕ) (rest s : List ℕ) → Size n → s ≡ number_bytes n ++ rest → (out : Read Record) → FrameSays n rest out → Says out s
after_size n rest s size e (Ok y) f =
    let to : n ≤ 100000000 = size.to in
    let long : length (payload y.0) ≡ n = f.long in
    record {
      bounds = record { fields = f.fields; short = omega arith };
      is = e ∙ ap (λ l. number_bytes n ++ l) f.is ∙ ap (λ (m : ℕ). number_bytes m ++ (payload y.0 ++ y.1)) (sym f.long) ∙ sym (append_assoc (number_bytes (length (payload y.0))) (payload y.0) y.1);
    }
after_size n rest s size e (Err Cut) f = inr (record {
  length_is = n;
  from = size.from;
  to = size.to;
  front = rest;
  is = e;
  short = f.short;
  of = f.opens.spelled.of;
  bounds = f.opens.spelled.is.valid;
  next = f.opens.next;
  more = f.opens.more;
  goes_on = sym f.opens.spelled.is.is;
})
after_size n rest s size e (Err (Bad left)) f =
    let within : left ≤ length rest = f in
    let sum : length s ≡ length (number_bytes n) + length rest = ap length e ∙ length-append (number_bytes n) rest in
    omega arith

by_size : (s : List ℕ) → IsBytes s → (out : Read ℕ) → Right SizeFormat s out → Says (out >>= λ n. framed_at n.0 n.1) s
unfolding framed_at
by_size s bytes (Ok n) found =
    let is : s ≡ number_bytes n.0 ++ n.1 = found.is ∙ ap (λ l. l ++ n.1) found.spelled.is in
    let rest : IsBytes n.1 = suffix (number_bytes n.0) n.1 (subst IsBytes is bytes) in
    let front : IsBytes (take n.0 n.1) = front_bytes (take n.0 n.1) (drop n.0 n.1) (subst IsBytes (sym (take-append-drop n.0 n.1)) rest) in
    after_size n.0 n.1 s found.spelled.valid is (framed_by n.0 n.1 (payload_at (take n.0 n.1)))
    (frame_says n.0 n.1 found.spelled.valid.from (payload_at (take n.0 n.1)) (payload_right (take n.0 n.1) front))
by_size s bytes (Err Cut) o = inl (record {
  length_is = o.spelled.of;
  from = o.spelled.is.valid.from;
  to = o.spelled.is.valid.to;
  next = o.next;
  more = o.more;
  is = sym o.spelled.is.is;
})
by_size s bytes (Err (Bad left)) o = left_within SizeFormat s left o

pub record_says : (s : List ℕ) → IsBytes s → Says (record_at s) s
unfolding record_at
record_says s bytes = by_size s bytes (number_at 3 100000000 s) (size_right s bytes)

-- ---- and the other way
joined : (n : ℕ) (rest s : List ℕ) → Size n → s ≡ number_bytes n ++ rest → IsBytes s → record_at s ≡ framed_at n rest
unfolding record_at
joined n rest s size e bytes =
    ap (λ (out : Read ℕ). out >>= λ m. framed_at m.0 m.1) (ap (λ l. number_at 3 100000000 l) e ∙ size_whole n size rest (subst IsBytes e bytes))

size_of : (r : Record) → HasSpelling r → Size (length (payload r))
size_of r h = record { from = long_payload r; to = h.short }

framed_whole : (r : Record) (rest : List ℕ) → IsPayload r → IsBytes (payload r) → framed_at (length (payload r)) (payload r ++ rest) ≡ Ok (r, rest)
unfolding framed_at
framed_whole r rest v bytes =
    let p = payload r in
    let front : take (length p) (p ++ rest) ≡ p ++ [] = take-append_seam p rest ∙ sym (append-nil p) in
    let read : payload_at (take (length p) (p ++ rest)) ≡ Ok (r, []) = ap payload_at front ∙ payload_whole r v [] (subst IsBytes (sym (append-nil p)) bytes) in
    let sum : length (p ++ rest) ≡ length p + length rest = length-append p rest in
    ap (framed_by (length p) (p ++ rest)) read
    ∙ cond-true (nat_le (length p) (length (p ++ rest))) (Ok (r, drop (length p) (p ++ rest))) (Err (Bad (0 + 1 + (length (p ++ rest) - length p)))) (le_is (length p) (length (p ++ rest)) (omega arith))
    ∙ ap (λ l. Ok (r, l)) (drop-append_seam p rest)
  where
    le_is : (a b : ℕ) → a ≤ b → nat_le a b ≡ true
    le_is a b h = grind (arith, nat_tests)

-- a record that stands there is read
pub record_whole : (r : Record) → HasSpelling r → (rest : List ℕ) → IsBytes (record_bytes r ++ rest) → record_at (record_bytes r ++ rest) ≡ Ok (r, rest)
record_whole r h rest bytes =
    let p = payload r in
    let regroup : record_bytes r ++ rest ≡ number_bytes (length p) ++ (p ++ rest) = append_assoc (number_bytes (length p)) p rest in
    let after : IsBytes (p ++ rest) = suffix (number_bytes (length p)) (p ++ rest) (subst IsBytes regroup bytes) in
    joined (length p) (p ++ rest) (record_bytes r ++ rest) (size_of r h) regroup bytes ∙ framed_whole r rest h.fields (front_bytes p rest after)

framed_part : (n : ℕ) (front : List ℕ) (r : Record) (next : ℕ) (more : List ℕ) → length front < n → IsPayload r → payload r ≡ front ++ next ∷ more → IsBytes front → framed_at n front ≡ Err Cut
unfolding framed_at
framed_part n front r next more short v e bytes =
    ap (framed_by n front) (ap payload_at (take_all n front (omega arith)) ∙ payload_part r v next more front e bytes)
    ∙ cond-true (nat_lt (length front) n) (Err Cut) (Err (Bad (1 + (length front - n)))) (lt_is (length front) n short)
  where
    lt_is : (a b : ℕ) → a < b → nat_lt a b ≡ true
    lt_is a b h = grind (arith, nat_tests)

-- bytes that are cut off within a record are told as such
pub record_cut : (s : List ℕ) → IsBytes s → IsCut s → record_at s ≡ Err Cut
unfolding record_at
record_cut s bytes (inl c) = ap (λ (out : Read ℕ). out >>= λ m. framed_at m.0 m.1) (size_part c.length_is (record { from = c.from; to = c.to }) c.next c.more s c.is bytes)
record_cut s bytes (inr c) =
    joined c.length_is c.front s (record { from = c.from; to = c.to }) c.is bytes
    ∙ framed_part c.length_is c.front c.of c.next c.more c.short c.bounds c.goes_on (suffix (number_bytes c.length_is) c.front (subst IsBytes c.is bytes))

-- the front of a record's spelling is cut off within it
pub front_is_cut : (r : Record) → HasSpelling r → (s : List ℕ) (next : ℕ) (more : List ℕ) → record_bytes r ≡ s ++ next ∷ more → IsCut s
front_is_cut r h s next more e =
    let p = payload r in
    let n = number_bytes (length p) in
    let size = size_of r h in
    elim (prefix_cases n s p next more e) [
      | inl u ↦
          (let split : n ++ p ≡ n ++ (u.0 ++ next ∷ more) = e ∙ ap (λ l. l ++ next ∷ more) u.1 ∙ append_assoc n u.0 (next ∷ more) in
          let rest : p ≡ u.0 ++ next ∷ more = (fronts n n p (u.0 ++ next ∷ more) refl split).1 in
          let long : length p ≡ length u.0 + suc (length more) = ap length rest ∙ length-append u.0 (next ∷ more) in
          inr (record {
            length_is = length p;
            from = size.from;
            to = size.to;
            front = u.0;
            is = u.1;
            short = omega arith;
            of = r;
            bounds = h.fields;
            next = next;
            more = more;
            goes_on = rest;
          }))
      | inr t ↦ inl (record { length_is = length p; from = size.from; to = size.to; next = next; more = t.0; is = t.1 })
    ]

-- ---- each answer
pub begins_read : (s : List ℕ) → IsBytes s → (r : Record) (size : ℕ) (b : Begins r size s) → record_at s ≡ Ok (r, b.rest)
begins_read s bytes r size b = ap record_at b.is ∙ record_whole r b.bounds b.rest (subst IsBytes b.is bytes)

pub small_bytes : (s : List ℕ) → ((i : ℕ) → get_or s i 0 < 256) → IsBytes s
small_bytes [] h = tt
small_bytes (b ∷ s) h = (h 0, small_bytes s (λ i. h (suc i)))

pub front_is_bytes : (n : ℕ) (s : List ℕ) → IsBytes s → IsBytes (take n s)
front_is_bytes n s bytes = front_bytes (take n s) (drop n s) (subst IsBytes (sym (take-append-drop n s)) bytes)

pub says_of : (s : List ℕ) → IsBytes s → (out : Read Record) → record_at s ≡ out → Says out s
says_of s bytes out e = subst (λ (o : Read Record). Says o s) e (record_says s bytes)

pub rest_within : (s : List ℕ) (r : Record) (rest : List ℕ) → Spells r rest s → length rest ≤ length s
rest_within s r rest w =
    let sum : length s ≡ length (record_bytes r) + length rest = ap length w.is ∙ length-append (record_bytes r) rest in
    omega arith

pub begins_of : (s : List ℕ) (r : Record) (rest : List ℕ) → Spells r rest s → Begins r (length s - length rest) s
begins_of s r rest w =
    let sum : length s ≡ length (record_bytes r) + length rest = ap length w.is ∙ length-append (record_bytes r) rest in
    record { bounds = w.bounds; rest = rest; is = w.is; sized = omega arith }

pub when_ok : (s : List ℕ) → IsBytes s → (out : Read Record) → record_at s ≡ out → (found : Record) (size : ℕ) → Begins found size s → UnlessMemory (answer_of (length s) out) (Ok (found, size))
when_ok s bytes out e found size b =
    let read : out ≡ Ok (found, b.rest) = sym e ∙ begins_read s bytes found size b in
    let sum : length s ≡ length (record_bytes found) + length b.rest = ap length b.is ∙ length-append (record_bytes found) b.rest in
    let same : size ≡ length (record_bytes found) = b.sized in
    let sizes : length s - length b.rest ≡ size = omega arith in
    inl (ap (answer_of (length s)) read ∙ ap (λ (n : ℕ). Ok (found, n)) sizes)

pub when_cut : (s : List ℕ) → IsBytes s → (out : Read Record) → record_at s ≡ out → IsCut s → UnlessMemory (answer_of (length s) out) (Err answers.Cut)
when_cut s bytes out e c = inl (ap (answer_of (length s)) (sym e ∙ record_cut s bytes c))

pub wrong_of : (s : List ℕ) → IsBytes s → (left : ℕ) → record_at s ≡ Err (Bad left) → IsWrong s
wrong_of s bytes left e = record {
  none = λ r size b. let other : record_at s ≡ Ok (r, b.rest) = begins_read s bytes r size b in cc;
  not_cut = λ c. let other : record_at s ≡ Err Cut = record_cut s bytes c in cc;
}

-- ---- what the frame's reader has to know of its parts
pub room_before : (s : List ℕ) → IsBytes s → (left : ℕ) → payload_at s ≡ Err (Bad left) → left ≤ length s
room_before s bytes left e = left_within Payload s left (subst (λ (out : Read Record). Right Payload s out) e (payload_right s bytes))
