-- What the reader tells of a stream, step by step.
use Rattle.std.proofs.Common.{◌≡◌, ◌≢◌, ℕ, List, [], ◌∷◌, ◌++◌, take, refl, sym, ap, ◌∙◌, subst, append_assoc, append-nil}
use Rattle.std.specs.Prelude.{flat_map}
use Rattle.std.specs.List.{AllByRecursion}
use Rattle.http_wire.specs.declared.rejection.Rejection.{Rejection}
use Rattle.http_wire.specs.Stream.{Raw, Given, go_on, whole, Sent, frame, IsSent, Tail, no_head, refused, Refuses, IsTail, continues, given_of, given_behind, Messages}
use Rattle.http_wire.specs.Reader.{Behind, Waits, GoesOn, Gives}
use Rattle.http_wire.specs.State.{Read}
use Rattle.http_wire.proofs.Unique.{tail_once, splits_once, sent_no_tail, refuses_more}
use Rattle.http_wire.proofs.Exits.{nothing_yet}

-- the items of a tail
items_at : (bytes : List ℕ) (tail : Tail) (items : List Given) → IsTail tail bytes → Behind bytes items → given_behind tail ≡ items
items_at bytes tail items is b = ap given_behind (tail_once bytes tail b.tail is b.is) ∙ b.items_are

longer : (stream front old bytes : List ℕ) → stream ≡ front ++ old → stream ++ bytes ≡ front ++ (old ++ bytes)
longer stream front old bytes e = ap (λ (l : List ℕ). l ++ bytes) e ∙ append_assoc front old bytes

-- the same messages, and a longer rest
grows : (stream bytes new : List ℕ) (items more all : List Given) (held : List ℕ) → (r : Read stream items held) → new ≡ held ++ bytes → Behind new all → all ≡ given_behind r.tail ++ more
    → Read (stream ++ bytes) (items ++ more) new
grows stream bytes new items more all held r e b same = record {
  sent = r.sent;
  tail = b.tail;
  splits = record { parts = longer stream _ held bytes r.splits.parts ∙ ap (λ (l : List ℕ). flat_map frame r.sent ++ l) (sym e); each = r.splits.each; ends = b.is };
  items_are =
      ap (λ (l : List Given). l ++ more) r.items_are ∙ (append_assoc (flat_map given_of r.sent) (given_behind r.tail) more
      ∙ ap (λ (l : List Given). flat_map given_of r.sent ++ l) (sym same ∙ sym b.items_are));
  calm = b.calm;
}

pub read_more : (stream piece new : List ℕ) (items : List Given) (held : List ℕ) → Read stream items held → Waits held piece new → Read (stream ++ piece) items new
read_more stream piece new items held r w =
    let same = items_at held r.tail w.items r.splits.ends w.before in
    subst (λ (l : List Given). Read (stream ++ piece) l new) (append-nil items)
    (grows stream piece new items [] w.items held r w.adds w.after (sym same ∙ sym (append-nil (given_behind r.tail))))

pub read_continue : (stream bytes new : List ℕ) (items : List Given) (held : List ℕ) → Read stream items held → GoesOn held bytes new → Read (stream ++ bytes) (items ++ go_on ∷ []) new
read_continue stream bytes new items held r w =
    let same = items_at held r.tail [] r.splits.ends w.before in
    grows stream bytes new items (go_on ∷ []) (go_on ∷ []) held r w.adds w.after (sym (ap (λ (l : List Given). l ++ go_on ∷ []) same))

flat_snoc : {A : Type 0} (f : Sent → List A) (ss : List Sent) (s : Sent) → flat_map f (ss ++ s ∷ []) ≡ flat_map f ss ++ f s
flat_snoc f [] s = append-nil (f s)
flat_snoc f (t ∷ ss) s = ap (λ (l : List _). f t ++ l) (flat_snoc f ss s) ∙ sym (append_assoc (f t) (flat_map f ss) (f s))

all_snoc : (ss : List Sent) (s : Sent) → AllByRecursion IsSent ss → IsSent s → AllByRecursion IsSent (ss ++ s ∷ [])
all_snoc [] s all is = (is, tt)
all_snoc (t ∷ ss) s all is = (all.0, all_snoc ss s all.1 is)

pub read_message : (stream bytes : List ℕ) (m : Raw) (items : List Given) (held : List ℕ) → Read stream items held → Gives held bytes m → Read (stream ++ bytes) (items ++ whole m ∷ []) []
read_message stream bytes m items held r g =
    let same = items_at held r.tail (continues g.sent.facts) r.splits.ends g.before in
    record {
      sent = r.sent ++ g.sent ∷ [];
      tail = no_head;
      splits = record {
        parts = longer stream _ held bytes r.splits.parts ∙ (ap (λ (l : List ℕ). flat_map frame r.sent ++ l) (sym g.frame_is) ∙ (sym (flat_snoc frame r.sent g.sent) ∙ sym (append-nil _)));
        each = all_snoc r.sent g.sent r.splits.each g.is;
        ends = nothing_yet;
      };
      items_are =
          ap (λ (l : List Given). l ++ whole m ∷ []) r.items_are
          ∙ (append_assoc (flat_map given_of r.sent) (given_behind r.tail) (whole m ∷ [])
          ∙ (ap (λ (l : List Given). flat_map given_of r.sent ++ (l ++ whole m ∷ [])) same
          ∙ (ap (λ (w : Raw). flat_map given_of r.sent ++ (continues g.sent.facts ++ whole w ∷ [])) (sym g.raw_is)
          ∙ (sym (flat_snoc given_of r.sent g.sent) ∙ sym (append-nil _)))));
      calm = refl;
    }

pub read_refused : (stream piece : List ℕ) (e : Rejection) (items : List Given) (held : List ℕ) → Read stream items held → Behind held [] → Refuses e (held ++ piece) → Messages (stream ++ piece) items (refused e)
read_refused stream piece e items held r b refuses =
    let same = items_at held r.tail [] r.splits.ends b in
    record {
      sent = r.sent;
      rest = held ++ piece;
      splits = record { parts = longer stream _ held piece r.splits.parts; each = r.splits.each; ends = refuses };
      items_are = r.items_are ∙ ap (λ (l : List Given). flat_map given_of r.sent ++ l) same;
    }

pub stays_refused : (stream more : List ℕ) (e : Rejection) (items : List Given) → Messages stream items (refused e) → Messages (stream ++ more) items (refused e)
stays_refused stream more e items m = record {
  sent = m.sent;
  rest = m.rest ++ more;
  splits = record { parts = longer stream _ m.rest more m.splits.parts; each = m.splits.each; ends = refuses_more m.rest more e m.splits.ends };
  items_are = m.items_are;
}

pub messages_once : (stream : List ℕ) (a b : List Given) (t u : Tail) → Messages stream a t → Messages stream b u → (a ≡ b) × (t ≡ u)
messages_once stream a b t u x y =
    let same = splits_once stream x.sent y.sent t u x.rest y.rest x.splits y.splits in (
      x.items_are ∙ (ap (λ (l : List Sent). flat_map given_of l ++ given_behind t) same.0 ∙ (ap (λ (v : Tail). flat_map given_of y.sent ++ given_behind v) same.1 ∙ sym y.items_are)),
      same.1,
    )

-- ---- each item takes a byte

no_use : (old bytes : List ℕ) (used : ℕ) → used ≡ 0 → old ++ take used bytes ≡ old
no_use old bytes used e = ap (λ (n : ℕ). old ++ take n bytes) e ∙ append-nil old

cons_not_nil : (x : Given) (xs : List Given) → x ∷ xs ≡ [] → ⊥
cons_not_nil x xs e = cc e

pub continue_takes : (old piece new : List ℕ) (used : ℕ) → GoesOn old (take used piece) new → used ≢ 0
continue_takes old piece new used g e =
    let same : new ≡ old = g.adds ∙ no_use old piece used e in
    let none = items_at old g.after.tail [] (subst (IsTail g.after.tail) same g.after.is) g.before in
    cons_not_nil go_on [] (sym g.after.items_are ∙ none)

pub message_takes : (old piece : List ℕ) (m : Raw) (used : ℕ) → Gives old (take used piece) m → used ≢ 0
message_takes old piece m used g e =
    let same : old ≡ frame g.sent ++ [] = sym (no_use old piece used e) ∙ (sym g.frame_is ∙ sym (append-nil (frame g.sent))) in
    sent_no_tail g.sent [] g.before.tail g.is (subst (IsTail g.before.tail) same g.before.is)
