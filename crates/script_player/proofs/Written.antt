-- What is written so far of a text.
use Rattle.std.proofs.Common.{◌≡◌, ℕ, List, [], ◌++◌, Option, None, Some, refl, sym, ap, ◌∙◌, append_assoc, append-nil, take, drop, take-append-drop}
use Rattle.std.specs.Io.KnownBytes.{Appends, Keeps}
use Rattle.std.proofs.KnownBytes.{Appends-nil, Appends-trans, Appends-kept}
use Rattle.script_player.specs.Run.{WritesPart}

-- a write that took nothing keeps what is held
pub keeps_of_nothing : (a b : Option (List ℕ)) (piece : List ℕ) → Appends a b (take 0 piece) → Keeps a b
keeps_of_nothing None b piece h = tt
keeps_of_nothing (Some x) None piece h = h
keeps_of_nothing (Some x) (Some y) piece h = h ∙ append-nil x

-- a first part, and then a write that failed
pub part_kept : (a b c : Option (List ℕ)) (n : ℕ) (piece : List ℕ) → Appends a b (take n piece) → Keeps b c → WritesPart a c piece
part_kept a b c n piece written kept =
    record { front = take n piece; rest = drop n piece; written = Appends-kept a b c (take n piece) written kept; splits = sym (take-append-drop n piece) }

pub part_none : (a : Option (List ℕ)) (text : List ℕ) → WritesPart a a text
part_none a text = record { front = []; rest = text; written = Appends-nil a; splits = refl }

pub part_front : (a b : Option (List ℕ)) (text later : List ℕ) → WritesPart a b text → WritesPart a b (text ++ later)
part_front a b text later part =
    record { front = part.front; rest = part.rest ++ later; written = part.written; splits = ap (λ t. t ++ later) part.splits ∙ append_assoc part.front part.rest later }

pub part_after : (a b c : Option (List ℕ)) (text later : List ℕ) → Appends a b text → WritesPart b c later → WritesPart a c (text ++ later)
part_after a b c text later written part =
    record {
      front = text ++ part.front;
      rest = part.rest;
      written = Appends-trans a b c text part.front written part.written;
      splits = ap (λ t. text ++ t) part.splits ∙ sym (append_assoc text part.front part.rest);
    }

-- what is written so far, of what is to be written in all, and what comes later
pub record Written (old new : Option (List ℕ)) (all later : List ℕ) : Type 0 where
  pub front : List ℕ
  pub appended : Appends old new front
  pub joined : all ≡ front ++ later

pub Written-more : (a b c : Option (List ℕ)) (all piece later : List ℕ) → Written a b all (piece ++ later) → Appends b c piece → Written a c all later
Written-more a b c all piece later written more =
    record {
      front = written.front ++ piece;
      appended = Appends-trans a b c written.front piece written.appended more;
      joined = written.joined ∙ sym (append_assoc written.front piece later);
    }

pub Written-part : (a b c : Option (List ℕ)) (all piece later : List ℕ) → Written a b all (piece ++ later) → WritesPart b c piece → WritesPart a c all
Written-part a b c all piece later written part =
    rw written.joined (part_after a b c written.front (piece ++ later) written.appended (part_front b c piece later part))
