-- What was written to a link so far.
use Rattle.std.proofs.Common.{◌≡◌, ℕ, ◌≤◌, List, [], ◌++◌, length, take, drop, Option, None, Some, Result, Ok, Err, refl, sym, ap, ◌∙◌, append_assoc, append-nil, take-append-drop, arith}
use Rattle.std.specs.Io.KnownBytes.{append_known}
use Rattle.std.proofs.Math.Seq.{drop-length}
use Rattle.outside.specs.Causes.{Rose}
use Rattle.outside.specs.declared.faults.KeepFail.{KeepFail}
use Rattle.serve_outside.specs.Links.{LinkState, Writes}
use Rattle.node_connections.specs.declared.cause.PeerCause.{PeerCause}
use Rattle.node_connections.specs.declared.cause.PeerCause.TheVariants as cause
use Rattle.node_connections.specs.Stages.{IsAfterWrite, StopsBy, Wrote}

pub known_nil : (o : Option (List ℕ)) → append_known o [] ≡ o
known_nil None = refl
known_nil (Some xs) = ap Some (append-nil xs)

pub known_twice : (o : Option (List ℕ)) (xs ys : List ℕ) → append_known (append_known o xs) ys ≡ append_known o (xs ++ ys)
known_twice None xs ys = refl
known_twice (Some zs) xs ys = ap Some (append_assoc zs xs ys)

pub known_on : (a b c : Option (List ℕ)) (xs ys : List ℕ) → b ≡ append_known a xs → c ≡ append_known b ys → c ≡ append_known a (xs ++ ys)
known_on a b c xs ys e f = f ∙ (ap (λ (o : Option (List ℕ)). append_known o ys) e ∙ known_twice a xs ys)

pub rose_from : (a b c : ℕ) → a ≤ b → Rose b c → Rose a c
rose_from a b c l r = omega (arith, r)

pub rose_to : (a b c : ℕ) → Rose a b → b ≤ c → Rose a c
rose_to a b c r l = omega (arith, r)

pub stops_from : (why : PeerCause) (a b c : ℕ) → a ≤ b → StopsBy why b c → StopsBy why a c
stops_from cause.WriteFault a b c l s = rose_from a b c l s
stops_from cause.Memory a b c l s = s
stops_from cause.Closed a b c l s = s
stops_from (cause.Bad at) a b c l s = s
stops_from cause.ReadFault a b c l s = s

pub after_none : (link : LinkState) → IsAfterWrite link link
after_none link = record { number = refl; heard = refl; ends = refl; read_faults = refl; write_faults = omega arith; shut = refl }

pub after_after : (a b c : LinkState) → IsAfterWrite a b → IsAfterWrite b c → IsAfterWrite a c
after_after a b c x y = record {
  number = y.number ∙ x.number;
  heard = y.heard ∙ x.heard;
  ends = y.ends ∙ x.ends;
  read_faults = y.read_faults ∙ x.read_faults;
  write_faults = let l = x.write_faults in let m = y.write_faults in omega arith;
  shut = y.shut ∙ x.shut;
}

pub wrote_all : (old new : LinkState) (piece : List ℕ) (done : ℕ) (u : Unit {0}) → new.said ≡ append_known old.said (take done piece) → done ≡ length piece → IsAfterWrite old new → Wrote old piece (Ok u) new
wrote_all old new piece done u said e after = record {
  written = take done piece;
  unwritten = drop done piece;
  piece_is = sym (take-append-drop done piece);
  said = said;
  whole = ap (λ n. drop n piece) e ∙ drop-length piece;
  stopped = tt;
  after = after;
}

pub wrote_part : (old mid new : LinkState) (piece : List ℕ) (done : ℕ) (why : PeerCause) → mid.said ≡ append_known old.said (take done piece) → IsAfterWrite old mid → new.said ≡ mid.said → IsAfterWrite mid new
    → StopsBy why mid.write_faults new.write_faults → Wrote old piece (Err why) new
wrote_part old mid new piece done why said before same after stopped = record {
  written = take done piece;
  unwritten = drop done piece;
  piece_is = sym (take-append-drop done piece);
  said = same ∙ said;
  whole = tt;
  stopped = stops_from why old.write_faults mid.write_faults new.write_faults before.write_faults stopped;
  after = after_after old mid new before after;
}

pub wrote_none : (link : LinkState) (piece : List ℕ) → Wrote link piece (Err cause.Memory) link
wrote_none link piece = record {
  written = [];
  unwritten = piece;
  piece_is = refl;
  said = sym (known_nil link.said);
  whole = tt;
  stopped = tt;
  after = after_none link;
}

pub wrote_nothing : (link : LinkState) (u : Unit {0}) → Wrote link [] (Ok u) link
wrote_nothing link u = record {
  written = [];
  unwritten = [];
  piece_is = refl;
  said = sym (known_nil link.said);
  whole = refl;
  stopped = tt;
  after = after_none link;
}

-- a write that took nothing
pub said_same : (old new : Option (List ℕ)) (piece : List ℕ) → new ≡ append_known old (take 0 piece) → new ≡ old
said_same old new piece e = e ∙ known_nil old

pub after_of : (old new : LinkState) (piece : List ℕ) (r : Result ℕ KeepFail) → Writes old piece r new → IsAfterWrite old new
after_of old new piece r w = record { number = w.number; heard = w.heard; ends = w.ends; read_faults = w.read_faults; write_faults = w.cause.later; shut = w.shut }
