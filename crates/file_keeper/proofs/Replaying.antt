-- Replaying a journal, one record after the other.
use Rattle.std.proofs.Common.{◌≡◌, ℕ, zero, suc, ◌+◌, ◌<◌, ◌≤◌, cond, true, List, [], ◌++◌, length, refl, sym, ap, subst, ◌∙◌, arith, append_assoc, Option, Some, None, Ok, Err, inl}
use Rattle.std.proofs.lemmas.Bool.{cond-true}
use Rattle.std.proofs.lemmas.List.{length-append, append-nil}
use Rattle.cat_model.specs.declared.kept.Kept.{Kept}
use Rattle.cat_model.specs.Spelling.{number_bytes, number_within}
use Rattle.command_codec.specs.declared.fault.Fault.TheVariants.{Cut, Bad}
use Rattle.store_records.specs.declared.records.Record.{Record}
use Rattle.command_codec.specs.Reading.{Read}
use Rattle.store_records.specs.Records.{payload, record_bytes, HasSpelling}
use Rattle.store_records.specs.RecordReading.{record_at, IsCut, IsWrong}
use Rattle.command_codec.proofs.Grammar.{IsBytes, suffix}
use Rattle.store_records.proofs.RecordReads.{Says, record_says, record_whole, record_cut, long_payload, both_bytes}
use Rattle.file_keeper.specs.Journal.{may_make, made, replays, replay_in, replay, Leads}

-- a record has bytes
pub some_bytes : (r : Record) → 3 ≤ length (record_bytes r)
some_bytes r =
    let n = number_bytes (length (payload r)) in
    let sum : length (n ++ payload r) ≡ length n + length (payload r) = length-append n (payload r) in
    let long : 3 ≤ length (payload r) = long_payload r in
    omega arith

-- ---- how many records are allowed does not matter where there are fewer
abbrev Alike : ℕ → ℕ → Type 0
Alike f g = (k : Kept) (t : List ℕ) → IsBytes t → length t < f → length t < g → replay_in f k t ≡ replay_in g k t

alike_then : (f g : ℕ) → Alike f g → (k : Kept) (s : List ℕ) → IsBytes s → length s < suc f → length s < suc g → (out : Read Record) → Says out s → replays (replay_in f) k out ≡ replays (replay_in g) k out
alike_then f g ih k s bytes lf lg (Ok x) says =
    let long : 3 ≤ length (record_bytes x.0) = some_bytes x.0 in
    let sum : length s ≡ length (record_bytes x.0) + length x.1 = ap length says.is ∙ length-append (record_bytes x.0) x.1 in
    ap (λ (o : Option Kept). cond (may_make x.0 k) o None) (ih (made x.0 k) x.1 (suffix (record_bytes x.0) x.1 (subst IsBytes says.is bytes)) (omega arith) (omega arith))
alike_then f g ih k s bytes lf lg (Err Cut) says = refl
alike_then f g ih k s bytes lf lg (Err (Bad left)) says = refl

alike : (f g : ℕ) → Alike f g
unfolding replay_in
alike zero g k t bytes lf lg = absurd (omega arith)
alike (suc f) zero k t bytes lf lg = absurd (omega arith)
alike (suc f) (suc g) k t bytes lf lg = alike_then f g (alike f g) k t bytes lf lg (record_at t) (record_says t bytes)

-- ---- what is at the front
unfold_replay : (k : Kept) (s : List ℕ) → replay k s ≡ replays (replay_in (length s)) k (record_at s)
unfolding replay replay_in
unfold_replay k s = refl

after_record : (k : Kept) (r : Record) (rest s : List ℕ) → IsBytes s → s ≡ record_bytes r ++ rest → replay_in (length s) k rest ≡ replay k rest
unfolding replay
after_record k r rest s bytes e =
    let long : 3 ≤ length (record_bytes r) = some_bytes r in
    let sum : length s ≡ length (record_bytes r) + length rest = ap length e ∙ length-append (record_bytes r) rest in
    alike (length s) (suc (length rest)) k rest (suffix (record_bytes r) rest (subst IsBytes e bytes)) (omega arith) (omega arith)

pub replay_record : (k : Kept) (r : Record) (rest : List ℕ) → HasSpelling r → IsBytes (record_bytes r ++ rest) → replay k (record_bytes r ++ rest) ≡ cond (may_make r k) (replay (made r k) rest) None
replay_record k r rest h bytes =
    let s = record_bytes r ++ rest in
    unfold_replay k s
    ∙ ap (replays (replay_in (length s)) k) (record_whole r h rest bytes)
    ∙ ap (λ (o : Option Kept). cond (may_make r k) o None) (after_record (made r k) r rest s bytes refl)

pub replay_cut : (k : Kept) (s : List ℕ) → IsBytes s → IsCut s → replay k s ≡ Some k
replay_cut k s bytes c = unfold_replay k s ∙ ap (replays (replay_in (length s)) k) (record_cut s bytes c)

wrong_by : (next : Kept → List ℕ → Option Kept) (k : Kept) (s : List ℕ) → IsWrong s → (out : Read Record) → Says out s → replays next k out ≡ None
wrong_by next k s w (Ok x) says = absurd (w.none x.0 (length (record_bytes x.0)) (record { bounds = says.bounds; rest = x.1; is = says.is; sized = refl }))
wrong_by next k s w (Err Cut) says = absurd (w.not_cut says)
wrong_by next k s w (Err (Bad left)) says = refl

pub replay_wrong : (k : Kept) (s : List ℕ) → IsBytes s → IsWrong s → replay k s ≡ None
replay_wrong k s bytes w = unfold_replay k s ∙ wrong_by (replay_in (length s)) k s w (record_at s) (record_says s bytes)

-- ---- whole records that lead on
pub leads_none : (k : Kept) → Leads k [] k
leads_none k = record { bytes = tt; each = λ rest bytes. refl }

pub leads_one : (k : Kept) (r : Record) → HasSpelling r → IsBytes (record_bytes r) → may_make r k ≡ true → Leads k (record_bytes r) (made r k)
leads_one k r h bytes may = record {
  bytes = bytes;
  each = λ rest more. replay_record k r rest h (both_bytes (record_bytes r) rest bytes more) ∙ cond-true (may_make r k) (replay (made r k) rest) None may;
}

pub leads_on : (a b c : Kept) (f g : List ℕ) → Leads a f b → Leads b g c → Leads a (f ++ g) c
leads_on a b c f g one two = record {
  bytes = both_bytes f g one.bytes two.bytes;
  each = λ rest more. ap (replay a) (append_assoc f g rest) ∙ one.each (g ++ rest) (both_bytes g rest two.bytes more) ∙ two.each rest more;
}

pub nothing_is_cut : IsCut []
unfolding number_within
nothing_is_cut = inl (record { length_is = 3; from = omega arith; to = omega arith; next = 3; more = []; is = refl })

-- whole records stand for what they lead to
pub leads_to : (a b : Kept) (f : List ℕ) → Leads a f b → replay a f ≡ Some b
leads_to a b f l = ap (replay a) (sym (append-nil f)) ∙ l.each [] tt ∙ replay_cut b [] tt nothing_is_cut
