-- Pieces brought to a dialer, one after another.
use Rattle.std.proofs.Common.{◌≡◌, ℕ, suc, ◌-◌, ◌^◌, ◌<◌, ◌≤◌, Bool, true, false, ◌||◌, List, [], ◌∷◌, length, Option, Some, None, Result, Ok, Err, refl, sym, ap, subst, ◌∙◌, arith}
use Rattle.std.specs.Prelude.{OnOk, is_err}
use Rattle.std.specs.List.{cons_option, filter_map, list_any}
use Rattle.cat_model.specs.declared.memory.Memory.{Memory as Lacks}
use Rattle.std.proofs.lemmas.List.{append_assoc, append-nil}
use Rattle.outside.specs.declared.faults.KeepFail.{KeepFail}
use Rattle.outside.specs.declared.faults.KeepFail.TheVariants.{Failed, Memory}
use Rattle.raft_model.specs.declared.message.Sent.{Sent}
use Rattle.node_link.specs.Hosts.{Hosted}
use Rattle.node_service.specs.declared.dialer.Piece.{Piece}
use Rattle.node_service.specs.Dialers.{DialerState, append_took, brought}
use Rattle.node_service.specs.Sending.{BringsAll, BringsOne, TakesAll, brought_all, lacks_memory, piece_of, pieces_of}

-- a message, and then others
pub brings_more : (o : Option Piece) (one : Result Unit KeepFail) (pieces : List Piece) (short : Bool) (old between new : DialerState)
    → BringsOne o one old between → BringsAll pieces short between new → BringsAll (cons_option o pieces) (lacks_memory one || short) old new
brings_more None one pieces short old between new (ok, same) all =
    subst (λ (r : Result Unit KeepFail). BringsAll pieces (lacks_memory r || short) old new) (sym ok)
    (subst (λ (s : DialerState). BringsAll pieces short s new) same all)
brings_more (Some piece) one pieces short old between new is all = record {
  results = one ∷ all.results;
  each = ap (λ n. suc n) all.each;
  dialer = subst (λ (s : DialerState). new ≡ brought_all pieces all.results s) is all.dialer;
  memory = ap (λ b. lacks_memory one || b) all.memory;
}

-- the first of some messages, and then the others
pub brings_first : (f : Sent → Option Piece) (first : Sent) (rest messages : List Sent) (one : Result Unit KeepFail) (others short : Bool) (old between new : DialerState)
    → messages ≡ first ∷ rest → (lacks_memory one || others) ≡ short → BringsOne (f first) one old between → BringsAll (filter_map f rest) others between new
    → BringsAll (filter_map f messages) short old new
brings_first f first rest messages one others short old between new is lacks brings all =
    subst (λ (ms : List Sent). BringsAll (filter_map f ms) short old new) (sym is)
    (subst (λ (b : Bool). BringsAll (cons_option (f first) (filter_map f rest)) b old new) lacks
    (brings_more (f first) one (filter_map f rest) others old between new brings all))

none_took : (told : Option (List Piece)) → told ≡ append_took told []
none_took None = refl
none_took (Some before) = ap (λ (ps : List Piece). Some ps) (sym (append-nil before))

more_took : (told : Option (List Piece)) (piece : Piece) (pieces : List Piece) → append_took (append_took told (piece ∷ [])) pieces ≡ append_took told (piece ∷ pieces)
more_took None piece pieces = refl
more_took (Some before) piece pieces = ap (λ (ps : List Piece). Some ps) (append_assoc before (piece ∷ []) pieces)

-- the count of faults does not fall
later : (pieces : List Piece) (results : List (Result Unit KeepFail)) (dialer : DialerState)
    → dialer.faults ≤ 2 ^ 64 - 1 → dialer.faults ≤ (brought_all pieces results dialer).faults
later [] results dialer most = omega arith
later (piece ∷ pieces) [] dialer most = omega arith
later (piece ∷ pieces) (Ok done ∷ results) dialer most = later pieces results (brought piece (Ok done) dialer) most
later (piece ∷ pieces) (Err Failed ∷ results) dialer most =
    let next = brought piece (Err Failed) dialer in let more = later pieces results next (omega arith) in omega arith
later (piece ∷ pieces) (Err Memory ∷ results) dialer most = later pieces results dialer most

took_all : (pieces : List Piece) (results : List (Result Unit KeepFail)) (dialer : DialerState) → length results ≡ length pieces → list_any lacks_memory results ≡ false
    → (brought_all pieces results dialer).faults ≡ dialer.faults → dialer.faults < 2 ^ 64 - 1 → (brought_all pieces results dialer).took ≡ append_took dialer.took pieces
took_all [] results dialer each enough same less = none_took dialer.took
took_all (piece ∷ pieces) [] dialer each enough same less = absurd (omega arith)
took_all (piece ∷ pieces) (Ok done ∷ results) dialer each enough same less =
    took_all pieces results (brought piece (Ok done) dialer) (omega arith) enough same less ∙ more_took dialer.took piece pieces
took_all (piece ∷ pieces) (Err Failed ∷ results) dialer each enough same less =
    let next = brought piece (Err Failed) dialer in let more = later pieces results next (omega arith) in absurd (omega arith)
took_all (piece ∷ pieces) (Err Memory ∷ results) dialer each enough same less = absurd (let e : true ≡ false = enough in cc)

pub takes_all : (pieces : List Piece) (old new : DialerState) → BringsAll pieces false old new → TakesAll pieces old new
takes_all pieces old new all same less =
    ap (λ (s : DialerState). s.took) all.dialer
    ∙ took_all pieces all.results old all.each all.memory (sym (ap (λ (s : DialerState). s.faults) all.dialer) ∙ same) less

-- the messages of a host's outbox
pub takes_outbox : (ports : List ℕ) (h : Hosted) (sender : ℕ) (messages : List Sent) (result : Result Unit Lacks) (old new : DialerState)
    → sender ≡ h.node.id → messages ≡ h.outbox.messages → BringsAll (filter_map (piece_of sender ports) messages) (is_err result) old new
    → OnOk result (TakesAll (pieces_of ports h) old new)
takes_outbox ports h sender messages (Ok done) old new same taken all =
    takes_all (pieces_of ports h) old new
    (subst (λ (id : ℕ). BringsAll (filter_map (piece_of id ports) h.outbox.messages) false old new) same
    (subst (λ (ms : List Sent). BringsAll (filter_map (piece_of sender ports) ms) false old new) taken all))
takes_outbox ports h sender messages (Err e) old new same taken all = tt
