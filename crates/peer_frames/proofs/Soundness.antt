-- Bytes on which the reader is stuck begin no list of frames, nor do their fronts that go beyond the place.
use Rattle.std.proofs.Common.{◌≡◌, ℕ, zero, suc, ◌+◌, ◌-◌, ◌<◌, ◌≤◌, List, [], ◌∷◌, ◌++◌, length, take, refl, sym, ap, subst, ◌∙◌, arith, append_assoc, inl, inr}
use Rattle.std.proofs.lemmas.List.{length-append}
use Rattle.std.specs.List.{AllByRecursion, flat_map, concat}
use Rattle.cat_model.proofs.Formats.{fronts}
use Rattle.command_codec.proofs.Grammar.{prefix_cases}
use Rattle.peer_frames.specs.declared.frame.Peers.{Peers}
use Rattle.peer_frames.specs.declared.frame.Frame.{Frame}
use Rattle.peer_frames.specs.Spelling.{kind_of, fields_of, body_bytes, length_bytes, frame_bytes, Accepts}
use Rattle.peer_frames.specs.Fronts.{IsLength, Part, Stuck}
use Rattle.peer_frames.proofs.LengthBytes.{one_length}

module _ (peers : Peers) where
  -- what goes on behind a frame is no part of one
  beyond : (f : Frame) (u : List ℕ) → Accepts peers f → Part peers (frame_bytes f ++ u) → ⊥
  beyond f u accepts (inl begins) =
      let four : 4 ≡ length ((frame_bytes f ++ u) ++ begins.more) = ap length begins.is in
      let one : length ((frame_bytes f ++ u) ++ begins.more) ≡ length (frame_bytes f ++ u) + length begins.more = length-append (frame_bytes f ++ u) begins.more in
      let two : length (frame_bytes f ++ u) ≡ length (frame_bytes f) + length u = length-append (frame_bytes f) u in
      let three : length (frame_bytes f) ≡ 4 + suc (length (concat (fields_of f))) = length-append (length_bytes (length (body_bytes f))) (body_bytes f) in
      omega arith
  beyond f u accepts (inr within) =
      let is_length : IsLength (length (body_bytes f)) = record { from = omega arith; to = accepts.short } in
      let same = fronts (length_bytes (length (body_bytes f))) (length_bytes within.size) (body_bytes f ++ u) within.body refl
      (sym (append_assoc (length_bytes (length (body_bytes f))) (body_bytes f) u) ∙ within.is) in
      let sizes : length (body_bytes f) ≡ within.size = one_length (length (body_bytes f)) within.size is_length within.is_length same.0 in
      let long : length (body_bytes f ++ u) ≡ length within.body = ap length same.1 in
      let sum : length (body_bytes f ++ u) ≡ length (body_bytes f) + length u = length-append (body_bytes f) u in
      let less : length within.body < within.size = within.less in
      omega arith

  stuck_begins : (s : List ℕ) (at : ℕ) → Stuck peers s at → (fs : List Frame) (t : List ℕ) → AllByRecursion (Accepts peers) fs → flat_map frame_bytes fs ≡ s ++ t → ⊥
  stuck_begins s at k [] t h e =
      let none : 0 ≡ length (s ++ t) = ap length e in
      let one : length (s ++ t) ≡ length s + length t = length-append s t in
      let two : length s ≡ length k.good + suc (length k.more) = ap length k.is ∙ length-append k.good (k.bad ∷ k.more) in
      omega arith
  stuck_begins s at k (f ∷ fs) t h e =
      elim (prefix_cases (frame_bytes f) k.good (flat_map frame_bytes fs) k.bad (k.more ++ t) (e ∙ ap (λ l. l ++ t) k.is ∙ append_assoc k.good (k.bad ∷ k.more) t)) [
        | inl p ↦ beyond f p.0 h.0 (subst (Part peers) p.1 k.part)
        | inr p ↦ k.never p.0 (inr (f, record { accepts = h.0; is = sym p.1 }))
      ]

  take_past : (good : List ℕ) (bad : ℕ) (more : List ℕ) (n : ℕ) → length good < n → take n (good ++ bad ∷ more) ≡ good ++ bad ∷ take (n - suc (length good)) more
  take_past [] bad more zero h = absurd (omega arith)
  take_past [] bad more (suc n) h = ap (λ (k : ℕ). bad ∷ take k more) (omega arith)
  take_past (x ∷ good) bad more zero h = absurd (omega arith)
  take_past (x ∷ good) bad more (suc n) h =
      let rest : take n (good ++ bad ∷ more) ≡ good ++ bad ∷ take (n - suc (length good)) more = take_past good bad more n (omega arith) in
      let same : n - suc (length good) ≡ suc n - suc (suc (length good)) = omega arith in
      ap (λ l. x ∷ l) (rest ∙ ap (λ (k : ℕ). good ++ bad ∷ take k more) same)

  stuck_front : (s : List ℕ) (at n : ℕ) → Stuck peers s at → at < n → Stuck peers (take n s) at
  stuck_front s at n k h =
      let place : at ≡ length k.good = k.place in
      record {
        good = k.good;
        bad = k.bad;
        more = take (n - suc (length k.good)) k.more;
        is = ap (λ l. take n l) k.is ∙ take_past k.good k.bad k.more n (omega arith);
        place = k.place;
        part = k.part;
        never = k.never;
      }

  pub begins_no_frames : (s : List ℕ) (at n : ℕ) → Stuck peers s at → at < n → (fs : List Frame) (t : List ℕ) → AllByRecursion (Accepts peers) fs → flat_map frame_bytes fs ≡ take n s ++ t → ⊥
  begins_no_frames s at n k h = stuck_begins (take n s) at (stuck_front s at n k h)
