-- A connection, from one step to the next.
use Rattle.std.proofs.Common.{◌≡◌, ℕ, zero, suc, ◌+◌, ◌^◌, ◌-◌, ◌<◌, ◌≤◌, min, false, true, inl, inr, List, [], ◌∷◌, ◌++◌, length, take, drop, map, Option, Some, None, Result, Ok, Err, refl, sym, ap, ◌∙◌, subst, arith, append_assoc, append-nil, take-append-drop}
use Rattle.std.specs.Prelude.{MatchResult}
use Rattle.std.specs.List.{AllByRecursion, concat, flat_map}
use Rattle.std.specs.Io.KnownBytes.{append_known}
use Rattle.std.proofs.lemmas.List.{drop_all, flat_map_more, length-append, map-append}
use Rattle.cat_model.specs.declared.memory.Memory.{Memory}
use Rattle.cat_model.proofs.Formats.{fronts}
use Rattle.command_codec.specs.Counts.{capped}
use Rattle.outside.specs.Causes.{Rose}
use Rattle.outside.specs.declared.faults.Failed.{Failed}
use Rattle.serve_outside.specs.Links.{LinkState, Reads}
use Rattle.peer_frames.specs.declared.frame.Frame.{Frame}
use Rattle.peer_frames.specs.declared.frame.Peers.{Peers}
use Rattle.peer_frames.specs.declared.reader.FrameFed.{FrameFed}
use Rattle.peer_frames.specs.declared.reader.GotFrame.{GotFrame}
use Rattle.peer_frames.specs.declared.reader.GotFrame.TheVariants as gots
use Rattle.peer_frames.specs.Spelling.{Accepts, body_bytes, fields_of, frame_bytes, length_bytes}
use Rattle.peer_frames.specs.Fronts.{IsLength, Part, Whole}
use Rattle.peer_frames.specs.State.{Feeds, Gets, Reader}
use Rattle.peer_frames.proofs.LengthBytes.{one_length}
use Rattle.node_service.specs.Processes.{Running}
use Rattle.turn_lock.specs.declared.knowledge.Knowledge.{Knowledge}
use Rattle.turn_lock.specs.Lists.{Among, EachOnce, IsFront, numbers}
use Rattle.turn_lock.proofs.Lists.{among_right}
use Rattle.node_connections.specs.declared.cause.PeerCause.{PeerCause}
use Rattle.node_connections.specs.declared.cause.PeerCause.TheVariants as cause
use Rattle.node_connections.specs.declared.item.Item.{Item}
use Rattle.node_connections.specs.declared.item.Taken.{Taken}
use Rattle.node_connections.specs.Boards.{HandsIn, MayHandIn, Sees}
use Rattle.node_connections.specs.Journals.{IsOf, opens}
use Rattle.node_connections.specs.Serving.{Connection, EndsBy, IsAnswered, IsCut, IsLater, IsWhole, Passed, answer_bytes, answers_of, numbers_of, stream_of, taken_by}
use Rattle.node_connections.specs.Stages.{Comes, GoesOn, IsAfterWrite, IsTaking, Owes, OwesAnswer, Stage, StopsBy, Talks, Wrote, reader_behind}
use Rattle.node_connections.proofs.Journals.{of_on}
use Rattle.node_connections.proofs.Own.{own_more, own_same, taken_none}
use Rattle.node_connections.proofs.Written.{known_nil, known_on, rose_from, stops_from}

all_more : {X : Type 0} (P : X → Type 0) (xs : List X) (x : X) → AllByRecursion P xs → P x → AllByRecursion P (xs ++ x ∷ [])
all_more P [] x h p = (p, tt)
all_more P (y ∷ xs) x h p = (h.0, all_more P xs x h.1 p)

stream_more : (ts : List Taken) (t : Taken) → stream_of (ts ++ t ∷ []) ≡ stream_of ts ++ frame_bytes t.frame.value
stream_more ts t = sym (flat_map_more (λ (x : Taken). frame_bytes x.frame.value) [] ts t)

answers_more : (ts : List Taken) (t : Taken) → answers_of (ts ++ t ∷ []) ≡ answers_of ts ++ answer_bytes t.answer.value
answers_more ts t = sym (flat_map_more (λ (x : Taken). answer_bytes x.answer.value) [] ts t)

count_more : (ts : List Taken) (t : Taken) → length (ts ++ t ∷ []) ≡ length ts + 1
count_more ts t = length-append ts (t ∷ [])

-- nothing begins a length
pub none_part : (peers : Peers) → Part peers []
none_part peers = inl (record { of = 1; is_length = record { from = omega arith; to = omega arith }; more = length_bytes 1; is = refl })

-- a frame is no part of one
whole_is_no_part : (peers : Peers) (f : Frame) → Accepts peers f → Part peers (frame_bytes f) → ⊥
whole_is_no_part peers f accepts (inl begins) =
    let four : 4 ≡ length (frame_bytes f ++ begins.more) = ap length begins.is in
    let one : length (frame_bytes f ++ begins.more) ≡ length (frame_bytes f) + length begins.more = length-append (frame_bytes f) begins.more in
    let three : length (frame_bytes f) ≡ 4 + suc (length (concat (fields_of f))) = length-append (length_bytes (length (body_bytes f))) (body_bytes f) in
    omega arith
whole_is_no_part peers f accepts (inr within) =
    let is_length : IsLength (length (body_bytes f)) = record { from = omega arith; to = accepts.short } in
    let same = fronts (length_bytes (length (body_bytes f))) (length_bytes within.size) (body_bytes f) within.body refl within.is in
    let sizes : length (body_bytes f) ≡ within.size = one_length (length (body_bytes f)) within.size is_length within.is_length same.0 in
    let long : length (body_bytes f) ≡ length within.body = ap length same.1 in
    let less : length within.body < within.size = within.less in
    omega arith

capped_sum : (a b c : ℕ) → c ≡ a + b → capped (capped a + b) ≡ capped c
capped_sum a b c e = omega (arith, e)

module _ {D : Type 0} (c : Connection D) where
  -- a connection that was cut off behind frames that were all answered
  pub cut_of : (link : LinkState) (known : Knowledge (Item Running D)) (frames : ℕ) (ts : List Taken) (rest : List ℕ) → Passed c link known ts (stream_of ts ++ rest) (answers_of ts) → AllByRecursion IsAnswered ts → frames ≡ length ts → IsCut c link known frames
  cut_of link known frames ts rest p a n = record {
    ts = ts;
    last = [];
    few = omega arith;
    rest = rest;
    written = [];
    unwritten = [];
    due = refl;
    passed = subst (λ (w : List ℕ). Passed c link known (ts ++ []) (stream_of (ts ++ []) ++ rest) w) (sym (append-nil (answers_of ts)))
        (subst (λ (l : List Taken). Passed c link known l (stream_of l ++ rest) (answers_of ts)) (sym (append-nil ts)) p);
    answered = a;
    count = n;
  }

  comes_by : (s : Stage D) (piece : List ℕ) (used : ℕ) (got : GotFrame) (new : Reader) (t : Talks c s piece) → Gets (reader_behind c (stream_of t.ts) t.held) piece used got new → Comes c (record s { reader = new }) (drop used piece) got
  comes_by s piece used gots.More new t g =
      let left : t.held ++ piece ≡ (t.held ++ piece) ++ drop used piece =
      sym (ap (λ (l : List ℕ). (t.held ++ piece) ++ l) (drop_all used piece (omega (arith, g.0))) ∙ append-nil (t.held ++ piece)) in record {
        ts = t.ts;
        held = t.held ++ piece;
        passed = subst (λ (l : List ℕ). Passed c s.link s.known t.ts (stream_of t.ts ++ l) (answers_of t.ts)) left t.passed;
        reader = g.2;
        part = g.1;
        answered = t.answered;
        count = t.count;
        unshut = t.unshut;
        of = t.of;
      }
  comes_by s piece used (gots.Frame f) new t g =
      let whole : t.held ++ take used piece ≡ frame_bytes f = g.1.is in
      let split : t.held ++ piece ≡ frame_bytes f ++ drop used piece =
      ap (λ (l : List ℕ). t.held ++ l) (sym (take-append-drop used piece)) ∙ (sym (append_assoc t.held (take used piece) (drop used piece)) ∙ ap (λ (l : List ℕ). l ++ drop used piece) whole) in
      let sum : length (stream_of t.ts ++ frame_bytes f) ≡ length (stream_of t.ts) + length (t.held ++ take used piece) =
      length-append (stream_of t.ts) (frame_bytes f) ∙ ap (λ (l : List ℕ). length (stream_of t.ts) + length l) (sym whole) in record {
        ts = t.ts;
        passed = subst (λ (l : List ℕ). Passed c s.link s.known t.ts (stream_of t.ts ++ l) (answers_of t.ts)) split t.passed;
        accepts = g.1.accepts;
        reader = g.2 ∙ ap (λ (n : ℕ). record { peers = c.peers; passed = n; held = []; stop = None }) (capped_sum (length (stream_of t.ts)) (length (t.held ++ take used piece)) (length (stream_of t.ts ++ frame_bytes f)) sum);
        answered = t.answered;
        count = t.count;
        unshut = t.unshut;
        of = t.of;
      }
  comes_by s piece used (gots.Bad at) new t g = record {
    ts = t.ts;
    rest = t.held ++ piece;
    passed = t.passed;
    answered = t.answered;
    count = t.count;
    ends = (g.1.0, g.1.1, g.1.2 ∙ capped_sum (length (stream_of t.ts)) g.1.0 (length (stream_of t.ts) + g.1.0) refl);
  }
  comes_by s piece used gots.Memory new t g = cut_of s.link s.known s.frames t.ts (t.held ++ piece) t.passed t.answered t.count

  gets : (s : Stage D) (piece : List ℕ) (fed : FrameFed) (new : Reader) (t : Talks c s piece) → Feeds s.reader piece fed new → Gets (reader_behind c (stream_of t.ts) t.held) piece fed.used fed.got new
  gets s piece fed new t f = subst (λ (r : Reader). Feeds r piece fed new) t.reader f

  pub fed_comes : (s : Stage D) (new : Reader) (piece : List ℕ) (fed : FrameFed) → Talks c s piece → Feeds s.reader piece fed new → Comes c (record s { reader = new }) (drop fed.used piece) fed.got
  fed_comes s new piece fed t f = comes_by s piece fed.used fed.got new t (gets s piece fed new t f)

  used_by : (s : Stage D) (piece : List ℕ) (used : ℕ) (got : GotFrame) (new : Reader) (t : Talks c s piece) → Gets (reader_behind c (stream_of t.ts) t.held) piece used got new → IsTaking got → 0 < length piece → (0 < used) × (used ≤ length piece)
  used_by s piece used gots.More new t g k some = (omega (arith, g.0), omega (arith, g.0))
  used_by s piece zero (gots.Frame f) new t g k some = absurd (whole_is_no_part c.peers f g.1.accepts (subst (Part c.peers) (sym (append-nil t.held) ∙ g.1.is) t.part))
  used_by s piece (suc used) (gots.Frame f) new t g k some = (omega arith, g.0)
  used_by s piece used (gots.Bad at) new t g k some = absurd k
  used_by s piece used gots.Memory new t g k some = absurd k

  pub some_used : (s : Stage D) (new : Reader) (piece : List ℕ) (fed : FrameFed) → Talks c s piece → Feeds s.reader piece fed new → IsTaking fed.got → 0 < length piece → (0 < fed.used) × (fed.used ≤ length piece)
  some_used s new piece fed t f k some = used_by s piece fed.used fed.got new t (gets s piece fed new t f) k some

  -- the frame that was handed in is the last of the own ones
  handed : (link : LinkState) (v w : Knowledge (Item Running D)) (frame : Frame) (answer : Result (Option Frame) Memory) (ts : List Taken) (rest written : List ℕ) → Passed c link v ts (stream_of ts ++ (frame_bytes frame ++ rest)) written → Accepts c.peers frame → (h : HandsIn frame answer v w)
      → Passed c link w (ts ++ h.taken ∷ []) (stream_of (ts ++ h.taken ∷ []) ++ rest) written
  handed link v w frame answer ts rest written p accepts h =
      let t = h.taken in
      let ns : numbers_of (ts ++ t ∷ []) ≡ numbers_of ts ++ t.number ∷ [] = map-append (λ (x : Taken). x.number) ts (t ∷ []) in
      let bytes : stream_of ts ++ (frame_bytes frame ++ rest) ≡ stream_of (ts ++ t ∷ []) ++ rest =
      sym (append_assoc (stream_of ts) (frame_bytes frame) rest) ∙ ap (λ (l : List ℕ). l ++ rest) (ap (λ (f : Frame). stream_of ts ++ frame_bytes f) (sym h.frame_is) ∙ sym (stream_more ts t)) in record {
        heard = p.heard ∙ ap (append_known c.first.heard) bytes;
        said = p.said;
        later = p.later;
        grown = (p.grown.0 ++ (h.before ++ h.item ∷ []), h.seen ∙ (ap (λ (l : List (Item Running D)). l ++ (h.before ++ h.item ∷ [])) p.grown.1 ∙ append_assoc c.begun.seen p.grown.0 (h.before ++ h.item ∷ [])));
        own = h.mine ∙ (ap (λ (l : List ℕ). l ++ t.number ∷ []) p.own ∙ (append_assoc c.begun.mine (numbers_of ts) (t.number ∷ []) ∙ ap (λ (l : List ℕ). c.begun.mine ++ l) (sym ns)));
        taken = ap (λ (l : List ℕ). taken_by l w.seen) ns ∙ (ap (taken_by (numbers_of ts ++ t.number ∷ [])) h.seen
            ∙ (own_more (numbers_of ts) v.mine v.seen h.before h.item t h.item_is h.others (λ k a. subst (Among k) (sym p.own) (among_right k c.begun.mine (numbers_of ts) a)) (subst (λ (l : List (Item Running D)). EachOnce (numbers opens l)) h.seen h.once)
            ∙ ap (λ (l : List Taken). l ++ t ∷ []) p.taken));
        once = h.once;
        accepted = all_more (λ (x : Taken). Accepts c.peers x.frame.value) ts t p.accepted (subst (Accepts c.peers) (sym h.frame_is) accepts);
      }

  -- others went on, and nothing was handed in
  still : (link : LinkState) (v w : Knowledge (Item Running D)) (ts : List Taken) (read written : List ℕ) → Passed c link v ts read written → Sees v w → Passed c link w ts read written
  still link v w ts read written p h = record {
    heard = p.heard;
    said = p.said;
    later = p.later;
    grown = (p.grown.0 ++ h.more, h.seen ∙ (ap (λ (l : List (Item Running D)). l ++ h.more) p.grown.1 ∙ append_assoc c.begun.seen p.grown.0 h.more));
    own = h.mine ∙ p.own;
    taken = ap (taken_by (numbers_of ts)) h.seen ∙ (own_same (numbers_of ts) v.mine v.seen h.more h.others (λ k a. subst (Among k) (sym p.own) (among_right k c.begun.mine (numbers_of ts) a)) ∙ p.taken);
    once = h.once;
    accepted = p.accepted;
  }

  pub owes_answer : (s : Stage D) (w : Knowledge (Item Running D)) (frame : Frame) (answer : Option Frame) (rest : List ℕ) → Owes c s frame rest → HandsIn frame (Ok answer) s.known w → OwesAnswer c (record s { known = w }) answer rest
  owes_answer s w frame answer rest o h = record {
    ts = o.ts;
    last = h.taken;
    answer_is = h.answer_is;
    passed = handed s.link s.known w frame (Ok answer) o.ts rest (answers_of o.ts) o.passed o.accepts h;
    reader = o.reader ∙ ap (λ (l : List ℕ). reader_behind c l []) (ap (λ (f : Frame). stream_of o.ts ++ frame_bytes f) (sym h.frame_is) ∙ sym (stream_more o.ts h.taken));
    answered = o.answered;
    count = o.count;
    unshut = o.unshut;
    of = subst (IsOf c.peers) (sym h.seen) (of_on c.peers s.known.seen (h.before ++ h.item ∷ []) o.of);
  }

  cut_handed : (s : Stage D) (w : Knowledge (Item Running D)) (frame : Frame) (e : Memory) (rest : List ℕ) → Owes c s frame rest → (h : HandsIn frame (Err e) s.known w) → IsCut c s.link w s.frames
  cut_handed s w frame e rest o h = record {
    ts = o.ts;
    last = h.taken ∷ [];
    few = omega arith;
    rest = rest;
    written = [];
    unwritten = [];
    due = append-nil (answer_bytes h.taken.answer.value) ∙ ap answer_bytes h.answer_is;
    passed = subst (Passed c s.link w (o.ts ++ h.taken ∷ []) (stream_of (o.ts ++ h.taken ∷ []) ++ rest)) (sym (append-nil (answers_of o.ts))) (handed s.link s.known w frame (Err e) o.ts rest (answers_of o.ts) o.passed o.accepts h);
    answered = o.answered;
    count = o.count;
  }

  pub cut_short : (s : Stage D) (w : Knowledge (Item Running D)) (frame : Frame) (e : Memory) (rest : List ℕ) → Owes c s frame rest → MayHandIn frame (Err e) s.known w → IsCut c s.link w s.frames
  cut_short s w frame e rest o (inl h) = cut_handed s w frame e rest o h
  cut_short s w frame e rest o (inr h) = cut_of s.link w s.frames o.ts (frame_bytes frame ++ rest) (still s.link s.known w o.ts _ _ o.passed h) o.answered o.count

  -- what was written, behind what had been
  written_on : (link link' : LinkState) (known : Knowledge (Item Running D)) (ts : List Taken) (read written more : List ℕ) → Passed c link known ts read written → IsAfterWrite link link' → link'.said ≡ append_known link.said more → Passed c link' known ts read (written ++ more)
  written_on link link' known ts read written more p a s = record {
    heard = a.heard ∙ p.heard;
    said = known_on c.first.said link.said link'.said written more p.said s;
    later = record {
      number = a.number ∙ p.later.number;
      ends = let l = p.later.ends in let e = a.ends in omega arith;
      read_faults = let l = p.later.read_faults in let e = a.read_faults in omega arith;
      write_faults = let l = p.later.write_faults in let e = a.write_faults in omega arith;
    };
    grown = p.grown;
    own = p.own;
    taken = p.taken;
    once = p.once;
    accepted = p.accepted;
  }

  pub given : (s : Stage D) (link' : LinkState) (answer : Option Frame) (frames : ℕ) (u : Unit {0}) (rest : List ℕ) → OwesAnswer c s answer rest → Wrote s.link (answer_bytes (Ok answer)) (Ok u) link' → frames ≡ s.frames + 1
      → Talks c (record { link = link'; reader = s.reader; known = s.known; frames = frames }) rest
  given s link' answer frames u rest o w n =
      let all : answer_bytes (Ok answer) ≡ w.written = w.piece_is ∙ (ap (λ (l : List ℕ). w.written ++ l) w.whole ∙ append-nil w.written) in
      let due : answers_of (o.ts ++ o.last ∷ []) ≡ answers_of o.ts ++ w.written = answers_more o.ts o.last ∙ ap (λ (l : List ℕ). answers_of o.ts ++ l) (ap answer_bytes o.answer_is ∙ all) in record {
        ts = o.ts ++ o.last ∷ [];
        held = [];
        passed = subst (Passed c link' s.known (o.ts ++ o.last ∷ []) (stream_of (o.ts ++ o.last ∷ []) ++ rest)) (sym due) (written_on s.link link' s.known (o.ts ++ o.last ∷ []) _ (answers_of o.ts) w.written o.passed w.after w.said);
        reader = o.reader;
        part = none_part c.peers;
        answered = all_more IsAnswered o.ts o.last o.answered (answer, o.answer_is);
        count = n ∙ (ap (λ (k : ℕ). k + 1) o.count ∙ sym (count_more o.ts o.last));
        unshut = w.after.shut ∙ o.unshut;
        of = o.of;
      }

  abbrev cut_answer : (s : Stage D) (link' : LinkState) (answer : Option Frame) (written unwritten rest : List ℕ) (o : OwesAnswer c s answer rest) → answer_bytes (Ok answer) ≡ written ++ unwritten → IsAfterWrite s.link link' → link'.said ≡ append_known s.link.said written → IsCut c link' s.known s.frames
  cut_answer s link' answer written unwritten rest o piece after said = record {
    ts = o.ts;
    last = o.last ∷ [];
    few = omega arith;
    rest = rest;
    written = written;
    unwritten = unwritten;
    due = append-nil (answer_bytes o.last.answer.value) ∙ (ap answer_bytes o.answer_is ∙ piece);
    passed = written_on s.link link' s.known (o.ts ++ o.last ∷ []) _ (answers_of o.ts) written o.passed after said;
    answered = o.answered;
    count = o.count;
  }

  pub cut_uncounted : (s : Stage D) (answer : Option Frame) (rest : List ℕ) → OwesAnswer c s answer rest → IsCut c s.link s.known s.frames
  cut_uncounted s answer rest o =
      cut_answer s s.link answer [] (answer_bytes (Ok answer)) rest o refl (record { number = refl; heard = refl; ends = refl; read_faults = refl; write_faults = omega arith; shut = refl }) (sym (known_nil s.link.said))

  pub not_given : (s : Stage D) (link' : LinkState) (answer : Option Frame) (why : PeerCause) (rest : List ℕ) → OwesAnswer c s answer rest → Wrote s.link (answer_bytes (Ok answer)) (Err why) link' → EndsBy c why link' s.known s.frames
  not_given s link' answer cause.WriteFault rest o w =
      (cut_answer s link' answer w.written w.unwritten rest o w.piece_is w.after w.said, rose_from c.first.write_faults s.link.write_faults link'.write_faults o.passed.later.write_faults w.stopped, ((answer, o.answer_is), tt))
  not_given s link' answer cause.Memory rest o w = cut_answer s link' answer w.written w.unwritten rest o w.piece_is w.after w.said
  not_given s link' answer cause.Closed rest o w = absurd w.stopped
  not_given s link' answer (cause.Bad at) rest o w = absurd w.stopped
  not_given s link' answer cause.ReadFault rest o w = absurd w.stopped

  -- what was read, behind what had been
  read_on : (link link' : LinkState) (known : Knowledge (Item Running D)) (ts : List Taken) (read more written : List ℕ) → Passed c link known ts read written → link'.heard ≡ append_known link.heard more → IsLater link link' → link'.said ≡ link.said → Passed c link' known ts (read ++ more) written
  read_on link link' known ts read more written p h l s = record {
    heard = known_on c.first.heard link.heard link'.heard read more p.heard h;
    said = s ∙ p.said;
    later = record {
      number = l.number ∙ p.later.number;
      ends = let a = p.later.ends in let b = l.ends in omega arith;
      read_faults = let a = p.later.read_faults in let b = l.read_faults in omega arith;
      write_faults = let a = p.later.write_faults in let b = l.write_faults in omega arith;
    };
    grown = p.grown;
    own = p.own;
    taken = p.taken;
    once = p.once;
    accepted = p.accepted;
  }

  later_of : (link link' : LinkState) (buffer : List ℕ) (r : Result ℕ Failed) → Reads link buffer r link' → IsLater link link'
  later_of link link' buffer r x = record {
    number = x.number;
    ends = x.at_end.later;
    read_faults = x.cause.later;
    write_faults = let e = x.write_faults in omega arith;
  }

  none_left : (ts : List Taken) (held : List ℕ) → stream_of ts ++ (held ++ []) ≡ stream_of ts ++ held
  none_left ts held = ap (λ (l : List ℕ). stream_of ts ++ l) (append-nil held)

  pub read_some : (s : Stage D) (link' : LinkState) (buffer : List ℕ) (n : ℕ) → Reads s.link buffer (Ok n) link' → Talks c s [] → Talks c (record s { link = link' }) (take n buffer)
  read_some s link' buffer n x t = record {
    ts = t.ts;
    held = t.held;
    passed = subst (λ (l : List ℕ). Passed c link' s.known t.ts l (answers_of t.ts))
        (ap (λ (l : List ℕ). l ++ take n buffer) (none_left t.ts t.held) ∙ append_assoc (stream_of t.ts) t.held (take n buffer))
        (read_on s.link link' s.known t.ts (stream_of t.ts ++ (t.held ++ [])) (take n buffer) (answers_of t.ts) t.passed x.heard (later_of s.link link' buffer (Ok n) x) x.said);
    reader = t.reader;
    part = t.part;
    answered = t.answered;
    count = t.count;
    unshut = x.shut ∙ t.unshut;
    of = t.of;
  }

  nothing_read : (s : Stage D) (link' : LinkState) → link'.heard ≡ s.link.heard → IsLater s.link link' → link'.said ≡ s.link.said → (t : Talks c s []) → Passed c link' s.known t.ts (stream_of t.ts ++ t.held) (answers_of t.ts)
  nothing_read s link' h l e t =
      subst (λ (r : List ℕ). Passed c link' s.known t.ts r (answers_of t.ts)) (append-nil (stream_of t.ts ++ (t.held ++ [])) ∙ none_left t.ts t.held)
      (read_on s.link link' s.known t.ts (stream_of t.ts ++ (t.held ++ [])) [] (answers_of t.ts) t.passed (h ∙ sym (known_nil s.link.heard)) l e)

  pub read_end : (s : Stage D) (link' : LinkState) (buffer : List ℕ) → Reads s.link buffer (Ok 0) link' → 0 < length buffer → Talks c s [] → EndsBy c cause.Closed link' s.known s.frames
  read_end s link' buffer x some t =
      let p = t.passed.later.ends in let r = x.at_end.at_end refl some in record {
        ts = t.ts;
        rest = t.held;
        passed = nothing_read s link' (x.heard ∙ known_nil s.link.heard) (later_of s.link link' buffer (Ok 0) x) x.said t;
        answered = t.answered;
        count = t.count;
        ends = (t.part, rose_from c.first.ends s.link.ends link'.ends p r);
      }

  pub read_fault : (s : Stage D) (link' : LinkState) (buffer : List ℕ) (e : Failed) → Reads s.link buffer (Err e) link' → Talks c s [] → EndsBy c cause.ReadFault link' s.known s.frames
  read_fault s link' buffer e x t =
      let p = t.passed.later.read_faults in record {
        ts = t.ts;
        rest = t.held;
        passed = nothing_read s link' x.heard (later_of s.link link' buffer (Err e) x) x.said t;
        answered = t.answered;
        count = t.count;
        ends = (t.part, rose_from c.first.read_faults s.link.read_faults link'.read_faults p x.cause.failed);
      }

  pub begins : (reader : Reader) → reader ≡ record { peers = c.peers; passed = 0; held = []; stop = None } → c.first.shut ≡ false → IsOf c.peers c.begun.seen → EachOnce (numbers opens c.begun.seen)
      → Talks c (record { link = c.first; reader = reader; known = c.begun; frames = 0 }) []
  begins reader r unshut of once = record {
    ts = [];
    held = [];
    passed = record {
      heard = sym (known_nil c.first.heard);
      said = sym (known_nil c.first.said);
      later = record { number = refl; ends = omega arith; read_faults = omega arith; write_faults = omega arith };
      grown = ([], sym (append-nil c.begun.seen));
      own = sym (append-nil c.begun.mine);
      taken = taken_none c.begun.seen;
      once = once;
      accepted = tt;
    };
    reader = r;
    part = none_part c.peers;
    answered = tt;
    count = refl;
    unshut = unshut;
    of = of;
  }

  shut_passed : (link : LinkState) (known : Knowledge (Item Running D)) (ts : List Taken) (read written : List ℕ) → Passed c link known ts read written → Passed c (record link { shut = true }) known ts read written
  shut_passed link known ts read written p = record {
    heard = p.heard;
    said = p.said;
    later = record { number = p.later.number; ends = p.later.ends; read_faults = p.later.read_faults; write_faults = p.later.write_faults };
    grown = p.grown;
    own = p.own;
    taken = p.taken;
    once = p.once;
    accepted = p.accepted;
  }

  shut_whole : (Ends Ends' : List Taken → List ℕ → Type 0) (link : LinkState) (known : Knowledge (Item Running D)) (frames : ℕ) → ((ts : List Taken) (rest : List ℕ) → Ends ts rest → Ends' ts rest) → IsWhole c Ends link known frames
      → IsWhole c Ends' (record link { shut = true }) known frames
  shut_whole Ends Ends' link known frames f w = record {
    ts = w.ts;
    rest = w.rest;
    passed = shut_passed link known w.ts (stream_of w.ts ++ w.rest) (answers_of w.ts) w.passed;
    answered = w.answered;
    count = w.count;
    ends = f w.ts w.rest w.ends;
  }

  abbrev shut_cut : (link : LinkState) (known : Knowledge (Item Running D)) (frames : ℕ) → IsCut c link known frames → IsCut c (record link { shut = true }) known frames
  shut_cut link known frames x = record {
    ts = x.ts;
    last = x.last;
    few = x.few;
    rest = x.rest;
    written = x.written;
    unwritten = x.unwritten;
    due = x.due;
    passed = shut_passed link known (x.ts ++ x.last) (stream_of (x.ts ++ x.last) ++ x.rest) (answers_of x.ts ++ x.written) x.passed;
    answered = x.answered;
    count = x.count;
  }

  pub ends_shut : (why : PeerCause) (link : LinkState) (known : Knowledge (Item Running D)) (frames : ℕ) → EndsBy c why link known frames → EndsBy c why (record link { shut = true }) known frames
  ends_shut cause.Closed link known frames e = shut_whole _ _ link known frames (λ ts rest x. x) e
  ends_shut (cause.Bad at) link known frames e = shut_whole _ _ link known frames (λ ts rest x. x) e
  ends_shut cause.ReadFault link known frames e = shut_whole _ _ link known frames (λ ts rest x. x) e
  ends_shut cause.WriteFault link known frames e = (shut_cut link known frames e.0, e.1, e.2)
  ends_shut cause.Memory link known frames e = shut_cut link known frames e
