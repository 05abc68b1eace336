-- The body of a frame is read as its spelling says, and each fault is the body's own.
use Rattle.std.proofs.Common.{◌≡◌, ℕ, zero, suc, ◌+◌, ◌<◌, ◌≤◌, ◌^◌, nat_lt, nat_eq, cond, List, [], ◌∷◌, ◌++◌, length, get_or, refl, sym, ap, subst, ◌∙◌, arith, inl, inr, Ok, Err}
use Rattle.std.proofs.lemmas.Bool.{cases_lt, cases_eq, ltb-false, ltb-true}
use Rattle.std.proofs.lemmas.Bool.Decides.{nat_tests}
use Rattle.std.specs.List.{concat}
use Rattle.cat_model.specs.declared.command.Command.{Command}
use Rattle.cat_model.specs.declared.command.Command.TheVariants.{Noop}
use Rattle.cat_model.specs.declared.command.Entry.{Entry}
use Rattle.cat_model.specs.Spelling.{number_bytes, flag_bytes, list_bytes, spelling}
use Rattle.cat_model.specs.Bounds.{InBounds, IsNumber, IsListOf}
use Rattle.cat_model.proofs.Formats.{Field, Then, Done, Unique, done_unique, then_unique, field_from_unique}
use Rattle.cat_model.proofs.SpellingFields.{number_field, list_field, flag_field, low_byte}
use Rattle.cat_model.proofs.CommandFormats.{Any, UpTo, spelling_unique}
use Rattle.command_codec.specs.declared.fault.Fault.TheVariants.{Cut, Bad}
use Rattle.command_codec.specs.Reading.{Read, ◌>>=◌, number_at, any_number_at, flag_at, list_at, command_at}
use Rattle.command_codec.proofs.Grammar.{IsBytes, Opens, Stops, Word, Found, Right, Reads, Single, then_reads, done_reads, reads_to, byte_flawed, bad_byte}
use Rattle.command_codec.proofs.NumberReads.{Between, number_reads}
use Rattle.command_codec.proofs.FieldReads.{flag_reads}
use Rattle.command_codec.proofs.ListReads.{list_reads}
use Rattle.command_codec.proofs.Whole.{command_right}
use Rattle.raft_model.specs.declared.message.Message.{Message}
use Rattle.raft_model.specs.declared.message.Message.TheVariants.{AskVote, Vote, Append, Yes, No}
use Rattle.peer_frames.specs.declared.frame.Peers.{Peers}
use Rattle.peer_frames.specs.declared.frame.Frame.{Frame}
use Rattle.peer_frames.specs.declared.frame.Frame.TheVariants as frames
use Rattle.peer_frames.specs.Spelling.{kind_of, fields_of, body_bytes, ArePeers, IsSender, IsMessage, Fits}
use Rattle.store_records.proofs.Certain.{command_field}
use Rattle.store_records.specs.Records.{entry_bytes, IsEntry}
use Rattle.store_records.specs.RecordReading.{entry_at}
use Rattle.store_records.proofs.PayloadReads.{entry_field, entry_reads}
use Rattle.peer_frames.specs.Reading.{sender_at, ask_vote_at, vote_at, append_at, yes_at, no_at, propose_at, by_kind, body_at}

abbrev pub Body : Peers → Frame → List ℕ → Type 0
Body peers = Single body_bytes (Fits peers)

-- ---- tests
yes : {X : Type 0} (a b : ℕ) (x y : X) → a < b → cond (nat_lt a b) x y ≡ x
yes a b x y h = grind (arith, ltb-false)

no : {X : Type 0} (a b : ℕ) (x y : X) → b ≤ a → cond (nat_lt a b) x y ≡ y
no a b x y h = grind (arith, ltb-true)

same_number : {X : Type 0} (n m : ℕ) (x y : X) → n ≡ m → cond (nat_eq n m) x y ≡ x
same_number n m x y h = grind (arith, nat_tests)

other_number : {X : Type 0} (n m : ℕ) (x y : X) → (n ≡ m → ⊥) → cond (nat_eq n m) x y ≡ y
other_number n m x y h = grind (arith, nat_tests)

-- ---- one more field
next : {A C : Type 0} {f : A → List ℕ} {V : A → Type 0} {G : A → C → List ℕ → Type 0} → Field f V → (read : List ℕ → Read A) → Reads (Single f V) read → (more : A × List ℕ → Read C)
    → ((x : A) → V x → Reads (G x) (λ r. more (x, r))) → Reads (Then f V G) (λ s. read s >>= more)
next {A} {C} {f} {V} {G} field read reads more rest = then_reads f V G field read reads more rest

also : {A C : Type 0} {f : A → List ℕ} {V : A → Type 0} {G : A → C → List ℕ → Type 0} {c : C} (rest : List ℕ) (x : A) → V x → G x c rest → Then f V G c (f x ++ rest)
also rest x v more = record { head = x; valid = v; rest = rest; next = more; is = refl }

end : {C : Type 0} (x : C) → Done x x []
end x = record { same = refl; none = refl }

joined : (t a r q : List ℕ) → t ≡ a ++ r → r ≡ q → t ≡ a ++ q
joined t a r q e g = e ∙ ap (λ l. a ++ l) g

-- ---- numbers and commands
up_to : (most : ℕ) → most < 2 ^ 64 → Reads (Single number_bytes (UpTo most)) (number_at 0 most)
up_to most fits =
    reads_to (Single number_bytes (Between 0 most)) (Single number_bytes (UpTo most))
    (λ c t a. record { valid = a.valid.to; is = a.is }) (λ c t a. record { valid = record { from = omega arith; to = a.valid }; is = a.is })
    (number_at 0 most) (number_reads 0 most (omega arith) fits (omega arith))

any_number : Reads (Single number_bytes IsNumber) any_number_at
any_number =
    reads_to (Single number_bytes (UpTo 18446744073709551615)) (Single number_bytes IsNumber)
    (λ c t a. let to : c ≤ 18446744073709551615 = a.valid in record { valid = omega arith; is = a.is }) (λ c t a. let to : c < 2 ^ 64 = a.valid in record { valid = omega arith; is = a.is })
    any_number_at (up_to 18446744073709551615 (omega arith))

command : Reads (Single spelling InBounds) command_at
command = record { right = command_right; sample = spelling Noop; word = record { of = Noop; is = record { valid = tt; is = refl } } }

-- ---- a sender
other_server : (id : ℕ) → (n : ℕ) × (1 ≤ n) × (n ≤ 2) × (n ≡ id → ⊥)
other_server id = elim (cases_eq id 1) [
  | inl h ↦ (2, omega arith, omega arith, λ e. omega arith)
  | inr h ↦ (1, omega arith, omega arith, λ e. h (sym e))
]

module _ (peers : Peers) (are : ArePeers peers) where
  few : peers.servers ≤ 7
  few = are.few

  no_sender : peers.servers < 2 → (n : ℕ) → IsSender peers n → ⊥
  no_sender h n s =
      let a : 1 ≤ n = s.from in
      let b : n ≤ peers.servers = s.to in
      let c : 1 ≤ peers.id = are.own in
      let d : peers.id ≤ peers.servers = are.one_of in
      s.other (omega arith)

  one_sender : 2 ≤ peers.servers → (n : ℕ) × IsSender peers n
  one_sender h =
      let o = other_server peers.id in
      let to : o.0 ≤ 2 = o.2 in
      (o.0, record { from = o.1; to = omega arith; other = o.3 })

  short : (n : ℕ) → IsSender peers n → number_bytes n ≡ n ∷ []
  short n s = let to : n ≤ peers.servers = s.to in let f : peers.servers ≤ 7 = few in low_byte 8 n (omega arith)

  opens_sender : 2 ≤ peers.servers → Opens (Word (Single number_bytes (IsSender peers))) []
  opens_sender h = let o = one_sender h in record { next = o.0; more = []; spelled = record { of = o.0; is = record { valid = o.1; is = sym (short o.0 o.1) } } }

  bad_sender : 2 ≤ peers.servers → (b : ℕ) (rest : List ℕ) → (IsSender peers b → ⊥) → Stops (Word (Single number_bytes (IsSender peers))) (b ∷ rest) (suc (length rest))
  bad_sender h b rest no_one = bad_byte (Word (Single number_bytes (IsSender peers))) b rest (opens_sender h)
      (λ t w. let e : b ∷ t ≡ w.of ∷ [] = w.is.is ∙ short w.of w.is.valid in let same : w.of ≡ b = cc in no_one (subst (λ (n : ℕ). IsSender peers n) same w.is.valid))

  sender_right : 2 ≤ peers.servers → (s : List ℕ) → Right (Single number_bytes (IsSender peers)) s (sender_at peers s)
  sender_right h [] = opens_sender h
  sender_right h (b ∷ rest) = elim (cases_lt b 1) [
    | inl g ↦ subst (λ (out : Read ℕ). Right (Single number_bytes (IsSender peers)) (b ∷ rest) out) (sym (yes b 1 _ _ g))
        (bad_sender h b rest (λ s. let from : 1 ≤ b = s.from in omega arith))
    | inr g ↦ elim (cases_lt peers.servers b) [
      | inl j ↦ subst (λ (out : Read ℕ). Right (Single number_bytes (IsSender peers)) (b ∷ rest) out) (sym (no b 1 _ _ g ∙ yes peers.servers b _ _ j))
          (bad_sender h b rest (λ s. let to : b ≤ peers.servers = s.to in omega arith))
      | inr j ↦ elim (cases_eq b peers.id) [
        | inl k ↦ subst (λ (out : Read ℕ). Right (Single number_bytes (IsSender peers)) (b ∷ rest) out) (sym (no b 1 _ _ g ∙ no peers.servers b _ _ j ∙ same_number b peers.id _ _ k))
            (bad_sender h b rest (λ s. s.other k))
        | inr k ↦ subst (λ (out : Read ℕ). Right (Single number_bytes (IsSender peers)) (b ∷ rest) out) (sym (no b 1 _ _ g ∙ no peers.servers b _ _ j ∙ other_number b peers.id _ _ k))
            (let s : IsSender peers b = record { from = g; to = j; other = k } in record { word = b ∷ []; spelled = record { valid = s; is = sym (short b s) }; is = refl })
      ]
    ]
  ]

  sender : 2 ≤ peers.servers → Reads (Single number_bytes (IsSender peers)) (sender_at peers)
  sender h =
      let o = one_sender h in
      record { right = λ s bytes. sender_right h s; sample = number_bytes o.0; word = record { of = o.0; is = record { valid = o.1; is = refl } } }

-- ---- entries
entries : Reads (Single (list_bytes entry_bytes) (IsListOf 64 IsEntry)) (list_at 64 entry_at)
entries = list_reads entry_bytes IsEntry entry_field entry_at entry_reads 64 (omega arith)

entries_field : Field (list_bytes entry_bytes) (IsListOf 64 IsEntry)
entries_field = list_field entry_bytes IsEntry 64 entry_field

-- ---- the fields behind the kind
module _ (peers : Peers) where
  abbrev AskVoteFormat : Frame → List ℕ → Type 0
  AskVoteFormat =
      Then number_bytes (IsSender peers) (λ s. Then number_bytes IsNumber (λ term. Then number_bytes (UpTo 262144) (λ i. Then number_bytes IsNumber (λ l. Done (frames.Peer s (AskVote term i l))))))

  abbrev VoteFormat : Frame → List ℕ → Type 0
  VoteFormat = Then number_bytes (IsSender peers) (λ s. Then number_bytes IsNumber (λ term. Then flag_bytes Any (λ g. Done (frames.Peer s (Vote term g)))))

  abbrev AppendFormat : Frame → List ℕ → Type 0
  AppendFormat =
      Then number_bytes (IsSender peers) (λ s. Then number_bytes IsNumber (λ term. Then number_bytes IsNumber (λ i. Then number_bytes IsNumber (λ l.
      Then (list_bytes entry_bytes) (IsListOf 64 IsEntry) (λ es. Then number_bytes IsNumber (λ c. Then number_bytes IsNumber (λ r. Done (frames.Peer s (Append term i l es c r)))))))))

  abbrev YesFormat : Frame → List ℕ → Type 0
  YesFormat = Then number_bytes (IsSender peers) (λ s. Then number_bytes IsNumber (λ term. Then number_bytes IsNumber (λ m. Then number_bytes IsNumber (λ r. Done (frames.Peer s (Yes term m r))))))

  abbrev NoFormat : Frame → List ℕ → Type 0
  NoFormat = Then number_bytes (IsSender peers) (λ s. Then number_bytes IsNumber (λ term. Then number_bytes IsNumber (λ l. Done (frames.Peer s (No term l)))))

  abbrev ProposeFormat : Frame → List ℕ → Type 0
  ProposeFormat = Then spelling InBounds (λ c. Done (frames.Propose c))

  abbrev format : ℕ → Frame → List ℕ → Type 0
  format zero f t = ⊥
  format (suc zero) f t = AskVoteFormat f t
  format (suc (suc zero)) f t = VoteFormat f t
  format (suc (suc (suc zero))) f t = AppendFormat f t
  format (suc (suc (suc (suc zero)))) f t = YesFormat f t
  format (suc (suc (suc (suc (suc zero))))) f t = NoFormat f t
  format (suc (suc (suc (suc (suc (suc zero)))))) f t = ProposeFormat f t
  format (suc (suc (suc (suc (suc (suc (suc zero))))))) f t = Done frames.Status f t
  format (suc (suc (suc (suc (suc (suc (suc (suc n)))))))) f t = ⊥

  told : (k : ℕ) (f : Frame) (t : List ℕ) → format k f t → Body peers f (k ∷ t)
  told zero f t a = absurd a
  told (suc zero) f t a = subst (λ (x : Frame). Body peers x (1 ∷ t)) (sym a.next.next.next.next.same) record {
    valid = (a.valid, (a.next.valid, a.next.next.valid, a.next.next.next.valid));
    is = ap (λ l. 1 ∷ l) (joined _ _ _ _ a.is (joined _ _ _ _ a.next.is (joined _ _ _ _ a.next.next.is (joined _ _ _ _ a.next.next.next.is a.next.next.next.next.none))));
  }
  told (suc (suc zero)) f t a = subst (λ (x : Frame). Body peers x (2 ∷ t)) (sym a.next.next.next.same) record {
    valid = (a.valid, a.next.valid);
    is = ap (λ l. 2 ∷ l) (joined _ _ _ _ a.is (joined _ _ _ _ a.next.is (joined _ _ _ _ a.next.next.is a.next.next.next.none)));
  }
  told (suc (suc (suc zero))) f t a =
      let b = a.next in let d = b.next in let e = d.next in let g = e.next in let h = g.next in let i = h.next in let j = i.next in
      subst (λ (x : Frame). Body peers x (3 ∷ t)) (sym j.same) record {
        valid = (a.valid, (b.valid, d.valid, e.valid, g.valid, h.valid, i.valid));
        is = ap (λ l. 3 ∷ l) (joined _ _ _ _ a.is (joined _ _ _ _ b.is (joined _ _ _ _ d.is (joined _ _ _ _ e.is (joined _ _ _ _ g.is (joined _ _ _ _ h.is (joined _ _ _ _ i.is j.none)))))));
      }
  told (suc (suc (suc (suc zero)))) f t a = subst (λ (x : Frame). Body peers x (4 ∷ t)) (sym a.next.next.next.next.same) record {
    valid = (a.valid, (a.next.valid, a.next.next.valid, a.next.next.next.valid));
    is = ap (λ l. 4 ∷ l) (joined _ _ _ _ a.is (joined _ _ _ _ a.next.is (joined _ _ _ _ a.next.next.is (joined _ _ _ _ a.next.next.next.is a.next.next.next.next.none))));
  }
  told (suc (suc (suc (suc (suc zero))))) f t a = subst (λ (x : Frame). Body peers x (5 ∷ t)) (sym a.next.next.next.same) record {
    valid = (a.valid, (a.next.valid, a.next.next.valid));
    is = ap (λ l. 5 ∷ l) (joined _ _ _ _ a.is (joined _ _ _ _ a.next.is (joined _ _ _ _ a.next.next.is a.next.next.next.none)));
  }
  told (suc (suc (suc (suc (suc (suc zero)))))) f t a = subst (λ (x : Frame). Body peers x (6 ∷ t)) (sym a.next.same) record { valid = a.valid; is = ap (λ l. 6 ∷ l) (joined _ (spelling a.head) _ _ a.is a.next.none) }
  told (suc (suc (suc (suc (suc (suc (suc zero))))))) f t a = subst (λ (x : Frame). Body peers x (7 ∷ t)) (sym a.same) record { valid = tt; is = ap (λ l. 7 ∷ l) a.none }
  told (suc (suc (suc (suc (suc (suc (suc (suc n)))))))) f t a = absurd a

  spelled : (f : Frame) → Fits peers f → format (kind_of f) f (concat (fields_of f))
  spelled (frames.Peer s (AskVote term i l)) v = also _ s v.0 (also _ term v.1.0 (also _ i v.1.1 (also _ l v.1.2 (end _))))
  spelled (frames.Peer s (Vote term g)) v = also _ s v.0 (also _ term v.1 (also _ g tt (end _)))
  spelled (frames.Peer s (Append term i l es c r)) v =
      also _ s v.0 (also _ term v.1.0 (also _ i v.1.1 (also _ l v.1.2 (also _ es v.1.3 (also _ c v.1.4 (also _ r v.1.5 (end _)))))))
  spelled (frames.Peer s (Yes term m r)) v = also _ s v.0 (also _ term v.1.0 (also _ m v.1.1 (also _ r v.1.2 (end _))))
  spelled (frames.Peer s (No term l)) v = also _ s v.0 (also _ term v.1.0 (also _ l v.1.1 (end _)))
  spelled (frames.Propose c) v = also _ c v (end _)
  spelled frames.Status v = end _
  spelled (frames.Placed index term) v = absurd v
  spelled (frames.Refused why) v = absurd v
  spelled (frames.State term role commit last) v = absurd v

  from : (k : ℕ) (f : Frame) (t : List ℕ) → Body peers f (k ∷ t) → format k f t
  from k f t a =
      let is : k ∷ t ≡ kind_of f ∷ concat (fields_of f) = a.is in
      let same : kind_of f ≡ k = cc in
      let rest : concat (fields_of f) ≡ t = cc in
      subst (λ (l : List ℕ). format k f l) rest (subst (λ (n : ℕ). format n f (concat (fields_of f))) same (spelled f a.valid))

  kind_right : (k : ℕ) (rest : List ℕ) (out : Read Frame) → Right (format k) rest out → Right (Body peers) (k ∷ rest) out
  kind_right k rest (Ok y) found = record { word = k ∷ found.word; spelled = told k y.0 found.word found.spelled; is = ap (λ l. k ∷ l) found.is }
  kind_right k rest (Err fault) flawed =
      byte_flawed (Word (Body peers)) (Word (format k)) k (λ t w. record { of = w.of; is = told k w.of t w.is }) (λ t w. record { of = w.of; is = from k w.of t w.is }) rest fault flawed

  opens_body : Opens (Word (Body peers)) []
  opens_body = record { next = 7; more = []; spelled = record { of = frames.Status; is = record { valid = tt; is = refl } } }

  module _ (are : ArePeers peers) where
    ask_vote : 2 ≤ peers.servers → Reads AskVoteFormat (ask_vote_at peers)
    unfolding ask_vote_at
    ask_vote h =
        next (number_field (IsSender peers)) _ (sender peers are h) _ (λ s _. next (number_field IsNumber) _ any_number _ (λ term _. next (number_field (UpTo 262144)) _ (up_to 262144 (omega arith)) _ (λ i _.
        next (number_field IsNumber) _ any_number _ (λ l _. done_reads _))))

    vote : 2 ≤ peers.servers → Reads VoteFormat (vote_at peers)
    unfolding vote_at
    vote h = next (number_field (IsSender peers)) _ (sender peers are h) _ (λ s _. next (number_field IsNumber) _ any_number _ (λ term _. next (flag_field Any) _ flag_reads _ (λ g _. done_reads _)))

    append : 2 ≤ peers.servers → Reads AppendFormat (append_at peers)
    unfolding append_at
    append h =
        next (number_field (IsSender peers)) _ (sender peers are h) _ (λ s _. next (number_field IsNumber) _ any_number _ (λ term _. next (number_field IsNumber) _ any_number _ (λ i _. next (number_field IsNumber) _ any_number _ (λ l _.
        next entries_field _ entries _ (λ es _. next (number_field IsNumber) _ any_number _ (λ c _. next (number_field IsNumber) _ any_number _ (λ r _. done_reads _)))))))

    yes_of : 2 ≤ peers.servers → Reads YesFormat (yes_at peers)
    unfolding yes_at
    yes_of h =
        next (number_field (IsSender peers)) _ (sender peers are h) _ (λ s _. next (number_field IsNumber) _ any_number _ (λ term _. next (number_field IsNumber) _ any_number _ (λ m _.
        next (number_field IsNumber) _ any_number _ (λ r _. done_reads _))))

    no_of : 2 ≤ peers.servers → Reads NoFormat (no_at peers)
    unfolding no_at
    no_of h = next (number_field (IsSender peers)) _ (sender peers are h) _ (λ s _. next (number_field IsNumber) _ any_number _ (λ term _. next (number_field IsNumber) _ any_number _ (λ l _. done_reads _)))

    propose : Reads ProposeFormat propose_at
    unfolding propose_at
    propose = next command_field _ command _ (λ c _. done_reads _)

    -- a message, where there are other servers
    by_peer : (k : ℕ) (rest : List ℕ) (out : Read Frame) → ((f : Frame) (t : List ℕ) → format k f t → (n : ℕ) × IsSender peers n) → (2 ≤ peers.servers → Right (format k) rest out)
        → Right (Body peers) (k ∷ rest) (cond (nat_lt peers.servers 2) (Err (Bad (suc (length rest)))) out)
    by_peer k rest out has right = elim (cases_lt peers.servers 2) [
      | inl h ↦ subst (λ (o : Read Frame). Right (Body peers) (k ∷ rest) o) (sym (yes peers.servers 2 _ _ h))
          (bad_byte (Word (Body peers)) k rest opens_body (λ t w. let s = has w.of t (from k w.of t w.is) in no_sender peers are h s.0 s.1))
      | inr h ↦ subst (λ (o : Read Frame). Right (Body peers) (k ∷ rest) o) (sym (no peers.servers 2 _ _ h)) (kind_right k rest out (right h))
    ]

    kind_reads : (k : ℕ) (rest : List ℕ) → IsBytes rest → Right (Body peers) (k ∷ rest) (by_kind k peers rest)
    kind_reads zero rest bytes = bad_byte (Word (Body peers)) 0 rest opens_body (λ t w. from 0 w.of t w.is)
    kind_reads (suc zero) rest bytes = by_peer 1 rest (ask_vote_at peers rest) (λ f t a. (a.head, a.valid)) (λ h. (ask_vote h).right rest bytes)
    kind_reads (suc (suc zero)) rest bytes = by_peer 2 rest (vote_at peers rest) (λ f t a. (a.head, a.valid)) (λ h. (vote h).right rest bytes)
    kind_reads (suc (suc (suc zero))) rest bytes = by_peer 3 rest (append_at peers rest) (λ f t a. (a.head, a.valid)) (λ h. (append h).right rest bytes)
    kind_reads (suc (suc (suc (suc zero)))) rest bytes = by_peer 4 rest (yes_at peers rest) (λ f t a. (a.head, a.valid)) (λ h. (yes_of h).right rest bytes)
    kind_reads (suc (suc (suc (suc (suc zero))))) rest bytes = by_peer 5 rest (no_at peers rest) (λ f t a. (a.head, a.valid)) (λ h. (no_of h).right rest bytes)
    kind_reads (suc (suc (suc (suc (suc (suc zero)))))) rest bytes = kind_right 6 rest (propose_at rest) (propose.right rest bytes)
    kind_reads (suc (suc (suc (suc (suc (suc (suc zero))))))) rest bytes = kind_right 7 rest (Ok (frames.Status, rest)) ((done_reads frames.Status).right rest bytes)
    kind_reads (suc (suc (suc (suc (suc (suc (suc (suc n)))))))) rest bytes =
        bad_byte (Word (Body peers)) (suc (suc (suc (suc (suc (suc (suc (suc n)))))))) rest opens_body (λ t w. from (suc (suc (suc (suc (suc (suc (suc (suc n)))))))) w.of t w.is)

    pub body_right : (s : List ℕ) → IsBytes s → Right (Body peers) s (body_at peers s)
    body_right [] bytes = opens_body
    body_right (k ∷ rest) bytes = kind_reads k rest bytes.1

  -- ---- a body says its frame and where it ends
  next_unique : {A C : Type 0} {f : A → List ℕ} {V : A → Type 0} {G : A → C → List ℕ → Type 0} → Field f V → ((x : A) → V x → Unique (G x)) → Unique (Then f V G)
  next_unique {A} {C} {f} {V} {G} field more = then_unique f V G field more

  format_unique : (k : ℕ) → Unique (format k)
  format_unique zero = record { law = λ c d s t r q a b e. absurd a }
  format_unique (suc zero) =
      next_unique (number_field (IsSender peers)) (λ s _. next_unique (number_field IsNumber) (λ term _. next_unique (number_field (UpTo 262144)) (λ i _. next_unique (number_field IsNumber) (λ l _. done_unique _))))
  format_unique (suc (suc zero)) = next_unique (number_field (IsSender peers)) (λ s _. next_unique (number_field IsNumber) (λ term _. next_unique (flag_field Any) (λ g _. done_unique _)))
  format_unique (suc (suc (suc zero))) =
      next_unique (number_field (IsSender peers)) (λ s _. next_unique (number_field IsNumber) (λ term _. next_unique (number_field IsNumber) (λ i _. next_unique (number_field IsNumber) (λ l _.
      next_unique entries_field (λ es _. next_unique (number_field IsNumber) (λ c _. next_unique (number_field IsNumber) (λ r _. done_unique _)))))))
  format_unique (suc (suc (suc (suc zero)))) =
      next_unique (number_field (IsSender peers)) (λ s _. next_unique (number_field IsNumber) (λ term _. next_unique (number_field IsNumber) (λ m _. next_unique (number_field IsNumber) (λ r _. done_unique _))))
  format_unique (suc (suc (suc (suc (suc zero))))) = next_unique (number_field (IsSender peers)) (λ s _. next_unique (number_field IsNumber) (λ term _. next_unique (number_field IsNumber) (λ l _. done_unique _)))
  format_unique (suc (suc (suc (suc (suc (suc zero)))))) = next_unique command_field (λ c _. done_unique _)
  format_unique (suc (suc (suc (suc (suc (suc (suc zero))))))) = done_unique _
  format_unique (suc (suc (suc (suc (suc (suc (suc (suc n)))))))) = record { law = λ c d s t r q a b e. absurd a }

  pub body_unique : (f g : Frame) (r s : List ℕ) → Fits peers f → Fits peers g → body_bytes f ++ r ≡ body_bytes g ++ s → (f ≡ g) × (r ≡ s)
  body_unique f g r s v w e =
      let is : kind_of f ∷ (concat (fields_of f) ++ r) ≡ kind_of g ∷ (concat (fields_of g) ++ s) = e in
      let kinds : kind_of g ≡ kind_of f = cc in
      let rests : concat (fields_of f) ++ r ≡ concat (fields_of g) ++ s = cc in
      let b : format (kind_of f) g (concat (fields_of g)) = subst (λ (n : ℕ). format n g (concat (fields_of g))) kinds (spelled g w) in
      let same = (format_unique (kind_of f)).law f g (concat (fields_of f)) (concat (fields_of g)) r s (spelled f v) b rests in
      (same.value, same.rest)
