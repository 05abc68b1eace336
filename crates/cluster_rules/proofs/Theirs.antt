-- Replies that wait in the tray, and requests that are gone.
use Rattle.std.proofs.Common.{◌≡◌, ◌≢◌, ℕ, ◌<◌, ◌≤◌, ◌⊎◌, inl, inr, Bool, true, false, List, [], ◌∷◌, ◌++◌, refl, sym, ◌∙◌, ap, subst, arith, Option, Some, None}
use Rattle.std.specs.Prelude.{◌==◌, nat_lt, nat_le, ◌&&◌}
use Rattle.std.specs.List.{AllByRecursion as Each}
use Rattle.std.proofs.lemmas.Bool.Decides.{nat_tests}
use Rattle.cat_model.specs.declared.reply.Mark.{Mark}
use Rattle.cat_model.specs.declared.reply.Mark.TheVariants as mark
use Rattle.cluster_rules.specs.Lasting.{Lasting}
use Rattle.cluster_rules.specs.Replies.{Out, Question, Replied, Reply, came, number_of, reply_of}
use Rattle.cluster_rules.specs.Cluster.{Cluster, Pending}
use Rattle.cluster_rules.specs.Sound.{IsAmong, OutIsSound, Sound, held_times, is_of, one_if, out_times, taken_times}
use Rattle.cluster_rules.specs.Past.{Among, HasNoOut, IsNotHeld, asked_of, taken_of}
use Rattle.cluster_rules.specs.Booked.{Booked, IsNumbered, OutIsBooked}
use Rattle.cluster_rules.proofs.Numbered.{numbered_of}
use Rattle.cluster_rules.proofs.Numbers.{asked_low}

came_asked : (q : Question) (past : List Mark) → IsAmong (came q) past → Among q.number (asked_of past)
came_asked q [] a = absurd a
came_asked q (m ∷ past) (inl e) = subst (λ (z : Mark). Among q.number (asked_of (z ∷ past))) e (inl refl)
came_asked q (mark.Asked number agent asked draw ∷ past) (inr a) = inr (came_asked q past a)
came_asked q (mark.Answered number kind known contact ∷ past) (inr a) = came_asked q past a
came_asked q (mark.Made made ∷ past) (inr a) = came_asked q past a
came_asked q (mark.Advanced ms made ∷ past) (inr a) = came_asked q past a
came_asked q (mark.Settled pairs whole ∷ past) (inr a) = came_asked q past a
came_asked q (mark.Halted server ∷ past) (inr a) = came_asked q past a
came_asked q (mark.Entry entry ∷ past) (inr a) = came_asked q past a
came_asked q (mark.Taken number ∷ past) (inr a) = came_asked q past a

question_of : Mark → Question → Question
question_of (mark.Asked number agent asked draw) q = record { number = number; agent = agent; asked = asked; draw = draw }
question_of other q = q

same_mark : (q r : Question) → came q ≡ came r → q ≡ r
unfolding question_of
same_mark q r e = ap (λ (m : Mark). question_of m q) e

-- of one number there is one request
same_question : (past : List Mark) → IsNumbered past → (q r : Question) → IsAmong (came q) past → IsAmong (came r) past → q.number ≡ r.number → q ≡ r
same_question [] s q r a b e = absurd a
same_question (mark.Asked number agent asked draw ∷ past) s q r (inl x) (inl y) e = same_mark q r (x ∙ sym y)
same_question (mark.Asked number agent asked draw ∷ past) s q r (inl x) (inr b) e =
    let l = (asked_low past s.1 r.number (came_asked r past b)).1 in let f = s.0 in let n : q.number ≡ number = cc x in absurd (omega (arith, l, f, n, e))
same_question (mark.Asked number agent asked draw ∷ past) s q r (inr a) (inl y) e =
    let l = (asked_low past s.1 q.number (came_asked q past a)).1 in let f = s.0 in let n : r.number ≡ number = cc y in absurd (omega (arith, l, f, n, e))
same_question (mark.Asked number agent asked draw ∷ past) s q r (inr a) (inr b) e = same_question past s.1 q r a b e
same_question (mark.Answered number kind known contact ∷ past) s q r (inr a) (inr b) e = same_question past s.1 q r a b e
same_question (mark.Answered number kind known contact ∷ past) s q r (inl x) b e = cc x
same_question (mark.Answered number kind known contact ∷ past) s q r (inr a) (inl y) e = cc y
same_question (mark.Made made ∷ past) s q r (inr a) (inr b) e = same_question past s q r a b e
same_question (mark.Made made ∷ past) s q r (inl x) b e = cc x
same_question (mark.Made made ∷ past) s q r (inr a) (inl y) e = cc y
same_question (mark.Advanced ms made ∷ past) s q r (inr a) (inr b) e = same_question past s q r a b e
same_question (mark.Advanced ms made ∷ past) s q r (inl x) b e = cc x
same_question (mark.Advanced ms made ∷ past) s q r (inr a) (inl y) e = cc y
same_question (mark.Settled pairs whole ∷ past) s q r (inr a) (inr b) e = same_question past s q r a b e
same_question (mark.Settled pairs whole ∷ past) s q r (inl x) b e = cc x
same_question (mark.Settled pairs whole ∷ past) s q r (inr a) (inl y) e = cc y
same_question (mark.Halted server ∷ past) s q r (inr a) (inr b) e = same_question past s q r a b e
same_question (mark.Halted server ∷ past) s q r (inl x) b e = cc x
same_question (mark.Halted server ∷ past) s q r (inr a) (inl y) e = cc y
same_question (mark.Entry entry ∷ past) s q r (inr a) (inr b) e = same_question past s q r a b e
same_question (mark.Entry entry ∷ past) s q r (inl x) b e = cc x
same_question (mark.Entry entry ∷ past) s q r (inr a) (inl y) e = cc y
same_question (mark.Taken number ∷ past) s q r (inr a) (inr b) e = same_question past s q r a b e
same_question (mark.Taken number ∷ past) s q r (inl x) b e = cc x
same_question (mark.Taken number ∷ past) s q r (inr a) (inl y) e = cc y

each_at : {A : Type 0} → (P : A → Type 0) (xs ys : List A) (y : A) → Each P (xs ++ y ∷ ys) → P y
each_at P [] ys y e = e.0
each_at P (x ∷ xs) ys y e = each_at P xs ys y e.1

pub theirs : (c : Cluster) → Sound c → (before after : List Out) (r : Reply) → c.tray ≡ before ++ Replied r ∷ after → IsAmong (mark.Answered r.number r.kind r.known r.contact) c.past
    × ((q : Question) → IsAmong (came q) c.past → q.number ≡ r.number → (r ≡ reply_of q r.kind r.known r.contact c.world.agreed) × Lasting q r.kind c.world.agreed)
theirs c s before after r e =
    let o = each_at (OutIsSound c.world c.past) before after (Replied r) (subst (Each (OutIsSound c.world c.past)) e s.parts.tray) in (
      o.marked,
      λ q a n.
          let number : r.number ≡ o.question.number = ap (λ (z : Reply). z.number) o.is in
          let same : o.question ≡ q = same_question c.past (numbered_of c.world c.starts c.past s.parts.marks) o.question q o.asked a (sym number ∙ sym n) in
          subst (λ (z : Question). (r ≡ reply_of z r.kind r.known r.contact c.world.agreed) × Lasting z r.kind c.world.agreed) same (o.is, o.lasts),
    )

-- a reply in the tray was asked, and is that of its mark, whatever the stores held
pub replied : (c : Cluster) → Booked c → (before after : List Out) (r : Reply) → c.tray ≡ before ++ Replied r ∷ after → OutIsBooked c.past (Replied r)
replied c s before after r e = each_at (OutIsBooked c.past) before after (Replied r) (subst (Each (OutIsBooked c.past)) e s.parts.tray)

-- what is nowhere else was taken
no_outs : (n : ℕ) (outs : List Out) → HasNoOut n outs → out_times n outs ≡ 0
no_outs n [] h = refl
no_outs n (o ∷ os) h = let i = no_outs n os h.1 in let z = not_of (number_of o) h.0 in omega (arith, i, z)
  where
    not_of : (m : Option ℕ) → m ≢ Some n → one_if (is_of n m) ≡ 0
    not_of None f = refl
    not_of (Some k) f = let t : (k == n) ≡ false = differs (k == n) refl in ap one_if t
      where
        differs : (b : Bool) → (k == n) ≡ b → (k == n) ≡ false
        differs true e = absurd (f (ap Some (grind (arith, nat_tests, e))))
        differs false e = e

not_held : (n : ℕ) (held : List Pending) → IsNotHeld n held → held_times n held ≡ 0
not_held n [] h = refl
not_held n (p ∷ ps) h = let i = not_held n ps h.1 in let t : (p.question.number == n) ≡ false = differs (p.question.number == n) refl in let z = ap one_if t in omega (arith, i, z)
  where
    differs : (b : Bool) → (p.question.number == n) ≡ b → (p.question.number == n) ≡ false
    differs true e = absurd (h.0 (grind (arith, nat_tests, e)))
    differs false e = e

times_taken : (n : ℕ) (past : List Mark) → 0 < taken_times n past → Among n (taken_of past)
times_taken n [] l = absurd (omega (arith, l))
times_taken n (mark.Taken number ∷ past) l = first (number == n) refl (times_taken n past)
  where
    first : (b : Bool) → (number == n) ≡ b → (0 < taken_times n past → Among n (taken_of past)) → (number ≡ n) ⊎ Among n (taken_of past)
    first true e f = inl (grind (arith, nat_tests, e))
    first false e f = let z : one_if (number == n) ≡ 0 = ap one_if e in inr (f (omega (arith, l, z)))
times_taken n (mark.Asked number agent asked draw ∷ past) l = times_taken n past l
times_taken n (mark.Answered number kind known contact ∷ past) l = times_taken n past l
times_taken n (mark.Made made ∷ past) l = times_taken n past l
times_taken n (mark.Advanced ms made ∷ past) l = times_taken n past l
times_taken n (mark.Settled pairs whole ∷ past) l = times_taken n past l
times_taken n (mark.Halted server ∷ past) l = times_taken n past l
times_taken n (mark.Entry entry ∷ past) l = times_taken n past l

within_one : (n asked : ℕ) → 0 < n → n ≤ asked → one_if (nat_lt 0 n && nat_le n asked) ≡ 1
within_one n asked l k = let t : (nat_lt 0 n && nat_le n asked) ≡ true = grind (arith, nat_tests, l, k) in ap one_if t

-- whatever the stores held
pub gone_taken : (c : Cluster) → Booked c → (n : ℕ) → HasNoOut n c.tray → IsNotHeld n c.held → Among n (asked_of c.past) → Among n (taken_of c.past)
gone_taken c s n o h a =
    let low = asked_low c.past s.parts.marks n a in
    let e = s.parts.asked_is in
    let whole = s.none_lost n in
    let one = within_one n c.asked low.0 (omega (arith, low.1, e)) in
    let held = not_held n c.held h in
    let tray = no_outs n c.tray o in
    let fresh : out_times n c.fresh ≡ 0 = ap (out_times n) s.shelved in
    times_taken n c.past (omega (arith, whole, one, held, tray, fresh))
