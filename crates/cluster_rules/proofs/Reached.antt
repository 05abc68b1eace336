-- What holds in every cluster of a run.
use Rattle.std.proofs.Common.{◌≡◌, ℕ, zero, suc, inl, inr, Bool, true, cond, List, [], ◌∷◌, ◌++◌, length, get_or, replicate, refl, sym, ◌∙◌, subst, arith}
use Rattle.std.specs.Prelude.{◌==◌}
use Rattle.std.specs.List.{AllByRecursion as Each}
use Rattle.std.proofs.lemmas.List.{length-replicate}
use Rattle.cat_model.specs.declared.reply.Kind.{Kind}
use Rattle.cat_model.specs.declared.reply.Mark.{Mark}
use Rattle.cat_model.specs.declared.reply.Mark.TheVariants as mark
use Rattle.raft_model.specs.World.{World, IsReached, empty, again}
use Rattle.raft_model.proofs.Tests.{at_bool, eq_tells}
use Rattle.cluster_rules.specs.Replies.{Question, came, Out}
use Rattle.cluster_rules.specs.Lasting.{Lasting}
use Rattle.cluster_rules.specs.Cluster.{Server, Start, Cluster, no_server, node_of, server_of, started}
use Rattle.cluster_rules.specs.Reached.{IsStart, Move, Reached, at_start, by_event, by_taking, by_handing, by_settling, by_advancing}
use Rattle.cluster_rules.specs.Sound.{IsAmong, ServerIsSound, entered_in, entries_before, IsFreshKind, RestsOn, PastIsSound, OutIsSound, IsSoundAtWork, Sound}
use Rattle.cluster_rules.proofs.Booked.{run_books}
use Rattle.cluster_rules.proofs.Numbered.{numbered_of, was_numbered}
use Rattle.cluster_rules.proofs.Grows.{goes_nowhere}
use Rattle.cluster_rules.proofs.Starting.{begun_of}
use Rattle.cluster_rules.proofs.Steps.{step_sound}
use Rattle.cluster_rules.proofs.Later.{fresh_kind_later}
use Rattle.cluster_rules.proofs.Moved.{Plain, plain_taken, plain_settled, plain_advanced, turned, held_as_before}
use Rattle.cluster_rules.proofs.Tools.{each_but}

-- The start.
get_replicate : {A : Type 0} (n j : ℕ) (x : A) → get_or (replicate n x) j x ≡ x
get_replicate zero j x = refl
get_replicate (suc n) zero x = refl
get_replicate (suc n) (suc j) x = get_replicate n j x

pub fresh_server : (n i : ℕ) → server_of (replicate n no_server) i ≡ no_server
fresh_server n zero = refl
fresh_server n (suc i) = get_replicate n i no_server

started_sound : (w : World) (agents : ℕ) → IsReached w → w.agreed ≡ [] → w.greatest ≡ 0 → IsSoundAtWork (started w agents)
started_sound w agents r a g = record {
  world = r;
  servers = record {
    count = length-replicate (length w.nodes) no_server;
    each = λ i. subst (λ (s : Server). ServerIsSound w.agreed (node_of w i).commit s) (sym (fresh_server (length w.nodes) i)) (record { front = refl; within = omega arith; clocks = refl });
  };
  starts = tt;
  held = tt;
  ascends = tt;
  marks = tt;
  fresh = tt;
  tray = tt;
  counts = record { asked_is = refl; proposed = omega (arith, g); entries = sym a };
}

start_parts : (c : Cluster) → IsStart c → IsSoundAtWork c
start_parts c s = subst IsSoundAtWork (sym s.is) (started_sound s.world s.agents reached s.begins.agreed s.begins.greatest)
  where
    reached : IsReached s.world
    reached = elim s.kept [
      | inl e ↦ empty s.stores e s.begins
      | inr x ↦ again s.stores x.1 x.2 s.begins
    ]

-- More marks, which are of no request's fate, and fewer outs.
marks_sound : (c : Cluster) → IsSoundAtWork c → (past' : List Mark) → Plain c.past past' → entered_in past' ≡ entered_in c.past → IsSoundAtWork (record c { past = past' })
marks_sound c s past' p e =
    turned c s c.world s.world (goes_nowhere c.world) past' p (e ∙ s.counts.entries) s.counts.proposed c.servers s.servers c.held (held_as_before c s c.world (goes_nowhere c.world) past' p) s.ascends

less_tray : (c : Cluster) → IsSoundAtWork c → (out : Out) (before after : List Out) → c.tray ≡ before ++ out ∷ after → IsSoundAtWork (record c { tray = before ++ after })
less_tray c s out before after e = record {
  world = s.world;
  servers = s.servers;
  starts = s.starts;
  held = s.held;
  ascends = s.ascends;
  marks = s.marks;
  fresh = s.fresh;
  tray = each_but (OutIsSound c.world c.past) before out after (subst (Each (OutIsSound c.world c.past)) e s.tray);
  counts = s.counts;
}

-- Each cluster of a run is sound.
run_parts : (start : Cluster) → IsStart start → (whole : Bool) (moves : List Move) (c : Cluster) → Reached start whole moves c → IsSoundAtWork c
run_parts start i whole moves c at_start = start_parts start i
run_parts start i whole moves c (by_event {whole = w} {moves = ms} {c = b} made all r fits s) = step_sound b c made all s (run_parts start i w ms b r)
run_parts start i whole moves c (by_taking {whole = w} {moves = ms} {c = b} number out before after r is e) =
    marks_sound (record b { tray = before ++ after }) (less_tray b (run_parts start i w ms b r) out before after e) (mark.Taken number ∷ b.past) (plain_taken number b.past) refl
run_parts start i whole moves c (by_handing {whole = w} {moves = ms} {c = b} out before after r is e) = less_tray b (run_parts start i w ms b r) out before after e
run_parts start i whole moves c (by_settling {whole = w} {moves = ms} {c = b} pairs all r ends) = marks_sound b (run_parts start i w ms b r) (mark.Settled pairs all ∷ b.past) (plain_settled pairs all b.past) refl
run_parts start i whole moves c (by_advancing {whole = w} {moves = ms} {c = b} time made r ends) = marks_sound b (run_parts start i w ms b r) (mark.Advanced time made ∷ b.past) (plain_advanced time made b.past) refl

pub run_sound : (start : Cluster) → IsStart start → (whole : Bool) (moves : List Move) (c : Cluster) → Reached start whole moves c → Sound c
run_sound start i whole moves c r = let b = run_books i.stores start c whole moves (begun_of start i) r in record { parts = run_parts start i whole moves c r; none_lost = b.none_lost; shelved = b.shelved }

pub start_sound : (c : Cluster) → IsStart c → Sound c
start_sound c i = run_sound c i true [] c at_start

-- What a mark of an answer says.
pub record Told (w : World) (past : List Mark) (starts : List Start) (number : ℕ) (kind : Kind) : Type 0 where
  pub question : Question
  pub asked : IsAmong (came question) past
  pub number_is : question.number ≡ number
  pub lasts : Lasting question kind w.agreed
  pub fresh : IsFreshKind kind number past starts
  pub rests : RestsOn w starts question kind

-- with one more mark, which does not ask this request
told_on : (w : World) (past : List Mark) (starts : List Start) (number : ℕ) (kind : Kind) (m : Mark) → entries_before number (m ∷ past) ≡ entries_before number past → Told w past starts number kind → Told w (m ∷ past) starts number kind
told_on w past starts number kind m e t = record {
  question = t.question;
  asked = inr t.asked;
  number_is = t.number_is;
  lasts = t.lasts;
  fresh = fresh_kind_later number past (m ∷ past) e starts starts (λ x y. y) kind t.fresh;
  rests = t.rests;
}

pub told_in : (w : World) (starts : List Start) (past : List Mark) → PastIsSound w starts past → (number : ℕ) (kind : Kind) (known : Bool) (contact : ℕ) → IsAmong (mark.Answered number kind known contact) past → Told w past starts number kind
told_in w starts [] x number kind known contact y = absurd y
told_in w starts (mark.Answered n k kn co ∷ past) x number kind known contact (inl e) =
    let a = x.0 in
    let t : Told w (mark.Answered n k kn co ∷ past) starts n k = record { question = a.question; asked = inr a.asked; number_is = a.number_is; lasts = a.lasts; fresh = fresh_kind_later n past (mark.Answered n k kn co ∷ past) refl starts starts (λ x y. y) k a.fresh; rests = a.rests } in
    subst (λ z. Told w (mark.Answered n k kn co ∷ past) starts z kind) (sym (number_is e)) (subst (λ z. Told w (mark.Answered n k kn co ∷ past) starts n z) (sym (kind_is e)) t)
  where
    kind_is : mark.Answered number kind known contact ≡ mark.Answered n k kn co → kind ≡ k
    kind_is e = cc e

    number_is : mark.Answered number kind known contact ≡ mark.Answered n k kn co → number ≡ n
    number_is e = cc e
told_in w starts (mark.Answered n k kn co ∷ past) x number kind known contact (inr y) = told_on w past starts number kind (mark.Answered n k kn co) refl (told_in w starts past x.1 number kind known contact y)
told_in w starts (mark.Asked n agent asked draw ∷ past) x number kind known contact (inl e) = absurd (cc e)
told_in w starts (mark.Asked n agent asked draw ∷ past) x number kind known contact (inr y) =
    let t = told_in w starts past x.1 number kind known contact y in
    told_on w past starts number kind (mark.Asked n agent asked draw) (at_bool (λ b. (n == number) ≡ b → cond b (length (entered_in past)) (entries_before number past) ≡ entries_before number past) (n == number)
    (λ _ q. absurd (let k = eq_tells n number q in let l = (was_numbered past (numbered_of w starts past x.1) t.question t.asked).1 in let z = x.0 in let r = t.number_is in omega arith)) (λ _ _. refl) refl) t
told_in w starts (mark.Made made ∷ past) x number kind known contact (inl e) = absurd (cc e)
told_in w starts (mark.Made made ∷ past) x number kind known contact (inr y) = told_on w past starts number kind (mark.Made made) refl (told_in w starts past x number kind known contact y)
told_in w starts (mark.Advanced ms made ∷ past) x number kind known contact (inl e) = absurd (cc e)
told_in w starts (mark.Advanced ms made ∷ past) x number kind known contact (inr y) = told_on w past starts number kind (mark.Advanced ms made) refl (told_in w starts past x number kind known contact y)
told_in w starts (mark.Settled pairs whole ∷ past) x number kind known contact (inl e) = absurd (cc e)
told_in w starts (mark.Settled pairs whole ∷ past) x number kind known contact (inr y) = told_on w past starts number kind (mark.Settled pairs whole) refl (told_in w starts past x number kind known contact y)
told_in w starts (mark.Halted server ∷ past) x number kind known contact (inl e) = absurd (cc e)
told_in w starts (mark.Halted server ∷ past) x number kind known contact (inr y) = told_on w past starts number kind (mark.Halted server) refl (told_in w starts past x number kind known contact y)
told_in w starts (mark.Entry entry ∷ past) x number kind known contact (inl e) = absurd (cc e)
told_in w starts (mark.Entry entry ∷ past) x number kind known contact (inr y) = told_on w past starts number kind (mark.Entry entry) refl (told_in w starts past x number kind known contact y)
told_in w starts (mark.Taken m ∷ past) x number kind known contact (inl e) = absurd (cc e)
told_in w starts (mark.Taken m ∷ past) x number kind known contact (inr y) = told_on w past starts number kind (mark.Taken m) refl (told_in w starts past x number kind known contact y)
