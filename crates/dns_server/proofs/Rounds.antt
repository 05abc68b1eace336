-- One packet more is served, or the last one is left without its reply.
use Rattle.std.proofs.Common.{◌≡◌, ℕ, ◌+◌, List, [], ◌∷◌, ◌++◌, take, refl, sym, ap, ◌∙◌, append_assoc, append-nil, arith, length-append, Option, Some, None, inl, inr}
use mathlib.Core.List.{IsPrefix}
use Rattle.cat_model.specs.declared.command.Command.{Command}
use Rattle.outside.specs.declared.faults.KeepFail.{KeepFail}
use Rattle.outside.specs.declared.faults.KeepFail.TheVariants as k
use Rattle.datagram_outside.specs.Ports.{Datagram, PortState, append_told, Came, Waited}
use Rattle.dns_server.specs.declared.packets.DnsCause.TheVariants as c
use Rattle.dns_server.specs.Served.{Answered, AllButLast, Passed, Served, cause_of, reply_by}

pub prefix_self : (a : List Command) → IsPrefix a a
prefix_self a = ([], append-nil a)

pub prefix_on : (a b d : List Command) → IsPrefix a b → IsPrefix b d → IsPrefix a d
prefix_on a b d p q = (p.0 ++ q.0, sym (append_assoc a p.0 q.0) ∙ (ap (λ x. x ++ q.0) p.1 ∙ q.1))

-- the lists go on behind the last packet too
pub answered_on : (first mid last : List Command) (packets went : List Datagram) → Answered first packets went mid → IsPrefix mid last → Answered first packets went last
answered_on first mid last [] went h more = (h.0, prefix_on first mid last h.1 more)
answered_on first mid last (d ∷ packets) went h more = (h.0, h.1, h.2, h.3, answered_on h.0 mid last packets h.1 h.4 more)

-- one reply more
pub answered_more : (first mid last : List Command) (packets went : List Datagram) (d : Datagram)
    → Answered first packets went mid → IsPrefix mid last → Answered first (packets ++ d ∷ []) (went ++ reply_by last d) last
answered_more first mid last [] went d h more =
    (last, [], prefix_on first mid last h.1 more, ap (λ w. w ++ reply_by last d) h.0 ∙ sym (append-nil (reply_by last d)), (refl, prefix_self last))
answered_more first mid last (x ∷ packets) went d h more =
    (h.0, h.1 ++ reply_by last d, h.2, ap (λ w. w ++ reply_by last d) h.3 ∙ append_assoc (reply_by h.0 x) h.1 (reply_by last d), answered_more h.0 mid last packets h.1 d h.4 more)

pub told_on : (told : Option (List Datagram)) (a b : List Datagram) → append_told (append_told told a) b ≡ append_told told (a ++ b)
told_on None a b = refl
told_on (Some ds) a b = ap Some (append_assoc ds a b)

pub told_none : (told : Option (List Datagram)) → append_told told [] ≡ told
told_none None = refl
told_none (Some ds) = ap Some (append-nil ds)

pub passed_none : (a : PortState) → Passed a a [] []
passed_none a = record { given = omega arith; came_told = sym (told_none a.came); went_told = sym (told_none a.went) }

pub passed_on : (a b d : PortState) (came went came' went' : List Datagram) → Passed a b came went → Passed b d came' went' → Passed a d (came ++ came') (went ++ went')
passed_on a b d came went came' went' p q = record {
  given = omega (arith, p.given, q.given, length-append came came');
  came_told = q.came_told ∙ (ap (λ t. append_told t came') p.came_told ∙ told_on a.came came came');
  went_told = q.went_told ∙ (ap (λ t. append_told t went') p.went_told ∙ told_on a.went went went');
}

-- before the first packet
pub begun : (port : PortState) (first : List Command) → Served port port first first 0 c.Done
begun port first = record {
  packets = [];
  went = [];
  passed = passed_none port;
  taken_is = refl;
  replies = (refl, prefix_self first);
}

-- a packet and its reply
pub one_more : (old mid new : PortState) (first now last : List Command) (taken : ℕ) (d : Datagram)
    → Served old mid first now taken c.Done → Passed mid new (d ∷ []) (reply_by last d) → IsPrefix now last → Served old new first last (taken + 1) c.Done
one_more old mid new first now last taken d s p more = record {
  packets = s.packets ++ d ∷ [];
  went = s.went ++ reply_by last d;
  passed = passed_on old mid new s.packets s.went (d ∷ []) (reply_by last d) s.passed p;
  taken_is = omega (arith, s.taken_is, length-append s.packets (d ∷ []));
  replies = answered_more first now last s.packets s.went d s.replies more;
}

lacks_last : (old mid new : PortState) (first now last : List Command) (taken : ℕ) (d : Datagram)
    → (s : Served old mid first now taken c.Done) → IsPrefix now last → AllButLast first (s.packets ++ d ∷ []) (s.went ++ []) last
lacks_last old mid new first now last taken d s more = record {
  before = s.packets;
  unanswered = d;
  packets_are = refl;
  answered = answered_on first now last s.packets (s.went ++ []) (rw (append-nil s.went) s.replies) more;
}

-- a packet came, of which nothing went yet, and then its reply
pub came_and_went : (old mid new : PortState) (into : List ℕ) (size peer : ℕ) (went : List Datagram)
    → Came old into size peer mid → mid.went ≡ old.went → Passed mid new [] went → Passed old new (record { peer = peer; packet = take size into } ∷ []) went
came_and_went old mid new into size peer went came same p = record {
  given = omega (arith, came.given, p.given);
  came_told = p.came_told ∙ (told_none mid.came ∙ came.came);
  went_told = p.went_told ∙ ap (λ t. append_told t went) same;
}

-- a packet without its reply, where the port failed
pub one_faulty : (old mid new : PortState) (first now last : List Command) (taken : ℕ) (d : Datagram)
    → Served old mid first now taken c.Done → Passed mid new (d ∷ []) [] → IsPrefix now last → Served old new first last (taken + 1) c.Fault
one_faulty old mid new first now last taken d s p more = record {
  packets = s.packets ++ d ∷ [];
  went = s.went ++ [];
  passed = passed_on old mid new s.packets s.went (d ∷ []) [] s.passed p;
  taken_is = omega (arith, s.taken_is, length-append s.packets (d ∷ []));
  replies = inr (lacks_last old mid new first now last taken d s more);
}

-- a packet without its reply, for lack of memory
pub one_wanting : (old mid new : PortState) (first now last : List Command) (taken : ℕ) (d : Datagram)
    → Served old mid first now taken c.Done → Passed mid new (d ∷ []) [] → IsPrefix now last → Served old new first last (taken + 1) c.Memory
one_wanting old mid new first now last taken d s p more = record {
  packets = s.packets ++ d ∷ [];
  went = s.went ++ [];
  passed = passed_on old mid new s.packets s.went (d ∷ []) [] s.passed p;
  taken_is = omega (arith, s.taken_is, length-append s.packets (d ∷ []));
  replies = inr (lacks_last old mid new first now last taken d s more);
}

-- nothing came, and the port failed
pub none_came : (old mid new : PortState) (first last : List Command) (taken : ℕ)
    → Served old mid first last taken c.Done → Waited mid new → new.went ≡ mid.went → Served old new first last taken c.Fault
none_came old mid new first last taken s w same = record {
  packets = s.packets;
  went = s.went;
  passed = record { given = omega (arith, w.given, s.passed.given); came_told = w.came ∙ s.passed.came_told; went_told = same ∙ s.passed.went_told };
  taken_is = s.taken_is;
  replies = inl s.replies;
}

-- nothing was taken, for lack of memory
pub none_taken : (port : PortState) (first : List Command) → Served port port first first 0 c.Memory
none_taken port first = record {
  packets = [];
  went = [];
  passed = passed_none port;
  taken_is = refl;
  replies = inl (refl, prefix_self first);
}

-- a packet without its reply, for whichever reason
pub one_failing : (old mid new : PortState) (first now last : List Command) (taken : ℕ) (d : Datagram) (fail : KeepFail)
    → Served old mid first now taken c.Done → Passed mid new (d ∷ []) [] → IsPrefix now last → Served old new first last (taken + 1) (cause_of fail)
one_failing old mid new first now last taken d k.Failed s p more = one_faulty old mid new first now last taken d s p more
one_failing old mid new first now last taken d k.Memory s p more = one_wanting old mid new first now last taken d s p more
