use Rattle.std.proofs.Common.{◌≡◌, ◌+◌, ℕ, List, sym, ◌∙◌, ap, take, get_or}
use Rattle.std.specs.List.{fold}
use Rattle.std.proofs.lemmas.List.{take_more}
use Rattle.read_watch.specs.Buckets.{mixed}
use Rattle.read_watch.proofs.Buckets.{fold_push}
use Rattle.read_watch.proofs.Hits.{prefixing_step}
use Rattle.read_watch.proofs.hit.note_prefixes.Goals as goal

pub loop-byte-preserved : goal.loop-byte-preserved
loop-byte-preserved c =
    let key : List ℕ = c.args.key.now in
    let at : ℕ = c.loop-byte.byte-index in
    let byte : ℕ = get_or key at 0 in
    let next : c.mixed-hash.result ≡ fold mixed 9 (take (at + 1) key) =
    c.mixed-hash.ensures.is ∙ ap (λ (h : ℕ). mixed h byte) c.loop-byte.invariant.is ∙ sym (fold_push 9 byte (take at key)) ∙ ap (fold mixed 9) (sym (take_more key at 0 c.loop-byte-test.true)) in
    prefixing_step c.args.list.now c.args.waiters.now.entries c.args.fired.now c.args.found.now.keys key at c.loop-byte.hash c.mixed-hash.result c.loop-byte.found.keys c.note_list-in-loop-byte.new.found.keys c.loop-byte.invariant next c.mixed-hash.ensures.within c.note_list-in-loop-byte.ensures.sound c.note_list-in-loop-byte.ensures.keeps c.in_ok-note_list-2.ensures.noted
