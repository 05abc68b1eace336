use Rattle.std.proofs.Common.{◌≡◌, ℕ, ◌≤◌, List, length, sym, ◌∙◌, ap, subst, take}
use Rattle.std.specs.List.{fold}
use Rattle.std.proofs.lemmas.Result.{on_ok_weaker}
use Rattle.cat_model.specs.declared.query.Chan.TheVariants.{Key}
use Rattle.read_watch.specs.Buckets.{mixed, bucket_of}
use Rattle.read_watch.specs.Hits.{ListNoted, ChanNoted}
use Rattle.read_watch.proofs.Hits.{key_noted, other_noted, list_at}
use Rattle.read_watch.proofs.hit.note_chan.Goals as goal

pub returns-in-Key-clause-noted : goal.returns-in-Key-clause-noted
returns-in-Key-clause-noted c =
    let bytes : List ℕ = c.as_bytes.result.now in
    let key : bytes ≡ c.in-Key.key = c.as_bytes.ensures.value ∙ c.as_str.ensures in
    on_ok_weaker c.note_prefixes.result
    (λ (all : (n : ℕ) → n ≤ length bytes → ListNoted c.args.list.now c.args.waiters.now.entries c.args.fired.now (fold mixed 9 (take n bytes)) c.note_prefixes.new.found.keys).
    subst (ChanNoted c.args.list.now c.args.waiters.now.entries c.args.fired.now c.note_prefixes.new.found.keys) (ap Key key ∙ sym c.in-Key.is)
    (key_noted c.args.list.now c.args.waiters.now.entries c.args.fired.now bytes c.note_list.new.found.keys c.note_prefixes.new.found.keys
    (list_at c.args.list.now c.args.waiters.now.entries c.args.fired.now c.note_list.new.found.keys c.bucket.result (bucket_of (Key bytes)) (c.bucket.ensures.is ∙ ap bucket_of (c.in-Key.is ∙ sym (ap Key key))) c.in_ok-note_list.ensures.noted)
    c.note_prefixes.ensures.keeps all))
    c.note_prefixes.ensures.noted

pub returns-in_default : goal.returns-in_default
returns-in_default c = record {
  sound = c.note_list.ensures.sound;
  keeps = c.note_list.ensures.keeps;
  noted = other_noted c.args.list.now c.args.waiters.now.entries c.args.fired.now c.args.chan.now c.note_list.new.found.keys (λ key e. c.in_default.not-Key key e)
      (list_at c.args.list.now c.args.waiters.now.entries c.args.fired.now c.note_list.new.found.keys c.bucket.result (bucket_of c.args.chan.now) c.bucket.ensures.is c.in_ok-note_list.ensures.noted);
}
