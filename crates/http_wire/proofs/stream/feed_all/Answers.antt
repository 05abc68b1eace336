use Rattle.std.proofs.Common.{◌≡◌, ℕ, ◌∙◌, ap, sym, refl, List, [], ◌∷◌, ◌++◌, length, map, subst, append-nil, ◌<◌}
use Rattle.std.proofs.lemmas.List.{map-append}
use Rattle.http_wire.specs.Stream.{Given, go_on, whole}
use Rattle.http_wire.specs.declared.partial.RawRequest.{RawRequest}
use Rattle.http_wire.specs.Reader.{raw}
use Rattle.http_wire.specs.State.{given, Taking, Told}
use Rattle.http_wire.proofs.Told as told
use Rattle.http_wire.proofs.stream.feed_all.Goals as goal

pub feed-init : goal.feed-init
feed-init c = record {
  taken = [];
  parts = refl;
  follows = λ s t. subst (λ (l : List ℕ). Told l (map given c.args.items.now.items) c.args.reader.now.held c.args.reader.now.stop) (sym (append-nil s)) t;
}

pub returns-in-More : goal.returns-in-More
returns-in-More c =
    told.ends_more c.args.reader.now (map given c.args.items.now.items) c.args.piece.now c.feed.reader c.feed-fed.new.self (map given c.feed.items.items) c.feed.rest.now c.feed-fed.result.used c.feed-fed.result.got
    c.feed.invariant c.feed-fed.ensures.feeds c.in-More.is

pub returns-in-Refused : goal.returns-in-Refused
returns-in-Refused c =
    told.ends_refused c.args.reader.now (map given c.args.items.now.items) c.args.piece.now c.feed.reader c.feed-fed.new.self (map given c.feed.items.items) c.feed.rest.now c.feed-fed.result.used c.feed-fed.result.got c.in-Refused.field-0
    c.feed.invariant c.feed-fed.ensures.feeds c.in-Refused.is

pub feed-smaller-in-Continue-branch : goal.feed-smaller-in-Continue-branch
feed-smaller-in-Continue-branch c =
    subst (λ (l : List ℕ). length l < length c.feed.rest.now) (sym c.rest_of-rest.ensures)
    (told.continue_smaller c.feed.reader c.feed-fed.new.self c.feed.rest.now c.feed-fed.result.used c.feed-fed.result.got c.feed-fed.ensures.feeds c.in-Continue.is c.feed-fed.ensures.used)

pub feed-preserved-in-Continue-branch : goal.feed-preserved-in-Continue-branch
feed-preserved-in-Continue-branch c =
    let old = c.args.reader.now in
    let items = map given c.args.items.now.items in
    let q = c.feed-fed.new.self in
    let more : map given c.feed.items.items ++ go_on ∷ [] ≡ map given c.push.new.self.items =
    sym (ap (map given) c.in_ok-push-in-Continue.ensures.items ∙ map-append given c.feed.items.items _) in
    subst (λ (l : List Given). Taking old items c.args.piece.now q l c.rest_of-rest.result.now) more
    (subst (λ (l : List ℕ). Taking old items c.args.piece.now q (map given c.feed.items.items ++ go_on ∷ []) l) (sym c.rest_of-rest.ensures)
    (told.goes_continue old items c.args.piece.now c.feed.reader q (map given c.feed.items.items) c.feed.rest.now c.feed-fed.result.used c.feed-fed.result.got c.feed.invariant c.feed-fed.ensures.feeds c.in-Continue.is))

pub feed-smaller : goal.feed-smaller
feed-smaller c =
    subst (λ (l : List ℕ). length l < length c.feed.rest.now) (sym c.rest_of-rest.ensures)
    (told.message_smaller c.feed.reader c.feed-fed.new.self c.feed.rest.now c.feed-fed.result.used c.feed-fed.result.got c.in-Message.message c.feed-fed.ensures.feeds c.in-Message.is c.feed-fed.ensures.used)

pub feed-preserved : goal.feed-preserved
feed-preserved c =
    let old = c.args.reader.now in
    let items = map given c.args.items.now.items in
    let q = c.feed-fed.new.self in
    let m = c.in-Message.message in
    let more : map given c.feed.items.items ++ whole (raw m) ∷ [] ≡ map given c.push-in-Message.new.self.items =
    sym (ap (map given) c.in_ok-push-in-Message.ensures.items ∙ (map-append given c.feed.items.items _ ∙ ap (λ (x : RawRequest). map given c.feed.items.items ++ whole (raw x) ∷ []) c.in-Message.message-is)) in
    subst (λ (l : List Given). Taking old items c.args.piece.now q l c.rest_of-rest.result.now) more
    (subst (λ (l : List ℕ). Taking old items c.args.piece.now q (map given c.feed.items.items ++ whole (raw m) ∷ []) l) (sym c.rest_of-rest.ensures)
    (told.goes_message old items c.args.piece.now c.feed.reader q (map given c.feed.items.items) c.feed.rest.now c.feed-fed.result.used c.feed-fed.result.got m c.feed.invariant c.feed-fed.ensures.feeds c.in-Message.is))
