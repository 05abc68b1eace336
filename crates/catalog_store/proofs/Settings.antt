-- Prepared queries that are made or written anew.
use Rattle.std.proofs.Common.{◌≡◌, ℕ, ◌+◌, ◌<◌, Bool, true, false, not, cond, ◌&&◌, ◌||◌, List, [], ◌∷◌, ◌++◌, refl, sym, ◌∙◌, ap, subst, Option, Some, None, is_some, filter, find, nat_eq, ◌≢◌, length, arith}
use Rattle.std.specs.List.{AllByRecursion, list_any}
use Rattle.std.specs.Ordering.{nat_cmp, is_lt, is_gt}
use Rattle.std.specs.Cmp.Lexicographic.{pointwise, pointwise_decides}
use Rattle.std.proofs.lemmas.Bool.{false≢true, true≢false}
use Rattle.std.proofs.lemmas.Bool.Decides.{Decides-eqb}
use Rattle.std.proofs.lemmas.List.Folds.{list_any-append}
use Rattle.cat_model.specs.Keys.{same_text, is_empty}
use Rattle.cat_model.specs.Tables.{put}
use Rattle.cat_model.specs.Same.{same_query}
use Rattle.cat_model.specs.Catalog.{Catalog, kv_at, query_at, query_key}
use Rattle.cat_model.specs.Machine.{act, set_query, other_has_name, refusal_of, session_known, unless}
use Rattle.cat_model.specs.Indexes.{is_reap}
use Rattle.cat_model.specs.Views.{moved}
use Rattle.cat_model.specs.declared.row.QueryRow.{QueryRow}
use Rattle.cat_model.specs.declared.applied.Refuse.{Refuse}
use Rattle.cat_model.specs.declared.applied.Refuse.TheVariants as refusals
use Rattle.cat_model.specs.declared.applied.Applied.TheVariants.{Done, Refused}
use Rattle.cat_model.specs.declared.query.Chan.{Chan}
use Rattle.cat_model.specs.declared.query.Chan.TheVariants.{Sessions, Queries, Key, Reaped}
use Rattle.cat_model.specs.declared.command.Command.{Command}
use Rattle.cat_model.specs.declared.command.Command.TheVariants.{QuerySet}
use Rattle.cat_model.proofs.SameLemmas.{text_decides, query_decides}
use Rattle.cat_model.proofs.TableLemmas.{All-append, All-filter, All-weaker}
use Rattle.cat_model.proofs.InOrder.{found_in, found_by}
use Rattle.touch_positions.specs.States.{with_table}
use Rattle.touch_positions.specs.declared.positions.Table.TheVariants as table
use Rattle.query_table.specs.States.{is_named}
use Rattle.catalog_store.proofs.Fires.{fires_one, same_row}
use Rattle.catalog_store.specs.States.{State, whole}
use Rattle.catalog_store.specs.Standing.{Ready, QueriesFit}
use Rattle.catalog_store.specs.Whole.{Acts, ActsWhole}
use Rattle.catalog_store.specs.Making.{IsSet, made_query, makes_anew, known_in, set_refused, kept_create}
use Rattle.catalog_store.specs.Ending.{queries_differ, still_fires}
use Rattle.catalog_store.proofs.Endings.{any_fewer}
use Rattle.catalog_store.proofs.Quiet.{same_keys, same_sessions, still, still_acts, still_row}

-- the names of others, which do not clash
abbrev clashes : QueryRow → QueryRow → Bool
clashes q r = not (nat_eq r.id q.id) && same_text r.name q.name

-- 1. By the first query of a name.
none_named : (q : QueryRow) (rows : List QueryRow) → find (is_named q.name) rows ≡ None → list_any (clashes q) rows ≡ false
none_named q [] e = refl
none_named q (r ∷ rows) e = go (same_text r.name q.name) refl e (none_named q rows)
  where
    never : (b : Bool) → (b && false) ≡ false
    never true = refl
    never false = refl

    go : (b : Bool) → same_text r.name q.name ≡ b → cond b (Some r) (find (is_named q.name) rows) ≡ None → (find (is_named q.name) rows ≡ None → list_any (clashes q) rows ≡ false) → (clashes q r || list_any (clashes q) rows) ≡ false
    go true is e ih = let clash : Some r ≡ None = e in absurd (true≢false (ap is_some clash))
    go false is e ih = ap (λ b. (not (nat_eq r.id q.id) && b) || list_any (clashes q) rows) is ∙ ap (λ b. b || list_any (clashes q) rows) (never (not (nat_eq r.id q.id))) ∙ ih e

one_named : (q f : QueryRow) (rows : List QueryRow) → find (is_named q.name) rows ≡ Some f → nat_eq f.id q.id ≡ false → list_any (clashes q) rows ≡ true
one_named q f [] e other = let clash : None ≡ Some f = e in absurd (false≢true (ap is_some clash))
one_named q f (r ∷ rows) e other = go (same_text r.name q.name) refl e (λ t. one_named q f rows t other)
  where
    late : (b : Bool) → (b || true) ≡ true
    late true = refl
    late false = refl

    go : (b : Bool) → same_text r.name q.name ≡ b → cond b (Some r) (find (is_named q.name) rows) ≡ Some f → (find (is_named q.name) rows ≡ Some f → list_any (clashes q) rows ≡ true) → (clashes q r || list_any (clashes q) rows) ≡ true
    go true is e ih =
        let same : r.id ≡ f.id = ap (λ (o : Option QueryRow). elim o as (λ _. ℕ) [ None ↦ 0 | Some x ↦ x.id ]) e in
        ap (λ b. (not (nat_eq r.id q.id) && b) || list_any (clashes q) rows) is ∙ ap (λ b. (not b && true) || list_any (clashes q) rows) (ap (λ n. nat_eq n q.id) same ∙ other)
    go false is e ih = ap (λ b. clashes q r || b) (ih e) ∙ late (clashes q r)

pub named_none : (q : QueryRow) (rows : List QueryRow) → find (is_named q.name) rows ≡ None → false ≡ other_has_name q rows
named_none q rows e = sym (ap (λ b. not (is_empty q.name) && b) (none_named q rows e) ∙ never (not (is_empty q.name)))
  where
    never : (b : Bool) → (b && false) ≡ false
    never true = refl
    never false = refl

pub named_some : (i : ℕ) (q f : QueryRow) (rows : List QueryRow) → QueriesFit i rows → is_empty q.name ≡ false → find (is_named q.name) rows ≡ Some f → not (nat_eq f.id q.id) ≡ other_has_name q rows
named_some i q f rows fit full e = go (nat_eq f.id q.id) refl
  where
    name_is : f.name ≡ q.name
    name_is = (text_decides f.name q.name).0 (found_by (is_named q.name) rows f e)

    own : other_has_name f rows ≡ false
    own = found_in (λ r. other_has_name r rows ≡ false) (is_named q.name) rows fit.once f e

    go : (b : Bool) → nat_eq f.id q.id ≡ b → not (nat_eq f.id q.id) ≡ other_has_name q rows
    go true is =
        let ids : f.id ≡ q.id = (Decides-eqb f.id q.id).0 is in
        ap not is ∙ sym own ∙ (λ j. not (is_empty (name_is j)) && list_any (λ r. not (nat_eq r.id (ids j)) && same_text r.name (name_is j)) rows)
    go false is = ap not is ∙ sym (ap (λ b. not b && list_any (clashes q) rows) full ∙ one_named q f rows e is)

pub full_name : (name : List ℕ) → length name ≢ 0 → is_empty name ≡ false
full_name [] h = absurd (h refl)
full_name (x ∷ name) h = refl

-- 2. What the command does.
set_plain : (c : Command) → IsSet c → is_reap c ≡ false
set_plain (QuerySet id create name session service only_passing tags dns_ttl_ms) h = refl
set_plain other h = absurd h

set_modify : (i : ℕ) (c : Command) → IsSet c → (made_query i c).modify ≡ i
set_modify i (QuerySet id create name session service only_passing tags dns_ttl_ms) h = refl
set_modify i other h = absurd h

known_is : (k : Catalog) (o : Option ℕ) → session_known k o ≡ known_in k.sessions o
known_is k None = refl
known_is k (Some id) = refl

set_is : (i : ℕ) (c : Command) → IsSet c → (s : State) → act i c (whole s) ≡ unless (set_refused (makes_anew c) (made_query i c) s.sessions s.queries) (whole s) (record (whole s) { queries = put nat_cmp query_key (kept_create (made_query i c) s.queries) s.queries }, Done)
unfolding act set_query
set_is i (QuerySet id create name session service only_passing tags dns_ttl_ms) h s =
    let q : QueryRow = made_query i (QuerySet id create name session service only_passing tags dns_ttl_ms) in
    λ j. unless (refusal_of (
    (create && is_some (query_at q.id s.queries), refusals.IdTaken)
    ∷ (not create && not (is_some (query_at q.id s.queries)), refusals.UnknownQuery)
    ∷ (not (known_is (whole s) session j), refusals.UnknownSession)
    ∷ (other_has_name q s.queries, refusals.NameTaken)
    ∷ [])) (whole s) (record (whole s) { queries = put nat_cmp query_key (kept_create q s.queries) s.queries }, Done)
set_is i other h s = absurd h

module _ (i : ℕ) (c : Command) (is : IsSet c) (old : State) (ready : Ready i old) where
  abbrev q : QueryRow
  q = made_query i c

  abbrev new : QueryRow
  new = kept_create q old.queries

  abbrev after : List QueryRow
  after = put nat_cmp query_key new old.queries

  abbrev refused : Option Refuse
  refused = set_refused (makes_anew c) q old.sessions old.queries

  pub set_refuses : (refuse : Refuse) → refused ≡ Some refuse → ActsWhole i c old old (Refused refuse) []
  unfolding unless
  set_refuses refuse e = record {
    acts = still_row i c old ready (Refused refuse) (set_plain c is) (set_is i c is old ∙ ap (λ o. unless o (whole old) (record (whole old) { queries = after }, Done)) e);
    whole = ready.whole;
  }

  module _ (goes : refused ≡ None) where
    last : (t1 t2 t3 t4 : Bool) (a1 a2 a3 a4 : Refuse) → refusal_of ((t1, a1) ∷ (t2, a2) ∷ (t3, a3) ∷ (t4, a4) ∷ []) ≡ None → t4 ≡ false
    last true t2 t3 t4 a1 a2 a3 a4 e = let clash : Some a1 ≡ None = e in absurd (true≢false (ap is_some clash))
    last false true t3 t4 a1 a2 a3 a4 e = let clash : Some a2 ≡ None = e in absurd (true≢false (ap is_some clash))
    last false false true t4 a1 a2 a3 a4 e = let clash : Some a3 ≡ None = e in absurd (true≢false (ap is_some clash))
    last false false false true a1 a2 a3 a4 e = let clash : Some a4 ≡ None = e in absurd (true≢false (ap is_some clash))
    last false false false false a1 a2 a3 a4 e = refl

    unclashed : other_has_name new old.queries ≡ false
    unclashed = last (makes_anew c && is_some (query_at q.id old.queries)) (not (makes_anew c) && not (is_some (query_at q.id old.queries))) (not (known_in old.sessions q.session)) (other_has_name q old.queries) refusals.IdTaken refusals.UnknownQuery refusals.UnknownSession refusals.NameTaken goes

    modified : new.modify ≡ i
    modified = set_modify i c is

    middle : (P : QueryRow → Type 0) (a b : List QueryRow) → AllByRecursion P (a ++ new ∷ b) → P new
    middle P [] b h = h.0
    middle P (x ∷ a) b h = middle P a b h.1

    abbrev low : List QueryRow
    low = filter (λ r. is_lt (nat_cmp r.id new.id)) old.queries

    abbrev high : List QueryRow
    high = filter (λ r. is_gt (nat_cmp r.id new.id)) old.queries

    differs : queries_differ old.queries after ≡ true
    unfolding put
    differs = go (pointwise same_query old.queries after) refl
      where
        go : (b : Bool) → pointwise same_query old.queries after ≡ b → not b ≡ true
        go true e =
            let below : new.modify < i = middle (λ r. r.modify < i) low high (subst (AllByRecursion (λ r. r.modify < i)) ((pointwise_decides query_decides old.queries after).0 e) ready.fit.earlier) in
            absurd (omega (arith, below, modified))
        go false e = refl

    -- names are still once
    never : (b : Bool) → (b && false) ≡ false
    never true = refl
    never false = refl

    apart : (r : QueryRow) → (not (is_empty new.name) && clashes new r) ≡ false → other_has_name r old.queries ≡ false → other_has_name r after ≡ false
    unfolding put
    apart r clear own = go (not (is_empty r.name)) refl own
      where
        turned : (not (is_empty r.name)) ≡ true → clashes r new ≡ false
        turned full = by (nat_eq new.id r.id) refl (same_text new.name r.name) refl
          where
            by : (a : Bool) → nat_eq new.id r.id ≡ a → (b : Bool) → same_text new.name r.name ≡ b → clashes r new ≡ false
            by true ea b eb = ap (λ t. not t && same_text new.name r.name) ea
            by false ea false eb = ap (λ t. not (nat_eq new.id r.id) && t) eb ∙ never (not (nat_eq new.id r.id))
            by false ea true eb =
                let names : new.name ≡ r.name = (text_decides new.name r.name).0 eb in
                let ids : nat_eq r.id new.id ≡ false = other (nat_eq r.id new.id) refl in
                absurd (true≢false (sym (λ j. (ap (λ n. not (is_empty n)) names ∙ full) j && (not (ids j) && (text_decides r.name new.name).1 (sym names) j)) ∙ clear))
              where
                other : (t : Bool) → nat_eq r.id new.id ≡ t → t ≡ false
                other true is = absurd (true≢false (sym ((Decides-eqb new.id r.id).1 (sym ((Decides-eqb r.id new.id).0 is))) ∙ ea))
                other false is = refl

        go : (b : Bool) → not (is_empty r.name) ≡ b → (not (is_empty r.name) && list_any (clashes r) old.queries) ≡ false → (not (is_empty r.name) && list_any (clashes r) after) ≡ false
        go false e h = ap (λ b. b && list_any (clashes r) after) e
        go true e h =
            let none : list_any (clashes r) old.queries ≡ false = sym (ap (λ b. b && list_any (clashes r) old.queries) e) ∙ h in
            ap (λ b. b && list_any (clashes r) after) e
            ∙ list_any-append (clashes r) low (new ∷ high)
            ∙ (λ j. any_fewer (clashes r) (λ t. is_lt (nat_cmp t.id new.id)) old.queries none j || (turned e j || any_fewer (clashes r) (λ t. is_gt (nat_cmp t.id new.id)) old.queries none j))

    own_name : other_has_name new after ≡ false
    unfolding put
    own_name = go (not (is_empty new.name)) unclashed
      where
        self : clashes new new ≡ false
        self = ap (λ t. not t && same_text new.name new.name) ((Decides-eqb new.id new.id).1 refl)

        go : (b : Bool) → (b && list_any (clashes new) old.queries) ≡ false → (b && list_any (clashes new) after) ≡ false
        go false h = refl
        go true h = list_any-append (clashes new) low (new ∷ high) ∙ (λ j. any_fewer (clashes new) (λ t. is_lt (nat_cmp t.id new.id)) old.queries h j || (self j || any_fewer (clashes new) (λ t. is_gt (nat_cmp t.id new.id)) old.queries h j))

    all_clear : (rows : List QueryRow) → (not (is_empty new.name) && list_any (clashes new) rows) ≡ false → AllByRecursion (λ r. (not (is_empty new.name) && clashes new r) ≡ false) rows
    all_clear [] h = tt
    all_clear (r ∷ rows) h = (go (not (is_empty new.name)) (clashes new r) h, all_clear rows (rest (not (is_empty new.name)) (clashes new r) h))
      where
        go : (a b : Bool) → (a && (b || list_any (clashes new) rows)) ≡ false → (a && b) ≡ false
        go true true e = absurd (true≢false e)
        go true false e = refl
        go false b e = refl

        rest : (a b : Bool) → (a && (b || list_any (clashes new) rows)) ≡ false → (a && list_any (clashes new) rows) ≡ false
        rest true true e = absurd (true≢false e)
        rest true false e = e
        rest false b e = refl

    all_once : (rows : List QueryRow) → AllByRecursion (λ r. other_has_name r old.queries ≡ false) rows → AllByRecursion (λ r. (not (is_empty new.name) && clashes new r) ≡ false) rows → AllByRecursion (λ r. other_has_name r after ≡ false) rows
    all_once [] o k = tt
    all_once (r ∷ rows) o k = (apart r k.0 o.0, all_once rows o.1 k.1)

    fit_after : QueriesFit (i + 1) after
    unfolding put
    fit_after =
        let once : AllByRecursion (λ r. other_has_name r after ≡ false) old.queries = all_once old.queries ready.fit.once (all_clear old.queries unclashed) in
        let early : AllByRecursion (λ r. r.modify < i + 1) old.queries = All-weaker (λ r. r.modify < i) (λ r. r.modify < i + 1) (λ (r : QueryRow) h. omega (arith, h)) old.queries ready.fit.earlier in
        record {
          once = All-append (λ r. other_has_name r after ≡ false) low (new ∷ high) (All-filter (λ r. other_has_name r after ≡ false) (λ r. is_lt (nat_cmp r.id new.id)) old.queries once) (own_name, All-filter (λ r. other_has_name r after ≡ false) (λ r. is_gt (nat_cmp r.id new.id)) old.queries once);
          earlier = All-append (λ r. r.modify < i + 1) low (new ∷ high) (All-filter (λ r. r.modify < i + 1) (λ r. is_lt (nat_cmp r.id new.id)) old.queries early) (omega (arith, modified), All-filter (λ r. r.modify < i + 1) (λ r. is_gt (nat_cmp r.id new.id)) old.queries early);
        }

    abbrev written : State
    written = record old { queries = after; index = with_table table.Queries i old.index }

    written_is : still i c old ready old.version old.keys old.sessions after ≡ written
    written_is = λ j. record old { queries = after; index = record old.index { sessions = moved i (same_sessions old.sessions j) old.index.sessions; queries = moved i (differs j) old.index.queries } }

    only : (chan : Chan) → still_fires (is_reap c) old (still i c old ready old.version old.keys old.sessions after) chan ≡ true → Queries ≡ chan
    only Queries e = refl
    only Sessions e = absurd (false≢true (sym (same_sessions old.sessions) ∙ e))
    only (Key key) e = absurd (false≢true (sym (ap not (same_row (kv_at key old.keys.rows))) ∙ e))
    only Reaped e = absurd (false≢true (sym (set_plain c is) ∙ e))
    only other e = absurd (false≢true e)

    pub set_goes : ActsWhole i c old written Done (Queries ∷ [])
    unfolding unless
    set_goes = record {
      acts = subst (λ (t : State). Acts i c old t Done (Queries ∷ [])) written_is
          (still_acts i c old ready old.version old.keys old.sessions after Done (Queries ∷ [])
          (set_is i c is old ∙ ap (λ o. unless o (whole old) (record (whole old) { queries = after }, Done)) goes)
          (same_keys i c old.keys (set_plain c is)) (fires_one _ Queries differs only) ready.order fit_after);
      whole = ready.whole;
    }
