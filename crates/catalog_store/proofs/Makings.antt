-- Sessions and prepared queries that are made, written or removed.
use Rattle.std.proofs.Common.{◌≡◌, ℕ, ◌+◌, Bool, true, false, not, cond, ◌||◌, List, [], ◌∷◌, refl, sym, ◌∙◌, ap, subst, Option, Some, None, is_some}
use Rattle.std.specs.List.{AllByRecursion}
use Rattle.std.specs.Ordering.{nat_cmp, is_eq, is_lt, is_gt}
use Rattle.std.specs.Cmp.Lexicographic.{pointwise, pointwise_decides}
use Rattle.std.proofs.lemmas.Bool.{false≢true, true≢false}
use Rattle.std.proofs.lemmas.Cmp.{nat_cmp_total, tied_itself}
use Rattle.std.proofs.lemmas.Map.Lookups.{exact_unsigned}
use Rattle.cat_model.specs.Tables.{put, without}
use Rattle.cat_model.specs.Same.{same_session, same_query}
use Rattle.cat_model.specs.Catalog.{kv_at, node_at, session_at, session_key, query_at}
use Rattle.cat_model.specs.Machine.{act, broken, checks_refusal, create_session, or_else, refusal_of, unless}
use Rattle.cat_model.specs.Indexes.{is_reap}
use Rattle.cat_model.specs.Views.{moved}
use Rattle.cat_model.specs.declared.row.SessionRow.{SessionRow}
use Rattle.cat_model.specs.declared.row.QueryRow.{QueryRow}
use Rattle.cat_model.specs.declared.applied.Refuse.{Refuse}
use Rattle.cat_model.specs.declared.applied.Applied.TheVariants.{Done, Refused}
use Rattle.cat_model.specs.declared.query.Chan.{Chan}
use Rattle.cat_model.specs.declared.query.Chan.TheVariants.{Sessions, Queries, Key, Reaped}
use Rattle.cat_model.specs.declared.command.Command.{Command}
use Rattle.cat_model.specs.declared.command.Command.TheVariants.{SessionCreate, QueryDelete}
use Rattle.cat_model.proofs.SameLemmas.{session_decides, query_decides}
use Rattle.cat_model.proofs.TableLemmas.{All-append, All-filter, Ascends-put}
use Rattle.cat_model.proofs.Lookups.{row_at-put}
use Rattle.catalog_table.specs.Rows.{catalog_of}
use Rattle.touch_positions.specs.States.{with_table}
use Rattle.touch_positions.specs.declared.positions.Table.TheVariants as table
use Rattle.catalog_store.specs.Firing.{FiresJust}
use Rattle.catalog_store.proofs.Fires.{fires_none, fires_one, same_row}
use Rattle.catalog_store.specs.States.{State, whole}
use Rattle.catalog_store.specs.Standing.{Ready}
use Rattle.catalog_store.specs.Whole.{Acts, ActsWhole}
use Rattle.catalog_store.specs.Making.{IsCreate, made_session, create_refused}
use Rattle.catalog_store.specs.Ending.{sessions_differ, queries_differ, still_fires}
use Rattle.catalog_store.proofs.Quiet.{same_keys, fit_later, same_sessions, same_queries, just_same, still, still_acts, still_row}
use Rattle.catalog_store.specs.Registering.{one_if, touched_if}
use Rattle.catalog_store.proofs.Endings.{fit_kept}
use Rattle.catalog_store.proofs.Loops.{differ_is, eq_same, eqb_turned, found_any}

-- 1. Sessions.
create_plain : (c : Command) → IsCreate c → is_reap c ≡ false
create_plain (SessionCreate id name node checks behavior delay_ms ttl_ms) h = refl
create_plain other h = absurd h

create_is : (i : ℕ) (c : Command) → IsCreate c → (s : State) → act i c (whole s) ≡ unless (create_refused (made_session i c) s.sessions s.rows) (whole s) (record (whole s) { sessions = put nat_cmp session_key (made_session i c) s.sessions }, Done)
unfolding act create_session
create_is i (SessionCreate id name node checks behavior delay_ms ttl_ms) h s = refl
create_is i other h s = absurd h

-- what a refusal of none says
untaken : (taken missing : Bool) (a b : Refuse) (rest : Option Refuse) → or_else (refusal_of ((taken, a) ∷ (missing, b) ∷ [])) rest ≡ None → (taken ≡ false) × (missing ≡ false) × (rest ≡ None)
untaken true missing a b rest e = let clash : Some a ≡ None = e in absurd (true≢false (ap is_some clash))
untaken false true a b rest e = let clash : Some b ≡ None = e in absurd (true≢false (ap is_some clash))
untaken false false a b rest e = (refl, refl, e)

module _ (i : ℕ) (c : Command) (is : IsCreate c) (old : State) (ready : Ready i old) where
  abbrev s : SessionRow
  s = made_session i c

  abbrev after : List SessionRow
  after = put nat_cmp session_key s old.sessions

  pub create_refuses : (refuse : Refuse) → create_refused s old.sessions old.rows ≡ Some refuse → ActsWhole i c old old (Refused refuse) []
  unfolding unless
  create_refuses refuse e = record {
    acts = still_row i c old ready (Refused refuse) (create_plain c is) (create_is i c is old ∙ ap (λ o. unless o (whole old) (record (whole old) { sessions = after }, Done)) e);
    whole = ready.whole;
  }

  module _ (goes : create_refused s old.sessions old.rows ≡ None) where
    parts : (is_some (session_at s.id old.sessions) ≡ false) × (not (is_some (node_at s.node old.rows.nodes)) ≡ false) × (checks_refusal s.node s.checks old.rows.checks ≡ None)
    parts = untaken _ _ _ _ _ goes

    differs : sessions_differ old.sessions after ≡ true
    differs = go (pointwise same_session old.sessions after) refl
      where
        there : session_at s.id after ≡ Some s
        there = row_at-put nat_cmp session_key nat_cmp_total exact_unsigned s.id s old.sessions ∙ ap (λ o. cond (is_eq o) (Some s) (session_at s.id old.sessions)) (tied_itself nat_cmp_total s.id)

        go : (b : Bool) → pointwise same_session old.sessions after ≡ b → not b ≡ true
        go true e = absurd (true≢false (sym (ap is_some (ap (session_at s.id) ((pointwise_decides session_decides old.sessions after).0 e) ∙ there)) ∙ parts.0))
        go false e = refl

    unbroken : broken (catalog_of old.rows) s ≡ false
    unfolding broken
    unbroken = (λ j. parts.1 j || is_some (parts.2 j))

    abbrev made : State
    made = record old { sessions = after; index = with_table table.Sessions i old.index }

    made_is : still i c old ready old.version old.keys after old.queries ≡ made
    made_is = λ j. record old { sessions = after; index = record old.index { sessions = moved i (differs j) old.index.sessions; queries = moved i (same_queries old.queries j) old.index.queries } }

    only : (chan : Chan) → still_fires (is_reap c) old (still i c old ready old.version old.keys after old.queries) chan ≡ true → Sessions ≡ chan
    only Sessions e = refl
    only Queries e = absurd (false≢true (sym (same_queries old.queries) ∙ e))
    only (Key key) e = absurd (false≢true (sym (ap not (same_row (kv_at key old.keys.rows))) ∙ e))
    only Reaped e = absurd (false≢true (sym (create_plain c is) ∙ e))
    only other e = absurd (false≢true e)

    pub create_goes : ActsWhole i c old made Done (Sessions ∷ [])
    unfolding unless put
    create_goes = record {
      acts = subst (λ (t : State). Acts i c old t Done (Sessions ∷ [])) made_is
          (still_acts i c old ready old.version old.keys after old.queries Done (Sessions ∷ [])
          (create_is i c is old ∙ ap (λ o. unless o (whole old) (record (whole old) { sessions = after }, Done)) goes)
          (same_keys i c old.keys (create_plain c is)) (fires_one _ Sessions differs only)
          (Ascends-put nat_cmp session_key nat_cmp_total s old.sessions ready.order) (fit_later i old.queries ready.fit));
      whole = all_put;
    }
      where
        all_put : AllByRecursion (λ t. broken (catalog_of old.rows) t ≡ false) after
        all_put =
            All-append (λ t. broken (catalog_of old.rows) t ≡ false) _ _ (All-filter (λ t. broken (catalog_of old.rows) t ≡ false) (λ t. is_lt (nat_cmp t.id s.id)) old.sessions ready.whole)
            (unbroken, All-filter (λ t. broken (catalog_of old.rows) t ≡ false) (λ t. is_gt (nat_cmp t.id s.id)) old.sessions ready.whole)

-- 2. Prepared queries.
abbrev only_queries : Bool → Chan → Bool
only_queries b Queries = b
only_queries b other = false

only_just : (b : Bool) → FiresJust (only_queries b) (one_if b Queries)
only_just true = fires_one _ Queries refl only
  where
    only : (chan : Chan) → only_queries true chan ≡ true → Queries ≡ chan
    only Queries e = refl
    only other e = absurd (false≢true e)
only_just false = fires_none _ none
  where
    none : (chan : Chan) → only_queries false chan ≡ false
    none Queries = refl
    none other = refl

module _ (i : ℕ) (id : ℕ) (old : State) (ready : Ready i old) where
  abbrev goes_with : QueryRow → Bool
  goes_with r = is_eq (nat_cmp id r.id)

  abbrev left : List QueryRow
  left = without goes_with old.queries

  delete_is : act i (QueryDelete id) (whole old) ≡ (record (whole old) { queries = left }, Done)
  unfolding act
  delete_is = λ j. (record (whole old) { queries = without (λ (r : QueryRow). (eqb_turned r.id id ∙ sym (eq_same id r.id)) j) old.queries }, Done)

  told : queries_differ old.queries left ≡ is_some (query_at id old.queries)
  told = differ_is same_query query_decides goes_with old.queries ∙ sym (found_any goes_with old.queries)

  abbrev removed : State
  removed = record old { queries = left; index = touched_if (is_some (query_at id old.queries)) table.Queries i old.index }

  abbrev as_still : State
  as_still = still i (QueryDelete id) old ready old.version old.keys old.sessions left

  touched_is : (b : Bool) → record old.index { queries = moved i b old.index.queries } ≡ touched_if b table.Queries i old.index
  touched_is true = refl
  touched_is false = refl

  removed_is : as_still ≡ removed
  removed_is =
      (λ j. record old { queries = left; index = record old.index { sessions = moved i (same_sessions old.sessions j) old.index.sessions; queries = moved i (told j) old.index.queries } })
      ∙ (λ j. record old { queries = left; index = touched_is (is_some (query_at id old.queries)) j })

  fires_left : (chan : Chan) → still_fires false old as_still chan ≡ only_queries (is_some (query_at id old.queries)) chan
  fires_left Sessions = same_sessions old.sessions
  fires_left Queries = told
  fires_left (Key key) = ap not (same_row (kv_at key old.keys.rows))
  fires_left Reaped = refl
  fires_left other = refl

  pub delete_acts : (chans : List Chan) → chans ≡ one_if (is_some (query_at id old.queries)) Queries → ActsWhole i (QueryDelete id) old removed Done chans
  delete_acts chans is = record {
    acts = subst (λ (t : State). Acts i (QueryDelete id) old t Done chans) removed_is
        (still_acts i (QueryDelete id) old ready old.version old.keys old.sessions left Done chans delete_is (same_keys i (QueryDelete id) old.keys refl)
        (subst (FiresJust (still_fires false old as_still)) (sym is) (just_same _ _ (one_if (is_some (query_at id old.queries)) Queries) fires_left (only_just (is_some (query_at id old.queries)))))
        ready.order (fit_kept (i + 1) (λ q. not (goes_with q)) old.queries (fit_later i old.queries ready.fit)));
    whole = ready.whole;
  }
