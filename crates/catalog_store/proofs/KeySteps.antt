-- Commands on keys, and the upgrade, as steps of all the tables.
use Rattle.std.proofs.Common.{◌≡◌, ℕ, List, [], refl, sym, ◌∙◌, subst}
use Rattle.cat_model.specs.Machine.{act}
use Rattle.cat_model.specs.Indexes.{is_reap}
use Rattle.cat_model.specs.Views.{moved}
use Rattle.cat_model.specs.declared.query.Chan.{Chan}
use Rattle.cat_model.specs.declared.query.Chan.TheVariants.{Sessions, Queries, Key, Reaped}
use Rattle.cat_model.specs.declared.applied.Applied.{Applied}
use Rattle.cat_model.specs.declared.applied.Applied.TheVariants.{Yes}
use Rattle.cat_model.specs.declared.command.Command.{Command}
use Rattle.cat_model.specs.declared.command.Command.TheVariants.{Upgrade}
use Rattle.kv_table.specs.States.{KvState, KvVersions}
use Rattle.catalog_store.specs.Firing.{keys_fire}
use Rattle.catalog_store.specs.Steps.{KeyStep}
use Rattle.catalog_store.proofs.Fires.{fires_none, all_quiet}
use Rattle.catalog_store.specs.States.{State, whole}
use Rattle.catalog_store.specs.Standing.{Ready}
use Rattle.catalog_store.specs.Whole.{Acts, ActsWhole}
use Rattle.catalog_store.specs.Ending.{still_fires}
use Rattle.catalog_store.proofs.Quiet.{same_keys, fit_later, same_sessions, same_queries, just_same, still, still_acts}

module _ (i : ℕ) (c : Command) (old : State) (ready : Ready i old) (version' : ℕ) (keys' : KvState) where
  abbrev new : State
  new = record old { version = version'; keys = keys' }

  abbrev as_still : State
  as_still = still i c old ready version' keys' old.sessions old.queries

  new_is : as_still ≡ new
  new_is = λ j. record old { version = version'; keys = keys'; index = record old.index { sessions = moved i (same_sessions old.sessions j) old.index.sessions; queries = moved i (same_queries old.queries j) old.index.queries } }

  fires_keys : (chan : Chan) → still_fires (is_reap c) old as_still chan ≡ keys_fire (is_reap c) old.keys.rows keys'.rows chan
  fires_keys Sessions = same_sessions old.sessions
  fires_keys Queries = same_queries old.queries
  fires_keys (Key key) = refl
  fires_keys Reaped = refl
  fires_keys other = refl

pub key_acts : (i : ℕ) (c : Command) (old : State) (ready : Ready i old) (kv kv' : KvVersions) (answer : Applied) (chans : List Chan) → kv.now ≡ old.keys → KeyStep old.version old.sessions i c kv kv' answer chans → ActsWhole i c old (record old { keys = kv'.now }) answer chans
key_acts i c old ready kv kv' answer chans is step =
    let from : KeyStep old.version old.sessions i c (record { now = old.keys; before = kv.before }) kv' answer chans = subst (λ (s : KvState). KeyStep old.version old.sessions i c (record { now = s; before = kv.before }) kv' answer chans) is step in
    record {
      acts = subst (λ (s : State). Acts i c old s answer chans) (new_is i c old ready old.version kv'.now)
          (still_acts i c old ready old.version kv'.now old.sessions old.queries answer chans (from.does (whole old) refl refl) from.indexes
          (just_same _ _ chans (fires_keys i c old ready old.version kv'.now) from.fires) ready.order (fit_later i old.queries ready.fit));
      whole = ready.whole;
    }

pub upgrade_acts : (i : ℕ) (old : State) (ready : Ready i old) (chans : List Chan) → chans ≡ [] → ActsWhole i Upgrade old (record old { version = 2 }) Yes chans
unfolding act
upgrade_acts i old ready chans none = record {
  acts = subst (Acts i Upgrade old (record old { version = 2 }) Yes) (sym none) (subst (λ (s : State). Acts i Upgrade old s Yes []) (new_is i Upgrade old ready 2 old.keys)
      (still_acts i Upgrade old ready 2 old.keys old.sessions old.queries Yes [] refl (same_keys i Upgrade old.keys refl)
      (fires_none _ (λ chan. fires_keys i Upgrade old ready 2 old.keys chan ∙ all_quiet old.keys.rows chan)) ready.order (fit_later i old.queries ready.fit)));
  whole = ready.whole;
}
