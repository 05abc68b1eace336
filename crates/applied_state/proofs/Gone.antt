-- A command removes a key exactly where it fires the channel of a key that is not there afterwards.
use Rattle.std.proofs.Common.{◌≡◌, ℕ, Bool, true, false, cond, not, ◌&&◌, ◌||◌, List, [], ◌∷◌, ◌++◌, reverse, is_some, refl, sym, ◌∙◌, ap, subst, Option, Some, None}
use Rattle.std.specs.Prelude.{Contains}
use Rattle.std.specs.List.{AllByRecursion as Each, list_any}
use Rattle.std.specs.declared.cmp.Ordering.{Ordering}
use Rattle.std.specs.declared.cmp.Ordering.TheVariants.{Less, Equal, Greater}
use Rattle.std.specs.Ordering.{is_eq}
use Rattle.std.proofs.lemmas.Bool.{false≢true}
use Rattle.std.proofs.lemmas.Cmp.{nat_list_cmp_total, tied_itself}
use Rattle.std.proofs.lemmas.List.{reverse-append}
use Rattle.std.proofs.lemmas.List.Folds.{list_any_at}
use Rattle.std.proofs.lemmas.Map.Lookups.{exact_bytes}
use Rattle.cat_model.specs.declared.command.Command.{Command}
use Rattle.cat_model.specs.declared.query.Chan.{Chan}
use Rattle.cat_model.specs.declared.query.Chan.TheVariants.{Key}
use Rattle.cat_model.specs.declared.row.KvRow.{KvRow}
use Rattle.cat_model.specs.Keys.{text_cmp}
use Rattle.cat_model.specs.Tables.{same_found}
use Rattle.cat_model.specs.Same.{same_kv}
use Rattle.cat_model.specs.Catalog.{Catalog, kv_at}
use Rattle.cat_model.specs.Channels.{fires}
use Rattle.cat_model.specs.Indexes.{is_reap}
use Rattle.cat_model.specs.Machine.{at_past, catalog_at}
use Rattle.cat_model.proofs.TableLemmas.{All-weaker}
use Rattle.catalog_store.specs.Firing.{FiresJust}
use Rattle.cluster_rules.specs.Offices.{has_removed, removed_since}
use Rattle.applied_state.specs.Removing.{is_gone}

-- the key of the row is not among these
lacks : List KvRow → KvRow → Bool
lacks after r = not (is_some (kv_at r.key after))

one_way : (a b : Bool) → (a ≡ true → b ≡ true) → (b ≡ true → a ≡ true) → a ≡ b
one_way true b f g = sym (f refl)
one_way false true f g = g refl
one_way false false f g = refl

or_right : (a b : Bool) → b ≡ true → (a || b) ≡ true
or_right true b e = refl
or_right false b e = e

equal_is : (o : Ordering) → is_eq o ≡ true → o ≡ Equal
equal_is Less e = absurd (false≢true e)
equal_is Equal e = refl
equal_is Greater e = absurd (false≢true e)

own_row : (rows : List KvRow) → Each (λ (r : KvRow). is_some (kv_at r.key rows) ≡ true) rows
own_row [] = tt
own_row (x ∷ rows) = (ap (λ o. is_some (cond (is_eq o) (Some x) (kv_at x.key rows))) (tied_itself nat_list_cmp_total x.key), All-weaker _ _ (λ r e. behind r e (is_eq (text_cmp r.key x.key))) rows (own_row rows))
  where
    behind : (r : KvRow) → is_some (kv_at r.key rows) ≡ true → (b : Bool) → is_some (cond b (Some x) (kv_at r.key rows)) ≡ true
    behind r e true = refl
    behind r e false = e

-- a key that was there before and is not there after
record Goes (before after : List KvRow) : Type 0 where
  key : List ℕ
  was : is_some (kv_at key before) ≡ true
  is : is_some (kv_at key after) ≡ false

some_row_goes : (before after rows : List KvRow) → Each (λ (r : KvRow). is_some (kv_at r.key before) ≡ true) rows → list_any (lacks after) rows ≡ true → Goes before after
unfolding lacks
some_row_goes before after [] a e = absurd (false≢true e)
some_row_goes before after (r ∷ rows) a e = go (some_row_goes before after rows a.1) (is_some (kv_at r.key after)) refl
  where
    go : (list_any (lacks after) rows ≡ true → Goes before after) → (b : Bool) → is_some (kv_at r.key after) ≡ b → Goes before after
    go more true t = more (sym (ap (λ b. not b || list_any (lacks after) rows) t) ∙ e)
    go more false t = record { key = r.key; was = a.0; is = t }

row_lacks : (after : List KvRow) (key : List ℕ) (rows : List KvRow) → is_some (kv_at key rows) ≡ true → is_some (kv_at key after) ≡ false → list_any (lacks after) rows ≡ true
unfolding lacks
row_lacks after key [] e gone = absurd (false≢true e)
row_lacks after key (r ∷ rows) e gone = go (λ f. row_lacks after key rows f gone) (is_eq (text_cmp key r.key)) refl
  where
    go : (is_some (kv_at key rows) ≡ true → list_any (lacks after) rows ≡ true) → (b : Bool) → is_eq (text_cmp key r.key) ≡ b → (not (is_some (kv_at r.key after)) || list_any (lacks after) rows) ≡ true
    go more true t =
        let same : key ≡ r.key = exact_bytes key r.key (equal_is (text_cmp key r.key) t) in
        let here : is_some (kv_at r.key after) ≡ false = subst (λ k. is_some (kv_at k after) ≡ false) same gone in
        ap (λ b. not b || list_any (lacks after) rows) here
    go more false t = or_right (not (is_some (kv_at r.key after))) (list_any (lacks after) rows) (more (sym (ap (λ b. is_some (cond b (Some r) (kv_at key rows))) t) ∙ e))

-- the rows of a key differ where it was there and is gone
differs : (a b : Option KvRow) → is_some a ≡ true → is_some b ≡ false → not (same_found same_kv a b) ≡ true
differs None b e f = absurd (false≢true e)
differs (Some x) None e f = refl
differs (Some x) (Some y) e f = absurd (false≢true (sym f))

was_there : (a b : Option KvRow) → not (same_found same_kv a b) ≡ true → is_some b ≡ false → is_some a ≡ true
was_there None None e f = absurd (false≢true e)
was_there None (Some y) e f = absurd (false≢true (sym f))
was_there (Some x) b e f = refl

turned : (b : Bool) → not b ≡ true → b ≡ false
turned true e = absurd (false≢true e)
turned false e = refl

found_any : (p : Chan → Bool) (chans : List Chan) (chan : Chan) → Contains chans chan → p chan ≡ true → list_any p chans ≡ true
found_any p chans chan h t = list_any_at p chans h.0 chan h.1 (ap p h.2 ∙ t)

gone_key : (before : Catalog) (c : Command) (after : Catalog) (chan : Chan) → fires before c after chan ≡ true → is_gone after.kv chan ≡ true → Goes before.kv after.kv
unfolding fires
gone_key before c after (Key key) f g =
    let gone = turned (is_some (kv_at key after.kv)) g in
    record { key = key; was = was_there (kv_at key before.kv) (kv_at key after.kv) f gone; is = gone }
gone_key before c after other f g = absurd (false≢true g)

some_key_goes : (before : Catalog) (c : Command) (after : Catalog) (chans : List Chan) → Each (λ chan. fires before c after chan ≡ true) chans → list_any (is_gone after.kv) chans ≡ true → Goes before.kv after.kv
some_key_goes before c after [] a e = absurd (false≢true e)
some_key_goes before c after (chan ∷ chans) a e = go (some_key_goes before c after chans a.1) (is_gone after.kv chan) refl
  where
    go : (list_any (is_gone after.kv) chans ≡ true → Goes before.kv after.kv) → (b : Bool) → is_gone after.kv chan ≡ b → Goes before.kv after.kv
    go more true t = gone_key before c after chan a.0 t
    go more false t = more (sym (ap (λ b. b || list_any (is_gone after.kv) chans) t) ∙ e)

key_fires : (before : Catalog) (c : Command) (after : Catalog) (g : Goes before.kv after.kv) → fires before c after (Key g.key) ≡ true
unfolding fires
key_fires before c after g = differs (kv_at g.key before.kv) (kv_at g.key after.kv) g.was g.is

some_removed : (before : Catalog) (c : Command) (after : Catalog) (chans : List Chan) → FiresJust (fires before c after) chans → list_any (lacks after.kv) before.kv ≡ list_any (is_gone after.kv) chans
some_removed before c after chans f = one_way (list_any (lacks after.kv) before.kv) (list_any (is_gone after.kv) chans) forth back
  where
    forth : list_any (lacks after.kv) before.kv ≡ true → list_any (is_gone after.kv) chans ≡ true
    forth e =
        let g = some_row_goes before.kv after.kv before.kv (own_row before.kv) e in
        found_any (is_gone after.kv) chans (Key g.key) (f.every (Key g.key) (key_fires before c after g)) (ap not g.is)

    back : list_any (is_gone after.kv) chans ≡ true → list_any (lacks after.kv) before.kv ≡ true
    back e =
        let g = some_key_goes before c after chans f.just e in
        row_lacks after.kv g.key before.kv g.was g.is

-- of a log whose last command stands first
removed_past : (past : List Command) (c : Command) (chans : List Chan) → FiresJust (fires (at_past past) c (at_past (c ∷ past))) chans
    → removed_since (c ∷ past) ≡ (not (is_reap c) && (list_any (is_gone (at_past (c ∷ past)).kv) chans || removed_since past))
unfolding lacks
removed_past past c chans f = ap (λ b. cond (is_reap c) false (b || removed_since past)) (some_removed (at_past past) c (at_past (c ∷ past)) chans f) ∙ unless (is_reap c) _
  where
    unless : (a b : Bool) → cond a false b ≡ (not a && b)
    unless true b = refl
    unless false b = refl

pub removed_now : (past : List Command) (c : Command) (chans : List Chan) → FiresJust (fires (catalog_at past) c (catalog_at (past ++ c ∷ []))) chans
    → has_removed (past ++ c ∷ []) ≡ (not (is_reap c) && (list_any (is_gone (catalog_at (past ++ c ∷ [])).kv) chans || has_removed past))
removed_now past c chans =
    let Goal : List Command → Type 0 = λ l. FiresJust (fires (at_past (reverse past)) c (at_past l)) chans → removed_since l ≡ (not (is_reap c) && (list_any (is_gone (at_past l).kv) chans || removed_since (reverse past))) in
    subst Goal (sym (reverse-append past (c ∷ []))) (removed_past (reverse past) c chans)
