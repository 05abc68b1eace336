-- Which keys ended sessions hold, one session after another.
use Rattle.std.proofs.Common.{◌≡◌, ℕ, Bool, true, false, cond, ◌||◌, List, [], ◌∷◌, ◌++◌, refl, sym, ◌∙◌, ap, Option, Some, None, map, filter, nat_eq}
use Rattle.std.specs.List.{AllByRecursion}
use Rattle.std.specs.Ordering.{is_eq, nat_cmp}
use Rattle.std.specs.declared.cmp.Ordering.TheVariants.{Less, Equal}
use Rattle.std.proofs.lemmas.Bool.{false≢true}
use Rattle.std.proofs.lemmas.Bool.Decides.{Decides-eqb}
use Rattle.std.proofs.lemmas.Cmp.{nat_list_cmp_total, nat_cmp_total, tied_itself}
use Rattle.std.proofs.lemmas.List.Folds.{list_any-append}
use Rattle.std.proofs.lemmas.Map.Lookups.{exact_bytes, exact_unsigned}
use Rattle.cat_model.specs.Keys.{text_cmp}
use Rattle.cat_model.specs.Tables.{put, Ascends}
use Rattle.cat_model.specs.Catalog.{kv_at, kv_key, session_at, session_key}
use Rattle.cat_model.specs.Machine.{ended_holder}
use Rattle.cat_model.specs.declared.row.KvRow.{KvRow}
use Rattle.cat_model.specs.declared.row.SessionRow.{SessionRow}
use Rattle.cat_model.proofs.TableLemmas.{eq_is}
use Rattle.cat_model.proofs.Lookups.{row_at-put, row_at-append}
use Rattle.cat_model.proofs.Elements.{Ascends-filter_map}
use Rattle.cat_model.proofs.InOrder.{key_of_found}
use Rattle.kv_table.specs.States.{is_held_by}
use Rattle.catalog_store.specs.declared.key_commands.freed_keys.Holding.{Holding}
use Rattle.catalog_store.specs.Freeing.{holding, holding_key, holding_at, holdings, row_holding, found_holding, is_among, Notes, NotesOf}
use Rattle.catalog_store.proofs.FreeingTables.{same_table, row_at-made, or_row, made_of}

-- 1. One key more.
pub notes_none : (s : SessionRow) (old : List Holding) → Notes s [] old old
notes_none s old = record { found = λ q. refl }

pub notes_more : (s : SessionRow) (keys : List (List ℕ)) (key : List ℕ) (old mid new : List Holding) → Notes s keys old mid → new ≡ put text_cmp holding_key (holding s key) mid → Notes s (keys ++ key ∷ []) old new
notes_more s keys key old mid new notes is = record {
  found = λ q. ap (holding_at q) is ∙ row_at-put text_cmp holding_key nat_list_cmp_total exact_bytes q (holding s key) mid ∙ go q (is_eq (text_cmp q key)) refl (is_among keys q) (notes.found q)
      ∙ sym (ap (λ b. cond b (Some (holding s q)) (holding_at q old)) (list_any-append (λ k. is_eq (text_cmp q k)) keys (key ∷ [])));
}
  where
    go : (q : List ℕ) (b : Bool) → is_eq (text_cmp q key) ≡ b → (a : Bool) → holding_at q mid ≡ cond a (Some (holding s q)) (holding_at q old)
        → cond (is_eq (text_cmp q key)) (Some (holding s key)) (holding_at q mid) ≡ cond (a || (is_eq (text_cmp q key) || false)) (Some (holding s q)) (holding_at q old)
    go q true e a h =
        ap (λ b. cond b (Some (holding s key)) (holding_at q mid)) e ∙ ap (λ k. Some (holding s k)) (sym (exact_bytes q key (eq_is text_cmp kv_key nat_list_cmp_total _ e)))
        ∙ sym (either a (Some (holding s q)) (holding_at q old)) ∙ ap (λ b. cond (a || (b || false)) (Some (holding s q)) (holding_at q old)) (sym e)
      where
        either : (a : Bool) (x y : Option Holding) → cond (a || (true || false)) x y ≡ x
        either true x y = refl
        either false x y = refl
    go q false e a h = ap (λ b. cond b (Some (holding s key)) (holding_at q mid)) e ∙ h ∙ sym (neither a (Some (holding s q)) (holding_at q old)) ∙ ap (λ b. cond (a || (b || false)) (Some (holding s q)) (holding_at q old)) (sym e)
      where
        neither : (a : Bool) (x y : Option Holding) → cond (a || (false || false)) x y ≡ cond a x y
        neither true x y = refl
        neither false x y = refl

-- 2. One session more.
abbrev passes : (KvRow → Bool) → Option KvRow → Bool
passes test None = false
passes test (Some r) = test r

not_among : (k : List ℕ) (test : KvRow → Bool) (q : List ℕ) (rows : List KvRow) → text_cmp q k ≡ Equal → AllByRecursion (λ s. text_cmp k s.key ≡ Less) rows → is_among (map kv_key (filter test rows)) q ≡ false
not_among k test q [] tie h = refl
not_among k test q (r ∷ rows) tie h = go (test r) (not_among k test q rows tie h.1)
  where
    go : (b : Bool) → is_among (map kv_key (filter test rows)) q ≡ false → is_among (map kv_key (cond b (r ∷ filter test rows) (filter test rows))) q ≡ false
    go true rest = ap (λ o. is_eq o || is_among (map kv_key (filter test rows)) q) (nat_list_cmp_total.congr q k r.key tie ∙ h.0) ∙ rest
    go false rest = rest

-- a key is one of the rows that pass where its row passes
among_passing : (test : KvRow → Bool) (q : List ℕ) (rows : List KvRow) → Ascends text_cmp kv_key rows → is_among (map kv_key (filter test rows)) q ≡ passes test (kv_at q rows)
among_passing test q [] asc = refl
among_passing test q (r ∷ rows) asc = go (is_eq (text_cmp q r.key)) refl (test r) refl (among_passing test q rows asc.1)
  where
    rest : List (List ℕ)
    rest = map kv_key (filter test rows)

    go : (e : Bool) → is_eq (text_cmp q r.key) ≡ e → (b : Bool) → test r ≡ b → is_among rest q ≡ passes test (kv_at q rows)
        → is_among (map kv_key (cond b (r ∷ filter test rows) (filter test rows))) q ≡ passes test (cond e (Some r) (kv_at q rows))
    go true e true t h = ap (λ b. b || is_among rest q) e ∙ sym t
    go true e false t h = not_among r.key test q rows (eq_is text_cmp kv_key nat_list_cmp_total _ e) asc.0 ∙ sym t
    go false e true t h = ap (λ b. b || is_among rest q) e ∙ h
    go false e false t h = h

pub notes_of_none : (rows : List KvRow) → NotesOf [] rows []
notes_of_none rows = record { found = λ q. sym (nothing (kv_at q rows)) }
  where
    no_one : (r : KvRow) (o : Option ℕ) → row_holding r (ended_holder [] o) ≡ None
    no_one r None = refl
    no_one r (Some id) = refl

    nothing : (o : Option KvRow) → found_holding [] o ≡ None
    nothing None = refl
    nothing (Some r) = no_one r r.session

-- of one session more: its own keys, and those of the others
module _ (gone : List SessionRow) (s : SessionRow) (other : session_at s.id gone ≡ None) where
  ended_more : (id : ℕ) (b : Bool) → nat_eq id s.id ≡ b → session_at id (gone ++ s ∷ []) ≡ cond b (Some s) (session_at id gone)
  ended_more id true e =
      let same : id ≡ s.id = (Decides-eqb id s.id).0 e in
      ap (λ j. session_at j (gone ++ s ∷ [])) same ∙ row_at-append nat_cmp session_key nat_cmp_total exact_unsigned s.id gone (s ∷ [])
      ∙ ap (λ o. or_row o (session_at s.id (s ∷ []))) other ∙ ap (λ o. cond (is_eq o) (Some s) None) (tied_itself nat_cmp_total s.id)
  ended_more id false e =
      row_at-append nat_cmp session_key nat_cmp_total exact_unsigned id gone (s ∷ []) ∙ go (session_at id gone) (is_eq (nat_cmp id s.id)) refl
    where
      go : (o : Option SessionRow) (t : Bool) → is_eq (nat_cmp id s.id) ≡ t → or_row o (cond t (Some s) None) ≡ o
      go (Some r) t h = refl
      go None false h = refl
      go None true h = absurd (false≢true (sym e ∙ (Decides-eqb id s.id).1 (exact_unsigned id s.id (eq_is nat_cmp session_key nat_cmp_total _ h))))

  pub notes_of_more : (rows : List KvRow) (old new : List Holding) → Ascends text_cmp kv_key rows → NotesOf gone rows old → Notes s (map kv_key (filter (is_held_by s.id) rows)) old new → NotesOf (gone ++ s ∷ []) rows new
  notes_of_more rows old new asc notes more = record {
    found = λ q. more.found q ∙ ap (λ b. cond b (Some (holding s q)) (holding_at q old)) (among_passing (is_held_by s.id) q rows asc) ∙ ap (cond (passes (is_held_by s.id) (kv_at q rows)) (Some (holding s q))) (notes.found q) ∙ go q (kv_at q rows) refl;
  }
    where
      of_row : (q : List ℕ) (r : KvRow) → q ≡ r.key → (o : Option ℕ) → r.session ≡ o → cond (is_held_by s.id r) (Some (holding s q)) (row_holding r (ended_holder gone r.session)) ≡ row_holding r (ended_holder (gone ++ s ∷ []) r.session)
      of_row q r key None e = ap (λ o. cond (held o) (Some (holding s q)) (row_holding r (ended_holder gone o))) e ∙ ap (λ o. row_holding r (ended_holder (gone ++ s ∷ []) o)) (sym e)
        where
          held : Option ℕ → Bool
          held o = is_held_by s.id (record r { session = o })
      of_row q r key (Some id) e = ap (λ o. cond (held o) (Some (holding s q)) (row_holding r (ended_holder gone o))) e ∙ by (nat_eq id s.id) refl ∙ ap (λ o. row_holding r (ended_holder (gone ++ s ∷ []) o)) (sym e)
        where
          held : Option ℕ → Bool
          held o = is_held_by s.id (record r { session = o })

          by : (b : Bool) → nat_eq id s.id ≡ b → cond (nat_eq id s.id) (Some (holding s q)) (row_holding r (session_at id gone)) ≡ row_holding r (session_at id (gone ++ s ∷ []))
          by true t = ap (λ b. cond b (Some (holding s q)) (row_holding r (session_at id gone))) t ∙ ap (λ k. Some (holding s k)) key ∙ ap (row_holding r) (sym (ended_more id true t))
          by false t = ap (λ b. cond b (Some (holding s q)) (row_holding r (session_at id gone))) t ∙ ap (row_holding r) (sym (ended_more id false t))

      go : (q : List ℕ) (o : Option KvRow) → kv_at q rows ≡ o → cond (passes (is_held_by s.id) o) (Some (holding s q)) (found_holding gone o) ≡ found_holding (gone ++ s ∷ []) o
      go q None e = refl
      go q (Some r) e = of_row q r (key_of_found text_cmp kv_key nat_list_cmp_total exact_bytes q rows r e) r.session refl

-- 3. All of them.
pub keeps_key : (gone : List SessionRow) (r : KvRow) (h : Holding) → row_holding r (ended_holder gone r.session) ≡ Some h → h.key ≡ r.key
keeps_key gone r h e = go (ended_holder gone r.session) e
  where
    go : (o : Option SessionRow) → row_holding r o ≡ Some h → h.key ≡ r.key
    go None e = let clash : None ≡ Some h = e in cc
    go (Some s) e = ap (λ o. elim o as (λ _. List ℕ) [ None ↦ r.key | Some x ↦ x.key ]) (sym e)

module _ (gone : List SessionRow) (rows : List KvRow) (asc : Ascends text_cmp kv_key rows) where
  pub holdings_ascend : Ascends text_cmp holding_key (holdings gone rows)
  holdings_ascend = Ascends-filter_map text_cmp kv_key holding_key (λ r. row_holding r (ended_holder gone r.session)) (keeps_key gone) rows asc

  pub holding_found : (q : List ℕ) → holding_at q (holdings gone rows) ≡ found_holding gone (kv_at q rows)
  holding_found q = row_at-made text_cmp kv_key holding_key nat_list_cmp_total (λ r. row_holding r (ended_holder gone r.session)) (keeps_key gone) q rows asc ∙ go (kv_at q rows)
    where
      go : (o : Option KvRow) → made_of text_cmp kv_key holding_key nat_list_cmp_total (λ r. row_holding r (ended_holder gone r.session)) (keeps_key gone) o ≡ found_holding gone o
      go None = refl
      go (Some r) = refl

  pub notes_are : (found : List Holding) → Ascends text_cmp holding_key found → NotesOf gone rows found → found ≡ holdings gone rows
  notes_are found order notes = same_table text_cmp holding_key nat_list_cmp_total found (holdings gone rows) order holdings_ascend (λ q. notes.found q ∙ sym (holding_found q))
