-- A query that hangs on no channel that a command fires is not touched by it, and so reads as before.
use Rattle.std.proofs.Common.{◌≡◌, ◌+◌, Bool, true, false, cond, List, [], ◌∷◌, ◌++◌, length, refl, sym, ◌∙◌, ap, subst, reverse}
use Rattle.std.proofs.lemmas.Bool.{true≢false}
use Rattle.std.proofs.lemmas.List.{reverse-append}
use Rattle.cat_model.specs.Machine.{at_past, catalog_at}
use Rattle.cat_model.specs.Indexes.{touches, past_index, index_of}
use Rattle.cat_model.specs.Channels.{chans, fires, IsReached}
use Rattle.cat_model.specs.Reach.{is_on}
use Rattle.cat_model.specs.declared.query.Query.{Query}
use Rattle.cat_model.specs.declared.query.Chan.{Chan}
use Rattle.cat_model.specs.declared.command.Command.{Command}
use Rattle.cat_model.proofs.IndexLaw.{untouched, index_more}
use Rattle.cat_model.proofs.Covering.{covering_law}
use Rattle.cat_model.proofs.Reaching.{same_chans, hit_by}
use Rattle.catalog_store.specs.Firing.{FiresJust}
use Rattle.applied_state.specs.Sparing.{SparesOthers}

module _ (past : List Command) (command : Command) where
  not_touched : (fired : List Chan) (q : Query) → FiresJust (fires (catalog_at past) command (catalog_at (past ++ command ∷ []))) fired → is_on fired (chans q (catalog_at past)) ≡ false
      → touches q (catalog_at past) command (catalog_at (past ++ command ∷ [])) ≡ false
  not_touched fired q all out = go (touches q (catalog_at past) command (catalog_at (past ++ command ∷ []))) refl
    where
      go : (b : Bool) → touches q (catalog_at past) command (catalog_at (past ++ command ∷ [])) ≡ b → b ≡ false
      go false e = refl
      go true e =
          let r : IsReached (catalog_at past) command (catalog_at (past ++ command ∷ [])) (chans q (catalog_at past)) = covering_law q past command e in
          absurd (true≢false (sym (hit_by fired (chans q (catalog_at past)) r.fired r.chan (all.every r.fired r.fires) r.stands r.reaches) ∙ out))

  log_more : reverse (past ++ command ∷ []) ≡ command ∷ reverse past
  log_more = reverse-append past (command ∷ [])

  index_stays : (q : Query) → touches q (catalog_at past) command (catalog_at (past ++ command ∷ [])) ≡ false → index_of q (past ++ command ∷ []) ≡ index_of q past
  index_stays q t =
      let still : touches q (at_past (reverse past)) command (at_past (command ∷ reverse past)) ≡ false = ap (λ l. touches q (at_past (reverse past)) command (at_past l)) (sym log_more) ∙ t in
      ap (past_index q) log_more ∙ index_more q command (reverse past) ∙ ap (λ b. cond b (length (reverse past) + 1) (past_index q (reverse past))) still

  spares_rest : (fired : List Chan) → FiresJust (fires (catalog_at past) command (catalog_at (past ++ command ∷ []))) fired → SparesOthers past (past ++ command ∷ []) fired
  spares_rest fired all q out =
      let t = not_touched fired q all out in
      (index_stays q t, sym (same_chans q (catalog_at past) (catalog_at (past ++ command ∷ [])) (untouched q (catalog_at past) command (catalog_at (past ++ command ∷ [])) t)))

  -- these commands are seen as the past
  pub spares_others : (seen : List Command) → past ≡ seen → (fired : List Chan) → FiresJust (fires (catalog_at past) command (catalog_at (past ++ command ∷ []))) fired → SparesOthers seen (seen ++ command ∷ []) fired
  spares_others seen same fired all = subst (λ log. SparesOthers log (log ++ command ∷ []) fired) same (spares_rest fired all)
