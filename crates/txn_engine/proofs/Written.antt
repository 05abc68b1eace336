-- Changes whose rows are written at a position.
use Rattle.std.proofs.Common.{◌≡◌, ℕ, List, ◌∷◌, sym, subst, filter}
use Rattle.std.specs.Prelude.{OnOk, OnErr}
use Rattle.std.specs.declared.result.Result.{Result}
use Rattle.std.specs.declared.result.Result.TheVariants.{Ok, Err}
use Rattle.std.specs.Ordering.{is_lt, is_gt}
use Rattle.cat_model.specs.Keys.{text_cmp}
use Rattle.cat_model.specs.Tables.{put}
use Rattle.cat_model.proofs.TableLemmas.{All-filter, All-append}
use Rattle.txn_engine.specs.declared.change.Change.{Change}
use Rattle.txn_engine.specs.Changes.{change_key, WrittenAt, AllWritten}

put_written : (i : ℕ) (c : Change) (cs : List Change) → WrittenAt i c → AllWritten i cs → AllWritten i (put text_cmp change_key c cs)
unfolding put
put_written i c cs at all =
    All-append (λ x. WrittenAt i x) (filter (λ x. is_lt (text_cmp (change_key x) (change_key c))) cs) (c ∷ filter (λ x. is_gt (text_cmp (change_key x) (change_key c))) cs)
    (All-filter (λ x. WrittenAt i x) (λ x. is_lt (text_cmp (change_key x) (change_key c))) cs all)
    (at, All-filter (λ x. WrittenAt i x) (λ x. is_gt (text_cmp (change_key x) (change_key c))) cs all)

-- the change is put, or the changes stay as they were
pub set_written : {A E : Type 0} (r : Result A E) (c : Change) (old new : List Change) → OnOk r (new ≡ put text_cmp change_key c old) → OnErr r (new ≡ old) → (i : ℕ) → WrittenAt i c → AllWritten i old → AllWritten i new
set_written (Ok x) c old new ok same i at all = subst (AllWritten i) (sym ok) (put_written i c old at all)
set_written (Err e) c old new ok same i at all = subst (AllWritten i) (sym same) all
