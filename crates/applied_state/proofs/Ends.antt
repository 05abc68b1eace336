-- Where a key's end is put.
use Rattle.std.proofs.Common.{◌≡◌, ℕ, ◌≤◌, ◌<◌, max, Bool, true, false, cond, List, Some, refl, sym, ◌∙◌, ap, subst, arith}
use Rattle.std.specs.Prelude.{if◌then◌else◌, Option}
use Rattle.std.specs.Ordering.{is_eq}
use Rattle.std.proofs.lemmas.Bool.{true≢false}
use Rattle.std.proofs.lemmas.Cmp.{nat_list_cmp_total, tied_itself}
use Rattle.std.proofs.lemmas.Map.Lookups.{exact_bytes}
use Rattle.cat_model.specs.Keys.{same_text, text_cmp}
use Rattle.cat_model.specs.Tables.{put, row_at}
use Rattle.cat_model.proofs.Lookups.{row_at-put}
use Rattle.cat_model.proofs.TableLemmas.{eq_is}
use Rattle.cat_model.proofs.SameLemmas.{text_decides}
use Rattle.applied_state.specs.Ends.{BeginsDelay, Puts, delay_key, end_in, end_of}

later_is : (a b : ℕ) → b < a → a ≡ max a b
later_is a b l = omega arith

under_is : (a b : ℕ) → a ≤ b → b ≡ max a b
under_is a b l = omega arith

-- the two tests of texts agree
same_as : (k key : List ℕ) → is_eq (text_cmp k key) ≡ same_text key k
same_as k key = go (is_eq (text_cmp k key)) refl (same_text key k) refl
  where
    go : (a : Bool) → is_eq (text_cmp k key) ≡ a → (b : Bool) → same_text key k ≡ b → is_eq (text_cmp k key) ≡ same_text key k
    go true e true s = e ∙ sym s
    go true e false s = absurd (true≢false (sym ((text_decides key k).1 (sym (exact_bytes k key (eq_is text_cmp delay_key nat_list_cmp_total _ e)))) ∙ s))
    go false e true s = absurd (true≢false (sym (ap is_eq (tied_itself nat_list_cmp_total k)) ∙ ap (λ n. is_eq (text_cmp k n)) (sym ((text_decides key k).0 s)) ∙ e))
    go false e false s = e ∙ sym s

chosen : (b : Bool) (d : List ℕ × ℕ) (o : Option (List ℕ × ℕ)) → end_in (cond b (Some d) o) ≡ (if b then d.1 else end_in o)
chosen true d o = refl
chosen false d o = refl

pub puts : (key : List ℕ) (end : ℕ) (old : List (List ℕ × ℕ)) → Puts key end old (put text_cmp delay_key (key, end) old)
puts key end old k =
    ap end_in (row_at-put text_cmp delay_key nat_list_cmp_total exact_bytes k (key, end) old)
    ∙ chosen (is_eq (text_cmp k key)) (key, end) (row_at text_cmp delay_key k old)
    ∙ ap (λ b. if b then end else end_of k old) (same_as k key)

pub begins_later : (key : List ℕ) (end : ℕ) (old new : List (List ℕ × ℕ)) → end_of key old < end → Puts key end old new → BeginsDelay key end old new
begins_later key end old new later p k = p k ∙ go (same_text key k) refl
  where
    go : (b : Bool) → same_text key k ≡ b → (if b then end else end_of k old) ≡ (if b then max end (end_of k old) else end_of k old)
    go true s =
        let same : end_of key old ≡ end_of k old = ap (λ q. end_of q old) ((text_decides key k).0 s) in
        later_is end (end_of k old) (subst (λ n. n < end) same later)
    go false s = refl

pub begins_under : (key : List ℕ) (end : ℕ) (old : List (List ℕ × ℕ)) → end ≤ end_of key old → BeginsDelay key end old old
begins_under key end old under k = go (same_text key k) refl
  where
    go : (b : Bool) → same_text key k ≡ b → end_of k old ≡ (if b then max end (end_of k old) else end_of k old)
    go true s =
        let same : end_of key old ≡ end_of k old = ap (λ q. end_of q old) ((text_decides key k).0 s) in
        under_is end (end_of k old) (subst (λ n. end ≤ n) same under)
    go false s = refl
