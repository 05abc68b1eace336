-- A key cut after the first separator.
use Rattle.std.proofs.Common.{◌≡◌, ◌≢◌, ◌∙◌, ◌++◌, ◌<◌, ◌≤◌, ℕ, zero, suc, Bool, true, false, cond, List, [], ◌∷◌, refl, sym, ap, map, filter, take, drop, length, arith, nat_eq}
use Rattle.std.proofs.lemmas.List.{take_at}
use Rattle.std.specs.List.{AllByRecursion}
use Rattle.cat_model.specs.Catalog.{kv_key}
use Rattle.cat_model.specs.declared.row.KvRow.{KvRow}
use Rattle.cat_model.proofs.TableLemmas.{All-filter_test}
use Rattle.std.proofs.lemmas.Bool.{false≢true}
use Rattle.std.proofs.lemmas.Slice.Eq.{starts_is}
use Rattle.std.proofs.lemmas.Bool.Decides.{Decides-eqb}
use Rattle.cat_model.specs.Keys.{has_prefix, is_empty}
use Rattle.cat_model.specs.Queries.{cut_after, cut_key}

-- a text that begins with the separator, and one that does not
prefixed : (separator text rest : List ℕ) → text ≡ separator ++ rest → has_prefix separator text ≡ true
prefixed separator text rest e = (starts_is Decides-eqb text separator (has_prefix separator text) refl).1 rest e

pub unprefixed : (separator text : List ℕ) → has_prefix separator text ≡ true → text ≡ separator ++ drop (length separator) text
unprefixed separator text e = (starts_is Decides-eqb text separator (has_prefix separator text) refl).0 e

not_prefixed : (separator text : List ℕ) → ((rest : List ℕ) → text ≢ separator ++ rest) → has_prefix separator text ≡ false
not_prefixed separator text lacks = go (has_prefix separator text) refl
  where
    go : (b : Bool) → has_prefix separator text ≡ b → has_prefix separator text ≡ false
    go true e = absurd (lacks (drop (length separator) text) (unprefixed separator text e))
    go false e = e

pub cut_none : (separator text : List ℕ) → ((i : ℕ) → i ≤ length text → (rest : List ℕ) → drop i text ≢ separator ++ rest) → cut_after separator text ≡ text
cut_none separator [] lacks = refl
cut_none separator (x ∷ xs) lacks =
    ap (λ b. cond b separator (x ∷ cut_after separator xs)) (not_prefixed separator (x ∷ xs) (lacks zero (omega arith)))
    ∙ ap (λ l. x ∷ l) (cut_none separator xs (λ i low rest. lacks (suc i) (omega (arith, low)) rest))

pub cut_some : (separator text : List ℕ) (i : ℕ) (rest : List ℕ) → is_empty separator ≡ false → ((j : ℕ) → j < i → (r : List ℕ) → drop j text ≢ separator ++ r) → drop i text ≡ separator ++ rest → cut_after separator text ≡ take i text ++ separator
cut_some [] text i rest some lacks at = absurd (false≢true (sym some))
cut_some (y ∷ ys) [] zero rest some lacks at = cc
cut_some (y ∷ ys) [] (suc i) rest some lacks at = cc
cut_some (y ∷ ys) (x ∷ xs) zero rest some lacks at = ap (λ b. cond b (y ∷ ys) (x ∷ cut_after (y ∷ ys) xs)) (prefixed (y ∷ ys) (x ∷ xs) rest at)
cut_some (y ∷ ys) (x ∷ xs) (suc i) rest some lacks at =
    ap (λ b. cond b (y ∷ ys) (x ∷ cut_after (y ∷ ys) xs)) (not_prefixed (y ∷ ys) (x ∷ xs) (lacks zero (omega arith)))
    ∙ ap (λ l. x ∷ l) (cut_some (y ∷ ys) xs i rest some (λ j low r. lacks (suc j) (omega (arith, low)) r) at)

pub not_empty : (text : List ℕ) → nat_eq (length text) 0 ≡ false → is_empty text ≡ false
not_empty [] e = absurd (false≢true (sym e))
not_empty (x ∷ xs) e = refl

-- a key of which the prefix is taken off
pub key_cut : (prefix separator key rest : List ℕ) (n : ℕ) → is_empty separator ≡ false → n ≡ length prefix → key ≡ prefix ++ drop n key → rest ≡ drop n key → cut_key prefix separator key ≡ prefix ++ cut_after separator rest
key_cut prefix separator key rest n some len whole is =
    ap (λ b. cond b key (take (length prefix) key ++ cut_after separator (drop (length prefix) key))) some
    ∙ ap (λ m. take (length prefix) key ++ cut_after separator (drop m key)) (sym len)
    ∙ ap (λ k. take (length prefix) k ++ cut_after separator (drop n key)) whole
    ∙ ap (λ l. l ++ cut_after separator (drop n key)) (take_at prefix (drop n key) (length prefix) refl)
    ∙ ap (λ l. prefix ++ cut_after separator l) (sym is)

-- keys of rows under a prefix, and what is made of them
pub keys_prefixed : (prefix : List ℕ) (rows : List KvRow) → AllByRecursion (λ key. has_prefix prefix key ≡ true) (map kv_key (filter (λ r. has_prefix prefix r.key) rows))
keys_prefixed prefix rows = go (filter (λ r. has_prefix prefix r.key) rows) (All-filter_test (λ r. has_prefix prefix r.key) rows)
  where
    go : (under : List KvRow) → AllByRecursion (λ r. has_prefix prefix r.key ≡ true) under → AllByRecursion (λ key. has_prefix prefix key ≡ true) (map kv_key under)
    go [] all = tt
    go (r ∷ under) all = (all.0, go under all.1)

pub cut_keys : (prefix separator : List ℕ) (rows : List KvRow) → map (cut_key prefix separator) (map kv_key rows) ≡ map (λ r. cut_key prefix separator r.key) rows
cut_keys prefix separator [] = refl
cut_keys prefix separator (r ∷ rows) = ap (λ l. cut_key prefix separator r.key ∷ l) (cut_keys prefix separator rows)
