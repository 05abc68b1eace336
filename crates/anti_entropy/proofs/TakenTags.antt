-- Services with the tags that they take over.
use Rattle.std.proofs.Common.{◌≡◌, ◌∙◌, ◌+◌, ◌<◌, ℕ, zero, suc, Bool, true, false, cond, List, [], ◌∷◌, ◌++◌, Option, Some, None, refl, sym, ap, length, take, drop, map, get_or, append_assoc, arith}
use Rattle.std.specs.Prelude.{if◌then◌else◌, ◌&&◌, nat_eq}
use Rattle.cat_model.specs.Keys.{same_text, same_texts}
use Rattle.cat_model.specs.Same.{alike_services, same_bool}
use Rattle.cat_model.specs.Syncs.{tags_or}
use Rattle.cat_model.specs.declared.row.ServiceRow.{ServiceRow}
use Rattle.cat_model.proofs.Items.{next_made}
use Rattle.cat_model.proofs.SameLemmas.{texts_decides}
use Rattle.node_rows.specs.Tags.{all_tagged, tagged_at}
use Rattle.node_rows.specs.declared.tags.Retag.{Retag}
use Rattle.anti_entropy.specs.Parts.{are_alike, new_tagged, retagged}

-- tags that are taken over are the same
pub same_already : (t s : ServiceRow) → s.tag_override ≡ true → true ≡ same_texts t.tags (retagged (Some t) s).tags
same_already t s h = sym ((texts_decides t.tags t.tags).1 refl) ∙ ap (λ b. same_texts t.tags (if b then record s { tags = t.tags } else s).tags) (sym h)

pub same_kept : (t s : ServiceRow) → s.tag_override ≡ false → same_texts t.tags s.tags ≡ same_texts t.tags (retagged (Some t) s).tags
same_kept t s h = ap (λ b. same_texts t.tags (if b then record s { tags = t.tags } else s).tags) (sym h)

pub alike_is : (t s : ServiceRow) → are_alike t s ≡ alike_services t (retagged (Some t) s)
alike_is t s = go s.tag_override
  where
    tags_same : ServiceRow → Bool
    tags_same o = same_text t.node s.node && same_text t.id s.id && same_text t.name s.name && same_texts t.tags o.tags && same_text t.address s.address && nat_eq t.port s.port && same_bool t.tag_override s.tag_override

    go : (b : Bool) → tags_same (if b then record s { tags = t.tags } else s) ≡ alike_services t (if b then record s { tags = t.tags } else s)
    go true = refl
    go false = refl

-- where there is no service to take tags of, or its tags are the same, the service stays as it is
pub none_taken : (s : ServiceRow) (o : Option ServiceRow) → o ≡ None → s ≡ retagged o s
none_taken s o e = go s.tag_override ∙ ap (λ (p : Option ServiceRow). retagged p s) (sym e)
  where
    go : (b : Bool) → s ≡ (if b then record s { tags = s.tags } else s)
    go true = refl
    go false = refl

pub same_taken : (s t : ServiceRow) (o : Option ServiceRow) → o ≡ Some t → same_texts t.tags s.tags ≡ true → s ≡ retagged o s
same_taken s t o e h = go s.tag_override ∙ ap (λ (p : Option ServiceRow). retagged p s) (sym e)
  where
    go : (b : Bool) → s ≡ (if b then record s { tags = t.tags } else s)
    go true = ap (λ l. record s { tags = l }) (sym ((texts_decides t.tags s.tags).0 h))
    go false = refl

-- one service more
pub tagged_behind : (front : List ServiceRow) (s : ServiceRow) (back : List ServiceRow) (tags : List (List ℕ)) (at : ℕ) → at ≡ length front → tagged_at at tags (front ++ s ∷ back) ≡ front ++ record s { tags = tags } ∷ back
tagged_behind [] s back tags zero e = refl
tagged_behind [] s back tags (suc at) e = absurd (omega arith)
tagged_behind (r ∷ front) s back tags zero e = absurd (omega arith)
tagged_behind (r ∷ front) s back tags (suc at) e = ap (λ l. r ∷ l) (tagged_behind front s back tags at (omega arith))

pub all_tagged_more : (ts : List Retag) (t : Retag) (services : List ServiceRow) → all_tagged (ts ++ t ∷ []) services ≡ tagged_at t.at t.tags (all_tagged ts services)
all_tagged_more [] t services = refl
all_tagged_more (r ∷ ts) t services = all_tagged_more ts t (tagged_at r.at r.tags services)

-- what is behind a place, and what is before the next one
behind : (services : List ServiceRow) (at : ℕ) (s : ServiceRow) → at < length services → s ≡ get_or services at s → drop at services ≡ s ∷ drop (at + 1) services
behind [] at s l is = absurd (omega arith)
behind (r ∷ services) zero s l is = ap (λ (q : ServiceRow). q ∷ services) (sym is)
behind (r ∷ services) (suc at) s l is = let on : suc at + 1 ≡ suc (at + 1) = omega arith in behind services at s (omega arith) is ∙ ap (λ n. s ∷ drop n (r ∷ services)) (sym on)

front_length : (g : ServiceRow → ServiceRow) (services : List ServiceRow) (at : ℕ) → at < length services → at ≡ length (map g (take at services))
front_length g [] at l = absurd (omega arith)
front_length g (r ∷ services) zero l = refl
front_length g (r ∷ services) (suc at) l = ap suc (front_length g services at (omega arith))

front_more : (g : ServiceRow → ServiceRow) (services : List ServiceRow) (at : ℕ) (s : ServiceRow) → at < length services → s ≡ get_or services at s →
    map g (take at services) ++ g s ∷ drop (at + 1) services ≡ map g (take (at + 1) services) ++ drop (at + 1) services
front_more g services at s l is =
    sym (append_assoc (map g (take at services)) (g s ∷ []) (drop (at + 1) services))
    ∙ ap (λ xs. xs ++ drop (at + 1) services) (sym (next_made g services at s (g s) l is refl))

-- a service that stays as it is, and one that takes tags over
pub next_kept : (g : ServiceRow → ServiceRow) (services : List ServiceRow) (at : ℕ) (s : ServiceRow) (ts : List Retag) → at < length services → s ≡ get_or services at s →
    all_tagged ts services ≡ map g (take at services) ++ drop at services → s ≡ g s → all_tagged ts services ≡ map g (take (at + 1) services) ++ drop (at + 1) services
next_kept g services at s ts l is e same =
    e ∙ ap (λ xs. map g (take at services) ++ xs) (behind services at s l is)
    ∙ ap (λ (q : ServiceRow). map g (take at services) ++ q ∷ drop (at + 1) services) same ∙ front_more g services at s l is

pub next_tagged : (g : ServiceRow → ServiceRow) (services : List ServiceRow) (at : ℕ) (s : ServiceRow) (ts : List Retag) (tags : List (List ℕ)) → at < length services → s ≡ get_or services at s →
    all_tagged ts services ≡ map g (take at services) ++ drop at services → record s { tags = tags } ≡ g s →
    all_tagged (ts ++ record { at = at; tags = tags } ∷ []) services ≡ map g (take (at + 1) services) ++ drop (at + 1) services
next_tagged g services at s ts tags l is e told =
    all_tagged_more ts (record { at = at; tags = tags }) services
    ∙ ap (tagged_at at tags) (e ∙ ap (λ xs. map g (take at services) ++ xs) (behind services at s l is))
    ∙ tagged_behind (map g (take at services)) s (drop (at + 1) services) tags at (front_length g services at l)
    ∙ ap (λ (q : ServiceRow). map g (take at services) ++ q ∷ drop (at + 1) services) told ∙ front_more g services at s l is
