-- Checks that the time changes, and those that it leaves as they are.
use Rattle.std.proofs.Common.{◌≡◌, ℕ, ◌+◌, Bool, true, false, not, cond, refl, sym, ap, true≢false}
use Rattle.std.specs.Prelude.{◌&&◌, nat_le, codes}
use Rattle.std.proofs.lemmas.Bool.{and_parts}
use Rattle.cat_model.specs.declared.row.Status.TheVariants.{Critical}
use Rattle.cat_model.proofs.SameLemmas.{status_decides, text_decides}
use Rattle.cluster_rules.specs.Agents.{Watched, expired}
use Rattle.agent_state.specs.Expiring.{says_expired, turns}

told : (b : Bool) → not b ≡ false → b ≡ true
told true h = refl
told false h = absurd (true≢false h)

says_already : (w : Watched) → says_expired w ≡ true → record w { row = record w.row { status = Critical; output = codes "TTL expired" } } ≡ w
says_already w h =
    let parts = and_parts _ _ h in
    let s = (status_decides w.row.status Critical).0 parts.0 in
    let t = (text_decides w.row.output (codes "TTL expired")).0 parts.1 in
    λ i. record w { row = record w.row { status = sym s i; output = sym t i } }

pub unturned : (now : ℕ) (w : Watched) → turns now w ≡ false → w ≡ expired now w
unturned now w = go (nat_le (w.since + w.ttl) now)
  where
    go : (b : Bool) → (b && not (says_expired w)) ≡ false → w ≡ cond b (record w { row = record w.row { status = Critical; output = codes "TTL expired" } }) w
    go true h = sym (says_already w (told (says_expired w) h))
    go false h = refl

pub turned : (now : ℕ) (w : Watched) → nat_le (w.since + w.ttl) now ≡ true → record w { row = record w.row { status = Critical; output = codes "TTL expired" } } ≡ expired now w
turned now w h = ap (λ b. cond b (record w { row = record w.row { status = Critical; output = codes "TTL expired" } }) w) (sym h)
