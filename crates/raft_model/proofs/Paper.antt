-- The properties of the Raft paper's figure 3 that the world shows.
use Rattle.std.proofs.Common.{ℕ, Option, Some, ap, arith, inl, inr, length, subst, sym, take, ◌∙◌, ◌≡◌}
use Rattle.raft_model.proofs.Moving.{Durable, durable}
use Rattle.raft_model.proofs.Places.{log_follows}
use Rattle.raft_model.proofs.Sound.{Fits, IsSound}
use Rattle.raft_model.proofs.Tests.{no_bool}
use Rattle.raft_model.proofs.Worlds.{Goes, fits_at, reach_goes}
use Rattle.raft_model.specs.Facts.{HasOneLeader, KeepsVotes, HasMatchingLogs}
use Rattle.raft_model.specs.Node.{Kept}
use Rattle.raft_model.specs.World.{Reaches, World}

pub one_leader : (w : World) → IsSound w → HasOneLeader w
one_leader w s i j n m at at' lead lead' e = go (fits_at w s i n at) (fits_at w s j m at')
  where
    go : Fits (length w.nodes) s.history i n → Fits (length w.nodes) s.history j m → i ≡ j
    go (inr (q, r)) f = absurd (no_bool n.halted q lead.0)
    go (inl a) (inr (q, r)) = absurd (no_bool m.halted q lead'.0)
    go (inl (k, r, b)) (inl (k', r', b')) =
        same (ap s.history.leaders (sym r.term) ∙ s.sound.roles.elected i (r.role ∙ lead.1))
        (ap s.history.leaders (e ∙ sym r'.term) ∙ s.sound.roles.elected j (r'.role ∙ lead'.1))
      where
        same : {o : Option ℕ} → o ≡ Some i → o ≡ Some j → i ≡ j
        same p q = cc (p, q)

pub logs_match : (w : World) → IsSound w → HasMatchingLogs w
logs_match w s x y m ax ay lx ly e = log_follows w s x ax m lx ∙ ap (λ t. take m (s.history.ledger t)) e ∙ sym (log_follows w s y ay m ly)

pub keeps_votes : (w : World) → IsSound w → (w' : World) → Reaches w w' → KeepsVotes w w'
keeps_votes w s w' reach i n n' kept kept' at at' told told' = (
  let a = g.terms i in let x = ap (λ (z : Kept). z.term) q in let y = ap (λ (z : Kept). z.term) q' in let u = d.term in let v = d'.term in omega arith,
  λ c t v.
      let e : s.history.votes i kept.term ≡ Some c = subst (λ (z : Kept). s.history.votes i z.term ≡ z.vote) q d.vote ∙ v in
      let f : g.sound.history.votes i kept'.term ≡ kept'.vote = subst (λ (z : Kept). g.sound.history.votes i z.term ≡ z.vote) q' d'.vote in
      sym f ∙ ap (g.sound.history.votes i) (sym t) ∙ g.votes i kept.term c e,
)
  where
    g : Goes w s w'
    g = reach_goes w w' reach s

    d : Durable (length w.nodes) s.history i n
    d = durable (length w.nodes) s.history i n (fits_at w s i n at)

    d' : Durable (length w'.nodes) g.sound.history i n'
    d' = durable (length w'.nodes) g.sound.history i n' (fits_at w' g.sound i n' at')

    same : {a b : Kept} → Some a ≡ Some b → a ≡ b
    same p = cc p

    q : d.kept ≡ kept
    q = same (sym d.holds ∙ told)

    q' : d'.kept ≡ kept'
    q' = same (sym d'.holds ∙ told')
