use Rattle.std.proofs.Common.{◌≡◌, ℕ, subst}
use Rattle.std.specs.Prelude.{MatchResult}
use Rattle.http_front.specs.Served.{CountsKeepers}
use Rattle.http_front.proofs.Ends.{served_all}
use Rattle.http_front.proofs.Making.{fits_made}
use Rattle.http_front.proofs.run.serve.Goals as goal

pub serve_sized-requires-clause-fits : goal.serve_sized-requires-clause-fits
serve_sized-requires-clause-fits g c κs within =
    fits_made (λ k. g.S.K.Keeper.held k) (λ k. g.S.K.Keeper.armed k) (λ k. g.S.K.Keeper.faults k) (λ k. g.S.K.Keeper.sure k) c.args.options.now c.in-Ok.stores c.in-Ok.ensures.count (λ none. c.in-Ok.ensures.empty none)

pub returns-in-Ok-clause-served : goal.returns-in-Ok-clause-served
returns-in-Ok-clause-served g c =
    served_all c.args.options.now (g.Ks.Keepers.made c.args.keepers.now) (g.Ks.Keepers.made c.make_stores.new.keepers) (g.Ks.Keepers.made c.serve_sized.new.keepers) _
    (fits_made (λ k. g.S.K.Keeper.held k) (λ k. g.S.K.Keeper.armed k) (λ k. g.S.K.Keeper.faults k) (λ k. g.S.K.Keeper.sure k) c.args.options.now c.in-Ok.stores c.in-Ok.ensures.count (λ none. c.in-Ok.ensures.empty none))
    c.in-Ok.ensures.made c.serve_sized.ensures.made
    _ _ _ _ _ _ _ _ _ _ _ c.serve_sized.result c.serve_sized.ensures.served

pub returns-in-Ok-clause-keepers : goal.returns-in-Ok-clause-keepers
returns-in-Ok-clause-keepers g c =
    subst (λ (n : ℕ). MatchResult c.serve_sized.result (λ _. g.Ks.Keepers.faults c.serve_sized.new.keepers ≡ n) (λ why. CountsKeepers why n (g.Ks.Keepers.faults c.serve_sized.new.keepers))) c.in-Ok.ensures.cause.ok c.serve_sized.ensures.keepers
