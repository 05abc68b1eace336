use Rattle.std.proofs.Common.{arith, ap, subst, ◌∙◌, ◌≡◌, ◌++◌, ℕ, List, true, Option, Err, take}
use Rattle.std.specs.Option.{ForSome, option_map}
use Rattle.command_codec.proofs.Grammar.{IsBytes}
use Rattle.file_keeper.specs.Journal.{FileStore, IsWhole, made, held_by}
use Rattle.file_keeper.proofs.Finding.{bytes_by}
use Rattle.file_keeper.proofs.Putting.{whole_after, told_after, told_torn, changes_ok, changes_failed}
use Rattle.file_keeper.proofs.file_keeper.FileKeeper.put.Goals as goal

pub invariant_of-self : goal.invariant_of-self
invariant_of-self g c =
    let same = ap (λ (v : FileStore). v.bytes) c.self.view_is in
    let ready : c.self.inside.ready ≡ true = ap (λ (v : FileStore). v.ready) c.self.view_is ∙ c.requires.ready in
    let whole = subst (λ (o : Option (List ℕ)). ForSome o IsWhole) same (c.self.invariant ready) in
    let bytes : IsBytes c.args.piece.now = bytes_by c.args.piece.now (λ i. omega (arith, c.type_inv.piece i)) in
    λ _. whole_after c.args.self.now.bytes (g.J.Journal.bytes c.append.new.self) c.args.piece.now c.requires.fits.0 bytes c.requires.fits.1 whole
    (c.in-Ok.ensures.bytes.ok ∙ ap (option_map (λ (b : List ℕ). b ++ c.args.piece.now)) same)

pub returns-in-Ok-clause-held : goal.returns-in-Ok-clause-held
returns-in-Ok-clause-held g c =
    let same = ap (λ (v : FileStore). v.bytes) c.self.view_is in
    let ready : c.self.inside.ready ≡ true = ap (λ (v : FileStore). v.ready) c.self.view_is ∙ c.requires.ready in
    let whole = subst (λ (o : Option (List ℕ)). ForSome o IsWhole) same (c.self.invariant ready) in
    let bytes : IsBytes c.args.piece.now = bytes_by c.args.piece.now (λ i. omega (arith, c.type_inv.piece i)) in
    λ r may. changes_ok (made r) (held_by c.args.self.now.bytes) (held_by (g.J.Journal.bytes c.append.new.self))
    (told_after c.args.self.now.bytes (g.J.Journal.bytes c.append.new.self) c.args.piece.now r bytes may whole
    (c.in-Ok.ensures.bytes.ok ∙ ap (option_map (λ (b : List ℕ). b ++ c.args.piece.now)) same))

pub returns-in-Err-Failed-clause-held : goal.returns-in-Err-Failed-clause-held
returns-in-Err-Failed-clause-held g c =
    let same = ap (λ (v : FileStore). v.bytes) c.self.view_is in
    let ready : c.self.inside.ready ≡ true = ap (λ (v : FileStore). v.ready) c.self.view_is ∙ c.requires.ready in
    let whole = subst (λ (o : Option (List ℕ)). ForSome o IsWhole) same (c.self.invariant ready) in
    let bytes : IsBytes c.args.piece.now = bytes_by c.args.piece.now (λ i. omega (arith, c.type_inv.piece i)) in
    let torn = c.in-Err-Failed.ensures.bytes.failed (ap Err c.in-Err-Failed.field-0-is) in
    λ r may. changes_failed (made r) (held_by c.args.self.now.bytes) (held_by (g.J.Journal.bytes c.append.new.self))
    (told_torn c.args.self.now.bytes (g.J.Journal.bytes c.append.new.self) c.args.piece.now r torn.0 bytes may whole
    (torn.1 ∙ ap (option_map (λ (b : List ℕ). b ++ take torn.0 c.args.piece.now)) same))

pub returns-in-Ok-clause-whole : goal.returns-in-Ok-clause-whole
returns-in-Ok-clause-whole g c =
    let same = ap (λ (v : FileStore). v.bytes) c.self.view_is in
    let ready : c.self.inside.ready ≡ true = ap (λ (v : FileStore). v.ready) c.self.view_is ∙ c.requires.ready in
    let whole = subst (λ (o : Option (List ℕ)). ForSome o IsWhole) same (c.self.invariant ready) in
    let bytes : IsBytes c.args.piece.now = bytes_by c.args.piece.now (λ i. omega (arith, c.type_inv.piece i)) in
    whole_after c.args.self.now.bytes (g.J.Journal.bytes c.append.new.self) c.args.piece.now c.requires.fits.0 bytes c.requires.fits.1 whole
    (c.in-Ok.ensures.bytes.ok ∙ ap (option_map (λ (b : List ℕ). b ++ c.args.piece.now)) same)
