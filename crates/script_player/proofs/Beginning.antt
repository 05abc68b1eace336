-- How a script's cluster is opened, from its parts.
use Rattle.std.proofs.Common.{◌≡◌, ℕ, ◌+◌, ◌<◌, Bool, true, false, nat_eq, cond, List, [], ◌∷◌, length, Result, Ok, Err, sym, ap, ◌∙◌, eqb-true, arith}
use Rattle.std.specs.List.{before_first, after_first}
use Rattle.script_lang.specs.declared.bad_line.BadLine.{BadLine}
use Rattle.script_lang.specs.declared.bad_line.BadLine.TheVariants as bad
use Rattle.script_lang.specs.declared.line.Line.{Line}
use Rattle.script_lang.specs.Lines.{line_of, opens_cluster}
use Rattle.script_lang.specs.Text.{reason_text}
use Rattle.script_player.specs.declared.openings.Opening.{Opening}
use Rattle.script_player.specs.Line.{lines_of, is_nothing}
use Rattle.script_player.specs.Script.{Script, Opened, Closed, script_from, opening_of, opened_at, opened_by}
use Rattle.script_player.proofs.Lines.{lines_of-step}

opening_step : (number : ℕ) (line : List ℕ) (lines : List (List ℕ)) (nothing : Bool) (r : Result Opening BadLine) → is_nothing line ≡ nothing → opening_of line ≡ r →
    script_from number (line ∷ lines) ≡ cond nothing (script_from (number + 1) lines) (opened_at number lines r)
opening_step number line lines nothing r e f =
    ap (λ (z : Bool). cond z (script_from (number + 1) lines) (opened_at number lines (opening_of line))) e
    ∙ ap (λ (z : Result Opening BadLine). cond nothing (script_from (number + 1) lines) (opened_at number lines z)) f

said_here : (s : Script) (number : ℕ) (rest line after : List ℕ) (r : Result Opening BadLine) → s ≡ script_from number (lines_of rest) → 0 < length rest →
    line ≡ before_first (λ x. nat_eq x 10) rest → after ≡ after_first (λ x. nat_eq x 10) rest → is_nothing line ≡ false → r ≡ opening_of line → s ≡ opened_at number (lines_of after) r
said_here s number rest line after r inv some l a says e =
    inv ∙ ap (script_from number) (lines_of-step rest some) ∙ rw (sym l, sym a) (opening_step number line (lines_of after) false r says (sym e))

-- the first line that says something opens the cluster
pub opened_here : (s : Script) (number : ℕ) (rest line after : List ℕ) (opening : Opening) → s ≡ script_from number (lines_of rest) → 0 < length rest →
    line ≡ before_first (λ x. nat_eq x 10) rest → after ≡ after_first (λ x. nat_eq x 10) rest → is_nothing line ≡ false → Ok opening ≡ opening_of line → s ≡ Opened opening (number + 1) (lines_of after)
opened_here s number rest line after opening inv some l a says e = said_here s number rest line after (Ok opening) inv some l a says e

-- or is refused
pub refused_here : (s : Script) (number : ℕ) (rest line after : List ℕ) (why : BadLine) → s ≡ script_from number (lines_of rest) → 0 < length rest →
    line ≡ before_first (λ x. nat_eq x 10) rest → after ≡ after_first (λ x. nat_eq x 10) rest → is_nothing line ≡ false → Err why ≡ opening_of line → s ≡ Closed number (reason_text why)
refused_here s number rest line after why inv some l a says e = said_here s number rest line after (Err why) inv some l a says e

-- no line says anything
pub none_here : (s : Script) (number : ℕ) (rest : List ℕ) → s ≡ script_from number (lines_of rest) → true ≡ nat_eq (length rest) 0 → s ≡ Closed number (reason_text bad.ExpectedCluster)
none_here s number [] inv e = inv
none_here s number (b ∷ bs) inv e = let none : length (b ∷ bs) ≡ 0 = eqb-true _ _ (sym e) in absurd (omega (arith, none))

-- what the first line says that says something, by its parts
pub opening_as : (line : List ℕ) (says : Result Line BadLine) (r : Result Opening BadLine) → true ≡ opens_cluster line → says ≡ line_of 0 0 line → r ≡ opened_by says → r ≡ opening_of line
opening_as line says r e f g =
    g ∙ ap (λ (z : Bool). cond z (opened_by says) (Err bad.ExpectedCluster)) e
    ∙ ap (λ (z : Result Line BadLine). cond (opens_cluster line) (opened_by z) (Err bad.ExpectedCluster)) f

pub opening_none : (line : List ℕ) → false ≡ opens_cluster line → Err bad.ExpectedCluster ≡ opening_of line
opening_none line e = ap (λ (z : Bool). cond z (opened_by (line_of 0 0 line)) (Err bad.ExpectedCluster)) e
