-- Texts in parts, whichever are put together first.
use Rattle.std.proofs.Common.{◌≡◌, ℕ, List, ◌++◌, codes, sym, ◌∙◌, append_assoc}
use Rattle.std.specs.Fmt.{decimal}
use Rattle.load_player.specs.declared.method.Method.TheVariants.{Put}
use Rattle.load_player.specs.LoadScript.{request}

pub put_text : (j k : ℕ) (text : List ℕ) → text ≡ codes "http 1 PUT /v1/kv/k" ++ (decimal k ++ (codes " =v" ++ decimal j)) → text ≡ request Put j k
put_text j k text is =
    is ∙ sym (append_assoc (codes "http 1 PUT /v1/kv/k") (decimal k) (codes " =v" ++ decimal j))
    ∙ sym (append_assoc (codes "http 1 PUT /v1/kv/k" ++ decimal k) (codes " =v") (decimal j))
