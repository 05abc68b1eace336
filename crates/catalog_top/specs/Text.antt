-- What the program writes beside a script's run.
use Rattle.std.specs.Prelude.{ℕ, List, codes}

abbrev pub limit_text : List ℕ
limit_text = codes "limit: script\n"

abbrev pub usage_text : List ℕ
usage_text =
    codes "usage: catalogd script / load SEED SIZE / serve --servers S --agents A --port P --connections N [--keep DIR] [--dns Q --packets M]\n"
