-- What is said of a load that was played.
use Rattle.std.specs.Prelude.{ℕ, Bool, true, false, List, ◌++◌, count_by, codes}
use Rattle.std.specs.Fmt.{decimal}
use Rattle.load_player.specs.declared.method.Method.{Method}
use Rattle.load_player.specs.declared.method.Method.TheVariants.{Put, Get, Delete}
use Rattle.load_player.specs.LoadScript.{drawn, method_of}

abbrev pub is_put : Method → Bool
is_put Put = true
is_put other = false

abbrev pub is_get : Method → Bool
is_get Get = true
is_get other = false

abbrev pub is_delete : Method → Bool
is_delete Delete = true
is_delete other = false

-- how many requests of the load there are whose method is such
abbrev pub requests_by : (Method → Bool) → ℕ → ℕ → ℕ
requests_by is seed size = count_by (λ word. is (method_of word)) (drawn seed size)

-- the requests in all and by their methods, how many reads found a row, and how long the agreed log is
abbrev pub summary_text : ℕ → ℕ → ℕ → ℕ → List ℕ
summary_text seed size found log =
    codes "requests " ++ decimal size ++ codes " puts " ++ decimal (requests_by is_put seed size)
    ++ codes " gets " ++ decimal (requests_by is_get seed size) ++ codes " found " ++ decimal found
    ++ codes " deletes " ++ decimal (requests_by is_delete seed size) ++ codes " log " ++ decimal log ++ codes "\n"
