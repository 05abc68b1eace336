-- What the lines of a load say.
use Rattle.std.proofs.Common.{◌≡◌, ℕ, ◌+◌, ◌<◌, ◌^◌, Bool, true, false, cond, List, [], ◌∷◌, ◌++◌, length, codes, Option, Result, Ok, Err, refl, ap, ◌∙◌, arith}
use Rattle.std.specs.Fmt.{decimal}
use Rattle.std.specs.Str.{bytes_eq}
use Rattle.std.proofs.lemmas.Bool.Decides.{nat_tests}
use Rattle.cat_model.specs.declared.request.Asked.{Asked}
use Rattle.cat_model.specs.declared.request.Draw.{Draw}
use Rattle.cat_model.specs.declared.request.Event.TheVariants.{Ask, Timeout}
use Rattle.http_routes.specs.Routes.{route_of}
use Rattle.load_player.specs.declared.method.Method.{Method}
use Rattle.load_player.specs.declared.method.Method.TheVariants.{Put, Get, Delete}
use Rattle.load_player.specs.LoadScript.{request, requests_from, load_script, drawn}
use Rattle.script_lang.specs.declared.bad_line.BadLine.{BadLine}
use Rattle.script_lang.specs.declared.bad_line.BadLine.TheVariants.{BadRequestLine, UnknownLine, ExpectedCluster}
use Rattle.script_lang.specs.declared.line.Line.{Line}
use Rattle.script_lang.specs.declared.line.Line.TheVariants as line
use Rattle.script_lang.specs.Answers.{◌>>=◌}
use Rattle.script_lang.specs.Lines.{any64, asking, first_of, opening, worded}
use Rattle.script_lang.specs.Numbers.{number_in, is_within}
use Rattle.script_lang.specs.Requests.{asked_of, body_of, is_token}
use Rattle.script_lang.specs.Words.{is_nothing, rest_of, words_of}
use Rattle.run_rules.specs.Lines.{Said, Makes, Refuses, Settles}
use Rattle.script_player.specs.declared.openings.Opening.{Opening}
use Rattle.script_player.specs.Script.{Opened, said, said_of, opened_at, opened_by, opening_of, script_from, script_of}
use Rattle.load_player.proofs.Decimals.{and_true, is_some_text, number_read}
use Rattle.load_player.proofs.Lines.{load_lines_are}
use Rattle.load_player.proofs.Words.{target, target_is_token, put_words, get_words, delete_words, opening_words}

-- what a line says by its words
abbrev said_by : ℕ → ℕ → Bool → List (List ℕ) → Said
said_by seed number nothing words =
    cond (bytes_eq (first_of words) (codes "cluster")) (Refuses (codes "unknown line")) (said_of (cond nothing (Ok line.Nothing) (worded number seed words)))

said_words : (seed number : ℕ) (text : List ℕ) (words : List (List ℕ)) → is_nothing text ≡ false → words_of text ≡ words → said seed number text ≡ said_by seed number false words
said_words seed number text words some e =
    ap (λ (n : Bool). said_by seed number n (words_of text)) some ∙ ap (said_by seed number false) e

abbrev event_of : ℕ → ℕ → Asked → Result Line BadLine
event_of seed number asked = Ok (line.Event (Ask 1 asked (record { hi = seed; lo = number })))

asked : (method body : List ℕ) (k : ℕ) (rest : Option (List ℕ)) → is_token method ≡ true → k < 2 ^ 64 → body_of rest ≡ Ok body → asked_of method (target k) rest ≡ Ok (route_of method (target k) body)
asked method body k rest is small read =
    ap (λ (t : Bool). cond t (body_of rest >>= (λ bytes. Ok (route_of method (target k) bytes))) (Err BadRequestLine)) (and_true (is_token method) (is_token (target k)) is (target_is_token k small))
    ∙ ap (λ (r : Result (List ℕ) BadLine). r >>= (λ bytes. Ok (route_of method (target k) bytes))) read

asking_is : (seed number : ℕ) (method body : List ℕ) (k : ℕ) (more : List (List ℕ)) → is_token method ≡ true → k < 2 ^ 64 → body_of (rest_of more) ≡ Ok body →
    asking number seed (codes "1" ∷ method ∷ target k ∷ more) ≡ event_of seed number (route_of method (target k) body)
asking_is seed number method body k more is small read =
    ap (λ (r : Result Asked BadLine). r >>= event_of seed number) (asked method body k (rest_of more) is small read)

-- a line asks agent 1
abbrev pub AsksOne : Said → Type 0
AsksOne says = (what : Asked) × (draw : Draw) × (says ≡ Makes (Ask 1 what draw))

asks_one : (seed number : ℕ) (text method body : List ℕ) (k : ℕ) (more : List (List ℕ)) → is_nothing text ≡ false → words_of text ≡ codes "http" ∷ codes "1" ∷ method ∷ target k ∷ more →
    is_token method ≡ true → k < 2 ^ 64 → body_of (rest_of more) ≡ Ok body →
    AsksOne (said seed number text)
asks_one seed number text method body k more some words is small read =
    let what = route_of method (target k) body in
    let draw : Draw = record { hi = seed; lo = number } in (
      what,
      draw,
      said_words seed number text (codes "http" ∷ codes "1" ∷ method ∷ target k ∷ more) some words
          ∙ ap said_of (asking_is seed number method body k more is small read),
    )

wide : (k : ℕ) → k < 1000 → k < 2 ^ 64
wide k small = omega (arith, small)

pub request_said : (seed number : ℕ) (method : Method) (j k : ℕ) → j < 2 ^ 64 → k < 1000 → AsksOne (said seed number (request method j k))
request_said seed number Put j k small key =
    asks_one seed number (request Put j k) (codes "PUT") (codes "v" ++ decimal j) k ((codes "=v" ++ decimal j) ∷ []) refl (put_words j k small (wide k key)) refl (wide k key) refl
request_said seed number Get j k small key =
    asks_one seed number (request Get j k) (codes "GET") [] k [] refl (get_words j k (wide k key)) refl (wide k key) refl
request_said seed number Delete j k small key =
    asks_one seed number (request Delete j k) (codes "DELETE") [] k [] refl (delete_words j k (wide k key)) refl (wide k key) refl

pub settle_said : (seed number : ℕ) → said seed number (codes "settle 64") ≡ Settles 64
settle_said seed number = refl

pub timeout_said : (seed number : ℕ) → said seed number (codes "timeout 1") ≡ Makes (Timeout 1)
timeout_said seed number = refl

-- the opening
abbrev pub load_opening : ℕ → Opening
load_opening seed = record { servers = 3; agents = 1; seed = seed }

in_any64 : (n : ℕ) → n < 2 ^ 64 → is_within any64 n ≡ true
in_any64 n is = grind (arith, nat_tests)

opening_read : (seed : ℕ) → seed < 2 ^ 64 → opening (codes "3" ∷ codes "1" ∷ decimal seed ∷ []) ≡ Ok (line.Cluster 3 1 seed)
opening_read seed small =
    ap (λ (t : Bool). cond t (number_in any64 (decimal seed) >>= (λ n. Ok (line.Cluster 3 1 n))) (Err UnknownLine)) (is_some_text seed small)
    ∙ ap (λ (r : Result ℕ BadLine). r >>= (λ n. Ok (line.Cluster 3 1 n))) (number_read any64 seed small (in_any64 seed small))

-- an opening by the words of its line
abbrev opening_by : List (List ℕ) → Result Opening BadLine
opening_by words = cond (bytes_eq (first_of words) (codes "cluster")) (opened_by (worded 0 0 words)) (Err ExpectedCluster)

opening_is : (seed : ℕ) → seed < 2 ^ 64 → opening_of (codes "cluster 3 1 " ++ decimal seed) ≡ Ok (load_opening seed)
opening_is seed small = ap opening_by (opening_words seed small) ∙ ap opened_by (opening_read seed small)

pub script_is : (seed size : ℕ) → seed < 2 ^ 64 → 1 + length (drawn seed size) < 2 ^ 64 →
    script_of (load_script seed size) ≡ Opened (load_opening seed) 2 (codes "timeout 1" ∷ codes "settle 64" ∷ requests_from 1 (drawn seed size))
script_is seed size small few =
    let more = codes "timeout 1" ∷ codes "settle 64" ∷ requests_from 1 (drawn seed size) in
    ap (script_from 1) (load_lines_are seed size small few) ∙ ap (opened_at 1 more) (opening_is seed small)
