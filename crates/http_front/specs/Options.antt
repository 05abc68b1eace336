-- The words of the command line that ask for a server.
use Rattle.std.specs.Prelude.{◌≡◌, ◌≢◌, ◌<◌, ◌≤◌, ℕ, List, [], ◌∷◌, ◌++◌, Option, None, Some, Ok, IfSome, codes}
use Rattle.script_lang.specs.Numbers.{number_in}
use Rattle.http_front.specs.declared.options.Dns.{Dns}
use Rattle.http_front.specs.declared.options.Options.{Options}

-- the word writes this number, which is 1 to `most`
abbrev pub Writes : List ℕ → ℕ → ℕ → Type 0
Writes word most n = number_in (record { least = 1; most = most }) word ≡ Ok n

-- the words write these numbers
pub record AreWritten (servers agents port : List ℕ) (options : Options) : Type 0 where
  pub servers_are : Writes servers 7 options.servers
  pub agents_are : Writes agents 64 options.agents
  pub port_is : Writes port 65535 options.port

-- the words that give a server its numbers
abbrev pub numbered_words : List ℕ → List ℕ → List ℕ → List (List ℕ)
numbered_words servers agents port = codes "serve" ∷ codes "--servers" ∷ servers ∷ codes "--agents" ∷ agents ∷ codes "--port" ∷ port ∷ []

-- a name and the word that it tells, where it tells one
abbrev pub told_words : List ℕ → Option (List ℕ) → List (List ℕ)
told_words name None = []
told_words name (Some word) = name ∷ word ∷ []

-- What may be left out: how many connections the server serves, a folder, a port of names, and how many packets of that port
-- it answers.
abbrev pub adding_words : Option (List ℕ) → Option (List ℕ) → Option (List ℕ) → Option (List ℕ) → List (List ℕ)
adding_words count folder port packets =
    told_words (codes "--connections") count ++ (told_words (codes "--keep") folder ++ (told_words (codes "--dns") port ++ told_words (codes "--packets") packets))

-- the words do not begin with this name and a word that it tells
abbrev pub IsUntold : List ℕ → List (List ℕ) → Type 0
IsUntold name words = (word : List ℕ) (more : List (List ℕ)) → words ≡ name ∷ word ∷ more → ⊥

-- the words give these numbers
pub record AreNumbered (words : List (List ℕ)) (options : Options) : Type 0 where
  pub servers : List ℕ
  pub agents : List ℕ
  pub port : List ℕ
  pub are : words ≡ numbered_words servers agents port
  pub written : AreWritten servers agents port options

-- The word writes this count, which is 1 to `most`. Without a word there is no end.
abbrev pub IsCount : ℕ → Option (List ℕ) → Option ℕ → Type 0
IsCount most None count = count ≡ None
IsCount most (Some word) count = (n : ℕ) × Writes word most n × (count ≡ Some n)

-- The words for a port and for its packets ask for this. Packets that have no end are asked for only beside connections that
-- have none.
abbrev pub IsDns : Option (List ℕ) → Option (List ℕ) → Option (List ℕ) → Option Dns → Type 0
IsDns count None None dns = dns ≡ None
IsDns count None (Some packets) dns = ⊥
IsDns count (Some port) packets dns =
    (d : Dns) × (dns ≡ Some d) × Writes port 65535 d.port × IsCount 1000000 packets d.packets × (packets ≡ None → count ≡ None)

-- the words that these names tell say this, and a folder has a name
pub record Say (count folder port packets : Option (List ℕ)) (connections : Option ℕ) (dns : Option Dns) : Type 0 where
  pub counted : IsCount 10000 count connections
  pub named : IfSome folder (λ name. name ≢ [])
  pub asked : IsDns count port packets dns

-- these words tell what may be left out
pub record AreAdded (words : List (List ℕ)) (connections : Option ℕ) (folder : Option (List ℕ)) (dns : Option Dns) : Type 0 where
  pub count : Option (List ℕ)
  pub port : Option (List ℕ)
  pub packets : Option (List ℕ)
  pub are : words ≡ adding_words count folder port packets
  pub say : Say count folder port packets connections dns

-- the words ask for a server: numbers, and then what may be left out
pub record AsksFor (words : List (List ℕ)) (options : Options) : Type 0 where
  pub front : List (List ℕ)
  pub rest : List (List ℕ)
  pub are : words ≡ front ++ rest
  pub numbers : AreNumbered front options
  pub added : AreAdded rest options.connections options.folder options.dns

-- the numbers are within their bounds
pub record IsWithin (options : Options) : Type 0 where
  pub servers : (0 < options.servers) × (options.servers ≤ 7)
  pub agents : (0 < options.agents) × (options.agents ≤ 64)
