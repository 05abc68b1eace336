-- The numbers of the lists of channels.
use Rattle.std.specs.Prelude.{ℕ, ◌+◌, ◌*◌, ◌%◌, List, [], ◌∷◌}
use Rattle.std.specs.List.{fold}
use Rattle.cat_model.specs.declared.query.Chan.{Chan}
use Rattle.cat_model.specs.declared.query.Chan.TheVariants.{Nodes, Services, Checks, Sessions, Queries, Service, Vanished, Node, NodeChecks, NodeGone, Key, Prefix, Reaped}

-- the hash of a text with one byte more
abbrev pub mixed : ℕ → ℕ → ℕ
mixed hash byte = (hash * 31 + byte) % 65536

abbrev pub bucket_of : Chan → ℕ
bucket_of Nodes = 0
bucket_of Services = 1
bucket_of Checks = 2
bucket_of Sessions = 3
bucket_of Queries = 4
bucket_of Vanished = 5
bucket_of Reaped = 6
bucket_of (Service name) = fold mixed 7 name
bucket_of (Key key) = fold mixed 8 key
bucket_of (Prefix prefix) = fold mixed 9 prefix
bucket_of NodeGone = 10
bucket_of (Node node) = fold mixed 11 node
bucket_of (NodeChecks node) = fold mixed 12 node

-- the list of the first channel, or that of those with none
abbrev pub first_list : List Chan → ℕ
first_list [] = 65536
first_list (chan ∷ chans) = bucket_of chan

-- the list of the second channel, or that of those with none
abbrev pub second_list : List Chan → ℕ
second_list [] = 65536
second_list (chan ∷ chans) = first_list chans
