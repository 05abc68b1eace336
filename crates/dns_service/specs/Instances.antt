-- The instances and nodes that a name asks for, and the records of them.
-- RFC 1035, section 3.2.1; RFC 2782. Consul, DNS interface.
use Rattle.std.specs.Prelude.{ℕ, ◌+◌, ◌-◌, ◌*◌, ◌/◌, ◌%◌, ◌==◌, Bool, true, false, not, ◌&&◌, nat_le, if◌then◌else◌, List, [], ◌∷◌, ◌++◌, length, map, filter, find, Option, None, Some, option_map, codes, bytes_eq}
use Rattle.std.specs.List.{list_any, filter_map, slice_split, cons_option}
use Rattle.std.specs.Char.{is_ascii_digit}
use Rattle.cat_model.specs.Keys.{is_empty}
use Rattle.cat_model.specs.Executions.{none_critical}
use Rattle.cat_model.specs.declared.row.NodeRow.{NodeRow}
use Rattle.cat_model.specs.declared.query.Instance.{Instance}
use Rattle.cat_model.specs.declared.query.Query.{Query}
use Rattle.cat_model.specs.declared.query.Query.TheVariants as q
use Rattle.cat_model.specs.declared.query.Answer.{Answer}
use Rattle.cat_model.specs.declared.query.Answer.TheVariants as a
use Rattle.dns_service.specs.declared.sought.Sought.{Sought}
use Rattle.dns_service.specs.declared.sought.Sought.TheVariants as s
use Rattle.dns_service.specs.declared.matches.Found.{Found}
use Rattle.dns_service.specs.declared.matches.Found.TheVariants as f
use Rattle.dns_service.specs.Sought.{same_letters, four}

-- ---- what there is, where each query has such an answer

abbrev pub has_tag : Option (List ℕ) → Instance → Bool
has_tag None x = true
has_tag (Some tag) x = list_any (same_letters tag) x.service.tags

abbrev pub instances_in : Answer → List Instance
instances_in (a.Instances xs) = xs
instances_in other = []

abbrev pub nodes_in : Answer → List NodeRow
nodes_in (a.Nodes rows) = rows
nodes_in other = []

abbrev pub if_any : List Instance → Option Found
if_any [] = None
if_any (x ∷ xs) = Some (f.Instances (x ∷ xs))

abbrev pub found_at : (Query → Answer) → Sought → Option Found
found_at answer (s.Service name tag) = if_any (filter (has_tag tag) (filter none_critical (instances_in (answer (q.HealthService name [] false)))))
found_at answer (s.Node name) = option_map f.Node (find (λ row. same_letters name row.node) (nodes_in (answer q.Nodes)))
found_at answer (s.Address bytes) = Some (f.Address bytes)

-- ---- addresses

-- a decimal number of at most three digits and at most 255, without a zero in front of another digit
abbrev pub octet_of : List ℕ → Option ℕ
octet_of (x ∷ []) = if is_ascii_digit x then Some (x - 48) else None
octet_of (x ∷ y ∷ []) = if is_ascii_digit x && is_ascii_digit y && not (x == 48) then Some ((x - 48) * 10 + (y - 48)) else None
octet_of (x ∷ y ∷ z ∷ []) =
    if is_ascii_digit x && is_ascii_digit y && is_ascii_digit z && not (x == 48) && nat_le ((x - 48) * 100 + (y - 48) * 10 + (z - 48)) 255
    then Some ((x - 48) * 100 + (y - 48) * 10 + (z - 48)) else None
octet_of other = None

abbrev pub octets_of : List (List ℕ) → Option (List ℕ)
octets_of (w ∷ x ∷ y ∷ z ∷ []) = four (octet_of w) (octet_of x) (octet_of y) (octet_of z)
octets_of other = None

abbrev pub is_point : ℕ → Bool
is_point b = b == 46

abbrev pub parts_of : List ℕ → List (List ℕ)
parts_of text = slice_split is_point text

-- the parts of what follows a part
abbrev pub parts_in : Option (List ℕ) → List (List ℕ)
parts_in None = []
parts_in (Some text) = parts_of text

-- four such numbers, parted by points
unfoldable pub ipv4_of : List ℕ → Option (List ℕ)
ipv4_of text = octets_of (parts_of text)

-- an instance's own address, or its node's where it has none
abbrev pub host_of : Instance → List ℕ
host_of x = if is_empty x.service.address then x.node.address else x.service.address

abbrev pub addresses_of : Found → List (List ℕ)
addresses_of (f.Instances xs) = filter_map (λ x. ipv4_of (host_of x)) xs
addresses_of (f.Node row) = cons_option (ipv4_of row.address) []
addresses_of (f.Address bytes) = bytes ∷ []

-- each one where it comes first, after those that were there already
abbrev pub distinct_after : List (List ℕ) → List (List ℕ) → List (List ℕ)
distinct_after seen [] = []
distinct_after seen (x ∷ xs) =
    if list_any (bytes_eq x) seen then distinct_after seen xs else x ∷ distinct_after (seen ++ x ∷ []) xs

-- ---- records: the name is that of the question, the class is 1 and the time to live is 0

abbrev pub two_bytes : ℕ → List ℕ
two_bytes n = (n / 256 % 256) ∷ (n % 256) ∷ []

abbrev pub record_of : ℕ → List ℕ → List ℕ
record_of kind content = 192 ∷ 12 ∷ 0 ∷ kind ∷ 0 ∷ 1 ∷ 0 ∷ 0 ∷ 0 ∷ 0 ∷ (two_bytes (length content) ++ content)

-- type 1: an address
abbrev pub address_record : List ℕ → List ℕ
address_record bytes = record_of 1 bytes

-- the end of a name in the catalog's domain
abbrev pub domain : List ℕ
domain = 3 ∷ (codes "dc1" ++ (6 ∷ (codes "consul" ++ 0 ∷ [])))

abbrev pub target_of : List ℕ → List ℕ → List ℕ
target_of first behind = length first ∷ (first ++ behind)

abbrev pub hex_of : ℕ → ℕ
hex_of n = if nat_le n 9 then 48 + n else 87 + n

abbrev pub hex_text : List ℕ → List ℕ
hex_text [] = []
hex_text (b ∷ bytes) = hex_of (b / 16) ∷ hex_of (b % 16) ∷ hex_text bytes

-- a name that can be a label
abbrev pub is_label : List ℕ → Bool
is_label name = nat_le (length name) 63 && not (list_any is_point name)

-- the name of its own address, or of its node where it has none
abbrev pub target_named : List ℕ → Option (List ℕ) → Option (List ℕ)
target_named node (Some bytes) = Some (target_of (hex_text bytes) (4 ∷ (codes "addr" ++ domain)))
target_named node None = if is_label node then Some (target_of node (4 ∷ (codes "node" ++ domain))) else None

-- type 33: priority 1, weight 1, the port and the target
abbrev pub service_record : ℕ → List ℕ → List ℕ
service_record port target = record_of 33 (0 ∷ 1 ∷ 0 ∷ 1 ∷ (two_bytes port ++ target))

abbrev pub service_record_of : Instance → Option (List ℕ)
service_record_of x = option_map (service_record x.service.port) (target_named x.service.node (ipv4_of x.service.address))

abbrev pub services_of : Found → List (List ℕ)
services_of (f.Instances xs) = filter_map service_record_of xs
services_of other = []

unfoldable pub records_of : ℕ → Found → List (List ℕ)
records_of kind found =
    if kind == 1 then map address_record (distinct_after [] (addresses_of found))
    else if kind == 33 then services_of found
    else []
