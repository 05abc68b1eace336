-- What a name asks for, of the names that end in `consul`. Before that a label `dc1` may stand. Consul, DNS interface:
--     SERVICE.service   TAG.SERVICE.service   NODE.node   XXXXXXXX.addr, with eight hexadecimal digits
use Rattle.std.specs.Prelude.{ℕ, ◌+◌, ◌-◌, ◌*◌, ◌&&◌, Bool, nat_le, if◌then◌else◌, List, [], ◌∷◌, ◌++◌, map, Option, None, Some, option_map, option_and_then, codes, bytes_eq}
use Rattle.std.specs.Char.{to_ascii_lowercase}
use Rattle.std.specs.Str.{is_utf8}
use Rattle.dns_service.specs.declared.sought.Sought.{Sought}
use Rattle.dns_service.specs.declared.sought.Sought.TheVariants.{Service, Node, Address}

-- in ASCII lower case, and equal but for ASCII case
abbrev pub lower : List ℕ → List ℕ
lower = map to_ascii_lowercase

abbrev pub same_letters : List ℕ → List ℕ → Bool
same_letters a b = bytes_eq (lower a) (lower b)

-- the value of a hexadecimal digit
abbrev pub hex_digit : ℕ → Option ℕ
hex_digit c =
    if nat_le 48 c && nat_le c 57 then Some (c - 48)
    else if nat_le 97 c && nat_le c 102 then Some (c - 87)
    else if nat_le 65 c && nat_le c 70 then Some (c - 55)
    else None

abbrev pub hex_byte : Option ℕ → Option ℕ → Option ℕ
hex_byte (Some a) (Some b) = Some (a * 16 + b)
hex_byte (Some a) None = None
hex_byte None other = None

abbrev pub four : Option ℕ → Option ℕ → Option ℕ → Option ℕ → Option (List ℕ)
four (Some a) (Some b) (Some c) (Some d) = Some (a ∷ b ∷ c ∷ d ∷ [])
four (Some a) (Some b) (Some c) None = None
four (Some a) (Some b) None z = None
four (Some a) None y z = None
four None x y z = None

-- four bytes in hexadecimal digits
abbrev pub hex_address : List ℕ → Option (List ℕ)
hex_address (a ∷ b ∷ c ∷ d ∷ e ∷ f ∷ g ∷ h ∷ []) =
    four (hex_byte (hex_digit a) (hex_digit b)) (hex_byte (hex_digit c) (hex_digit d)) (hex_byte (hex_digit e) (hex_digit f)) (hex_byte (hex_digit g) (hex_digit h))
hex_address other = None

-- by the labels, the last first
abbrev pub of_two : List ℕ → List ℕ → Option Sought
of_two kind name =
    if same_letters kind (codes "service") then Some (Service (lower name) None)
    else if same_letters kind (codes "node") then Some (Node name)
    else if same_letters kind (codes "addr") then option_map Address (hex_address name)
    else None

abbrev pub of_three : List ℕ → List ℕ → List ℕ → Option Sought
of_three kind name tag = if same_letters kind (codes "service") then Some (Service (lower name) (Some tag)) else None

abbrev pub of_labels : List (List ℕ) → Option Sought
of_labels (kind ∷ name ∷ []) = of_two kind name
of_labels (kind ∷ name ∷ tag ∷ []) = of_three kind name tag
of_labels other = None

abbrev pub without_datacenter : List (List ℕ) → List (List ℕ)
without_datacenter [] = []
without_datacenter (l ∷ labels) = if same_letters l (codes "dc1") then labels else l ∷ labels

-- a label that is a text
unfoldable pub text_if : List ℕ → Option (List ℕ)
text_if l = if is_utf8 l then Some l else None

abbrev pub with_text : Option (List ℕ) → Option (List (List ℕ)) → Option (List (List ℕ))
with_text None more = None
with_text (Some t) more = option_map (λ ts. t ∷ ts) more

-- labels that are texts, each of them
abbrev pub texts_of : List (List ℕ) → Option (List (List ℕ))
texts_of [] = Some []
texts_of (l ∷ labels) = with_text (text_if l) (texts_of labels)

-- texts, and those behind them
abbrev pub with_front : List (List ℕ) → Option (List (List ℕ)) → Option (List (List ℕ))
with_front ts more = option_map (λ us. ts ++ us) more

unfoldable pub sought_of : List (List ℕ) → Option Sought
sought_of labels = option_and_then (λ ls. of_labels (without_datacenter ls)) (texts_of labels)
