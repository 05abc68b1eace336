-- The bytes of a reply (RFC 9112, sections 2 to 6; the headers of Consul's HTTP API version 1).
use Rattle.std.specs.Prelude.{ℕ, ◌==◌, Bool, if◌then◌else◌, List, [], ◌∷◌, ◌++◌, length, Option, Some, None, codes, decimal, unwrap_or}
use Rattle.std.specs.List.{join_by}
use Rattle.http.specs.StatusCode.{reason_phrase}
use Rattle.cat_model.specs.declared.reply.Form.{Form}
use Rattle.cat_model.specs.declared.reply.Form.TheVariants as forms
use Rattle.cat_model.specs.declared.reply.Kind.{Kind}
use Rattle.cat_model.specs.declared.reply.Kind.TheVariants as kinds
use Rattle.cat_model.specs.declared.reply.Refusal.{Refusal}
use Rattle.cat_model.specs.declared.reply.Refusal.TheVariants as refusals
use Rattle.cat_model.specs.declared.reply.Reply.{Reply}

abbrev pub crlf : List ℕ
crlf = 13 ∷ 10 ∷ []

abbrev pub header : List ℕ → List ℕ → List ℕ
header name value = name ++ codes ": " ++ value ++ crlf

abbrev pub status_line : ℕ → List ℕ
status_line status = codes "HTTP/1.1 " ++ decimal status ++ codes " " ++ unwrap_or (reason_phrase status) [] ++ crlf

abbrev pub type_name : Form → List ℕ
type_name forms.Json = codes "application/json"
type_name forms.Plain = codes "text/plain; charset=utf-8"
type_name forms.Octets = codes "application/octet-stream"

-- an empty body has no type
abbrev pub type_line : List ℕ → Form → List ℕ
type_line body form = if length body == 0 then [] else header (codes "Content-Type") (type_name form)

abbrev pub index_line : Option ℕ → List ℕ
index_line None = []
index_line (Some index) = header (codes "X-Consul-Index") (decimal index)

abbrev pub flag_name : Bool → List ℕ
flag_name flag = if flag then codes "true" else codes "false"

abbrev pub leader_line : Bool → List ℕ
leader_line known = header (codes "X-Consul-KnownLeader") (flag_name known)

abbrev pub contact_line : ℕ → List ℕ
contact_line ms = header (codes "X-Consul-LastContact") (decimal ms)

-- a read of the catalog says at what index, and how far the server may be behind
abbrev pub consul_lines : Kind → Option ℕ → Bool → ℕ → List ℕ
consul_lines (kinds.At mode prefix at clock deadline) index known ms = index_line index ++ leader_line known ++ contact_line ms
consul_lines other index known ms = []

abbrev pub allowed_line : Refusal → List ℕ
allowed_line (refusals.Method allow) = header (codes "Allow") (join_by (λ method. method) (codes ", ") allow)
allowed_line other = []

-- a refusal of the method names those that the path takes
abbrev pub allow_line : Kind → List ℕ
allow_line (kinds.Refused why) = allowed_line why
allow_line other = []

abbrev pub close_line : Bool → List ℕ
close_line close = if close then header (codes "Connection") (codes "close") else []

abbrev pub length_line : List ℕ → List ℕ
length_line body = header (codes "Content-Length") (decimal (length body))

-- the last lines of a head, and the empty line that ends it
unfoldable pub last_lines : List ℕ → Bool → List ℕ
last_lines body close = close_line close ++ length_line body ++ crlf

unfoldable pub head_bytes : Reply → Bool → List ℕ
head_bytes reply close =
    status_line reply.status
    ++ type_line reply.body reply.form
    ++ consul_lines reply.kind reply.index reply.known_leader reply.last_contact
    ++ allow_line reply.kind
    ++ last_lines reply.body close

abbrev pub reply_bytes : Reply → Bool → List ℕ
reply_bytes reply close = head_bytes reply close ++ reply.body

abbrev pub continue_bytes : List ℕ
continue_bytes = codes "HTTP/1.1 100 Continue" ++ crlf ++ crlf
