-- The reply to a packet. RFC 1035, section 4.1.
use Rattle.std.specs.Prelude.{ℕ, ◌+◌, ◌-◌, ◌*◌, ◌/◌, ◌%◌, ◌==◌, Bool, true, false, not, ◌&&◌, ◌||◌, nat_lt, nat_le, if◌then◌else◌, List, [], ◌∷◌, ◌++◌, length, drop, slice_index, Option, None, Some, option_and_then, codes}
use Rattle.cat_model.specs.Lists.{flat}
use Rattle.cat_model.specs.declared.query.Query.{Query}
use Rattle.cat_model.specs.declared.query.Answer.{Answer}
use Rattle.dns_service.specs.declared.question.Question.{Question}
use Rattle.dns_service.specs.declared.matches.Found.{Found}
use Rattle.dns_service.specs.Names.{number_at, question_in}
use Rattle.dns_service.specs.Sought.{same_letters, sought_of}
use Rattle.dns_service.specs.Instances.{found_at, records_of, two_bytes}

-- ---- the header of a packet

-- a reply, or too short for a header
abbrev pub has_no_reply : List ℕ → Bool
has_no_reply packet = nat_lt (length packet) 12 || nat_le 128 (slice_index packet 2)

abbrev pub opcode : List ℕ → ℕ
opcode packet = slice_index packet 2 / 8 % 16

-- ---- the reply

abbrev pub bit : Bool → ℕ
bit true = 1
bit false = 0

-- OPCODE and RD as asked; QR and AA are 1, RA and Z are 0; TC where the records are cut off
abbrev pub flags : List ℕ → ℕ → Bool → List ℕ
flags packet code cut = (132 + opcode packet * 8 + bit cut * 2 + slice_index packet 2 % 2) ∷ code ∷ []

-- of questions and records; there are none of the other two kinds
abbrev pub counts : ℕ → ℕ → List ℕ
counts questions answers = 0 ∷ questions ∷ (two_bytes answers ++ (0 ∷ 0 ∷ 0 ∷ 0 ∷ []))

-- with the ID that was asked
abbrev pub header : List ℕ → ℕ → ℕ → ℕ → Bool → List ℕ
header packet code questions answers cut = slice_index packet 0 ∷ slice_index packet 1 ∷ (flags packet code cut ++ counts questions answers)

-- without a question and records
abbrev pub without_question : List ℕ → ℕ → List ℕ
without_question packet code = header packet code 0 0 false

-- with the question and without records
abbrev pub refused : List ℕ → ℕ → List ℕ → List ℕ
refused packet code question = header packet code 1 0 false ++ question

-- the first records that fit
abbrev pub fitting : ℕ → List (List ℕ) → List (List ℕ)
fitting room [] = []
fitting room (r ∷ records) = if nat_le (length r) room then r ∷ fitting (room - length r) records else []

-- with the question and these records, of so many
abbrev pub with_sent : List ℕ → List ℕ → List (List ℕ) → ℕ → List ℕ
with_sent packet question sent all =
    (header packet 0 1 (length sent) (nat_lt (length sent) all) ++ question) ++ flat (λ r. r) sent

-- with the question and those records with which it has at most 512 bytes
abbrev pub answered : List ℕ → List ℕ → List (List ℕ) → List ℕ
answered packet question records = with_sent packet question (fitting (500 - length question) records) (length records)

-- ---- which reply

abbrev pub is_of_consul : List (List ℕ) → Bool
is_of_consul [] = false
is_of_consul (l ∷ labels) = same_letters l (codes "consul")

abbrev pub behind_first : List (List ℕ) → List (List ℕ)
behind_first [] = []
behind_first (l ∷ labels) = labels

abbrev pub reply_found : List ℕ → Question → Option Found → List ℕ
reply_found packet question None = refused packet 3 question.bytes
reply_found packet question (Some found) = answered packet question.bytes (records_of question.kind found)

abbrev pub reply_asked : (Query → Answer) → List ℕ → Option Question → List ℕ
reply_asked answer packet None = without_question packet 1
reply_asked answer packet (Some question) =
    if question.class == 1 && is_of_consul question.labels
    then reply_found packet question (option_and_then (found_at answer) (sought_of (behind_first question.labels)))
    else refused packet 5 question.bytes

-- the reply, where each query has such an answer
unfoldable pub dns_reply : (Query → Answer) → List ℕ → Option (List ℕ)
dns_reply answer packet =
    if has_no_reply packet then None
    else if not (opcode packet == 0) then Some (without_question packet 4)
    else if not (number_at 4 packet == 1) then Some (without_question packet 1)
    else Some (reply_asked answer packet (question_in (drop 12 packet)))
