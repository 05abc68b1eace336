-- Pieces of bodies. They are those of Consul's HTTP API version 1, written as compact JSON with the members of an object
-- in byte order; binary values are base64 (RFC 4648, section 4).
use Rattle.std.specs.Prelude.{ℕ, ◌==◌, if◌then◌else◌, List, length, map, Option, None, Some, codes}
use Rattle.std.specs.Int.{to_be_bytes, w128}
use Rattle.base64.specs.Engines.{standard}
use Rattle.base64.specs.GeneralPurpose.{encode_of}
use Rattle.uuid.specs.Text.{hyphenated_text, lower}
use Rattle.serde_json.specs.Data.{Data, null, number, string, array, object, unsigned, Members, member, no_members}
use Rattle.serde_json.specs.View.{items_of}
use Rattle.serde_json.specs.Written.{compact_text}
use Rattle.cat_model.specs.declared.row.KvRow.{KvRow}
use Rattle.cat_model.specs.declared.reply.Form.TheVariants.{Json, Plain}
use Rattle.reply_body.specs.declared.shown.Shown.{Shown}

abbrev pub json : ℕ → Data → Shown
json status body = record { status = status; body = compact_text body; form = Json }

abbrev pub plain : ℕ → List ℕ → Shown
plain status body = record { status = status; body = body; form = Plain }

-- an identifier as RFC 9562 prints it
abbrev pub id_text : ℕ → List ℕ
id_text id = hyphenated_text lower (to_be_bytes w128 id)

-- a value in base64, or null where it is empty
abbrev pub value_data : List ℕ → Data
value_data value = if length value == 0 then null else string (encode_of standard value)

-- the session that holds the row, where one does
abbrev pub session_member : Option ℕ → Members → Members
session_member None more = more
session_member (Some id) more = member (codes "Session") (string (id_text id)) more

unfoldable pub row_data : KvRow → Data
row_data row = object
    (member (codes "CreateIndex") (number (unsigned row.create))
    (member (codes "Flags") (number (unsigned row.flags))
    (member (codes "Key") (string row.key)
    (member (codes "LockIndex") (number (unsigned row.lock_index))
    (member (codes "ModifyIndex") (number (unsigned row.modify))
    (session_member row.session
    (member (codes "Value") (value_data row.value) no_members)))))))

unfoldable pub rows_data : List KvRow → Data
rows_data rows = array (items_of (map row_data rows))
