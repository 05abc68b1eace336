-- Tests whether two rows are equal.
use Rattle.std.specs.Prelude.{Bool, true, false, ◌&&◌, nat_eq}
use Rattle.cat_model.specs.Keys.{same_text, same_texts, same_option}
use Rattle.cat_model.specs.declared.row.KvRow.{KvRow}
use Rattle.cat_model.specs.declared.row.NodeRow.{NodeRow}
use Rattle.cat_model.specs.declared.row.ServiceRow.{ServiceRow}
use Rattle.cat_model.specs.declared.row.CheckRow.{CheckRow}
use Rattle.cat_model.specs.declared.row.SessionRow.{SessionRow}
use Rattle.cat_model.specs.declared.row.QueryRow.{QueryRow}
use Rattle.cat_model.specs.declared.row.Status.{Status}
use Rattle.cat_model.specs.declared.row.Status.TheVariants.{Passing, Warning, Critical}
use Rattle.cat_model.specs.declared.row.Behavior.{Behavior}
use Rattle.cat_model.specs.declared.row.Behavior.TheVariants.{Release, Delete}

abbrev pub same_bool : Bool → Bool → Bool
same_bool true true = true
same_bool false false = true
same_bool true false = false
same_bool false true = false

abbrev pub same_status : Status → Status → Bool
same_status Passing Passing = true
same_status Warning Warning = true
same_status Critical Critical = true
same_status a b = false

abbrev pub same_behavior : Behavior → Behavior → Bool
same_behavior Release Release = true
same_behavior Delete Delete = true
same_behavior a b = false

-- equal in all but create and modify
abbrev pub alike_nodes : NodeRow → NodeRow → Bool
alike_nodes a b = same_text a.node b.node && same_text a.address b.address

abbrev pub alike_services : ServiceRow → ServiceRow → Bool
alike_services a b =
    same_text a.node b.node && same_text a.id b.id && same_text a.name b.name && same_texts a.tags b.tags
    && same_text a.address b.address && nat_eq a.port b.port && same_bool a.tag_override b.tag_override

abbrev pub alike_checks : CheckRow → CheckRow → Bool
alike_checks a b =
    same_text a.node b.node && same_text a.id b.id && same_text a.name b.name && same_status a.status b.status
    && same_text a.notes b.notes && same_text a.output b.output && same_text a.service b.service

abbrev pub alike_kv : KvRow → KvRow → Bool
alike_kv a b =
    same_text a.key b.key && same_text a.value b.value && nat_eq a.flags b.flags && same_option a.session b.session
    && nat_eq a.lock_index b.lock_index

unfoldable pub same_node : NodeRow → NodeRow → Bool
same_node a b = alike_nodes a b && nat_eq a.create b.create && nat_eq a.modify b.modify

unfoldable pub same_service : ServiceRow → ServiceRow → Bool
same_service a b = alike_services a b && nat_eq a.create b.create && nat_eq a.modify b.modify

unfoldable pub same_check : CheckRow → CheckRow → Bool
same_check a b = alike_checks a b && nat_eq a.create b.create && nat_eq a.modify b.modify

unfoldable pub same_kv : KvRow → KvRow → Bool
same_kv a b = alike_kv a b && nat_eq a.create b.create && nat_eq a.modify b.modify

unfoldable pub same_session : SessionRow → SessionRow → Bool
same_session a b =
    nat_eq a.id b.id && same_text a.name b.name && same_text a.node b.node && same_texts a.checks b.checks
    && same_behavior a.behavior b.behavior && nat_eq a.delay_ms b.delay_ms && nat_eq a.ttl_ms b.ttl_ms
    && nat_eq a.create b.create && nat_eq a.modify b.modify

unfoldable pub same_query : QueryRow → QueryRow → Bool
same_query a b =
    nat_eq a.id b.id && same_text a.name b.name && same_option a.session b.session && same_text a.service b.service
    && same_bool a.only_passing b.only_passing && same_texts a.tags b.tags && nat_eq a.dns_ttl_ms b.dns_ttl_ms
    && nat_eq a.create b.create && nat_eq a.modify b.modify
