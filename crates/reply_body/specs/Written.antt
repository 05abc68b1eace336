-- A reply as it is given to the outside.
use Rattle.cat_model.specs.declared.reply.Reply.{Reply}
use Rattle.cluster_rules.specs.Replies as rules
use Rattle.reply_body.specs.Contents.{shown_content}

-- the reply with the status, body and form of its content
abbrev pub written : rules.Reply → Reply
written reply = record {
  number = reply.number;
  status = (shown_content reply.content).status;
  index = reply.index;
  body = (shown_content reply.content).body;
  form = (shown_content reply.content).form;
  known_leader = reply.known;
  last_contact = reply.contact;
  kind = reply.kind;
}
