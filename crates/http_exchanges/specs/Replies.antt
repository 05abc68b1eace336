-- Replies as bytes, and refusals that are made without the cluster.
use Rattle.std.specs.Prelude.{◌≡◌, ℕ, zero, Bool, true, false, List, length, Some, None}
use Rattle.cat_model.specs.declared.command.Command.{Command}
use Rattle.cat_model.specs.declared.query.Answer.{Answer}
use Rattle.cat_model.specs.declared.query.Query.{Query}
use Rattle.cat_model.specs.declared.request.Asked.{Asked}
use Rattle.cat_model.specs.declared.request.Asked.TheVariants.{Bad, Good}
use Rattle.cat_model.specs.declared.request.Mode.TheVariants.{Stale}
use Rattle.cat_model.specs.declared.request.Request.{Request}
use Rattle.cat_model.specs.declared.request.Request.TheVariants.{Read}
use Rattle.cat_model.specs.declared.reply.Kind.TheVariants.{At, Refused}
use Rattle.cat_model.specs.declared.reply.Refusal.{Refusal}
use Rattle.cat_model.specs.Indexes.{index_of}
use Rattle.cat_model.specs.Machine.{catalog_at}
use Rattle.cat_model.specs.Queries.{answer}
use Rattle.cluster_rules.specs.Replies.{Reply, Says, Shows}
use Rattle.http_wire.specs.Replies.{head_bytes, reply_bytes}
use Rattle.reply_body.specs.Written.{written}

-- the reply with this refusal, to what is no request of the cluster's
abbrev pub refusing : Refusal → Reply
refusing why = record {
  number = 0;
  index = None;
  content = Says why;
  known = false;
  contact = 0;
  kind = Refused why;
}

-- a stale read that waits for no index: it is answered from a published view
abbrev pub is_viewed : Request → Bool
is_viewed (Read query Stale zero wait raw) = true
is_viewed other = false

-- A request that waits for nobody leaves the connection's pass as it was, so it took no turn: a stale read that waits for no
-- index, and what is refused.
abbrev pub TakesNoTurn : {P : Type 0} → Asked → P → P → Type 0
TakesNoTurn (Good request) old new = is_viewed request ≡ true → new ≡ old
TakesNoTurn (Bad why) old new = new ≡ old

-- The reply that shows this answer, with the query's index at a prefix of the log. It is to no request of the cluster's,
-- and has no number.
abbrev pub view_of : Query → Bool → Answer → ℕ → ℕ → Reply
view_of query raw a index prefix = record {
  number = 0;
  index = Some index;
  content = Shows query raw a;
  known = true;
  contact = 0;
  kind = At Stale prefix index 0 0;
}

-- over a list of commands: the catalog's answer behind all of them
abbrev pub viewed : Query → Bool → List Command → Reply
viewed query raw list = view_of query raw (answer query (catalog_at list)) (index_of query list) (length list)

abbrev pub IsViewed : Request → List Command → Reply → Type 0
IsViewed (Read query mode least wait raw) list reply = reply ≡ viewed query raw list
IsViewed other list reply = ⊥

-- a reply as it is written, which may say that the connection ends behind it
abbrev pub text_of : Reply → Bool → List ℕ
text_of reply close = reply_bytes (written reply) close

-- and its head alone
abbrev pub head_of : Reply → Bool → List ℕ
head_of reply close = head_bytes (written reply) close
