use Rattle.cluster_requests.proofs.Among.{out_within, taken_reply, taken_closing, no_sync}
use Rattle.cluster_requests.proofs.requests.Requests.collect_at.Goals as goal

pub take_at-requires : goal.take_at-requires
take_at-requires c = out_within c.args.number c.args.at c.args.self.now.tray c.requires

pub returns-in-Replied : goal.returns-in-Replied
returns-in-Replied c = taken_reply c.args.number c.args.at c.in-Replied.reply c.take_at.result c.args.self.now c.take_at.new.self c.requires c.take_at.ensures c.in-Replied.ensures

pub returns-in-Closed : goal.returns-in-Closed
returns-in-Closed c = taken_closing c.args.number c.args.at _ c.in-Closed.event c.take_at.result c.args.self.now c.take_at.new.self c.requires c.take_at.ensures c.in-Closed.ensures

pub unreachable-requires : goal.unreachable-requires
unreachable-requires c = no_sync c.args.number c.args.at _ _ c.take_at.result c.args.self.now c.take_at.new.self c.requires c.take_at.ensures c.in-Synced.ensures

pub unreachable-unreachable : goal.unreachable-unreachable
unreachable-unreachable c = c.unreachable.result
