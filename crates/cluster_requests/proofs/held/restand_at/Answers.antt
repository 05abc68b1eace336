use Rattle.std.proofs.Common.{◌<◌, ◌^◌, length, ap, get_or, arith}
use Rattle.cluster_requests.proofs.Counting.{can_join, can_leave, changed_counts}
use Rattle.cluster_requests.proofs.held.restand_at.Goals as goal

pub count_out-requires : goal.count_out-requires
count_out-requires c =
    let ss = c.args.slots.now in
    let old = get_or ss c.args.at c.index-slots-at.result in
    can_leave c.args.counts.now ss c.args.at old c.requires.within (ap (get_or ss c.args.at) c.index-slots-at.is) c.requires.counts

pub count_in-requires : goal.count_in-requires
count_in-requires c =
    let ss = c.args.slots.now in
    let old = get_or ss c.args.at c.index-slots-at.result in
    let few : length ss < 2 ^ 64 = omega arith in
    can_join c.args.counts.now ss c.args.at old c.requires.within (ap (get_or ss c.args.at) c.index-slots-at.is) c.requires.counts c.count_out.new.counts c.count_out.ensures c.restand.new.self few

pub returns-clause-counts : goal.returns-clause-counts
returns-clause-counts c =
    let ss = c.args.slots.now in
    let old = get_or ss c.args.at c.index-slots-at.result in
    changed_counts c.args.counts.now ss c.args.at old c.requires.within (ap (get_or ss c.args.at) c.index-slots-at.is) c.requires.counts c.count_out.new.counts c.count_out.ensures c.restand.new.self c.count_in.new.counts c.count_in.ensures
