use Rattle.node_link.proofs.Linked.{are_processes, one_log}
use Rattle.node_link.specs.Links.{observed, processes_of}
use Rattle.node_link.proofs.laws.hosts_have_one_log.Goals as goal

pub returns : goal.returns
returns c hosts are (clocks, causal) =
    one_log clocks (processes_of hosts) (c.journals_have_one_log.ensures (observed clocks 1 (processes_of hosts)) (are_processes clocks hosts are) causal)
