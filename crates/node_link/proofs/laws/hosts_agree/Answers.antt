use Rattle.node_link.proofs.Linked.{are_processes, agree}
use Rattle.node_link.specs.Links.{observed, processes_of}
use Rattle.node_link.proofs.laws.hosts_agree.Goals as goal

pub returns : goal.returns
returns c hosts are (clocks, causal) =
    agree clocks (processes_of hosts) (c.processes_agree.ensures (observed clocks 1 (processes_of hosts)) (are_processes clocks hosts are) causal)
