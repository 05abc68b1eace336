use Rattle.node_link.proofs.Linked.{are_processes, one_leader}
use Rattle.node_link.specs.Links.{observed, processes_of}
use Rattle.node_link.proofs.laws.a_term_has_one_host_that_leads.Goals as goal

pub returns : goal.returns
returns c hosts are (clocks, causal) =
    one_leader clocks (processes_of hosts) (c.a_term_has_one_leader.ensures (observed clocks 1 (processes_of hosts)) (are_processes clocks hosts are) causal)
