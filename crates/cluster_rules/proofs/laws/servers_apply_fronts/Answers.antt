use Rattle.cluster_rules.proofs.laws.servers_apply_fronts.Goals as goal

pub returns-clause-front : goal.returns-clause-front
returns-clause-front x = λ c s i. (s.parts.servers.each i).front

pub returns-clause-within : goal.returns-clause-within
returns-clause-within x = λ c s i. (s.parts.servers.each i).within

pub returns-clause-clocks : goal.returns-clause-clocks
returns-clause-clocks x = λ c s i. (s.parts.servers.each i).clocks

pub returns-clause-entries : goal.returns-clause-entries
returns-clause-entries x = λ c s. s.parts.counts.entries
