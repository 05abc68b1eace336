use Rattle.dns_jobs.proofs.tests.port_of_three.Given as goal

abbrev pub ghosts-answered_thrice : goal.ghosts-answered_thrice
ghosts-answered_thrice g a = record { book = a.opened.front.book }
