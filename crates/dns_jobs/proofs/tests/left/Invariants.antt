use Rattle.dns_jobs.proofs.tests.left.Given as goal

abbrev pub ghosts-answered : goal.ghosts-answered
ghosts-answered g a = record { book = a.opened.front.book }
