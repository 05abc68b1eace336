use Rattle.dns_server.proofs.replies.made.Given as goal

abbrev pub ghosts-made_counted : goal.ghosts-made_counted
ghosts-made_counted g a = record { name = a.blank.name; parts = a.blank.parts }
