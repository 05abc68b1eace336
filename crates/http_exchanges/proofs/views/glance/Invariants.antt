use Rattle.http_exchanges.proofs.views.glance.Given as goal

-- the ledger of the blank
abbrev pub ghosts-glance_counted : goal.ghosts-glance_counted
ghosts-glance_counted g a = record { name = a.blank.name; parts = a.blank.parts }
