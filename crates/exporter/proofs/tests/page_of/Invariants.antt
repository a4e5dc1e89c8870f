use Rattle.exporter.proofs.tests.page_of.Given as goal

abbrev pub ghosts-finished : goal.ghosts-finished
ghosts-finished a = record { name = a.blank.name; parts = a.blank.parts }
