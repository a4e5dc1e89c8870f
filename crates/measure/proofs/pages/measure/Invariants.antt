use Rattle.measure.proofs.pages.measure.Given as goal

abbrev pub ghosts-measure_counted : goal.ghosts-measure_counted
ghosts-measure_counted g a = record { name = a.blank.name; parts = a.blank.parts }
