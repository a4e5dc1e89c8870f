use Rattle.measure.proofs.batches.measure.Given as goal

abbrev pub ghosts-measure_counted : goal.ghosts-measure_counted
ghosts-measure_counted a = record { name = a.blank.name; parts = a.blank.parts }
