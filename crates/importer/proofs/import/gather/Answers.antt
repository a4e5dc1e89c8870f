use Rattle.importer.proofs.TurnLemmas.{row_fits_columns}
use Rattle.importer.proofs.import.gather.Goals as goal

pub push-requires-clause-fits : goal.push-requires-clause-fits
push-requires-clause-fits c = row_fits_columns c.args.layout.now c.in-Some.layout c.args.row c.in-Some.is c.requires.fits
