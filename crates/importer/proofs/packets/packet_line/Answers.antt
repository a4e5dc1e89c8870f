use Rattle.importer.proofs.CaptureLemmas.{line_fits, line_is}
use Rattle.importer.proofs.packets.packet_line.Goals as goal

pub returns-clause-row : goal.returns-clause-row
returns-clause-row c = line_is c.args.packet.now c.in_ok-packet_row.field-0 c.carry.result c.in_ok-packet_row.ensures.value c.in_ok-packet_row.ensures.fits c.carry.ensures.carried

pub returns-clause-fits : goal.returns-clause-fits
returns-clause-fits c = line_fits c.args.packet.now c.in_ok-packet_row.field-0 c.carry.result c.in_ok-packet_row.ensures.value c.in_ok-packet_row.ensures.fits c.carry.ensures.carried
