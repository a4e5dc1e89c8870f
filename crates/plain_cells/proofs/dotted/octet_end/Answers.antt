use Rattle.std.proofs.Common.{refl}
use lib.Count.{count_trailing_zeros}
use Rattle.plain_cells.proofs.OctetLemmas.{octet_led, octet_marks}
use Rattle.plain_cells.proofs.dotted.octet_end.Goals as goal

pub returns : goal.returns
returns c =
    let text = c.args.text.now in
    let rest = c.split_at.result.1.now in
    let count = count_trailing_zeros 64 c.args.others in
    octet_led text rest c.args.at count c.requires.room c.split_at.ensures.back
    (octet_marks text rest c.args.at c.args.others count c.requires.marks c.split_at.ensures.back c.requires.room c.requires.few refl (c.if-not-is_octet.ensures.few refl))
    (c.if-not-is_octet.ensures.some refl) (c.if-not-is_octet.ensures.few refl) (c.if-not-is_octet.ensures.low refl)
