use Rattle.memchr.specs.Find.{is_byte}
use Rattle.zeek_log.proofs.CutLemmas.{found_behind, none_found_behind}
use Rattle.zeek_log.proofs.cut.newline_from.Goals as goal

pub returns : goal.returns
returns c =
    found_behind (is_byte 10) c.args.bytes.now c.split_at.result.1.now c.args.from c.in_ok-at.at c.requires.none c.split_at.ensures.back c.requires.within c.in_ok-at.ensures

pub returns-in_err-at : goal.returns-in_err-at
returns-in_err-at c =
    rw c.from_residual.ensures (none_found_behind (is_byte 10) c.args.bytes.now c.split_at.result.1.now c.args.from c.requires.none c.split_at.ensures.back c.requires.within c.in_err-at.ensures)
