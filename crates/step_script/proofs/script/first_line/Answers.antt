use Rattle.zeek_log.proofs.CutLemmas.{splits_only_at, splits_piece_at}
use Rattle.step_script.proofs.script.first_line.Goals as goal

pub returns-in_default : goal.returns-in_default
returns-in_default c = splits_only_at 10 c.args.text.now c.in_default.ensures

pub returns : goal.returns
returns c =
    splits_piece_at 10 c.args.text.now c.split_at.result.0.now c.split_at.result.1.now c.split_at-2.result.1.now c.in-Some.at c.in-Some.ensures
    c.split_at.ensures.front c.split_at.ensures.back c.split_at-2.ensures.back
