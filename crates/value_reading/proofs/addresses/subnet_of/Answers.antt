use Rattle.std.proofs.Common.{◌∙◌}
use Rattle.value_reading.proofs.AddressLemmas.{subnet_cut}
use Rattle.value_reading.proofs.addresses.subnet_of.Goals as goal

pub returns : goal.returns
returns c =
    c.subnet_by.ensures
    ∙ subnet_cut c.args.text.now c.split_at.result.0.now c.split_at.result.1.now c.behind_one.result.now c.first_at.result
    c.first_at.ensures.value c.split_at.ensures.front c.split_at.ensures.back c.behind_one.ensures
