use Rattle.std.proofs.Common.{◌≡◌, length, drop, ◌∙◌, ap, List, ℕ}
use Rattle.vast_io.proofs.Reading.{front_copied}
use Rattle.vast_io.proofs.memory.copy_front.Goals as goal

pub returns-clause-front : goal.returns-clause-front
returns-clause-front c =
    let len : length c.copy_from_slice.new.self ≡ c.min-count.result =
    ap (λ (t : List ℕ). length t) c.copy_from_slice.ensures.after ∙ c.split_at.ensures.front_len in
    front_copied c.min-count.result c.copy_from_slice.new.self (drop c.min-count.result c.args.into.now) len
    ∙ c.copy_from_slice.ensures.after ∙ c.split_at.ensures.front
