use Rattle.std.proofs.Common.{◌≡◌, List, ℕ, Some, take, drop, ap, sym, ◌∙◌}
use Rattle.vast_io.specs.Memory.{Supply}
use Rattle.vast_io.proofs.Reading.{left_rejoined}
use Rattle.vast_io.proofs.memory.MemSourceSource.read.Goals as goal

pub returns-clause-bytes : goal.returns-clause-bytes
returns-clause-bytes c =
    let count = c.copy_front-count.result in
    let at = c.self.inside.at in
    let left : c.split_at.result.1.now ≡ drop at c.self.inside.bytes =
    c.split_at.ensures.back ∙ ap (λ (t : List ℕ). drop at t) c.as_slice.ensures in
    let given : take count c.copy_front-count.new.into ≡ take count (drop at c.self.inside.bytes) =
    c.copy_front-count.ensures.front ∙ ap (λ (t : List ℕ). take count t) left in
    ap (λ (t : List ℕ). Some t)
    (sym (left_rejoined count at c.self.inside.bytes (take count c.copy_front-count.new.into) given ∙ ap (λ (s : Supply). s.left) c.self.view_is))
