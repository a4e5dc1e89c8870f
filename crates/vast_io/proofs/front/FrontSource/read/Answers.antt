use Rattle.std.proofs.Common.{◌≡◌, ℕ, ◌+◌, List, take, drop, ap, sym, ◌∙◌}
use Rattle.std.specs.Io.KnownBytes.{prepend_known}
use Rattle.vast_io.proofs.Reading.{left_rejoined, prepend_behind}
use Rattle.vast_io.proofs.front.FrontSource.read.Goals as goal

pub returns-clause-bytes : goal.returns-clause-bytes
returns-clause-bytes g c =
    let count = c.copy_front-count.result in
    let at = c.self.inside.at in
    let left = g.S.Source.left c.self.inside.rest in
    let front : c.split_at.result.1.now ≡ drop at c.self.inside.front =
    c.split_at.ensures.back ∙ ap (λ (t : List ℕ). drop at t) c.as_slice.ensures in
    let given : take count c.copy_front-count.new.into ≡ take count (drop at c.self.inside.front) =
    c.copy_front-count.ensures.front ∙ ap (λ (t : List ℕ). take count t) front in
    let joined = prepend_behind (take count c.copy_front-count.new.into) (drop (at + count) c.self.inside.front) left in
    let whole = ap (λ (t : List ℕ). prepend_known t left) (left_rejoined count at c.self.inside.front (take count c.copy_front-count.new.into) given) in
    ap (λ s. prepend_known s.front (g.S.Source.left s.rest)) (sym c.self.view_is) ∙ sym (joined ∙ whole)
