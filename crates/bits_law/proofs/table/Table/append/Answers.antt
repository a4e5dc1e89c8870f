use Rattle.std.proofs.Common.{◌+◌, length, sym, ap, ◌∙◌, subst}
use Rattle.bits_law.specs.Contents.{IsJoined}
use Rattle.bits_law.specs.Blocks.{bit_at, held, IsLaid}
use Rattle.bits_law.proofs.HeldLemmas.{joined_is, length_line}
use Rattle.bits_law.proofs.ViewLemmas.{rows_are, width_is}
use Rattle.bits_law.proofs.table.Table.append.Goals as goal

pub join-requires-clause-width : goal.join-requires-clause-width
join-requires-clause-width g c =
    let s = c.self.inside.store in
    let o = c.other.inside.store in
    width_is (bit_at o.blocks o.keys.items o.taken) o.blocks.width c.other.inside.rows c.args.other.now c.other.view_is
    ∙ c.requires ∙ sym (width_is (bit_at s.blocks s.keys.items s.taken) s.blocks.width c.self.inside.rows c.args.self c.self.view_is)

pub join-requires-clause-laid : goal.join-requires-clause-laid
join-requires-clause-laid g c =
    let s = c.self.inside.store in
    let have = rows_are (bit_at s.blocks s.keys.items s.taken) s.blocks.width c.self.inside.rows c.args.self c.self.view_is in
    subst (λ n. IsLaid (bit_at s.blocks s.keys.items s.taken) s.blocks.width n (length s.blocks.blocks)) (have ∙ sym c.rows-have.ensures.value) c.self.invariant.0

pub join-requires-clause-other : goal.join-requires-clause-other
join-requires-clause-other g c =
    let s = c.self.inside.store in
    let o = c.other.inside.store in
    let wide = width_is (bit_at o.blocks o.keys.items o.taken) o.blocks.width c.other.inside.rows c.args.other.now c.other.view_is
    ∙ c.requires ∙ sym (width_is (bit_at s.blocks s.keys.items s.taken) s.blocks.width c.self.inside.rows c.args.self c.self.view_is) in
    let more = rows_are (bit_at o.blocks o.keys.items o.taken) o.blocks.width c.other.inside.rows c.args.other.now c.other.view_is in
    subst (λ w. IsLaid (bit_at o.blocks o.keys.items o.taken) w c.rows-more.result (length o.blocks.blocks)) wide
    (subst (λ n. IsLaid (bit_at o.blocks o.keys.items o.taken) o.blocks.width n (length o.blocks.blocks)) (more ∙ sym c.rows-more.ensures.value) c.other.invariant.0)

pub returns-clause-ok : goal.returns-clause-ok
returns-clause-ok g c =
    let s = c.self.inside.store in
    let o = c.other.inside.store in
    let new = c.in_ok-join.field-0 in
    let have = rows_are (bit_at s.blocks s.keys.items s.taken) s.blocks.width c.self.inside.rows c.args.self c.self.view_is ∙ sym c.rows-have.ensures.value in
    let more = rows_are (bit_at o.blocks o.keys.items o.taken) o.blocks.width c.other.inside.rows c.args.other.now c.other.view_is ∙ sym c.rows-more.ensures.value in
    let wide = width_is (bit_at o.blocks o.keys.items o.taken) o.blocks.width c.other.inside.rows c.args.other.now c.other.view_is
    ∙ c.requires ∙ sym (width_is (bit_at s.blocks s.keys.items s.taken) s.blocks.width c.self.inside.rows c.args.self c.self.view_is) in
    let old = ap (held (bit_at s.blocks s.keys.items s.taken) s.blocks.width) (sym have) ∙ c.self.view_is in
    let other = ap (λ w. held (bit_at o.blocks o.keys.items o.taken) w c.rows-more.result) (sym wide) ∙ ap (held (bit_at o.blocks o.keys.items o.taken) o.blocks.width) (sym more) ∙ c.other.view_is in
    subst (λ w. IsJoined c.args.self c.args.other.now (held (bit_at new.blocks new.keys.items new.taken) w (c.rows-have.result + c.rows-more.result))) (sym c.in_ok-join.ensures.width)
    (subst (λ v. IsJoined v c.args.other.now (held (bit_at new.blocks new.keys.items new.taken) s.blocks.width (c.rows-have.result + c.rows-more.result))) old
    (subst (λ v. IsJoined (held (bit_at s.blocks s.keys.items s.taken) s.blocks.width c.rows-have.result) v (held (bit_at new.blocks new.keys.items new.taken) s.blocks.width (c.rows-have.result + c.rows-more.result))) other
    (joined_is (bit_at s.blocks s.keys.items s.taken) (bit_at o.blocks o.keys.items o.taken) (bit_at new.blocks new.keys.items new.taken) s.blocks.width c.rows-have.result c.rows-more.result c.in_ok-join.ensures.joined)))

pub returns-clause-rows : goal.returns-clause-rows
returns-clause-rows g c =
    let new = c.in_ok-join.field-0 in
    length_line (bit_at new.blocks new.keys.items new.taken) (c.rows-have.result + c.rows-more.result) 0
    ∙ ap (λ n. n + c.rows-more.result) c.rows-have.ensures.value ∙ ap (λ n. length c.args.self.present + n) c.rows-more.ensures.value
