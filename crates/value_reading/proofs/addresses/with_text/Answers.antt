use Rattle.std.proofs.Common.{◌≡◌, None, rules, drop, refl, sym, ap, ◌∙◌, arith}
use Rattle.std.specs.Option.{option_and_then}
use Rattle.std.specs.List.{slice_split}
use Rattle.value_reading.specs.Addresses.{is_colon}
use Rattle.value_reading.specs.Places.{groups_in, groups_read}
use Rattle.value_reading.proofs.GroupLemmas.{read_step, read_last, read_behind, groups_of}
use Rattle.value_reading.proofs.addresses.with_text.Goals as goal

pub returns-in_err-groups : goal.returns-in_err-groups
returns-in_err-groups c =
    let behind = c.split_at.result.1.now in
    let none : None ≡ groups_read c.args.start.number c.args.start.count (groups_in c.args.dotted c.args.text.now) =
    ap (option_and_then (read_behind (groups_of c.args.dotted (slice_split is_colon (drop 1 behind))))) c.in_err-groups.ensures
    ∙ sym (read_step c.loop-at.groups.number c.loop-at.groups.count c.args.dotted c.loop-at.rest.now c.split_at.result.0.now behind (drop 1 behind) c.loop-at.at
    c.loop-at.invariant.1 (omega arith) c.split_at.ensures.front c.split_at.ensures.back refl)
    ∙ c.loop-at.invariant.0 in
    search rules

pub loop-at-preserved : goal.loop-at-preserved
loop-at-preserved c = (
  ap (option_and_then (read_behind (groups_of c.args.dotted (slice_split is_colon c.behind_one-rest.result.now)))) c.in_ok-groups.ensures
      ∙ sym (read_step c.loop-at.groups.number c.loop-at.groups.count c.args.dotted c.loop-at.rest.now c.split_at.result.0.now c.split_at.result.1.now c.behind_one-rest.result.now c.loop-at.at
      c.loop-at.invariant.1 (omega arith) c.split_at.ensures.front c.split_at.ensures.back c.behind_one-rest.ensures)
      ∙ c.loop-at.invariant.0,
  c.first_at-at-in-loop-at.ensures.value,
)

pub returns : goal.returns
returns c =
    c.with_last.ensures
    ∙ sym (read_last c.loop-at.groups.number c.loop-at.groups.count c.args.dotted c.loop-at.rest.now c.loop-at.at c.loop-at.invariant.1 (omega arith))
    ∙ c.loop-at.invariant.0
