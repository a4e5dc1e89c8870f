use Rattle.std.proofs.Common.{◌==◌, ℕ, List, length, map, take, ap, refl, subst, sym, ◌∙◌, arith}
use Rattle.std.specs.Option.{option_map}
use Rattle.std.proofs.lemmas.List.{length-map}
use Rattle.vast_value.specs.declared.layout.Layout.{Layout}
use Rattle.vast_value.specs.Headings.{field_of, heading_of}
use Rattle.zeek_log.specs.Answers.{told_of}
use Rattle.zeek_log.specs.Plain.{AreInOrder, AreRead, cut_before, line_end}
use Rattle.zeek_log.proofs.LookLemmas.{line_in_order}
use Rattle.zeek_log.proofs.PlainLemmas.{path_some, plain_is}
use Rattle.zeek_log.proofs.plain.plain_line.Goals as goal

pub are_plain-requires-clause-places : goal.are_plain-requires-clause-places
are_plain-requires-clause-places c =
    let same =
    c.if-count-columns.false ∙ ap length
    (c.columns-columns.ensures ∙ ap (λ (l : Layout). l.columns) c.layout.ensures) in
    omega (arith, same, c.in_ok-count.ensures.cuts.within)

pub are_plain-requires-clause-order : goal.are_plain-requires-clause-order
are_plain-requires-clause-order c =
    let same =
    c.if-count-columns.false ∙ ap length
    (c.columns-columns.ensures ∙ ap (λ (l : Layout). l.columns) c.layout.ensures) in
    let places = c.line_places.new.places in
    subst (λ (n : ℕ). AreInOrder 0 (line_end places c.in_ok-count.count) (take n places)) same
    (line_in_order c.args.known.now.separator c.args.held.now places c.in_ok-count.count c.in_ok-count.ensures.cuts)

pub returns : goal.returns
returns c =
    let known = c.args.known.now in
    let held = c.args.held.now in
    let count = c.in_ok-count.count in
    let places = c.line_places.new.places in
    let layout = c.in-Some.layout in
    let line = take (line_end places count) held in
    let stands = ap (option_map heading_of) c.in-Some.is in
    let path = path_some known.path c.is_empty.result
    (c.is_empty.ensures ∙ ap (λ (xs : List ℕ). length xs == 0) c.as_slice.ensures) c.if-is_empty.false in
    let long =
    c.if-count-columns.false ∙ ap length
    (c.columns-columns.ensures ∙ ap (λ (l : Layout). l.columns) c.layout.ensures) in
    let same = long ∙ sym (length-map layout.columns field_of) in
    let are : AreRead known.marks (map field_of layout.columns) (cut_before (take count places) 0 line) =
    subst (λ (n : ℕ). AreRead known.marks (map field_of layout.columns) (cut_before (take n places) 0 line)) (sym long)
    (c.if-not-are_plain.ensures refl) in
    plain_is (told_of known) (heading_of layout) held places count c.in_ok-count.ensures.cuts stands path same
    (c.if-not-may_be_row.ensures refl)
    are (line_in_order known.separator held places count c.in_ok-count.ensures.cuts)
