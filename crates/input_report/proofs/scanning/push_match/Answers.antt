use Rattle.std.proofs.Common.{◌≡◌, ℕ, List, [], Bool, Option, ◌++◌, ap, cond, subst, sym, ◌∙◌}
use Rattle.std.proofs.lemmas.List.{append-nil}
use Rattle.std.specs.Option.{option_map}
use Rattle.std.specs.Result.{OnOk}
use Rattle.vast_value.specs.declared.layout.Layout.{Layout}
use Rattle.vast_value.specs.Headings.{heading_of}
use Rattle.zeek_log.specs.Reader.{heading_or_none}
use Rattle.input_report.specs.Texts.{line, row_text}
use Rattle.input_report.proofs.ReportLemmas.{match_is}
use Rattle.input_report.proofs.scanning.push_match.Goals as goal

pub returns-then-not-branch : goal.returns-then-not-branch
returns-then-not-branch c =
    let report = c.args.report.now in
    let row = c.args.place.now.row in
    let last = option_map heading_of report.layout in
    let out = c.args.out.now in
    sym (ap (λ (t : List ℕ). out ++ t)
    (match_is last row report.expr.now report.resolved c.in_ok-holds.field-0 report.chosen c.requires c.in_ok-holds.ensures
    ∙ ap (λ (b : Bool). cond b (line (row_text (record { heading = heading_or_none last; cells = row }))) []) c.if-not-branch.true)
    ∙ append-nil out)

pub returns : goal.returns
returns c =
    let report = c.args.report.now in
    let row = c.args.place.now.row in
    let last = option_map heading_of report.layout in
    let shown =
    match_is last row report.expr.now report.resolved c.in_ok-holds.field-0 report.chosen c.requires c.in_ok-holds.ensures
    ∙ ap (λ (b : Bool). cond b (line (row_text (record { heading = heading_or_none last; cells = row }))) []) c.if-not-branch.false
    ∙ ap (λ (l : Option Layout). line (row_text (record { heading = heading_or_none (option_map heading_of l); cells = row }))) c.in-Some.is in
    subst (λ (t : List ℕ). OnOk c.push_row.result (c.push_row.new.out ≡ c.args.out.now ++ t)) (sym shown) c.push_row.ensures
