use Rattle.std.proofs.Common.{◌≡◌, ◌++◌, ◌∷◌, codes, OnOk, ℕ, List, [], ap, ◌∙◌, subst}
use Rattle.std.specs.Fmt.{decimal}
use Rattle.input_report.proofs.ReportLemmas.{offset_joined}
use Rattle.input_report.proofs.texts.push_offset.Goals as goal

pub returns : goal.returns
returns c =
    let number = decimal c.args.offset in
    let joined =
    c.in_ok-push.ensures.ok ∙ ap (λ (t : List ℕ). t ++ 32 ∷ []) (c.in_ok-push_number.ensures ∙ ap (λ (t : List ℕ). t ++ number) c.in_ok-append.ensures.ok) in
    subst (λ (t : List ℕ). OnOk c.append-2.result (c.append-2.new.self ≡ t))
    (ap (λ (t : List ℕ). t ++ c.args.name.now) joined ∙ offset_joined c.args.out.now (codes "fault offset ") number c.args.name.now) c.append-2.ensures.ok
