use Rattle.std.proofs.Common.{◌≡◌, ◌++◌, ◌∷◌, [], Err, OnOk, subst}
use Rattle.query_parse.specs.declared.fault.ParseEnd.{ParseEnd}
use Rattle.query_parse.specs.declared.fault.QueryFault.{QueryFault}
use Rattle.query_parse.specs.Parsing.{Reached, parsed}
use Rattle.script_desk.specs.Texts.{refused_text}
use Rattle.script_desk.proofs.PlayLemmas.{query_refused}
use Rattle.script_desk.proofs.desk.Desk.query.Goals as goal

pub returns-in-Err-Fault : goal.returns-in-Err-Fault
returns-in-Err-Fault c =
    let out = c.args.out.now in
    let out_now = c.push_refused.new.out in
    query_refused c.push_refused.result c.args.mode c.args.text.now c.args.self.now c.in-Err-Fault.fault out out_now
    (subst (λ (e : ParseEnd). Reached (parsed c.args.text.now) (Err e)) c.in-Err-Fault.field-0-is c.in-Err-Fault.ensures.exact)
    (subst (λ (f : QueryFault). OnOk c.push_refused.result (out_now ≡ out ++ (refused_text f ++ 10 ∷ []))) c.in-Err-Fault.fault-is c.push_refused.ensures)
