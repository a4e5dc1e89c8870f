use Rattle.std.proofs.Common.{Option, None, Some, ap, ◌∙◌, subst}
use Rattle.std.specs.Option.{option_map}
use Rattle.vast_value.specs.Headings.{heading_of}
use Rattle.zeek_log.specs.declared.step.Step.{Step}
use Rattle.importer.specs.Coming.{Stays}
use Rattle.importer.proofs.TurnLemmas.{EndsSo, FitsSo, GivesOn, end_turn, end_turn_holds, end_turn_stays, head_turn, head_turn_holds, line_turn, line_turn_holds, ok_step, row_fits_by, turn_going}
use Rattle.importer.proofs.import.Import.turn.Goals as goal

pub returns-in-Ok-Some-Head-clause-goes : goal.returns-in-Ok-Some-Head-clause-goes
returns-in-Ok-Some-Head-clause-goes g c =
    let i = c.self.inside in
    let new = c.next.new.self.at in
    let now = g.S.Source.left c.next.new.self.source in
    head_turn g.S.Source.left c.args.self.now i.number i.rows (option_map heading_of i.layout) (option_map heading_of c.begin.new.current) i.input.at new i.input.source now
    c.args.gathered.now (heading_of c.in-Ok-Some-Head.layout) c.begin.result c.self.view_is c.requires.held
    (subst (λ (o : Option Step). GivesOn i.input.at new (g.S.Source.left i.input.source) now (ok_step o)) (c.in-Ok-Some-Head.field-0-is ∙ ap Some c.in-Ok-Some-Head.field-0-0-is) c.in-Ok-Some-Head.ensures.next)
    c.begin.ensures.layout c.begin.ensures.turn

pub returns-in-Ok-Some-Head-clause-holds : goal.returns-in-Ok-Some-Head-clause-holds
returns-in-Ok-Some-Head-clause-holds g c =
    let i = c.self.inside in
    head_turn_holds c.args.self.now i.number i.rows (option_map heading_of i.layout) (option_map heading_of c.begin.new.current) i.input.at c.next.new.self.at i.input.source
    c.args.gathered.now (heading_of c.in-Ok-Some-Head.layout) c.begin.result c.self.view_is c.requires.held c.self.invariant.0
    (subst (λ (o : Option Step). EndsSo c.next.new.self.at (ok_step o)) c.in-Ok-Some-Head.field-0-is c.in-Ok-Some-Head.ensures.ends)
    c.begin.ensures.layout c.begin.ensures.turn

pub returns-in-Ok-clause-goes : goal.returns-in-Ok-clause-goes
returns-in-Ok-clause-goes g c =
    let i = c.self.inside in
    let new = c.next.new.self.at in
    let now = g.S.Source.left c.next.new.self.source in
    line_turn g.S.Source.left c.args.self.now i.number i.rows (option_map heading_of i.layout) i.input.at new i.input.source now
    c.args.gathered.now c.gather.new.gathered c.in-Ok-Some-Line.row c.in-Ok.turn c.self.view_is c.requires.held
    (row_fits_by (option_map heading_of i.layout) i.input.at c.next.new.self.at c.in-Ok-Some-Line.row c.self.invariant.2
    (subst (λ (o : Option Step). FitsSo i.input.at c.next.new.self.at (ok_step o)) (c.in-Ok-Some-Line.field-0-is ∙ ap Some c.in-Ok-Some-Line.field-0-0-is) c.in-Ok-Some-Line.ensures.fits))
    (subst (λ (o : Option Step). GivesOn i.input.at new (g.S.Source.left i.input.source) now (ok_step o)) (c.in-Ok-Some-Line.field-0-is ∙ ap Some c.in-Ok-Some-Line.field-0-0-is) c.in-Ok-Some-Line.ensures.next)
    c.in-Ok.ensures.row c.in-Ok.ensures.turn

pub returns-in-Ok-clause-holds : goal.returns-in-Ok-clause-holds
returns-in-Ok-clause-holds g c =
    let i = c.self.inside in
    line_turn_holds c.args.self.now i.number i.rows (option_map heading_of i.layout) i.input.at c.next.new.self.at i.input.source
    c.args.gathered.now c.gather.new.gathered c.in-Ok-Some-Line.row c.in-Ok.turn c.self.view_is c.requires.held
    (row_fits_by (option_map heading_of i.layout) i.input.at c.next.new.self.at c.in-Ok-Some-Line.row c.self.invariant.2
    (subst (λ (o : Option Step). FitsSo i.input.at c.next.new.self.at (ok_step o)) (c.in-Ok-Some-Line.field-0-is ∙ ap Some c.in-Ok-Some-Line.field-0-0-is) c.in-Ok-Some-Line.ensures.fits))
    (subst (λ (o : Option Step). EndsSo c.next.new.self.at (ok_step o)) c.in-Ok-Some-Line.field-0-is c.in-Ok-Some-Line.ensures.ends)
    c.in-Ok.ensures.row c.in-Ok.ensures.turn

pub returns-in-Ok-None-clause-goes : goal.returns-in-Ok-None-clause-goes
returns-in-Ok-None-clause-goes g c =
    let i = c.self.inside in
    let new = c.next.new.self.at in
    let now = g.S.Source.left c.next.new.self.source in
    end_turn g.S.Source.left c.args.self.now i.number i.rows (option_map heading_of i.layout) (option_map heading_of c.end.new.current) i.input.at new i.input.source now
    c.args.gathered.now None c.end.result c.self.view_is c.requires.held
    (subst (λ (o : Option Step). GivesOn i.input.at new (g.S.Source.left i.input.source) now (ok_step o)) c.in-Ok-None.field-0-is c.in-Ok-None.ensures.next)
    (subst (λ (o : Option Step). EndsSo new (ok_step o)) c.in-Ok-None.field-0-is c.in-Ok-None.ensures.ends) c.end.ensures.turn

pub returns-in-Ok-None-clause-holds : goal.returns-in-Ok-None-clause-holds
returns-in-Ok-None-clause-holds g c =
    let i = c.self.inside in
    end_turn_holds c.args.self.now i.number i.rows (option_map heading_of i.layout) (option_map heading_of c.end.new.current) i.input.at c.next.new.self.at i.input.source
    c.args.gathered.now None c.end.result c.self.view_is c.requires.held
    (subst (λ (o : Option Step). EndsSo c.next.new.self.at (ok_step o)) c.in-Ok-None.field-0-is c.in-Ok-None.ensures.ends) c.end.ensures.turn

pub returns-in-Ok-None-clause-stays : goal.returns-in-Ok-None-clause-stays
returns-in-Ok-None-clause-stays g c =
    let i = c.self.inside in
    end_turn_stays c.args.self.now i.number i.rows (option_map heading_of i.layout) (option_map heading_of c.end.new.current) i.input c.next.new.self
    c.args.gathered.now None c.end.result c.self.view_is
    (subst (λ (o : Option Step). Stays i.input.at i.input c.next.new.self (ok_step o)) c.in-Ok-None.field-0-is c.in-Ok-None.ensures.stays)
    c.end.ensures.turn c.end.ensures.stays

pub returns-in-Err-clause-goes : goal.returns-in-Err-clause-goes
returns-in-Err-clause-goes g c =
    let i = c.self.inside in
    let new = c.next.new.self.at in
    let now = g.S.Source.left c.next.new.self.source in
    end_turn g.S.Source.left c.args.self.now i.number i.rows (option_map heading_of i.layout) (option_map heading_of c.end-in-Err.new.current) i.input.at new i.input.source now
    c.args.gathered.now (Some c.in-Err.why) c.end-in-Err.result c.self.view_is c.requires.held c.in-Err.ensures.next c.in-Err.ensures.ends c.end-in-Err.ensures.turn

pub returns-in-Err-clause-holds : goal.returns-in-Err-clause-holds
returns-in-Err-clause-holds g c =
    let i = c.self.inside in
    end_turn_holds c.args.self.now i.number i.rows (option_map heading_of i.layout) (option_map heading_of c.end-in-Err.new.current) i.input.at c.next.new.self.at i.input.source
    c.args.gathered.now (Some c.in-Err.why) c.end-in-Err.result c.self.view_is c.requires.held c.in-Err.ensures.ends c.end-in-Err.ensures.turn

pub returns-in-Err-clause-stays : goal.returns-in-Err-clause-stays
returns-in-Err-clause-stays g c =
    let i = c.self.inside in
    end_turn_stays c.args.self.now i.number i.rows (option_map heading_of i.layout) (option_map heading_of c.end-in-Err.new.current) i.input c.next.new.self
    c.args.gathered.now (Some c.in-Err.why) c.end-in-Err.result c.self.view_is c.in-Err.ensures.stays c.end-in-Err.ensures.turn c.end-in-Err.ensures.stays

pub returns-in-Ok-Some-Head-clause-going : goal.returns-in-Ok-Some-Head-clause-going
returns-in-Ok-Some-Head-clause-going g c =
    turn_going c.begin.result c.next.new.self.at (subst (λ (o : Option Step). EndsSo c.next.new.self.at (ok_step o)) c.in-Ok-Some-Head.field-0-is c.in-Ok-Some-Head.ensures.ends)

pub returns-in-Ok-clause-going : goal.returns-in-Ok-clause-going
returns-in-Ok-clause-going g c =
    turn_going c.in-Ok.turn c.next.new.self.at (subst (λ (o : Option Step). EndsSo c.next.new.self.at (ok_step o)) c.in-Ok-Some-Line.field-0-is c.in-Ok-Some-Line.ensures.ends)
