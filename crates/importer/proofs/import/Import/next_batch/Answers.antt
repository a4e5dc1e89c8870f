use Rattle.std.proofs.Common.{◌≤◌, refl, ap, ◌∙◌, subst, arith, inl, inr}
use Rattle.importer.specs.Coming.{Importing, Sourced}
use Rattle.importer.proofs.TurnLemmas.{faults_so, so_closes, so_ends, so_further, starts_held, starts_so, stays_so}
use Rattle.importer.proofs.import.Import.next_batch.Goals as goal

pub loop-layout-init : goal.loop-layout-init
loop-layout-init g c =
    let first = c.args.self.now in
    let empty = c.new-gathered.ensures in
    record {
      goes = starts_so first.at c.new-gathered.result (g.S.Source.left first.source) empty;
      held = starts_held first.at c.new-gathered.result empty (subst (λ (s : Sourced Importing g.row.S.Denot). 1 ≤ s.at.rows) c.self.view_is c.self.invariant.0);
      stays = λ end ended. (refl, empty);
      less = rw empty (omega arith);
      number = refl;
      rows = refl;
      tells = refl;
      faults = inl (refl, refl);
    }

pub loop-layout-preserved : goal.loop-layout-preserved
loop-layout-preserved g c =
    let first = c.args.self.now in
    let mid = c.loop-layout.self in
    let new = c.turn.new.self in
    let i = c.loop-layout.invariant in
    let t = c.in-Goes.ensures in
    record {
      goes = so_further first.at mid.at new.at c.loop-layout.gathered c.turn.new.gathered (g.S.Source.left first.source) (g.S.Source.left mid.source) (g.S.Source.left new.source) i.goes t.goes;
      held = t.holds;
      stays = stays_so first mid new (λ (s : Sourced Importing g.row.S.Denot). s.at.standing) c.loop-layout.gathered c.turn.new.gathered i.stays t.stays;
      less = omega (arith, i.less, t.less.0);
      number = t.same.0 ∙ i.number;
      rows = t.same.1 ∙ i.rows;
      tells = t.tells ∙ i.tells;
      faults = inr (t.going, faults_so (λ (s : Sourced Importing g.row.S.Denot). s.at.standing) first mid new (g.S.Source.faults first.source) (g.S.Source.faults mid.source) (g.S.Source.faults new.source) i.faults t.faults);
    }

pub returns-in-Closes-clause-next : goal.returns-in-Closes-clause-next
returns-in-Closes-clause-next g c =
    let first = c.args.self.now in
    let mid = c.loop-layout.self in
    let new = c.turn.new.self in
    so_closes first.at mid.at new.at c.loop-layout.gathered c.turn.new.gathered c.in-Closes.layout c.in-Some.batch c.into_rows.result c.self-in-loop-layout.inside.number
    (g.S.Source.left first.source) (g.S.Source.left mid.source) (g.S.Source.left new.source) c.loop-layout.invariant.goes c.in-Closes.ensures.goes
    c.in-Some.ensures.source (ap (λ (s : Sourced Importing g.row.S.Denot). s.at.number) c.self-in-loop-layout.view_is ∙ c.in-Closes.ensures.same.0) c.in-Some.ensures.layout c.in-Some.ensures.rows c.into_rows.ensures

pub returns-in-Closes-clause-faults : goal.returns-in-Closes-clause-faults
returns-in-Closes-clause-faults g c =
    let first = c.args.self.now in
    let mid = c.loop-layout.self in
    let new = c.turn.new.self in
    faults_so (λ (s : Sourced Importing g.row.S.Denot). s.at.standing) first mid new (g.S.Source.faults first.source) (g.S.Source.faults mid.source) (g.S.Source.faults new.source)
    c.loop-layout.invariant.faults c.in-Closes.ensures.faults

pub returns-in-Ends-None-clause-next : goal.returns-in-Ends-None-clause-next
returns-in-Ends-None-clause-next g c =
    let first = c.args.self.now in
    let mid = c.loop-layout.self in
    let new = c.turn.new.self in
    so_ends first.at mid.at new.at c.loop-layout.gathered c.turn.new.gathered c.in-Ends-None.field-0
    (g.S.Source.left first.source) (g.S.Source.left mid.source) (g.S.Source.left new.source) c.loop-layout.invariant.goes c.in-Ends-None.ensures.goes

pub returns-in-Ends-Some-clause-next : goal.returns-in-Ends-Some-clause-next
returns-in-Ends-Some-clause-next g c =
    let first = c.args.self.now in
    let mid = c.loop-layout.self in
    let new = c.turn.new.self in
    so_ends first.at mid.at new.at c.loop-layout.gathered c.turn.new.gathered c.in-Ends-Some.field-0
    (g.S.Source.left first.source) (g.S.Source.left mid.source) (g.S.Source.left new.source) c.loop-layout.invariant.goes c.in-Ends-Some.ensures.goes

pub returns-in-Ends-Some-clause-faults : goal.returns-in-Ends-Some-clause-faults
returns-in-Ends-Some-clause-faults g c =
    let first = c.args.self.now in
    let mid = c.loop-layout.self in
    let new = c.turn.new.self in
    faults_so (λ (s : Sourced Importing g.row.S.Denot). s.at.standing) first mid new (g.S.Source.faults first.source) (g.S.Source.faults mid.source) (g.S.Source.faults new.source)
    c.loop-layout.invariant.faults c.in-Ends-Some.ensures.faults

pub returns-in-Ends-None-clause-faults : goal.returns-in-Ends-None-clause-faults
returns-in-Ends-None-clause-faults g c =
    let first = c.args.self.now in
    let mid = c.loop-layout.self in
    let new = c.turn.new.self in
    faults_so (λ (s : Sourced Importing g.row.S.Denot). s.at.standing) first mid new (g.S.Source.faults first.source) (g.S.Source.faults mid.source) (g.S.Source.faults new.source)
    c.loop-layout.invariant.faults c.in-Ends-None.ensures.faults
