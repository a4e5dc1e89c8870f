use Rattle.std.proofs.Common.{◌∙◌}
use Rattle.partition.specs.Indexes.{places_of}
use Rattle.partition.proofs.SpanLemmas.{kind_known, name_known, time_known}
use Rattle.partition.proofs.index.Index.ask.Goals as goal

pub returns-in_ok-pair-in-EventTime-clause-sure : goal.returns-in_ok-pair-in-EventTime-clause-sure
returns-in_ok-pair-in-EventTime-clause-sure g c = c.in_ok-pair-in-EventTime.ensures.sure ∙ (time_known c.args.test.now g.events c.in-EventTime.is).0

pub returns-in_ok-pair-in-EventTime-clause-maybe : goal.returns-in_ok-pair-in-EventTime-clause-maybe
returns-in_ok-pair-in-EventTime-clause-maybe g c = c.in_ok-pair-in-EventTime.ensures.maybe ∙ (time_known c.args.test.now g.events c.in-EventTime.is).1

pub returns-in_ok-pair-in-OfKind-clause-sure : goal.returns-in_ok-pair-in-OfKind-clause-sure
returns-in_ok-pair-in-OfKind-clause-sure g c =
    c.in_ok-pair-in-OfKind.ensures.sure
    ∙ (kind_known c.args.test.now c.in-OfKind.field-0 (places_of c.args.self.now.columns.items) g.events c.in-OfKind.is c.requires.1.covers c.requires.1.sound).0

pub returns-in_ok-pair-in-OfKind-clause-maybe : goal.returns-in_ok-pair-in-OfKind-clause-maybe
returns-in_ok-pair-in-OfKind-clause-maybe g c =
    c.in_ok-pair-in-OfKind.ensures.maybe
    ∙ (kind_known c.args.test.now c.in-OfKind.field-0 (places_of c.args.self.now.columns.items) g.events c.in-OfKind.is c.requires.1.covers c.requires.1.sound).1

pub returns-in_ok-pair-in-Named-clause-sure : goal.returns-in_ok-pair-in-Named-clause-sure
returns-in_ok-pair-in-Named-clause-sure g c =
    c.in_ok-pair-in-Named.ensures.sure
    ∙ (name_known c.args.test.now c.in-Named.field-0 (places_of c.args.self.now.columns.items) g.events c.in-Named.is c.requires.1.covers c.requires.1.sound).0

pub returns-in_ok-pair-in-Named-clause-maybe : goal.returns-in_ok-pair-in-Named-clause-maybe
returns-in_ok-pair-in-Named-clause-maybe g c =
    c.in_ok-pair-in-Named.ensures.maybe
    ∙ (name_known c.args.test.now c.in-Named.field-0 (places_of c.args.self.now.columns.items) g.events c.in-Named.is c.requires.1.covers c.requires.1.sound).1
