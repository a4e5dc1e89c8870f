use Rattle.std.proofs.Common.{not}
use Rattle.address_index.specs.Subnets.{HoldsNets, is_net, net_within, net_covers}
use Rattle.column_index.specs.Columns.{subnet_key}
use Rattle.column_index.proofs.CoverLemmas.{covers_answers, never_met, others_answers}
use Rattle.column_index.proofs.kept.Subnets.rows.Goals as goal

pub returns-in-Never : goal.returns-in-Never
returns-in-Never c = λ cells s. rw c.in-Never.is (never_met subnet_key c.empty.result cells c.empty.ensures)

pub returns-in_ok-rows-in-Equal : goal.returns-in_ok-rows-in-Equal
returns-in_ok-rows-in-Equal c = λ cells s. rw c.in-Equal.is
    (covers_answers (HoldsNets c.args.self.now.index.table) subnet_key (is_net c.in-Equal.net.base c.in-Equal.net.bits) c.in_ok-rows-in-Equal.rows cells s
    c.in_ok-rows-in-Equal.ensures.keys)

pub returns-in_ok-others-in-Differs : goal.returns-in_ok-others-in-Differs
returns-in_ok-others-in-Differs c = λ cells s. rw c.in-Differs.is
    (covers_answers (HoldsNets c.args.self.now.index.table) subnet_key (λ k. not (is_net c.in-Differs.net.base c.in-Differs.net.bits k)) c.in_ok-others-in-Differs.others cells s
    (λ held h. others_answers (is_net c.in-Differs.net.base c.in-Differs.net.bits) held c.in_ok-set-in-Differs.set c.in_ok-rows-in-Differs.rows c.in_ok-others-in-Differs.others c.in_ok-others-in-Differs.ensures (c.in_ok-set-in-Differs.ensures.keys held h) (c.in_ok-rows-in-Differs.ensures.keys held h)))

pub returns-in_ok-rows-in-Within : goal.returns-in_ok-rows-in-Within
returns-in_ok-rows-in-Within c = λ cells s. rw c.in-Within.is
    (covers_answers (HoldsNets c.args.self.now.index.table) subnet_key (net_within c.in-Within.net.base c.in-Within.net.bits) c.in_ok-rows-in-Within.rows cells s
    c.in_ok-rows-in-Within.ensures.keys)

pub returns-in_ok-rows-in-Covers : goal.returns-in_ok-rows-in-Covers
returns-in_ok-rows-in-Covers c = λ cells s. rw c.in-Covers.is
    (covers_answers (HoldsNets c.args.self.now.index.table) subnet_key (net_covers c.in-Covers.net.base c.in-Covers.net.bits) c.in_ok-rows-in-Covers.rows cells s
    c.in_ok-rows-in-Covers.ensures.keys)

pub returns-in_ok-rows-in-Holds : goal.returns-in_ok-rows-in-Holds
returns-in_ok-rows-in-Holds c = λ cells s. rw c.in-Holds.is
    (covers_answers (HoldsNets c.args.self.now.index.table) subnet_key (net_covers c.in-Holds.address 128) c.in_ok-rows-in-Holds.rows cells s
    c.in_ok-rows-in-Holds.ensures.keys)
