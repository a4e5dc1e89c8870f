use Rattle.std.proofs.Common.{◌≡◌, ◌<◌, ◌≤◌, ◌+◌, ℕ, ap, ◌∙◌, arith, subst}
use Rattle.pcap_file.specs.Records.{captured_of, size_of_record}
use Rattle.pcap_file.proofs.RecordLemmas.{captured_taken, cut_ends, few_ends, too_long}
use Rattle.pcap_file.proofs.record.whole_record.Goals as goal

pub returns-in-Stopped-clause-ends : goal.returns-in-Stopped-clause-ends
returns-in-Stopped-clause-ends g c =
    let fills = rw c.in-Stopped.is at c.in_ok-fill.ensures.fills in
    few_ends c.args.head c.args.offset c.fill.new.self.bytes c.as_slice.result.now _ c.fill.new.self.taken c.in-Stopped.stop c.is_empty.result c.end_after.result
    fills.0 fills.1 c.is_empty.ensures c.as_slice.ensures c.end_after.ensures

pub returns-then-captured-gt-MOST_CAPTURED-clause-ends : goal.returns-then-captured-gt-MOST_CAPTURED-clause-ends
returns-then-captured-gt-MOST_CAPTURED-clause-ends g c =
    let captured = c.captured_of-captured.ensures ∙ ap (captured_of c.args.head) c.as_slice-2.ensures in
    let long : 262144 < captured_of c.args.head c.fill.new.self.bytes = subst (λ (n : ℕ). 262144 < n) captured c.if-captured-gt-MOST_CAPTURED.true in
    too_long c.args.head c.args.offset c.fill.new.self.bytes (rw c.in-Enough.is at c.in_ok-fill.ensures.fills) long

pub returns-in-Enough-2-clause-whole : goal.returns-in-Enough-2-clause-whole
returns-in-Enough-2-clause-whole g c =
    let captured = c.captured_of-captured.ensures ∙ ap (captured_of c.args.head) c.as_slice-2.ensures in
    let same = captured_taken c.args.head c.fill.new.self c.fill-2.new.self _ _ (rw c.in-Enough.is at c.in_ok-fill.ensures.fills) c.in_ok-fill-2.ensures.takes in
    let within : 16 + c.captured_of-captured.result ≤ _ = rw c.in-Enough-2.is at c.in_ok-fill-2.ensures.fills in
    record {
      size_is = omega arith;
      within = within;
      short = omega arith;
    }

pub returns-in-Stopped-2-clause-ends : goal.returns-in-Stopped-2-clause-ends
returns-in-Stopped-2-clause-ends g c =
    let captured = c.captured_of-captured.ensures ∙ ap (captured_of c.args.head) c.as_slice-2.ensures in
    let short : captured_of c.args.head c.fill.new.self.bytes ≤ 262144 = omega arith in
    let size : 16 + c.captured_of-captured.result ≡ size_of_record c.args.head c.fill.new.self.bytes = omega arith in
    let fills = rw c.in-Stopped-2.is at c.in_ok-fill-2.ensures.fills in
    cut_ends c.args.head c.args.offset (16 + c.captured_of-captured.result) c.fill.new.self c.fill-2.new.self _ _ c.in-Stopped-2.stop c.end_after-in-Stopped-2.result
    (rw c.in-Enough.is at c.in_ok-fill.ensures.fills) short size c.in_ok-fill-2.ensures.takes fills.0 fills.1 c.end_after-in-Stopped-2.ensures
