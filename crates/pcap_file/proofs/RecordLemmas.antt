-- The records of bytes, case by case, and with more bytes behind.
use Rattle.std.proofs.Common.{◌≡◌, ℕ, zero, suc, ◌+◌, ◌<◌, ◌≤◌, ◌==◌, Bool, true, false, nat_lt, if◌then◌else◌, List, [], ◌∷◌, ◌++◌, length, take, drop, Option, Ok, Err, refl, sym, ap, ◌∙◌, subst, arith, length-append}
use Rattle.std.proofs.lemmas.Bool.{lt-ltb, le-ltb, eqb-true}
use Rattle.std.proofs.lemmas.List.{drop-append-le, take-append-le, length-drop}
use Rattle.byteorder.specs.Endian.{big_number, little_number}
use Rattle.byteorder.specs.Numbers.{big_from-append, little_from-append}
use Rattle.pcap_file.specs.Heads.{number_at}
use Rattle.pcap_file.specs.Records.{Answers, end_of, cut_off, ended, first, records_within, records_from, record_of, captured_of, size_of_record, nanoseconds, end_after, Ends, IsWhole, CountsBy}
use Rattle.source_block.specs.Holding.{Hold}
use Rattle.source_block.specs.Taking.{Takes, Stops, Counts}
use Rattle.source_block.specs.declared.stop.Stop.{Stop}
use Rattle.source_block.specs.declared.stop.Stop.TheVariants.{AtEnd, Failed, AtBound}
use Rattle.source_block.specs.declared.stop.Took.TheVariants.{Stopped}
use Rattle.pcap_file.specs.declared.head.Endian.{Endian}
use Rattle.pcap_file.specs.declared.head.Endian.TheVariants.{Big, Little}
use Rattle.pcap_file.specs.declared.head.FileHead.{FileHead}
use Rattle.pcap_file.specs.declared.record.Captured.{Captured}
use Rattle.pcap_file.specs.declared.end.PcapEnd.{PcapEnd}
use Rattle.pcap_file.specs.declared.end.PcapEnd.TheVariants.{Fault}
use Rattle.pcap_file.specs.declared.end.CaptureFault.TheVariants.{RecordTooLong, ShortRecord}

-- a number isn't changed by bytes behind
pub number_append : (endian : Endian) (n place : ℕ) (new more : List ℕ) → place + n ≤ length new → number_at endian n place (new ++ more) ≡ number_at endian n place new
number_append Big n place new more le =
    let at : place ≤ length new = omega arith in
    let within : n ≤ length (drop place new) = omega (arith, length-drop place new) in
    ap (big_number n) (drop-append-le place new more at) ∙ big_from-append n (drop place new) more within
number_append Little n place new more le =
    let at : place ≤ length new = omega arith in
    let within : n ≤ length (drop place new) = omega (arith, length-drop place new) in
    ap (little_number n) (drop-append-le place new more at) ∙ little_from-append n (drop place new) more within

pub captured_append : (head : FileHead) (new more : List ℕ) → 16 ≤ length new → captured_of head (new ++ more) ≡ captured_of head new
captured_append head new more le = number_append head.magic.endian 4 8 new more (omega arith)

-- what a record tells as captured stays when more bytes come
pub captured_taken : (head : FileHead) (old new : Hold) (x y : Option (List ℕ)) → 16 ≤ length old.bytes → Takes old new x y → captured_of head new.bytes ≡ captured_of head old.bytes
captured_taken head old new x y some t = ap (captured_of head) t.held ∙ captured_append head old.bytes t.took some

-- nor is a whole record
record_append : (head : FileHead) (new more : List ℕ) → size_of_record head new ≤ length new → record_of head (new ++ more) ≡ record_of head new
record_append head new more le =
    let endian = head.magic.endian in
    let seconds = number_append endian 4 0 new more (omega arith) in
    let part = number_append endian 4 4 new more (omega arith) in
    let captured = captured_append head new more (omega arith) in
    let original = number_append endian 4 12 new more (omega arith) in
    let behind : drop 16 (new ++ more) ≡ drop 16 new ++ more = drop-append-le 16 new more (omega arith) in
    let within : captured_of head new ≤ length (drop 16 new) = omega (arith, length-drop 16 new) in
    let bytes : take (captured_of head (new ++ more)) (drop 16 (new ++ more)) ≡ take (captured_of head new) (drop 16 new) =
    ap (λ (n : ℕ). take n (drop 16 (new ++ more))) captured ∙ ap (take (captured_of head new)) behind ∙ take-append-le (captured_of head new) (drop 16 new) more within in
    (λ i. record {
      time = nanoseconds head.magic.fraction (seconds i) (part i);
      captured = captured i;
      original = original i;
      link = head.link;
      bytes = bytes i;
    })

-- more room for records gives no more
within_enough : (m : ℕ) (head : FileHead) (offset : ℕ) (bytes : List ℕ) (stop : Stop) → length bytes ≤ m → (n : ℕ) → length bytes ≤ n
    → records_within m head offset bytes stop ≡ records_within n head offset bytes stop
unfolding records_within
within_enough zero head offset bytes stop le zero le' = refl
within_enough zero head offset bytes stop le (suc n) le' = let e = lt-ltb (length bytes) 1 (omega arith) in rw e refl
within_enough (suc m) head offset bytes stop le zero le' = let e = lt-ltb (length bytes) 1 (omega arith) in rw e refl
within_enough (suc m) head offset bytes stop le (suc n) le' =
    let size = size_of_record head bytes in
    let left : length (drop size bytes) ≤ m = omega (arith, length-drop size bytes) in
    let left' : length (drop size bytes) ≤ n = omega (arith, length-drop size bytes) in
    ap (λ (rest : Answers).
    if nat_lt (length bytes) 1 then ended (end_of stop)
    else (if nat_lt (length bytes) 16 then ended (cut_off stop offset ShortRecord)
    else (if nat_lt 262144 (captured_of head bytes) then ended (Fault offset RecordTooLong)
    else (if nat_lt (length bytes) size then ended (cut_off stop offset ShortRecord)
    else first (record_of head bytes) rest))))
    (within_enough m head (offset + size) (drop size bytes) stop left n left')

-- the cases
from_nothing : (head : FileHead) (offset : ℕ) (stop : Stop) → records_from head offset [] stop ≡ ended (end_of stop)
unfolding records_from records_within
from_nothing head offset stop = refl

from_few : (head : FileHead) (offset : ℕ) (bytes : List ℕ) (stop : Stop) → 1 ≤ length bytes → length bytes < 16 → records_from head offset bytes stop ≡ ended (cut_off stop offset ShortRecord)
unfolding records_from records_within
from_few head offset [] stop some few = absurd (omega arith)
from_few head offset (b ∷ bytes) stop some few =
    let one = le-ltb (length (b ∷ bytes)) 1 some in
    let short = lt-ltb (length (b ∷ bytes)) 16 few in
    rw (one, short) refl

from_long : (head : FileHead) (offset : ℕ) (bytes : List ℕ) (stop : Stop) → 16 ≤ length bytes → 262144 < captured_of head bytes → records_from head offset bytes stop ≡ ended (Fault offset RecordTooLong)
unfolding records_from records_within
from_long head offset [] stop some long = absurd (omega arith)
from_long head offset (b ∷ bytes) stop some long =
    let one = le-ltb (length (b ∷ bytes)) 1 (omega arith) in
    let whole = le-ltb (length (b ∷ bytes)) 16 some in
    let much = lt-ltb 262144 (captured_of head (b ∷ bytes)) long in
    rw (one, whole, much) refl

from_cut : (head : FileHead) (offset : ℕ) (bytes : List ℕ) (stop : Stop) → 16 ≤ length bytes → captured_of head bytes ≤ 262144 → length bytes < size_of_record head bytes
    → records_from head offset bytes stop ≡ ended (cut_off stop offset ShortRecord)
unfolding records_from records_within
from_cut head offset [] stop some short cut = absurd (omega arith)
from_cut head offset (b ∷ bytes) stop some short cut =
    let one = le-ltb (length (b ∷ bytes)) 1 (omega arith) in
    let whole = le-ltb (length (b ∷ bytes)) 16 some in
    let much = le-ltb 262144 (captured_of head (b ∷ bytes)) short in
    let off = lt-ltb (length (b ∷ bytes)) (size_of_record head (b ∷ bytes)) cut in
    rw (one, whole, much, off) refl

from_whole : (head : FileHead) (offset : ℕ) (bytes : List ℕ) (stop : Stop) → captured_of head bytes ≤ 262144 → size_of_record head bytes ≤ length bytes
    → records_from head offset bytes stop ≡ first (record_of head bytes) (records_from head (offset + size_of_record head bytes) (drop (size_of_record head bytes) bytes) stop)
unfolding records_from records_within
from_whole head offset [] stop short le = absurd (omega arith)
from_whole head offset (b ∷ bytes) stop short le =
    let size = size_of_record head (b ∷ bytes) in
    let one = le-ltb (length (b ∷ bytes)) 1 (omega arith) in
    let whole = le-ltb (length (b ∷ bytes)) 16 (omega arith) in
    let much = le-ltb 262144 (captured_of head (b ∷ bytes)) short in
    let all = le-ltb (length (b ∷ bytes)) size le in
    let left : length (drop size (b ∷ bytes)) ≤ length bytes = omega (arith, length-drop size (b ∷ bytes)) in
    let self : length (drop size (b ∷ bytes)) ≤ length (drop size (b ∷ bytes)) = omega arith in
    rw (one, whole, much, all)
    (ap (first (record_of head (b ∷ bytes))) (within_enough (length bytes) head (offset + size) (drop size (b ∷ bytes)) stop left (length (drop size (b ∷ bytes))) self))

-- a record that is too long is so before its bytes have come
pub too_long : (head : FileHead) (offset : ℕ) (new : List ℕ) → 16 ≤ length new → 262144 < captured_of head new
    → (more : List ℕ) (stop : Stop) → records_from head offset (new ++ more) stop ≡ ended (Fault offset RecordTooLong)
too_long head offset new some long more stop =
    let len = length-append new more in
    let same = captured_append head new more some in
    from_long head offset (new ++ more) stop (omega arith) (omega arith)

-- a whole record is the first
pub first_record : (head : FileHead) (offset size : ℕ) (new : List ℕ) → IsWhole head size new
    → (more : List ℕ) (stop : Stop) → records_from head offset (new ++ more) stop ≡ first (record_of head new) (records_from head (offset + size) (drop size new ++ more) stop)
first_record head offset size new w more stop =
    let size_is = w.size_is in
    let len = length-append new more in
    let le : size_of_record head new ≤ length new = omega (arith, w.within) in
    let same = captured_append head new more (omega arith) in
    let short : captured_of head (new ++ more) ≤ 262144 = omega (arith, w.short) in
    let size_same : size_of_record head (new ++ more) ≡ size = omega arith in
    let behind : drop size (new ++ more) ≡ drop size new ++ more = drop-append-le size new more w.within in
    from_whole head offset (new ++ more) stop short (omega arith)
    ∙ ap (λ (r : Captured). first r (records_from head (offset + size_of_record head (new ++ more)) (drop (size_of_record head (new ++ more)) (new ++ more)) stop)) (record_append head new more le)
    ∙ ap (λ (n : ℕ). first (record_of head new) (records_from head (offset + n) (drop n (new ++ more)) stop)) size_same
    ∙ ap (λ (xs : List ℕ). first (record_of head new) (records_from head (offset + size) xs stop)) behind

-- why the bytes of a record didn't all come
end_is : (come : List ℕ → Stop → Answers) (offset : ℕ) (new : List ℕ) (now : Option (List ℕ)) (taken : ℕ) (stop : Stop) (nothing : Bool)
    → come new stop ≡ ended (end_after stop nothing offset) → Stops stop now taken → Ends come new now taken (end_after stop nothing offset)
end_is come offset new now taken AtEnd true is why = (is, why)
end_is come offset new now taken AtEnd false is why = (is, why)
end_is come offset new now taken Failed true is why = (is, why)
end_is come offset new now taken Failed false is why = (is, why)
end_is come offset new now taken AtBound true is why = (is, why)
end_is come offset new now taken AtBound false is why = (is, why)

-- where fewer than 16 bytes came
few_is : (head : FileHead) (offset : ℕ) (new : List ℕ) (stop : Stop) (nothing : Bool) → length new < 16 → nothing ≡ (length new == 0) → records_from head offset new stop ≡ ended (end_after stop nothing offset)
few_is head offset [] stop true few e = from_nothing head offset stop
few_is head offset [] stop false few e = let f : false ≡ true = e in absurd cc
few_is head offset (b ∷ new) stop true few e = let z = eqb-true (length (b ∷ new)) 0 (sym e) in absurd (omega arith)
few_is head offset (b ∷ new) stop false few e = from_few head offset (b ∷ new) stop (omega arith) few

pub few_ends : (head : FileHead) (offset : ℕ) (new seen : List ℕ) (now : Option (List ℕ)) (taken : ℕ) (stop : Stop) (nothing : Bool) (e : PcapEnd)
    → length new < 16 → Stops stop now taken → nothing ≡ (length seen == 0) → seen ≡ new → e ≡ end_after stop nothing offset → Ends (records_from head offset) new now taken e
few_ends head offset new seen now taken stop nothing e few why none same is =
    subst (Ends (records_from head offset) new now taken) (sym is)
    (end_is (records_from head offset) offset new now taken stop nothing (few_is head offset new stop nothing few (none ∙ ap (λ (xs : List ℕ). length xs == 0) same)) why)

-- where a record's bytes didn't all come
pub cut_ends : (head : FileHead) (offset size : ℕ) (old new : Hold) (x now : Option (List ℕ)) (stop : Stop) (e : PcapEnd)
    → 16 ≤ length old.bytes → captured_of head old.bytes ≤ 262144 → size ≡ size_of_record head old.bytes → Takes old new x now
    → length new.bytes < size → Stops stop now new.taken → e ≡ end_after stop false offset → Ends (records_from head offset) new.bytes now new.taken e
cut_ends head offset size old new x now stop e some short is takes few why end =
    let len = length-append old.bytes takes.took in
    let now_len = ap length takes.held in
    let same = captured_taken head old new x now some takes in
    subst (Ends (records_from head offset) new.bytes now new.taken) (sym end)
    (end_is (records_from head offset) offset new.bytes now new.taken stop false (from_cut head offset new.bytes stop (omega arith) (omega arith) (omega arith)) why)

-- a failed read is the end exactly where the count of faults rose
pub end_counts : (X : Type 0) (stop : Stop) (nothing : Bool) (offset before now : ℕ) (e : PcapEnd) → Counts (Ok (Stopped stop)) before now → e ≡ end_after stop nothing offset → CountsBy {X = X} (Err e) before now
end_counts X stop nothing offset before now e counts is = subst (λ (x : PcapEnd). CountsBy {X = X} (Err x) before now) (sym is) (by stop nothing counts)
  where
    by : (stop : Stop) (nothing : Bool) → Counts (Ok (Stopped stop)) before now → CountsBy {X = X} (Err (end_after stop nothing offset)) before now
    by AtEnd true counts = counts
    by AtEnd false counts = counts
    by Failed true counts = counts
    by Failed false counts = counts
    by AtBound true counts = counts
    by AtBound false counts = counts
