-- The file head, and what stands behind it.
use Rattle.std.proofs.Common.{◌≡◌, ℕ, ◌+◌, ◌<◌, ◌≤◌, ◌==◌, ◌&&◌, Bool, true, false, nat_le, is_ok, List, [], ◌++◌, length, drop, Option, Some, None, Result, Ok, Err, IfErr, refl, sym, ap, subst, ◌∙◌, arith, length-append, append_assoc}
use Rattle.std.proofs.lemmas.Bool.Decides.{nat_tests}
use Rattle.std.proofs.lemmas.Bool.{lt-ltb, le-ltb, lt-leb, le-leb}
use Rattle.std.proofs.lemmas.List.{append-nil, drop-append-le}
use Rattle.std.specs.Io.KnownBytes.{prepend_known}
use Rattle.source_block.specs.Holding.{Hold}
use Rattle.source_block.specs.Taking.{Takes, Stops, Counts}
use Rattle.source_block.specs.declared.stop.Stop.{Stop}
use Rattle.source_block.specs.declared.stop.Stop.TheVariants.{AtEnd, Failed, AtBound}
use Rattle.source_block.specs.declared.stop.Took.TheVariants.{Stopped}
use Rattle.source_block.proofs.TakeLemmas.{prepend_twice}
use Rattle.pcap_file.specs.Heads.{number_at, magic_of, magic_end, version_end, head_of, has_head, is_link, link_of}
use Rattle.pcap_file.specs.Reading.{Reading, Answer, come_from, to_come, headed_by}
use Rattle.pcap_file.specs.Records.{cut_off, ended, first, records, records_behind, records_from, record_of, captured_of, Answers, Ends, IsWhole, CountsBy, StepsTo}
use Rattle.pcap_file.specs.declared.reader.Phase.{Phase}
use Rattle.pcap_file.specs.declared.reader.Phase.TheVariants.{Start, Records, Ended}
use Rattle.pcap_file.specs.declared.head.Endian.TheVariants.{Big, Little}
use Rattle.pcap_file.specs.declared.head.Magic.{Magic}
use Rattle.pcap_file.specs.declared.head.FileHead.{FileHead}
use Rattle.pcap_file.specs.declared.record.Captured.{Captured}
use Rattle.pcap_file.specs.declared.end.PcapEnd.{PcapEnd}
use Rattle.pcap_file.specs.declared.end.PcapEnd.TheVariants.{Done, Fault, ReadFault, TooLong, Memory}
use Rattle.pcap_file.specs.declared.end.CaptureFault.TheVariants.{BadMagic, VersionUnknown, LinkUnknown, RecordTooLong, ShortHead, ShortRecord}
use Rattle.pcap_file.proofs.RecordLemmas.{number_append, first_record}

-- the head isn't changed by bytes behind
magic_append : (new more : List ℕ) → 24 ≤ length new → magic_of (new ++ more) ≡ magic_of new
magic_append new more le =
    let big = number_append Big 4 0 new more (omega arith) in
    let little = number_append Little 4 0 new more (omega arith) in
    rw (big, little) refl

version_append : (m : Magic) (new more : List ℕ) → 24 ≤ length new → version_end m (new ++ more) ≡ version_end m new
version_append m new more le =
    let version = number_append m.endian 2 4 new more (omega arith) in
    let link = number_append m.endian 4 20 new more (omega arith) in
    rw (version, link) refl

pub head_append : (new more : List ℕ) → 24 ≤ length new → head_of (new ++ more) ≡ head_of new
unfolding head_of
head_append new more le = ap (λ (m : Option Magic). magic_end m (new ++ more)) (magic_append new more le) ∙ by (magic_of new)
  where
    by : (m : Option Magic) → magic_end m (new ++ more) ≡ magic_end m new
    by None = refl
    by (Some m) = version_append m new more le

-- records stand behind a head that is there
behind_head : (new more : List ℕ) (stop : Stop) → 24 ≤ length new → records (new ++ more) stop ≡ records_behind (head_of new) (new ++ more) stop
unfolding records
behind_head new more stop le =
    let len = length-append new more in
    let whole = le-ltb (length (new ++ more)) 24 (omega arith) in
    rw whole (ap (λ (r : Result FileHead PcapEnd). records_behind r (new ++ more) stop) (head_append new more le))

opened : (head : FileHead) (new more : List ℕ) (stop : Stop) → 24 ≤ length new → head_of new ≡ Ok head → records (new ++ more) stop ≡ records_from head 24 (drop 24 new ++ more) stop
opened head new more stop le h =
    behind_head new more stop le ∙ ap (λ (r : Result FileHead PcapEnd). records_behind r (new ++ more) stop) h
    ∙ ap (λ (xs : List ℕ). records_from head 24 xs stop) (drop-append-le 24 new more le)

ok_err : {v : FileHead} {e : PcapEnd} {r : Result FileHead PcapEnd} → r ≡ Ok v → r ≡ Err e → ⊥
ok_err p q = cc

-- a bad head has one of three faults
bad_kind : (new : List ℕ) (e : PcapEnd) → head_of new ≡ Err e → (P : PcapEnd → Type 0) → P (Fault 0 BadMagic) → P (Fault 4 VersionUnknown) → P (Fault 20 LinkUnknown) → P e
unfolding head_of
bad_kind new e h P a b d = by (magic_of new) h
  where
    same : (x : PcapEnd) (r : Result FileHead PcapEnd) → r ≡ Err x → r ≡ Err e → P x → P e
    same x r p q px = let eq : x ≡ e = cc in subst P eq px

    by : (m : Option Magic) → magic_end m new ≡ Err e → P e
    by None h = same (Fault 0 BadMagic) (Err (Fault 0 BadMagic)) refl h a
    by (Some m) h = inner (number_at m.endian 2 4 new == 2) refl (is_link (link_of m new)) refl
      where
        inner : (x : Bool) → (number_at m.endian 2 4 new == 2) ≡ x → (y : Bool) → is_link (link_of m new) ≡ y → P e
        inner false x y y' = let r : version_end m new ≡ Err (Fault 4 VersionUnknown) = rw x refl in same (Fault 4 VersionUnknown) (version_end m new) r h b
        inner true x false y' = let r : version_end m new ≡ Err (Fault 20 LinkUnknown) = rw (x, y') refl in same (Fault 20 LinkUnknown) (version_end m new) r h d
        inner true x true y' = let r : version_end m new ≡ Ok (record { magic = m; link = link_of m new }) = rw (x, y') refl in absurd (ok_err r h)

bad_ends : (new : List ℕ) (now : Option (List ℕ)) (taken : ℕ) (e : PcapEnd) → 24 ≤ length new → head_of new ≡ Err e → Ends records new now taken e
bad_ends new now taken e le h = bad_kind new e h (λ x. head_of new ≡ Err x → Ends records new now taken x) all all all h
  where
    all : {x : PcapEnd} → head_of new ≡ Err x → (more : List ℕ) (stop : Stop) → records (new ++ more) stop ≡ ended x
    all {x} h more stop = behind_head new more stop le ∙ ap (λ (r : Result FileHead PcapEnd). records_behind r (new ++ more) stop) h

bad_counts : (X : Type 0) (new : List ℕ) (e : PcapEnd) (before now : ℕ) → head_of new ≡ Err e → now ≡ before → CountsBy {X = X} (Err e) before now
bad_counts X new e before now h same = bad_kind new e h (λ x. CountsBy {X = X} (Err x) before now) same same same

-- where all 24 bytes came
pub head_of_ends : (new seen : List ℕ) (now : Option (List ℕ)) (taken : ℕ) (r : Result FileHead PcapEnd) → 24 ≤ length new → r ≡ head_of seen → seen ≡ new → IfErr r (λ e. Ends records new now taken e)
head_of_ends new seen now taken (Ok head) le h same = tt
head_of_ends new seen now taken (Err e) le h same = bad_ends new now taken e le (ap head_of (sym same) ∙ sym h)

pub head_of_counts : (seen : List ℕ) (before now : ℕ) (r : Result FileHead PcapEnd) → r ≡ head_of seen → now ≡ before → CountsBy r before now
head_of_counts seen before now (Ok head) h same = same
head_of_counts seen before now (Err e) h same = bad_counts FileHead seen e before now (sym h) same

-- whether bytes begin with a file head
and_false : (b : Bool) → (b && false) ≡ false
and_false true = refl
and_false false = refl

pub bad_none : (new : List ℕ) (e : PcapEnd) → head_of new ≡ Err e → has_head new ≡ false
bad_none new e h = ap (λ (r : Result FileHead PcapEnd). nat_le 24 (length new) && is_ok r) h ∙ and_false (nat_le 24 (length new))

pub few_none : (new : List ℕ) → length new < 24 → has_head new ≡ false
few_none new few = let e = lt-leb 24 (length new) few in rw e refl

head_there : (head : FileHead) (new more : List ℕ) → 24 ≤ length new → head_of new ≡ Ok head → has_head (new ++ more) ≡ true
head_there head new more le h =
    let len = length-append new more in
    let all : nat_le 24 (length (new ++ more)) ≡ true = le-leb 24 (length (new ++ more)) (omega arith) in
    rw all (ap is_ok (head_append new more le ∙ h))

-- where fewer than 24 bytes came
few_is : (new : List ℕ) (stop : Stop) → length new < 24 → records new stop ≡ ended (cut_off stop (length new) ShortHead)
unfolding records
few_is new stop few = let e = lt-ltb (length new) 24 few in rw e refl

-- a file head that is there, or that has a fault, stays so whatever bytes follow
headed_more : (new more : List ℕ) → 24 ≤ length new → has_head (new ++ more) ≡ has_head new
headed_more new more le =
    let len = length-append new more in
    let now : nat_le 24 (length new) ≡ true = le-leb 24 (length new) le in
    let all : nat_le 24 (length (new ++ more)) ≡ true = le-leb 24 (length (new ++ more)) (omega arith) in
    rw (all, now) (ap is_ok (head_append new more le))

pub head_stays : (new more : List ℕ) → has_head new ≡ true → has_head (new ++ more) ≡ true
head_stays new more head = by (nat_le 24 (length new)) refl
  where
    by : (b : Bool) → nat_le 24 (length new) ≡ b → has_head (new ++ more) ≡ true
    by true le = headed_more new more (grind (arith, nat_tests, le)) ∙ head
    by false few = let none = few_none new (grind (arith, nat_tests, few)) in cc

-- where an end stands whatever bytes follow, so does what it says of the file head
pub headed_anyway : (new more : List ℕ) (e : PcapEnd) → ((more : List ℕ) (stop : Stop) → records (new ++ more) stop ≡ ended e) → (e ≡ Fault (length new) ShortHead → ⊥)
    → has_head (new ++ more) ≡ has_head new
headed_anyway new more e same other = by (nat_le 24 (length new)) refl
  where
    short : length new < 24 → e ≡ Fault (length new) ShortHead
    short few =
        ap (λ (a : Answers). a.last) (sym (same [] AtEnd) ∙ ap (λ (xs : List ℕ). records xs AtEnd) (append-nil new) ∙ few_is new AtEnd few)

    by : (b : Bool) → nat_le 24 (length new) ≡ b → has_head (new ++ more) ≡ has_head new
    by true le = headed_more new more (grind (arith, nat_tests, le))
    by false few = absurd (other (short (grind (arith, nat_tests, few))))

pub head_ends : (new seen : List ℕ) (now : Option (List ℕ)) (taken : ℕ) (stop : Stop) (e : PcapEnd) → length new < 24 → Stops stop now taken → seen ≡ new → e ≡ cut_off stop (length seen) ShortHead → Ends records new now taken e
head_ends new seen now taken stop e few why same is =
    subst (Ends records new now taken) (sym (is ∙ ap (λ (xs : List ℕ). cut_off stop (length xs) ShortHead) same)) (by stop why)
  where
    by : (stop : Stop) → Stops stop now taken → Ends records new now taken (cut_off stop (length new) ShortHead)
    by AtEnd why = (few_is new AtEnd few, why)
    by Failed why = (few_is new Failed few, why)
    by AtBound why = (few_is new AtBound few, why)

pub head_counts : (X : Type 0) (stop : Stop) (count before now : ℕ) (e : PcapEnd) → Counts (Ok (Stopped stop)) before now → e ≡ cut_off stop count ShortHead → CountsBy {X = X} (Err e) before now
head_counts X stop count before now e counts is = subst (λ (x : PcapEnd). CountsBy {X = X} (Err x) before now) (sym is) (by stop counts)
  where
    by : (stop : Stop) → Counts (Ok (Stopped stop)) before now → CountsBy {X = X} (Err (cut_off stop count ShortHead)) before now
    by AtEnd counts = counts
    by Failed counts = counts
    by AtBound counts = counts

-- bytes that were taken in front of others
regroup : (old took w more : List ℕ) → w ≡ old ++ took → old ++ (took ++ more) ≡ w ++ more
regroup old took w more h = sym (append_assoc old took more) ∙ ap (λ (xs : List ℕ). xs ++ more) (sym h)

-- a whole record is given
pub steps_next : (head : FileHead) (offset size : ℕ) (old w new : Hold) (seen : List ℕ) (x y : Option (List ℕ)) (r : Captured)
    → Takes old w x y → IsWhole head size w.bytes → r ≡ record_of head seen → seen ≡ w.bytes → new.bytes ≡ drop size w.bytes → new.taken ≡ w.taken
    → StepsTo (records_from head offset) (records_from head (offset + (16 + r.captured))) old new x y r
steps_next head offset size old w new seen x y r t whole made same rest total =
    let is : r ≡ record_of head w.bytes = made ∙ ap (record_of head) same in
    let captured : r.captured ≡ captured_of head w.bytes = ap (λ (c : Captured). c.captured) is in
    let size_is = whole.size_is in
    let behind : offset + size ≡ offset + (16 + r.captured) = omega arith in
    record {
      took = t.took;
      left = t.left;
      count = total ∙ t.count;
      is = λ more stop. ap (λ (xs : List ℕ). records_from head offset xs stop) (regroup old.bytes t.took w.bytes more t.held)
          ∙ first_record head offset size w.bytes whole more stop
          ∙ ap (λ (c : Captured). first c (records_from head (offset + size) (drop size w.bytes ++ more) stop)) (sym is)
          ∙ ap (λ (n : ℕ). first r (records_from head n (drop size w.bytes ++ more) stop)) behind
          ∙ ap (λ (xs : List ℕ). first r (records_from head (offset + (16 + r.captured)) (xs ++ more) stop)) (sym rest);
    }

-- an end of what is to come by other bytes, if what is to come is the same
ends_same : (come come' : List ℕ → Stop → Answers) (new new' : List ℕ) (now : Option (List ℕ)) (taken : ℕ) (e : PcapEnd)
    → ((more : List ℕ) (stop : Stop) → come (new ++ more) stop ≡ come' (new' ++ more) stop) → Ends come' new' now taken e → Ends come new now taken e
ends_same come come' new new' now taken e same ends = by e ends
  where
    here : (stop : Stop) → come new stop ≡ come' new' stop
    here stop = ap (λ (xs : List ℕ). come xs stop) (sym (append-nil new)) ∙ same [] stop ∙ ap (λ (xs : List ℕ). come' xs stop) (append-nil new')

    by : (e : PcapEnd) → Ends come' new' now taken e → Ends come new now taken e
    by Done p = (here AtEnd ∙ p.0, p.1)
    by (Fault o ShortHead) p = (here AtEnd ∙ p.0, p.1)
    by (Fault o ShortRecord) p = (here AtEnd ∙ p.0, p.1)
    by (Fault o BadMagic) p = λ more stop. same more stop ∙ p more stop
    by (Fault o VersionUnknown) p = λ more stop. same more stop ∙ p more stop
    by (Fault o LinkUnknown) p = λ more stop. same more stop ∙ p more stop
    by (Fault o RecordTooLong) p = λ more stop. same more stop ∙ p more stop
    by ReadFault p = (here Failed ∙ p.0, p.1)
    by TooLong p = (here AtBound ∙ p.0, p.1)
    by Memory p = tt

-- once the file head is there, what comes behind it is what is still to come
pub begins : (head : FileHead) (old mid new : Reading) (w : List ℕ) (took : List ℕ) (x m y : Option (List ℕ)) (r : Result Captured PcapEnd)
    → old.phase ≡ Start → mid.phase ≡ Records head 24 → mid.held ≡ drop 24 w → mid.given ≡ old.given → mid.taken ≡ old.taken + length took
    → w ≡ old.held ++ took → x ≡ prepend_known took m → 24 ≤ length w → head_of w ≡ Ok head → Answer mid new m y r → Answer old new x y r
begins head old mid new w took x m y r start records_is rest given total held left le h answer = by r answer
  where
    come : (two more : List ℕ) (stop : Stop) → to_come old ((took ++ two) ++ more) stop ≡ to_come mid (two ++ more) stop
    come two more stop =
        ap (λ (xs : List ℕ). to_come old xs stop) (append_assoc took two more)
        ∙ ap (λ (p : Phase). come_from p (old.held ++ (took ++ (two ++ more))) stop) start
        ∙ ap (λ (xs : List ℕ). records xs stop) (regroup old.held took w (two ++ more) held)
        ∙ opened head w (two ++ more) stop le h
        ∙ ap (λ (xs : List ℕ). records_from head 24 (xs ++ (two ++ more)) stop) (sym rest)
        ∙ ap (λ (p : Phase). come_from p (mid.held ++ (two ++ more)) stop) (sym records_is)

    there : (two : List ℕ) → headed_by old.phase (old.held ++ (took ++ two)) ≡ true
    there two =
        ap (λ (p : Phase). headed_by p (old.held ++ (took ++ two))) start
        ∙ ap has_head (regroup old.held took w two held) ∙ head_there head w two le h

    before : (two : List ℕ) → headed_by mid.phase (mid.held ++ two) ≡ true
    before two = ap (λ (p : Phase). headed_by p (mid.held ++ two)) records_is

    by : (r : Result Captured PcapEnd) → Answer mid new m y r → Answer old new x y r
    by (Ok r) answer = record {
      took = took ++ answer.took;
      left = left ∙ ap (prepend_known took) answer.left ∙ prepend_twice took answer.took y;
      total = omega (arith, total, answer.total, length-append took answer.took);
      is = λ more stop. come answer.took more stop ∙ answer.is more stop;
      count = omega (arith, answer.count);
      head = there answer.took;
      headed = answer.headed;
      opens = answer.opens;
    }
    by (Err e) answer = record {
      took = took ++ answer.took;
      left = left ∙ ap (prepend_known took) answer.left ∙ prepend_twice took answer.took y;
      total = omega (arith, total, answer.total, length-append took answer.took);
      is = ends_same (come_from old.phase) (come_from mid.phase) (old.held ++ (took ++ answer.took)) (mid.held ++ answer.took) y new.taken e (λ more stop.
          ap (λ (xs : List ℕ). come_from old.phase xs stop) (append_assoc old.held (took ++ answer.took) more)
          ∙ come answer.took more stop
          ∙ ap (λ (xs : List ℕ). come_from mid.phase xs stop) (sym (append_assoc mid.held answer.took more))) answer.is;
      stays = answer.stays ∙ ap (λ (b : Bool). Ended e b) (before answer.took ∙ sym (there answer.took));
    }
