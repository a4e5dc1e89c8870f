-- What the definitions give at chosen places.
use Rattle.std.proofs.Common.{◌≡◌, ℕ, pos, true, false, List, [], ◌∷◌, ◌++◌, Some, None, Ok, Err, map, take, drop, refl}
use Rattle.source_block.specs.declared.stop.Stop.TheVariants.{AtEnd, Failed, AtBound}
use Rattle.pcap_file.specs.Heads.{has_head, head_of, is_link, link_of, magic_end, magic_of, number_at, version_end}
use Rattle.pcap_file.specs.Reading.{headed_by, is_headed}
use Rattle.pcap_file.specs.Records.{Answers, captured_of, cut_off, end_of, ended, first, nanoseconds, record_of, records, records_behind, records_from, records_within, size_of_record}
use Rattle.pcap_file.specs.declared.reader.Phase.TheVariants.{Start, Ended}
use Rattle.pcap_file.specs.declared.head.Endian.TheVariants.{Big, Little}
use Rattle.pcap_file.specs.declared.head.FileHead.{FileHead}
use Rattle.pcap_file.specs.declared.head.Fraction.TheVariants.{Micro, Nano}
use Rattle.pcap_file.specs.declared.head.Magic.{Magic}
use Rattle.pcap_file.specs.declared.record.Captured.{Captured}
use Rattle.pcap_file.specs.declared.end.PcapEnd.{PcapEnd}
use Rattle.pcap_file.specs.declared.end.PcapEnd.TheVariants.{Done, Fault, ReadFault, TooLong}
use Rattle.pcap_file.specs.declared.end.CaptureFault.TheVariants.{BadMagic, VersionUnknown, LinkUnknown, RecordTooLong, ShortHead, ShortRecord}

-- a file head of little-endian microseconds of raw IP
abbrev little_head : List ℕ
little_head = 212 ∷ 195 ∷ 178 ∷ 161 ∷ 2 ∷ 0 ∷ 4 ∷ 0 ∷ 0 ∷ 0 ∷ 0 ∷ 0 ∷ 0 ∷ 0 ∷ 0 ∷ 0 ∷ 0 ∷ 0 ∷ 4 ∷ 0 ∷ 101 ∷ 0 ∷ 0 ∷ 0 ∷ []

-- the first four bytes in each byte order, of microseconds and of nanoseconds, and others
magics : map magic_of ((161 ∷ 178 ∷ 195 ∷ 212 ∷ []) ∷ (161 ∷ 178 ∷ 60 ∷ 77 ∷ []) ∷ (212 ∷ 195 ∷ 178 ∷ 161 ∷ []) ∷ (77 ∷ 60 ∷ 178 ∷ 161 ∷ []) ∷ (161 ∷ 178 ∷ 195 ∷ 213 ∷ []) ∷ [])
    ≡ Some (record { endian = Big; fraction = Micro }) ∷ Some (record { endian = Big; fraction = Nano }) ∷ Some (record { endian = Little; fraction = Micro }) ∷ Some (record { endian = Little; fraction = Nano }) ∷ None ∷ []
magics = refl

head_there : head_of little_head ≡ Ok (record { magic = record { endian = Little; fraction = Micro }; link = 101 })
unfolding head_of
head_there = refl

-- the links that are read, and one that isn't; the high half of the number is none of the link
links : map head_of ((161 ∷ 178 ∷ 60 ∷ 77 ∷ 0 ∷ 2 ∷ 0 ∷ 4 ∷ 0 ∷ 0 ∷ 0 ∷ 0 ∷ 0 ∷ 0 ∷ 0 ∷ 0 ∷ 0 ∷ 4 ∷ 0 ∷ 0 ∷ 0 ∷ 0 ∷ 0 ∷ 113 ∷ []) ∷ (161 ∷ 178 ∷ 60 ∷ 77 ∷ 0 ∷ 2 ∷ 0 ∷ 4 ∷ 0 ∷ 0 ∷ 0 ∷ 0 ∷ 0 ∷ 0 ∷ 0 ∷ 0 ∷ 0 ∷ 4 ∷ 0 ∷ 0 ∷ 0 ∷ 1 ∷ 0 ∷ 1 ∷ []) ∷ (161 ∷ 178 ∷ 60 ∷ 77 ∷ 0 ∷ 2 ∷ 0 ∷ 4 ∷ 0 ∷ 0 ∷ 0 ∷ 0 ∷ 0 ∷ 0 ∷ 0 ∷ 0 ∷ 0 ∷ 4 ∷ 0 ∷ 0 ∷ 0 ∷ 0 ∷ 0 ∷ 2 ∷ []) ∷ [])
    ≡ Ok (record { magic = record { endian = Big; fraction = Nano }; link = 113 }) ∷ Ok (record { magic = record { endian = Big; fraction = Nano }; link = 1 }) ∷ Err (Fault 20 LinkUnknown) ∷ []
unfolding head_of
links = refl

-- the first fault is told: the magic's, then the version's, then the link's
faults : map head_of ((161 ∷ 178 ∷ 195 ∷ 213 ∷ 0 ∷ 3 ∷ 0 ∷ 4 ∷ 0 ∷ 0 ∷ 0 ∷ 0 ∷ 0 ∷ 0 ∷ 0 ∷ 0 ∷ 0 ∷ 4 ∷ 0 ∷ 0 ∷ 0 ∷ 0 ∷ 0 ∷ 2 ∷ []) ∷ (161 ∷ 178 ∷ 195 ∷ 212 ∷ 0 ∷ 3 ∷ 0 ∷ 4 ∷ 0 ∷ 0 ∷ 0 ∷ 0 ∷ 0 ∷ 0 ∷ 0 ∷ 0 ∷ 0 ∷ 4 ∷ 0 ∷ 0 ∷ 0 ∷ 0 ∷ 0 ∷ 2 ∷ []) ∷ [])
    ≡ Err (Fault 0 BadMagic) ∷ Err (Fault 4 VersionUnknown) ∷ []
unfolding head_of
faults = refl

-- 24 bytes are a file head, 23 are none, nor are 24 with a fault
heads : map has_head (little_head ∷ take 23 little_head ∷ (161 ∷ 178 ∷ 195 ∷ 212 ∷ 0 ∷ 2 ∷ 0 ∷ 4 ∷ 0 ∷ 0 ∷ 0 ∷ 0 ∷ 0 ∷ 0 ∷ 0 ∷ 0 ∷ 0 ∷ 4 ∷ 0 ∷ 0 ∷ 0 ∷ 0 ∷ 0 ∷ 2 ∷ []) ∷ []) ≡ true ∷ false ∷ false ∷ []
unfolding head_of
heads = refl

headed : headed_by Start little_head ∷ headed_by Start (take 23 little_head) ∷ is_headed Start ∷ is_headed (Ended Done true) ∷ [] ≡ true ∷ false ∷ false ∷ true ∷ []
unfolding head_of
headed = refl

times : nanoseconds Micro 10 5 ∷ nanoseconds Nano 10 5 ∷ [] ≡ pos 10000005000 ∷ pos 10000000005 ∷ []
times = refl

-- a record of two bytes of three, behind the file head
abbrev capture : List ℕ
capture = little_head ++ (10 ∷ 0 ∷ 0 ∷ 0 ∷ 5 ∷ 0 ∷ 0 ∷ 0 ∷ 2 ∷ 0 ∷ 0 ∷ 0 ∷ 3 ∷ 0 ∷ 0 ∷ 0 ∷ 7 ∷ 8 ∷ [])

one_record : records capture AtEnd ≡ record { records = record { time = pos 10000005000; captured = 2; original = 3; link = 101; bytes = 7 ∷ 8 ∷ [] } ∷ []; last = Done }
unfolding records records_from records_within head_of
one_record = refl

-- one byte less, for each reason
record_cut : map (records (take 41 capture)) (AtEnd ∷ Failed ∷ AtBound ∷ []) ≡ ended (Fault 24 ShortRecord) ∷ ended ReadFault ∷ ended TooLong ∷ []
unfolding records records_from records_within head_of
record_cut = refl

record_head_cut : records (take 25 capture) AtEnd ≡ ended (Fault 24 ShortRecord)
unfolding records records_from records_within head_of
record_head_cut = refl

-- the file head alone, and one byte less
head_alone : map (records little_head) (AtEnd ∷ Failed ∷ AtBound ∷ []) ≡ ended Done ∷ ended ReadFault ∷ ended TooLong ∷ []
unfolding records records_from records_within head_of
head_alone = refl

head_cut : map (records (take 23 capture)) (AtEnd ∷ Failed ∷ AtBound ∷ []) ≡ ended (Fault 23 ShortHead) ∷ ended ReadFault ∷ ended TooLong ∷ []
unfolding records
head_cut = refl

-- 262,144 captured bytes may come, one more may not
longest : records (little_head ++ (10 ∷ 0 ∷ 0 ∷ 0 ∷ 5 ∷ 0 ∷ 0 ∷ 0 ∷ 0 ∷ 0 ∷ 4 ∷ 0 ∷ 0 ∷ 0 ∷ 4 ∷ 0 ∷ [])) AtEnd ≡ ended (Fault 24 ShortRecord)
unfolding records records_from records_within head_of
longest = refl

too_long : records (little_head ++ (10 ∷ 0 ∷ 0 ∷ 0 ∷ 5 ∷ 0 ∷ 0 ∷ 0 ∷ 1 ∷ 0 ∷ 4 ∷ 0 ∷ 1 ∷ 0 ∷ 4 ∷ 0 ∷ [])) Failed ≡ ended (Fault 24 RecordTooLong)
unfolding records records_from records_within head_of
too_long = refl

-- Parts of the file head

abbrev little : Magic
little = record { endian = Little; fraction = Micro }

abbrev big : Magic
big = record { endian = Big; fraction = Nano }

abbrev head_with : Magic → ℕ → FileHead
head_with magic link = record { magic = magic; link = link }

numbers_are_read_in_either_byte_order :
    number_at Big 2 1 (9 ∷ 1 ∷ 2 ∷ 3 ∷ []) ∷ number_at Little 2 1 (9 ∷ 1 ∷ 2 ∷ 3 ∷ []) ∷ number_at Big 4 0 (10 ∷ 1 ∷ 2 ∷ 3 ∷ 9 ∷ []) ∷ number_at Little 4 0 (10 ∷ 1 ∷ 2 ∷ 3 ∷ 9 ∷ []) ∷ []
    ≡ 258 ∷ 513 ∷ 167838211 ∷ 50462986 ∷ []
numbers_are_read_in_either_byte_order = refl

three_links_are_read : map is_link (0 ∷ 1 ∷ 2 ∷ 100 ∷ 101 ∷ 102 ∷ 112 ∷ 113 ∷ 114 ∷ []) ≡ false ∷ true ∷ false ∷ false ∷ true ∷ false ∷ false ∷ true ∷ false ∷ []
three_links_are_read = refl

-- the head with this version, and with this link
abbrev with_version : List ℕ → List ℕ
with_version version = take 4 little_head ++ version ++ drop 8 little_head

abbrev with_link : List ℕ → List ℕ
with_link link = take 20 little_head ++ link

-- 369 is 1 * 256 + 113
the_link_is_the_low_half_of_the_last_number :
    link_of little little_head ∷ link_of little (with_link (113 ∷ 1 ∷ 2 ∷ 3 ∷ 4 ∷ [])) ∷ link_of big (with_link (3 ∷ 2 ∷ 1 ∷ 113 ∷ 4 ∷ [])) ∷ link_of big little_head ∷ [] ≡ 101 ∷ 369 ∷ 369 ∷ 0 ∷ []
the_link_is_the_low_half_of_the_last_number = refl

-- versions 2.4, 2.9, 1.4, 3.4 and 258.4, and the version's fault before the link's
the_major_version_is_2 :
    map (version_end little) (little_head ∷ with_version (2 ∷ 0 ∷ 9 ∷ 0 ∷ []) ∷ with_version (1 ∷ 0 ∷ 4 ∷ 0 ∷ []) ∷ with_version (3 ∷ 0 ∷ 4 ∷ 0 ∷ []) ∷ with_version (2 ∷ 1 ∷ 4 ∷ 0 ∷ []) ∷ with_link (2 ∷ 0 ∷ 0 ∷ 0 ∷ []) ∷ (take 4 little_head ++ 3 ∷ 0 ∷ drop 6 (with_link (2 ∷ 0 ∷ 0 ∷ 0 ∷ []))) ∷ [])
    ≡ Ok (head_with little 101) ∷ Ok (head_with little 101) ∷ Err (Fault 4 VersionUnknown) ∷ Err (Fault 4 VersionUnknown) ∷ Err (Fault 4 VersionUnknown) ∷ Err (Fault 20 LinkUnknown) ∷ Err (Fault 4 VersionUnknown) ∷ []
the_major_version_is_2 = refl

-- by each magic alone: 2 in the one byte order is 512 in the other
the_magic_tells_how_the_rest_is_read :
    magic_end None little_head ∷ magic_end (Some little) little_head ∷ magic_end (Some big) little_head ∷ magic_end (Some big) (take 4 little_head ++ 0 ∷ 2 ∷ drop 6 (with_link (0 ∷ 5 ∷ 0 ∷ 113 ∷ []))) ∷ []
    ≡ Err (Fault 0 BadMagic) ∷ Ok (head_with little 101) ∷ Err (Fault 4 VersionUnknown) ∷ Ok (head_with big 113) ∷ []
the_magic_tells_how_the_rest_is_read = refl

-- Parts of records

each_reason_is_an_end : map end_of (AtEnd ∷ Failed ∷ AtBound ∷ []) ≡ Done ∷ ReadFault ∷ TooLong ∷ []
each_reason_is_an_end = refl

what_is_cut_off_is_a_fault_only_at_the_end :
    cut_off AtEnd 7 ShortHead ∷ cut_off AtEnd 24 ShortRecord ∷ cut_off Failed 24 ShortRecord ∷ cut_off AtBound 24 ShortRecord ∷ [] ≡ Fault 7 ShortHead ∷ Fault 24 ShortRecord ∷ ReadFault ∷ TooLong ∷ []
what_is_cut_off_is_a_fault_only_at_the_end = refl

-- 2, 1, 0 and 0 are 258 with the lowest first, and 33619968 with the highest first
abbrev record_head : List ℕ
record_head = 10 ∷ 0 ∷ 0 ∷ 0 ∷ 5 ∷ 0 ∷ 0 ∷ 0 ∷ 2 ∷ 1 ∷ 0 ∷ 0 ∷ 3 ∷ 4 ∷ 0 ∷ 0 ∷ []

captured_bytes_are_told_by_the_third_number : captured_of (head_with little 101) record_head ∷ captured_of (head_with big 1) record_head ∷ [] ≡ 258 ∷ 33619968 ∷ []
captured_bytes_are_told_by_the_third_number = refl

a_record_has_sixteen_bytes_more : size_of_record (head_with little 101) record_head ∷ size_of_record (head_with big 1) record_head ∷ [] ≡ 274 ∷ 33619984 ∷ []
a_record_has_sixteen_bytes_more = refl

-- of microseconds with the lowest first, and of nanoseconds with the highest first; bytes of the next record stand behind
records_tell_time_sizes_link_and_bytes :
    record_of (head_with little 101) (10 ∷ 0 ∷ 0 ∷ 0 ∷ 5 ∷ 0 ∷ 0 ∷ 0 ∷ 2 ∷ 0 ∷ 0 ∷ 0 ∷ 3 ∷ 1 ∷ 0 ∷ 0 ∷ 7 ∷ 8 ∷ 9 ∷ []) ∷ record_of (head_with big 113) (0 ∷ 0 ∷ 0 ∷ 10 ∷ 0 ∷ 0 ∷ 0 ∷ 5 ∷ 0 ∷ 0 ∷ 0 ∷ 3 ∷ 0 ∷ 0 ∷ 1 ∷ 0 ∷ 7 ∷ 8 ∷ 9 ∷ 6 ∷ []) ∷ []
    ≡ record { time = pos 10000005000; captured = 2; original = 259; link = 101; bytes = 7 ∷ 8 ∷ [] } ∷ record { time = pos 10000000005; captured = 3; original = 256; link = 113; bytes = 7 ∷ 8 ∷ 9 ∷ [] } ∷ []
records_tell_time_sizes_link_and_bytes = refl

abbrev short_record : ℕ → Captured
short_record original = record { time = pos 10000005000; captured = 2; original = original; link = 101; bytes = 7 ∷ 8 ∷ [] }

abbrev answers : List Captured → PcapEnd → Answers
answers given last = record { records = given; last = last }

answers_are_records_and_an_end : (a : Answers) → a ≡ answers a.records a.last
answers_are_records_and_an_end a = refl

a_record_stands_before_the_others : first (short_record 3) (answers (short_record 4 ∷ short_record 5 ∷ []) TooLong) ≡ answers (short_record 3 ∷ short_record 4 ∷ short_record 5 ∷ []) TooLong
a_record_stands_before_the_others = refl

-- a fault of the head stands alone; a record behind the head ends at 42, and what is cut off there is told
records_stand_behind_a_head_without_fault :
    records_behind (Err (Fault 20 LinkUnknown)) capture AtEnd ∷ records_behind (Ok (head_with little 101)) capture Failed ∷ records_behind (Ok (head_with little 101)) (capture ++ 10 ∷ []) AtEnd ∷ records_behind (Ok (head_with little 101)) (take 41 capture) AtEnd ∷ []
    ≡ answers [] (Fault 20 LinkUnknown) ∷ answers (short_record 3 ∷ []) ReadFault ∷ answers (short_record 3 ∷ []) (Fault 42 ShortRecord) ∷ answers [] (Fault 24 ShortRecord) ∷ []
unfolding records_from records_within
records_stand_behind_a_head_without_fault = refl

-- two records in order
two_records : records_behind (Ok (head_with little 101)) (capture ++ 10 ∷ 0 ∷ 0 ∷ 0 ∷ 5 ∷ 0 ∷ 0 ∷ 0 ∷ 2 ∷ 0 ∷ 0 ∷ 0 ∷ 4 ∷ 0 ∷ 0 ∷ 0 ∷ 7 ∷ 8 ∷ []) AtEnd ≡ answers (short_record 3 ∷ short_record 4 ∷ []) Done
unfolding records_from records_within
two_records = refl
