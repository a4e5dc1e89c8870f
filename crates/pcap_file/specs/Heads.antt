-- The head of a capture file: 24 bytes.
use Rattle.std.specs.Prelude.{ℕ, ◌==◌, ◌||◌, ◌&&◌, ◌%◌, Bool, not, nat_le, is_ok, if◌then◌else◌, List, length, drop, Option, Some, None, Result, Ok, Err}
use Rattle.byteorder.specs.Endian.{big_number, little_number}
use Rattle.pcap_file.specs.declared.head.Endian.{Endian}
use Rattle.pcap_file.specs.declared.head.Endian.TheVariants.{Big, Little}
use Rattle.pcap_file.specs.declared.head.Fraction.TheVariants.{Micro, Nano}
use Rattle.pcap_file.specs.declared.head.Magic.{Magic}
use Rattle.pcap_file.specs.declared.head.FileHead.{FileHead}
use Rattle.pcap_file.specs.declared.end.PcapEnd.{PcapEnd}
use Rattle.pcap_file.specs.declared.end.PcapEnd.TheVariants.{Fault}
use Rattle.pcap_file.specs.declared.end.CaptureFault.TheVariants.{BadMagic, VersionUnknown, LinkUnknown}

-- the number in the n bytes from a place on
abbrev pub number_at : Endian → ℕ → ℕ → List ℕ → ℕ
number_at Big n place bytes = big_number n (drop place bytes)
number_at Little n place bytes = little_number n (drop place bytes)

-- the byte order is the one in which the magic reads so
abbrev pub magic_of : List ℕ → Option Magic
magic_of bytes =
    if number_at Big 4 0 bytes == 0xa1b2c3d4 then Some (record { endian = Big; fraction = Micro })
    else (if number_at Big 4 0 bytes == 0xa1b23c4d then Some (record { endian = Big; fraction = Nano })
    else (if number_at Little 4 0 bytes == 0xa1b2c3d4 then Some (record { endian = Little; fraction = Micro })
    else (if number_at Little 4 0 bytes == 0xa1b23c4d then Some (record { endian = Little; fraction = Nano })
    else None)))

abbrev pub is_link : ℕ → Bool
is_link link = link == 1 || link == 101 || link == 113

-- the link type is the low half of the last number
abbrev pub link_of : Magic → List ℕ → ℕ
link_of magic bytes = number_at magic.endian 4 20 bytes % 0x10000

abbrev pub version_end : Magic → List ℕ → Result FileHead PcapEnd
version_end magic bytes =
    if not (number_at magic.endian 2 4 bytes == 2) then Err (Fault 4 VersionUnknown)
    else (if not (is_link (link_of magic bytes)) then Err (Fault 20 LinkUnknown)
    else Ok (record { magic = magic; link = link_of magic bytes }))

abbrev pub magic_end : Option Magic → List ℕ → Result FileHead PcapEnd
magic_end None bytes = Err (Fault 0 BadMagic)
magic_end (Some magic) bytes = version_end magic bytes

-- the head in the first 24 bytes, or the first of its faults
unfoldable pub head_of : List ℕ → Result FileHead PcapEnd
head_of bytes = magic_end (magic_of bytes) bytes

-- bytes begin with a file head that has no fault
abbrev pub has_head : List ℕ → Bool
has_head bytes = nat_le 24 (length bytes) && is_ok (head_of bytes)
