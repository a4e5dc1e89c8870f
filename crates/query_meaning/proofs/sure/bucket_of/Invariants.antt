use Rattle.std.proofs.Common.{◌≡◌, ◌%◌, take, sum}
use Rattle.query_meaning.proofs.sure.bucket_of.Given as goal

abbrev pub invariant-loop-byte : goal.invariant-loop-byte
invariant-loop-byte l = l.bucket ≡ sum (take l.byte-index l.bytes) % 64
