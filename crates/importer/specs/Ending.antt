-- How an input ends, and the answers that are still to come of one.
use Rattle.std.specs.Prelude.{List, [], ◌++◌, Option, None, Some}
use Rattle.zeek_log.specs.declared.step.ZeekEnd.{ZeekEnd}
use Rattle.zeek_log.specs.declared.step.ZeekEnd.TheVariants as log
use Rattle.pcap_file.specs.declared.end.PcapEnd.{PcapEnd}
use Rattle.pcap_file.specs.declared.end.PcapEnd.TheVariants as capture
use Rattle.importer.specs.declared.ends.ImportEnd.{ImportEnd}
use Rattle.importer.specs.declared.ends.ImportEnd.TheVariants.{Fault, ReadFault, TooLong, Memory}
use Rattle.importer.specs.declared.ends.InputFault.TheVariants.{Line, Place}
use Rattle.importer.specs.declared.ends.How.{How}
use Rattle.importer.specs.declared.ends.How.TheVariants as how

-- how a log's end is told of an input: None where all of it was given
abbrev pub end_of_log : ZeekEnd → Option ImportEnd
end_of_log log.Done = None
end_of_log (log.Fault n column what) = Some (Fault (Line n column what))
end_of_log log.ReadFault = Some ReadFault
end_of_log log.TooLong = Some TooLong
end_of_log log.Memory = Some Memory

-- how a capture's end is told of an input
abbrev pub end_of_capture : PcapEnd → Option ImportEnd
end_of_capture capture.Done = None
end_of_capture (capture.Fault offset what) = Some (Fault (Place offset what))
end_of_capture capture.ReadFault = Some ReadFault
end_of_capture capture.TooLong = Some TooLong
end_of_capture capture.Memory = Some Memory

-- how a source went whose end is this
abbrev pub how_ended : Option ImportEnd → How
how_ended None = how.Done
how_ended (Some (Fault fault)) = how.Fault fault
how_ended (Some ReadFault) = how.ReadFault
how_ended (Some TooLong) = how.TooLong
how_ended (Some Memory) = how.Memory

-- what is given in order, and then the end
pub record Answers (X : Type 0) : Type 0 where
  pub given : List X
  pub end : Option ImportEnd

abbrev pub only_end : {X : Type 0} → Option ImportEnd → Answers X
only_end end = record { given = []; end = end }

-- these, and then the others
abbrev pub ahead : {X : Type 0} → List X → Answers X → Answers X
ahead xs others = record { given = xs ++ others.given; end = others.end }
