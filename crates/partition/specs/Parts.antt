-- What a part stands for.
use Rattle.std.specs.Arc.{arc_value}
use Rattle.event_history.specs.Pieces.{Piece}
use Rattle.partition.specs.declared.part.Part.{Part}
use Rattle.partition.specs.declared.part.Part.TheVariants.{One, Many}

abbrev pub piece_of : Part → Piece
piece_of (One fragment) = arc_value fragment
piece_of (Many sealed) = arc_value sealed
