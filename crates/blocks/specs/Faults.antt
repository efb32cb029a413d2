-- The numbers of the refusals, and what is written of them.
use Rattle.std.specs.Prelude.{ℕ, List, codes}
use Rattle.blocks.specs.declared.fault.NoRoom.{NoRoom}
use Rattle.blocks.specs.declared.fault.NoRoom.TheVariants.{NoNode, NoRow}

-- no node is left for a block that has none, or no row for one that needs it
abbrev pub room_number : NoRoom → ℕ
room_number NoNode = 7
room_number NoRow = 8

abbrev pub room_reason : NoRoom → List ℕ
room_reason NoNode = codes "all nodes are linked"
room_reason NoRow = codes "all rows are in use"
