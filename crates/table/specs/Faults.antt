-- The numbers of the refusals, and what is written of them.
use Rattle.std.specs.Prelude.{◌≡◌, ℕ, List, codes}
use Rattle.blocks.specs.declared.fault.NoRoom.{NoRoom}
use Rattle.blocks.specs.Faults.{room_number}
use Rattle.table.specs.declared.fault.MapFault.{MapFault}
use Rattle.table.specs.declared.fault.MapFault.TheVariants as map
use Rattle.table.specs.declared.fault.ProtectFault.{ProtectFault}
use Rattle.table.specs.declared.fault.ProtectFault.TheVariants as protect

abbrev pub map_number : MapFault → ℕ
map_number map.Mapped = 1
map_number map.NoNode = 7
map_number map.NoRow = 8

abbrev pub protect_number : ProtectFault → ℕ
protect_number protect.BadAttributes = 5
protect_number protect.NotMapped = 9
protect_number protect.NoRow = 8

abbrev pub not_mapped_number : ℕ
not_mapped_number = 9

-- no room for a page is refused by the same number
abbrev pub MapRoom : NoRoom → MapFault → Type 0
MapRoom e f = map_number f ≡ room_number e

abbrev pub map_reason : MapFault → List ℕ
map_reason map.Mapped = codes "the page is mapped"
map_reason map.NoNode = codes "all nodes are linked"
map_reason map.NoRow = codes "all rows are in use"

abbrev pub protect_reason : ProtectFault → List ℕ
protect_reason protect.BadAttributes = codes "attributes over 4095"
protect_reason protect.NotMapped = codes "the page is not mapped"
protect_reason protect.NoRow = codes "all rows are in use"

abbrev pub not_mapped_reason : List ℕ
not_mapped_reason = codes "the page is not mapped"
