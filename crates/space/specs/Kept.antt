-- The map that a page table and a list of fills keep, and what the law sees of a space besides it.
use Rattle.fills.specs.declared.fills.Fills.{Fills}
use Rattle.fills.specs.Fills.{fill_of}
use Rattle.table.specs.declared.table.PageTable.{PageTable}
use Rattle.table.specs.Table.{mapping}
use Rattle.law.specs.PageMap.{PageMap}
use Rattle.law.specs.Law.{State}

abbrev pub kept_map : PageTable → Fills → PageMap
kept_map table fills = record { pages = mapping table; fills = fill_of fills }

abbrev pub state : {A B : Type 0} → A → B → State A B
state tlb frames = record { tlb = tlb; frames = frames }
