-- What a page table maps each page to, and in which order it has its blocks.
use Rattle.words.specs.Blocks.{Mapping}
use Rattle.chains.specs.Orders.{Order}
use Rattle.blocks.specs.Blocks as blocks
use Rattle.table.specs.declared.table.PageTable.{PageTable}

abbrev pub mapping : PageTable → Mapping
mapping t = blocks.held t.blocks

-- the blocks of each bucket that have a mapped page, in the order in which a walk looks at their nodes
abbrev pub order : PageTable → Order
order t = blocks.order t.blocks
