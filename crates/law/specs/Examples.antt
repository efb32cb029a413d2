-- Worked values of the page map, together with those of the formats.
use Rattle.std.specs.Prelude.{◌≡◌, [], ◌∷◌, Ok, Some, None}
use Rattle.words.specs.declared.address.Page.{Page}
use Rattle.words.specs.Points.{at}
use Rattle.words.specs.Reading.{translation}
use Rattle.words.specs.Blocks.{Mapping}
use Rattle.words.specs.Examples.{Examples, single, whole, protected, restored, released}
use Rattle.blocks.specs.Blocks.{UsedBlocks, RowedBlocks}
use Rattle.table.specs.Calls.{unmapped, protect_refusals}
use Rattle.words.specs.Refusals.{First, Accepted}
use Rattle.fills.specs.Fills.{underway}
use Rattle.law.specs.declared.calls.Event.TheVariants as event
use Rattle.law.specs.PageMap.{PageMap, nothing, next, after}
use Rattle.law.specs.Refusals.{settle_refusals, touch_refusals}

-- only these pages are mapped, and no fill is under way
abbrev pub with_pages : Mapping → PageMap
with_pages m = record { pages = m; fills = λ p. None }

-- nothing is mapped, and the page 0x41 waits for the frame 0x1001
abbrev pub waiting : PageMap
waiting = record { pages = unmapped; fills = at (λ p. None) 0x41 (Some (underway 0x1001)) }

pub record WorkedExamples : Type 0 where
  pub formats : Examples
  -- the page 0x41 is begun on the frame 0x1001 and settled with the attributes 3
  pub settled : (p : Page) → p.number ≡ 0x41 → after nothing (event.Begin 0x41034 (Ok 0x1001) ∷ event.Settle p (underway 0x1001) 3 (Ok 0x1001) ∷ []) ≡ with_pages (single 0x1001)
  pub protect : next (with_pages whole) (event.Protect 0x41000 1 (Ok 3)) ≡ with_pages protected
  pub protect_back : next (with_pages protected) (event.Protect 0x41000 3 (Ok 1)) ≡ with_pages restored
  pub release : next (with_pages restored) (event.Release 0x41000 (Ok (translation 0x1001 3))) ≡ with_pages released
  -- with the attributes 1 a read is answered and a write refused
  pub read : Accepted (touch_refusals protected 0x41 1)
  pub write : First (touch_refusals protected 0x41 2) 11
  -- attributes of 4,096 are refused, and 4,095 pass
  pub settle_too_large : First (settle_refusals nothing 0x41 (underway 0x1001) 4096) 5
  pub protect_too_large : First (protect_refusals whole 0x41 4096) 5
  pub settle_largest : Accepted (settle_refusals waiting 0x41 (underway 0x1001) 4095)
  pub protect_largest : Accepted (protect_refusals whole 0x41 4095)
  -- how many blocks are used, and how many of them need a row
  pub placed_page : UsedBlocks (single 0x1001) 1 × RowedBlocks (single 0x1001) 0
  pub misplaced_page : UsedBlocks (single 0x1000) 1 × RowedBlocks (single 0x1000) 1
  pub whole_block : UsedBlocks whole 1 × RowedBlocks whole 0
  pub one_protected : RowedBlocks protected 1
  pub protected_back : RowedBlocks restored 0
  pub one_released : RowedBlocks released 0
