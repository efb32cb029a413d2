-- The numbers of the refusals, and what is written of them.
use Rattle.std.specs.Prelude.{◌≡◌, ℕ, List, codes}
use Rattle.fills.specs.declared.fault.AddFault.{AddFault}
use Rattle.fills.specs.Faults.{add_number}
use Rattle.table.specs.declared.fault.MapFault.{MapFault}
use Rattle.table.specs.declared.fault.MapFault.TheVariants as map
use Rattle.law.specs.declared.fault.BeginFault.{BeginFault}
use Rattle.law.specs.declared.fault.BeginFault.TheVariants as begin
use Rattle.law.specs.declared.fault.SettleFault.{SettleFault}
use Rattle.law.specs.declared.fault.SettleFault.TheVariants as settle
use Rattle.law.specs.declared.fault.AbandonFault.{AbandonFault}
use Rattle.law.specs.declared.fault.AbandonFault.TheVariants as abandon
use Rattle.law.specs.declared.fault.ReleaseFault.{ReleaseFault}
use Rattle.law.specs.declared.fault.ReleaseFault.TheVariants as release
use Rattle.law.specs.declared.fault.TouchFault.{TouchFault}
use Rattle.law.specs.declared.fault.TouchFault.TheVariants as touch

abbrev pub begin_number : BeginFault → ℕ
begin_number begin.Mapped = 1
begin_number begin.Waiting = 2
begin_number begin.TooMany = 3
begin_number begin.NoFrame = 4

abbrev pub settle_number : SettleFault → ℕ
settle_number settle.BadAttributes = 5
settle_number settle.NoFill = 6
settle_number settle.NoNode = 7
settle_number settle.NoRow = 8

abbrev pub abandon_number : AbandonFault → ℕ
abandon_number abandon.NoFill = 6

abbrev pub release_number : ReleaseFault → ℕ
release_number release.NotMapped = 9

abbrev pub touch_number : TouchFault → ℕ
touch_number touch.BadAccess = 10
touch_number touch.NotMapped = 9
touch_number touch.Denied = 11

-- what the list of fills refuses, begin refuses by the same number
abbrev pub BeginFromAdd : AddFault → BeginFault → Type 0
BeginFromAdd e f = begin_number f ≡ add_number e

-- what the table refuses, settle refuses for the same reason; of a mapped page no fill is under way
abbrev pub SettleFromMap : MapFault → SettleFault → Type 0
SettleFromMap map.Mapped f = f ≡ settle.NoFill
SettleFromMap map.NoNode f = f ≡ settle.NoNode
SettleFromMap map.NoRow f = f ≡ settle.NoRow

abbrev pub begin_reason : BeginFault → List ℕ
begin_reason begin.Mapped = codes "the page is mapped"
begin_reason begin.Waiting = codes "the page has a fill under way"
begin_reason begin.TooMany = codes "32 fills are under way"
begin_reason begin.NoFrame = codes "every frame of the stock is out"

abbrev pub settle_reason : SettleFault → List ℕ
settle_reason settle.BadAttributes = codes "attributes over 4095"
settle_reason settle.NoFill = codes "no such fill is under way"
settle_reason settle.NoNode = codes "all nodes are linked"
settle_reason settle.NoRow = codes "all rows are in use"

abbrev pub abandon_reason : AbandonFault → List ℕ
abandon_reason abandon.NoFill = codes "no such fill is under way"

abbrev pub release_reason : ReleaseFault → List ℕ
release_reason release.NotMapped = codes "the page is not mapped"

abbrev pub touch_reason : TouchFault → List ℕ
touch_reason touch.BadAccess = codes "no such access"
touch_reason touch.NotMapped = codes "the page is not mapped"
touch_reason touch.Denied = codes "the attributes lack the access"
