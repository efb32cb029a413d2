-- The numbers of the refusals, and what is written of them.
use Rattle.std.specs.Prelude.{ℕ, List, codes}
use Rattle.fills.specs.declared.fault.AddFault.{AddFault}
use Rattle.fills.specs.declared.fault.AddFault.TheVariants.{Waiting, TooMany}

abbrev pub add_number : AddFault → ℕ
add_number Waiting = 2
add_number TooMany = 3

abbrev pub no_fill_number : ℕ
no_fill_number = 6

abbrev pub add_reason : AddFault → List ℕ
add_reason Waiting = codes "the page has a fill under way"
add_reason TooMany = codes "32 fills are under way"

abbrev pub no_fill_reason : List ℕ
no_fill_reason = codes "no such fill is under way"
