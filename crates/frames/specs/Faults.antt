-- The numbers of the refusals, and what is written of them.
use Rattle.std.specs.Prelude.{ℕ, List, codes}
use Rattle.frames.specs.declared.fault.AllocateFault.{AllocateFault}
use Rattle.frames.specs.declared.fault.AllocateFault.TheVariants.{AllOut}
use Rattle.frames.specs.declared.fault.FreeFault.{FreeFault}
use Rattle.frames.specs.declared.fault.FreeFault.TheVariants.{NotOut}

abbrev pub allocate_number : AllocateFault → ℕ
allocate_number AllOut = 4

abbrev pub free_number : FreeFault → ℕ
free_number NotOut = 12

abbrev pub allocate_reason : AllocateFault → List ℕ
allocate_reason AllOut = codes "every frame of the stock is out"

abbrev pub free_reason : FreeFault → List ℕ
free_reason NotOut = codes "the frame is not out"
