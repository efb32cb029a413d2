-- The number of each refusal.
use Rattle.std.specs.Prelude.{ℕ}
use Rattle.table.specs.Faults.{protect_number}
use Rattle.law.specs.Faults.{begin_number, settle_number, abandon_number, release_number, touch_number}
use Rattle.player.specs.declared.fault.StepFault.{StepFault}
use Rattle.player.specs.declared.fault.StepFault.TheVariants.{Begin, Settle, Abandon, Release, Protect, Touch}

abbrev pub step_number : StepFault → ℕ
step_number (Begin fault) = begin_number fault
step_number (Settle fault) = settle_number fault
step_number (Abandon fault) = abandon_number fault
step_number (Release fault) = release_number fault
step_number (Protect fault) = protect_number fault
step_number (Touch fault) = touch_number fault
