-- The number of a refusal is small.
use Rattle.std.proofs.Common.{◌≡◌, ◌%◌, ◌^◌, refl}
use Rattle.table.specs.declared.fault.ProtectFault.TheVariants as protect
use Rattle.law.specs.declared.fault.AbandonFault.TheVariants as abandon
use Rattle.law.specs.declared.fault.BeginFault.TheVariants as begin
use Rattle.law.specs.declared.fault.ReleaseFault.TheVariants as release
use Rattle.law.specs.declared.fault.SettleFault.TheVariants as settle
use Rattle.law.specs.declared.fault.TouchFault.TheVariants as touch
use Rattle.player.specs.declared.fault.StepFault.{StepFault}
use Rattle.player.specs.declared.fault.StepFault.TheVariants.{Begin, Settle, Abandon, Release, Protect, Touch}
use Rattle.player.specs.Faults.{step_number}

pub is_small : (fault : StepFault) → step_number fault % 2 ^ 32 ≡ step_number fault
is_small (Begin begin.Mapped) = refl
is_small (Begin begin.Waiting) = refl
is_small (Begin begin.TooMany) = refl
is_small (Begin begin.NoFrame) = refl
is_small (Settle settle.BadAttributes) = refl
is_small (Settle settle.NoFill) = refl
is_small (Settle settle.NoNode) = refl
is_small (Settle settle.NoRow) = refl
is_small (Abandon abandon.NoFill) = refl
is_small (Release release.NotMapped) = refl
is_small (Protect protect.BadAttributes) = refl
is_small (Protect protect.NotMapped) = refl
is_small (Protect protect.NoRow) = refl
is_small (Touch touch.BadAccess) = refl
is_small (Touch touch.NotMapped) = refl
is_small (Touch touch.Denied) = refl
