use Rattle.std.proofs.Common.{refl}
use Rattle.player.specs.declared.fault.StepFault.TheVariants.{Release}
use Rattle.player.specs.Steps.Asks.{released, not_released}
use Rattle.player.proofs.Led.{one, refused}
use Rattle.player.proofs.steps.release.Goals as goal

pub returns-in_err-former : goal.returns-in_err-former
returns-in_err-former g c =
    refused _ _ _ _ (Release c.in_err-former.field-0.0) c.from_residual.result c.from_residual.ensures.0 c.from_residual.ensures.1 not_released (_, c.in_err-former.ensures.law, refl)

pub returns : goal.returns
returns g c = one _ _ _ _ _ released c.in_ok-former.ensures.law
