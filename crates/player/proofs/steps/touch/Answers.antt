use Rattle.std.proofs.Common.{refl}
use Rattle.player.specs.declared.fault.StepFault.TheVariants.{Touch}
use Rattle.player.specs.Steps.Asks.{accessed, not_accessed}
use Rattle.player.proofs.Led.{one, refused}
use Rattle.player.proofs.steps.touch.Goals as goal

pub returns-in_err-touched : goal.returns-in_err-touched
returns-in_err-touched g c =
    refused _ _ _ _ (Touch c.in_err-touched.field-0.0) c.from_residual.result c.from_residual.ensures.0 c.from_residual.ensures.1 not_accessed (_, c.in_err-touched.ensures.law, refl)

pub returns : goal.returns
returns g c = rw c.mark_in_line.ensures (one _ _ _ _ _ accessed c.in_ok-touched.ensures.law)
