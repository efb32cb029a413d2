use Rattle.std.proofs.Common.{refl}
use Rattle.player.specs.declared.fault.StepFault.TheVariants.{Begin}
use Rattle.player.specs.Steps.Asks.{tried, not_tried}
use Rattle.player.proofs.Led.{refused, under_way, not_refused}
use Rattle.player.proofs.steps.begin_and_abandon.Goals as goal

pub returns-in_err-fill : goal.returns-in_err-fill
returns-in_err-fill g c =
    refused _ _ _ _ (Begin c.in_err-fill.field-0.0) c.from_residual.result c.from_residual.ensures.0 c.from_residual.ensures.1 not_tried (_, c.in_err-fill.ensures.law, refl)

pub returns-in_err-frame : goal.returns-in_err-frame
returns-in_err-frame g c =
    absurd (not_refused _ _ c.in_ok-fill.fill.page _ _ (under_way _ _ _ c.in_ok-fill.fill.page _ c.in_ok-fill.ensures.leaves.0 c.in_ok-fill.ensures.law) c.in_err-frame.ensures.law)

pub returns : goal.returns
returns g c = record { events = _; asks = tried c.in_ok-fill.ensures.leaves.0; leads = (_, c.in_ok-fill.ensures.law, (_, c.in_ok-frame.ensures.law, refl)) }
