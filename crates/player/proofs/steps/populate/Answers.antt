use Rattle.std.proofs.Common.{refl}
use Rattle.std.specs.Prelude.{Ok, Err}
use Rattle.player.specs.declared.fault.StepFault.TheVariants.{Begin}
use Rattle.player.specs.Steps.Asks.{populated, not_settled, not_begun}
use Rattle.player.proofs.Led.{refused, under_way, still_under_way, of_fill, not_refused}
use Rattle.player.proofs.steps.populate.Goals as goal

pub returns-in_err-fill : goal.returns-in_err-fill
returns-in_err-fill g c =
    refused _ _ _ _ (Begin c.in_err-fill.field-0.0) c.from_residual.result c.from_residual.ensures.0 c.from_residual.ensures.1 not_begun (_, c.in_err-fill.ensures.law, refl)

pub returns-in-Ok : goal.returns-in-Ok
returns-in-Ok g c = record { events = _; asks = populated c.in_ok-fill.ensures.leaves.0; leads = (_, c.in_ok-fill.ensures.law, (_, c.in-Ok.ensures.law, refl)) }

pub returns-in_err-abandon-in-Err : goal.returns-in_err-abandon-in-Err
returns-in_err-abandon-in-Err g c =
    let fill = c.in_ok-fill.fill in
    let waits = still_under_way _ _ fill.page fill.underway _ _ (under_way _ _ _ fill.page fill.underway c.in_ok-fill.ensures.leaves.0 c.in_ok-fill.ensures.law) c.in-Err.ensures.law in
    absurd (not_refused _ _ fill.page fill.underway _ waits (of_fill _ _ c.in-Err.field-0.fill fill (Err c.in_err-abandon-in-Err.field-0.0) c.in-Err.ensures.back c.in_err-abandon-in-Err.ensures.law))

pub returns-in_ok-abandon-in-Err : goal.returns-in_ok-abandon-in-Err
returns-in_ok-abandon-in-Err g c =
    let fill = c.in_ok-fill.fill in
    let gone = of_fill _ _ c.in-Err.field-0.fill fill (Ok c.in_ok-abandon-in-Err.field-0) c.in-Err.ensures.back c.in_ok-abandon-in-Err.ensures.law in
    rw c.from.ensures record {
      events = _;
      asks = not_settled c.in_ok-fill.ensures.leaves.0;
      leads = (_, c.in_ok-fill.ensures.law, (_, c.in-Err.ensures.law, (_, gone, refl)));
    }
