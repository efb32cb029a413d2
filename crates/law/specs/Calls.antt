-- The call of an event.
use Rattle.law.specs.declared.calls.Call.{Call}
use Rattle.law.specs.declared.calls.Call.TheVariants as call
use Rattle.law.specs.declared.calls.Event.{Event}
use Rattle.law.specs.declared.calls.Event.TheVariants.{Begin, Settle, Abandon, Release, Protect, Touch, Walk, Census}

abbrev pub call_of : Event → Call
call_of (Begin address answer) = call.Begin address
call_of (Settle page fill attributes answer) = call.Settle page fill attributes
call_of (Abandon page fill answer) = call.Abandon page fill
call_of (Release address answer) = call.Release address
call_of (Protect address attributes answer) = call.Protect address attributes
call_of (Touch address access answer) = call.Touch address access
call_of (Walk address answer) = call.Walk address
call_of (Census answer) = call.Census
