use Rattle.std.proofs.Common.{rules, arith}
use Rattle.reservation_compare.specs.Agreement.{Noted, Stopped, FirstDiffers}
use Rattle.reservation_compare.proofs.Agreeing.{none_yet, one_more, first_stop, at_ok, at_err, as_err}
use Rattle.reservation_compare.proofs.compare.compare.Goals as goal

pub loop-phase-init : goal.loop-phase-init
loop-phase-init g c =
    let none = none_yet g.A.FrameAllocator.meaning g.M.FrameModel.meaning c.args.allocator c.args.model c.new-outcomes.result.items c.new-outcomes.ensures.items in
    (search rules, none)

pub returns-in_err-note : goal.returns-in_err-note
returns-in_err-note g c =
    let k = g.A.FrameAllocator.meaning in
    let m = g.M.FrameModel.meaning in
    let b = c.loop.both.allocator in
    let o = c.loop.both.model in
    let es = c.loop.outcomes.items in
    let why = at_err (λ _. Noted k m b o c.draw-call.result es c.note.new.self.allocator c.note.new.self.model c.note.new.outcomes.items) (Stopped k m b o c.draw-call.result es)
    c.note.result c.in_err-note.field-0.0 c.note.ensures c.in_err-note.was in
    let first = first_stop k m c.args.allocator c.args.model es b o c.draw-call.result c.in_err-note.field-0.0 c.loop.invariant.2 why in
    as_err _ (FirstDiffers k m c.args.allocator c.args.model) c.from_residual.result c.in_err-note.field-0.0 (search rules) first

pub loop-preserved : goal.loop-preserved
loop-preserved g c =
    let k = g.A.FrameAllocator.meaning in
    let m = g.M.FrameModel.meaning in
    let b = c.loop.both.allocator in
    let o = c.loop.both.model in
    let es = c.loop.outcomes.items in
    let noted = at_ok (λ _. Noted k m b o c.draw-call.result es c.note.new.self.allocator c.note.new.self.model c.note.new.outcomes.items) (Stopped k m b o c.draw-call.result es)
    c.note.result c.in_ok-note.field-0 c.note.ensures c.in_ok-note.was in
    let (long, agreed) = one_more k m c.args.allocator c.args.model es c.note.new.outcomes.items b o c.draw-call.result c.note.new.self.allocator c.note.new.self.model c.loop.invariant.2 noted in
    (omega (arith, long), omega arith, agreed)
