use Rattle.std.proofs.Common.{◌≡◌, false, All}
use Rattle.reservation_compare.specs.GroupModel.{model_out}
use Rattle.reservation_compare.proofs.group_model.GroupModelFrameModel.choices.Given as goal

-- each frame that is listed so far is in
abbrev pub invariant-loop-frame : goal.invariant-loop-frame
invariant-loop-frame l = All (λ f. model_out l.self f ≡ false) l.frames.items
