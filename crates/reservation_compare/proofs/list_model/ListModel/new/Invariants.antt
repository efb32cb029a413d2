use Rattle.std.specs.Prelude.{◌≡◌, ◌+◌, ◌<◌, ℕ, length, slice_index_or}
use Rattle.reservation_compare.proofs.list_model.ListModel.new.Given as goal

abbrev pub invariant-loop-frame : goal.invariant-loop-frame
invariant-loop-frame l = (length l.free.items + 74560 ≡ l.frame) × ((i d : ℕ) → i + 74560 < l.frame → slice_index_or l.free.items i d ≡ 74560 + i)
