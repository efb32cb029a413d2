-- A space whose fills are named by page and frame.
use Rattle.std.specs.Prelude.{◌≡◌, ℕ, Ok, Err, Result}
use Rattle.tlb.specs.declared.tlb.Tlb as tlb
use Rattle.frames.specs.declared.allocator.FrameAllocator as allocator
use Rattle.law.specs.declared.fault.BeginFault.{BeginFault}
use Rattle.law.specs.declared.fault.BeginFault.TheVariants as begin
use Rattle.space.specs.declared.plain.PlainSpace.{PlainSpace}
use Rattle.space.specs.declared.space.Space.{Space}
use Rattle.space.specs.Space.{Unchanged}

module _ {A B : Type 0} {t : tlb.Ghosts A} {k : allocator.Ghosts B} where
  abbrev pub plain : PlainSpace A B t k → Space A B t k
  plain s = s.space

  -- which parts a begin leaves just as they were
  abbrev pub PlainBeginLeaves : Space A B t k → Result ℕ BeginFault → Space A B t k → Type 0
  PlainBeginLeaves s (Ok frame) u = (u.table ≡ s.table) × (u.tlb ≡ s.tlb)
  PlainBeginLeaves s (Err begin.NoFrame) u = (u.table ≡ s.table) × (u.fills ≡ s.fills) × (u.tlb ≡ s.tlb)
  PlainBeginLeaves s (Err fault) u = Unchanged s u
