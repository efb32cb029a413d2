-- Worked values of the formats.
use Rattle.std.specs.Prelude.{◌≡◌, ℕ, ◌+◌, ◌-◌, ◌^◌, false, cond, Some, None, ◌==◌}
use Rattle.words.specs.declared.form.Form.TheVariants as form
use Rattle.words.specs.declared.access.Access.TheVariants.{Write}
use Rattle.words.specs.Access.{allowed}
use Rattle.words.specs.Points.{at}
use Rattle.words.specs.Layout.{page_of, block_of, offset_of, bucket_of}
use Rattle.words.specs.Reading.{translation, reading, answer_number}
use Rattle.words.specs.Blocks.{Mapping, StandsFor}

abbrev pub unmapped : Mapping
unmapped p = None

-- only the page 0x41 is mapped, to the frame f, with the attributes 3
abbrev pub single : ℕ → Mapping
single f = at unmapped 0x41 (Some (translation f 3))

-- the sixteen pages of the block 4 on the frames 0x1000 to 0x100F, with the attributes 3
abbrev pub whole : Mapping
whole p = cond (block_of p == 4) (Some (translation (0x1000 + offset_of p) 3)) None

-- then the page 0x41 gets the attributes 1, then 3 again, and then it is released
abbrev pub protected : Mapping
protected = at whole 0x41 (Some (translation 0x1001 1))

abbrev pub restored : Mapping
restored = at protected 0x41 (Some (translation 0x1001 3))

abbrev pub released : Mapping
released = at restored 0x41 None

pub record Examples : Type 0 where
  pub low_address : (page_of 0x41034 ≡ 0x41) × (block_of 0x41 ≡ 4) × (offset_of 0x41 ≡ 1) × (bucket_of 4 ≡ 4)
  pub top_page : page_of (2 ^ 64 - 1) ≡ 2 ^ 52 - 1
  pub top_block : block_of (page_of (2 ^ 64 - 1)) ≡ 2 ^ 48 - 1
  pub top_place : (offset_of (page_of (2 ^ 64 - 1)) ≡ 15) × (bucket_of (2 ^ 48 - 1) ≡ 62)
  pub placed_page : StandsFor (single 0x1001) 0x41 form.Compact 0x0002000001000003
  pub misplaced_page : StandsFor (single 0x1000) 0x41 form.Full 0x8000000001000003
  pub whole_block : StandsFor whole 0x41 form.Compact 0xFFFF000001000003
  pub one_protected : StandsFor protected 0x41 form.Full 0x8000000001001001
  pub no_write : allowed 1 Write ≡ false
  pub protected_back : StandsFor restored 0x41 form.Compact 0xFFFF000001000003
  pub one_released : StandsFor released 0x42 form.Compact 0xFFFD000001000003
  pub read_there : answer_number (reading 1 0x0002000001000003 1) ≡ 0x1001003
  pub read_absent : answer_number (reading 1 0x0002000001000003 2) ≡ 2 ^ 63 + 9
  pub no_offset_bit : (o : ℕ) → answer_number (reading 1 0x0000000001000003 o) ≡ 2 ^ 63 + 17
  pub no_top_bit : (o : ℕ) → answer_number (reading 2 0x0000000001000003 o) ≡ 2 ^ 63 + 17
  pub zero_words : (answer_number (reading 1 0 0) ≡ 2 ^ 63 + 17) × (answer_number (reading 2 0 0) ≡ 2 ^ 63 + 9)
  pub first_frame : answer_number (reading 2 0x8000000000000000 0) ≡ 0
  pub whole_numbers : answer_number (reading 257 0x0002000001000003 1) ≡ 2 ^ 63 + 17
