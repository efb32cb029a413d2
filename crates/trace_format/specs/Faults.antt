-- The numbers of what is refused, and what is written of it.
use Rattle.std.specs.Prelude.{ℕ, List, ◌++◌, codes, decimal}
use Rattle.trace_format.specs.declared.fault.Trouble.{Trouble}
use Rattle.trace_format.specs.declared.fault.Trouble.TheVariants.{Cut, UnknownTag, WrongLength}
use Rattle.trace_format.specs.declared.fault.Fault.{Fault}

abbrev pub trouble_number : Trouble → ℕ
trouble_number Cut = 13
trouble_number UnknownTag = 14
trouble_number WrongLength = 15

abbrev pub short_buffer_number : ℕ
short_buffer_number = 16

abbrev pub trouble_reason : Trouble → List ℕ
trouble_reason Cut = codes "the record is cut short"
trouble_reason UnknownTag = codes "no record has this tag"
trouble_reason WrongLength = codes "no payload of such a record has this length"

abbrev pub fault_text : Fault → List ℕ
fault_text fault = trouble_reason fault.trouble ++ codes ", at byte " ++ decimal fault.place

abbrev pub short_buffer_reason : List ℕ
short_buffer_reason = codes "the buffer is shorter than 64 bytes"
