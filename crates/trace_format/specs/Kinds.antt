-- The tags of the records, and how long their payloads are.
use Rattle.std.specs.Prelude.{◌≢◌, ℕ}
use Rattle.trace_format.specs.declared.record.Kind.{Kind}
use Rattle.trace_format.specs.declared.record.Kind.TheVariants.{Populate, Release, Protect, Touch, Try, Census}

abbrev pub tag_of : Kind → ℕ
tag_of Populate = 1
tag_of Release = 2
tag_of Protect = 3
tag_of Touch = 4
tag_of Try = 5
tag_of Census = 6

-- an address has eight bytes, attributes two, an access one
abbrev pub payload_len : Kind → ℕ
payload_len Populate = 10
payload_len Release = 8
payload_len Protect = 10
payload_len Touch = 9
payload_len Try = 8
payload_len Census = 0

-- no record has this tag
abbrev pub IsUnknown : ℕ → Type 0
IsUnknown tag = (kind : Kind) → tag_of kind ≢ tag
