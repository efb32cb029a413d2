-- Records as bytes.
use Rattle.std.specs.Prelude.{◌≡◌, ◌≢◌, ℕ, ◌+◌, ◌*◌, ◌^◌, ◌<◌, List, [], ◌∷◌, ◌++◌, length, drop}
use Rattle.std.specs.Int.{to_be_bytes, w16, w64}
use Rattle.trace_format.specs.declared.record.Kind.{Kind}
use Rattle.trace_format.specs.declared.record.Kind.TheVariants as kind
use Rattle.trace_format.specs.declared.record.Record.{Record}
use Rattle.trace_format.specs.declared.record.Record.TheVariants.{Populate, Release, Protect, Touch, Try, Census}
use Rattle.trace_format.specs.declared.fault.Trouble.{Trouble}
use Rattle.trace_format.specs.declared.fault.Trouble.TheVariants.{Cut, UnknownTag, WrongLength}
use Rattle.trace_format.specs.Kinds.{tag_of, payload_len, IsUnknown}

abbrev pub kind_of : Record → Kind
kind_of (Populate address attributes) = kind.Populate
kind_of (Release address) = kind.Release
kind_of (Protect address attributes) = kind.Protect
kind_of (Touch address access) = kind.Touch
kind_of (Try address) = kind.Try
kind_of Census = kind.Census

-- the numbers of a record, high byte first
abbrev pub payload_of : Record → List ℕ
payload_of (Populate address attributes) = to_be_bytes w64 address ++ to_be_bytes w16 attributes
payload_of (Release address) = to_be_bytes w64 address
payload_of (Protect address attributes) = to_be_bytes w64 address ++ to_be_bytes w16 attributes
payload_of (Touch address access) = to_be_bytes w64 address ++ access ∷ []
payload_of (Try address) = to_be_bytes w64 address
payload_of Census = []

-- the numbers of a record fit their widths
abbrev pub Fits : Record → Type 0
Fits (Populate address attributes) = (address < 2 ^ 64) × (attributes < 2 ^ 16)
Fits (Release address) = address < 2 ^ 64
Fits (Protect address attributes) = (address < 2 ^ 64) × (attributes < 2 ^ 16)
Fits (Touch address access) = (address < 2 ^ 64) × (access < 2 ^ 8)
Fits (Try address) = address < 2 ^ 64
Fits Census = Unit {0}

abbrev pub AllFit : List Record → Type 0
AllFit [] = Unit {0}
AllFit (first ∷ others) = Fits first × AllFit others

-- a tag, a length in two bytes, high byte first, and a payload
abbrev pub framed : Kind → List ℕ → List ℕ
framed kind payload = tag_of kind ∷ 0 ∷ payload_len kind ∷ payload

-- records, one after another
abbrev pub spelled : List Record → List ℕ
spelled [] = []
spelled (first ∷ others) = framed (kind_of first) (payload_of first) ++ spelled others

-- the bytes begin with a record of this kind and payload
pub record Begins (bytes : List ℕ) (kind : Kind) (payload : List ℕ) : Type 0 where
  pub long : length payload ≡ payload_len kind
  pub whole : bytes ≡ framed kind payload ++ drop (3 + length payload) bytes

-- why no record stands at the front of these bytes, of which there are some: the first that applies of a head that is cut, an unknown tag, a
-- wrong length, a payload that is cut
abbrev pub Broken : List ℕ → Trouble → Type 0
Broken (tag ∷ high ∷ low ∷ rest) UnknownTag = IsUnknown tag
Broken (tag ∷ high ∷ low ∷ rest) WrongLength = (kind : Kind) × (tag_of kind ≡ tag) × (high * 256 + low ≢ payload_len kind)
Broken (tag ∷ high ∷ low ∷ rest) Cut =
    (kind : Kind) × (tag_of kind ≡ tag) × (high * 256 + low ≡ payload_len kind) × (length rest < payload_len kind)
Broken (tag ∷ high ∷ []) trouble = trouble ≡ Cut
Broken (tag ∷ []) trouble = trouble ≡ Cut
Broken [] trouble = ⊥
