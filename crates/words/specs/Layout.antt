-- Where the parts of an address and of a mapping word stand, as quotients and remainders of plain numbers.
use Rattle.std.specs.Prelude.{◌≡◌, ℕ, ◌+◌, ◌*◌, ◌/◌, ◌%◌, ◌^◌, Bool, true, not, ◌&&◌, ◌||◌, ◌==◌, nat_lt}

-- a page has 4,096 bytes, a block sixteen pages
abbrev pub page_of : ℕ → ℕ
page_of address = address / 4096

abbrev pub block_of : ℕ → ℕ
block_of p = p / 16

abbrev pub offset_of : ℕ → ℕ
offset_of p = p % 16

-- which of the 64 chains of nodes of a page table a block belongs to
abbrev pub bucket_of : ℕ → ℕ
bucket_of b = (b + b / 64) % 64

-- the page at an offset of a block
abbrev pub page_at : ℕ → ℕ → ℕ
page_at b o = b * 16 + o

-- bit k of a number
abbrev pub bit : ℕ → ℕ → Bool
bit n k = n / 2 ^ k % 2 == 1

-- some offset is in both sets of offsets, given by their bits
abbrev pub Meet : ℕ → ℕ → Type 0
Meet os qs = (k : ℕ) × (bit os k ≡ true) × (bit qs k ≡ true)

-- a compact word has one bit for each offset from bit 48 on, the frame block from bit 16 on, the attributes from bit 0 on
abbrev pub compact_word : ℕ → ℕ → ℕ → ℕ
compact_word os k a = os * 2 ^ 48 + k * 2 ^ 16 + a

abbrev pub offsets_in : ℕ → ℕ
offsets_in w = w / 2 ^ 48

abbrev pub frame_block_in : ℕ → ℕ
frame_block_in w = w / 2 ^ 16 % 2 ^ 24

abbrev pub attributes_in : ℕ → ℕ
attributes_in w = w % 2 ^ 12

-- a compact word has an offset bit, and no bit besides its three parts
abbrev pub is_compact : ℕ → Bool
is_compact w = nat_lt 0 (offsets_in w) && w == compact_word (offsets_in w) (frame_block_in w) (attributes_in w)

-- the word v is w but for its offsets, which are those that the test has
pub record Offsets (w : ℕ) (has : ℕ → Bool) (v : ℕ) : Type 0 where
  pub each : (k : ℕ) → bit (offsets_in v) k ≡ has k
  pub rest : v % 2 ^ 48 ≡ w % 2 ^ 48

-- the offsets of the word w and those whose bits os has; 2 ^ o has just the bit of the offset o
abbrev pub plus : ℕ → ℕ → ℕ → Bool
plus w os k = bit (offsets_in w) k || bit os k

-- the offsets of the word w without those whose bits os has
abbrev pub minus : ℕ → ℕ → ℕ → Bool
minus w os k = bit (offsets_in w) k && not (bit os k)

-- parts that a compact word can have, where os has sixteen bits
abbrev pub are_parts : ℕ → ℕ → ℕ → Bool
are_parts os k a = nat_lt 0 os && (nat_lt k (2 ^ 24) && nat_lt a (2 ^ 12))

-- frames of the machine are below 2^28, attributes below 4,096
abbrev pub in_range : ℕ → ℕ → Bool
in_range f a = nat_lt f (2 ^ 28) && nat_lt a (2 ^ 12)

-- a full word has bit 63, the frame from bit 12 on, the attributes from bit 0 on
abbrev pub full_word : ℕ → ℕ → ℕ
full_word f a = 2 ^ 63 + f * 2 ^ 12 + a

abbrev pub frame_in : ℕ → ℕ
frame_in w = w / 2 ^ 12 % 2 ^ 28

-- a full word is empty, which is zero, or has no bit besides its three parts
abbrev pub is_full : ℕ → Bool
is_full w = w == 0 || w == full_word (frame_in w) (attributes_in w)
