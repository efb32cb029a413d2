-- What chains of nodes and a pool of rows hold of each block and page.
use Rattle.std.specs.Prelude.{◌≡◌, ℕ, ◌^◌, Bool, true, List, Some, None, Option, ◌==◌, nat_lt}
use Rattle.std.specs.Option.{option_map}
use Rattle.words.specs.declared.compact.CompactWord.{CompactWord}
use Rattle.words.specs.Layout.{block_of, offset_of}
use Rattle.words.specs.Blocks.{Mapping}
use Rattle.chains.specs.declared.chains.Chains.{Chains}
use Rattle.chains.specs.declared.node.Body.{Body}
use Rattle.chains.specs.declared.node.Body.TheVariants as body
use Rattle.chains.specs.Chains.{body_of, block_of_node}
use Rattle.chains.specs.Counting.{how_many}
use Rattle.blocks.specs.declared.row.Row.{Row}
use Rattle.blocks.specs.Rows.{row_pages}
use Rattle.blocks.specs.Shapes.{Pages, word_pages}

-- the row of a body, or 128 where it has none
abbrev pub row_in : Option Body → ℕ
row_in (Some (body.Row r)) = r.number
row_in (Some (body.Compact w)) = 128
row_in None = 128

-- the pages of a body
abbrev pub body_pages : (ℕ → Pages) → Option Body → Pages
body_pages rows (Some (body.Row r)) o = rows r.number o
body_pages rows (Some (body.Compact w)) o = word_pages (Some w) o
body_pages rows None o = None

-- the word of a body has 64 bits
abbrev pub is_narrow : Option Body → Bool
is_narrow (Some (body.Compact w)) = nat_lt w.bits (2 ^ 64)
is_narrow (Some (body.Row r)) = true
is_narrow None = true

abbrev pub has_row : Chains → ℕ → Bool
has_row c b = nat_lt (row_in (body_of c b)) 128

-- how many blocks have the row i
abbrev pub owners : Chains → ℕ → ℕ
owners c i = how_many (λ b. row_in (body_of c b) == i) (2 ^ 48)

-- the pages of the block b
abbrev pub block_pages : Chains → List Row → ℕ → Pages
block_pages c rs b = body_pages (row_pages rs) (body_of c b)

-- what each page is mapped to
abbrev pub held_in : Chains → List Row → Mapping
held_in c rs p = block_pages c rs (block_of p) (offset_of p)

-- the body of pages that are in a word, or of none
abbrev pub word_body : Option CompactWord → Option Body
word_body w = option_map body.Compact w

-- the node has the block b, and that body
abbrev pub HasNode : Chains → ℕ → ℕ × Body → Type 0
HasNode c b (i, y) = (block_of_node c i ≡ Some b) × (body_of c b ≡ Some y)
