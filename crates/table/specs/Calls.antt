-- What the calls of a page table make of the map from pages to translations and of the order of blocks, and what they refuse.
use Rattle.std.specs.Prelude.{◌≡◌, ℕ, ◌^◌, ◌<◌, List, [], ◌∷◌, Some, None}
use Rattle.std.specs.Option.{option_map}
use Rattle.words.specs.declared.translation.Translation.{Translation}
use Rattle.words.specs.Layout.{block_of}
use Rattle.words.specs.Points.{at}
use Rattle.words.specs.Reading.{translation}
use Rattle.words.specs.Blocks.{Mapping, IsMapped}
use Rattle.chains.specs.Counting.{Exactly}
use Rattle.chains.specs.Orders.{Order}
use Rattle.blocks.specs.Blocks.{UsedBlocks, RowedBlocks, NodesOut, RowsOut, reordered}

-- no page is mapped
abbrev pub unmapped : Mapping
unmapped p = None

-- the page p is mapped to t
abbrev pub mapped : Mapping → ℕ → Translation → Mapping
mapped m p t = at m p (Some t)

-- the page p keeps its frame, where it is mapped, and gets the attributes x
abbrev pub protected : Mapping → ℕ → ℕ → Mapping
protected m p x = at m p (option_map (λ t. translation t.frame x) (m p))

-- the page p is mapped to nothing
abbrev pub released : Mapping → ℕ → Mapping
released m p = at m p None

-- the order after the page p was mapped to t, and after it was unmapped
abbrev pub mapped_order : Mapping → ℕ → Translation → Order → Order
mapped_order m p t o = reordered m (mapped m p t) (block_of p) o

abbrev pub released_order : Mapping → ℕ → Order → Order
released_order m p o = reordered m (released m p) (block_of p) o

-- what is refused, in this order
abbrev pub map_refusals : Mapping → ℕ → Translation → List (Type 0 × ℕ)
map_refusals m p t = (IsMapped m p, 1) ∷ (NodesOut m (mapped m p t) (block_of p), 7) ∷ (RowsOut m (mapped m p t) (block_of p), 8) ∷ []

abbrev pub mapped_refusals : Mapping → ℕ → List (Type 0 × ℕ)
mapped_refusals m p = (m p ≡ None, 9) ∷ []

abbrev pub protect_refusals : Mapping → ℕ → ℕ → List (Type 0 × ℕ)
protect_refusals m p x = (4095 < x, 5) ∷ (m p ≡ None, 9) ∷ (RowsOut m (protected m p x) (block_of p), 8) ∷ []

-- exactly n pages are mapped
abbrev pub MappedPages : Mapping → ℕ → Type 0
MappedPages m n = Exactly n (2 ^ 52) (IsMapped m)

-- a census: the blocks with a mapped page, those of them that have a row, and the mapped pages
pub record Counts (m : Mapping) (nodes rows pages : ℕ) : Type 0 where
  pub nodes_used : UsedBlocks m nodes
  pub rows_used : RowedBlocks m rows
  pub pages_mapped : MappedPages m pages
