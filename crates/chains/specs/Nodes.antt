-- The links and the blocks of 256 nodes, as functions; which nodes are on which chain.
use Rattle.std.specs.Prelude.{◌≡◌, ℕ, ◌+◌, ◌<◌, ◌≤◌, Bool, true, cond, ◌⊎◌, List, Some, None, Option, is_some, nat_lt, option_and_then, slice_index_or}
use Rattle.std.specs.List.{slice_get}
use Rattle.words.specs.declared.address.Block.{Block}
use Rattle.words.specs.Layout.{bucket_of}
use Rattle.chains.specs.Contents.{Node, owner_in}
use Rattle.chains.specs.Blocks.{block_number}
use Rattle.chains.specs.Links.{walk, chained, node_with, no_twice, on}

-- a link as a number: 256 where there is no next node
abbrev pub link_number : Option ℕ → ℕ
link_number (Some i) = i
link_number None = 256

abbrev pub link_at : List (Option ℕ) → ℕ → ℕ
link_at ls i = link_number (slice_index_or ls i None)

-- the link l of the place i while every node is free: all nodes are on the chain of the free ones, by their numbers, and every other
-- chain is empty
pub record FreeLink (i : ℕ) (l : Option ℕ) : Type 0 where
  pub first : i ≡ 320 → link_number l ≡ 0
  pub next : i < 256 → link_number l ≡ i + 1
  pub empty : 256 ≤ i → i < 320 → link_number l ≡ 256

abbrev pub AllFree : List (Option ℕ) → Type 0
AllFree ls = (i : ℕ) → i < 321 → FreeLink i (slice_index_or ls i None)

-- the block of a node, which one that is linked has
abbrev pub owner : List Node → ℕ → Option Block
owner ns i = option_and_then owner_in (slice_get ns i)

abbrev pub is_linked : List Node → ℕ → Bool
is_linked ns i = is_some (owner ns i)

abbrev pub block_at : List Node → ℕ → ℕ
block_at ns i = block_number (owner ns i)

-- the chain that a node belongs to: that of its block's bucket, or 64, that of the free nodes
abbrev pub home_of : (ℕ → ℕ) → (ℕ → Bool) → ℕ → ℕ
home_of block linked i = cond (linked i) (bucket_of (block i)) 64

-- the nodes of the chain b
abbrev pub chain_from : (ℕ → ℕ) → ℕ → List ℕ
chain_from next b = walk next 256 (next (256 + b))

-- every chain holds together
abbrev pub Holds : (ℕ → ℕ) → (ℕ → ℕ) → Type 0
Holds next home = (b : ℕ) → b < 65 → chained next home b (next (256 + b)) (chain_from next b) ≡ true

-- no block is on its chain twice
abbrev pub NoTwice : (ℕ → ℕ) → (ℕ → ℕ) → Type 0
NoTwice next block = (b : ℕ) → b < 64 → no_twice block (chain_from next b) ≡ true

-- no node is lost: each is on its chain
abbrev pub NoneLost : (ℕ → ℕ) → (ℕ → ℕ) → Type 0
NoneLost next home = (i : ℕ) → i < 256 → on i (chain_from next (home i)) ≡ true

-- the place q is the head of the chain b, or a node of it
abbrev pub IsPlace : (ℕ → ℕ) → ℕ → ℕ → Type 0
IsPlace home b q = (q ≡ 256 + b) ⊎ ((q < 256) × (home q ≡ b))

-- the node of the block b, or 256
abbrev pub node_for : (ℕ → ℕ) → (ℕ → ℕ) → ℕ → ℕ
node_for next block b = node_with block b (chain_from next (bucket_of b))

-- the chain that a node belongs to
abbrev pub home_at : List Node → ℕ → ℕ
home_at ns = home_of (block_at ns) (is_linked ns)

abbrev pub Sound : List (Option ℕ) → List Node → Type 0
Sound ls ns = Holds (link_at ls) (home_at ns)

abbrev pub Single : List (Option ℕ) → List Node → Type 0
Single ls ns = NoTwice (link_at ls) (block_at ns)

abbrev pub Kept : List (Option ℕ) → List Node → Type 0
Kept ls ns = NoneLost (link_at ls) (home_at ns)

-- the block b has a node
abbrev pub is_held : List (Option ℕ) → List Node → ℕ → Bool
is_held ls ns b = nat_lt (node_for (link_at ls) (block_at ns) b) 256
