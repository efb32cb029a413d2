-- What is held of each block.
use Rattle.std.specs.Prelude.{◌≡◌, ℕ, ◌^◌, ◌≤◌, ◌&&◌, ◌==◌, List, [], ◌∷◌, is_some, Some, None, Option, MatchOption, option_and_then, slice_index_or}
use Rattle.std.specs.Option.{option_map}
use Rattle.std.specs.List.{slice_get, filter_map}
use Rattle.words.specs.Layout.{bucket_of}
use Rattle.words.specs.Points.{at}
use Rattle.chains.specs.Counting.{how_many}
use Rattle.chains.specs.Orders.{Order, place_of}
use Rattle.chains.specs.declared.chains.Chains.{Chains}
use Rattle.chains.specs.declared.node.Body.{Body}
use Rattle.chains.specs.declared.node.Found.{Found}
use Rattle.chains.specs.declared.node.Way.{Way}
use Rattle.chains.specs.Contents.{Node, paired, body_in}
use Rattle.chains.specs.Nodes.{link_at, block_at, owner, home_at, chain_from, node_for, IsPlace}

-- the nodes
abbrev pub nodes_of : Chains → List Node
nodes_of c = paired c.blocks c.contents

-- the node of the block, or 256
abbrev pub node_of : Chains → ℕ → ℕ
node_of c b = node_for (link_at c.links) (block_at (nodes_of c)) b

-- what the node i holds, where it is not free
abbrev pub body_at : Chains → ℕ → Option Body
body_at c i = option_and_then body_in (slice_get (nodes_of c) i)

-- what is held of the block
abbrev pub body_of : Chains → ℕ → Option Body
body_of c b = body_at c (node_of c b)

-- the block of a node, where it is linked
abbrev pub block_of_node : Chains → ℕ → Option ℕ
block_of_node c i = option_map (λ b. b.number) (owner (nodes_of c) i)

-- the blocks of the bucket k in the order of their nodes, from the head of the chain on
abbrev pub order : Chains → Order
order c k = filter_map (block_of_node c) (chain_from (link_at c.links) k)

-- the block b has no node, and so no place
abbrev pub Absent : Chains → ℕ → Type 0
Absent c b = (body_of c b ≡ None) × (place_of (order c) b ≡ None)

-- how many nodes are on the chain of the bucket k: as many as blocks of that bucket have a node
abbrev pub nodes_in : Chains → ℕ → ℕ
nodes_in c k = how_many (λ b. is_some (body_of c b) && bucket_of b == k) (2 ^ 48)

-- the block's node was found: as many nodes were looked at as the block's place says, and so at most those of its chain
pub record Finds (c : Chains) (b : ℕ) (f : Found) : Type 0 where
  pub node : node_of c b ≡ f.node
  pub block : block_of_node c f.node ≡ Some b
  pub place : place_of (order c) b ≡ Some f.looked
  pub some : 1 ≤ f.looked
  pub most : f.looked ≤ nodes_in c (bucket_of b)

-- the block's node was found, and a place of its chain whose link leads to it
pub record Leads (c : Chains) (b : ℕ) (w : Way) : Type 0 where
  pub found : Finds c b w.found
  pub place : IsPlace (home_at (nodes_of c)) (bucket_of b) w.place
  pub link : slice_index_or c.links w.place None ≡ Some w.found.node

-- the block b has the body y now, and every other block what it had
abbrev pub Puts : Chains → ℕ → Option Body → Chains → Type 0
Puts c b y d = body_of d ≡ at (body_of c) b y

-- a body was written on a node: that of its block, where it is linked; nothing else
abbrev pub Writes : Chains → ℕ → Body → Chains → Type 0
Writes c i y d = MatchOption (block_of_node c i) (body_of d ≡ body_of c) (λ b. Puts c b (Some y) d)

-- how many nodes are linked: exactly as many as there are blocks with one
abbrev pub Nodes : Chains → ℕ → Type 0
Nodes c n = n ≡ how_many (λ b. is_some (body_of c b)) (2 ^ 48)

-- what an insertion of the block b refuses
abbrev pub insert_refusals : Chains → ℕ → List (Type 0 × ℕ)
insert_refusals c b = ((body_of c b ≡ None) × Nodes c 256, 7) ∷ []
