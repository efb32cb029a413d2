-- The block of a node and what it holds, where it is not free.
use Rattle.std.specs.Prelude.{List, [], ◌∷◌, Some, None, Option}
use Rattle.std.specs.Option.{option_map}
use Rattle.words.specs.declared.address.Block.{Block}
use Rattle.chains.specs.declared.node.Body.{Body}
use Rattle.chains.specs.declared.node.Body.TheVariants as body
use Rattle.chains.specs.declared.node.Content.{Content}
use Rattle.chains.specs.declared.node.Content.TheVariants.{Free, Compact, Row}

abbrev pub content_body : Content → Option Body
content_body Free = None
content_body (Compact w) = Some (body.Compact w)
content_body (Row r) = Some (body.Row r)

pub record Node : Type 0 where
  pub block : Block
  pub content : Content

-- nodes, by the lists of their blocks and of their contents
abbrev pub paired : List Block → List Content → List Node
paired [] xs = []
paired (b ∷ bs) [] = []
paired (b ∷ bs) (x ∷ xs) = record { block = b; content = x } ∷ paired bs xs

abbrev pub body_in : Node → Option Body
body_in n = content_body n.content

-- the block of a node that is not free
abbrev pub owner_in : Node → Option Block
owner_in n = option_map (λ _. n.block) (body_in n)
