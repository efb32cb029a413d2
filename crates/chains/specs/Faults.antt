-- The number of the refusal, and what is written of it.
use Rattle.std.specs.Prelude.{ℕ, List, codes}

-- no node is left for a block that has none
abbrev pub no_node_number : ℕ
no_node_number = 7

abbrev pub no_node_left : List ℕ
no_node_left = codes "all nodes are linked"
