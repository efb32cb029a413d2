-- The block of a node, where it has one.
use Rattle.std.specs.Prelude.{ℕ, Some, None, Option}
use Rattle.words.specs.declared.address.Block.{Block}

-- a block as a number: 0 where there is none
abbrev pub block_number : Option Block → ℕ
block_number (Some b) = b.number
block_number None = 0
