-- What is held of the pages and in which order, and what a change of one page makes of it.
use Rattle.std.specs.Prelude.{◌≡◌, ℕ, zero, suc, ◌^◌, ◌≤◌, Bool, false, cond, ◌||◌, List, [], ◌∷◌, is_some, Option}
use Rattle.words.specs.declared.translation.Translation.{Translation}
use Rattle.words.specs.Layout.{block_of, offset_of, page_at, bucket_of}
use Rattle.words.specs.Points.{at}
use Rattle.words.specs.Reading.{form_number, answer_of, reading}
use Rattle.words.specs.Words.{form_of, bits_of}
use Rattle.words.specs.Blocks.{Mapping, IsMapped, Used, Compact, StandsFor}
use Rattle.chains.specs.Chains as chains
use Rattle.chains.specs.Counting.{Exactly}
use Rattle.chains.specs.Orders.{Order, put_in, cut_out}
use Rattle.blocks.specs.declared.blocks.Blocks.{Blocks}
use Rattle.blocks.specs.declared.blocks.Walked.{Walked}
use Rattle.blocks.specs.Held.{held_in}

-- what each page is mapped to
abbrev pub held : Blocks → Mapping
held t = held_in t.chains t.rows.rows

-- the blocks of each bucket that have a mapped page, in the order of their chain
abbrev pub order : Blocks → Order
order t = chains.order t.chains

-- the block b has mapped pages that no compact word can have, so it needs a row
abbrev pub Rowed : Mapping → ℕ → Type 0
Rowed m b = Used m b × (Compact m b → ⊥)

-- exactly n blocks have a mapped page
abbrev pub UsedBlocks : Mapping → ℕ → Type 0
UsedBlocks m n = Exactly n (2 ^ 48) (Used m)

-- exactly n blocks need a row
abbrev pub RowedBlocks : Mapping → ℕ → Type 0
RowedBlocks m n = Exactly n (2 ^ 48) (Rowed m)

-- exactly n blocks of the bucket k have a mapped page
abbrev pub UsedIn : Mapping → ℕ → ℕ → Type 0
UsedIn m k n = Exactly n (2 ^ 48) (λ b. Used m b × (bucket_of b ≡ k))

-- the page p is mapped, the word stands for it, and the word reader answers from it what the page is mapped to; at most as many nodes were
-- looked at as blocks of its bucket have a mapped page
pub record Walks (m : Mapping) (p : ℕ) (w : Walked) : Type 0 where
  pub mapped : IsMapped m p
  pub word : StandsFor m p (form_of w.word) (bits_of w.word)
  pub reads : reading (form_number (form_of w.word)) (bits_of w.word) (offset_of p) ≡ answer_of (m p)
  pub some : 1 ≤ w.looked
  pub most : (n : ℕ) × UsedIn m (bucket_of (block_of p)) n × (w.looked ≤ n)

-- the block b would have its first mapped page, and 256 blocks have one already
abbrev pub NodesOut : Mapping → Mapping → ℕ → Type 0
NodesOut m n b = Used n b × (Used m b → ⊥) × UsedBlocks m 256

-- the block b would need a row and needs none yet, and 128 blocks need one already
abbrev pub RowsOut : Mapping → Mapping → ℕ → Type 0
RowsOut m n b = Rowed n b × (Rowed m b → ⊥) × RowedBlocks m 128

-- what is refused where the page p of m is to be mapped to x, in this order
abbrev pub set_refusals : Mapping → ℕ → Option Translation → List (Type 0 × ℕ)
set_refusals m p x = (NodesOut m (at m p x) (block_of p), 7) ∷ (RowsOut m (at m p x) (block_of p), 8) ∷ []

-- one of the first n pages of the block b is mapped
unfoldable pub some_mapped : Mapping → ℕ → ℕ → Bool
some_mapped m b zero = false
some_mapped m b (suc o) = is_some (m (page_at b o)) || some_mapped m b o

-- the block b has a mapped page
abbrev pub is_used : Mapping → ℕ → Bool
is_used m b = some_mapped m b 16

-- the order o of m once m is n, which differ in pages of the block b alone: the block comes to the front of its bucket with its first page,
-- and is cut out with its last
abbrev pub reordered : Mapping → Mapping → ℕ → Order → Order
reordered m n b o = cond (is_used n b) (put_in (is_used m b) o b) (cut_out o b)

-- s became t, which differ in pages of the block b alone: what that makes of the order
abbrev pub Reorders : Blocks → ℕ → Blocks → Type 0
Reorders s b t = order t ≡ reordered (held s) (held t) b (order s)
