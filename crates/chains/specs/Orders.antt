-- The order of blocks: for each bucket the list of its blocks.
use Rattle.std.specs.Prelude.{ℕ, ◌+◌, Bool, cond, List, [], ◌∷◌, ◌==◌, Some, None, Option}
use Rattle.std.specs.Option.{option_map}
use Rattle.words.specs.Layout.{bucket_of}
use Rattle.words.specs.Points.{at}
use Rattle.chains.specs.Links.{cut}

-- the blocks of each bucket, from the head of its chain on
abbrev pub Order : Type 0
Order = ℕ → List ℕ

-- no bucket has a block
abbrev pub no_order : Order
no_order k = []

-- the place of the block b in l, the first being 1
unfoldable pub place_in : ℕ → List ℕ → Option ℕ
place_in b [] = None
place_in b (x ∷ l) = cond (x == b) (Some 1) (option_map (λ n. n + 1) (place_in b l))

-- the place of the block b in its bucket
abbrev pub place_of : Order → ℕ → Option ℕ
place_of o b = place_in b (o (bucket_of b))

-- the block b comes to the front of its bucket
abbrev pub in_front : Order → ℕ → Order
in_front o b = at o (bucket_of b) (b ∷ o (bucket_of b))

-- the block b comes to the front of its bucket, unless it is there already
abbrev pub put_in : Bool → Order → ℕ → Order
put_in there o b = cond there o (in_front o b)

-- the block b is cut out of its bucket, and the others keep their order
abbrev pub cut_out : Order → ℕ → Order
cut_out o b = at o (bucket_of b) (cut b (o (bucket_of b)))
