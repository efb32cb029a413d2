-- A map from pages to translations, by its blocks of sixteen pages, and the words that stand for its pages.
use Rattle.std.specs.Prelude.{◌≡◌, ℕ, zero, suc, ◌+◌, ◌^◌, ◌<◌, cond, is_some, Some, None, Option}
use Rattle.words.specs.declared.translation.Translation.{Translation}
use Rattle.words.specs.declared.form.Form.{Form}
use Rattle.words.specs.declared.form.Form.TheVariants as form
use Rattle.words.specs.Layout.{block_of, offset_of, page_at, compact_word, full_word}

-- what each page is mapped to
abbrev pub Mapping : Type 0
Mapping = ℕ → Option Translation

abbrev pub IsMapped : Mapping → ℕ → Type 0
IsMapped m p = (t : Translation) × (m p ≡ Some t)

-- the block b has a mapped page
abbrev pub Used : Mapping → ℕ → Type 0
Used m b = (o : ℕ) × (o < 16) × IsMapped m (page_at b o)

-- the mapped pages of the block b are all properly placed in the frame block k, and have the attributes a
abbrev pub Placed : Mapping → ℕ → ℕ → ℕ → Type 0
Placed m b k a = (o : ℕ) (t : Translation) → o < 16 → m (page_at b o) ≡ Some t → (offset_of t.frame ≡ o) × (block_of t.frame ≡ k) × (t.attributes ≡ a)

abbrev pub Compact : Mapping → ℕ → Type 0
Compact m b = (k : ℕ) × (a : ℕ) × Placed m b k a

-- one bit for each mapped page among the first n of the block b
abbrev pub mapped_offsets : Mapping → ℕ → ℕ → ℕ
mapped_offsets m b zero = 0
mapped_offsets m b (suc o) = mapped_offsets m b o + cond (is_some (m (page_at b o))) (2 ^ o) 0

-- the word of the block b, which is compact and has a mapped page
abbrev pub BlockWord : Mapping → ℕ → ℕ → Type 0
BlockWord m b w = Used m b × ((k : ℕ) × (a : ℕ) × Placed m b k a × (w ≡ compact_word (mapped_offsets m b 16) k a))

-- the full word of a page
abbrev pub page_word : Option Translation → ℕ
page_word (Some t) = full_word t.frame t.attributes
page_word None = 0

-- the form and the word that stand for the page p: those of its block where that is compact, else those of the page itself
abbrev pub StandsFor : Mapping → ℕ → Form → ℕ → Type 0
StandsFor m p form.Compact w = BlockWord m (block_of p) w
StandsFor m p form.Full w = (Compact m (block_of p) → ⊥) × (w ≡ page_word (m p))
