-- What the pages of a block are mapped to, by their offsets, and the form that they can have.
use Rattle.std.specs.Prelude.{◌≡◌, ℕ, ◌<◌, Some, None, Option}
use Rattle.words.specs.declared.compact.CompactWord.{CompactWord}
use Rattle.words.specs.declared.translation.Translation.{Translation}
use Rattle.words.specs.declared.form.Form.TheVariants as form
use Rattle.words.specs.Layout.{block_of, offset_of}
use Rattle.words.specs.Reading.{said}
use Rattle.blocks.specs.declared.shape.Shape.{Shape}
use Rattle.blocks.specs.declared.shape.Shape.TheVariants.{Empty, Compact, Mixed}

-- what the page at each offset of a block is mapped to
abbrev pub Pages : Type 0
Pages = ℕ → Option Translation

-- the pages that a compact word speaks of
abbrev pub word_pages : Option CompactWord → Pages
word_pages (Some w) o = said form.Compact w.bits o
word_pages None o = None

-- the pages are all properly placed in the frame block k, and have the attributes a
abbrev pub InPlace : Pages → ℕ → ℕ → Type 0
InPlace f k a = (o : ℕ) (t : Translation) → o < 16 → f o ≡ Some t → (offset_of t.frame ≡ o) × (block_of t.frame ≡ k) × (t.attributes ≡ a)

-- the pages f have the shape s: there is none, a compact word says what they are, or none can
abbrev pub Shapes : Shape → Pages → Type 0
Shapes Empty f = (o : ℕ) → o < 16 → f o ≡ None
Shapes (Compact w) f = (o : ℕ) → o < 16 → f o ≡ said form.Compact w.bits o
Shapes Mixed f = (k a : ℕ) → InPlace f k a → ⊥
