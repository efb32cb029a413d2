-- What the word reader tells of a map, and what the words are.
use Rattle.std.specs.Prelude.{◌≡◌, ℕ, ◌^◌, ◌<◌, Err, ◌≢◌}
use Rattle.words.specs.declared.fault.ReadFault.TheVariants.{BadWord}
use Rattle.words.specs.declared.form.Form.{Form}
use Rattle.words.specs.declared.form.Form.TheVariants as form
use Rattle.words.specs.declared.word.Word.{Word}
use Rattle.words.specs.Layout.{block_of, offset_of, page_at}
use Rattle.words.specs.Reading.{form_number, reading, answer_of, answer_number}
use Rattle.words.specs.Words.{form_of, bits_of}
use Rattle.words.specs.Blocks.{Mapping, BlockWord, StandsFor}

-- the reader's answer r at a form f, a word w and an offset o, whatever map and page the form and the word stand for
pub record Tells (f w o r : ℕ) : Type 0 where
  -- at the page's own offset the answer is what the map has for the page
  pub own : (m : Mapping) (p : ℕ) (g : Form) → form_number g ≡ f → StandsFor m p g w → offset_of p ≡ o → r ≡ answer_number (answer_of (m p))
  -- a compact word answers so for each page of the block
  pub neighbours : (m : Mapping) (p : ℕ) → form_number form.Compact ≡ f → StandsFor m p form.Compact w → o < 16 → r ≡ answer_number (answer_of (m (page_at (block_of p) o)))

-- the reader takes w for a word of the form f
abbrev pub Accepts : ℕ → ℕ → Type 0
Accepts f w = (o : ℕ) → o < 16 → reading f w o ≢ Err BadWord

-- the value v of the word types has the form f and the bits w
abbrev pub IsValue : Word → ℕ → ℕ → Type 0
IsValue v f w = (form_number (form_of v) ≡ f) × (bits_of v ≡ w)

-- the words that the reader accepts are the values of the word types, all of them and no others
pub record AcceptedAreValues : Type 0 where
  pub accepted : (f w : ℕ) → w < 2 ^ 64 → Accepts f w → (v : Word) × IsValue v f w
  pub values : (v : Word) → Accepts (form_number (form_of v)) (bits_of v)

-- at most one form and word stand for a page
abbrev pub OneWord : Type 0
OneWord = (m : Mapping) (p : ℕ) (g h : Form) (w v : ℕ) → StandsFor m p g w → StandsFor m p h v → (g ≡ h) × (w ≡ v)

-- two maps that give a compact block the same word agree on its pages
abbrev pub SameWordSamePages : Type 0
SameWordSamePages = (m n : Mapping) (b w : ℕ) → BlockWord m b w → BlockWord n b w → (o : ℕ) → o < 16 → m (page_at b o) ≡ n (page_at b o)
