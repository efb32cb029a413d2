-- What the pages of a row are mapped to.
use Rattle.std.specs.Prelude.{ℕ, List, Some, None, Option, option_and_then, count_by, ◌==◌}
use Rattle.std.specs.List.{slice_get}
use Rattle.words.specs.declared.full.FullWord.{FullWord}
use Rattle.words.specs.declared.translation.Translation.{Translation}
use Rattle.words.specs.declared.form.Form.TheVariants as form
use Rattle.words.specs.Reading.{said}
use Rattle.chains.specs.declared.node.RowNumber.{RowNumber}
use Rattle.blocks.specs.declared.row.Row.{Row}
use Rattle.blocks.specs.Shapes.{Pages}

-- the page of a full word
abbrev pub full_page : FullWord → Option Translation
full_page w = said form.Full w.bits 0

abbrev pub pages_of : Row → Pages
pages_of r o = option_and_then full_page (slice_get r.words o)

-- what the pages of a row of a pool are mapped to, by the row's number
abbrev pub pages_in : Option Row → Pages
pages_in (Some r) o = pages_of r o
pages_in None o = None

abbrev pub row_pages : List Row → ℕ → Pages
row_pages rs i = pages_in (slice_get rs i)

-- how often the row i is in a list
abbrev pub occurs : ℕ → List RowNumber → ℕ
occurs i = count_by (λ r. r.number == i)
