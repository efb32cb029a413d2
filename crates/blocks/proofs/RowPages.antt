-- What a row says of its pages.
use Rattle.std.proofs.Common.{option_and_then, Option, ◌≡◌, ℕ, zero, suc, ◌<◌, set, replicate, length, get_or, List, Some, None, sym, refl, ap, ◌∙◌, ⊎_elim}
use Rattle.std.proofs.lemmas.Option.{slice_get-get_or}
use Rattle.std.specs.List.{slice_get}
use Rattle.words.specs.declared.full.FullWord.{FullWord}
use Rattle.words.specs.declared.translation.Translation.{Translation}
use Rattle.words.specs.declared.form.Form.TheVariants as form
use Rattle.words.specs.Points.{at}
use Rattle.words.specs.Blocks.{page_word}
use Rattle.words.specs.Reading.{said}
use Rattle.words.proofs.Blocks.{full_says}
use Rattle.std.proofs.lemmas.Bool.{cases_eq}
use Rattle.chains.proofs.Held.{at_map, nth_at}
use Rattle.chains.proofs.Linking.{at_here, at_there}
use Rattle.blocks.specs.Shapes.{Pages}
use Rattle.blocks.specs.declared.row.Row.{Row}
use Rattle.blocks.specs.Rows.{full_page, pages_of, pages_in, row_pages}

-- the full word of a page
pub full_word_page : (w : FullWord) (x : Option Translation) → w.bits ≡ page_word x → full_page w ≡ x
full_word_page w x e = ap (λ v. said form.Full v 0) e ∙ full_says x 0

-- a word is written
pub row_set : (r : Row) (i : ℕ) (w : FullWord) (x : Option Translation) (o : ℕ) → i ≡ o → i < length r.words → w.bits ≡ page_word x → (λ k. option_and_then full_page (slice_get (set r.words i w) k)) ≡ at (pages_of r) o x
row_set r i w x o e l b =
    ap (λ f k. option_and_then full_page (f k)) (nth_at r.words i w l)
    ∙ at_map (option_and_then full_page) (slice_get r.words) i (Some w)
    ∙ ap (at (pages_of r) i) (full_word_page w x b)
    ∙ ap (λ j. at (pages_of r) j x) e

-- a row of empty words
pub blank_row : (w : FullWord) → w.bits ≡ 0 → (n k : ℕ) → option_and_then full_page (slice_get (replicate n w) k) ≡ None
blank_row w e zero k = refl
blank_row w e (suc n) zero = full_word_page w None e
blank_row w e (suc n) (suc k) = blank_row w e n k

-- the row of a pool
pub row_there : (rs : List Row) (i : ℕ) (d : Row) → i < length rs → row_pages rs i ≡ pages_of (get_or rs i d)
row_there rs i d l = ap pages_in (slice_get-get_or rs i d l)

pub rows_set : (rs : List Row) (i : ℕ) (r : Row) → i < length rs → row_pages (set rs i r) ≡ at (row_pages rs) i (pages_of r)
rows_set rs i r l = ap (λ f k. pages_in (f k)) (nth_at rs i r l) ∙ at_map pages_in (slice_get rs) i (Some r)

-- one word of a row is written
pub row_changed : (rs : List Row) (i : ℕ) (d r : Row) (n o : ℕ) (x : Option Translation) → i < length rs → i ≡ n → pages_of r ≡ at (pages_of (get_or rs i d)) o x
    → row_pages (set rs i r) ≡ at (row_pages rs) n (at (row_pages rs n) o x)
row_changed rs i d r n o x l e f =
    rows_set rs i r l ∙ ap (at (row_pages rs) i) (f ∙ ap (λ g. at g o x) (sym (row_there rs i d l))) ∙ ap (λ k. at (row_pages rs) k (at (row_pages rs k) o x)) e

-- the row of a word, with one page written
pub row_made : (f : Pages) (o : ℕ) (x : Option Translation) (a b : Row) → ((k : ℕ) → k < 16 → pages_of a k ≡ f k) → pages_of b ≡ at (pages_of a) o x → (k : ℕ) → k < 16 → pages_of b k ≡ at f o x k
row_made f o x a b e g k l = ap (λ h. h k) g ∙ ⊎_elim
    (λ i. at_here (pages_of a) o x k i ∙ sym (at_here f o x k i))
    (λ ne. at_there (pages_of a) o x k ne ∙ e k l ∙ sym (at_there f o x k ne))
    (cases_eq k o)
