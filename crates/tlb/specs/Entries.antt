-- What an entry says of each page.
use Rattle.std.specs.Prelude.{ℕ, ◌^◌, Bool, cond, None, Option, ◌==◌}
use Rattle.std.specs.Result.{result_ok}
use Rattle.words.specs.declared.translation.Translation.{Translation}
use Rattle.words.specs.declared.form.Form.{Form}
use Rattle.words.specs.declared.form.Form.TheVariants as form
use Rattle.words.specs.Layout.{block_of, offset_of, offsets_in}
use Rattle.words.specs.Reading.{form_number, reading}
use Rattle.words.specs.Words.{form_of, bits_of}
use Rattle.tlb.specs.declared.entry.Entry.{Entry}

-- the pages that a word of a form at the page p may speak of: the block of p, or p alone
abbrev pub reaches : Form → ℕ → ℕ → Bool
reaches form.Compact p q = block_of q == block_of p
reaches form.Full p q = q == p

-- what the word reader finds for the page q in the entry's word
abbrev pub entry_says : Entry → ℕ → Option Translation
entry_says e q = cond (reaches (form_of e.word) e.page.number q) (result_ok (reading (form_number (form_of e.word)) (bits_of e.word) (offset_of q))) None

-- the offsets of a word of a form at the page p, one bit each: those of a compact word, or that of p
abbrev pub word_offsets : Form → ℕ → ℕ → ℕ
word_offsets form.Compact p w = offsets_in w
word_offsets form.Full p w = 2 ^ offset_of p

abbrev pub entry_offsets : Entry → ℕ
entry_offsets e = word_offsets (form_of e.word) e.page.number (bits_of e.word)
