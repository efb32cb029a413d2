-- The values of the word types, as numbers.
use Rattle.std.specs.Prelude.{ℕ}
use Rattle.words.specs.declared.form.Form.{Form}
use Rattle.words.specs.declared.form.Form.TheVariants as form
use Rattle.words.specs.declared.word.Word.{Word}
use Rattle.words.specs.declared.word.Word.TheVariants.{Compact, Full}

abbrev pub form_of : Word → Form
form_of (Compact w) = form.Compact
form_of (Full w) = form.Full

abbrev pub bits_of : Word → ℕ
bits_of (Compact w) = w.bits
bits_of (Full w) = w.bits
