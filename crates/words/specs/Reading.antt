-- What a mapping word says of the pages of its block.
use Rattle.std.specs.Prelude.{◌≡◌, ℕ, ◌+◌, ◌*◌, ◌%◌, ◌^◌, Bool, cond, ◌&&◌, Some, None, Ok, Err, MatchResult, Option, Result, ◌≢◌, ◌==◌, nat_le}
use Rattle.std.proofs.Common.{mod-lt, lit<}
use Rattle.words.specs.declared.translation.Translation.{Translation}
use Rattle.words.specs.declared.fault.BadNumber.{BadNumber}
use Rattle.words.specs.declared.fault.ReadFault.{ReadFault}
use Rattle.words.specs.declared.fault.ReadFault.TheVariants.{BadWord, NotMapped}
use Rattle.words.specs.declared.form.Form.{Form}
use Rattle.words.specs.declared.form.Form.TheVariants as form
use Rattle.words.specs.Faults.{read_fault_number}
use Rattle.words.specs.Layout.{offset_of, bit, offsets_in, frame_block_in, attributes_in, frame_in, is_compact, is_full}

abbrev pub form_number : Form → ℕ
form_number form.Compact = 1
form_number form.Full = 2

-- the form of a number, where there is one
abbrev pub NumbersForm : ℕ → Result Form BadNumber → Type 0
NumbersForm n r = MatchResult r (λ f. form_number f ≡ n) (λ _. (f : Form) → form_number f ≢ n)

abbrev pub is_word : Form → ℕ → Bool
is_word form.Compact w = is_compact w
is_word form.Full w = is_full w

-- the frame f with the attributes a: a number past the machine's range is taken within it
abbrev pub translation : ℕ → ℕ → Translation
translation f a = record { frame = f % 2 ^ 28; attributes = a % 2 ^ 12; frames = mod-lt f (lit< tt); bits = mod-lt a (lit< tt) }

-- a page at the offset o is properly placed when its frame has the same offset in its frame block
abbrev pub is_placed : ℕ → Translation → Bool
is_placed o t = offset_of t.frame == o

-- what a word says of the page at an offset: a full word says the same at each
abbrev pub said : Form → ℕ → ℕ → Option Translation
said form.Compact w o = cond (bit (offsets_in w) o) (Some (translation (frame_block_in w * 16 + o) (attributes_in w))) None
said form.Full w o = cond (w == 0) None (Some (translation (frame_in w) (attributes_in w)))

-- what a word says as an answer: a page that is not in it is not mapped
abbrev pub answer_of : Option Translation → Result Translation ReadFault
answer_of (Some t) = Ok t
answer_of None = Err NotMapped

abbrev pub read_as : Form → ℕ → ℕ → Result Translation ReadFault
read_as f w o = cond (is_word f w && nat_le o 15) (answer_of (said f w o)) (Err BadWord)

-- the word reader: form 1 is compact and form 2 full, and there is no other
abbrev pub reading : ℕ → ℕ → ℕ → Result Translation ReadFault
reading f w o = cond (f == 1) (read_as form.Compact w o) (cond (f == 2) (read_as form.Full w o) (Err BadWord))

-- an answer as one number
abbrev pub answer_number : Result Translation ReadFault → ℕ
answer_number (Ok t) = t.frame * 4096 + t.attributes
answer_number (Err e) = 2 ^ 63 + read_fault_number e
