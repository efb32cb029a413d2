-- The numbers of the refusals, and what is written of them.
use Rattle.std.specs.Prelude.{ℕ, List, codes}
use Rattle.words.specs.declared.fault.ReadFault.{ReadFault}
use Rattle.words.specs.declared.fault.ReadFault.TheVariants.{BadWord, NotMapped}

-- no form, word and offset that go together; the page is not in the word
abbrev pub read_fault_number : ReadFault → ℕ
read_fault_number BadWord = 17
read_fault_number NotMapped = 9

abbrev pub reason : ReadFault → List ℕ
reason NotMapped = codes "the page is not in the word"
reason BadWord = codes "no such form or offset, or no word of that form"

abbrev pub no_such_number : List ℕ
no_such_number = codes "no value of the type has that number"
