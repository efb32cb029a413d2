use Rattle.words.proofs.WordLaws.{same_word_same_pages}
use Rattle.words.proofs.laws.same_word_same_pages.Goals as goal

pub returns : goal.returns
returns c = same_word_same_pages
