use Rattle.words.proofs.WordLaws.{one_word}
use Rattle.words.proofs.laws.one_word_for_a_page.Goals as goal

pub returns : goal.returns
returns c = one_word
