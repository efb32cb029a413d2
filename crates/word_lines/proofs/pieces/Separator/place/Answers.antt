use Rattle.std.proofs.Common.{rules, tests}
use Rattle.std.proofs.lemmas.Iterator.{YieldsList-from_slice}
use Rattle.std.proofs.lemmas.Iterator.Search.{position_from_yields_List}
use Rattle.word_lines.specs.Pieces.{separates}
use Rattle.word_lines.proofs.pieces.Separator.place.Goals as goal

pub returns : goal.returns
returns c = position_from_yields_List (separates c.args.self) _ _ c.position.result c.position.ensures.ran (YieldsList-from_slice c.args.bytes.now cc) (λ x b q k. search (rules, tests))
