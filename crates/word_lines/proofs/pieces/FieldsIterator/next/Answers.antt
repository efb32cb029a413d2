use Rattle.std.proofs.Common.{rules, tests}
use Rattle.word_lines.specs.Pieces.{has_bytes}
use Rattle.word_lines.specs.Walk.{pieces_left}
use Rattle.word_lines.proofs.Finding.{found, some_bytes}
use Rattle.word_lines.proofs.pieces.FieldsIterator.next.Goals as goal

pub returns-clause-steps : goal.returns-clause-steps
returns-clause-steps c =
    let (xs, f, (t, given, last), folds, here) = c.find.ensures.ran in
    found pieces_left has_bytes _ (λ x b p q k. search (rules, tests, some_bytes)) xs c.args.self.now.pieces t c.find.new.self c.find.result _ f given last folds here
