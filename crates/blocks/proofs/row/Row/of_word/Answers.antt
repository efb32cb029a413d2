use Rattle.std.proofs.Common.{ap, ◌∙◌, arith}
use Rattle.words.specs.Points.{at}
use Rattle.blocks.specs.Rows.{pages_of}
use Rattle.blocks.specs.Shapes.{word_pages}
use Rattle.blocks.proofs.RowPages.{blank_row}
use Rattle.blocks.proofs.Shapes.{first, first_none, first_all, first_writes}
use Rattle.blocks.proofs.row.Row.of_word.Goals as goal

pub loop-i-init : goal.loop-i-init
loop-i-init c k l = blank_row c.empty.result c.empty.ensures 16 k ∙ first_none (word_pages c.args.word) k l

pub loop-i-preserved : goal.loop-i-preserved
loop-i-preserved c k l =
    ap (λ f. f k) c.set.ensures ∙ ap (λ x. at (pages_of c.loop-i.row) c.loop-i.i x k) c.page_in.ensures ∙ first_writes (word_pages c.args.word) c.loop-i.i (pages_of c.loop-i.row) c.loop-i.invariant k l

pub returns : goal.returns
returns c k l =
    c.loop-i.invariant k l ∙ ap (λ i. first i (word_pages c.args.word) k) (let a = c.loop-i-test.false in let b = c.loop-i.auto.i-end in omega arith) ∙ first_all (word_pages c.args.word) k l
