use Rattle.std.proofs.Common.{sym, ap, ◌∙◌, rules, arith}
use Rattle.words.specs.Reading.{said}
use Rattle.words.specs.Words.{form_of, bits_of}
use Rattle.words.specs.Blocks.{page_word}
use Rattle.blocks.specs.Rows.{row_pages}
use Rattle.blocks.proofs.Looks.{found_place, walks_word, walks_row}
use Rattle.blocks.proofs.blocks.Blocks.walk.Goals.{in-Compact, in-Row}
use Rattle.blocks.proofs.blocks.Blocks.walk.Goals as goal

pub returns-clause-word : goal.returns-clause-word
returns-clause-word c =
    let s = c.args.self.now in
    let p = c.args.page.number in
    let f = c.in_ok-found.found in
    let v = c.match-body.word in
    let has = sym c.body.ensures ∙ c.unwrap-body.ensures in
    let read = ap (said (form_of v) (bits_of v)) (sym c.offset-2.ensures) ∙ sym c.read.ensures ∙ c.in_ok-read.was in
    let some = c.in_ok-found.ensures.some in
    elim c.match-body.branch [
      | in-Compact w ↦ walks_word s p c.block.result.number f c.unwrap-body.result c.block.ensures c.in_ok-found.ensures has _ w.in-Compact.word v c.in_ok-read.field-0 (omega arith) (omega arith) w.in-Compact.is w.word-is read
      | in-Row w ↦ walks_row s p c.block.result.number f c.unwrap-body.result c.block.ensures c.in_ok-found.ensures has _ w.in-Row.row w.word.result v c.in_ok-read.field-0 (omega arith) (omega arith) w.in-Row.is w.word-is
          (w.word.ensures ∙ ap (λ o. page_word (row_pages s.rows.rows w.in-Row.row.number o)) w.offset.ensures) read
    ]

pub returns-clause-place : goal.returns-clause-place
returns-clause-place c =
    let s = c.args.self.now in
    let p = c.args.page.number in
    let f = c.in_ok-found.found in
    let has = sym c.body.ensures ∙ c.unwrap-body.ensures in
    let lemma = found_place s p c.block.result.number f c.unwrap-body.result c.block.ensures c.in_ok-found.ensures has in
    search rules
