use Rattle.std.proofs.Common.{◌≡◌, sym, subst, rules}
use Rattle.words.specs.Laws.{Tells}
use Rattle.words.specs.Reading.{reading, answer_number}
use Rattle.words.proofs.WordLaws.{tells}
use Rattle.words.proofs.reader.joistolive_read_word.Goals as goal

pub returns : goal.returns
returns c =
    let e : c.encoded.result ≡ answer_number (reading c.args.form c.args.word c.args.offset) = search rules in
    record {
      answer = e;
      map = subst (Tells c.args.form c.args.word c.args.offset) (sym e) (tells c.args.form c.args.word c.args.offset);
    }
