use Rattle.std.proofs.Common.{◌≡◌, false, eqb, sym, rules}
use Rattle.std.proofs.lemmas.Bool.{ne_eqb}
use Rattle.words.specs.declared.form.Form.TheVariants as form
use Rattle.words.proofs.reader.read_word.Goals as goal

-- a number that no form has is neither 1 nor 2
pub returns-in_err-form : goal.returns-in_err-form
returns-in_err-form c =
    let one : eqb c.args.form 1 ≡ false = ne_eqb _ 1 (λ e. c.in_err-form.ensures form.Compact (sym e)) in
    let two : eqb c.args.form 2 ≡ false = ne_eqb _ 2 (λ e. c.in_err-form.ensures form.Full (sym e)) in
    search rules
