use Rattle.std.proofs.Common.{refl, arith, rules}
use Rattle.std.proofs.lemmas.Nat.{trailing_le}
use Rattle.reservation.proofs.WordSets.{in_words_below, search_begun, search_goes_on, search_ended, search_found}
use Rattle.reservation.proofs.bit_set.BitSet.first_from.Goals as goal

pub loop-rest-init : goal.loop-rest-init
loop-rest-init g c =
    let (found, same, known, (within, read), more) = c.in_ok-rest.ensures.lookup in
    search_begun c.args.self.now.words c.args.from c.in_ok-rest.field-0.now within (omega arith) (read 0)

pub overflow_mul-begin : goal.overflow_mul-begin
overflow_mul-begin g c =
    let l = c.loop-rest.invariant.within in
    let w = c.loop-rest.invariant.word in
    let e = c.args.self.now.wide in
    omega arith

pub returns-in_err-rest-2-clause-first : goal.returns-in_err-rest-2-clause-first
returns-in_err-rest-2-clause-first g c =
    let (found, none, known, past, read) = c.in_err-rest-2.ensures.lookup in
    let ended = search_ended c.args.self.now.words c.args.from c.loop-rest.i c.loop-rest.begin c.loop-rest.rest c.loop-rest.invariant (omega arith) past in
    search rules

pub loop-rest-smaller : goal.loop-rest-smaller
loop-rest-smaller g c =
    let l = c.loop-rest.invariant.within in
    let w = c.loop-rest.invariant.word in
    let e = c.args.self.now.wide in
    omega arith

pub loop-rest-preserved : goal.loop-rest-preserved
loop-rest-preserved g c =
    let (found, same, known, (within, read), more) = c.in_ok-rest-2.ensures.lookup in
    search_goes_on c.args.self.now.words c.args.from c.loop-rest.i c.loop-rest.begin c.loop-rest.rest c.in_ok-rest-2.field-0.now c.loop-rest.invariant (omega arith) within (omega arith) (read 0)

pub overflow_add-result : goal.overflow_add-result
overflow_add-result g c =
    let l = c.loop-rest.invariant.within in
    let w = c.loop-rest.invariant.word in
    let e = c.args.self.now.wide in
    omega (arith, trailing_le)

pub returns-clause-first : goal.returns-clause-first
returns-clause-first g c = search_found c.args.self.now.words c.args.from c.loop-rest.i c.loop-rest.begin c.loop-rest.rest _ c.loop-rest.invariant (omega arith) (omega arith)

pub returns-clause-within : goal.returns-clause-within
returns-clause-within g c =
    let f = search_found c.args.self.now.words c.args.from c.loop-rest.i c.loop-rest.begin c.loop-rest.rest _ c.loop-rest.invariant (omega arith) refl in
    let l = in_words_below c.args.self.now.words _ f.here in
    let e = c.args.self.now.wide in
    omega arith
