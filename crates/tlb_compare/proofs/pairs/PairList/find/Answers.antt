use Rattle.std.proofs.Common.{◌==◌, ◌∙◌, rules, tests}
use Rattle.std.proofs.lemmas.Iterator.{YieldsList-from_slice}
use Rattle.std.proofs.lemmas.Iterator.Search.{find_from_yields_List}
use Rattle.tlb_compare.specs.declared.pairs.Held.{Held}
use Rattle.tlb_compare.proofs.pairs.PairList.find.Goals as goal

pub returns : goal.returns
returns c =
    let found = find_from_yields_List (λ (h : Held). h.pair.page == c.args.page) _ _ c.find.result c.find.ensures.ran (YieldsList-from_slice c.args.self.now.held.items cc) (λ x b q k. search (rules, tests)) in
    c.copied.ensures ∙ found
