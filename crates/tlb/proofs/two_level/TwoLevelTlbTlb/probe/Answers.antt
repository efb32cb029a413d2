use Rattle.std.proofs.Common.{refl, rules}
use Rattle.words.specs.declared.word.Word.TheVariants.{Full}
use Rattle.tlb.specs.declared.entry.Entry.{Entry}
use Rattle.tlb.specs.TwoLevel.{PageEntry}
use Rattle.tlb.proofs.Levels.{filled_within, missed_first}
use Rattle.tlb.proofs.two_level.TwoLevelTlbTlb.probe.Goals as goal
use Rattle.tlb.proofs.two_level.TwoLevelTlbTlb.probe.Goals.{After-load}

-- the second level's pair is loaded into the first
abbrev entry : (g : _) → After-load g → Entry
entry g c = record { page = c.args.page; word = Full c.of_page.result }

own : (g : _) (c : After-load g) → PageEntry (entry g c) c.args.page.number c.in-Some-probe.translation
own g c = record { page = refl; full = refl; bits = c.of_page.ensures }

pub returns-clause-step : goal.returns-clause-step
returns-clause-step g c =
    let missed = missed_first g.A.Tlb.meaning g.B.Tlb.meaning (entry g c) c.args.page.number c.in-Some-probe.translation (own g c) in
    search (rules, missed)

pub returns-clause-within : goal.returns-clause-within
returns-clause-within g c = filled_within g.A.Tlb.meaning g.B.Tlb.meaning c.args.self.now _ _ (entry g c) _ _ (own g c) (search rules) (search rules) c.load.ensures.loads (search rules)
