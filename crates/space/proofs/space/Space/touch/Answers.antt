use Rattle.std.proofs.Common.{rules}
use Rattle.table.specs.Table.{mapping}
use Rattle.fills.specs.Fills.{fill_of}
use Rattle.space.specs.Space.{seen}
use Rattle.space.proofs.Steps.{denied, touched, looked_lawful}
use Rattle.space.proofs.space.Space.touch.Goals as goal

pub returns-then-not-allows-clause-law : goal.returns-then-not-allows-clause-law
returns-then-not-allows-clause-law g c =
    let s = c.args.self.now in
    let u = c.resolve.new.self in
    let f = g.met.F.FrameAllocator in
    let (same, looked) = c.in_ok-translation.ensures in
    looked_lawful s u _ (λ b n o. f.small b n (f.within b n o)) same
    (denied g.T.Tlb.meaning g.F.FrameAllocator.meaning (mapping s.table) (fill_of s.fills) (seen s) (seen u) c.args.address c.of_address.result.number c.args.access c.in_ok-access.access c.of_address.ensures c.in_ok-access.ensures same.2
    c.in_ok-translation.translation c.in_ok-translation.mark looked (search (rules, c.if-not-allows.ensures)))

pub returns-clause-law : goal.returns-clause-law
returns-clause-law g c =
    let s = c.args.self.now in
    let u = c.resolve.new.self in
    let f = g.met.F.FrameAllocator in
    let (same, looked) = c.in_ok-translation.ensures in
    looked_lawful s u _ (λ b n o. f.small b n (f.within b n o)) same
    (touched g.T.Tlb.meaning g.F.FrameAllocator.meaning (mapping s.table) (fill_of s.fills) (seen s) (seen u) c.args.address c.of_address.result.number c.args.access c.in_ok-access.access c.of_address.ensures c.in_ok-access.ensures same.2
    c.in_ok-translation.translation c.in_ok-translation.mark looked _ (search (rules, c.if-not-allows.ensures)) (search rules) (search rules))
