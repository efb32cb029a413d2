use Rattle.std.proofs.Common.{sym, ◌∙◌, rules}
use Rattle.table.specs.Table.{mapping}
use Rattle.table.proofs.Tables.{is_mapped, not_mapped}
use Rattle.fills.specs.Fills.{fill_of}
use Rattle.space.specs.Space.{seen}
use Rattle.space.proofs.Steps.{sound_after, begin_mapped, begin_frameless, begun, lawful, frameless, not_refused, only_ok}
use Rattle.space.proofs.space.Space.begin.Goals as goal

pub returns-then-is_some-clause-law : goal.returns-then-is_some-clause-law
returns-then-is_some-clause-law g c =
    let s = c.args.self.now in
    let f = g.met.F.FrameAllocator in
    let (x, here) = is_mapped c.lookup.result (sym c.is_some.ensures ∙ c.if-is_some.true) in
    lawful s _ _ (λ b n out. f.small b n (f.within b n out))
    (begin_mapped g.T.Tlb.meaning g.F.FrameAllocator.meaning (mapping s.table) (fill_of s.fills) (seen s) _ c.args.address c.of_address-page.result.number c.of_address-page.ensures (x, sym c.lookup.ensures ∙ here) (search rules))

pub invariant_of-self : goal.invariant_of-self
invariant_of-self g c =
    let s = c.args.self.now in
    let f = g.met.F.FrameAllocator in
    let none = sym c.lookup.ensures ∙ not_mapped c.lookup.result (sym c.is_some.ensures ∙ c.if-is_some.false) in
    let e = c.in_err-frame.ensures in
    record {
      sound = sound_after g.T.Tlb.meaning g.F.FrameAllocator.meaning _ _ (seen s) _ _ (λ b n out. f.small b n (f.within b n out)) s.sound
          (begin_frameless g.T.Tlb.meaning g.F.FrameAllocator.meaning (mapping s.table) (fill_of s.fills) (seen s) _ c.args.address c.of_address-page.result.number c.in_err-frame.field-0.0
          c.of_address-page.ensures none c.in_ok-admits.ensures (search (rules, e)) (search (rules, e)) (search (rules, e)) (search rules));
    }

pub returns-in_err-frame-clause-law : goal.returns-in_err-frame-clause-law
returns-in_err-frame-clause-law g c =
    let s = c.args.self.now in
    let f = g.met.F.FrameAllocator in
    let none = sym c.lookup.ensures ∙ not_mapped c.lookup.result (sym c.is_some.ensures ∙ c.if-is_some.false) in
    let e = c.in_err-frame.ensures in
    frameless s _ c.args.address c.from_residual-in_err-frame.result (λ b n out. f.small b n (f.within b n out)) c.from_residual-in_err-frame.ensures.1
    (begin_frameless g.T.Tlb.meaning g.F.FrameAllocator.meaning (mapping s.table) (fill_of s.fills) (seen s) _ c.args.address c.of_address-page.result.number c.in_err-frame.field-0.0
    c.of_address-page.ensures none c.in_ok-admits.ensures (search (rules, e)) (search (rules, e)) (search (rules, e)) (search rules))

pub invariant_of-self-2 : goal.invariant_of-self-2
invariant_of-self-2 g c =
    let s = c.args.self.now in
    let f = g.met.F.FrameAllocator in
    let none = sym c.lookup.ensures ∙ not_mapped c.lookup.result (sym c.is_some.ensures ∙ c.if-is_some.false) in
    let (_, added) = only_ok g.T.Tlb.meaning g.F.FrameAllocator.meaning _ _ c.add.result c.add.ensures (λ e q. not_refused (fill_of s.fills) c.of_address-page.result.number e c.in_ok-admits.ensures q.0) in
    let e = c.in_ok-frame.ensures in
    record {
      sound = sound_after g.T.Tlb.meaning g.F.FrameAllocator.meaning _ _ (seen s) _ _ (λ b n out. f.small b n (f.within b n out)) s.sound
          (begun g.T.Tlb.meaning g.F.FrameAllocator.meaning (mapping s.table) (fill_of s.fills) (fill_of c.add.new.self) (seen s) _ c.args.address c.of_address-page.result.number c.in_ok-frame.frame
          c.of_address-page.ensures none c.in_ok-admits.ensures added.1 (search (rules, e)) (search (rules, e)) (search (rules, e)) (search rules));
    }

pub returns-clause-law : goal.returns-clause-law
returns-clause-law g c =
    let s = c.args.self.now in
    let f = g.met.F.FrameAllocator in
    let none = sym c.lookup.ensures ∙ not_mapped c.lookup.result (sym c.is_some.ensures ∙ c.if-is_some.false) in
    let e = c.in_ok-frame.ensures in
    lawful s _ _ (λ b n out. f.small b n (f.within b n out))
    (begun g.T.Tlb.meaning g.F.FrameAllocator.meaning (mapping s.table) (fill_of s.fills) (fill_of c.add.new.self) (seen s) _ c.args.address c.of_address-page.result.number c.in_ok-frame.frame
    c.of_address-page.ensures none c.in_ok-admits.ensures c.in_ok-add.ensures.1 (search (rules, e)) (search (rules, e)) (search (rules, e)) (search rules))
