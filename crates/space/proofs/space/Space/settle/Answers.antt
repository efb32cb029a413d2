use Rattle.std.proofs.Common.{refl, sym, ap, ◌∙◌, arith, rules}
use Rattle.table.specs.Table.{mapping}
use Rattle.fills.specs.Fills.{fill_of}
use Rattle.law.proofs.Steps.{fill_at}
use Rattle.space.specs.Space.{seen, page_map}
use Rattle.space.proofs.Steps.{sound_after, on_err, found, settled, unsettled, lawful, only_ok}
use Rattle.space.proofs.space.Space.settle.Goals as goal

pub invariant_of-translation : goal.invariant_of-translation
invariant_of-translation g c =
    let s = c.args.self.now in
    let f = g.met.F.FrameAllocator in
    let here = sym c.find.ensures ∙ found c.find.result c.args.underway c.ne.result c.ne.ensures c.if-ne.false in
    let frame = c.args.underway.frame in
    let out = s.sound.is_out frame c.args.page.number (fill_at g.T.Tlb.meaning g.F.FrameAllocator.meaning (page_map s) (seen s) (seen s) s.sound c.args.page.number c.args.underway here) in
    record { frames = f.small s.frames frame (f.within s.frames frame out); bits = omega arith }

pub returns-in_err-map-clause-law : goal.returns-in_err-map-clause-law
returns-in_err-map-clause-law g c =
    let s = c.args.self.now in
    let f = g.met.F.FrameAllocator in
    let here = sym c.find.ensures ∙ found c.find.result c.args.underway c.ne.result c.ne.ensures c.if-ne.false in
    lawful s _ _ (λ b n out. f.small b n (f.within b n out))
    (unsettled g.T.Tlb.meaning g.F.FrameAllocator.meaning (mapping s.table) (mapping c.map.new.self) (fill_of s.fills) (seen s) _ c.args.page c.args.underway c.args.attributes _ c.in_err-map.field-0.0 c.from_residual.result
    (s.sound.waits c.args.underway c.args.page.number here) c.in_err-map.ensures.held.0 refl refl here c.from_residual.ensures.1 (ap mapping c.in_err-map.ensures.held.1) (search rules))

pub returns-in_err-map-clause-leaves : goal.returns-in_err-map-clause-leaves
returns-in_err-map-clause-leaves g c =
    on_err _ _ c.from_residual.result c.from_residual.ensures.0 (λ e. record { same_table = c.in_err-map.ensures.held.1; same_fills = refl; same_tlb = refl; same_frames = refl })

pub invariant_of-self-2 : goal.invariant_of-self-2
invariant_of-self-2 g c =
    let s = c.args.self.now in
    let f = g.met.F.FrameAllocator in
    let here = sym c.find.ensures ∙ found c.find.result c.args.underway c.ne.result c.ne.ensures c.if-ne.false in
    let (_, gone) = only_ok g.T.Tlb.meaning g.F.FrameAllocator.meaning _ _ c.remove.result c.remove.ensures (λ e q. q.0 here) in
    record {
      sound = sound_after g.T.Tlb.meaning g.F.FrameAllocator.meaning (page_map s) _ (seen s) _ _ (λ b n out. f.small b n (f.within b n out)) s.sound
          (settled g.T.Tlb.meaning g.F.FrameAllocator.meaning (mapping s.table) (mapping c.map.new.self) (fill_of s.fills) (fill_of c.remove.new.self) (seen s) _ c.args.page c.args.underway c.args.attributes _
          c.in_ok-map.ensures.held.0 (search rules) (search rules) here c.in_ok-map.ensures.held.1 gone.1 (search rules));
    }

pub returns-in_err-remove-clause-law : goal.returns-in_err-remove-clause-law
returns-in_err-remove-clause-law g c =
    let here = sym c.find.ensures ∙ found c.find.result c.args.underway c.ne.result c.ne.ensures c.if-ne.false in
    absurd (c.in_err-remove.ensures.0 here)

pub returns-in_err-remove-clause-leaves : goal.returns-in_err-remove-clause-leaves
returns-in_err-remove-clause-leaves g c =
    let here = sym c.find.ensures ∙ found c.find.result c.args.underway c.ne.result c.ne.ensures c.if-ne.false in
    absurd (c.in_err-remove.ensures.0 here)

pub returns-clause-law : goal.returns-clause-law
returns-clause-law g c =
    let s = c.args.self.now in
    let f = g.met.F.FrameAllocator in
    let here = sym c.find.ensures ∙ found c.find.result c.args.underway c.ne.result c.ne.ensures c.if-ne.false in
    lawful s _ _ (λ b n out. f.small b n (f.within b n out))
    (settled g.T.Tlb.meaning g.F.FrameAllocator.meaning (mapping s.table) (mapping c.map.new.self) (fill_of s.fills) (fill_of c.remove.new.self) (seen s) _ c.args.page c.args.underway c.args.attributes _
    c.in_ok-map.ensures.held.0 (search rules) (search rules) here c.in_ok-map.ensures.held.1 c.in_ok-remove.ensures.1 (search rules))
