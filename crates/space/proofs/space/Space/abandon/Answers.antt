use Rattle.std.proofs.Common.{refl, rules}
use Rattle.table.specs.Table.{mapping}
use Rattle.fills.specs.Fills.{fill_of}
use Rattle.law.proofs.Steps.{fill_at}
use Rattle.space.specs.Space.{seen, page_map}
use Rattle.space.proofs.Steps.{sound_after, on_err, freed, not_freed, abandoned, lawful}
use Rattle.space.proofs.space.Space.abandon.Goals as goal

pub returns-in_err-remove-clause-leaves : goal.returns-in_err-remove-clause-leaves
returns-in_err-remove-clause-leaves g c =
    on_err _ _ c.from_residual.result c.from_residual.ensures.0 (λ e. record { same_table = refl; same_fills = c.in_err-remove.ensures.1; same_tlb = search rules; same_frames = search rules })

pub invariant_of-self-2 : goal.invariant_of-self-2
invariant_of-self-2 g c =
    let s = c.args.self.now in
    let f = g.met.F.FrameAllocator in
    let k = g.F.FrameAllocator.meaning in
    let here = c.in_ok-remove.ensures.0 in
    let frame = c.args.underway.frame in
    let out = s.sound.is_out frame c.args.page.number (fill_at g.T.Tlb.meaning k (page_map s) (seen s) (seen s) s.sound c.args.page.number c.args.underway here) in
    record {
      sound = sound_after g.T.Tlb.meaning k (page_map s) _ (seen s) _ _ (λ b n o. f.small b n (f.within b n o)) s.sound
          (abandoned g.T.Tlb.meaning k (mapping s.table) (fill_of s.fills) (fill_of c.remove.new.self) (seen s) _ c.args.page c.args.underway here c.in_ok-remove.ensures.1
          (freed g.T.Tlb.meaning k s.frames c.free.new.self frame c.free.result (search (rules, c.free.ensures)) (search (rules, c.free.ensures)) (search (rules, c.free.ensures)) out) (search rules));
    }

pub returns-in_err-free-clause-law : goal.returns-in_err-free-clause-law
returns-in_err-free-clause-law g c =
    let s = c.args.self.now in
    let k = g.F.FrameAllocator.meaning in
    let frame = c.args.underway.frame in
    let out = s.sound.is_out frame c.args.page.number (fill_at g.T.Tlb.meaning k (page_map s) (seen s) (seen s) s.sound c.args.page.number c.args.underway c.in_ok-remove.ensures.0) in
    absurd (not_freed g.T.Tlb.meaning k s.frames c.free.new.self frame c.in_err-free.field-0.0 c.in_err-free.ensures.gives out)

pub returns-in_err-free-clause-leaves : goal.returns-in_err-free-clause-leaves
returns-in_err-free-clause-leaves g c =
    let s = c.args.self.now in
    let k = g.F.FrameAllocator.meaning in
    let frame = c.args.underway.frame in
    let out = s.sound.is_out frame c.args.page.number (fill_at g.T.Tlb.meaning k (page_map s) (seen s) (seen s) s.sound c.args.page.number c.args.underway c.in_ok-remove.ensures.0) in
    absurd (not_freed g.T.Tlb.meaning k s.frames c.free.new.self frame c.in_err-free.field-0.0 c.in_err-free.ensures.gives out)

pub returns-clause-law : goal.returns-clause-law
returns-clause-law g c =
    let s = c.args.self.now in
    let f = g.met.F.FrameAllocator in
    let k = g.F.FrameAllocator.meaning in
    let e = c.in_ok-free.ensures in
    lawful s _ _ (λ b n o. f.small b n (f.within b n o))
    (abandoned g.T.Tlb.meaning k (mapping s.table) (fill_of s.fills) (fill_of c.remove.new.self) (seen s) _ c.args.page c.args.underway c.in_ok-remove.ensures.0 c.in_ok-remove.ensures.1
    (record { step = search (rules, e); gives = search (rules, e); stock_stays = search (rules, e) }) (search rules))
