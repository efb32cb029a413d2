use Rattle.std.proofs.Common.{refl, ap, rules}
use Rattle.table.specs.Table.{mapping}
use Rattle.fills.specs.Fills.{fill_of}
use Rattle.law.specs.PageMap.{frame_of}
use Rattle.space.specs.Space.{seen, page_map}
use Rattle.space.proofs.Steps.{sound_after, on_err, freed, not_freed, released_one, lawful}
use Rattle.space.proofs.space.Space.release.Goals as goal

pub returns-in_err-translation-clause-leaves : goal.returns-in_err-translation-clause-leaves
returns-in_err-translation-clause-leaves g c =
    on_err _ _ c.from_residual.result c.from_residual.ensures.0 (λ e. record { same_table = c.in_err-translation.ensures.held.1; same_fills = refl; same_tlb = refl; same_frames = refl })

pub invariant_of-self-2 : goal.invariant_of-self-2
invariant_of-self-2 g c =
    let s = c.args.self.now in
    let f = g.met.F.FrameAllocator in
    let k = g.F.FrameAllocator.meaning in
    let x = c.in_ok-translation.translation in
    let p = c.of_address-page.result.number in
    let (here, maps) = c.in_ok-translation.ensures.held in
    let out = s.sound.is_out x.frame p (ap (λ o. frame_of o (fill_of s.fills p)) here) in
    record {
      sound = sound_after g.T.Tlb.meaning k (page_map s) _ (seen s) _ _ (λ b n o. f.small b n (f.within b n o)) s.sound
          (released_one g.T.Tlb.meaning k (mapping s.table) (mapping c.unmap.new.self) (fill_of s.fills) (seen s) _ c.args.address p x c.of_address-page.ensures here maps
          (freed g.T.Tlb.meaning k s.frames c.free.new.self x.frame c.free.result (search (rules, c.free.ensures)) (search (rules, c.free.ensures)) (search (rules, c.free.ensures)) out)
          (search (rules, c.purge.ensures)));
    }

pub returns-in_err-free-clause-law : goal.returns-in_err-free-clause-law
returns-in_err-free-clause-law g c =
    let s = c.args.self.now in
    let x = c.in_ok-translation.translation in
    let p = c.of_address-page.result.number in
    let (here, _) = c.in_ok-translation.ensures.held in
    let out = s.sound.is_out x.frame p (ap (λ o. frame_of o (fill_of s.fills p)) here) in
    absurd (not_freed g.T.Tlb.meaning g.F.FrameAllocator.meaning s.frames c.free.new.self x.frame c.in_err-free.field-0.0 c.in_err-free.ensures.gives out)

pub returns-in_err-free-clause-leaves : goal.returns-in_err-free-clause-leaves
returns-in_err-free-clause-leaves g c =
    let s = c.args.self.now in
    let x = c.in_ok-translation.translation in
    let p = c.of_address-page.result.number in
    let (here, _) = c.in_ok-translation.ensures.held in
    let out = s.sound.is_out x.frame p (ap (λ o. frame_of o (fill_of s.fills p)) here) in
    absurd (not_freed g.T.Tlb.meaning g.F.FrameAllocator.meaning s.frames c.free.new.self x.frame c.in_err-free.field-0.0 c.in_err-free.ensures.gives out)

pub returns-clause-law : goal.returns-clause-law
returns-clause-law g c =
    let s = c.args.self.now in
    let f = g.met.F.FrameAllocator in
    let k = g.F.FrameAllocator.meaning in
    let x = c.in_ok-translation.translation in
    let p = c.of_address-page.result.number in
    let (here, maps) = c.in_ok-translation.ensures.held in
    let e = c.in_ok-free.ensures in
    lawful s _ _ (λ b n o. f.small b n (f.within b n o))
    (released_one g.T.Tlb.meaning k (mapping s.table) (mapping c.unmap.new.self) (fill_of s.fills) (seen s) _ c.args.address p x c.of_address-page.ensures here maps
    (record { step = search (rules, e); gives = search (rules, e); stock_stays = search (rules, e) })
    (search (rules, c.purge.ensures)))
