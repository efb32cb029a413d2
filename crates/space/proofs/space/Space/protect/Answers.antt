use Rattle.std.proofs.Common.{refl, ap, rules}
use Rattle.table.specs.Table.{mapping}
use Rattle.fills.specs.Fills.{fill_of}
use Rattle.space.specs.Space.{seen, page_map}
use Rattle.space.proofs.Steps.{sound_after, on_err, protected_one, unprotected, lawful}
use Rattle.space.proofs.space.Space.protect.Goals as goal

pub returns-in_err-former-clause-law : goal.returns-in_err-former-clause-law
returns-in_err-former-clause-law g c =
    let s = c.args.self.now in
    let f = g.met.F.FrameAllocator in
    let (first, same) = c.in_err-former.ensures.held in
    lawful s _ _ (λ b n o. f.small b n (f.within b n o))
    (unprotected g.T.Tlb.meaning g.F.FrameAllocator.meaning (mapping s.table) (mapping c.protect.new.self) (fill_of s.fills) (seen s) _ c.args.address c.of_address-page.result.number c.args.attributes c.in_err-former.field-0.0
    c.from_residual.result c.of_address-page.ensures c.from_residual.ensures.1 first (ap mapping same) (search rules))

pub returns-in_err-former-clause-leaves : goal.returns-in_err-former-clause-leaves
returns-in_err-former-clause-leaves g c =
    on_err _ _ c.from_residual.result c.from_residual.ensures.0 (λ e. record { same_table = c.in_err-former.ensures.held.1; same_fills = refl; same_tlb = search rules; same_frames = search rules })

pub invariant_of-self-2 : goal.invariant_of-self-2
invariant_of-self-2 g c =
    let s = c.args.self.now in
    let f = g.met.F.FrameAllocator in
    let (accepted, former, maps) = c.in_ok-former.ensures.held in
    record {
      sound = sound_after g.T.Tlb.meaning g.F.FrameAllocator.meaning (page_map s) _ (seen s) _ _ (λ b n o. f.small b n (f.within b n o)) s.sound
          (protected_one g.T.Tlb.meaning g.F.FrameAllocator.meaning (mapping s.table) (mapping c.protect.new.self) (fill_of s.fills) (seen s) _ c.args.address c.of_address-page.result.number
          c.args.attributes c.in_ok-former.former c.of_address-page.ensures accepted former maps (search (rules, c.purge.ensures)) (search rules));
    }

pub returns-clause-law : goal.returns-clause-law
returns-clause-law g c =
    let s = c.args.self.now in
    let f = g.met.F.FrameAllocator in
    let (accepted, former, maps) = c.in_ok-former.ensures.held in
    lawful s _ _ (λ b n o. f.small b n (f.within b n o))
    (protected_one g.T.Tlb.meaning g.F.FrameAllocator.meaning (mapping s.table) (mapping c.protect.new.self) (fill_of s.fills) (seen s) _ c.args.address c.of_address-page.result.number
    c.args.attributes c.in_ok-former.former c.of_address-page.ensures accepted former maps (search (rules, c.purge.ensures)) (search rules))
