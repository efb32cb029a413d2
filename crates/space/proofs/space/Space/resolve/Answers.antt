use Rattle.std.proofs.Common.{refl, sym, ap, ◌∙◌, rules}
use Rattle.table.specs.Table.{mapping}
use Rattle.words.specs.Reading.{said}
use Rattle.words.specs.Words.{form_of, bits_of}
use Rattle.blocks.proofs.Looks.{walk_says}
use Rattle.law.proofs.Steps.{within_coherent, looked_coherent, tlb_sound}
use Rattle.space.specs.Space.{seen, page_map}
use Rattle.space.proofs.Steps.{hit, filled}
use Rattle.space.proofs.space.Space.resolve.Goals as goal

pub invariant_of-self : goal.invariant_of-self
invariant_of-self g c =
    let s = c.args.self.now in
    let t = g.T.Tlb.meaning in
    let k = g.F.FrameAllocator.meaning in
    record {
      sound = tlb_sound t k (page_map s) (seen s) (record { tlb = c.probe.new.self; frames = s.frames }) s.sound
          (within_coherent t k (mapping s.table) s.tlb c.probe.new.self c.probe.ensures.within s.sound.coherent) refl;
    }

pub returns-in-Some : goal.returns-in-Some
returns-in-Some g c =
    let s = c.args.self.now in
    let e = c.in-Some.ensures in
    ((refl, refl, refl), hit g.T.Tlb.meaning g.F.FrameAllocator.meaning (mapping s.table) s.tlb c.probe.new.self c.args.page.number c.in-Some.translation s.sound.coherent (search (rules, e)) (search (rules, e)) (search (rules, e)))

pub invariant_of-self-in-Break-1 : goal.invariant_of-self-in-Break-1
invariant_of-self-in-Break-1 g c =
    let s = c.args.self.now in
    let t = g.T.Tlb.meaning in
    let k = g.F.FrameAllocator.meaning in
    record {
      sound = tlb_sound t k (page_map s) (seen s) (record { tlb = c.probe.new.self; frames = s.frames }) s.sound
          (within_coherent t k (mapping s.table) s.tlb c.probe.new.self c.probe.ensures.within s.sound.coherent) refl;
    }

pub invariant_of-self-2 : goal.invariant_of-self-2
invariant_of-self-2 g c =
    let s = c.args.self.now in
    let t = g.T.Tlb.meaning in
    let k = g.F.FrameAllocator.meaning in
    let w = c.in_ok-word.field-0 in
    let e = c.in_default.ensures in
    record {
      sound = tlb_sound t k (page_map s) (seen s) (record { tlb = c.load.new.self; frames = s.frames }) s.sound
          (looked_coherent t k (mapping s.table) _ s.tlb c.args.page.number c.in_ok-translation.translation c.load.new.self
          (filled t k (mapping s.table) s.tlb c.probe.new.self c.load.new.self c.args.page.number w (record { page = c.args.page; word = w.word }) c.in_ok-translation.translation refl refl c.in_ok-word.ensures.word
          (sym (walk_says (mapping s.table) c.args.page.number w c.in_ok-word.ensures.word) ∙ ap (said (form_of w.word) (bits_of w.word)) (sym c.offset.ensures) ∙ sym c.read.ensures ∙ c.in_ok-translation.ensures.ok_part)
          (search (rules, e)) (search (rules, c.load.ensures)) (search (rules, c.load.ensures))) s.sound.coherent) refl;
    }

pub returns : goal.returns
returns g c =
    let s = c.args.self.now in
    let t = g.T.Tlb.meaning in
    let k = g.F.FrameAllocator.meaning in
    let w = c.in_ok-word.field-0 in
    let e = c.in_default.ensures in (
      (refl, refl, refl),
      filled t k (mapping s.table) s.tlb c.probe.new.self c.load.new.self c.args.page.number w (record { page = c.args.page; word = w.word }) c.in_ok-translation.translation refl refl c.in_ok-word.ensures.word
          (sym (walk_says (mapping s.table) c.args.page.number w c.in_ok-word.ensures.word) ∙ ap (said (form_of w.word) (bits_of w.word)) (sym c.offset.ensures) ∙ sym c.read.ensures ∙ c.in_ok-translation.ensures.ok_part)
          (search (rules, e)) (search (rules, c.load.ensures)) (search (rules, c.load.ensures)),
    )
