use Rattle.std.proofs.Common.{◌≡◌, length, ap, ◌∙◌, arith, length-set}
use Rattle.chains.specs.declared.node.Content.TheVariants.{Free}
use Rattle.chains.specs.Chains.{nodes_of}
use Rattle.chains.proofs.Held.{linked_small}
use Rattle.chains.proofs.Changes.{unlinked_sound, unlinked_single, unlinked_kept, unlinked_counted, unlinked_held, unlinked_puts, unlinked_order}
use Rattle.chains.proofs.Pairs.{paired_content}
use Rattle.chains.proofs.chains.Chains.unlink.Goals as goal

pub overflow_sub-self : goal.overflow_sub-self
overflow_sub-self c =
    let s = c.args.self.now in
    let r = c.requires in
    let small = linked_small s _ _ r.found.block in
    let e = c.from-own.ensures in
    let p = paired_content s.blocks s.contents c.from-own.result c.args.block Free (omega arith) in
    let n = unlinked_counted s c.args.block c.args.way _ r e small (omega arith) _ _ p in
    omega arith

pub invariant_of-self : goal.invariant_of-self
invariant_of-self c =
    let s = c.args.self.now in
    let b = c.args.block in
    let w = c.args.way in
    let r = c.requires in
    let e = c.from-own.ensures in
    let small = linked_small s _ _ r.found.block in
    let wl : length s.links ≡ 321 = omega arith in
    let p = paired_content s.blocks s.contents c.from-own.result b Free (omega arith) in
    let n = unlinked_counted s b w _ r e small wl _ _ p in
    let h = unlinked_held s b w _ r e small wl _ _ p in
    record {
      wide = ap length p ∙ length-set (nodes_of s) _ _ ∙ s.wide;
      sound = unlinked_sound s b w _ r e small wl _ _ p;
      single = unlinked_single s b w _ r e small wl _ _ p;
      kept = unlinked_kept s b w _ r e small wl _ _ p;
      counted = omega arith;
      held = omega arith;
    }

pub returns-clause-held : goal.returns-clause-held
returns-clause-held c =
    let s = c.args.self.now in
    let r = c.requires in
    let e = c.from-own.ensures in
    let small = linked_small s _ _ r.found.block in
    unlinked_puts s c.args.block c.args.way _ r e small (omega arith) _ _ (paired_content s.blocks s.contents c.from-own.result c.args.block Free (omega arith))

pub returns-clause-order : goal.returns-clause-order
returns-clause-order c =
    let s = c.args.self.now in
    let r = c.requires in
    let e = c.from-own.ensures in
    let small = linked_small s _ _ r.found.block in
    unlinked_order s c.args.block c.args.way _ r e small (omega arith) _ _ (paired_content s.blocks s.contents c.from-own.result c.args.block Free (omega arith))
