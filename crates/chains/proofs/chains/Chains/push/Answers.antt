use Rattle.std.proofs.Common.{◌≡◌, ◌<◌, length, refl, ap, ◌∙◌, arith, length-set}
use Rattle.chains.specs.Chains.{nodes_of}
use Rattle.chains.proofs.Changes.{pushed_sound, pushed_single, pushed_kept, push_room, pushed_counted, pushed_held, pushed_puts, pushed_order}
use Rattle.chains.proofs.Pairs.{paired_set}
use Rattle.chains.proofs.chains.Chains.push.Goals as goal

pub overflow_add-self : goal.overflow_add-self
overflow_add-self c =
    let s = c.args.self.now in
    let r = c.requires in
    let e = paired_set s.blocks s.contents c.from-own.result c.args.block c.from.result in
    let l = push_room s c.args.block _ c.args.body c.bucket-head.result _ c.args.node refl c.from.ensures c.bucket-head.ensures c.from-own.ensures r.absent r.free (omega arith) (omega arith) _ e in
    omega arith

pub invariant_of-self : goal.invariant_of-self
invariant_of-self c =
    let s = c.args.self.now in
    let b = c.args.block in
    let y = c.args.body in
    let h = c.bucket-head.result in
    let n = c.args.node in
    let o = c.from.ensures in
    let e = c.bucket-head.ensures in
    let f = c.from-own.ensures in
    let r = c.requires in
    let small : n < 256 = omega arith in
    let wl : length s.links ≡ 321 = omega arith in
    let p = paired_set s.blocks s.contents c.from-own.result b c.from.result in
    let counted = pushed_counted s b _ y h _ n refl o e f r.absent r.free small wl _ p in
    let held = pushed_held s b _ y h _ n refl o e f r.absent r.free small wl _ p in
    record {
      wide = ap length p ∙ length-set (nodes_of s) _ _ ∙ s.wide;
      sound = pushed_sound s b _ y h _ n refl o e f r.absent r.free small wl _ p;
      single = pushed_single s b _ y h _ n refl o e f r.absent r.free small wl _ p;
      kept = pushed_kept s b _ y h _ n refl o e f r.absent r.free small wl _ p;
      counted = omega arith;
      held = omega arith;
    }

pub returns-clause-held : goal.returns-clause-held
returns-clause-held c =
    let s = c.args.self.now in
    let r = c.requires in
    pushed_puts s c.args.block _ c.args.body c.bucket-head.result _ c.args.node refl c.from.ensures c.bucket-head.ensures c.from-own.ensures r.absent r.free (omega arith) (omega arith) _
    (paired_set s.blocks s.contents c.from-own.result c.args.block c.from.result)

pub returns-clause-order : goal.returns-clause-order
returns-clause-order c =
    let s = c.args.self.now in
    let r = c.requires in
    pushed_order s c.args.block _ c.args.body c.bucket-head.result _ c.args.node refl c.from.ensures c.bucket-head.ensures c.from-own.ensures r.absent r.free (omega arith) (omega arith) _
    (paired_set s.blocks s.contents c.from-own.result c.args.block c.from.result)
