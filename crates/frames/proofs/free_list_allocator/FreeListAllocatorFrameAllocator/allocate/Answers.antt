use Rattle.std.proofs.Common.{◌≡◌, true, false, arith}
use mathlib.Core.Path.{fun_ext}
use Rattle.std.proofs.lemmas.Bool.{both_ways}
use Rattle.std.proofs.lemmas.Grind.{common_steps}
use Rattle.frames.specs.FreeList.{list_stock, list_out}
use Rattle.frames.proofs.free_list_allocator.FreeListAllocatorFrameAllocator.allocate.Goals as goal

-- the head is due once, so it is a place that is not out
pub bounds-self-from : goal.bounds-self-from
bounds-self-from c =
    let once = c.args.self.now.once c.from.result in
    grind (arith, common_steps)

pub invariant_of-self-2 : goal.invariant_of-self-2
invariant_of-self-2 c =
    let once = c.args.self.now.once c.from.result in
    grind (arith, common_steps)

pub returns-clause-takes : goal.returns-clause-takes
returns-clause-takes c =
    let once = c.args.self.now.once c.from.result in
    let here : list_stock c.args.self.now c.frame.result ≡ true = grind (arith, common_steps) in
    let within : list_out c.args.self.now c.frame.result ≡ false = grind (arith, common_steps) in
    (((λ left. both_ways _ within (left c.frame.result here)), tt), here, within, fun_ext (λ f. grind (arith, common_steps)))
