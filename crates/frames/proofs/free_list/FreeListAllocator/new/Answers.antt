use Rattle.std.proofs.Common.{◌≡◌, ◌+◌, ◌*◌, map, reverse, ap, ◌∙◌, arith}
use Rattle.frames.specs.Lists.{rising, occurs}
use Rattle.frames.specs.Stock.{first_frame}
use Rattle.frames.proofs.NewLists.{Falls, no_flags, new_once, new_frames, new_in}
use Rattle.frames.proofs.free_list.FreeListAllocator.new.Goals as goal

pub invariant_of-result : goal.invariant_of-result
invariant_of-result c =
    let falls : Falls c.from_fn.result = (c.from_fn.ensures.items.long, λ k h. let (p, q, made) = c.from_fn.ensures.items.at k 0 h in omega (arith, made)) in
    let flags = no_flags 4096 in
    record { total = omega arith; once = λ i. ap (occurs i) c.from.ensures.0 ∙ new_once c.from_fn.result falls i }

pub returns : goal.returns
returns c =
    let b = first_frame c.of_group.result in
    let falls : Falls c.from_fn.result = (c.from_fn.ensures.items.long, λ k h. let (p, q, made) = c.from_fn.ensures.items.at k 0 h in omega (arith, made)) in
    let e : b ≡ 16 * c.args.group = omega arith in
    record {
      first = e;
      free = ap (λ xs. map (λ i. b + i) (reverse xs)) c.from.ensures.0 ∙ new_frames c.from_fn.result b falls ∙ ap (λ n. rising n 4096) e;
      none = new_in c.of_group.result;
    }
