use Rattle.std.proofs.Common.{refl, sym, ap, ◌∙◌, subst, length, arith, option_and_then, ◌^◌}
use Rattle.std.specs.List.{slice_get}
use Rattle.chains.specs.Contents.{Node, body_in}
use Rattle.chains.specs.Nodes.{Sound, Single, Kept, link_at, block_at, node_for, is_linked, is_held}
use Rattle.chains.specs.Counting.{how_many}
use Rattle.chains.specs.declared.node.Content.TheVariants.{Free}
use Rattle.chains.proofs.Fresh.{fresh_sound, fresh_single, fresh_kept, fresh_counted, fresh_held, fresh_body, fresh_order}
use Rattle.chains.proofs.Orders.{order_in}
use Rattle.chains.proofs.Pairs.{paired_replicate}
use Rattle.chains.proofs.chains.Chains.new.Goals as goal

pub invariant_of-result : goal.invariant_of-result
invariant_of-result c =
    let n : Node = record { block = c.block.result; content = Free } in
    let e = c.free_links.ensures in
    let ls = c.free_links.result in
    let p = paired_replicate 256 c.block.result Free in
    let counted = fresh_counted ls e n refl ∙ ap (λ ns. how_many (is_linked ns) 256) (sym p) in
    let held = fresh_held ls e n refl ∙ ap (λ ns. how_many (is_held ls ns) (2 ^ 48)) (sym p) in
    record {
      wide = ap length p;
      sound = subst (Sound ls) (sym p) (fresh_sound ls e n refl);
      single = subst (Single ls) (sym p) (fresh_single ls e n refl);
      kept = subst (Kept ls) (sym p) (fresh_kept ls e n refl);
      counted = omega arith;
      held = omega arith;
    }

pub returns-clause-held : goal.returns-clause-held
returns-clause-held c b =
    let n : Node = record { block = c.block.result; content = Free } in
    let ls = c.free_links.result in
    ap (λ ns. option_and_then body_in (slice_get ns (node_for (link_at ls) (block_at ns) b))) (paired_replicate 256 c.block.result Free) ∙ fresh_body ls c.free_links.ensures n refl b

pub returns-clause-order : goal.returns-clause-order
returns-clause-order c =
    let n : Node = record { block = c.block.result; content = Free } in
    let ls = c.free_links.result in
    ap (order_in ls) (paired_replicate 256 c.block.result Free) ∙ fresh_order ls c.free_links.ensures n refl
