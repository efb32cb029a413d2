use Rattle.std.proofs.Common.{◌+◌, ◌<◌, eqb, length, get_or, sym, ap, ◌∙◌, subst, inr, arith}
use Rattle.words.specs.declared.address.Block.{Block}
use Rattle.words.specs.Layout.{bucket_of}
use Rattle.chains.specs.declared.node.Content.TheVariants.{Free}
use Rattle.chains.specs.Contents.{Node}
use Rattle.chains.proofs.Pairs.{paired_get}
use Rattle.chains.specs.Links.{walk}
use Rattle.chains.specs.Nodes.{link_number}
use Rattle.chains.proofs.Held.{next_in, home_in, Search, after, at_it, is_it, goes_past, ends, shorter, home, linked_block, no_node}
use Rattle.chains.proofs.Buckets.{chain_count}
use Rattle.chains.proofs.Orders.{placed, placeless}
use Rattle.chains.proofs.Steps.{length_most}
use Rattle.chains.proofs.chains.Chains.way_to.Goals as goal

pub overflow_add-looked : goal.overflow_add-looked
overflow_add-looked c =
    let s = c.args.self.now in
    let b = c.args.block.number in
    let i = c.in-Some.node in
    let at_i : Search s b i = subst (Search s b) (ap link_number c.in-Some.is) c.loop-place.invariant.search in
    let less = (after s b c.loop-place.looked i at_i (omega arith) (c.loop-place.invariant.passed ∙ ap (walk (next_in s) 256) (ap link_number c.in-Some.is))).0 in
    let m = length_most (next_in s) 256 (next_in s (256 + bucket_of b)) in
    omega arith

pub returns-then-eq : goal.returns-then-eq
returns-then-eq c =
    let s = c.args.self.now in
    let b = c.args.block.number in
    let i = c.in-Some.node in
    let q = c.loop-place.invariant in
    let small : i < 256 = omega arith in
    let at_i : Search s b i = subst (Search s b) (ap link_number c.in-Some.is) q.search in
    let k : Block = c.index-self-from.result in
    let d : Node = record { block = k; content = Free } in
    let there = ap (λ (n : Node). n.block) (paired_get s.blocks s.contents i k Free d (omega arith) (omega arith)) in
    let own = is_it s b i d at_i small (ap (λ (x : Block). eqb x.number b) there ∙ ap (λ j. eqb (get_or s.blocks j k).number b) (sym c.from.ensures) ∙ sym c.eq.ensures ∙ c.if-eq.true) in
    let (less, last, rest) = after s b c.loop-place.looked i at_i small (q.passed ∙ ap (walk (next_in s) 256) (ap link_number c.in-Some.is)) in
    let most = chain_count s (bucket_of b) (omega arith) in
    record {
      found = record {
        node = at_it s b i at_i small own;
        block = linked_block s b i at_i small own;
        place = placed s b c.loop-place.looked i last own;
        some = omega arith;
        most = omega arith;
      };
      place = q.place;
      link = c.in-Some.is;
    }

pub loop-place-smaller : goal.loop-place-smaller
loop-place-smaller c =
    let s = c.args.self.now in
    let b = c.args.block.number in
    let i = c.in-Some.node in
    let at_i : Search s b i = subst (Search s b) (ap link_number c.in-Some.is) c.loop-place.invariant.search in
    let d = shorter s b i at_i (omega arith) in
    let e = ap (λ k. length (walk (next_in s) 256 k)) (ap link_number c.in-Some.is) in
    let f = ap (λ k. length (walk (next_in s) 256 (next_in s k))) c.from-place.ensures in
    omega arith

pub loop-place-preserved : goal.loop-place-preserved
loop-place-preserved c =
    let s = c.args.self.now in
    let b = c.args.block.number in
    let i = c.in-Some.node in
    let q = c.loop-place.invariant in
    let small : i < 256 = omega arith in
    let at_i : Search s b i = subst (Search s b) (ap link_number c.in-Some.is) q.search in
    let (less, last, rest) = after s b c.loop-place.looked i at_i small (q.passed ∙ ap (walk (next_in s) 256) (ap link_number c.in-Some.is)) in
    let e = c.from-place.ensures in
    let k : Block = c.index-self-from.result in
    let d : Node = record { block = k; content = Free } in
    let there = ap (λ (n : Node). n.block) (paired_get s.blocks s.contents i k Free d (omega arith) (omega arith)) in
    record {
      search = subst (λ k. Search s b (next_in s k)) (sym c.from-place.ensures)
          (goes_past s b i d at_i small (ap (λ (x : Block). eqb x.number b) there ∙ ap (λ j. eqb (get_or s.blocks j k).number b) (sym c.from.ensures) ∙ sym c.eq.ensures ∙ c.if-eq.false));
      place = inr (omega arith, ap (home_in s) c.from-place.ensures ∙ home s b i at_i small);
      passed = rest ∙ ap (λ k. walk (next_in s) 256 (next_in s k)) (sym c.from-place.ensures);
    }

pub returns : goal.returns
returns c =
    let s = c.args.self.now in
    let b = c.args.block.number in
    let e = ap link_number c.in_default.is in
    let none = ends s b (next_in s c.loop-place.place) c.loop-place.invariant.search (omega arith) in
    (none, placeless s b (no_node s b none))
