use Rattle.std.proofs.Common.{length, sym, ap, ◌∙◌, is_some, arith, length-set}
use Rattle.words.specs.declared.address.Block.{Block}
use Rattle.chains.specs.Chains.{nodes_of}
use Rattle.chains.specs.Contents.{Node, body_in}
use Rattle.chains.proofs.Changes.{replaced_sound, replaced_single, replaced_kept, replaced_counted, replaced_held, replaced_puts, replaced_order, free_writes}
use Rattle.chains.proofs.Pairs.{paired_content, paired_get}
use Rattle.chains.proofs.chains.Chains.replace.Goals as goal

pub invariant_of-self : goal.invariant_of-self
invariant_of-self c =
    let s = c.args.self.now in
    let i = c.from-own.result in
    let k : Block = record { number = 0; within = omega arith } in
    let x = c.index-self-own.result in
    let d : Node = record { block = k; content = x } in
    let y = c.args.body in
    let e = c.from-own.ensures in
    let there = paired_get s.blocks s.contents i k x d (omega arith) (omega arith) in
    let p = paired_content s.blocks s.contents i k c.from.result (omega arith) in
    let own = sym (ap (λ (n : Node). n.block) there) in
    let some = ap (λ n. is_some (body_in n)) there ∙ ap is_some (sym c.body.ensures) ∙ sym c.is_some.ensures ∙ c.if-is_some.true in
    record {
      wide = ap length p ∙ length-set (nodes_of s) _ _ ∙ s.wide;
      sound = replaced_sound s i d _ y (omega arith) own c.from.ensures some _ p;
      single = replaced_single s i d _ y (omega arith) own c.from.ensures some _ p;
      kept = replaced_kept s i d _ y (omega arith) own c.from.ensures some _ p;
      counted = replaced_counted s i d _ y (omega arith) own c.from.ensures some _ p;
      held = replaced_held s i d _ y (omega arith) own c.from.ensures some _ p;
    }

pub returns-then-is_some-clause-held : goal.returns-then-is_some-clause-held
returns-then-is_some-clause-held c =
    let s = c.args.self.now in
    let i = c.from-own.result in
    let k : Block = record { number = 0; within = omega arith } in
    let x = c.index-self-own.result in
    let d : Node = record { block = k; content = x } in
    let e = c.from-own.ensures in
    let there = paired_get s.blocks s.contents i k x d (omega arith) (omega arith) in
    replaced_puts s i d _ c.args.body (omega arith) (sym (ap (λ (n : Node). n.block) there)) c.from.ensures
    (ap (λ n. is_some (body_in n)) there ∙ ap is_some (sym c.body.ensures) ∙ sym c.is_some.ensures ∙ c.if-is_some.true) _ (paired_content s.blocks s.contents i k c.from.result (omega arith)) c.args.node (omega arith)

pub returns-else-is_some-clause-held : goal.returns-else-is_some-clause-held
returns-else-is_some-clause-held c =
    let s = c.args.self.now in
    let i = c.from-own.result in
    let k : Block = record { number = 0; within = omega arith } in
    let x = c.index-self-own.result in
    let d : Node = record { block = k; content = x } in
    let e = c.from-own.ensures in
    free_writes s i d c.args.body c.args.node e (omega arith) (ap (λ n. is_some (body_in n)) (paired_get s.blocks s.contents i k x d (omega arith) (omega arith)) ∙ ap is_some (sym c.body.ensures) ∙ sym c.is_some.ensures ∙ c.if-is_some.false)

pub returns-then-is_some-clause-order : goal.returns-then-is_some-clause-order
returns-then-is_some-clause-order c =
    let s = c.args.self.now in
    let i = c.from-own.result in
    let k : Block = record { number = 0; within = omega arith } in
    let x = c.index-self-own.result in
    let d : Node = record { block = k; content = x } in
    let e = c.from-own.ensures in
    let there = paired_get s.blocks s.contents i k x d (omega arith) (omega arith) in
    replaced_order s i d _ c.args.body (omega arith) (sym (ap (λ (n : Node). n.block) there)) c.from.ensures
    (ap (λ n. is_some (body_in n)) there ∙ ap is_some (sym c.body.ensures) ∙ sym c.is_some.ensures ∙ c.if-is_some.true) _ (paired_content s.blocks s.contents i k c.from.result (omega arith))
