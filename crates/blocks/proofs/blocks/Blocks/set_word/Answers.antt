use Rattle.std.proofs.Common.{◌≡◌, ◌^◌, None, is_some, ltb, ap, ◌∙◌, sym, arith, refl}
use Rattle.chains.specs.Chains.{body_of}
use Rattle.chains.specs.Counting.{how_many}
use Rattle.blocks.specs.Shapes.{word_pages}
use Rattle.blocks.specs.declared.fault.NoRoom.TheVariants.{NoNode}
use Rattle.blocks.specs.declared.shape.Shape.TheVariants.{Empty, Compact, Mixed}
use Rattle.blocks.proofs.Pages.{mixed_some, word_some}
use Rattle.blocks.proofs.RowPages.{row_made}
use Rattle.blocks.proofs.Ordered.{goes, comes}
use Rattle.blocks.proofs.Rooms.{sets, lacks_node, lacks_row, kept, kept_same}
use Rattle.blocks.proofs.Same.{same_blocks, refused}
use Rattle.blocks.proofs.Turns.{no_word, some_body, none_yet, emptied, worded, given_row, shaped, no_body, inserted_word, inserted_row}
use Rattle.blocks.proofs.blocks.Blocks.set_word.Goals.{else-is_none-via-then-is_none+else-count-eq256, else-is_none-via-else-is_none}
use Rattle.blocks.proofs.blocks.Blocks.set_word.Goals as goal

pub invariant_of-self : goal.invariant_of-self
invariant_of-self c =
    let s = c.args.self.now in
    let k = kept s _ _ _ _ _ _ _ (emptied s c.args.block c.args.offset c.args.word c.args.to c.requires c.remove.new.self c.remove.ensures.held c.in-Empty.ensures) in
    record { lent = k.lent; taken = k.taken; narrow = k.narrow; mixed = k.mixed }

pub returns-in-Empty-clause-held : goal.returns-in-Empty-clause-held
returns-in-Empty-clause-held c =
    let s = c.args.self.now in
    sets s _ _ _ _ _ _ _ (emptied s c.args.block c.args.offset c.args.word c.args.to c.requires c.remove.new.self c.remove.ensures.held c.in-Empty.ensures)

pub invariant_of-self-in-Compact : goal.invariant_of-self-in-Compact
invariant_of-self-in-Compact c =
    let s = c.args.self.now in
    let k = inserted_word s c.args.block c.args.offset c.args.word c.args.to c.requires c.insert.new.self c.in-Compact.grown (omega arith) c.in-Compact.ensures c.insert.result c.insert.ensures.held in
    record { lent = k.lent; taken = k.taken; narrow = k.narrow; mixed = k.mixed }

pub returns-in_err-insert-in-Compact-clause-held : goal.returns-in_err-insert-in-Compact-clause-held
returns-in_err-insert-in-Compact-clause-held c =
    let s = c.args.self.now in
    let ((none, full), same) = c.in_err-insert-in-Compact.ensures.held in
    let h = shaped s c.args.block c.args.offset c.args.word c.args.to c.requires (Compact c.in-Compact.grown) c.in-Compact.ensures in
    let (o, l, t, e) = word_some c.in-Compact.grown (omega arith) in
    refused c.from_residual.result _ _ NoNode c.from_residual.ensures.1
    (lacks_node s c.args.block.number c.args.offset.number c.args.to c.args.offset.within none (o, l, t, h o l ∙ e) (sym full), same_blocks _ s same refl)

pub returns-in_ok-insert-in-Compact-clause-held : goal.returns-in_ok-insert-in-Compact-clause-held
returns-in_ok-insert-in-Compact-clause-held c =
    let s = c.args.self.now in
    sets s _ _ _ _ _ _ _ (worded s c.args.block c.args.offset c.args.word c.args.to c.requires c.insert.new.self c.in-Compact.grown (omega arith) c.in_ok-insert-in-Compact.ensures.held.1 c.in-Compact.ensures)

pub returns-then-count-eq256-clause-held : goal.returns-then-count-eq256-clause-held
returns-then-count-eq256-clause-held c =
    let s = c.args.self.now in
    let h = shaped s c.args.block c.args.offset c.args.word c.args.to c.requires Mixed c.in-Mixed.ensures in
    let none = no_body s c.args.block c.args.offset c.args.word c.args.to c.requires (no_word c.args.word c.if-is_none.ensures) in
    (lacks_node s c.args.block.number c.args.offset.number c.args.to c.args.offset.within none (mixed_some _ h) (sym c.count.ensures ∙ c.if-count-eq256.true), refl)

pub invariant_of-self-in_default : goal.invariant_of-self-in_default
invariant_of-self-in_default c =
    let (none, same) = c.in_default.ensures in
    let k = kept_same c.args.self.now c.args.self.now.chains c.take.new.self refl same in
    record { lent = k.lent; taken = k.taken; narrow = k.narrow; mixed = k.mixed }

pub returns-in_default-clause-held : goal.returns-in_default-clause-held
returns-in_default-clause-held c =
    let s = c.args.self.now in
    let (none, same) = c.in_default.ensures in
    let h = shaped s c.args.block c.args.offset c.args.word c.args.to c.requires Mixed c.in-Mixed.ensures in
    let yet = none_yet s c.args.block c.args.offset c.args.word c.args.to c.requires in
    let room : body_of s.chains c.args.block.number ≡ None → how_many (λ b. is_some (body_of s.chains b)) (2 ^ 48) ≡ 256 → ⊥ = elim c.else-is_none.branch [
      | else-is_none-via-then-is_none+else-count-eq256 w ↦ (λ n e. w.if-count-eq256.false (w.count.ensures ∙ e))
      | else-is_none-via-else-is_none w ↦ (λ n e. some_body c.args.word w.if-is_none.ensures (sym c.requires ∙ n))
    ] in
    (lacks_row s c.args.block.number c.args.offset.number c.args.to c.args.offset.within (ap (λ r. ltb r 128) yet) h none room, same_blocks _ s refl same)

pub invariant_of-self-in-Mixed : goal.invariant_of-self-in-Mixed
invariant_of-self-in-Mixed c =
    let s = c.args.self.now in
    let (last, rows) = c.in-Some.ensures in
    let room : body_of s.chains c.args.block.number ≡ None → how_many (λ b. is_some (body_of s.chains b)) (2 ^ 48) ≡ 256 → ⊥ = elim c.else-is_none.branch [
      | else-is_none-via-then-is_none+else-count-eq256 w ↦ (λ n e. w.if-count-eq256.false (w.count.ensures ∙ e))
      | else-is_none-via-else-is_none w ↦ (λ n e. some_body c.args.word w.if-is_none.ensures (sym c.requires ∙ n))
    ] in
    let t = inserted_row s c.args.block c.args.offset c.args.word c.args.to c.requires c.insert-in-Mixed.new.self c.take.new.self c.in-Some.number c.set.new.self c.in-Mixed.ensures last rows
    (row_made (word_pages c.args.word) c.args.offset.number c.args.to c.of_word-row.result c.set.new.self c.of_word-row.ensures c.set.ensures) room c.insert-in-Mixed.result c.insert-in-Mixed.ensures.held in
    let k = kept s _ _ _ _ _ _ _ t in
    record { lent = k.lent; taken = k.taken; narrow = k.narrow; mixed = k.mixed }

pub returns-in_ok-insert-in-Mixed-clause-held : goal.returns-in_ok-insert-in-Mixed-clause-held
returns-in_ok-insert-in-Mixed-clause-held c =
    let s = c.args.self.now in
    let (last, rows) = c.in-Some.ensures in
    sets s _ _ _ _ _ _ _ (given_row s c.args.block c.args.offset c.args.word c.args.to c.requires c.insert-in-Mixed.new.self c.take.new.self.rows c.take.new.self.spare.items c.in-Some.number c.set.new.self
    c.in_ok-insert-in-Mixed.ensures.held.1 c.in-Mixed.ensures last rows (row_made (word_pages c.args.word) c.args.offset.number c.args.to c.of_word-row.result c.set.new.self c.of_word-row.ensures c.set.ensures))

pub returns-in-Empty-clause-order : goal.returns-in-Empty-clause-order
returns-in-Empty-clause-order c =
    let s = c.args.self.now in
    let t = emptied s c.args.block c.args.offset c.args.word c.args.to c.requires c.remove.new.self c.remove.ensures.held c.in-Empty.ensures in
    goes s c.args.block.number c.args.offset.number c.args.to c.args.offset.within _ _ (sets s _ _ _ _ _ _ _ t).1 (shaped s c.args.block c.args.offset c.args.word c.args.to c.requires Empty c.in-Empty.ensures) c.remove.ensures.order

pub returns-in_ok-insert-in-Compact-clause-order : goal.returns-in_ok-insert-in-Compact-clause-order
returns-in_ok-insert-in-Compact-clause-order c =
    let s = c.args.self.now in
    let t = worded s c.args.block c.args.offset c.args.word c.args.to c.requires c.insert.new.self c.in-Compact.grown (omega arith) c.in_ok-insert-in-Compact.ensures.held.1 c.in-Compact.ensures in
    let h = shaped s c.args.block c.args.offset c.args.word c.args.to c.requires (Compact c.in-Compact.grown) c.in-Compact.ensures in
    let (o, l, u, e) = word_some c.in-Compact.grown (omega arith) in
    comes s c.args.block.number c.args.offset.number c.args.to c.args.offset.within _ _ (sets s _ _ _ _ _ _ _ t).1 (o, l, u, h o l ∙ e) c.in_ok-insert-in-Compact.ensures.order

pub returns-in_ok-insert-in-Mixed-clause-order : goal.returns-in_ok-insert-in-Mixed-clause-order
returns-in_ok-insert-in-Mixed-clause-order c =
    let s = c.args.self.now in
    let (last, rows) = c.in-Some.ensures in
    let t = given_row s c.args.block c.args.offset c.args.word c.args.to c.requires c.insert-in-Mixed.new.self c.take.new.self.rows c.take.new.self.spare.items c.in-Some.number c.set.new.self
    c.in_ok-insert-in-Mixed.ensures.held.1 c.in-Mixed.ensures last rows (row_made (word_pages c.args.word) c.args.offset.number c.args.to c.of_word-row.result c.set.new.self c.of_word-row.ensures c.set.ensures) in
    let h = shaped s c.args.block c.args.offset c.args.word c.args.to c.requires Mixed c.in-Mixed.ensures in
    comes s c.args.block.number c.args.offset.number c.args.to c.args.offset.within _ _ (sets s _ _ _ _ _ _ _ t).1 (mixed_some _ h) c.in_ok-insert-in-Mixed.ensures.order
