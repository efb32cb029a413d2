use Rattle.std.proofs.Common.{◌∷◌, ◌++◌, [], is_some, refl, ap, ◌∙◌, subst, sym, arith}
use Rattle.arrayvec.specs.ArrayVec.{array_vec_len}
use Rattle.blocks.specs.Held.{row_in}
use Rattle.blocks.specs.Rows.{row_pages}
use Rattle.blocks.specs.Shapes.{Shapes}
use Rattle.blocks.specs.declared.shape.Shape.TheVariants.{Empty, Compact, Mixed}
use Rattle.blocks.proofs.Ordered.{goes, remains}
use Rattle.blocks.proofs.Pages.{word_some, mixed_some}
use Rattle.blocks.proofs.Rooms.{sets, kept}
use Rattle.blocks.proofs.Steps.{not_all_spare}
use Rattle.blocks.proofs.Turns.{written, next_shape, emptied_row, worded_row, kept_row}
use Rattle.blocks.proofs.blocks.Blocks.set_row.Goals as goal

pub give-requires : goal.give-requires
give-requires c =
    let s = c.args.self.now in
    let r = c.args.row in
    let l = not_all_spare s c.args.block.number r.number (ap row_in c.requires.1) r.within in
    let e = ap array_vec_len c.set.ensures.spare in
    omega arith

pub give-requires-in-Compact : goal.give-requires-in-Compact
give-requires-in-Compact c =
    let s = c.args.self.now in
    let r = c.args.row in
    let l = not_all_spare s c.args.block.number r.number (ap row_in c.requires.1) r.within in
    let e = ap array_vec_len c.set.ensures.spare in
    omega arith

pub invariant_of-self : goal.invariant_of-self
invariant_of-self c =
    let s = c.args.self.now in
    let set = ap row_pages c.give.ensures.rows ∙ c.set.ensures.pages in
    let last = c.give.ensures.spare ∙ ap (λ v. v.items ++ c.args.row ∷ []) c.set.ensures.spare in
    let t = emptied_row s c.args.block c.args.offset c.args.row c.args.to c.requires.1 c.give.new.self.rows set c.remove.new.self c.give.new.self.spare.items c.remove.ensures.held
    (subst (λ rs. Shapes Empty (row_pages rs c.args.row.number)) (sym c.give.ensures.rows) c.in-Empty.ensures) last in
    let k = kept s _ _ _ _ _ _ _ t in
    record { lent = k.lent; taken = k.taken; narrow = k.narrow; mixed = k.mixed }

pub invariant_of-self-in-Compact : goal.invariant_of-self-in-Compact
invariant_of-self-in-Compact c =
    let s = c.args.self.now in
    let give = c.give-in-Compact in
    let set = ap row_pages give.ensures.rows ∙ c.set.ensures.pages in
    let last = give.ensures.spare ∙ ap (λ v. v.items ++ c.args.row ∷ []) c.set.ensures.spare in
    let puts = written s.chains c.args.node _ c.replace.new.self c.args.block.number c.requires.0 c.replace.ensures.held in
    let t = worded_row s c.args.block c.args.offset c.args.row c.args.to c.requires.1 give.new.self.rows set c.replace.new.self give.new.self.spare.items c.in-Compact.word (omega arith) puts
    (subst (λ rs. Shapes (Compact c.in-Compact.word) (row_pages rs c.args.row.number)) (sym give.ensures.rows) c.in-Compact.ensures) last in
    let k = kept s _ _ _ _ _ _ _ t in
    record { lent = k.lent; taken = k.taken; narrow = k.narrow; mixed = k.mixed }

pub invariant_of-self-in-Mixed : goal.invariant_of-self-in-Mixed
invariant_of-self-in-Mixed c =
    let s = c.args.self.now in
    let t = kept_row s c.args.block c.args.offset c.args.row c.args.to c.requires.1 c.set.new.self.rows c.set.ensures.pages c.set.new.self.spare.items c.in-Mixed.ensures (ap (λ v. v.items) c.set.ensures.spare) in
    let k = kept s _ _ _ _ _ _ _ t in
    record { lent = k.lent; taken = k.taken; narrow = k.narrow; mixed = k.mixed }

pub returns-in-Empty-clause-room : goal.returns-in-Empty-clause-room
returns-in-Empty-clause-room c =
    let s = c.args.self.now in
    let set = ap row_pages c.give.ensures.rows ∙ c.set.ensures.pages in
    let last = c.give.ensures.spare ∙ ap (λ v. v.items ++ c.args.row ∷ []) c.set.ensures.spare in
    let t = emptied_row s c.args.block c.args.offset c.args.row c.args.to c.requires.1 c.give.new.self.rows set c.remove.new.self c.give.new.self.spare.items c.remove.ensures.held
    (subst (λ rs. Shapes Empty (row_pages rs c.args.row.number)) (sym c.give.ensures.rows) c.in-Empty.ensures) last in
    (sets s _ _ _ _ _ _ _ t).0

pub returns-in-Empty-clause-held : goal.returns-in-Empty-clause-held
returns-in-Empty-clause-held c =
    let s = c.args.self.now in
    let set = ap row_pages c.give.ensures.rows ∙ c.set.ensures.pages in
    let last = c.give.ensures.spare ∙ ap (λ v. v.items ++ c.args.row ∷ []) c.set.ensures.spare in
    let t = emptied_row s c.args.block c.args.offset c.args.row c.args.to c.requires.1 c.give.new.self.rows set c.remove.new.self c.give.new.self.spare.items c.remove.ensures.held
    (subst (λ rs. Shapes Empty (row_pages rs c.args.row.number)) (sym c.give.ensures.rows) c.in-Empty.ensures) last in
    (sets s _ _ _ _ _ _ _ t).1

pub returns-in-Empty-clause-order : goal.returns-in-Empty-clause-order
returns-in-Empty-clause-order c =
    let s = c.args.self.now in
    let set = ap row_pages c.give.ensures.rows ∙ c.set.ensures.pages in
    let last = c.give.ensures.spare ∙ ap (λ v. v.items ++ c.args.row ∷ []) c.set.ensures.spare in
    let t = emptied_row s c.args.block c.args.offset c.args.row c.args.to c.requires.1 c.give.new.self.rows set c.remove.new.self c.give.new.self.spare.items c.remove.ensures.held
    (subst (λ rs. Shapes Empty (row_pages rs c.args.row.number)) (sym c.give.ensures.rows) c.in-Empty.ensures) last in
    goes s c.args.block.number c.args.offset.number c.args.to c.args.offset.within _ _ (sets s _ _ _ _ _ _ _ t).1 (next_shape s c.args.block c.args.offset c.args.row c.args.to c.requires.1 c.give.new.self.rows set Empty (subst (λ rs. Shapes Empty (row_pages rs c.args.row.number)) (sym c.give.ensures.rows) c.in-Empty.ensures)) c.remove.ensures.order

pub returns-in-Compact-clause-room : goal.returns-in-Compact-clause-room
returns-in-Compact-clause-room c =
    let s = c.args.self.now in
    let give = c.give-in-Compact in
    let set = ap row_pages give.ensures.rows ∙ c.set.ensures.pages in
    let last = give.ensures.spare ∙ ap (λ v. v.items ++ c.args.row ∷ []) c.set.ensures.spare in
    let puts = written s.chains c.args.node _ c.replace.new.self c.args.block.number c.requires.0 c.replace.ensures.held in
    let t = worded_row s c.args.block c.args.offset c.args.row c.args.to c.requires.1 give.new.self.rows set c.replace.new.self give.new.self.spare.items c.in-Compact.word (omega arith) puts
    (subst (λ rs. Shapes (Compact c.in-Compact.word) (row_pages rs c.args.row.number)) (sym give.ensures.rows) c.in-Compact.ensures) last in
    (sets s _ _ _ _ _ _ _ t).0

pub returns-in-Compact-clause-held : goal.returns-in-Compact-clause-held
returns-in-Compact-clause-held c =
    let s = c.args.self.now in
    let give = c.give-in-Compact in
    let set = ap row_pages give.ensures.rows ∙ c.set.ensures.pages in
    let last = give.ensures.spare ∙ ap (λ v. v.items ++ c.args.row ∷ []) c.set.ensures.spare in
    let puts = written s.chains c.args.node _ c.replace.new.self c.args.block.number c.requires.0 c.replace.ensures.held in
    let t = worded_row s c.args.block c.args.offset c.args.row c.args.to c.requires.1 give.new.self.rows set c.replace.new.self give.new.self.spare.items c.in-Compact.word (omega arith) puts
    (subst (λ rs. Shapes (Compact c.in-Compact.word) (row_pages rs c.args.row.number)) (sym give.ensures.rows) c.in-Compact.ensures) last in
    (sets s _ _ _ _ _ _ _ t).1

pub returns-in-Compact-clause-order : goal.returns-in-Compact-clause-order
returns-in-Compact-clause-order c =
    let s = c.args.self.now in
    let give = c.give-in-Compact in
    let set = ap row_pages give.ensures.rows ∙ c.set.ensures.pages in
    let last = give.ensures.spare ∙ ap (λ v. v.items ++ c.args.row ∷ []) c.set.ensures.spare in
    let puts = written s.chains c.args.node _ c.replace.new.self c.args.block.number c.requires.0 c.replace.ensures.held in
    let t = worded_row s c.args.block c.args.offset c.args.row c.args.to c.requires.1 give.new.self.rows set c.replace.new.self give.new.self.spare.items c.in-Compact.word (omega arith) puts
    (subst (λ rs. Shapes (Compact c.in-Compact.word) (row_pages rs c.args.row.number)) (sym give.ensures.rows) c.in-Compact.ensures) last in
    let h = next_shape s c.args.block c.args.offset c.args.row c.args.to c.requires.1 give.new.self.rows set (Compact c.in-Compact.word) (subst (λ rs. Shapes (Compact c.in-Compact.word) (row_pages rs c.args.row.number)) (sym give.ensures.rows) c.in-Compact.ensures) in
    let (o, l, u, e) = word_some c.in-Compact.word (omega arith) in
    remains s c.args.block.number c.args.offset.number c.args.to c.args.offset.within _ _ (sets s _ _ _ _ _ _ _ t).1 (o, l, u, h o l ∙ e) (ap is_some c.requires.1) c.replace.ensures.order

pub returns-in-Mixed-clause-room : goal.returns-in-Mixed-clause-room
returns-in-Mixed-clause-room c =
    let s = c.args.self.now in
    let t = kept_row s c.args.block c.args.offset c.args.row c.args.to c.requires.1 c.set.new.self.rows c.set.ensures.pages c.set.new.self.spare.items c.in-Mixed.ensures (ap (λ v. v.items) c.set.ensures.spare) in
    (sets s _ _ _ _ _ _ _ t).0

pub returns-in-Mixed-clause-held : goal.returns-in-Mixed-clause-held
returns-in-Mixed-clause-held c =
    let s = c.args.self.now in
    let t = kept_row s c.args.block c.args.offset c.args.row c.args.to c.requires.1 c.set.new.self.rows c.set.ensures.pages c.set.new.self.spare.items c.in-Mixed.ensures (ap (λ v. v.items) c.set.ensures.spare) in
    (sets s _ _ _ _ _ _ _ t).1

pub returns-in-Mixed-clause-order : goal.returns-in-Mixed-clause-order
returns-in-Mixed-clause-order c =
    let s = c.args.self.now in
    let t = kept_row s c.args.block c.args.offset c.args.row c.args.to c.requires.1 c.set.new.self.rows c.set.ensures.pages c.set.new.self.spare.items c.in-Mixed.ensures (ap (λ v. v.items) c.set.ensures.spare) in
    remains s c.args.block.number c.args.offset.number c.args.to c.args.offset.within _ _ (sets s _ _ _ _ _ _ _ t).1 (mixed_some _ (next_shape s c.args.block c.args.offset c.args.row c.args.to c.requires.1 c.set.new.self.rows c.set.ensures.pages Mixed c.in-Mixed.ensures)) (ap is_some c.requires.1) refl
