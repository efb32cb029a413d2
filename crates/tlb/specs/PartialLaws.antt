-- Why no page has two of the slots for pages of one block: the slot of an entry says what the entry says, and these pages are cleared in
-- every other slot.
use Rattle.std.specs.Prelude.{◌≡◌, ℕ, true, cond, Some, None, IsSomeAnd, Option, List, refl}
use Rattle.std.proofs.Common.{eqb, sym, ap, ◌∙◌, ⊎_elim, inr, arith}
use Rattle.std.proofs.lemmas.Bool.{cases_Bool, eqb-true, eqb-false, eq-eqb, ne_eqb, and_from, cond-true, cond-false}
use Rattle.std.specs.Result.{result_ok}
use Rattle.words.specs.declared.translation.Translation.{Translation}
use Rattle.words.specs.declared.compact.CompactWord.{CompactWord}
use Rattle.words.specs.declared.form.Form.TheVariants as form
use Rattle.words.specs.declared.word.Word.{Word}
use Rattle.words.specs.declared.word.Word.TheVariants.{Compact, Full}
use Rattle.words.specs.Layout.{bit, block_of, offset_of, offsets_in}
use Rattle.words.specs.Reading.{form_number, answer_of, said, reading}
use Rattle.words.specs.Words.{form_of, bits_of}
use Rattle.words.proofs.Blocks.{value_reading}
use Rattle.tlb.specs.declared.entry.Entry.{Entry}
use Rattle.tlb.specs.declared.partial_slot.PartialSlot.{PartialSlot}
use Rattle.tlb.specs.declared.partial_slot.PartialSlot.TheVariants.{Subblock, Single}
use Rattle.tlb.specs.Entries.{reaches, entry_says, word_offsets, entry_offsets}
use Rattle.tlb.specs.PartialSlots.{block_held, block_dropped, of_block, IsSlot, BlockRoom}
use Rattle.tlb.specs.Choices.{kept, left}
use Rattle.tlb.specs.Slots.{in_slot, SlotLaws, RoomFor, EnterLaws}
use Rattle.tlb.specs.Clearing.{one_page, slot_cleared}

-- what a word at the page p says of the page q, as an entry has it
abbrev says : Word → ℕ → ℕ → Option Translation
says w p q = cond (reaches (form_of w) p q) (result_ok (reading (form_number (form_of w)) (bits_of w) (offset_of q))) None

ok_answer : (x : Option Translation) → result_ok (answer_of x) ≡ x
ok_answer None = refl
ok_answer (Some t) = refl

says_said : (w : Word) (p q : ℕ) → says w p q ≡ cond (reaches (form_of w) p q) (said (form_of w) (bits_of w) (offset_of q)) None
says_said w p q = ap (λ x. cond (reaches (form_of w) p q) x None) (ap result_ok (value_reading w (offset_of q) (omega arith)) ∙ ok_answer (said (form_of w) (bits_of w) (offset_of q)))

-- what an entry says of a page is among the pages that it clears
said_named : (w : Word) (p q : ℕ) (t : Translation) → says w p q ≡ Some t → of_block (block_of p) (word_offsets (form_of w) p (bits_of w)) q ≡ true
said_named (Compact c) p q t e =
    let (i, j) = kept (eqb (block_of q) (block_of p)) (said form.Compact c.bits (offset_of q)) t (sym (says_said (Compact c) p q) ∙ e) in
    and_from (eqb (block_of q) (block_of p)) (bit (offsets_in c.bits) (offset_of q)) i (kept (bit (offsets_in c.bits) (offset_of q)) _ t j).0
said_named (Full f) p q t e =
    let (i, j) = kept (eqb q p) (said form.Full f.bits (offset_of q)) t (sym (says_said (Full f) p q) ∙ e) in
    one_page p q ∙ i

eqb_sym : (m n : ℕ) → eqb m n ≡ eqb n m
eqb_sym m n =
    ⊎_elim
    (λ e. e ∙ sym (eq-eqb n m (sym (eqb-true m n e))))
    (λ e. e ∙ sym (ne_eqb n m (λ d. eqb-false m n e (sym d))))
    (cases_Bool (eqb m n))

compact_slot : (w : Word) (p b : ℕ) (c : CompactWord) → w ≡ Compact c → b ≡ block_of p → (q : ℕ) → cond (eqb b (block_of q)) (said form.Compact c.bits (offset_of q)) None ≡ says w p q
compact_slot w p b c e i q =
    ap (λ x. cond x (said form.Compact c.bits (offset_of q)) None) (ap (λ x. eqb x (block_of q)) i ∙ eqb_sym (block_of p) (block_of q))
    ∙ sym (says_said (Compact c) p q) ∙ ap (λ x. says x p q) (sym e)

full_slot : (w : Word) (p r : ℕ) (t : Translation) → form_of w ≡ form.Full → says w p r ≡ Some t → (q : ℕ) → cond (eqb q r) (Some t) None ≡ says w p q
full_slot (Compact c) p r t f e q = absurd (let z : ◌≡◌ {A = ℕ} 0 1 = cc in omega arith)
full_slot (Full w) p r t f e q =
    let own = eqb-true r p (kept (eqb r p) _ t e).0 in
    ⊎_elim
    (λ i. cond-true _ _ _ i ∙ sym e ∙ ap (says (Full w) p) (sym (eqb-true q r i)))
    (λ i. cond-false _ _ _ i ∙ sym (cond-false (eqb q p) _ _ (ne_eqb q p (λ d. eqb-false q r i (d ∙ sym own)))))
    (cases_Bool (eqb q r))

-- the slot of an entry says what the entry says
slot_says : (e : Entry) (p : ℕ) (t : Translation) (n : PartialSlot) → IsSlot e p t n → entry_says e p ≡ Some t → (q : ℕ) → block_held n q ≡ entry_says e q
slot_says e p t (Subblock b w) (i, j) s q = compact_slot e.word e.page.number b.number w j i q
slot_says e p t (Single n) (f, (i, j)) s q =
    ap (λ x. cond (eqb q x) (Some n.translation) None) i ∙ ap (λ x. cond (eqb q p) (Some x) None) j ∙ full_slot e.word e.page.number p t f s q

pub drops : SlotLaws block_held block_dropped (λ xs. true)
drops = record { pages = λ s p u d. d.loses.pages; empty = λ n. refl; purged = λ xs ys p k each. refl }

-- what the slot holds that took the entry in
taken_says : (e : Entry) (p : ℕ) (t : Translation) (u : Option PartialSlot) → IsSomeAnd u (IsSlot e p t) → entry_says e p ≡ Some t → (q : ℕ) → in_slot block_held u q ≡ entry_says e q
taken_says e p t (Some n) m s q = slot_says e p t n m s q
taken_says e p t None m s q = absurd m

frees : (xs : List (Option PartialSlot)) (e : Entry) (p : ℕ) (t : Translation) (place : Option ℕ) (ys : List (Option PartialSlot)) (u : Option PartialSlot) → entry_says e p ≡ Some t → BlockRoom xs e place ys → IsSomeAnd u (IsSlot e p t) → RoomFor block_held (λ zs. true) xs place ys u
frees xs e p t place ys u s (none, (long, each)) m =
    let named = of_block (block_of e.page.number) (entry_offsets e) in
    record {
      long = long;
      inside = λ k e. let z : None ≡ Some k = sym none ∙ e in cc;
      within = λ k d q x l h. (left (named q) _ x (sym (slot_cleared named _ _ (each k d l) q) ∙ h)).1;
      free = λ k d q x l away h. slot_cleared named _ _ (each k d l) q ∙ cond-true _ _ _ (said_named e.word e.page.number q x (sym (taken_says e p t u m s q) ∙ h));
      keeps = λ i goes. refl;
    }

pub enters : EnterLaws block_held (λ xs. true) (λ xs e p. BlockRoom xs e) (λ o e p t u. IsSomeAnd u (IsSlot e p t))
enters = record {
  says = λ xs e p t place ys u once k s r m. record {
    own = taken_says e p t u m s p ∙ s;
    within = λ q x h. inr (sym (taken_says e p t u m s q) ∙ h);
  };
  frees = λ xs e p t place ys u once k s. frees xs e p t place ys u s;
}
