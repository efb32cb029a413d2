-- What a slot for pages of one block holds after some of its offsets are cleared. These are lemmas, and nothing to believe: an `impl` may
-- cite the proof of its law only from here.
use Rattle.std.specs.Prelude.{◌≡◌, ◌≢◌, ℕ, ◌+◌, ◌*◌, ◌^◌, ◌<◌, ◌⊎◌, Bool, true, false, cond, not, ◌&&◌, Some, None, Option, MatchBool, ◌==◌, nat_lt, refl}
use Rattle.std.proofs.Common.{sym, ap, ap₂, ◌∙◌, inl, inr, ⊎_elim, arith, subst}
use Rattle.std.proofs.lemmas.Bool.{cases_Bool, cases_lt, ltb-true, both_ways, eqb-true, eqb-false, eq-eqb, and_parts, and_from, cond-true, cond-false}
use Rattle.words.specs.declared.translation.Translation.{Translation}
use Rattle.words.specs.declared.address.Block.{Block}
use Rattle.words.specs.declared.compact.CompactWord.{CompactWord}
use Rattle.words.specs.declared.form.Form.TheVariants as form
use Rattle.words.specs.Layout.{bit, block_of, offset_of, page_at, offsets_in, frame_block_in, attributes_in, Meet, Offsets, minus}
use Rattle.words.specs.Reading.{translation, said}
use Rattle.words.proofs.Flip.{one_bit, high_bit, some_bit}
use Rattle.tlb.specs.declared.page_slot.PageSlot.{PageSlot}
use Rattle.tlb.specs.declared.partial_slot.PartialSlot.{PartialSlot}
use Rattle.tlb.specs.declared.partial_slot.PartialSlot.TheVariants.{Subblock, Single}
use Rattle.tlb.specs.PageSlots.{page_held}
use Rattle.tlb.specs.PartialSlots.{block_held, at_offsets, of_block, HoldsSome, AllButOffsets, Loses, Cleared}
use Rattle.tlb.specs.Choices.{none_either}
use Rattle.tlb.specs.Slots.{in_slot, Becomes}

-- a page that a subblock holds is of its block, and at an offset of its word
said_bit : (c w q : ℕ) → cond (c == block_of q) (said form.Compact w (offset_of q)) None ≢ None → (c ≡ block_of q) × (bit (offsets_in w) (offset_of q) ≡ true)
said_bit c w q h =
    ⊎_elim
    (λ i. ⊎_elim
    (λ j. (eqb-true _ _ i, j))
    (λ j. absurd (h (cond-true _ _ _ i ∙ cond-false _ _ _ j)))
    (cases_Bool (bit (offsets_in w) (offset_of q))))
    (λ i. absurd (h (cond-false _ _ _ i)))
    (cases_Bool (c == block_of q))

bit_said : (c w q : ℕ) → c ≡ block_of q → bit (offsets_in w) (offset_of q) ≡ true → cond (c == block_of q) (said form.Compact w (offset_of q)) None ≢ None
bit_said c w q i j h = let e : Some _ ≡ None = sym (cond-true _ _ _ (eq-eqb c (block_of q) i) ∙ cond-true _ _ _ j) ∙ h in cc

page_held_is : (s : PageSlot) (q : ℕ) → page_held s q ≢ None → q ≡ s.page.number
page_held_is s q h =
    ⊎_elim
    (λ i. eqb-true _ _ i)
    (λ i. absurd (h (cond-false _ _ _ i)))
    (cases_Bool (q == s.page.number))

is_held_page : (s : PageSlot) → page_held s s.page.number ≢ None
is_held_page s h = let e : Some s.translation ≡ None = sym (cond-true _ _ _ (eq-eqb s.page.number s.page.number refl)) ∙ h in cc

-- the offsets of a word as wide as in the machine are below sixteen
low_bit : (w : CompactWord) → offsets_in w.bits < 2 ^ 16 → (k : ℕ) → bit (offsets_in w.bits) k ≡ true → k < 16
low_bit w narrow k e = ⊎_elim (λ l. l) (λ g. absurd (both_ways _ (high_bit 16 k (offsets_in w.bits) narrow g) e)) (cases_lt k 16)

-- a subblock holds some page
some_page : (c : Block) (w : CompactWord) → offsets_in w.bits < 2 ^ 16 → (q : ℕ) × (block_held (Subblock c w) q ≢ None)
some_page c w narrow =
    let (k, e) = some_bit 16 (offsets_in w.bits) narrow (ltb-true 0 _ (and_parts (nat_lt 0 (offsets_in w.bits)) _ w.sound).0) in
    let l = low_bit w narrow k e in
    (page_at c.number k, bit_said c.number w.bits (page_at c.number k) (omega arith) (subst (λ o. bit (offsets_in w.bits) o ≡ true) (omega arith) e))

all_of_one_block : (s : PartialSlot) (q r : ℕ) → block_held s q ≢ None → block_held s r ≢ None → block_of q ≡ block_of r
all_of_one_block (Subblock c w) q r h g = sym (said_bit c.number w.bits q h).0 ∙ (said_bit c.number w.bits r g).0
all_of_one_block (Single s) q r h g = ap block_of (page_held_is s q h ∙ sym (page_held_is s r g))

held_or_not : (o : Option Translation) → (o ≡ None → ⊥) ⊎ (o ≡ None)
held_or_not None = inr refl
held_or_not (Some t) = inl (λ e. cc)

own_parts : (s : PartialSlot) → AllButOffsets s s
own_parts (Subblock c w) = (refl, refl, refl)
own_parts (Single s) = refl

-- a slot that holds none of the pages stays
pub untouched : (picked : ℕ → Bool) (s : PartialSlot) → (HoldsSome picked (Some s) → ⊥) → Cleared picked s (Some s)
untouched picked s none = record {
  loses = record {
    pages = λ q. ⊎_elim
        (λ p. ⊎_elim (λ h. absurd (none (q, p, h))) (λ e. e ∙ sym (cond-true _ _ _ p)) (held_or_not (block_held s q)))
        (λ p. sym (cond-false _ _ _ p))
        (cases_Bool (picked q));
    empty = λ h e. absurd (none h);
    rest = own_parts s;
  };
  same = λ h. refl;
}

-- a subblock
module _ (os : ℕ) (c : Block) (w : CompactWord) where
  -- no offset is left
  pub emptied : ((k : ℕ) → minus w.bits os k ≡ false) → Loses (at_offsets os) (Subblock c w) None
  emptied none = record {
    pages = λ q. sym (
        ⊎_elim
        (λ i. ap (cond (bit os (offset_of q)) None) (cond-true _ _ _ i) ∙ each _ (bit os (offset_of q)) (bit (offsets_in w.bits) (offset_of q)) (none (offset_of q)))
        (λ i. ap (cond (bit os (offset_of q)) None) (cond-false _ _ _ i) ∙ none_either (bit os (offset_of q)))
        (cases_Bool (c.number == block_of q)));
    empty = λ h e. refl;
    rest = tt;
  }
    where
      each : (x : Option Translation) (g h : Bool) → (h && not g) ≡ false → cond g None (cond h x None) ≡ None
      each x true h e = refl
      each x false false e = refl
      each x false true e = absurd (both_ways true e refl)

  -- some offsets are left
  module _ (v : CompactWord) (narrow : offsets_in v.bits < 2 ^ 16) (left : Offsets w.bits (minus w.bits os) v.bits) where
    same_parts : (frame_block_in v.bits ≡ frame_block_in w.bits) × (attributes_in v.bits ≡ attributes_in w.bits)
    same_parts = let r = left.rest in (omega arith, omega arith)

    pages : (q : ℕ) → block_held (Subblock c v) q ≡ cond (bit os (offset_of q)) None (block_held (Subblock c w) q)
    pages q =
        ⊎_elim
        (λ i. cond-true _ _ _ i ∙ ap₂ (λ g x. cond g (Some x) None) (left.each (offset_of q)) parts ∙ each _ (bit os (offset_of q)) (bit (offsets_in w.bits) (offset_of q)) ∙ sym (ap (cond (bit os (offset_of q)) None) (cond-true _ _ _ i)))
        (λ i. cond-false _ _ _ i ∙ sym (ap (cond (bit os (offset_of q)) None) (cond-false _ _ _ i) ∙ none_either (bit os (offset_of q))))
        (cases_Bool (c.number == block_of q))
      where
        parts : translation (frame_block_in v.bits * 16 + offset_of q) (attributes_in v.bits) ≡ translation (frame_block_in w.bits * 16 + offset_of q) (attributes_in w.bits)
        parts = ap₂ (λ x y. translation (x * 16 + offset_of q) y) same_parts.0 same_parts.1

        each : (x : Translation) (g h : Bool) → cond (h && not g) (Some x) None ≡ cond g None (cond h (Some x) None)
        each x true true = refl
        each x true false = refl
        each x false true = refl
        each x false false = refl

    pub shrunk : Loses (at_offsets os) (Subblock c w) (Some (Subblock c v))
    shrunk = record {
      pages = pages;
      empty = λ h e. let (q, g) = some_page c v narrow in absurd (g (e q));
      rest = (refl, same_parts.0, same_parts.1);
    }

-- a single page
pub single_gone : (os : ℕ) (s : PageSlot) → bit os (offset_of s.page.number) ≡ true → Loses (at_offsets os) (Single s) None
single_gone os s e = record {
  pages = λ q. sym (
      ⊎_elim
      (λ i. cond-true _ _ _ (ap (λ x. bit os (offset_of x)) (eqb-true _ _ i) ∙ e))
      (λ i. ap (cond (bit os (offset_of q)) None) (cond-false _ _ _ i) ∙ none_either (bit os (offset_of q)))
      (cases_Bool (q == s.page.number)));
  empty = λ h e. refl;
  rest = tt;
}

pub single_stays : (os : ℕ) (s : PageSlot) → bit os (offset_of s.page.number) ≡ false → Loses (at_offsets os) (Single s) (Some (Single s))
single_stays os s e = (untouched (at_offsets os) (Single s) (λ (q, p, h). both_ways _ (ap (λ x. bit os (offset_of x)) (page_held_is s q h) ∙ e) p)).loses

-- the same pages, picked in another way
pub picked_so : (f g : ℕ → Bool) (s : PartialSlot) (u : Option PartialSlot) → ((q : ℕ) → block_held s q ≢ None → f q ≡ g q) → Loses f s u → Loses g s u
picked_so f g s u same c = record {
  pages = λ q. c.pages q ∙ ⊎_elim (λ h. ap (λ x. cond x None (block_held s q)) (same q h)) (λ e. ap (cond (f q) None) e ∙ none_either (f q) ∙ sym (ap (cond (g q) None) e ∙ none_either (g q))) (held_or_not (block_held s q));
  empty = λ (q, p, h). c.empty (q, same q h ∙ p, h);
  rest = c.rest;
}

-- where the slot holds a page of the block, all that it holds are of the block
pub in_block : (b os : ℕ) (s : PartialSlot) (u : Option PartialSlot) → HoldsSome (of_block b os) (Some s) → Loses (at_offsets os) s u → Loses (of_block b os) s u
in_block b os s u (r, p, g) c =
    picked_so (at_offsets os) (of_block b os) s u
    (λ q h. ap (λ x. x && at_offsets os q) (sym (eq-eqb (block_of q) b (all_of_one_block s q r h g ∙ eqb-true _ _ (and_parts (block_of r == b) _ p).0))))
    c

-- one page is the page at its offset in its block
pub one_page : (p q : ℕ) → of_block (block_of p) (2 ^ offset_of p) q ≡ (q == p)
one_page p q =
    ap (λ x. (block_of q == block_of p) && x) (one_bit (offset_of p) (offset_of q))
    ∙ ⊎_elim
    (λ e. and_from _ _ (eq-eqb _ _ (ap block_of (eqb-true q p e))) (eq-eqb _ _ (ap offset_of (eqb-true q p e))) ∙ sym e)
    (λ e. ⊎_elim
    (λ n. let (i, j) = and_parts (block_of q == block_of p) (offset_of q == offset_of p) n in
    absurd (eqb-false q p e (let a = eqb-true _ _ i in let c = eqb-true _ _ j in omega arith)))
    (λ n. n ∙ sym e)
    (cases_Bool (block_of q == block_of p && offset_of q == offset_of p)))
    (cases_Bool (q == p))

-- a subblock of the block b overlaps where its word meets the offsets
pub meeting_slot : (b os : ℕ) (c : Block) (w : CompactWord) (r : Bool) → offsets_in w.bits < 2 ^ 16 → c.number ≡ b → MatchBool r (Meet (offsets_in w.bits) os) (Meet (offsets_in w.bits) os → ⊥)
    → MatchBool r (HoldsSome (of_block b os) (Some (Subblock c w))) (HoldsSome (of_block b os) (Some (Subblock c w)) → ⊥)
meeting_slot b os c w true narrow own (k, e, o) =
    let l = low_bit w narrow k e in
    let at_k : offset_of (page_at b k) ≡ k = omega arith in (
      page_at b k,
      and_from _ _ (eq-eqb _ _ (omega arith)) (ap (bit os) at_k ∙ o),
      bit_said c.number w.bits (page_at b k) (omega arith) (ap (bit (offsets_in w.bits)) at_k ∙ e),
    )
meeting_slot b os c w false narrow own none = λ (q, p, h). none (offset_of q, (said_bit c.number w.bits q h).1, (and_parts (block_of q == b) _ p).1)

-- slots of a row, which may be empty
pub row_slot_kept : (picked : ℕ → Bool) (o : Option PartialSlot) → (HoldsSome picked o → ⊥) → Becomes (Cleared picked) o o
row_slot_kept picked None none = refl
row_slot_kept picked (Some s) none = untouched picked s none

pub row_slot_cleared : (b os : ℕ) (o u : Option PartialSlot) → HoldsSome (of_block b os) o → Becomes (Loses (at_offsets os)) o u → Becomes (Cleared (of_block b os)) o u
row_slot_cleared b os None u (q, p, h) c = absurd (h refl)
row_slot_cleared b os (Some s) u some c = record { loses = in_block b os s u some c; same = λ none. absurd (none some) }

-- one page dropped
pub page_cleared : (p : ℕ) (o u : Option PartialSlot) → HoldsSome (of_block (block_of p) (2 ^ offset_of p)) o → Becomes (Loses (at_offsets (2 ^ offset_of p))) o u → Becomes (Cleared (λ q. q == p)) o u
page_cleared p None u (q, i, h) c = absurd (h refl)
page_cleared p (Some s) u (q, i, h) c = record {
  loses = picked_so _ _ s u (λ r g. one_page p r) (in_block (block_of p) (2 ^ offset_of p) s u (q, i, h) c);
  same = λ none. absurd (none (q, sym (one_page p q) ∙ i, h));
}

pub page_kept : (p : ℕ) (o : Option PartialSlot) → (HoldsSome (of_block (block_of p) (2 ^ offset_of p)) o → ⊥) → Becomes (Cleared (λ q. q == p)) o o
page_kept p o none = row_slot_kept (λ q. q == p) o (λ (q, i, h). none (q, one_page p q ∙ i, h))

pub slot_cleared : (picked : ℕ → Bool) (o u : Option PartialSlot) → Becomes (Cleared picked) o u → (q : ℕ) → in_slot block_held u q ≡ cond (picked q) None (in_slot block_held o q)
slot_cleared picked None u e q = ap (λ x. in_slot block_held x q) e ∙ sym (none_either (picked q))
slot_cleared picked (Some s) u c q = c.loses.pages q
