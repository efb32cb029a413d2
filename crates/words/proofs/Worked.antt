-- The worked values of the formats.
use Rattle.std.proofs.Common.{◌≡◌, ℕ, ◌+◌, ◌%◌, ◌^◌, true, false, cond, eqb, Some, None, Option, sym, refl, ap, ◌∙◌, subst, ⊎_elim, arith}
use mathlib.Core.Path.{fun_ext}
use Rattle.std.proofs.lemmas.Bool.{cases_Bool, eqb-true, cond-true, cond-false, eq-eqb}
use Rattle.words.specs.declared.translation.Translation.{Translation}
use Rattle.words.specs.Points.{at}
use Rattle.words.specs.Layout.{block_of, offset_of, page_at}
use Rattle.words.specs.Reading.{translation}
use Rattle.words.specs.Blocks.{Mapping, Placed, Compact}
use Rattle.words.specs.Examples.{unmapped, single, whole, protected, restored, released, Examples}

-- a page at the offset o is on that offset of the frame block k, with the attributes a
abbrev Sits : ℕ → ℕ → ℕ → Translation → Type 0
Sits k a o t = (offset_of t.frame ≡ o) × (block_of t.frame ≡ k) × (t.attributes ≡ a)

some_is : (x y : Translation) → Some x ≡ Some y → x ≡ y
some_is x y e = cc

none_some : (t : Translation) → None ≡ Some t → ⊥
none_some t e = let z : ◌≡◌ {A = ℕ} 0 1 = cc in omega arith

-- one page more, or one less, in a placed block
placed_at : (m : Mapping) (b k a p : ℕ) (x : Option Translation) → Placed m b k a → ((o : ℕ) (t : Translation) → page_at b o ≡ p → x ≡ Some t → Sits k a o t) → Placed (at m p x) b k a
placed_at m b k a p x old new o t h e =
    ⊎_elim
    (λ i. new o t (eqb-true (page_at b o) p i) (sym (cond-true _ x (m (page_at b o)) i) ∙ e))
    (λ i. old o t h (sym (cond-false _ x (m (page_at b o)) i) ∙ e))
    (cases_Bool (eqb (page_at b o) p))

at_twice : (m : Mapping) (p : ℕ) (x y : Option Translation) → at (at m p x) p y ≡ at m p y
at_twice m p x y = fun_ext (λ q. elim (eqb q p) as (λ v. cond v y (cond v x (m q)) ≡ cond v y (m q)) [ true ↦ refl | false ↦ refl ])

nothing_placed : (k a : ℕ) → Placed unmapped 4 k a
nothing_placed k a o t h e = absurd (none_some t e)

sits_0x41 : (o : ℕ) (t : Translation) → page_at 4 o ≡ 0x41 → Some (translation 0x1001 3) ≡ Some t → Sits 0x100 3 o t
sits_0x41 o t i e =
    let z = some_is (translation 0x1001 3) t e in
    let f : t.frame ≡ 0x1001 = ap (λ (u : Translation). u.frame) (sym z) in
    let a : t.attributes ≡ 3 = ap (λ (u : Translation). u.attributes) (sym z) in
    (omega arith, omega arith, a)

pub single_placed : Placed (single 0x1001) 4 0x100 3
single_placed = placed_at unmapped 4 0x100 3 0x41 (Some (translation 0x1001 3)) (nothing_placed 0x100 3) sits_0x41

pub whole_placed : Placed whole 4 0x100 3
whole_placed o t h e =
    let i : eqb (block_of (page_at 4 o)) 4 ≡ true = eq-eqb _ 4 (omega arith) in
    let z = some_is (translation (0x1000 + offset_of (page_at 4 o)) 3) t (sym (cond-true _ (Some (translation (0x1000 + offset_of (page_at 4 o)) 3)) None i) ∙ e) in
    let f : t.frame ≡ (0x1000 + offset_of (page_at 4 o)) % 2 ^ 28 = ap (λ (u : Translation). u.frame) (sym z) in
    let a : t.attributes ≡ 3 = ap (λ (u : Translation). u.attributes) (sym z) in
    (omega arith, omega arith, a)

pub restored_placed : Placed restored 4 0x100 3
restored_placed =
    subst (λ m. Placed m 4 0x100 3) (sym (at_twice whole 0x41 (Some (translation 0x1001 1)) (Some (translation 0x1001 3))))
    (placed_at whole 4 0x100 3 0x41 (Some (translation 0x1001 3)) whole_placed sits_0x41)

pub released_placed : Placed released 4 0x100 3
released_placed = placed_at restored 4 0x100 3 0x41 None restored_placed (λ o t i e. absurd (none_some t e))

pub misplaced : Compact (single 0x1000) 4 → ⊥
misplaced (k, a, placed) = let (i, j, l) = placed 1 (translation 0x1000 3) (omega arith) refl in omega arith

pub mixed : Compact protected 4 → ⊥
mixed (k, a, placed) =
    let (i, j, l) = placed 1 (translation 0x1001 1) (omega arith) refl in
    let (u, v, w) = placed 2 (translation 0x1002 3) (omega arith) refl in
    omega arith

pub examples : Examples
examples = record {
  low_address = (refl, refl, refl, refl);
  top_page = refl;
  top_block = refl;
  top_place = (refl, refl);
  placed_page = ((1, omega arith, (translation 0x1001 3, refl)), (0x100, 3, single_placed, refl));
  misplaced_page = (misplaced, refl);
  whole_block = ((1, omega arith, (translation 0x1001 3, refl)), (0x100, 3, whole_placed, refl));
  one_protected = (mixed, refl);
  no_write = refl;
  protected_back = ((1, omega arith, (translation 0x1001 3, refl)), (0x100, 3, restored_placed, refl));
  one_released = ((2, omega arith, (translation 0x1002 3, refl)), (0x100, 3, released_placed, refl));
  read_there = refl;
  read_absent = refl;
  no_offset_bit = λ o. refl;
  no_top_bit = λ o. refl;
  zero_words = (refl, refl);
  first_frame = refl;
  whole_numbers = refl;
}
