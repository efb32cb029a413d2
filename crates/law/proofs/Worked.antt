-- The worked values of the page map.
use Rattle.std.proofs.Common.{◌≡◌, ℕ, ◌+◌, ◌^◌, ◌<◌, true, false, cond, eqb, Some, None, Option, refl, sym, ap, ◌∙◌, subst, ⊎_elim, arith}
use mathlib.Core.Path.{fun_ext}
use Rattle.std.proofs.lemmas.Bool.{cases_Bool, eqb-true, eq-eqb, both_ways, cond-false}
use Rattle.std.proofs.lemmas.Option.{none-some, same_Some, cond_some}
use Rattle.words.specs.declared.access.Access.TheVariants.{Read, Write, Execute}
use Rattle.words.specs.declared.translation.Translation.{Translation}
use Rattle.words.specs.Access.{allowed}
use Rattle.words.specs.Layout.{block_of, offset_of, page_at}
use Rattle.words.specs.Points.{at}
use Rattle.words.specs.Reading.{translation}
use Rattle.words.specs.Blocks.{Mapping, IsMapped, Used, Placed, Compact}
use Rattle.words.specs.Examples.{unmapped, single, whole, protected, restored, released}
use Rattle.words.proofs.Worked.{examples, single_placed, whole_placed, restored_placed, released_placed, misplaced, mixed}
use Rattle.chains.specs.Counting.{Exactly}
use Rattle.chains.proofs.Counts.{many_same, many_at, many_none}
use Rattle.blocks.proofs.Counted.{exactly_one}
use Rattle.blocks.specs.Blocks.{Rowed, UsedBlocks, RowedBlocks}
use Rattle.fills.specs.Fills.{underway}
use Rattle.law.specs.Refusals.{Denies}
use Rattle.law.specs.Examples.{WorkedExamples}

-- of the numbers below n just b has the property, or none has it
exactly_just : (b n : ℕ) (P : ℕ → Type 0) → b < n → P b → ((d : ℕ) → P d → d ≡ b) → Exactly 1 n P
exactly_just b n P l here only = record {
  test = λ d. eqb d b;
  tells = λ d i. ((λ t. subst P (sym (eqb-true d b t)) here), λ x. eq-eqb d b (only d x));
  many =
      let a = many_at (λ d. false) b true n l in
      let z = many_none (λ d. false) n (λ d i. refl) in
      let s = many_same (λ d. eqb d b) (at (λ d. false) b true) n (λ d i. elim (eqb d b) as (λ v. v ≡ cond v true false) [ true ↦ refl | false ↦ refl ]) in
      omega arith;
}

exactly_none : (n : ℕ) (P : ℕ → Type 0) → ((d : ℕ) → P d → ⊥) → Exactly 0 n P
exactly_none n P none = record {
  test = λ d. false;
  tells = λ d i. ((λ t. absurd (both_ways _ refl t)), λ x. absurd (none d x));
  many = sym (many_none (λ d. false) n (λ d i. refl));
}

-- every mapped page is one of the block 4
abbrev InBlock : Mapping → Type 0
InBlock m = (p : ℕ) → IsMapped m p → block_of p ≡ 4

unmapped_in : InBlock unmapped
unmapped_in p (t, e) = absurd (none-some t e)

whole_in : InBlock whole
whole_in p (t, e) = eqb-true _ 4 (cond_some (eqb (block_of p) 4) (translation (0x1000 + offset_of p) 3) t e).0

changed_in : (m : Mapping) (x : Option Translation) → InBlock m → InBlock (at m 0x41 x)
changed_in m x h p (t, e) =
    ⊎_elim
    (λ i. let q = eqb-true p 0x41 i in omega arith)
    (λ f. h p (t, sym (cond-false (eqb p 0x41) x (m p) f) ∙ e))
    (cases_Bool (eqb p 0x41))

single_in : (f : ℕ) → InBlock (single f)
single_in f = changed_in unmapped (Some (translation f 3)) unmapped_in

protected_in : InBlock protected
protected_in = changed_in whole (Some (translation 0x1001 1)) whole_in

restored_in : InBlock restored
restored_in = changed_in protected (Some (translation 0x1001 3)) protected_in

released_in : InBlock released
released_in = changed_in restored None restored_in

-- a map with pages of the block 4 only, by whether a compact word can have them
module _ (m : Mapping) (inside : InBlock m) where
  used_is : (b : ℕ) → Used m b → b ≡ 4
  used_is b (o, l, x) = let i = inside (page_at b o) x in omega arith

  rowed_none : (k a : ℕ) → Placed m 4 k a → RowedBlocks m 0
  rowed_none k a c = exactly_none (2 ^ 48) (Rowed m) (λ b x. x.1 (subst (Compact m) (sym (used_is b x.0)) (k, a, c)))

  module _ (t : Translation) (e : m 0x41 ≡ Some t) where
    used : Used m 4
    used = (1, omega arith, (t, e))

    used_one : UsedBlocks m 1
    used_one = exactly_just 4 (2 ^ 48) (Used m) (omega arith) used used_is

    rowed_one : (Compact m 4 → ⊥) → RowedBlocks m 1
    rowed_one n = exactly_just 4 (2 ^ 48) (Rowed m) (omega arith) (used, n) (λ b x. used_is b x.0)

-- the fill of the page 0x41 has come and gone
no_fill_left : (f : ℕ) → at (at (λ p. None) 0x41 (Some (underway f))) 0x41 None ≡ λ p. None
no_fill_left f = fun_ext (λ p. elim (eqb p 0x41) as (λ v. cond v None (cond v (Some (underway f)) None) ≡ None) [ true ↦ refl | false ↦ refl ])

read_allowed : Denies protected 0x41 1 → ⊥
read_allowed (Read, t, n, e, d) =
    let z = same_Some (translation 0x1001 1) t e in
    both_ways _ d (ap (λ (u : Translation). allowed u.attributes Read) (sym z))
read_allowed (Write, t, n, e, d) = omega arith
read_allowed (Execute, t, n, e, d) = omega arith

unused : (b : ℕ) → Used unmapped b → ⊥
unused b (o, l, (t, e)) = none-some t e

pub worked_examples : WorkedExamples
worked_examples = record {
  formats = examples;
  settled = λ p e.
      ap (λ n. record { pages = at unmapped n (Some (translation 0x1001 3)); fills = at (at (λ q. None) 0x41 (Some (underway 0x1001))) n None }) e
      ∙ ap (λ f. record { pages = single 0x1001; fills = f }) (no_fill_left 0x1001);
  protect = refl;
  protect_back = refl;
  release = refl;
  read = ((λ h. h Read refl), ((λ n. none-some (translation 0x1001 1) (sym n)), (read_allowed, tt)));
  write = ((λ h. h Write refl), ((λ n. none-some (translation 0x1001 1) (sym n)), (Write, translation 0x1001 1, refl, refl, refl)));
  settle_too_large = omega arith;
  protect_too_large = omega arith;
  settle_largest = (
    (λ l. omega arith),
    (
      (λ n. n refl),
      (
        (λ (_, _, full). let z = exactly_one 256 0 (2 ^ 48) (Used unmapped) full (exactly_none (2 ^ 48) (Used unmapped) unused) in omega arith),
        ((λ (_, _, full). let z = exactly_one 128 0 (2 ^ 48) (Rowed unmapped) full (exactly_none (2 ^ 48) (Rowed unmapped) (λ b x. unused b x.0)) in omega arith), tt),
      ),
    ),
  );
  protect_largest = (
    (λ l. omega arith),
    (
      (λ n. none-some (translation 0x1001 3) (sym n)),
      ((λ (_, _, full). let z = exactly_one 128 0 (2 ^ 48) (Rowed whole) full (rowed_none whole whole_in 0x100 3 whole_placed) in omega arith), tt),
    ),
  );
  placed_page = (used_one (single 0x1001) (single_in 0x1001) (translation 0x1001 3) refl, rowed_none (single 0x1001) (single_in 0x1001) 0x100 3 single_placed);
  misplaced_page = (used_one (single 0x1000) (single_in 0x1000) (translation 0x1000 3) refl, rowed_one (single 0x1000) (single_in 0x1000) (translation 0x1000 3) refl misplaced);
  whole_block = (used_one whole whole_in (translation 0x1001 3) refl, rowed_none whole whole_in 0x100 3 whole_placed);
  one_protected = rowed_one protected protected_in (translation 0x1001 1) refl mixed;
  protected_back = rowed_none restored restored_in 0x100 3 restored_placed;
  one_released = rowed_none released released_in 0x100 3 released_placed;
}
