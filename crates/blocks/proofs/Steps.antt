-- One page of a block is mapped to another translation: what is held then, and which rows are spare.
use Rattle.std.proofs.Common.{◌≡◌, ℕ, ◌+◌, ◌^◌, ◌<◌, ◌≤◌, true, eqb, ltb, List, length, Some, None, Option, sym, refl, ap, ◌∙◌, subst, ⊎_elim, arith}
use mathlib.Core.Path.{fun_ext}
use Rattle.std.proofs.lemmas.Bool.{cases_eq, cases_lt, eq-eqb, lt-ltb}
use Rattle.words.specs.declared.translation.Translation.{Translation}
use Rattle.words.specs.Layout.{block_of, offset_of, page_at}
use Rattle.words.specs.Points.{at}
use Rattle.chains.specs.declared.chains.Chains.{Chains}
use Rattle.chains.specs.declared.node.Body.{Body}
use Rattle.chains.specs.declared.node.Body.TheVariants as body
use Rattle.chains.specs.declared.node.RowNumber.{RowNumber}
use Rattle.chains.specs.Chains.{body_of}
use Rattle.chains.specs.Counting.{how_many}
use Rattle.chains.proofs.Buckets.{no_body_past}
use Rattle.chains.proofs.Counts.{one}
use Rattle.chains.proofs.Linking.{at_here, at_there}
use Rattle.blocks.specs.declared.blocks.Blocks.{Blocks}
use Rattle.blocks.specs.declared.row.Row.{Row}
use Rattle.blocks.specs.Blocks.{held}
use Rattle.blocks.specs.Held.{row_in, is_narrow, has_row, owners, body_pages, block_pages, held_in}
use Rattle.blocks.specs.Rows.{row_pages, occurs}
use Rattle.blocks.specs.Shapes.{Pages, InPlace}
use Rattle.blocks.proofs.Counted.{tested, at_least_one, at_least_two}
use Rattle.blocks.proofs.Pages.{in_block}

-- the pages of a body that has another row than q, after the row q was written
pub other_row : (R : ℕ → Pages) (q : ℕ) (g : Pages) (y : Option Body) → (row_in y ≡ q → ⊥) → body_pages (at R q g) y ≡ body_pages R y
other_row R q g None ne = refl
other_row R q g (Some (body.Compact w)) ne = refl
other_row R q g (Some (body.Row r)) ne = at_there R q g r.number ne

module _ (s : Blocks) where
  small : (b : ℕ) → row_in (body_of s.chains b) < 128 → b < 2 ^ 48
  small b l = ⊎_elim (λ m. m) (λ g. let e = ap row_in (no_body_past s.chains b g) in absurd (omega arith)) (cases_lt b (2 ^ 48))

  -- no two blocks have one row
  pub alone : (b d r : ℕ) → row_in (body_of s.chains b) ≡ r → r < 128 → (d ≡ b → ⊥) → row_in (body_of s.chains d) ≡ r → ⊥
  alone b d r e l ne f =
      let t = at_least_two (λ k. eqb (row_in (body_of s.chains k)) r) b d (2 ^ 48) (small b (omega arith)) (small d (omega arith)) ne (eq-eqb _ r e) (eq-eqb _ r f) in
      let i = s.lent r l in
      omega arith

  -- no block has a spare row
  pub not_spare : (d r : ℕ) → 1 ≤ occurs r s.rows.spare.items → r < 128 → row_in (body_of s.chains d) ≡ r → ⊥
  not_spare d r o l f =
      let t = at_least_one (λ k. eqb (row_in (body_of s.chains k)) r) d (2 ^ 48) (small d (omega arith)) (eq-eqb _ r f) in
      let i = s.lent r l in
      omega arith

  -- a row that a block has is not spare, so not all rows are
  pub not_all_spare : (b r : ℕ) → row_in (body_of s.chains b) ≡ r → r < 128 → length s.rows.spare.items < 128
  not_all_spare b r e l =
      let t = at_least_one (has_row s.chains) b (2 ^ 48) (small b (omega arith)) (lt-ltb _ 128 (let q = e in omega arith)) in
      let i = s.taken in
      omega arith

-- the block b has the body y now, where the page at the offset o is mapped to x, and each other block has the pages that it had
module _ (s : Blocks) (c : Chains) (rs : List Row) (b o : ℕ) (x : Option Translation) (y : Option Body) (l : b < 2 ^ 48) (m : o < 16) (puts : body_of c ≡ at (body_of s.chains) b y)
    (others : (d : ℕ) → (d ≡ b → ⊥) → body_pages (row_pages rs) (body_of s.chains d) ≡ block_pages s.chains s.rows.rows d)
    (here : (k : ℕ) → k < 16 → body_pages (row_pages rs) y k ≡ at (block_pages s.chains s.rows.rows b) o x k) where
  own : body_of c b ≡ y
  own = ap (λ f. f b) puts ∙ at_here (body_of s.chains) b y b refl

  apart : (d : ℕ) → (d ≡ b → ⊥) → body_of c d ≡ body_of s.chains d
  apart d ne = ap (λ f. f d) puts ∙ at_there (body_of s.chains) b y d ne

  pages_apart : (d : ℕ) → (d ≡ b → ⊥) → block_pages c rs d ≡ block_pages s.chains s.rows.rows d
  pages_apart d ne = ap (body_pages (row_pages rs)) (apart d ne) ∙ others d ne

  pub held_after : held_in c rs ≡ at (held s) (page_at b o) x
  held_after = fun_ext (λ p. ⊎_elim (λ e. within p e) (λ ne. outside p ne) (cases_eq (block_of p) b))
    where
      outside : (p : ℕ) → (block_of p ≡ b → ⊥) → held_in c rs p ≡ at (held s) (page_at b o) x p
      outside p ne =
          let (i, j) = in_block b o m in
          ap (λ f. f (offset_of p)) (pages_apart (block_of p) ne) ∙ sym (at_there (held s) (page_at b o) x p (λ q. ne (ap block_of q ∙ i)))

      within : (p : ℕ) → block_of p ≡ b → held_in c rs p ≡ at (held s) (page_at b o) x p
      within p e =
          let start : held_in c rs p ≡ at (block_pages s.chains s.rows.rows b) o x (offset_of p) =
          ap (λ d. block_pages c rs d (offset_of p)) e ∙ ap (λ z. body_pages (row_pages rs) z (offset_of p)) own ∙ here (offset_of p) (omega arith) in
          ⊎_elim
          (λ q. start ∙ at_here (block_pages s.chains s.rows.rows b) o x (offset_of p) q ∙ sym (at_here (held s) (page_at b o) x p (let z : p ≡ page_at b o = omega arith in z)))
          (λ ne. start ∙ at_there (block_pages s.chains s.rows.rows b) o x (offset_of p) ne ∙ ap (λ d. block_pages s.chains s.rows.rows d (offset_of p)) (sym e)
          ∙ sym (at_there (held s) (page_at b o) x p (λ q. ne (ap offset_of q ∙ (in_block b o m).1))))
          (cases_eq (offset_of p) o)

  pub narrow_after : is_narrow y ≡ true → (d : ℕ) → is_narrow (body_of c d) ≡ true
  narrow_after n d = ⊎_elim (λ e. ap (λ k. is_narrow (body_of c k)) e ∙ ap is_narrow own ∙ n) (λ ne. ap is_narrow (apart d ne) ∙ s.narrow d) (cases_eq d b)

  pub mixed_after : (ltb (row_in y) 128 ≡ true → (k a : ℕ) → InPlace (body_pages (row_pages rs) y) k a → ⊥) → (d k a : ℕ) → has_row c d ≡ true → InPlace (block_pages c rs d) k a → ⊥
  mixed_after h d k a t p = ⊎_elim
      (λ e. let z = ap (body_of c) e ∙ own in h (ap (λ v. ltb (row_in v) 128) (sym z) ∙ t) k a (subst (λ v. InPlace (body_pages (row_pages rs) v) k a) z p))
      (λ ne. s.mixed d k a (ap (λ v. ltb (row_in v) 128) (sym (apart d ne)) ∙ t) (subst (λ f. InPlace f k a) (pages_apart d ne) p))
      (cases_eq d b)

  -- as many rows are in use as before, but for those of the block
  module _ (spare : List RowNumber) (each : (i : ℕ) → i < 128 → occurs i spare + one (eqb (row_in y) i) ≡ occurs i s.rows.spare.items + one (eqb (row_in (body_of s.chains b)) i))
      (all : length spare + one (ltb (row_in y) 128) ≡ length s.rows.spare.items + one (ltb (row_in (body_of s.chains b)) 128)) where
    pub lent_after : (i : ℕ) → i < 128 → occurs i spare + owners c i ≡ 1
    lent_after i n =
        let e = ap (λ f. how_many (λ d. eqb (row_in (f d)) i) (2 ^ 48)) puts in
        let t = tested (body_of s.chains) b y (λ v. eqb (row_in v) i) (2 ^ 48) l in
        let q = each i n in
        let r = s.lent i n in
        omega arith

    pub taken_after : length spare + how_many (has_row c) (2 ^ 48) ≡ 128
    taken_after =
        let e = ap (λ f. how_many (λ d. ltb (row_in (f d)) 128) (2 ^ 48)) puts in
        let t = tested (body_of s.chains) b y (λ v. ltb (row_in v) 128) (2 ^ 48) l in
        let r = s.taken in
        omega arith
