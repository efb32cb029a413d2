-- Whether a block has a mapped page, as a test, and what a change of one page makes of the order of blocks.
use Rattle.std.proofs.Common.{◌≡◌, ℕ, zero, suc, ◌<◌, true, false, ◌||◌, Some, None, Option, is_some, sym, refl, ap, ap₂, ◌∙◌, ⊎_elim, arith}
use Rattle.std.proofs.lemmas.Bool.{cases_eq, cases_Bool, both_ways, or_left, or_right, or_cases, cond-true, cond-false}
use Rattle.words.specs.declared.translation.Translation.{Translation}
use Rattle.words.specs.Layout.{page_at}
use Rattle.words.specs.Blocks.{Mapping, Used}
use Rattle.words.specs.Points.{at}
use Rattle.chains.specs.declared.node.Body.{Body}
use Rattle.chains.specs.Chains.{body_of}
use Rattle.chains.specs.Orders.{Order, put_in, cut_out}
use Rattle.blocks.specs.declared.blocks.Blocks.{Blocks}
use Rattle.blocks.specs.declared.shape.Shape.TheVariants.{Empty}
use Rattle.blocks.specs.Blocks.{held, order, some_mapped, is_used, reordered}
use Rattle.blocks.specs.Held.{body_pages, block_pages}
use Rattle.blocks.specs.Rows.{row_pages}
use Rattle.blocks.specs.Shapes.{Shapes}
use Rattle.blocks.proofs.Pages.{SomePage, held_at, used_body}
use Rattle.blocks.proofs.Rooms.{grown_at, used_next}

is_mapped : (x : Option Translation) → is_some x ≡ true → (t : Translation) × (x ≡ Some t)
is_mapped (Some t) e = (t, refl)
is_mapped None e = absurd (both_ways false refl e)

module _ (m : Mapping) (b : ℕ) where
  some_true : (n o : ℕ) → o < n → is_some (m (page_at b o)) ≡ true → some_mapped m b n ≡ true
  unfolding some_mapped
  some_true zero o l t = absurd (omega arith)
  some_true (suc n) o l t = ⊎_elim
      (λ e. or_left _ _ (ap (λ k. is_some (m (page_at b k))) (sym e) ∙ t))
      (λ ne. or_right _ _ (some_true n o (omega arith) t))
      (cases_eq o n)

  some_false : (n : ℕ) → ((o : ℕ) → o < n → is_some (m (page_at b o)) ≡ false) → some_mapped m b n ≡ false
  unfolding some_mapped
  some_false zero h = refl
  some_false (suc n) h = ap₂ ◌||◌ (h n (omega arith)) (some_false n (λ o l. h o (omega arith)))

  some_page : (n : ℕ) → some_mapped m b n ≡ true → (o : ℕ) × (o < n) × (is_some (m (page_at b o)) ≡ true)
  unfolding some_mapped
  some_page zero t = absurd (both_ways false refl t)
  some_page (suc n) t = ⊎_elim (λ e. (n, omega arith, e)) (λ r. let (o, l, e) = some_page n r in (o, omega arith, e)) (or_cases _ _ t)

  -- the test tells which blocks have a mapped page
  pub used_test : Used m b → is_used m b ≡ true
  used_test (o, l, (t, e)) = some_true 16 o l (ap is_some e)

  pub test_used : is_used m b ≡ true → Used m b
  test_used t = let (o, l, e) = some_page 16 t in (o, l, is_mapped (m (page_at b o)) e)

  pub unused_test : ((o : ℕ) → o < 16 → m (page_at b o) ≡ None) → is_used m b ≡ false
  unused_test h = some_false 16 (λ o l. ap is_some (h o l))

module _ (s : Blocks) (b : ℕ) where
  -- a block has a mapped page exactly where it has a node
  pub used_held : is_used (held s) b ≡ is_some (body_of s.chains b)
  used_held = ⊎_elim
      (λ t. used_test (held s) b (used_body s b t) ∙ sym t)
      (λ f. unused_test (held s) b (λ o l. held_at s b o l ∙ none (body_of s.chains b) f o) ∙ sym f)
      (cases_Bool (is_some (body_of s.chains b)))
    where
      none : (y : Option Body) → is_some y ≡ false → (o : ℕ) → body_pages (row_pages s.rows.rows) y o ≡ None
      none None f o = refl
      none (Some y) f o = absurd (both_ways _ f refl)

  module _ (o : ℕ) (x : Option Translation) (low : o < 16) (n : Mapping) (now : Order) (is : n ≡ at (held s) (page_at b o) x) where
    -- the block has no page then
    pub goes : Shapes Empty (at (block_pages s.chains s.rows.rows b) o x) → now ≡ cut_out (order s) b → now ≡ reordered (held s) n b (order s)
    goes none e = e ∙ sym (cond-false (is_used n b) _ _ (ap (λ m. is_used m b) is ∙ unused_test _ b (λ k l. grown_at s b o x low k l ∙ none k l)))

    -- the block has a page then
    pub comes : SomePage (at (block_pages s.chains s.rows.rows b) o x) → now ≡ put_in (is_some (body_of s.chains b)) (order s) b → now ≡ reordered (held s) n b (order s)
    comes some e = e ∙ ap (λ v. put_in v (order s) b) (sym used_held) ∙ sym (cond-true (is_used n b) _ _ (ap (λ m. is_used m b) is ∙ used_test _ b (used_next s b o x low some)))

    -- and had one, and the order was left
    pub remains : SomePage (at (block_pages s.chains s.rows.rows b) o x) → is_some (body_of s.chains b) ≡ true → now ≡ order s → now ≡ reordered (held s) n b (order s)
    remains some t e = comes some (e ∙ sym (cond-true (is_some (body_of s.chains b)) _ _ t))
