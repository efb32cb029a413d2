-- The count of mapped pages, after one page is mapped to another translation or to none.
use Rattle.std.proofs.Common.{◌≡◌, ℕ, ◌+◌, ◌^◌, ◌≤◌, true, false, Some, None, Option, Result, Ok, Err, MatchResult, is_some, sym, refl, ap, ◌∙◌, subst, arith}
use Rattle.std.proofs.Math.Nat.{ℕ_set}
use Rattle.std.proofs.lemmas.Bool.{both_ways}
use Rattle.words.specs.declared.address.Page.{Page}
use Rattle.words.specs.declared.translation.Translation.{Translation}
use Rattle.words.specs.Blocks.{Mapping}
use Rattle.words.specs.Points.{at}
use Rattle.chains.specs.Counting.{how_many}
use Rattle.chains.proofs.Counts.{one, many_at}
use Rattle.chains.proofs.Held.{at_map}
use Rattle.blocks.specs.declared.blocks.Blocks.{Blocks}
use Rattle.blocks.specs.declared.fault.NoRoom.{NoRoom}
use Rattle.blocks.specs.Blocks.{held}
use Rattle.blocks.proofs.Pages.{pages_most}
use Rattle.table.specs.declared.table.PageTable.{PageTable}
use Rattle.table.specs.Calls.{MappedPages}
use Rattle.table.specs.Table.{mapping}

-- how many pages are mapped
abbrev pub pages_of : Mapping → ℕ
pages_of m = how_many (λ p. is_some (m p)) (2 ^ 52)

pub is_mapped : (x : Option Translation) → is_some x ≡ true → (t : Translation) × (x ≡ Some t)
is_mapped (Some t) e = (t, refl)
is_mapped None e = absurd (both_ways false refl e)

pub not_mapped : (x : Option Translation) → is_some x ≡ false → x ≡ None
not_mapped None e = refl
not_mapped (Some t) e = absurd (both_ways _ e refl)

-- one page is mapped to x
pub pages_at : (m n : Mapping) (p : Page) (x : Option Translation) → n ≡ at m p.number x → pages_of n + one (is_some (m p.number)) ≡ pages_of m + one (is_some x)
pages_at m n p x e =
    let a = ap pages_of e ∙ ap (λ f. how_many f (2 ^ 52)) (at_map is_some m p.number x) in
    let b = many_at (λ q. is_some (m q)) p.number (is_some x) (2 ^ 52) p.within in
    omega arith

pub exactly_mapped : (m : Mapping) → MappedPages m (pages_of m)
exactly_mapped m = record { test = λ p. is_some (m p); tells = λ p l. (is_mapped (m p), λ t. ap is_some t.1); many = refl }

pub counted_pages : (s : PageTable) → MappedPages (mapping s) s.pages
counted_pages s = subst (MappedPages (mapping s)) (sym s.counted) (exactly_mapped (mapping s))

-- a table is its blocks and its count: what its type says of them has one proof
pub same_table : (t s : PageTable) → t.blocks ≡ s.blocks → t.pages ≡ s.pages → t ≡ s
same_table t s e f = over t.blocks t.pages e f t.counted
  where
    over : (b : Blocks) (n : ℕ) → b ≡ s.blocks → n ≡ s.pages → (c : n ≡ pages_of (held b)) → record { blocks = b; pages = n; counted = c } ≡ s
    over b n e f =
        subst (λ d. (c : n ≡ pages_of (held d)) → record { blocks = d; pages = n; counted = c } ≡ s) (sym e)
        (subst (λ k. (c : k ≡ pages_of (held s.blocks)) → record { blocks = s.blocks; pages = k; counted = c } ≡ s) (sym f)
        (λ c. ap (λ (x : s.pages ≡ pages_of (held s.blocks)). record { blocks = s.blocks; pages = s.pages; counted = x }) (ℕ_set _ _ c s.counted)))

module _ (s : PageTable) (p : Page) where
  -- the page was mapped, and is mapped to another translation, or the table stays as it was
  pub replaced_count : (A : Type 0) (F : NoRoom → Type 0) (t u : Translation) (b : Blocks) → mapping s p.number ≡ Some t → (r : Result (Unit {0}) NoRoom)
      → MatchResult r (λ _. A × (held b ≡ at (held s.blocks) p.number (Some u))) (λ e. F e × (b ≡ s.blocks)) → s.pages ≡ pages_of (held b)
  replaced_count A F t u b m (Ok x) (_, h) = let e = pages_at (mapping s) (held b) p (Some u) h in let w = ap (λ y. one (is_some y)) m in let c = s.counted in omega arith
  replaced_count A F t u b m (Err x) (_, same) = s.counted ∙ ap (λ d. pages_of (held d)) (sym same)

  -- the page was not mapped, and is mapped now
  pub added_count : (u : Translation) (b : Blocks) → mapping s p.number ≡ None → held b ≡ at (held s.blocks) p.number (Some u) → (s.pages + 1 ≡ pages_of (held b)) × (s.pages + 1 ≤ 4096)
  added_count u b m h =
      let e = pages_at (mapping s) (held b) p (Some u) h in
      let w = ap (λ y. one (is_some y)) m in
      let c = s.counted in
      let most = pages_most b in
      (omega arith, omega arith)

  -- the page was mapped, and is no more
  pub removed_count : (t : Translation) (b : Blocks) → mapping s p.number ≡ Some t → held b ≡ at (held s.blocks) p.number None → s.pages ≡ pages_of (held b) + 1
  removed_count t b m h =
      let e = pages_at (mapping s) (held b) p None h in
      let w = ap (λ y. one (is_some y)) m in
      let c = s.counted in
      omega arith
