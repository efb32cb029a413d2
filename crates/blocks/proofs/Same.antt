-- Blocks are their chains and rows: what their type says of them has one proof.
use Rattle.std.proofs.Common.{◌≡◌, ℕ, ◌+◌, ◌^◌, ◌<◌, true, Result, Ok, Err, MatchResult, length, sym, ap, ◌∙◌, subst}
use mathlib.Core.Path.{fun_ext}
use Rattle.std.proofs.Math.Nat.{ℕ_set}
use Rattle.std.proofs.Math.Bool.{Bool-set}
use Rattle.std.specs.Result.{IsErrAnd}
use Rattle.chains.specs.declared.chains.Chains.{Chains}
use Rattle.chains.specs.Chains.{body_of}
use Rattle.chains.specs.Counting.{how_many}
use Rattle.blocks.specs.declared.blocks.Blocks.{Blocks}
use Rattle.blocks.specs.declared.rows.Rows.{Rows}
use Rattle.blocks.specs.Held.{is_narrow, has_row, owners, block_pages}
use Rattle.blocks.specs.Rows.{occurs}
use Rattle.blocks.specs.Shapes.{InPlace}

abbrev Lent : Chains → Rows → Type 0
Lent c r = (i : ℕ) → i < 128 → occurs i r.spare.items + owners c i ≡ 1

abbrev Taken : Chains → Rows → Type 0
Taken c r = length r.spare.items + how_many (has_row c) (2 ^ 48) ≡ 128

abbrev Narrow : Chains → Type 0
Narrow c = (b : ℕ) → is_narrow (body_of c b) ≡ true

abbrev Mixed : Chains → Rows → Type 0
Mixed c r = (b k a : ℕ) → has_row c b ≡ true → InPlace (block_pages c r.rows b) k a → ⊥

one_lent : (c : Chains) (r : Rows) (x y : Lent c r) → x ≡ y
one_lent c r x y = fun_ext (λ i. fun_ext (λ l. ℕ_set _ _ (x i l) (y i l)))

one_narrow : (c : Chains) (x y : Narrow c) → x ≡ y
one_narrow c x y = fun_ext (λ b. Bool-set _ _ (x b) (y b))

one_mixed : (c : Chains) (r : Rows) (x y : Mixed c r) → x ≡ y
one_mixed c r x y = fun_ext (λ b. fun_ext (λ k. fun_ext (λ a. fun_ext (λ h. fun_ext (λ p. absurd (x b k a h p))))))

pub same_blocks : (t s : Blocks) → t.chains ≡ s.chains → t.rows ≡ s.rows → t ≡ s
same_blocks t s e f = over t.chains t.rows e f t.lent t.taken t.narrow t.mixed
  where
    over : (c : Chains) (r : Rows) → c ≡ s.chains → r ≡ s.rows → (l : Lent c r) (k : Taken c r) (n : Narrow c) (m : Mixed c r) → record { chains = c; rows = r; lent = l; taken = k; narrow = n; mixed = m } ≡ s
    over c r e f =
        subst (λ d. (l : Lent d r) (k : Taken d r) (n : Narrow d) (m : Mixed d r) → record { chains = d; rows = r; lent = l; taken = k; narrow = n; mixed = m } ≡ s) (sym e)
        (subst (λ q. (l : Lent s.chains q) (k : Taken s.chains q) (n : Narrow s.chains) (m : Mixed s.chains q) → record { chains = s.chains; rows = q; lent = l; taken = k; narrow = n; mixed = m } ≡ s) (sym f)
        (λ l k n m.
        ap (λ (x : Lent s.chains s.rows). record { chains = s.chains; rows = s.rows; lent = x; taken = k; narrow = n; mixed = m }) (one_lent s.chains s.rows l s.lent)
        ∙ ap (λ (x : Taken s.chains s.rows). record { chains = s.chains; rows = s.rows; lent = s.lent; taken = x; narrow = n; mixed = m }) (ℕ_set _ _ k s.taken)
        ∙ ap (λ (x : Narrow s.chains). record { chains = s.chains; rows = s.rows; lent = s.lent; taken = s.taken; narrow = x; mixed = m }) (one_narrow s.chains n s.narrow)
        ∙ ap (λ (x : Mixed s.chains s.rows). record { chains = s.chains; rows = s.rows; lent = s.lent; taken = s.taken; narrow = s.narrow; mixed = x }) (one_mixed s.chains s.rows m s.mixed)))

-- a result that is the error f
pub refused : {T E : Type 0} (r : Result T E) (P : T → Type 0) (Q : E → Type 0) (f : E) → IsErrAnd r (λ e. e ≡ f) → Q f → MatchResult r P Q
refused (Ok x) P Q f a q = absurd a
refused (Err e) P Q f a q = subst Q (sym a) q
