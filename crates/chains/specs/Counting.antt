-- How many numbers pass a test.
use Rattle.std.specs.Prelude.{◌≡◌, ℕ, zero, suc, ◌+◌, ◌<◌, Bool, true, cond}

-- how many numbers below n pass the test
unfoldable pub how_many : (ℕ → Bool) → ℕ → ℕ
how_many test zero = 0
how_many test (suc n) = cond (test n) 1 0 + how_many test n

-- exactly n of the numbers below k have the property P: some test tells which have it, and n of them pass
pub record Exactly (n k : ℕ) (P : ℕ → Type 0) : Type 0 where
  pub test : ℕ → Bool
  pub tells : (x : ℕ) → x < k → (test x ≡ true → P x) × (P x → test x ≡ true)
  pub many : n ≡ how_many test k
