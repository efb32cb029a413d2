-- What the attributes of a page allow.
use Rattle.std.specs.Prelude.{◌≡◌, ℕ, ◌^◌, Bool, MatchResult, Result, ◌≢◌}
use Rattle.words.specs.declared.fault.BadNumber.{BadNumber}
use Rattle.words.specs.declared.access.Access.{Access}
use Rattle.words.specs.declared.access.Access.TheVariants.{Read, Write, Execute}
use Rattle.words.specs.Layout.{bit}

-- the attribute bit that allows an access
abbrev pub access_bit : Access → ℕ
access_bit Read = 0
access_bit Write = 1
access_bit Execute = 2

-- an access by its number, the weight of its bit: 1, 2 or 4
abbrev pub access_number : Access → ℕ
access_number x = 2 ^ access_bit x

abbrev pub allowed : ℕ → Access → Bool
allowed a x = bit a (access_bit x)

-- the access of a number, where there is one
abbrev pub NumbersAccess : ℕ → Result Access BadNumber → Type 0
NumbersAccess n r = MatchResult r (λ x. access_number x ≡ n) (λ _. (x : Access) → access_number x ≢ n)
