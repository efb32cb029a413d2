-- An optional answer that is there exactly when a test passes.
use Rattle.std.specs.Prelude.{◌≡◌, Bool, true, false, Some, None, Option}

-- there is an answer, and P holds of it, exactly when the test b passes
abbrev pub Made : {X : Type 0} → Option X → Bool → (X → Type 0) → Type 0
Made (Some x) b P = (b ≡ true) × P x
Made None b P = b ≡ false
