-- Options that a test chooses: lemmas for the laws of slots.
use Rattle.std.specs.Prelude.{◌≡◌, Bool, true, false, cond, Some, None, Option, refl}

module _ {X : Type 0} where
  -- the test passed
  pub kept : (b : Bool) (o : Option X) (x : X) → cond b o None ≡ Some x → (b ≡ true) × (o ≡ Some x)
  kept true o x e = (refl, e)
  kept false o x e = cc

  -- the test failed
  pub left : (b : Bool) (o : Option X) (x : X) → cond b None o ≡ Some x → (b ≡ false) × (o ≡ Some x)
  left true o x e = cc
  left false o x e = (refl, e)

  pub none_either : (b : Bool) → ◌≡◌ {A = Option X} (cond b None None) None
  none_either true = refl
  none_either false = refl
