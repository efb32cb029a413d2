-- A translation is its frame and its attributes: what its type says of them has one proof.
use Rattle.std.proofs.Common.{◌≡◌, ℕ, ◌^◌, ◌<◌, refl, ◌∙◌, subst, ap₂, arith}
use native.Mathlib.Bridge.{le_prop}
use Rattle.words.specs.declared.translation.Translation.{Translation}
use Rattle.words.specs.Reading.{translation}

pub same_parts : (t u : Translation) → t.frame ≡ u.frame → t.attributes ≡ u.attributes → t ≡ u
same_parts t u i j =
    let P : ℕ → Type 0 = λ g. (q : g < 2 ^ 28) → t ≡ record { frame = g; attributes = t.attributes; frames = q; bits = t.bits } in
    let Q : ℕ → Type 0 = λ b. (y : b < 2 ^ 12) → t ≡ record { frame = u.frame; attributes = b; frames = u.frames; bits = y } in
    let first : t ≡ record { frame = u.frame; attributes = t.attributes; frames = u.frames; bits = t.bits } =
    subst P i (λ q. ap₂ (λ (p : t.frame < 2 ^ 28) (x : t.attributes < 2 ^ 12). record { frame = t.frame; attributes = t.attributes; frames = p; bits = x }) (le_prop t.frames q) refl) u.frames in
    subst Q j (λ y. first ∙ ap₂ (λ (p : u.frame < 2 ^ 28) (x : t.attributes < 2 ^ 12). record { frame = u.frame; attributes = t.attributes; frames = p; bits = x }) refl (le_prop t.bits y)) u.bits

pub translation_is : (t : Translation) (f a : ℕ) → t.frame ≡ f → t.attributes ≡ a → t ≡ translation f a
translation_is t f a i j =
    let x = t.frames in
    let y = t.bits in
    same_parts t (translation f a) (omega arith) (omega arith)
