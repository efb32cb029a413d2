-- What stands at the front of a record.
use Rattle.std.proofs.Common.{◌≡◌, ℕ, suc, ◌+◌, ◌*◌, ◌<◌, List, ◌∷◌, ◌++◌, length, take, drop, ap, ◌∙◌, arith}
use Rattle.std.proofs.lemmas.List.{take-append-drop}
use Rattle.trace_format.specs.declared.record.Kind.{Kind}
use Rattle.trace_format.specs.declared.record.Kind.TheVariants.{Populate, Release, Protect, Touch, Try, Census}
use Rattle.trace_format.specs.Kinds.{tag_of, payload_len}
use Rattle.trace_format.specs.Bytes.{Begins}

payload_len_small : (k : Kind) → payload_len k < 11
payload_len_small = elim [ Populate ↦ omega arith | Release ↦ omega arith | Protect ↦ omega arith | Touch ↦ omega arith | Try ↦ omega arith | Census ↦ omega arith ]

pub begins : (k : Kind) (tag high low : ℕ) (rest payload : List ℕ)
    → tag_of k ≡ tag → high * 256 + low ≡ payload_len k → length payload ≡ high * 256 + low → payload ≡ take (high * 256 + low) rest
    → Begins (tag ∷ high ∷ low ∷ rest) k payload
begins k tag high low rest payload a b d e =
    let s = payload_len_small k in
    let h : high ≡ 0 = omega arith in
    let l : low ≡ payload_len k = omega arith in
    let n : 3 + length payload ≡ suc (suc (suc (length payload))) = omega arith in
    let g : drop (3 + length payload) (tag ∷ high ∷ low ∷ rest) ≡ drop (length payload) rest = ap (λ i. drop i (tag ∷ high ∷ low ∷ rest)) n in
    let f : payload ++ drop (length payload) rest ≡ rest = ap (λ i. payload ++ drop i rest) d ∙ ap (λ p. p ++ drop (high * 256 + low) rest) e ∙ take-append-drop (high * 256 + low) rest in
    record {
      long = d ∙ b;
      whole = cc;
    }
