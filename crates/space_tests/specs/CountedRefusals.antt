-- What a frame allocator that counts its refusals means, by the allocator that it is made of.
use Rattle.std.specs.Prelude.{◌≡◌, ℕ, ◌+◌, ◌-◌, ◌^◌, min, Result, MatchResult}
use Rattle.frames.specs.Meaning.{FramesMeaning}
use Rattle.space_tests.specs.declared.counted_refusals.CountedRefusals.{CountedRefusals}

-- one refusal more
abbrev pub Counts : {T E : Type 0} → Result T E → ℕ → ℕ → Type 0
Counts r before now = MatchResult r (λ _. now ≡ before) (λ _. now ≡ min (before + 1) (2 ^ 32 - 1))

abbrev pub counted_refusals : {X : Type 0} → FramesMeaning X → FramesMeaning (CountedRefusals X)
counted_refusals k = record {
  stock = λ s. k.stock s.frames;
  out = λ s. k.out s.frames;
  allocated = λ s page r u. k.allocated s.frames page r u.frames × Counts r s.refusals u.refusals;
  freed = λ s frame r u. k.freed s.frames frame r u.frames × Counts r s.refusals u.refusals;
}
