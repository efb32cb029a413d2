-- What an allocator of an empty stock means: no frame is in it, none is out, and both calls are refused.
use Rattle.std.specs.Prelude.{◌≡◌, false, MatchResult}
use Rattle.frames.specs.Meaning.{FramesMeaning}
use Rattle.space_tests.specs.declared.no_frames.NoFrames.{NoFrames}

abbrev pub no_frames : FramesMeaning NoFrames
no_frames = record {
  stock = λ s f. false;
  out = λ s f. false;
  allocated = λ s p r u. MatchResult r (λ f. ⊥) (λ e. u ≡ s);
  freed = λ s f r u. MatchResult r (λ x. ⊥) (λ e. u ≡ s);
}
