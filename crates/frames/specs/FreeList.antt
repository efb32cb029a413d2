-- What the free list means.
use Rattle.std.specs.Prelude.{◌≡◌, ℕ, ◌+◌, ◌-◌, ◌*◌, Bool, false, ◌&&◌, List, [], ◌∷◌, map, reverse, MatchResult, slice_index_or}
use Rattle.words.specs.Refusals.{First, Accepted}
use Rattle.frames.specs.declared.free_list.FreeListAllocator.{FreeListAllocator}
use Rattle.frames.specs.Faults.{allocate_number, free_number}
use Rattle.frames.specs.Lists.{rising}
use Rattle.frames.specs.Meaning.{FramesMeaning, free_refusals}
use Rattle.frames.specs.Stock.{first_frame, in_stock}

-- the free frames, from the head on
abbrev pub free_frames : FreeListAllocator → List ℕ
free_frames s = map (λ i. first_frame s.stock + i) (reverse s.list.items)

abbrev pub list_stock : FreeListAllocator → ℕ → Bool
list_stock s = in_stock s.stock

abbrev pub list_out : FreeListAllocator → ℕ → Bool
list_out s f = list_stock s f && slice_index_or s.out (f - first_frame s.stock) false

-- a new list rises from its lowest frame, 16 * g, and no frame is out
pub record NewList (g : ℕ) (u : FreeListAllocator) : Type 0 where
  pub first : first_frame u.stock ≡ 16 * g
  pub free : free_frames u ≡ rising (16 * g) 4096
  pub none : (f : ℕ) → list_out u f ≡ false

-- the head goes out, and what comes in is the head; an empty list refuses, and a refused call changes nothing
abbrev pub free_list : FramesMeaning FreeListAllocator
free_list = record {
  stock = list_stock;
  out = list_out;
  allocated = λ s p r u. MatchResult r
      (λ f. free_frames s ≡ f ∷ free_frames u)
      (λ e. First ((free_frames s ≡ [], 4) ∷ []) (allocate_number e) × (u ≡ s));
  freed = λ s f r u. MatchResult r
      (λ _. Accepted (free_refusals list_out s f) × (free_frames u ≡ f ∷ free_frames s))
      (λ e. First (free_refusals list_out s f) (free_number e) × (u ≡ s));
}
