-- What each call refuses, in this order, by the page map; begin's last refusal asks the allocator.
use Rattle.std.specs.Prelude.{◌≡◌, ◌≢◌, ℕ, ◌<◌, Bool, false, List, [], ◌∷◌, Some, None}
use Rattle.words.specs.declared.access.Access.{Access}
use Rattle.words.specs.declared.translation.Translation.{Translation}
use Rattle.words.specs.Access.{access_number, allowed}
use Rattle.words.specs.Layout.{block_of}
use Rattle.words.specs.Reading.{translation}
use Rattle.words.specs.Blocks.{Mapping, IsMapped}
use Rattle.blocks.specs.Blocks.{NodesOut, RowsOut}
use Rattle.fills.specs.declared.underway.Underway.{Underway}
use Rattle.fills.specs.Fills.{IsWaiting, WaitingPages, remove_refusals}
use Rattle.frames.specs.Meaning.{NoneLeft}
use Rattle.table.specs.Calls.{mapped}
use Rattle.law.specs.PageMap.{PageMap}

abbrev pub begin_refusals : {B : Type 0} → (B → ℕ → Bool) → (B → ℕ → Bool) → PageMap → B → ℕ → List (Type 0 × ℕ)
begin_refusals stock out m frames page =
    (IsMapped m.pages page, 1)
    ∷ (IsWaiting m.fills page, 2)
    ∷ (WaitingPages m.fills 32, 3)
    ∷ (NoneLeft stock out frames, 4)
    ∷ []

-- the page would be mapped to the frame of the fill, with the attributes
abbrev pub settle_refusals : PageMap → ℕ → Underway → ℕ → List (Type 0 × ℕ)
settle_refusals m page fill attributes =
    (4095 < attributes, 5)
    ∷ (m.fills page ≢ Some fill, 6)
    ∷ (NodesOut m.pages (mapped m.pages page (translation fill.frame attributes)) (block_of page), 7)
    ∷ (RowsOut m.pages (mapped m.pages page (translation fill.frame attributes)) (block_of page), 8)
    ∷ []

abbrev pub abandon_refusals : PageMap → ℕ → Underway → List (Type 0 × ℕ)
abandon_refusals m page fill = remove_refusals m.fills page fill

-- no access has the number
abbrev pub BadAccess : ℕ → Type 0
BadAccess number = (access : Access) → access_number access ≢ number

-- the page is mapped, and its attributes lack the bit of the access of the number
abbrev pub Denies : Mapping → ℕ → ℕ → Type 0
Denies m page number =
    (access : Access) × (t : Translation) × (access_number access ≡ number) × (m page ≡ Some t) × (allowed t.attributes access ≡ false)

abbrev pub touch_refusals : Mapping → ℕ → ℕ → List (Type 0 × ℕ)
touch_refusals m page number = (BadAccess number, 10) ∷ (m page ≡ None, 9) ∷ (Denies m page number, 11) ∷ []
