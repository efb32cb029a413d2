-- The page map: what each page is mapped to, and the fills under way. It is fed events; nothing of a space's parts is in it.
use Rattle.std.specs.Prelude.{ℕ, List, [], ◌∷◌, Some, None, Option, Ok}
use Rattle.std.specs.Option.{option_map}
use Rattle.words.specs.declared.translation.Translation.{Translation}
use Rattle.words.specs.Layout.{page_of}
use Rattle.words.specs.Points.{at}
use Rattle.words.specs.Reading.{translation}
use Rattle.words.specs.Blocks.{Mapping}
use Rattle.fills.specs.declared.underway.Underway.{Underway}
use Rattle.fills.specs.Fills.{Waits, underway}
use Rattle.table.specs.Calls.{unmapped, mapped, released, protected}
use Rattle.law.specs.declared.calls.Event.{Event}
use Rattle.law.specs.declared.calls.Event.TheVariants as event

pub record PageMap : Type 0 where
  pub pages : Mapping
  pub fills : Waits

-- the map of a new space
abbrev pub nothing : PageMap
nothing = record { pages = unmapped; fills = λ page. None }

-- what an event makes of the pages: a refusal, and every call that is not named, leaves them as they are
abbrev pub next_pages : Mapping → Event → Mapping
next_pages pages (event.Settle page fill attributes (Ok frame)) = mapped pages page.number (translation fill.frame attributes)
next_pages pages (event.Release address (Ok former)) = released pages (page_of address)
next_pages pages (event.Protect address attributes (Ok former)) = protected pages (page_of address) attributes
next_pages pages other = pages

-- and of the fills
abbrev pub next_fills : Waits → Event → Waits
next_fills fills (event.Begin address (Ok frame)) = at fills (page_of address) (Some (underway frame))
next_fills fills (event.Settle page fill attributes (Ok frame)) = at fills page.number None
next_fills fills (event.Abandon page fill (Ok frame)) = at fills page.number None
next_fills fills other = fills

-- the map after an event
abbrev pub next : PageMap → Event → PageMap
next m e = record { pages = next_pages m.pages e; fills = next_fills m.fills e }

-- the map after events
abbrev pub after : PageMap → List Event → PageMap
after m [] = m
after m (e ∷ es) = after (next m e) es

abbrev pub frame_of : Option Translation → Option Underway → Option ℕ
frame_of (Some t) fill = Some t.frame
frame_of None fill = option_map (λ f. f.frame) fill

-- the frame that the map has at a page: behind it, or else in its fill
abbrev pub frame_at : PageMap → ℕ → Option ℕ
frame_at m page = frame_of (m.pages page) (m.fills page)
