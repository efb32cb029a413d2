-- A plain map and a plain order of blocks that are fed calls, and which of the calls were refused.
use Rattle.std.specs.Prelude.{◌≡◌, ℕ, Bool, cond, List, [], ◌∷◌, map, MatchBool}
use Rattle.words.specs.Blocks.{Mapping}
use Rattle.chains.specs.Orders.{Order, no_order}
use Rattle.table.specs.declared.events.TableCall.{TableCall}
use Rattle.table.specs.declared.events.TableCall.TheVariants.{Map, Unmap, Protect, Walk, Census}
use Rattle.table.specs.declared.events.TableEvent.{TableEvent}
use Rattle.table.specs.Calls.{unmapped, mapped, protected, released, mapped_order, released_order, map_refusals, mapped_refusals, protect_refusals}
use Rattle.words.specs.Refusals.{First, Accepted}

abbrev pub refusals : Mapping → TableCall → List (Type 0 × ℕ)
refusals m (Map p t) = map_refusals m p.number t
refusals m (Unmap p) = mapped_refusals m p.number
refusals m (Protect p x) = protect_refusals m p.number x
refusals m (Walk p) = mapped_refusals m p.number
refusals m Census = []

-- the map after a call that was not refused
abbrev pub done : Mapping → TableCall → Mapping
done m (Map p t) = mapped m p.number t
done m (Unmap p) = released m p.number
done m (Protect p x) = protected m p.number x
done m (Walk p) = m
done m Census = m

-- the map after a call
abbrev pub next : Mapping → TableCall → Bool → Mapping
next m c refused = cond refused m (done m c)

-- the order after a call that was not refused
abbrev pub lined_up : Mapping → Order → TableCall → Order
lined_up m o (Map p t) = mapped_order m p.number t o
lined_up m o (Unmap p) = released_order m p.number o
lined_up m o (Protect p x) = o
lined_up m o (Walk p) = o
lined_up m o Census = o

-- the order after a call
abbrev pub next_order : Mapping → Order → TableCall → Bool → Order
next_order m o c refused = cond refused o (lined_up m o c)

-- a call is refused exactly where a refusal applies
abbrev pub Right : Mapping → TableCall → Bool → Type 0
Right m c refused = MatchBool refused ((n : ℕ) × First (refusals m c) n) (Accepted (refusals m c))

-- a call was made: rightly refused or not, and the map n is the next one
abbrev pub Performs : Mapping → TableCall → Bool → Mapping → Type 0
Performs m c refused n = Right m c refused × (n ≡ next m c refused)

-- the map after calls
abbrev pub fed : Mapping → List TableEvent → Mapping
fed m [] = m
fed m (e ∷ es) = fed (next m e.call e.refused) es

-- the order after calls
abbrev pub fed_order : Mapping → Order → List TableEvent → Order
fed_order m o [] = o
fed_order m o (e ∷ es) = fed_order (next m e.call e.refused) (next_order m o e.call e.refused) es

abbrev pub AllRight : Mapping → List TableEvent → Type 0
AllRight m [] = Unit {0}
AllRight m (e ∷ es) = Right m e.call e.refused × AllRight (next m e.call e.refused) es

-- the calls stay, each is refused where it has to be, and m and o are the map and the order that were fed them from empty ones
pub record Replays (before now : List TableEvent) (m : Mapping) (o : Order) : Type 0 where
  pub calls : map (λ e. e.call) now ≡ map (λ e. e.call) before
  pub right : AllRight unmapped now
  pub held : m ≡ fed unmapped now
  pub order : o ≡ fed_order unmapped no_order now
