-- The frames that an allocator has: 4,096 in a row.
use Rattle.std.specs.Prelude.{ℕ, ◌-◌, Bool, ◌&&◌, nat_le, nat_lt}
use Rattle.frames.specs.declared.stock.Stock.{Stock}

abbrev pub first_frame : Stock → ℕ
first_frame s = s.first

-- the frame f is one of the stock
abbrev pub in_stock : Stock → ℕ → Bool
in_stock s f = nat_le (first_frame s) f && nat_lt (f - first_frame s) 4096
