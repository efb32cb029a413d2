-- The free list as the queue of the frames that are in: its head goes out, and what comes in is its head.
use Rattle.std.specs.Prelude.{◌≡◌, ◌&&◌, not, ◌∷◌, take, drop, nat_le, nat_lt}
use Rattle.reservation_compare.specs.declared.list_model.ListModel.{ListModel}
use Rattle.reservation_compare.specs.Models.{ModelMeaning, listed}

abbrev pub list_model : ModelMeaning ListModel
list_model = record {
  allowed = λ n p e frames. frames ≡ take 1 n.free.items;
  out = λ n f. (nat_le 74560 f && nat_lt f 78656) && not (listed n.free.items f);
  taken = λ n p f o. o.free.items ≡ drop 1 n.free.items;
  given = λ n f o. o.free.items ≡ f ∷ n.free.items;
}
