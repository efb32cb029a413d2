-- The model of groups: which frames are out. Its steps are its code, and what the program compares.
use Rattle.std.specs.Prelude.{◌≡◌, ℕ, ◌-◌, ◌/◌, ◌%◌, ◌&&◌, Bool, false, List, [], nat_le, slice_index_or, All}
use Rattle.reservation_compare.specs.declared.group_model.GroupModel.{GroupModel}
use Rattle.reservation_compare.specs.declared.group_model.GroupState.{GroupState}
use Rattle.reservation_compare.specs.declared.group_model.Use.TheVariants.{Broken}
use Rattle.reservation_compare.specs.Models.{ModelMeaning}

abbrev pub nth_state : List GroupState → ℕ → GroupState
nth_state gs g = slice_index_or gs g (record { used = Broken; out = [] })

-- the frame at the offset k of the group g is out; past the last group none is
abbrev pub out_at : GroupModel → ℕ → ℕ → Bool
out_at n g k = slice_index_or (nth_state n.groups.items g).out k false

abbrev pub model_out : GroupModel → ℕ → Bool
model_out n f = nat_le 74560 f && out_at n ((f - 74560) / 16) ((f - 74560) % 16)

abbrev pub group_model : ModelMeaning GroupModel
group_model = record {
  allowed = λ n p e frames. All (λ f. model_out n f ≡ false) frames;
  out = model_out;
  taken = λ n p f o. Unit {0};
  given = λ n f o. Unit {0};
}
