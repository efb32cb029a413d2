-- An order of groups, as groups at ranks; how it is compacted.
use Rattle.std.proofs.Common.{◌≡◌, ℕ, zero, suc, ◌+◌, ◌<◌, ◌≤◌, Bool, true, false, ◌&&◌, ltb, List, [], ◌∷◌, ◌++◌, Option, None, Some, length, get_or, set, replicate, sym, refl, ap, ◌∙◌, ap₂, subst, ⊎_elim, arith}
use mathlib.Core.Path.{fun_ext}
use Rattle.std.specs.Option.{is_some, unwrap_or}
use Rattle.std.proofs.lemmas.List.{get_or-set_same, get_or-set_other, get_or_past, get_or_push, get_or_append_left, length_push}
use Rattle.std.proofs.lemmas.Bool.{cases_eq, cases_lt, and_parts, and_right, eqb-true, le-ltb, both_ways}
use Rattle.arrayvec.specs.ArrayVec.{array_vec_len}
use Rattle.words.specs.Points.{at}
use Rattle.reservation.specs.declared.age_order.AgeOrder.{AgeOrder}
use Rattle.reservation.specs.declared.bit_set.BitSet.{BitSet}
use Rattle.reservation.specs.Ages.{rank_in, member, before, waits, rank_of, taken, Gap, put_last, taken_out, Oldest, SameOrder, Joins, Stays, Leaves}
use Rattle.reservation.specs.Sets.{has, FirstFrom}
use Rattle.reservation.proofs.Ranks.{Ranked, order_of, waits_of, at_here, at_there, unchanged, retell, refit, refit_order, refit_waits, appended, appended_order, appended_waits, gone, gone_order, gone_waits, marked, marked_waits, moved, moved_order, moved_waits, count, count_none, moved_gap, moved_count, passed_gap, oldest_first}

-- what is at each rank of a list
abbrev pub item_at : List ℕ → ℕ → ℕ
item_at xs p = get_or xs p 0

-- which groups have a rank, and which
abbrev pub there : List (Option ℕ) → ℕ → Bool
there ps g = is_some (get_or ps g None)

abbrev pub where_is : List (Option ℕ) → ℕ → ℕ
where_is ps g = unwrap_or (get_or ps g None) 0

pub some_is : (o : Option ℕ) → is_some o ≡ true → o ≡ Some (unwrap_or o 0)
some_is None e = absurd (both_ways false refl e)
some_is (Some x) e = refl

pub ranked_in : (s : AgeOrder) → Ranked (member s) (has s.waiting) (rank_of s) (item_at s.groups.items) (array_vec_len s.groups)
ranked_in s = record {
  ranked = λ g m. s.ranked g (rank_of s g) (some_is (rank_in s g) m);
  waits = λ p w. let e = s.waits p w in (ap is_some e, ap (λ o. unwrap_or o 0) e);
}

-- where no group has a rank
pub no_rank : (n g : ℕ) → get_or {A = Option ℕ} (replicate n None) g None ≡ None
no_rank zero g = refl
no_rank (suc n) zero = refl
no_rank (suc n) (suc g) = no_rank n g

-- the ghost fields of an order from its groups at ranks
module _ (ps : List (Option ℕ)) (W : ℕ → Bool) (xs : List ℕ) (n : ℕ) (S : Ranked (there ps) W (where_is ps) (item_at xs) n) where
  pub all_ranked : (g p : ℕ) → get_or ps g None ≡ Some p → (p < n) × (item_at xs p ≡ g)
  all_ranked g p e = subst (λ q. (q < n) × (item_at xs q ≡ g)) (ap (λ o. unwrap_or o 0) e) (S.ranked g (ap is_some e))

  pub all_waits : (p : ℕ) → W p ≡ true → get_or ps (item_at xs p) None ≡ Some p
  all_waits p w = let (m, f) = S.waits p w in some_is _ m ∙ ap Some f

-- the rank of one group is written
pub written_at : {X : Type 0} (h : Option ℕ → X) (ps : List (Option ℕ)) (g : ℕ) (v : Option ℕ) → g < length ps → (λ k. h (get_or (set ps g v) k None)) ≡ at (λ k. h (get_or ps k None)) g (h v)
written_at h ps g v l = fun_ext (λ k. ⊎_elim
    (λ e. ap (λ j. h (get_or (set ps g v) j None)) e ∙ ap h (get_or-set_same ps g v None l) ∙ sym (at_here (λ j. h (get_or ps j None)) g (h v) k e))
    (λ ne. ap h (get_or-set_other ps g k v None ne) ∙ sym (at_there (λ j. h (get_or ps j None)) g (h v) k ne))
    (cases_eq k g))

-- one group more at the end, and another group at a rank
pub pushed_at : (xs : List ℕ) (g : ℕ) → item_at (xs ++ g ∷ []) ≡ at (item_at xs) (length xs) g
pushed_at xs g = fun_ext (λ p. ⊎_elim
    (λ e. get_or_push xs g 0 p (sym e) ∙ sym (at_here (item_at xs) (length xs) g p e))
    (λ ne. ⊎_elim
    (λ l. get_or_append_left xs (g ∷ []) 0 p l)
    (λ l. let long = length_push xs g in get_or_past (xs ++ g ∷ []) p 0 (omega arith) ∙ sym (get_or_past xs p 0 l))
    (cases_lt p (length xs)) ∙ sym (at_there (item_at xs) (length xs) g p ne))
    (cases_eq p (length xs)))

pub set_at_rank : (xs : List ℕ) (t g : ℕ) → t < length xs → item_at (set xs t g) ≡ at (item_at xs) t g
set_at_rank xs t g l = fun_ext (λ p. ⊎_elim
    (λ e. ap (item_at (set xs t g)) e ∙ get_or-set_same xs t g 0 l ∙ sym (at_here (item_at xs) t g p e))
    (λ ne. get_or-set_other xs t p g 0 ne ∙ sym (at_there (item_at xs) t g p ne))
    (cases_eq p t))

-- the group at a rank that is taken
pub at_rank : (s : AgeOrder) (p : ℕ) → taken s p ≡ true → (member s (item_at s.groups.items p) ≡ true) × (rank_of s (item_at s.groups.items p) ≡ p)
at_rank s p h = let (a, b) = and_parts _ _ h in (a, eqb-true _ p b)

-- only a group that there is a rank for is in an order
pub there_below : (ps : List (Option ℕ)) (g : ℕ) → there ps g ≡ true → g < length ps
there_below ps g h = ⊎_elim (λ l. l) (λ l. absurd (both_ways _ (ap is_some (get_or_past ps g None l)) h)) (cases_lt g (length ps))

-- the group g joins, at a rank of its own
pub joined : (s : AgeOrder) (g : ℕ) (w : Bool) (ps : List (Option ℕ)) (W : ℕ → Bool) (xs : List ℕ) → member s g ≡ false → g < length s.ranks →
    ps ≡ set s.ranks g (Some (array_vec_len s.groups)) → W ≡ at (has s.waiting) (array_vec_len s.groups) w → xs ≡ s.groups.items ++ g ∷ [] →
    Ranked (there ps) W (where_is ps) (item_at xs) (length xs) × (there ps ≡ at (member s) g true)
    × (order_of (there ps) (where_is ps) ≡ put_last (before s) (member s) g) × (waits_of (there ps) W (where_is ps) ≡ at (waits s) g w)
joined s g w ps W xs new l p q x =
    let n = array_vec_len s.groups in
    let M : there ps ≡ at (member s) g true = ap there p ∙ written_at is_some s.ranks g (Some n) l in
    let F : where_is ps ≡ at (rank_of s) g n = ap where_is p ∙ written_at (λ o. unwrap_or o 0) s.ranks g (Some n) l in
    let G : item_at xs ≡ at (item_at s.groups.items) n g = ap item_at x ∙ pushed_at s.groups.items g in
    let N : length xs ≡ n + 1 = ap length x ∙ length_push s.groups.items g in (
      retell _ _ _ _ _ _ _ _ _ _ M q F G N (appended _ _ _ _ _ (ranked_in s) g w new),
      M,
      ap₂ order_of M F ∙ appended_order _ _ _ _ _ (ranked_in s) g w new,
      ap₂ (λ m f. waits_of m W f) M F ∙ ap (λ v. waits_of (at (member s) g true) v (at (rank_of s) g n)) q ∙ appended_waits _ _ _ _ _ (ranked_in s) g w new,
    )

-- the order in which the group g has joined
pub joins_at : (s u : AgeOrder) (g h n m : ℕ) (w : Bool) → member s g ≡ false → u.ranks ≡ set s.ranks h (Some n) → has u.waiting ≡ at (has s.waiting) m w → u.groups.items ≡ s.groups.items ++ g ∷ [] →
    h ≡ g → n ≡ array_vec_len s.groups → m ≡ array_vec_len s.groups → g < length s.ranks → Joins s g w u
joins_at s u g h n m w new ps W xs own len long l =
    let (p, within, order, waiting) = joined s g w u.ranks (has u.waiting) u.groups.items new l
    (ps ∙ ap₂ (λ x y. set s.ranks x (Some y)) own len) (W ∙ ap (λ x. at (has s.waiting) x w) long) xs in
    record { within = within; order = order; waiting = waiting }

-- the group g, whose rank is p, leaves
pub left : (s : AgeOrder) (g p : ℕ) (ps : List (Option ℕ)) (W : ℕ → Bool) → rank_in s g ≡ Some p → ps ≡ set s.ranks g None → W ≡ at (has s.waiting) p false →
    Ranked (there ps) W (where_is ps) (item_at s.groups.items) (array_vec_len s.groups) × (there ps ≡ at (member s) g false)
    × (order_of (there ps) (where_is ps) ≡ taken_out (before s) g) × (waits_of (there ps) W (where_is ps) ≡ at (waits s) g false)
left s g p ps W e r q =
    let here : member s g ≡ true = ap is_some e in
    let own : rank_of s g ≡ p = ap (λ o. unwrap_or o 0) e in
    let l = there_below s.ranks g here in
    let M : there ps ≡ at (member s) g false = ap there r ∙ written_at is_some s.ranks g None l in
    let F : where_is ps ≡ at (rank_of s) g 0 = ap where_is r ∙ written_at (λ o. unwrap_or o 0) s.ranks g None l in
    let V : W ≡ at (has s.waiting) (rank_of s g) false = q ∙ ap (λ x. at (has s.waiting) x false) (sym own) in
    let alike : (k : ℕ) → at (member s) g false k ≡ true → at (rank_of s) g 0 k ≡ rank_of s k = λ k m. ⊎_elim
    (λ i. absurd (both_ways _ (at_here (member s) g false k i) m))
    (λ ne. at_there (rank_of s) g 0 k ne)
    (cases_eq k g) in (
      retell _ _ _ _ _ _ _ _ _ _ M V F refl refl (refit _ _ _ _ alike _ _ (gone _ _ _ _ _ (ranked_in s) g here)),
      M,
      ap₂ order_of M F ∙ refit_order _ (has s.waiting) _ _ alike ∙ gone_order (member s) (rank_of s) g,
      ap₂ (λ m f. waits_of m W f) M F ∙ refit_waits _ W _ _ alike ∙ ap (λ v. waits_of (at (member s) g false) v (rank_of s)) V ∙ gone_waits _ _ _ _ _ (ranked_in s) g here,
    )

-- the order that the group g has left, or was not in
pub leaves_at : (s u : AgeOrder) (g h k p q : ℕ) → rank_in s h ≡ Some p → u.ranks ≡ set s.ranks k None → has u.waiting ≡ at (has s.waiting) q false → h ≡ g → k ≡ g → q ≡ p → Leaves s g u
leaves_at s u g h k p q here ps W own at_own long =
    let (P, within, order, waiting) = left s g p u.ranks (has u.waiting) (ap (rank_in s) (sym own) ∙ here)
    (ps ∙ ap (λ x. set s.ranks x None) at_own) (W ∙ ap (λ x. at (has s.waiting) x false) long) in
    record { within = within; order = order; waiting = waiting }

pub not_there : (s : AgeOrder) (g h : ℕ) → rank_in s h ≡ None → h ≡ g → Leaves s g s
not_there s g h gone own =
    let no : member s g ≡ false = ap (member s) (sym own) ∙ ap is_some gone in
    let same = unchanged (member s) g false no in
    record {
      within = same;
      order = ap (λ m. order_of m (rank_of s)) same ∙ gone_order (member s) (rank_of s) g;
      waiting = unchanged (waits s) g false (ap (λ x. x && has s.waiting (rank_of s g)) no);
    }

-- the first group that waits
pub oldest_at : (s : AgeOrder) (xs : List ℕ) (p : ℕ) → FirstFrom (has s.waiting) 0 p → xs ≡ s.groups.items → Oldest s (item_at xs p)
oldest_at s xs p f e =
    let (here, first) = oldest_first _ _ _ _ _ (ranked_in s) p (item_at xs p) f.here (λ q l. f.before q (omega arith) l) (ap (λ ys. item_at ys p) e) in
    record { here = here; first = first }

-- whether the group g waits is written at its rank
pub marked_at : (s : AgeOrder) (g p : ℕ) (w : Bool) (W : ℕ → Bool) → rank_in s g ≡ Some p → W ≡ at (has s.waiting) p w →
    Ranked (member s) W (rank_of s) (item_at s.groups.items) (array_vec_len s.groups) × (member s g ≡ true) × (waits_of (member s) W (rank_of s) ≡ at (waits s) g w)
marked_at s g p w W e q =
    let here : member s g ≡ true = ap is_some e in
    let V : W ≡ at (has s.waiting) (rank_of s g) w = q ∙ ap (λ x. at (has s.waiting) x w) (sym (ap (λ o. unwrap_or o 0) e)) in (
      retell _ _ _ _ _ _ _ _ _ _ refl V refl refl refl (marked _ _ _ _ _ (ranked_in s) g here w),
      here,
      ap (λ v. waits_of (member s) v (rank_of s)) V ∙ marked_waits _ _ _ _ _ (ranked_in s) g here w,
    )

-- the order in which the group g stays
pub stays_at : (s u : AgeOrder) (g h p q : ℕ) (w : Bool) → rank_in s h ≡ Some p → u.ranks ≡ s.ranks → has u.waiting ≡ at (has s.waiting) q w → h ≡ g → q ≡ p → Stays s g w u
stays_at s u g h p q w here ranks W own long =
    let e = ap (rank_in s) (sym own) ∙ here in
    let (P, inside, waiting) = marked_at s g p w (has u.waiting) e (W ∙ ap (λ x. at (has s.waiting) x w) long) in
    record {
      within = ap there ranks ∙ unchanged (member s) g true inside;
      order = ap₂ order_of (ap there ranks) (ap where_is ranks);
      waiting = ap₂ (λ m f. waits_of m (has u.waiting) f) (ap there ranks) (ap where_is ranks) ∙ waiting;
    }

-- the group at the rank p moves down to the rank t
pub moved_down : (s : AgeOrder) (p t : ℕ) (ps : List (Option ℕ)) (W : ℕ → Bool) (xs : List ℕ) → taken s p ≡ true → t ≤ p → Gap s t p → t < length s.groups.items →
    ps ≡ set s.ranks (item_at s.groups.items p) (Some t) → W ≡ at (at (has s.waiting) p false) t (has s.waiting p) → xs ≡ set s.groups.items t (item_at s.groups.items p) →
    Ranked (there ps) W (where_is ps) (item_at xs) (array_vec_len s.groups) × (there ps ≡ member s)
    × (order_of (there ps) (where_is ps) ≡ before s) × (waits_of (there ps) W (where_is ps) ≡ waits s)
moved_down s p t ps W xs here down gap low r q x =
    let g = item_at s.groups.items p in
    let (m, e) = at_rank s p here in
    let l = there_below s.ranks g m in
    let M : there ps ≡ member s = ap there r ∙ written_at is_some s.ranks g (Some t) l ∙ sym (unchanged (member s) g true m) in
    let F : where_is ps ≡ at (rank_of s) g t = ap where_is r ∙ written_at (λ o. unwrap_or o 0) s.ranks g (Some t) l in
    let G : item_at xs ≡ at (item_at s.groups.items) t g = ap item_at x ∙ set_at_rank s.groups.items t g low in (
      retell _ _ _ _ _ _ _ _ _ _ M q F G refl (moved _ _ _ _ _ (ranked_in s) g p t m e down gap),
      M,
      ap₂ order_of M F ∙ moved_order _ _ _ _ _ (ranked_in s) g p t m e down gap,
      ap₂ (λ f h. waits_of f W h) M F ∙ ap (λ v. waits_of (member s) v (at (rank_of s) g t)) q ∙ moved_waits _ _ _ _ _ (ranked_in s) g p t m e down gap,
    )

-- the order in which the group at the rank p has moved down to the rank t
pub same_moved : (s u : AgeOrder) (p t g : ℕ) (xs : List ℕ) (W : BitSet 8) (w : Bool) → u.ranks ≡ set s.ranks g (Some t) → has u.waiting ≡ at (has W) t w → has W ≡ at (has s.waiting) p false →
    w ≡ has s.waiting p → g ≡ item_at xs p → xs ≡ s.groups.items → taken s p ≡ true → t ≤ p → Gap s t p → SameOrder s u
same_moved s u p t g xs W w ps V W_is same own list here down gap =
    let few = s.few in
    let (m, e) = at_rank s p here in
    let (l, h) = (ranked_in s).ranked (item_at s.groups.items p) m in
    let (P, within, order, waiting) = moved_down s p t u.ranks (has u.waiting) (set s.groups.items t (item_at s.groups.items p)) here down gap (omega arith)
    (ps ∙ ap (λ x. set s.ranks x (Some t)) (own ∙ ap (λ ys. item_at ys p) list))
    (V ∙ ap (at (has W) t) same ∙ ap (λ f. at f t (has s.waiting p)) W_is) refl in
    record { within = within; order = order; waiting = waiting }

-- the order a while it is compacted: s is what it has become, its groups at ranks below p have moved down to those below t
pub record Compacting (a s : AgeOrder) (t p : ℕ) : Type 0 where
  pub same : SameOrder a s
  pub long : array_vec_len s.groups ≡ array_vec_len a.groups
  pub low : t ≤ p
  pub gap : Gap s t p
  pub total : t ≡ count (λ g. member s g && ltb (rank_of s g) t) 256

pub compacting : (a : AgeOrder) → Compacting a a 0 0
compacting a = record {
  same = record { within = refl; order = refl; waiting = refl };
  long = refl;
  low = omega arith;
  gap = λ g m l. l;
  total = sym (count_none _ 256 (λ k. and_right (member a k) _ (le-ltb _ 0 (omega arith))));
}

pub passed : (a s : AgeOrder) (t p : ℕ) → Compacting a s t p → taken s p ≡ false → Compacting a s t (p + 1)
passed a s t p k free = record {
  same = k.same;
  long = k.long;
  low = let l = k.low in omega arith;
  gap = passed_gap (member s) (rank_of s) (item_at s.groups.items) (array_vec_len s.groups) t p (ranked_in s).ranked free k.gap;
  total = k.total;
}

pub moved_one : (a s u : AgeOrder) (t p : ℕ) → Compacting a s t p → taken s p ≡ true → length s.ranks ≡ 256 →
    SameOrder s u → array_vec_len u.groups ≡ array_vec_len s.groups → u.ranks ≡ set s.ranks (item_at s.groups.items p) (Some t) → Compacting a u (t + 1) (p + 1)
moved_one a s u t p k here wide same long ps =
    let g = item_at s.groups.items p in
    let (m, e) = at_rank s p here in
    let b = there_below s.ranks g m in
    let l = k.low in
    let F : rank_of u ≡ at (rank_of s) g t = ap where_is ps ∙ written_at (λ o. unwrap_or o 0) s.ranks g (Some t) b in
    record {
      same = record { within = same.within ∙ k.same.within; order = same.order ∙ k.same.order; waiting = same.waiting ∙ k.same.waiting };
      long = long ∙ k.long;
      low = omega arith;
      gap = λ h y. subst (λ f. t + 1 ≤ f h → p + 1 ≤ f h) (sym F)
          (moved_gap _ _ _ _ _ (ranked_in s) g p t m e l k.gap h (sym (ap (λ f. f h) same.within) ∙ y));
      total =
          let c = moved_count _ _ _ _ _ (ranked_in s) g p t m e l k.gap 256 (omega arith) in
          let d = k.total in
          let f : count (λ h. member u h && ltb (rank_of u h) (t + 1)) 256 ≡ count (λ h. member s h && ltb (at (rank_of s) g t h) (t + 1)) 256 =
          ap₂ (λ x y. count (λ h. x h && ltb (y h) (t + 1)) 256) same.within F in
          omega arith;
    }

pub named : (a s u : AgeOrder) (t v p : ℕ) → s ≡ u → t ≡ v → Compacting a u v p → Compacting a s t p
named a s u t v p e f k = subst (λ x. Compacting a x t p) (sym e) (subst (λ x. Compacting a u x p) (sym f) k)
