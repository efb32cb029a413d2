-- What the rules leave open: two choices for a page agree, and one choice, one refusal and one frame that comes in leave one state.
use Rattle.std.proofs.Common.{◌≡◌, ℕ, zero, suc, ◌+◌, ◌-◌, ◌*◌, ◌/◌, ◌%◌, ◌&&◌, ◌^◌, ◌<◌, ◌≤◌, Bool, true, false, eqb, MatchBool, Result, Ok, Err, sym, refl, ap, ap₂, ◌∙◌, subst, ⊎_elim, arith}
use mathlib.Core.Path.{fun_ext}
use native.Mathlib.Bridge.{le_prop}
use Rattle.std.proofs.lemmas.Bool.{both_ways, eqb-true, eqb-false, ne_eqb, not_from_false, and_from, and_parts, ltb-true, cases_Bool, cases_eq, cases_order}
use Rattle.words.specs.Layout.{bit, block_of, offset_of}
use Rattle.frames.specs.declared.fault.AllocateFault.{AllocateFault}
use Rattle.frames.specs.declared.fault.AllocateFault.TheVariants.{AllOut}
use Rattle.frames.specs.declared.fault.FreeFault.{FreeFault}
use Rattle.frames.specs.declared.fault.FreeFault.TheVariants.{NotOut}
use Rattle.reservation.specs.declared.group.Choice.{Choice}
use Rattle.reservation.specs.declared.group.Group.{Group}
use Rattle.reservation.specs.declared.group.Step.{Step}
use Rattle.reservation.specs.declared.group.Step.TheVariants.{Kept, Reserves, Spare, Breaks, BreaksOldest}
use Rattle.reservation.specs.declared.group.Usage.{Usage}
use Rattle.reservation.specs.declared.group.Usage.TheVariants.{Open, Reserved, Broken}
use Rattle.reservation.specs.declared.reservation.ReservationAllocator.{ReservationAllocator}
use Rattle.reservation.specs.Ages.{rank_of, put_last, taken_out}
use Rattle.reservation.specs.Groups.{open_use, broken_use, is_open, is_reserved, is_broken, is_spare, waits_in, has_in, block_use, In, OutAt, Returned}
use Rattle.reservation.specs.Laws.{own_group, last_step, SameSpot, Agree, SameState, Determined}
use Rattle.frames.specs.Stock.{first_frame, in_stock}
use Rattle.reservation.specs.Reservation.{reservation, group_of, group_out, older, frame_at, group_at, offset_at, LowestOpen, NoSpare, NoneIn, NoOwn, Longest, Rule, Chosen, UsedAs, OrderAfter, OnlyGroup, Taken, CameIn}
use Rattle.reservation.proofs.Grouped.{full_bit}
use Rattle.reservation.proofs.Usages.{both_for}
use Rattle.reservation.proofs.WordSets.{half_bit}

-- the lowest open group is one
lowest_once : (s : ReservationAllocator) (g h : ℕ) → LowestOpen s g → LowestOpen s h → g ≡ h
lowest_once s g h x y = ⊎_elim (λ e. e)
    (⊎_elim
    (λ l. absurd (both_ways _ (y.lower g l) x.here))
    (λ l. absurd (both_ways _ (x.lower h l) y.here)))
    (cases_order g h)

-- a frame that is in shows that its group has one
in_has : (x : Group) (k : ℕ) → In x k → has_in x ≡ true
in_has x k (l, e) = not_from_false (eqb x.out.bits 65535) (ne_eqb x.out.bits 65535 (λ d. both_ways _ e (ap (λ w. bit w k) d ∙ full_bit k l)))

-- the longest reserved is one group
longest_once : (s : ReservationAllocator) (g h : ℕ) → Longest s g → Longest s h → g ≡ h
longest_once s g h x y = ⊎_elim (λ e. e)
    (λ ne. absurd (
    let a : rank_of s.order g < rank_of s.order h = ltb-true _ _ (and_parts _ _ (x.first h y.here (λ e. ne (sym e)))).1 in
    let b : rank_of s.order h < rank_of s.order g = ltb-true _ _ (and_parts _ _ (y.first g x.here ne)).1 in
    omega arith))
    (cases_eq g h)

-- a step with its group and offset, where the frame is in
abbrev At : ReservationAllocator → ℕ → Step → ℕ → ℕ → Type 0
At s p t g k = Rule s p t g k × In (group_of s g) k

has_own : (s : ReservationAllocator) (p : ℕ) (t : Step) (g k : ℕ) → own_group t ≡ true → At s p t g k → NoOwn s p → ⊥
has_own s p Kept g k o ((r, e), (l, b)) u = both_ways _ b (ap (bit (group_of s g).out.bits) e ∙ u.kept g r)
has_own s p Reserves g k o ((none, f, e), i) u = both_ways _ (u.reserves none g) f.here
has_own s p Spare g k o r u = both_ways false refl o
has_own s p Breaks g k o r u = both_ways false refl o
has_own s p BreaksOldest g k o r u = both_ways false refl o

no_own : (s : ReservationAllocator) (p : ℕ) (t : Step) (g k : ℕ) → own_group t ≡ false → Rule s p t g k → NoOwn s p
no_own s p Kept g k o r = absurd (both_ways true o refl)
no_own s p Reserves g k o r = absurd (both_ways true o refl)
no_own s p Spare g k o r = r.0
no_own s p Breaks g k o r = r.0
no_own s p BreaksOldest g k o r = r.0

-- two steps of their own groups, and two others
own_once : (s : ReservationAllocator) (p : ℕ) (t v : Step) (g h j k : ℕ) → own_group t ≡ true → own_group v ≡ true → Rule s p t g j → Rule s p v h k → (t ≡ v) × (g ≡ h) × (j ≡ k)
own_once s p Kept Kept g h j k a b (r, e) (x, d) = (refl, s.single g h (both_for (group_of s g).usage (group_of s h).usage (block_of p) r x), e ∙ sym d)
own_once s p Reserves Reserves g h j k a b (none, f, e) (all, i, d) = (refl, lowest_once s g h f i, e ∙ sym d)
own_once s p Kept Reserves g h j k a b (r, e) (none, i, d) = absurd (both_ways _ (none g) r)
own_once s p Reserves Kept g h j k a b (none, f, e) (x, d) = absurd (both_ways _ (none h) x)
own_once s p Spare v g h j k a b r x = absurd (both_ways false refl a)
own_once s p Breaks v g h j k a b r x = absurd (both_ways false refl a)
own_once s p BreaksOldest v g h j k a b r x = absurd (both_ways false refl a)
own_once s p Kept Spare g h j k a b r x = absurd (both_ways false refl b)
own_once s p Kept Breaks g h j k a b r x = absurd (both_ways false refl b)
own_once s p Kept BreaksOldest g h j k a b r x = absurd (both_ways false refl b)
own_once s p Reserves Spare g h j k a b r x = absurd (both_ways false refl b)
own_once s p Reserves Breaks g h j k a b r x = absurd (both_ways false refl b)
own_once s p Reserves BreaksOldest g h j k a b r x = absurd (both_ways false refl b)

no_spare : (s : ReservationAllocator) (g k : ℕ) → NoSpare s → is_broken (group_of s g) ≡ true → In (group_of s g) k → ⊥
no_spare s g k none b i = both_ways _ (none g) (and_from _ _ b (in_has (group_of s g) k i))

any_once : (s : ReservationAllocator) (p : ℕ) (t v : Step) (g h j k : ℕ) → own_group t ≡ false → own_group v ≡ false → At s p t g j → At s p v h k → (t ≡ v) × (last_step t ≡ true → g ≡ h)
any_once s p Kept v g h j k a b r x = absurd (both_ways true a refl)
any_once s p Reserves v g h j k a b r x = absurd (both_ways true a refl)
any_once s p Spare Spare g h j k a b r x = (refl, λ e. absurd (both_ways false refl e))
any_once s p Spare Breaks g h j k a b ((u, e), i) ((w, none, o), l) = absurd (no_spare s g j none e i)
any_once s p Spare BreaksOldest g h j k a b ((u, e), i) ((w, none, o, f), l) = absurd (no_spare s g j none e i)
any_once s p Breaks Spare g h j k a b ((w, none, o), l) ((u, e), i) = absurd (no_spare s h k none e i)
any_once s p Breaks Breaks g h j k a b r x = (refl, λ e. absurd (both_ways false refl e))
any_once s p Breaks BreaksOldest g h j k a b ((w, none, o), l) ((u, all, Open-none, f), i) = absurd (both_ways _ (Open-none g) o)
any_once s p BreaksOldest Spare g h j k a b ((w, none, o, f), l) ((u, e), i) = absurd (no_spare s h k none e i)
any_once s p BreaksOldest Breaks g h j k a b ((u, all, Open-none, f), i) ((w, none, o), l) = absurd (both_ways _ (Open-none h) o)
any_once s p BreaksOldest BreaksOldest g h j k a b ((u, n, o, f), i) ((w, m, q, y), l) = (refl, λ e. longest_once s g h f y)
any_once s p Spare Kept g h j k a b r x = absurd (both_ways true b refl)
any_once s p Spare Reserves g h j k a b r x = absurd (both_ways true b refl)
any_once s p Breaks Kept g h j k a b r x = absurd (both_ways true b refl)
any_once s p Breaks Reserves g h j k a b r x = absurd (both_ways true b refl)
any_once s p BreaksOldest Kept g h j k a b r x = absurd (both_ways true b refl)
any_once s p BreaksOldest Reserves g h j k a b r x = absurd (both_ways true b refl)

own_last : (t : Step) → own_group t ≡ true → last_step t ≡ true → ⊥
own_last Kept a b = both_ways false refl b
own_last Reserves a b = both_ways false refl b
own_last Spare a b = both_ways false refl a
own_last Breaks a b = both_ways false refl a
own_last BreaksOldest a b = both_ways false refl a

choices : (s : ReservationAllocator) (p : ℕ) (c d : Choice) → Chosen s p c → Chosen s p d → Agree c d
choices s p c d x y = ⊎_elim
    (λ a. ⊎_elim
    (λ b. let (e, g, k) = own_once s p c.step d.step c.spot.group d.spot.group c.spot.offset.number d.spot.offset.number a b x.rule y.rule in
    record { step = e; spot = λ o. record { group = g; offset = k }; oldest = λ o. absurd (own_last c.step a o) })
    (λ b. absurd (has_own s p c.step c.spot.group c.spot.offset.number a (x.rule, x.within) (no_own s p d.step d.spot.group d.spot.offset.number b y.rule)))
    (cases_Bool (own_group d.step)))
    (λ a. ⊎_elim
    (λ b. absurd (has_own s p d.step d.spot.group d.spot.offset.number b (y.rule, y.within) (no_own s p c.step c.spot.group c.spot.offset.number a x.rule)))
    (λ b. let (e, g) = any_once s p c.step d.step c.spot.group d.spot.group c.spot.offset.number d.spot.offset.number a b (x.rule, x.within) (y.rule, y.within) in
    record { step = e; spot = λ o. absurd (both_ways _ a o); oldest = g })
    (cases_Bool (own_group d.step)))
    (cases_Bool (own_group c.step))

-- a number is known by its bits
same_bits : (n a b : ℕ) → a ≤ n → b ≤ n → ((k : ℕ) → bit a k ≡ bit b k) → a ≡ b
same_bits zero a b l m each = omega arith
same_bits (suc n) a b l m each =
    let halves : a / 2 ≡ b / 2 = same_bits n (a / 2) (b / 2) (omega arith) (omega arith) (λ k. sym (half_bit a k) ∙ each (suc k) ∙ half_bit b k) in
    let first : a % 2 ≡ b % 2 = ⊎_elim
    (λ e. let f = eqb-true (b / 2 ^ 0 % 2) 1 (sym (each 0) ∙ e) in let g = eqb-true (a / 2 ^ 0 % 2) 1 e in omega arith)
    (λ e. let f = eqb-false (b / 2 ^ 0 % 2) 1 (sym (each 0) ∙ e) in let g = eqb-false (a / 2 ^ 0 % 2) 1 e in omega arith)
    (cases_Bool (bit a 0)) in
    omega arith

-- what a group is used for after a step
same_block_use : (n : ℕ) (x y : Usage) → block_use n x ≡ true → block_use n y ≡ true → x ≡ y
same_block_use n (Reserved b) (Reserved c) e d = ap Reserved (number_block (eqb-true b.number n e ∙ sym (eqb-true c.number n d)))
  where
    number_block : b.number ≡ c.number → b ≡ c
    number_block i =
        let P : ℕ → Type 0 = λ k. (q : k < 2 ^ 48) → b ≡ record { number = k; within = q } in
        subst P i (λ q. ap (λ (p : b.number < 2 ^ 48). record { number = b.number; within = p }) (le_prop b.within q)) c.within
same_block_use n Open y e d = absurd (both_ways false refl e)
same_block_use n Broken y e d = absurd (both_ways false refl e)
same_block_use n x Open e d = absurd (both_ways false refl d)
same_block_use n x Broken e d = absurd (both_ways false refl d)

same_broken_use : (x y : Usage) → broken_use x ≡ true → broken_use y ≡ true → x ≡ y
same_broken_use Broken Broken e d = refl
same_broken_use Open y e d = absurd (both_ways false refl e)
same_broken_use (Reserved b) y e d = absurd (both_ways false refl e)
same_broken_use x Open e d = absurd (both_ways false refl d)
same_broken_use x (Reserved b) e d = absurd (both_ways false refl d)

same_open_use : (x y : Usage) → open_use x ≡ true → open_use y ≡ true → x ≡ y
same_open_use Open Open e d = refl
same_open_use Broken y e d = absurd (both_ways false refl e)
same_open_use (Reserved b) y e d = absurd (both_ways false refl e)
same_open_use x Broken e d = absurd (both_ways false refl d)
same_open_use x (Reserved b) e d = absurd (both_ways false refl d)

same_usage : (p : ℕ) (t : Step) (x y : Usage) → UsedAs p t x → UsedAs p t y → x ≡ y
same_usage p Kept x y e d = same_block_use (block_of p) x y e d
same_usage p Reserves x y e d = same_block_use (block_of p) x y e d
same_usage p Spare x y e d = same_broken_use x y e d
same_usage p Breaks x y e d = same_broken_use x y e d
same_usage p BreaksOldest x y e d = same_broken_use x y e d

-- the order of reservation after a step
same_order : (s u v : ReservationAllocator) (t : Step) (g : ℕ) → OrderAfter s t g u → OrderAfter s t g v → older u ≡ older v
same_order s u v Kept g a b = a ∙ sym b
same_order s u v Reserves g a b = a ∙ sym b
same_order s u v Spare g a b = a ∙ sym b
same_order s u v Breaks g a b = a ∙ sym b
same_order s u v BreaksOldest g a b = a ∙ sym b

-- a group with one frame more, or less, out
same_out : (x y z : Group) (k : ℕ) (b : Bool) → OutAt z k b x → OutAt z k b y → x.out.bits ≡ y.out.bits
same_out x y z k b e d = same_bits (x.out.bits + y.out.bits) x.out.bits y.out.bits (omega arith) (omega arith) (λ j. ap (λ f. f j) (e ∙ sym d))

same_group : (x y : Group) → x.usage ≡ y.usage → x.out.bits ≡ y.out.bits → x ≡ y
same_group x y e d = ap₂ (λ (w : Usage) (n : ℕ). record { usage = w; out = record { bits = n } }) e d

same_groups : (s u v : ReservationAllocator) (g : ℕ) → OnlyGroup s g u → OnlyGroup s g v → group_of u g ≡ group_of v g → group_of u ≡ group_of v
same_groups s u v g a b e = fun_ext (λ h. ⊎_elim
    (λ i. ap (group_of u) i ∙ e ∙ ap (group_of v) (sym i))
    (λ ne. a.others h ne ∙ sym (b.others h ne))
    (cases_eq h g))

-- one choice that was carried out twice
taken_once : (s u v : ReservationAllocator) (p f g : ℕ) (c d : Choice) → Chosen s p c → Chosen s p d → SameSpot c d → Taken s p c f u → Taken s p d g v → (f ≡ g) × SameState u v
taken_once s u v p f g c d x y same a b =
    let e = sym (choices s p c d x y).step in
    let i = sym same.group in
    let j = sym same.offset in
    let n = c.spot.group in
    let k = c.spot.offset.number in
    let only : OnlyGroup s n v = subst (λ h. OnlyGroup s h v) i b.only in
    let out : OutAt (group_of s n) k true (group_of v n) = subst (λ h. OutAt (group_of s n) h true (group_of v n)) j (subst (λ h. OutAt (group_of s h) d.spot.offset.number true (group_of v h)) i b.out) in
    let usage : UsedAs p c.step (group_of v n).usage = subst (λ t. UsedAs p t (group_of v n).usage) e (subst (λ h. UsedAs p d.step (group_of v h).usage) i b.usage) in
    let order : OrderAfter s c.step n v = subst (λ t. OrderAfter s t n v) e (subst (λ h. OrderAfter s d.step h v) i b.order) in (
      a.frame ∙ ap₂ (frame_at s) same.group same.offset ∙ sym b.frame,
      record {
        stock = a.only.stock ∙ sym b.only.stock;
        groups = same_groups s u v n a.only only
            (same_group (group_of u n) (group_of v n) (same_usage p c.step _ _ a.usage usage) (same_out (group_of u n) (group_of v n) (group_of s n) k true a.out out));
        order = same_order s u v c.step n a.order order;
      },
    )

-- a frame that is in shows that not every group is full
not_full : (s : ReservationAllocator) (p : ℕ) (c : Choice) → Chosen s p c → NoneIn s → ⊥
not_full s p c x none = both_ways _ (none c.spot.group) (in_has (group_of s c.spot.group) c.spot.offset.number x.within)

-- what a group is used for after a frame came in
same_returned : (x y z : Group) → x.out.bits ≡ y.out.bits → MatchBool (eqb x.out.bits 0) (is_open x ≡ true) (x.usage ≡ z.usage) → MatchBool (eqb y.out.bits 0) (is_open y ≡ true) (y.usage ≡ z.usage) → x.usage ≡ y.usage
same_returned x y z e a b = by_empty (eqb x.out.bits 0) a (subst (λ n. MatchBool (eqb n 0) (is_open y ≡ true) (y.usage ≡ z.usage)) (sym e) b)
  where
    by_empty : (t : Bool) → MatchBool t (is_open x ≡ true) (x.usage ≡ z.usage) → MatchBool t (is_open y ≡ true) (y.usage ≡ z.usage) → x.usage ≡ y.usage
    by_empty true a b = same_open_use x.usage y.usage a b
    by_empty false a b = a ∙ sym b

-- a frame that came in twice
came_once : (s u v : ReservationAllocator) (g k : ℕ) → CameIn s g k u → CameIn s g k v → SameState u v
came_once s u v g k a b =
    let bits = same_out (group_of u g) (group_of v g) (group_of s g) k false a.returned.out b.returned.out in
    let usage = same_returned (group_of u g) (group_of v g) (group_of s g) bits a.returned.usage b.returned.usage in
    let one = same_group (group_of u g) (group_of v g) usage bits in
    record {
      stock = a.only.stock ∙ sym b.only.stock;
      groups = same_groups s u v g a.only b.only one;
      order = by_open (is_open (group_of u g)) a.order (subst (λ x. MatchBool (is_open x) (older v ≡ taken_out (older s) g) (older v ≡ older s)) (sym one) b.order);
    }
  where
    by_open : (t : Bool) → MatchBool t (older u ≡ taken_out (older s) g) (older u ≡ older s) → MatchBool t (older v ≡ taken_out (older s) g) (older v ≡ older s) → older u ≡ older v
    by_open true a b = a ∙ sym b
    by_open false a b = a ∙ sym b

-- what a rule says of one allocator it says of every other in the same state
module _ (s t : ReservationAllocator) (z : SameState s t) where
  by_groups : (P : (ℕ → Group) → Type 0) → P (group_of s) → P (group_of t)
  by_groups P x = subst P z.groups x

  to_groups : (P : (ℕ → Group) → Type 0) → P (group_of t) → P (group_of s)
  to_groups P x = subst P (sym z.groups) x

  lowest_too : (g : ℕ) → LowestOpen s g → LowestOpen t g
  lowest_too g x = record { here = by_groups (λ f. is_open (f g) ≡ true) x.here; lower = λ h l. by_groups (λ f. is_open (f h) ≡ false) (x.lower h l) }

  no_own_too : (p : ℕ) → NoOwn s p → NoOwn t p
  no_own_too p x = record {
    kept = λ g r. by_groups (λ f. bit (f g).out.bits (offset_of p) ≡ true) (x.kept g (to_groups (λ f. block_use (block_of p) (f g).usage ≡ true) r));
    reserves = λ none g. by_groups (λ f. is_open (f g) ≡ false) (x.reserves (λ h. to_groups (λ f. block_use (block_of p) (f h).usage ≡ false) (none h)) g);
  }

  longest_too : (g : ℕ) → Longest s g → Longest t g
  longest_too g x = record {
    here = by_groups (λ f. waits_in (f g) ≡ true) x.here;
    first = λ h w ne. subst (λ o. o g h ≡ true) z.order (x.first h (to_groups (λ f. waits_in (f h) ≡ true) w) ne);
  }

  rule_too : (p : ℕ) (c : Step) (g k : ℕ) → Rule s p c g k → Rule t p c g k
  rule_too p Kept g k (r, e) = (by_groups (λ f. block_use (block_of p) (f g).usage ≡ true) r, e)
  rule_too p Reserves g k (none, low, e) = ((λ h. by_groups (λ f. block_use (block_of p) (f h).usage ≡ false) (none h)), lowest_too g low, e)
  rule_too p Spare g k (own, b) = (no_own_too p own, by_groups (λ f. is_broken (f g) ≡ true) b)
  rule_too p Breaks g k (own, none, o) = (no_own_too p own, (λ h. by_groups (λ f. is_spare (f h) ≡ false) (none h)), by_groups (λ f. is_open (f g) ≡ true) o)
  rule_too p BreaksOldest g k (own, none, closed, old) =
      (no_own_too p own, (λ h. by_groups (λ f. is_spare (f h) ≡ false) (none h)), (λ h. by_groups (λ f. is_open (f h) ≡ false) (closed h)), longest_too g old)

  chosen_too : (p : ℕ) (c : Choice) → Chosen s p c → Chosen t p c
  chosen_too p c x = record {
    rule = rule_too p c.step c.spot.group c.spot.offset.number x.rule;
    within = by_groups (λ f. In (f c.spot.group) c.spot.offset.number) x.within;
  }

  order_too : (c : Step) (g : ℕ) (u : ReservationAllocator) → OrderAfter s c g u → OrderAfter t c g u
  order_too Kept g u e = e ∙ z.order
  order_too Reserves g u e = e ∙ ap₂ (λ o f. put_last o (λ h. is_reserved (f h)) g) z.order z.groups
  order_too Spare g u e = e ∙ z.order
  order_too Breaks g u e = e ∙ z.order
  order_too BreaksOldest g u e = e ∙ ap (λ o. taken_out o g) z.order

  only_too : (g : ℕ) (u : ReservationAllocator) → OnlyGroup s g u → OnlyGroup t g u
  only_too g u x = record { stock = x.stock ∙ z.stock; others = λ h ne. x.others h ne ∙ ap (λ f. f h) z.groups }

  taken_too : (p f : ℕ) (c : Choice) (u : ReservationAllocator) → Taken s p c f u → Taken t p c f u
  taken_too p f c u x = record {
    frame = x.frame ∙ ap (λ k. first_frame k + (16 * c.spot.group + c.spot.offset.number)) z.stock;
    only = only_too c.spot.group u x.only;
    out = by_groups (λ f. OutAt (f c.spot.group) c.spot.offset.number true (group_of u c.spot.group)) x.out;
    usage = x.usage;
    order = order_too c.step c.spot.group u x.order;
  }

  came_too : (g k : ℕ) (u : ReservationAllocator) → CameIn s g k u → CameIn t g k u
  came_too g k u x = record {
    only = only_too g u x.only;
    returned = by_groups (λ f. Returned (f g) k (group_of u g)) x.returned;
    order = subst (λ o. MatchBool (is_open (group_of u g)) (older u ≡ taken_out o g) (older u ≡ o)) z.order x.order;
  }

  out_too : (f : ℕ) → group_out s f ≡ group_out t f
  out_too f = ap₂ (λ k h. in_stock k f && bit (h ((f - first_frame k) / 16)).out.bits ((f - first_frame k) % 16)) z.stock z.groups

  -- both were left as they were
  same_left : (u v : ReservationAllocator) → u ≡ s → v ≡ t → SameState u v
  same_left u v e d = record {
    stock = ap (λ x. x.stock) e ∙ z.stock ∙ sym (ap (λ x. x.stock) d);
    groups = ap group_of e ∙ z.groups ∙ sym (ap group_of d);
    order = ap older e ∙ z.order ∙ sym (ap older d);
  }

  refused_once : (u v : ReservationAllocator) (p : ℕ) (e : AllocateFault) (r : Result ℕ AllocateFault) → reservation.allocated s p (Err e) u → reservation.allocated t p r v → (r ≡ Err e) × SameState u v
  refused_once u v p AllOut (Ok f) (none, a) (c, x, b) = absurd (not_full t p c x (λ g. by_groups (λ f. has_in (f g) ≡ false) (none g)))
  refused_once u v p AllOut (Err AllOut) (none, a) (all, b) = (refl, same_left u v a b)

  freed_once : (u v : ReservationAllocator) (f : ℕ) (r q : Result (Unit {0}) FreeFault) → reservation.freed s f r u → reservation.freed t f q v → (r ≡ q) × SameState u v
  freed_once u v f (Ok x) (Ok y) (i, a) (j, b) = (
    refl,
    came_once t u v (group_at t f) (offset_at t f)
        (subst (λ k. CameIn t ((f - first_frame k) / 16) ((f - first_frame k) % 16) u) z.stock (came_too (group_at s f) (offset_at s f) u a)) b,
  )
  freed_once u v f (Ok x) (Err NotOut) (y, a) (within, b) = absurd (y.0 (out_too f ∙ within))
  freed_once u v f (Err NotOut) (Ok x) (within, a) (y, b) = absurd (y.0 (sym (out_too f) ∙ within))
  freed_once u v f (Err NotOut) (Err NotOut) (i, a) (j, b) = (refl, same_left u v a b)

pub determined : Determined
determined = record {
  choices = λ s t p c d z x y. choices t p c d (chosen_too s t z p c x) y;
  taken = λ s t u v p f g c d z x y same a b. taken_once t u v p f g c d (chosen_too s t z p c x) y same (taken_too s t z p f c u a) b;
  refused = λ s t u v p e r z. refused_once s t z u v p e r;
  freed = λ s t u v f r q z. freed_once s t z u v f r q;
}
