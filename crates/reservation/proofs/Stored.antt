-- A group is written: what is kept of the groups beside them, and which frames are out.
use Rattle.std.proofs.Common.{◌≡◌, ℕ, ◌+◌, ◌-◌, ◌*◌, ◌/◌, ◌%◌, ◌<◌, Bool, true, false, ◌&&◌, eqb, ◌≢◌, List, length, set, MatchBool, Some, None, sym, refl, ap, ◌∙◌, subst, ap₂, ⊎_elim, arith}
use mathlib.Core.Path.{fun_ext}
use Rattle.std.proofs.lemmas.List.{get_or-set_same, get_or-set_other}
use Rattle.std.proofs.lemmas.Bool.{cases_eq, cases_Bool, both_ways, and_from, and_parts, and_left, and_right, ne_eqb, not_from_false, le-leb, lt-ltb, leb-true}
use Rattle.std.specs.Bool.{then_some}
use Rattle.words.specs.Layout.{bit, block_of}
use Rattle.frames.specs.declared.stock.Stock.{Stock}
use Rattle.frames.specs.Stock.{first_frame, in_stock}
use Rattle.words.specs.Points.{at}
use Rattle.reservation.specs.declared.age_order.AgeOrder.{AgeOrder}
use Rattle.reservation.specs.declared.group.Choice.{Choice}
use Rattle.reservation.specs.declared.group.Group.{Group}
use Rattle.reservation.specs.declared.group.Step.{Step}
use Rattle.reservation.specs.declared.group.Step.TheVariants.{Kept, Reserves, Spare, Breaks, BreaksOldest}
use Rattle.reservation.specs.declared.group.Usage.{Usage}
use Rattle.reservation.specs.declared.reservation.ReservationAllocator.{ReservationAllocator}
use Rattle.reservation.specs.Ages.{member, before, waits, put_last, taken_out, Joins, Stays, Updated}
use Rattle.reservation.specs.Groups.{nth_group, open_use, reserved_use, same_block, is_open, is_reserved, has_in, waits_in, turn_of, OutAt, Returned}
use Rattle.reservation.specs.Reservation.{group_of, older, frame_at, group_at, offset_at, group_stock, group_out, Rule, UsedAs, OrderAfter, OnlyGroup, Chosen, Taken, CameIn}
use Rattle.reservation.proofs.Ranks.{at_here, at_there, at_each, and_true}
use Rattle.reservation.proofs.Usages.{both_for, same_for, same_sym, broken_alone, block_reserved, broken_only, open_only, open_alone}
use Rattle.reservation.proofs.WordSets.{bit_some}

pub nth_set : (gs : List Group) (n : ℕ) (x : Group) → n < length gs → nth_group (set gs n x) ≡ at (nth_group gs) n x
nth_set gs n x l = fun_ext (λ k. ⊎_elim
    (λ e. ap (nth_group (set gs n x)) e ∙ get_or-set_same gs n x _ l ∙ sym (at_here (nth_group gs) n x k e))
    (λ ne. let d : k ≢ n = ne in get_or-set_other gs n k x _ d ∙ sym (at_there (nth_group gs) n x k ne))
    (cases_eq k n))

-- a set that has the groups that pass a test
pub kept_flag : (F : Group → Bool) (S S' : ℕ → Bool) (G : ℕ → Group) (n : ℕ) (x : Group) (b : Bool) → S' ≡ at S n b → b ≡ F x → ((k : ℕ) → S k ≡ F (G k)) → (k : ℕ) → S' k ≡ F (at G n x k)
kept_flag F S S' G n x b e f same = at_each (λ k v. S' k ≡ F v) G n x
    (ap (λ h. h n) e ∙ at_here S n b n refl ∙ f)
    (λ k ne. ap (λ h. h k) e ∙ at_there S n b k ne ∙ same k)

-- at most one group for a block
pub kept_single : (G : ℕ → Group) (n : ℕ) (x : Group) → ((g h : ℕ) → same_block (G g).usage (G h).usage ≡ true → g ≡ h) → ((h : ℕ) → same_block x.usage (G h).usage ≡ true → h ≡ n) →
    (g h : ℕ) → same_block (at G n x g).usage (at G n x h).usage ≡ true → g ≡ h
kept_single G n x single alone g h =
    at_each (λ k v. same_block v.usage (at G n x h).usage ≡ true → k ≡ h) G n x
    (at_each (λ k v. same_block x.usage v.usage ≡ true → n ≡ k) G n x (λ e. refl) (λ k ne e. sym (alone k e)) h)
    (λ g ng. at_each (λ k v. same_block (G g).usage v.usage ≡ true → g ≡ k) G n x (λ e. alone g (same_sym (G g).usage x.usage e)) (λ k nk e. single g k e) h)
    g

-- a group that is written by a step is not open, and no other is reserved for its block
pub step_not_open : (p : ℕ) (t : Step) (u : Usage) → UsedAs p t u → open_use u ≡ false
step_not_open p Kept u e = (block_reserved u (block_of p) e).1
step_not_open p Reserves u e = (block_reserved u (block_of p) e).1
step_not_open p Spare u e = (broken_only u e).1
step_not_open p Breaks u e = (broken_only u e).1
step_not_open p BreaksOldest u e = (broken_only u e).1

pub step_single : (s : ReservationAllocator) (p : ℕ) (t : Step) (g k : ℕ) (u : Usage) → Rule s p t g k → UsedAs p t u → (h : ℕ) → same_block u (group_of s h).usage ≡ true → h ≡ g
step_single s p Kept g k u (r, e) f h x = s.single h g (same_sym (group_of s g).usage (group_of s h).usage (both_for (group_of s g).usage (group_of s h).usage (block_of p) r (same_for u (group_of s h).usage (block_of p) f x)))
step_single s p Reserves g k u (none, l, e) f h x = absurd (both_ways _ (none h) (same_for u (group_of s h).usage (block_of p) f x))
step_single s p Spare g k u r f h x = absurd (broken_alone u (group_of s h).usage f x)
step_single s p Breaks g k u r f h x = absurd (broken_alone u (group_of s h).usage f x)
step_single s p BreaksOldest g k u r f h x = absurd (broken_alone u (group_of s h).usage f x)

-- whether a group has a turn
pub turn_some : (x : Group) → is_reserved x ≡ true → turn_of x ≡ Some (has_in x)
turn_some x e = ap (λ b. then_some b (has_in x)) e

pub turn_none : (x : Group) → is_reserved x ≡ false → turn_of x ≡ None
turn_none x e = ap (λ b. then_some b (has_in x)) e

-- the order of reservation after a step
joins : (a b : AgeOrder) (n : ℕ) (x : Group) → Updated a n (turn_of x) b → is_reserved x ≡ true → member a n ≡ false → before b ≡ put_last (before a) (member a) n
joins a b n x u e m =
    let v = subst (λ o. Updated a n o b) (turn_some x e) u in
    (subst (λ y. MatchBool y (Stays a n (has_in x) b) (Joins a n (has_in x) b)) m v).order

stays : (a b : AgeOrder) (n : ℕ) (x : Group) → Updated a n (turn_of x) b → is_reserved x ≡ true → member a n ≡ true → before b ≡ before a
stays a b n x u e m =
    let v = subst (λ o. Updated a n o b) (turn_some x e) u in
    (subst (λ y. MatchBool y (Stays a n (has_in x) b) (Joins a n (has_in x) b)) m v).order

pub leaves : (a b : AgeOrder) (n : ℕ) (x : Group) → Updated a n (turn_of x) b → is_reserved x ≡ false → before b ≡ taken_out (before a) n
leaves a b n x u e = (subst (λ o. Updated a n o b) (turn_none x e) u).order

-- which groups are in the order after it, and which wait
pub within_after : (a b : AgeOrder) (n : ℕ) (x : Group) → Updated a n (turn_of x) b → member b ≡ at (member a) n (is_reserved x)
within_after a b n x u = by_turn (is_reserved x) (has_in x) u
  where
    by_member : (w m : Bool) → MatchBool m (Stays a n w b) (Joins a n w b) → member b ≡ at (member a) n true
    by_member w true u = u.within
    by_member w false u = u.within

    by_turn : (r w : Bool) → Updated a n (then_some r w) b → member b ≡ at (member a) n r
    by_turn true w u = by_member w (member a n) u
    by_turn false w u = u.within

pub waiting_after : (a b : AgeOrder) (n : ℕ) (x : Group) → Updated a n (turn_of x) b → waits b ≡ at (waits a) n (waits_in x)
waiting_after a b n x u = by_turn (is_reserved x) (has_in x) u
  where
    by_member : (w m : Bool) → MatchBool m (Stays a n w b) (Joins a n w b) → waits b ≡ at (waits a) n w
    by_member w true u = u.waiting
    by_member w false u = u.waiting

    by_turn : (r w : Bool) → Updated a n (then_some r w) b → waits b ≡ at (waits a) n (r && w)
    by_turn true w u = by_member w (member a n) u
    by_turn false w u = u.waiting

-- a group that is not in the order can be taken out of it
absent : (a : AgeOrder) (n : ℕ) → member a n ≡ false → taken_out (before a) n ≡ before a
absent a n m = fun_ext (λ g. fun_ext (λ h. each g h))
  where
    none_left : (h : ℕ) → before a n h ≡ false
    none_left h = and_left (member a n && member a h) _ (and_left (member a n) (member a h) m)

    none_right : (g : ℕ) → before a g n ≡ false
    none_right g = and_left (member a g && member a n) _ (and_right (member a g) (member a n) m)

    each : (g h : ℕ) → taken_out (before a) n g h ≡ before a g h
    each g h = ⊎_elim
        (λ e. and_left (before a g h) _ (ap (λ x. before a x h) e ∙ none_left h) ∙ sym (ap (λ x. before a x h) e ∙ none_left h))
        (λ ne. ⊎_elim
        (λ e. and_left (before a g h) _ (ap (before a g) e ∙ none_right g) ∙ sym (ap (before a g) e ∙ none_right g))
        (λ nf. ap (λ x. before a g h && x) (and_from _ _ (not_from_false _ (ne_eqb g n ne)) (not_from_false _ (ne_eqb h n nf))) ∙ and_true (before a g h))
        (cases_eq h n))
        (cases_eq g n)

pub gone_unless : (a b : AgeOrder) (n : ℕ) (x : Group) → Updated a n (turn_of x) b → is_reserved x ≡ false → member a n ≡ false → before b ≡ before a
gone_unless a b n x u e m = leaves a b n x u e ∙ absent a n m

pub still : (a b : AgeOrder) (n : ℕ) (x : Group) → Updated a n (turn_of x) b → is_reserved x ≡ member a n → before b ≡ before a
still a b n x u e = ⊎_elim
    (λ t. stays a b n x u (e ∙ t) t)
    (λ f. gone_unless a b n x u (e ∙ f) f)
    (cases_Bool (member a n))

pub order_after : (s u : ReservationAllocator) (p : ℕ) (t : Step) (g k : ℕ) (x : Group) → Rule s p t g k → UsedAs p t x.usage → Updated s.order g (turn_of x) u.order → OrderAfter s t g u
order_after s u p Kept g k x (r, e) f o = stays s.order u.order g x o (block_reserved x.usage (block_of p) f).0 (s.ordered g ∙ (block_reserved (group_of s g).usage (block_of p) r).0)
order_after s u p Reserves g k x (none, l, e) f o =
    joins s.order u.order g x o (block_reserved x.usage (block_of p) f).0 (s.ordered g ∙ open_only (group_of s g).usage l.here)
    ∙ ap (λ m. put_last (older s) m g) (fun_ext s.ordered)
order_after s u p Spare g k x (r, e) f o = gone_unless s.order u.order g x o (broken_only x.usage f).0 (s.ordered g ∙ (broken_only (group_of s g).usage e).0)
order_after s u p Breaks g k x (r, n, e) f o = gone_unless s.order u.order g x o (broken_only x.usage f).0 (s.ordered g ∙ open_only (group_of s g).usage e)
order_after s u p BreaksOldest g k x r f o = leaves s.order u.order g x o (broken_only x.usage f).0

-- a frame by its group and offset
pub frame_group : (s : ReservationAllocator) (g k : ℕ) → k < 16 → group_at s (frame_at s g k) ≡ g
frame_group s g k l = omega arith

pub frame_offset : (s : ReservationAllocator) (g k : ℕ) → k < 16 → offset_at s (frame_at s g k) ≡ k
frame_offset s g k l = omega arith

pub frame_stock : (s : ReservationAllocator) (g k : ℕ) → g < 256 → k < 16 → group_stock s (frame_at s g k) ≡ true
frame_stock s g k h l = and_from _ _ (le-leb (first_frame s.stock) (frame_at s g k) (omega arith)) (lt-ltb (frame_at s g k - first_frame s.stock) 4096 (omega arith))

pub frame_out : (s : ReservationAllocator) (g k : ℕ) → g < 256 → k < 16 → group_out s (frame_at s g k) ≡ bit (group_of s g).out.bits k
frame_out s g k h l =
    ap (λ x. x && bit (group_of s (group_at s (frame_at s g k))).out.bits (offset_at s (frame_at s g k))) (frame_stock s g k h l)
    ∙ ap₂ (λ x y. bit (group_of s x).out.bits y) (frame_group s g k l) (frame_offset s g k l)

-- whether a frame of the stock x is out by the groups of u
abbrev out_from : ReservationAllocator → Stock → ℕ → Bool
out_from u x q = in_stock x q && bit (group_of u ((q - first_frame x) / 16)).out.bits ((q - first_frame x) % 16)

-- just that frame went out, or came in
pub out_changed : (s u : ReservationAllocator) (g k : ℕ) (b : Bool) → g < 256 → k < 16 → OnlyGroup s g u → OutAt (group_of s g) k b (group_of u g) → group_out u ≡ at (group_out s) (frame_at s g k) b
out_changed s u g k b h l only out = fun_ext (λ q. ap (λ z. out_from u z q) only.stock ∙ ⊎_elim
    (λ e. ap (out_from u s.stock) e
    ∙ ap (λ x. x && bit (group_of u (group_at s (frame_at s g k))).out.bits (offset_at s (frame_at s g k))) (frame_stock s g k h l)
    ∙ ap₂ (λ x y. bit (group_of u x).out.bits y) (frame_group s g k l) (frame_offset s g k l)
    ∙ ap (λ f. f k) out ∙ at_here (bit (group_of s g).out.bits) k b k refl
    ∙ sym (at_here (group_out s) (frame_at s g k) b q e))
    (λ ne. elsewhere q ne ∙ sym (at_there (group_out s) (frame_at s g k) b q ne))
    (cases_eq q (frame_at s g k)))
  where
    elsewhere : (q : ℕ) → (q ≡ frame_at s g k → ⊥) → out_from u s.stock q ≡ group_out s q
    elsewhere q ne = ⊎_elim
        (λ t. ap (λ x. group_stock s q && x)
        (⊎_elim
        (λ i. let a = leb-true (first_frame s.stock) q (and_parts _ _ t).0 in
        let other : offset_at s q ≡ k → ⊥ = λ j. ne (omega arith) in
        ap (λ x. bit (group_of u x).out.bits (offset_at s q)) i ∙ ap (λ f. f (offset_at s q)) out
        ∙ at_there (bit (group_of s g).out.bits) k b (offset_at s q) other ∙ ap (λ x. bit (group_of s x).out.bits (offset_at s q)) (sym i))
        (λ i. ap (λ x. bit x.out.bits (offset_at s q)) (only.others (group_at s q) i))
        (cases_eq (group_at s q) g)))
        (λ f. and_left (group_stock s q) _ f ∙ sym (and_left (group_stock s q) _ f))
        (cases_Bool (group_stock s q))

-- what the writing of a group says of the allocator after it
pub only_group : (s u : ReservationAllocator) (g : ℕ) (x : Group) → u.stock ≡ s.stock → group_of u ≡ at (group_of s) g x → OnlyGroup s g u
only_group s u g x stock stored = record { stock = stock; others = λ h ne. ap (λ f. f h) stored ∙ at_there (group_of s) g x h ne }

pub written : (s u : ReservationAllocator) (g : ℕ) (x : Group) → group_of u ≡ at (group_of s) g x → group_of u g ≡ x
written s u g x stored = ap (λ f. f g) stored ∙ at_here (group_of s) g x g refl

pub same_stock : (s u : ReservationAllocator) → u.stock ≡ s.stock → group_stock u ≡ group_stock s
same_stock s u e = ap in_stock e

pub took : (s u : ReservationAllocator) (p : ℕ) (c : Choice) (f : ℕ) (old x : Group) → Chosen s p c → old ≡ group_of s c.spot.group → OutAt old c.spot.offset.number true x → UsedAs p c.step x.usage →
    u.stock ≡ s.stock → group_of u ≡ at (group_of s) c.spot.group x → Updated s.order c.spot.group (turn_of x) u.order → f ≡ frame_at s c.spot.group c.spot.offset.number → Taken s p c f u
took s u p c f old x chosen was out used stock stored order frame =
    let e = written s u c.spot.group x stored in
    record {
      frame = frame;
      only = only_group s u c.spot.group x stock stored;
      out = ap (λ y. bit y.out.bits) e ∙ out ∙ ap (λ y. at (bit y.out.bits) c.spot.offset.number true) was;
      usage = subst (λ y. UsedAs p c.step y.usage) (sym e) used;
      order = order_after s u p c.step c.spot.group c.spot.offset.number x chosen.rule used order;
    }

-- a group that a frame comes back to
module _ (s : ReservationAllocator) (g k : ℕ) (old x : Group) (was : old ≡ group_of s g) (out : bit (group_of s g).out.bits k ≡ true) (back : Returned old k x) where
  -- it opens, or is used as before
  by_usage : (P : Type 0) → (is_open x ≡ true → eqb x.out.bits 0 ≡ true → P) → (x.usage ≡ (group_of s g).usage → eqb x.out.bits 0 ≡ false → P) → P
  by_usage P a b = ⊎_elim
      (λ t. a (subst (λ y. MatchBool y (is_open x ≡ true) (x.usage ≡ old.usage)) t back.usage) t)
      (λ f. b (subst (λ y. MatchBool y (is_open x ≡ true) (x.usage ≡ old.usage)) f back.usage ∙ ap (λ y. y.usage) was) f)
      (cases_Bool (eqb x.out.bits 0))

  not_open : open_use (group_of s g).usage ≡ false
  not_open = s.used g ∙ bit_some (group_of s g).out.bits k out

  pub back_used : is_open x ≡ eqb x.out.bits 0
  back_used = by_usage (is_open x ≡ eqb x.out.bits 0) (λ a t. a ∙ sym t) (λ e f. ap open_use e ∙ not_open ∙ sym f)

  pub back_single : (h : ℕ) → same_block x.usage (group_of s h).usage ≡ true → h ≡ g
  back_single h e = by_usage (h ≡ g) (λ a t. absurd (open_alone x.usage (group_of s h).usage a e))
      (λ d f. sym (s.single g h (ap (λ y. same_block y (group_of s h).usage) (sym d) ∙ e)))

  back_order : (u : ReservationAllocator) → Updated s.order g (turn_of x) u.order → MatchBool (is_open x) (older u ≡ taken_out (older s) g) (older u ≡ older s)
  back_order u o = by_usage _
      (λ a t. subst (λ y. MatchBool y (older u ≡ taken_out (older s) g) (older u ≡ older s)) (sym a) (leaves s.order u.order g x o (open_only x.usage a)))
      (λ d f. subst (λ y. MatchBool y (older u ≡ taken_out (older s) g) (older u ≡ older s)) (sym (ap open_use d ∙ not_open)) (still s.order u.order g x o (ap reserved_use d ∙ sym (s.ordered g))))

  pub came_in : (u : ReservationAllocator) → u.stock ≡ s.stock → group_of u ≡ at (group_of s) g x → Updated s.order g (turn_of x) u.order → CameIn s g k u
  came_in u stock stored order =
      let e = sym (written s u g x stored) in
      record {
        only = only_group s u g x stock stored;
        returned = subst (λ y. Returned (group_of s g) k y) e (subst (λ y. Returned y k x) was back);
        order = subst (λ y. MatchBool (is_open y) (older u ≡ taken_out (older s) g) (older u ≡ older s)) e (back_order u order);
      }

-- the frame that came in, by its group and offset
pub freed_at : (s u : ReservationAllocator) (f g k n : ℕ) → CameIn s g k u → n ≡ 16 * g + k → first_frame s.stock + n ≡ f → k < 16 → CameIn s (group_at s f) (offset_at s f) u
freed_at s u f g k n came place here l =
    let e : g ≡ group_at s f = omega arith in
    let d : k ≡ offset_at s f = omega arith in
    subst (λ x. CameIn s (group_at s f) x u) d (subst (λ x. CameIn s x k u) e came)
