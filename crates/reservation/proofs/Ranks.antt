-- Groups at ranks: one more at the end, one gone, one marked, one moved down past empty ranks.
use Rattle.std.proofs.Common.{◌≡◌, ℕ, zero, suc, ◌+◌, ◌<◌, ◌≤◌, Bool, true, false, cond, not, ◌&&◌, eqb, ltb, ◌≢◌, ◌⊎◌, sym, refl, ap, ◌∙◌, subst, ap₂, inl, inr, ⊎_elim, arith}
use mathlib.Core.Path.{fun_ext}
use Rattle.std.proofs.lemmas.Bool.{cases_eq, cases_lt, both_ways, eq-eqb, ne_eqb, lt-ltb, le-ltb, cond-true, cond-false, and_parts, and_from, and_right}
use Rattle.words.specs.Points.{at}
use Rattle.reservation.specs.Ages.{put_last, taken_out}

-- a function changed at one point, and a list
pub at_here : {X : Type 0} (f : ℕ → X) (p : ℕ) (x : X) (q : ℕ) → q ≡ p → at f p x q ≡ x
at_here f p x q e = cond-true _ _ _ (eq-eqb q p e)

pub at_there : {X : Type 0} (f : ℕ → X) (p : ℕ) (x : X) (q : ℕ) → (q ≡ p → ⊥) → at f p x q ≡ f q
at_there f p x q ne = cond-false _ _ _ (ne_eqb q p ne)

-- what holds at the point and elsewhere holds everywhere
pub at_each : {X : Type 0} (P : ℕ → X → Type 0) (f : ℕ → X) (p : ℕ) (x : X) → P p x → ((q : ℕ) → (q ≡ p → ⊥) → P q (f q)) → (q : ℕ) → P q (at f p x q)
at_each P f p x here there q = ⊎_elim
    (λ e. subst (P q) (sym (at_here f p x q e)) (subst (λ j. P j x) (sym e) here))
    (λ ne. subst (P q) (sym (at_there f p x q ne)) (there q ne))
    (cases_eq q p)

-- equal where it counts
guard : (b x y : Bool) → (b ≡ true → x ≡ y) → (b && x) ≡ (b && y)
guard true x y h = h refl
guard false x y h = refl

guard₂ : (u v x y : Bool) → (u ≡ true → v ≡ true → x ≡ y) → ((u && v) && x) ≡ ((u && v) && y)
guard₂ u v x y h = guard (u && v) x y (λ e. h (and_parts u v e).0 (and_parts u v e).1)

four : (u u' v v' : Bool) (s s' t t' : ℕ) → u ≡ u' → v ≡ v' → s ≡ s' → t ≡ t' → ((u && v) && ltb s t) ≡ ((u' && v') && ltb s' t')
four u u' v v' s s' t t' a b c d = cc

and_false : (x : Bool) → (x && false) ≡ false
and_false true = refl
and_false false = refl

pub and_true : (x : Bool) → (x && true) ≡ x
and_true true = refl
and_true false = refl

-- how many numbers below n pass the test
unfoldable pub count : (ℕ → Bool) → ℕ → ℕ
count f zero = 0
count f (suc n) = cond (f n) 1 0 + count f n

pub count_le : (f : ℕ → Bool) (n : ℕ) → count f n ≤ n
unfolding count
count_le f zero = omega arith
count_le f (suc n) = let i = count_le f n in let b : cond {A = ℕ} (f n) 1 0 ≤ 1 = elim (f n) as (λ x. cond {A = ℕ} x 1 0 ≤ 1) [ true ↦ omega arith | false ↦ omega arith ] in omega arith

count_same : (f h : ℕ → Bool) (n : ℕ) → ((k : ℕ) → k < n → f k ≡ h k) → count f n ≡ count h n
unfolding count
count_same f h zero e = refl
count_same f h (suc n) e = ap₂ ◌+◌ (ap (λ x. cond {A = ℕ} x 1 0) (e n (omega arith))) (count_same f h n (λ k l. e k (omega arith)))

-- one number more passes
pub count_more : (f h : ℕ → Bool) (g n : ℕ) → g < n → f g ≡ false → h g ≡ true → ((k : ℕ) → (k ≡ g → ⊥) → h k ≡ f k) → count h n ≡ count f n + 1
unfolding count
count_more f h g zero l a b e = absurd (omega arith)
count_more f h g (suc n) l a b e = ⊎_elim
    (λ s. let x : cond {A = ℕ} (h n) 1 0 ≡ 1 = ap (λ x. cond {A = ℕ} x 1 0) (ap h (sym s) ∙ b) in
    let y : cond {A = ℕ} (f n) 1 0 ≡ 0 = ap (λ x. cond {A = ℕ} x 1 0) (ap f (sym s) ∙ a) in
    let z = count_same h f n (λ k m. e k (λ i. omega arith)) in
    omega arith)
    (λ ne. let x : cond {A = ℕ} (h n) 1 0 ≡ cond {A = ℕ} (f n) 1 0 = ap (λ x. cond {A = ℕ} x 1 0) (e n (λ i. ne (sym i))) in
    let z = count_more f h g n (omega arith) a b e in
    omega arith)
    (cases_eq g n)

pub count_none : (f : ℕ → Bool) (n : ℕ) → ((k : ℕ) → f k ≡ false) → count f n ≡ 0
unfolding count
count_none f zero e = refl
count_none f (suc n) e = let i = count_none f n e in let b = ap (λ x. cond {A = ℕ} x 1 0) (e n) in omega arith

-- which groups are there, their ranks by group, and the groups by rank, of which n are used; W tells the ranks that wait
pub record Ranked (M W : ℕ → Bool) (F G : ℕ → ℕ) (n : ℕ) : Type 0 where
  pub ranked : (g : ℕ) → M g ≡ true → (F g < n) × (G (F g) ≡ g)
  pub waits : (p : ℕ) → W p ≡ true → (M (G p) ≡ true) × (F (G p) ≡ p)

abbrev pub order_of : (ℕ → Bool) → (ℕ → ℕ) → ℕ → ℕ → Bool
order_of M F a b = (M a && M b) && ltb (F a) (F b)

abbrev pub waits_of : (ℕ → Bool) → (ℕ → Bool) → (ℕ → ℕ) → ℕ → Bool
waits_of M W F g = M g && W (F g)

module _ (M W : ℕ → Bool) (F G : ℕ → ℕ) (n : ℕ) (S : Ranked M W F G n) where
  -- two groups have two ranks
  apart : (a b : ℕ) → M a ≡ true → M b ≡ true → F a ≡ F b → a ≡ b
  apart a b i j e = sym (S.ranked a i).1 ∙ ap (λ k. G k) e ∙ (S.ranked b j).1

  -- the first rank that waits has the oldest group that does
  pub oldest_first : (p g : ℕ) → W p ≡ true → ((q : ℕ) → q < p → W q ≡ false) → g ≡ G p → (waits_of M W F g ≡ true) × ((h : ℕ) → waits_of M W F h ≡ true → (h ≡ g → ⊥) → order_of M F g h ≡ true)
  oldest_first p g w first e =
      let (m, f) = S.waits p w in
      let m' : M g ≡ true = ap M e ∙ m in
      let f' : F g ≡ p = ap (λ k. F k) e ∙ f in (
        and_from (M g) (W (F g)) m' (ap W f' ∙ w),
        λ h x ne.
            let (i, j) = and_parts (M h) (W (F h)) x in
            let l : F g < F h =
            ⊎_elim
            (λ y. absurd (both_ways _ (first (F h) y) j))
            (λ y. ⊎_elim (λ z. absurd (ne (apart h g i m' (z ∙ sym f')))) (λ z. omega arith) (cases_eq (F h) p))
            (cases_lt (F h) p) in
            and_from (M g && M h) _ (and_from (M g) (M h) m' i) (lt-ltb _ _ l),
      )

  -- the group g joins at the rank n
  module _ (g : ℕ) (w : Bool) (new : M g ≡ false) where
    not_new : (k : ℕ) → M k ≡ true → k ≡ g → ⊥
    not_new k m e = both_ways (M k) (ap M e ∙ new) m

    pub appended : Ranked (at M g true) (at W n w) (at F g n) (at G n g) (n + 1)
    appended = record {
      ranked = λ k m. ⊎_elim
          (λ e. let p = at_here F g n k e in (omega arith, ap (λ x. at G n g x) p ∙ at_here G n g n refl ∙ sym e))
          (λ ne. let (l, f) = S.ranked k (sym (at_there M g true k ne) ∙ m) in
          let p = at_there F g n k ne in
          (omega arith, ap (λ x. at G n g x) p ∙ at_there G n g (F k) (λ e. omega arith) ∙ f))
          (cases_eq k g);
      waits = λ p x. ⊎_elim
          (λ e. let q = at_here G n g p e in (at_here M g true _ q, ap (λ k. at F g n k) q ∙ at_here F g n g refl ∙ sym e))
          (λ ne. let (m, f) = S.waits p (sym (at_there W n w p ne) ∙ x) in
          let q = at_there G n g p ne in
          let other : G p ≡ g → ⊥ = not_new (G p) m in
          (ap (at M g true) q ∙ at_there M g true _ other ∙ m, ap (λ k. at F g n k) q ∙ at_there F g n _ other ∙ f))
          (cases_eq p n);
    }

    pub appended_waits : waits_of (at M g true) (at W n w) (at F g n) ≡ at (waits_of M W F) g w
    appended_waits = fun_ext (λ k. ⊎_elim
        (λ e. ap₂ ◌&&◌ (at_here M g true k e) (ap (at W n w) (at_here F g n k e) ∙ at_here W n w n refl) ∙ sym (at_here (waits_of M W F) g w k e))
        (λ ne. ap₂ ◌&&◌ (at_there M g true k ne) (ap (at W n w) (at_there F g n k ne))
        ∙ guard (M k) _ _ (λ m. let l = (S.ranked k m).0 in at_there W n w (F k) (λ e. omega arith))
        ∙ sym (at_there (waits_of M W F) g w k ne))
        (cases_eq k g))

    pub appended_order : order_of (at M g true) (at F g n) ≡ put_last (order_of M F) M g
    appended_order = fun_ext (λ a. fun_ext (λ b. ⊎_elim
        (λ eb. ⊎_elim
        (λ ea. four _ true _ true _ n _ n (at_here M g true a ea) (at_here M g true b eb) (at_here F g n a ea) (at_here F g n b eb)
        ∙ le-ltb n n (omega arith) ∙ sym (ap M ea ∙ new))
        (λ na. four _ (M a) _ true _ (F a) _ n (at_there M g true a na) (at_here M g true b eb) (at_there F g n a na) (at_here F g n b eb)
        ∙ guard₂ (M a) true _ true (λ m t. lt-ltb _ _ (S.ranked a m).0) ∙ and_true (M a && true) ∙ and_true (M a))
        (cases_eq a g)
        ∙ sym (cond-true (eqb b g) (M a) _ (eq-eqb b g eb)))
        (λ nb. ⊎_elim
        (λ ea. four _ true _ (M b) _ n _ (F b) (at_here M g true a ea) (at_there M g true b nb) (at_here F g n a ea) (at_there F g n b nb)
        ∙ guard₂ true (M b) _ false (λ t m. let l = (S.ranked b m).0 in le-ltb _ _ (omega arith)) ∙ and_false (M b)
        ∙ sym (ap (λ x. (x && M b) && ltb (F a) (F b)) (ap M ea ∙ new)))
        (λ na. four _ (M a) _ (M b) _ (F a) _ (F b) (at_there M g true a na) (at_there M g true b nb) (at_there F g n a na) (at_there F g n b nb))
        (cases_eq a g)
        ∙ sym (cond-false (eqb b g) (M a) _ (ne_eqb b g nb)))
        (cases_eq b g)))

  -- the group g leaves
  module _ (g : ℕ) (here : M g ≡ true) where
    elsewhere : (k : ℕ) → M k ≡ true → (k ≡ g → ⊥) → F k ≡ F g → ⊥
    elsewhere k m ne e = ne (apart k g m here e)

    pub gone : Ranked (at M g false) (at W (F g) false) F G n
    gone = record {
      ranked = λ k m. S.ranked k (still k m).0;
      waits = λ p x. ⊎_elim
          (λ e. absurd (both_ways _ (at_here W (F g) false p e) x))
          (λ ne. let (m, f) = S.waits p (sym (at_there W (F g) false p ne) ∙ x) in
          (at_there M g false (G p) (λ e. ne (sym f ∙ ap (λ k. F k) e)) ∙ m, f))
          (cases_eq p (F g));
    }
      where
        still : (k : ℕ) → at M g false k ≡ true → (M k ≡ true) × (k ≡ g → ⊥)
        still k m = ⊎_elim
            (λ e. absurd (both_ways _ (at_here M g false k e) m))
            (λ ne. (sym (at_there M g false k ne) ∙ m, ne))
            (cases_eq k g)

    -- the rank of the group is written
    pub rewaits : (w : Bool) (k : ℕ) → (k ≡ g → ⊥) → (M k && at W (F g) w (F k)) ≡ (M k && W (F k))
    rewaits w k ne = guard (M k) _ _ (λ m. at_there W (F g) w (F k) (elsewhere k m ne))

    pub gone_waits : waits_of (at M g false) (at W (F g) false) F ≡ at (waits_of M W F) g false
    gone_waits = fun_ext (λ k. ⊎_elim
        (λ e. ap (λ b. b && at W (F g) false (F k)) (at_here M g false k e) ∙ sym (at_here (waits_of M W F) g false k e))
        (λ ne. ap (λ b. b && at W (F g) false (F k)) (at_there M g false k ne) ∙ rewaits false k ne ∙ sym (at_there (waits_of M W F) g false k ne))
        (cases_eq k g))

    -- the group g is marked
    pub marked : (w : Bool) → Ranked M (at W (F g) w) F G n
    marked w = record {
      ranked = S.ranked;
      waits = λ p x. ⊎_elim
          (λ e. let f = ap (λ k. G k) e ∙ (S.ranked g here).1 in (ap M f ∙ here, ap (λ k. F k) f ∙ sym e))
          (λ ne. S.waits p (sym (at_there W (F g) w p ne) ∙ x))
          (cases_eq p (F g));
    }

    pub marked_waits : (w : Bool) → waits_of M (at W (F g) w) F ≡ at (waits_of M W F) g w
    marked_waits w = fun_ext (λ k. ⊎_elim
        (λ e. ap₂ ◌&&◌ (ap M e ∙ here) (ap (λ x. at W (F g) w (F x)) e ∙ at_here W (F g) w (F g) refl) ∙ sym (at_here (waits_of M W F) g w k e))
        (λ ne. rewaits w k ne ∙ sym (at_there (waits_of M W F) g w k ne))
        (cases_eq k g))

  -- the group g moves from its rank p down to the rank t, and no group is between
  module _ (g p t : ℕ) (here : M g ≡ true) (own : F g ≡ p) (down : t ≤ p) (gap : (k : ℕ) → M k ≡ true → t ≤ F k → p ≤ F k) where
    -- the other groups are below t or above p
    outside : (k : ℕ) → M k ≡ true → (k ≡ g → ⊥) → (F k < t) ⊎ (p < F k)
    outside k m ne =
        ⊎_elim inl
        (λ l. let q = gap k m l in inr (let d : F k ≢ p = λ e. ne (apart k g m here (e ∙ sym own)) in omega arith))
        (cases_lt (F k) t)

    not_to : (k : ℕ) → M k ≡ true → (k ≡ g → ⊥) → F k ≡ t → ⊥
    not_to k m ne e = ⊎_elim (λ l. omega arith) (λ l. omega arith) (outside k m ne)

    not_from : (k : ℕ) → M k ≡ true → (k ≡ g → ⊥) → F k ≡ p → ⊥
    not_from k m ne e = ⊎_elim (λ l. omega arith) (λ l. omega arith) (outside k m ne)

    abbrev rewaited : ℕ → Bool
    rewaited = at (at W p false) t (W p)

    pub moved : Ranked M rewaited (at F g t) (at G t g) n
    moved = record {
      ranked = λ k m. ⊎_elim
          (λ e. let q = at_here F g t k e in
          let l = (S.ranked g here).0 in
          (omega arith, ap (λ x. at G t g x) q ∙ at_here G t g t refl ∙ sym e))
          (λ ne. let q = at_there F g t k ne in
          let (l, f) = S.ranked k m in
          (omega arith, ap (λ x. at G t g x) q ∙ at_there G t g (F k) (not_to k m ne) ∙ f))
          (cases_eq k g);
      waits = λ q x. ⊎_elim
          (λ e. let f = at_here G t g q e in (ap M f ∙ here, ap (λ k. at F g t k) f ∙ at_here F g t g refl ∙ sym e))
          (λ ne. let y = sym (at_there (at W p false) t (W p) q ne) ∙ x in
          let np : q ≡ p → ⊥ = λ e. both_ways _ (at_here W p false q e) y in
          let (m, f) = S.waits q (sym (at_there W p false q np) ∙ y) in
          let h = at_there G t g q ne in
          (ap M h ∙ m, ap (λ k. at F g t k) h ∙ at_there F g t (G q) (λ e. np (sym f ∙ ap (λ k. F k) e ∙ own)) ∙ f))
          (cases_eq q t);
    }

    pub moved_waits : waits_of M rewaited (at F g t) ≡ waits_of M W F
    moved_waits = fun_ext (λ k. ⊎_elim
        (λ e. ap (λ x. M k && x) (ap rewaited (at_here F g t k e) ∙ at_here (at W p false) t (W p) t refl ∙ ap W (sym own) ∙ ap (λ x. W (F x)) (sym e)))
        (λ ne. ap (λ x. M k && rewaited x) (at_there F g t k ne)
        ∙ guard (M k) _ _ (λ m. at_there (at W p false) t (W p) (F k) (not_to k m ne) ∙ at_there W p false (F k) (not_from k m ne)))
        (cases_eq k g))

    pub moved_order : order_of M (at F g t) ≡ order_of M F
    moved_order = fun_ext (λ a. fun_ext (λ b. guard₂ (M a) (M b) _ _ (λ ma mb. ⊎_elim
        (λ ea. ⊎_elim
        (λ eb. ap₂ ltb (at_here F g t a ea) (at_here F g t b eb) ∙ le-ltb t t (omega arith) ∙ sym (le-ltb _ _ (let e : F a ≡ F b = ap (λ k. F k) (ea ∙ sym eb) in omega arith)))
        (λ nb. ap₂ ltb (at_here F g t a ea) (at_there F g t b nb) ∙ (alike (F b) (outside b mb nb)).0 ∙ ap (λ x. ltb x (F b)) (sym own ∙ ap (λ k. F k) (sym ea)))
        (cases_eq b g))
        (λ na. ⊎_elim
        (λ eb. ap₂ ltb (at_there F g t a na) (at_here F g t b eb) ∙ (alike (F a) (outside a ma na)).1 ∙ ap (λ x. ltb (F a) x) (sym own ∙ ap (λ k. F k) (sym eb)))
        (λ nb. ap₂ ltb (at_there F g t a na) (at_there F g t b nb))
        (cases_eq b g))
        (cases_eq a g))))
      where
        alike : (k : ℕ) → (k < t) ⊎ (p < k) → (ltb t k ≡ ltb p k) × (ltb k t ≡ ltb k p)
        alike k (inl l) = (le-ltb t k (omega arith) ∙ sym (le-ltb p k (omega arith)), lt-ltb k t l ∙ sym (lt-ltb k p (omega arith)))
        alike k (inr l) = (lt-ltb t k (omega arith) ∙ sym (lt-ltb p k l), le-ltb k t (omega arith) ∙ sym (le-ltb k p (omega arith)))

    pub moved_gap : (k : ℕ) → M k ≡ true → t + 1 ≤ at F g t k → p + 1 ≤ at F g t k
    moved_gap k m l = ⊎_elim
        (λ e. let q = at_here F g t k e in absurd (omega arith))
        (λ ne. let q = at_there F g t k ne in ⊎_elim (λ x. absurd (omega arith)) (λ x. omega arith) (outside k m ne))
        (cases_eq k g)

    -- one group more is at the low ranks
    pub moved_count : (N : ℕ) → g < N → count (λ k. M k && ltb (at F g t k) (t + 1)) N ≡ count (λ k. M k && ltb (F k) t) N + 1
    moved_count N l = count_more (λ k. M k && ltb (F k) t) (λ k. M k && ltb (at F g t k) (t + 1)) g N l
        (and_right (M g) _ (le-ltb _ t (omega arith)))
        (and_from (M g) _ here (lt-ltb _ (t + 1) (let q = at_here F g t g refl in omega arith)))
        (λ k ne. ap (λ x. M k && ltb x (t + 1)) (at_there F g t k ne)
        ∙ guard (M k) _ _ (λ m. ⊎_elim
        (λ y. lt-ltb _ (t + 1) (omega arith) ∙ sym (lt-ltb _ t y))
        (λ y. le-ltb _ (t + 1) (omega arith) ∙ sym (le-ltb _ t (omega arith)))
        (outside k m ne)))

-- the order without a group
pub gone_order : (M : ℕ → Bool) (F : ℕ → ℕ) (g : ℕ) → order_of (at M g false) F ≡ taken_out (order_of M F) g
gone_order M F g = fun_ext (λ a. fun_ext (λ b. each (eqb a g) (eqb b g) (M a) (M b) (ltb (F a) (F b))))
  where
    each : (x y u v l : Bool) → ((cond x false u && cond y false v) && l) ≡ (((u && v) && l) && (not x && not y))
    each true y u v l = sym (and_false ((u && v) && l))
    each false true u v l = ap (λ z. z && l) (and_false u) ∙ sym (and_false ((u && v) && l))
    each false false u v l = sym (and_true ((u && v) && l))

-- a rank that no group has
pub passed_gap : (M : ℕ → Bool) (F G : ℕ → ℕ) (n t p : ℕ) → ((g : ℕ) → M g ≡ true → (F g < n) × (G (F g) ≡ g)) → (M (G p) && eqb (F (G p)) p) ≡ false → ((k : ℕ) → M k ≡ true → t ≤ F k → p ≤ F k) → (k : ℕ) → M k ≡ true → t ≤ F k → p + 1 ≤ F k
passed_gap M F G n t p ranked free gap k m l =
    let q = gap k m l in
    let d : F k ≢ p = λ e. let own : G p ≡ k = ap (λ x. G x) (sym e) ∙ (ranked k m).1 in
    both_ways _ free (and_from _ _ (ap M own ∙ m) (eq-eqb _ p (ap (λ x. F x) own ∙ e))) in
    omega arith

-- a rank counts only for a group that is there
module _ (M W : ℕ → Bool) (F F' : ℕ → ℕ) (alike : (k : ℕ) → M k ≡ true → F' k ≡ F k) where
  pub refit : (G : ℕ → ℕ) (n : ℕ) → Ranked M W F G n → Ranked M W F' G n
  refit G n S = record {
    ranked = λ k m. let (l, e) = S.ranked k m in let a = alike k m in (omega arith, ap G a ∙ e);
    waits = λ p x. let (m, f) = S.waits p x in (m, alike (G p) m ∙ f);
  }

  pub refit_order : order_of M F' ≡ order_of M F
  refit_order = fun_ext (λ a. fun_ext (λ b. guard₂ (M a) (M b) _ _ (λ m k. ap₂ ltb (alike a m) (alike b k))))

  pub refit_waits : waits_of M W F' ≡ waits_of M W F
  refit_waits = fun_ext (λ k. guard (M k) _ _ (λ m. ap W (alike k m)))

-- the ranks from t on go, which no group has
pub cut : (M W : ℕ → Bool) (F G G' : ℕ → ℕ) (n t : ℕ) → Ranked M W F G n → ((k : ℕ) → M k ≡ true → F k < t) → ((p : ℕ) → p < t → G' p ≡ G p) → Ranked M W F G' t
cut M W F G G' n t S low same = record {
  ranked = λ k m. let l = low k m in (l, same (F k) l ∙ (S.ranked k m).1);
  waits = λ p x. let (m, f) = S.waits p x in
      let l = low (G p) m in
      let e = same p (omega arith) in
      (ap M e ∙ m, ap F e ∙ f);
}

-- a function that has the value already
pub unchanged : {X : Type 0} (f : ℕ → X) (p : ℕ) (x : X) → f p ≡ x → f ≡ at f p x
unchanged f p x e = fun_ext (λ q. ⊎_elim (λ i. ap f i ∙ e ∙ sym (at_here f p x q i)) (λ i. sym (at_there f p x q i)) (cases_eq q p))

pub retell : (M M' W W' : ℕ → Bool) (F F' G G' : ℕ → ℕ) (n n' : ℕ) → M' ≡ M → W' ≡ W → F' ≡ F → G' ≡ G → n' ≡ n → Ranked M W F G n → Ranked M' W' F' G' n'
retell M M' W W' F F' G G' n n' a b c d e s =
    subst (λ x. Ranked x W' F' G' n') (sym a)
    (subst (λ x. Ranked M x F' G' n') (sym b)
    (subst (λ x. Ranked M W x G' n') (sym c)
    (subst (λ x. Ranked M W F x n') (sym d)
    (subst (λ x. Ranked M W F G x) (sym e) s))))

pub longer : (M W : ℕ → Bool) (F G : ℕ → ℕ) (n n' : ℕ) → n' ≡ n → Ranked M W F G n → Ranked M W F G n'
longer M W F G n n' e s = subst (Ranked M W F G) (sym e) s
