-- A node taken out of the middle of a chain.
use Rattle.std.proofs.Common.{◌≡◌, ℕ, ◌<◌, true, false, cond, eqb, List, [], ◌∷◌, length, sym, refl, ap, ◌∙◌, subst, ⊎_elim, arith}
use Rattle.std.proofs.lemmas.Bool.{eqb-true, or_cases, or_left, or_right, both_ways, eq-eqb, cases_eq, cond-true, cond-false, ne_eqb}
use Rattle.chains.specs.Links.{node_with, on, cut}
use Rattle.chains.proofs.Walks.{Chained, Off, unique, tail, node_framed, node_past}

pub cut_here : (i x : ℕ) (l : List ℕ) → x ≡ i → cut i (x ∷ l) ≡ l
unfolding cut
cut_here i x l e = cond-true _ _ _ (eq-eqb x i e)

pub cut_past : (i x : ℕ) (l : List ℕ) → (x ≡ i → ⊥) → cut i (x ∷ l) ≡ x ∷ cut i l
unfolding cut
cut_past i x l ne = cond-false _ _ _ (ne_eqb x i ne)

pub on_not_off : (p : ℕ) (l : List ℕ) → on p l ≡ true → Off p l → ⊥
unfolding on
on_not_off p [] h o = both_ways false refl h
on_not_off p (x ∷ l) h (ne, o) = ⊎_elim (λ e. ne (eqb-true x p e)) (λ r. on_not_off p l r o) (or_cases _ _ h)

-- what leads to the start of a chain is not on it
pub before : (nx hm : ℕ → ℕ) (b x j : ℕ) (l : List ℕ) → nx x ≡ j → Chained nx hm b j l → Off x l
before nx hm b x j l e h =
    ⊎_elim (λ off. off)
    (λ s. let q = ap length (unique nx hm b j l s.0 h (subst (λ (z : ℕ). Chained nx hm b z s.0) e s.2)) in let t = s.1 in absurd (omega arith))
    (tail nx hm b x j l h)

module _ (nx hm nx' hm' : ℕ → ℕ) (b p i : ℕ)
    (same_nx : (y : ℕ) → y < 256 → (y ≡ p → ⊥) → (y ≡ i → ⊥) → nx' y ≡ nx y) (same_hm : (y : ℕ) → (y ≡ i → ⊥) → hm' y ≡ hm y) where
  pub framed2 : (j : ℕ) (l : List ℕ) → Off p l → Off i l → Chained nx hm b j l → Chained nx' hm' b j l
  framed2 j [] o q h = h
  framed2 j (y ∷ l) (np, o) (ni, q) (e, lt, hb, r) =
      (e, lt, same_hm y ni ∙ hb, subst (λ (z : ℕ). Chained nx' hm' b z l) (sym (same_nx y lt np ni)) (framed2 (nx y) l o q r))

  pub bypass : nx p ≡ i → nx' p ≡ nx i → i < 256 → (j : ℕ) (l : List ℕ) → (j ≡ i → ⊥) → (Off p l → ⊥) → Chained nx hm b j l → Chained nx' hm' b j (cut i l)
  bypass pi p' il j [] ji onp h = absurd (onp tt)
  bypass pi p' il j (x ∷ l) ji onp (e, lt, hb, r) =
      let xi : x ≡ i → ⊥ = λ z. ji (e ∙ z) in
      subst (Chained nx' hm' b j) (sym (cut_past i x l xi))
      (⊎_elim
      (λ xp. here xp l r)
      (λ np.
      let onl : Off p l → ⊥ = λ o. onp (np, o) in
      let ni : nx x ≡ i → ⊥ = λ z. onl (before nx hm b p (nx x) l (pi ∙ sym z) r) in (
        e,
        lt,
        same_hm x xi ∙ hb,
        subst (λ (z : ℕ). Chained nx' hm' b z (cut i l)) (sym (same_nx x lt np xi)) (bypass pi p' il (nx x) l ni onl r),
      ))
      (cases_eq x p))
    where
      here : x ≡ p → (m : List ℕ) → Chained nx hm b (nx x) m → Chained nx' hm' b j (x ∷ cut i m)
      here xp [] r = absurd (let z : nx x ≡ i = ap nx xp ∙ pi in omega arith)
      here xp (y ∷ m) (e', lt', hb', r') =
          let yi : y ≡ i = sym e' ∙ ap nx xp ∙ pi in
          let offp : Off p (y ∷ m) = before nx hm b p i (y ∷ m) pi (sym yi, lt', hb', r') in
          let offi : Off i m = before nx hm b i (nx y) m (ap nx (sym yi)) r' in
          let xi : x ≡ i → ⊥ = λ z. ji (e ∙ z) in
          let to : nx' x ≡ nx y = ap nx' xp ∙ p' ∙ ap nx (sym yi) in (
            e,
            lt,
            same_hm x xi ∙ hb,
            subst (λ (k : List ℕ). Chained nx' hm' b (nx' x) k) (sym (cut_here i y m yi))
                (subst (λ (z : ℕ). Chained nx' hm' b z m) (sym to) (framed2 (nx y) m offp.1 offi r')),
          )

pub node_cut : (nx hm bl bl' : ℕ → ℕ) (b i blk : ℕ) → ((y : ℕ) → (y ≡ i → ⊥) → bl' y ≡ bl y) → (bl i ≡ blk → ⊥)
    → (j : ℕ) (l : List ℕ) → Chained nx hm b j l → node_with bl' blk (cut i l) ≡ node_with bl blk l
unfolding node_with cut
node_cut nx hm bl bl' b i blk same ne j [] h = refl
node_cut nx hm bl bl' b i blk same ne j (x ∷ l) (e, lt, hb, r) =
    ⊎_elim
    (λ xi.
    ap (node_with bl' blk) (cut_here i x l xi)
    ∙ node_framed bl bl' i blk same l (before nx hm b i (nx x) l (ap nx (sym xi)) r)
    ∙ sym (node_past bl blk x l (λ z. ne (ap bl (sym xi) ∙ z))))
    (λ nxi.
    ap (node_with bl' blk) (cut_past i x l nxi)
    ∙ ap (λ (v : ℕ). cond (eqb v blk) x (node_with bl' blk (cut i l))) (same x nxi)
    ∙ ap (λ (v : ℕ). cond (eqb (bl x) blk) x v) (node_cut nx hm bl bl' b i blk same ne (nx x) l r))
    (cases_eq x i)

pub on_here : (y x : ℕ) (l : List ℕ) → x ≡ y → on y (x ∷ l) ≡ true
unfolding on
on_here y x l e = or_left _ _ (eq-eqb x y e)

pub on_there : (y x : ℕ) (l : List ℕ) → on y l ≡ true → on y (x ∷ l) ≡ true
unfolding on
on_there y x l h = or_right _ _ h

pub on_rest : (y x : ℕ) (l : List ℕ) → (x ≡ y → ⊥) → on y (x ∷ l) ≡ true → on y l ≡ true
unfolding on
on_rest y x l ne h = ⊎_elim (λ e. absurd (ne (eqb-true x y e))) (λ k. k) (or_cases _ _ h)

pub on_cut : (y i : ℕ) (l : List ℕ) → (y ≡ i → ⊥) → on y l ≡ true → on y (cut i l) ≡ true
unfolding cut
on_cut y i [] ne h = h
on_cut y i (x ∷ l) ne h =
    ⊎_elim
    (λ xi. subst (λ (m : List ℕ). on y m ≡ true) (sym (cut_here i x l xi)) (on_rest y x l (λ xy. ne (sym xy ∙ xi)) h))
    (λ nxi.
    subst (λ (m : List ℕ). on y m ≡ true) (sym (cut_past i x l nxi))
    (⊎_elim (λ xy. on_here y x (cut i l) xy) (λ nxy. on_there y x (cut i l) (on_cut y i l ne (on_rest y x l nxy h))) (cases_eq x y)))
    (cases_eq x i)
