-- No block twice on a chain.
use Rattle.std.proofs.Common.{◌≡◌, ℕ, ◌<◌, true, List, [], ◌∷◌, sym, refl, ap, ◌∙◌, subst, ⊎_elim, arith}
use Rattle.std.proofs.lemmas.Bool.{and_parts, and_from, eqb-true, eq-eqb, cases_eq}
use Rattle.chains.specs.Links.{node_with, no_twice, cut}
use Rattle.chains.proofs.Walks.{Chained, Off, node_framed, node_here, node_past, node_none}
use Rattle.chains.proofs.Cut.{cut_here, cut_past, before}

module _ (bl bl' : ℕ → ℕ) (i : ℕ) (same : (y : ℕ) → (y ≡ i → ⊥) → bl' y ≡ bl y) where
  pub twice_framed : (l : List ℕ) → Off i l → no_twice bl l ≡ true → no_twice bl' l ≡ true
  unfolding no_twice
  twice_framed [] o h = refl
  twice_framed (x ∷ l) (ne, o) h =
      let p = and_parts _ _ h in
      let e : node_with bl' (bl' x) l ≡ 256 =
      ap (λ (v : ℕ). node_with bl' v l) (same x ne) ∙ node_framed bl bl' i (bl x) same l o ∙ eqb-true _ 256 p.0 in
      and_from _ _ (eq-eqb _ 256 e) (twice_framed l o p.1)

  module _ (nx hm : ℕ → ℕ) (b : ℕ) where
    off_tail : (x : ℕ) (l : List ℕ) → x ≡ i → Chained nx hm b (nx x) l → Off i l
    off_tail x l xi r = before nx hm b i (nx x) l (ap nx (sym xi)) r

    none_cut : (blk j : ℕ) (l : List ℕ) → Chained nx hm b j l → node_with bl blk l ≡ 256 → node_with bl' blk (cut i l) ≡ 256
    unfolding cut
    none_cut blk j [] h e = node_none bl' blk
    none_cut blk j (x ∷ l) (e', lt, hb, r) e =
        let ne : bl x ≡ blk → ⊥ = λ z. (let q = node_here bl blk x l z in omega arith) in
        let e1 : node_with bl blk l ≡ 256 = sym (node_past bl blk x l ne) ∙ e in
        ⊎_elim
        (λ xi. ap (node_with bl' blk) (cut_here i x l xi) ∙ node_framed bl bl' i blk same l (off_tail x l xi r) ∙ e1)
        (λ nxi. ap (node_with bl' blk) (cut_past i x l nxi) ∙ node_past bl' blk x (cut i l) (λ z. ne (sym (same x nxi) ∙ z)) ∙ none_cut blk (nx x) l r e1)
        (cases_eq x i)

    pub twice_cut : (j : ℕ) (l : List ℕ) → Chained nx hm b j l → no_twice bl l ≡ true → no_twice bl' (cut i l) ≡ true
    unfolding no_twice cut
    twice_cut j [] h s = refl
    twice_cut j (x ∷ l) (e', lt, hb, r) s =
        let p = and_parts _ _ s in
        ⊎_elim
        (λ xi. subst (λ (m : List ℕ). no_twice bl' m ≡ true) (sym (cut_here i x l xi)) (twice_framed l (off_tail x l xi r) p.1))
        (λ nxi.
        subst (λ (m : List ℕ). no_twice bl' m ≡ true) (sym (cut_past i x l nxi))
        (and_from _ _
        (eq-eqb _ 256 (ap (λ (v : ℕ). node_with bl' v (cut i l)) (same x nxi) ∙ none_cut (bl x) (nx x) l r (eqb-true _ 256 p.0)))
        (twice_cut (nx x) l r p.1)))
        (cases_eq x i)

    found : (j : ℕ) (l : List ℕ) → Chained nx hm b j l → (Off i l → ⊥) → node_with bl (bl i) l < 256
    found j [] h on = absurd (on tt)
    found j (x ∷ l) (e', lt, hb, r) on =
        ⊎_elim
        (λ z. let q = node_here bl (bl i) x l z in omega arith)
        (λ ne. let q = node_past bl (bl i) x l ne in
        let f = found (nx x) l r (λ o. on ((λ xi. ne (ap bl xi)), o)) in omega arith)
        (cases_eq (bl x) (bl i))

    pub gone : (j : ℕ) (l : List ℕ) → Chained nx hm b j l → no_twice bl l ≡ true → (Off i l → ⊥) → node_with bl' (bl i) (cut i l) ≡ 256
    unfolding no_twice
    gone j [] h s on = absurd (on tt)
    gone j (x ∷ l) (e', lt, hb, r) s on =
        let p = and_parts _ _ s in
        let z : node_with bl (bl x) l ≡ 256 = eqb-true _ 256 p.0 in
        ⊎_elim
        (λ xi. ap (node_with bl' (bl i)) (cut_here i x l xi) ∙ node_framed bl bl' i (bl i) same l (off_tail x l xi r) ∙ ap (λ (v : ℕ). node_with bl (bl v) l) (sym xi) ∙ z)
        (λ nxi.
        let onl : Off i l → ⊥ = λ o. on (nxi, o) in
        let ne : bl x ≡ bl i → ⊥ = λ q. (let f = found (nx x) l r onl in let w = ap (λ (v : ℕ). node_with bl v l) q in omega arith) in
        ap (node_with bl' (bl i)) (cut_past i x l nxi) ∙ node_past bl' (bl i) x (cut i l) (λ q. ne (sym (same x nxi) ∙ q)) ∙ gone (nx x) l r p.1 onl)
        (cases_eq x i)
