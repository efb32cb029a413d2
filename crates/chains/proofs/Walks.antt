-- The theory of chains: no node twice, at most 256 nodes, and what a change of one node leaves.
use Rattle.std.proofs.Common.{◌≡◌, ℕ, zero, suc, ◌+◌, ◌<◌, ◌≤◌, true, cond, eqb, ◌⊎◌, List, [], ◌∷◌, length, sym, refl, ap, ◌∙◌, subst, inl, inr, ⊎_elim, arith}
use Rattle.std.proofs.lemmas.Bool.{and_parts, and_from, eqb-true, eq-eqb, ltb-true, lt-ltb, le-ltb, leb-true, le-leb, cases_eq, cases_lt, cond-true, cond-false, ne_eqb}
use Rattle.chains.specs.Links.{walk, chained, node_with}

-- the same as a type, to take apart
abbrev pub Chained : (ℕ → ℕ) → (ℕ → ℕ) → ℕ → ℕ → List ℕ → Type 0
Chained nx hm b i [] = 256 ≤ i
Chained nx hm b i (x ∷ l) = (i ≡ x) × (x < 256) × (hm x ≡ b) × Chained nx hm b (nx x) l

-- x is not in l
abbrev pub Off : ℕ → List ℕ → Type 0
Off x [] = Unit {0}
Off x (y ∷ l) = (y ≡ x → ⊥) × Off x l

module _ (nx hm : ℕ → ℕ) (b : ℕ) where
  pub opened : (i : ℕ) (l : List ℕ) → chained nx hm b i l ≡ true → Chained nx hm b i l
  unfolding chained
  opened i [] h = leb-true 256 i h
  opened i (x ∷ l) h =
      let p = and_parts _ _ h in
      let q = and_parts _ _ p.1 in
      let r = and_parts _ _ q.1 in
      (eqb-true i x p.0, ltb-true x 256 q.0, eqb-true (hm x) b r.0, opened (nx x) l r.1)

  pub closed : (i : ℕ) (l : List ℕ) → Chained nx hm b i l → chained nx hm b i l ≡ true
  unfolding chained
  closed i [] h = le-leb 256 i h
  closed i (x ∷ l) (e, lt, hb, r) =
      and_from _ _ (eq-eqb i x e) (and_from _ _ (lt-ltb x 256 lt) (and_from _ _ (eq-eqb (hm x) b hb) (closed (nx x) l r)))

  -- the nodes of a chain are one list
  pub unique : (i : ℕ) (l m : List ℕ) → Chained nx hm b i l → Chained nx hm b i m → l ≡ m
  unique i [] [] h k = refl
  unique i [] (y ∷ m) h (e, lt, hb, r) = absurd (omega arith)
  unique i (x ∷ l) [] (e, lt, hb, r) k = absurd (omega arith)
  unique i (x ∷ l) (y ∷ m) (e, lt, hb, r) (e', lt', hb', r') =
      let xy : x ≡ y = omega arith in
      let r'' : Chained nx hm b (nx x) m = subst (λ (z : ℕ). Chained nx hm b (nx z) m) (sym xy) r' in
      let t : l ≡ m = unique (nx x) l m r r'' in
      cc

  -- each node is at home in b
  pub away : (x i : ℕ) (l : List ℕ) → Chained nx hm b i l → (hm x ≡ b → ⊥) → Off x l
  away x i [] h ne = tt
  away x i (y ∷ l) (e, lt, hb, r) ne = ((λ yx. ne (ap hm (sym yx) ∙ hb)), away x (nx y) l r ne)

  -- from a node of the chain on, the chain is no longer
  pub tail : (x i : ℕ) (l : List ℕ) → Chained nx hm b i l → Off x l ⊎ ((m : List ℕ) × (length m < length l) × Chained nx hm b (nx x) m)
  tail x i [] h = inl tt
  tail x i (y ∷ l) (e, lt, hb, r) =
      ⊎_elim
      (λ yx. inr (l, omega arith, subst (λ (z : ℕ). Chained nx hm b (nx z) l) yx r))
      (λ ne. ⊎_elim (λ off. inl (ne, off)) (λ s. inr (s.0, (let t = s.1 in omega arith), s.2)) (tail x (nx y) l r))
      (cases_eq y x)

  -- no node twice
  pub once : (x : ℕ) (l : List ℕ) → Chained nx hm b (nx x) l → Off x l
  once x l h =
      ⊎_elim (λ off. off)
      (λ s. let e = ap length (unique (nx x) l s.0 h s.2) in let t = s.1 in absurd (omega arith))
      (tail x (nx x) l h)

  pub walked : (f i : ℕ) (l : List ℕ) → length l ≤ f → Chained nx hm b i l → walk nx f i ≡ l
  unfolding walk
  walked zero i [] lt h = refl
  walked zero i (x ∷ l) lt h = absurd (omega arith)
  walked (suc f) i [] lt h = cond-false _ _ _ (le-ltb i 256 h)
  walked (suc f) i (x ∷ l) lt (e, xl, hb, r) =
      let il : i < 256 = omega arith in
      let t : walk nx f (nx x) ≡ l = walked f (nx x) l (omega arith) r in
      cond-true _ _ _ (lt-ltb i 256 il) ∙ subst (λ (z : ℕ). z ∷ walk nx f (nx z) ≡ x ∷ l) (sym e) (ap (λ (m : List ℕ). x ∷ m) t)

-- at most n different numbers are below n
abbrev Distinct : List ℕ → Type 0
Distinct [] = Unit {0}
Distinct (x ∷ l) = Off x l × Distinct l

abbrev Under : ℕ → List ℕ → Type 0
Under n [] = Unit {0}
Under n (x ∷ l) = (x < n) × Under n l

lower : (n : ℕ) (l : List ℕ) → Off n l → Under (suc n) l → Under n l
lower n [] o u = tt
lower n (x ∷ l) (ne, o) (lt, u) = ((⊎_elim (λ e. absurd (ne e)) (λ k. let z : x < n = ⊎_elim (λ s. s) (λ g. absurd (k (omega arith))) (cases_lt x n) in z) (cases_eq x n)), lower n l o u)

without_top : (n : ℕ) (l : List ℕ) → Distinct l → Under (suc n) l
    → (m : List ℕ) × (length l ≤ 1 + length m) × Distinct m × Under n m × ((x : ℕ) → Off x l → Off x m)
without_top n [] d u = ([], omega arith, tt, tt, λ x o. tt)
without_top n (x ∷ l) (o, d) (lt, u) =
    ⊎_elim
    (λ e. (l, omega arith, d, lower n l (subst (λ (z : ℕ). Off z l) e o) u, λ y p. p.1))
    (λ ne.
    let r = without_top n l d u in
    let le = r.1 in
    (x ∷ r.0, omega arith, (r.4 x o, r.2), (⊎_elim (λ s. s) (λ g. absurd (ne (omega arith))) (cases_lt x n), r.3), λ y p. (p.0, r.4 y p.1)))
    (cases_eq x n)

pigeons : (n : ℕ) (l : List ℕ) → Distinct l → Under n l → length l ≤ n
pigeons zero [] d u = omega arith
pigeons zero (x ∷ l) d (lt, u) = absurd (omega arith)
pigeons (suc n) l d u =
    let r = without_top n l d u in
    let p = pigeons n r.0 r.2 r.3 in
    let le = r.1 in
    omega arith

module _ (nx hm : ℕ → ℕ) (b : ℕ) where
  distinct : (i : ℕ) (l : List ℕ) → Chained nx hm b i l → Distinct l
  distinct i [] h = tt
  distinct i (x ∷ l) (e, lt, hb, r) = (once nx hm b x l r, distinct (nx x) l r)

  under : (i : ℕ) (l : List ℕ) → Chained nx hm b i l → Under 256 l
  under i [] h = tt
  under i (x ∷ l) (e, lt, hb, r) = (lt, under (nx x) l r)

  -- a chain is what a walk of 256 steps gives
  pub whole : (i : ℕ) (l : List ℕ) → Chained nx hm b i l → walk nx 256 i ≡ l
  whole i l h = walked nx hm b 256 i l (pigeons 256 l (distinct i l h) (under i l h)) h

  -- one step along a chain
  pub stepped : (i : ℕ) (l : List ℕ) → i < 256 → Chained nx hm b i l → (m : List ℕ) × (l ≡ i ∷ m) × (hm i ≡ b) × Chained nx hm b (nx i) m
  stepped i [] lt h = absurd (omega arith)
  stepped i (x ∷ l) lt (e, xl, hb, r) =
      subst (λ (z : ℕ). (m : List ℕ) × (x ∷ l ≡ z ∷ m) × (hm z ≡ b) × Chained nx hm b (nx z) m) (sym e) (l, refl, hb, r)

  pub ended : (i : ℕ) (l : List ℕ) → 256 ≤ i → Chained nx hm b i l → l ≡ []
  ended i [] le h = refl
  ended i (x ∷ l) le (e, xl, hb, r) = absurd (omega arith)

-- what is the same off x
module _ (nx hm nx' hm' : ℕ → ℕ) (b x : ℕ) (same_nx : (y : ℕ) → y < 256 → (y ≡ x → ⊥) → nx' y ≡ nx y) (same_hm : (y : ℕ) → (y ≡ x → ⊥) → hm' y ≡ hm y) where
  pub framed : (i : ℕ) (l : List ℕ) → Off x l → Chained nx hm b i l → Chained nx' hm' b i l
  framed i [] o h = h
  framed i (y ∷ l) (ne, o) (e, lt, hb, r) =
      (e, lt, same_hm y ne ∙ hb, subst (λ (z : ℕ). Chained nx' hm' b z l) (sym (same_nx y lt ne)) (framed (nx y) l o r))

pub node_framed : (bl bl' : ℕ → ℕ) (x block : ℕ) → ((y : ℕ) → (y ≡ x → ⊥) → bl' y ≡ bl y) → (l : List ℕ) → Off x l → node_with bl' block l ≡ node_with bl block l
unfolding node_with
node_framed bl bl' x block same [] o = refl
node_framed bl bl' x block same (y ∷ l) (ne, o) =
    let e = same y ne in
    let r : node_with bl' block l ≡ node_with bl block l = node_framed bl bl' x block same l o in
    ap (λ (v : ℕ). cond (eqb v block) y (node_with bl' block l)) e ∙ ap (λ (v : ℕ). cond (eqb (bl y) block) y v) r

pub node_here : (bl : ℕ → ℕ) (block x : ℕ) (l : List ℕ) → bl x ≡ block → node_with bl block (x ∷ l) ≡ x
unfolding node_with
node_here bl block x l e = cond-true _ _ _ (eq-eqb (bl x) block e)

pub node_past : (bl : ℕ → ℕ) (block x : ℕ) (l : List ℕ) → (bl x ≡ block → ⊥) → node_with bl block (x ∷ l) ≡ node_with bl block l
unfolding node_with
node_past bl block x l ne = cond-false _ _ _ (ne_eqb (bl x) block ne)

pub node_none : (bl : ℕ → ℕ) (block : ℕ) → node_with bl block [] ≡ 256
unfolding node_with
node_none bl block = refl

-- a chain has only nodes
pub not_head : (nx hm : ℕ → ℕ) (b x i : ℕ) (l : List ℕ) → 256 ≤ x → Chained nx hm b i l → Off x l
not_head nx hm b x i [] g h = tt
not_head nx hm b x i (y ∷ l) g (e, lt, hb, r) = ((λ yx. omega arith), not_head nx hm b x (nx y) l g r)
