-- One step along a chain.
use Rattle.std.proofs.Common.{◌≡◌, ℕ, zero, suc, ◌+◌, ◌<◌, ◌≤◌, true, false, cond, ltb, List, [], ◌∷◌, length, sym, ap, ◌∙◌, subst, arith}
use Rattle.chains.specs.Links.{walk, chained, node_with}
use Rattle.chains.proofs.Walks.{opened, closed, whole, stepped, ended, node_here, node_past, node_none}

-- the chain b holds together from i on
abbrev pub Going : (ℕ → ℕ) → (ℕ → ℕ) → ℕ → ℕ → Type 0
Going nx hm b i = chained nx hm b i (walk nx 256 i) ≡ true

module _ (nx hm : ℕ → ℕ) (b i : ℕ) (h : Going nx hm b i) where
  pub step : i < 256 → (m : List ℕ) × (walk nx 256 i ≡ i ∷ m) × (walk nx 256 (nx i) ≡ m) × Going nx hm b (nx i) × (hm i ≡ b)
  step lt =
      let s = stepped nx hm b i (walk nx 256 i) lt (opened nx hm b i _ h) in
      let w = whole nx hm b (nx i) s.0 s.3 in
      (s.0, s.1, w, subst (λ (l : List ℕ). chained nx hm b (nx i) l ≡ true) (sym w) (closed nx hm b (nx i) s.0 s.3), s.2)

  pub over : 256 ≤ i → walk nx 256 i ≡ []
  over le = ended nx hm b i _ le (opened nx hm b i _ h)

  pub falls : i < 256 → length (walk nx 256 i) ≡ length (walk nx 256 (nx i)) + 1
  falls lt = let s = step lt in let e = ap length s.1 in let f = ap length s.2 in omega arith

  pub passed : (bl : ℕ → ℕ) (c : ℕ) → i < 256 → (bl i ≡ c → ⊥) → node_with bl c (walk nx 256 (nx i)) ≡ node_with bl c (walk nx 256 i)
  passed bl c lt ne = let s = step lt in ap (node_with bl c) s.2 ∙ sym (node_past bl c i s.0 ne) ∙ ap (node_with bl c) (sym s.1)

  pub here : (bl : ℕ → ℕ) (c : ℕ) → i < 256 → bl i ≡ c → node_with bl c (walk nx 256 i) ≡ i
  here bl c lt e = let s = step lt in ap (node_with bl c) s.1 ∙ node_here bl c i s.0 e

  pub nowhere : (bl : ℕ → ℕ) (c : ℕ) → 256 ≤ i → node_with bl c (walk nx 256 i) ≡ 256
  nowhere bl c le = ap (node_with bl c) (over le) ∙ node_none bl c

-- at most as many nodes as there are
pub length_most : (nx : ℕ → ℕ) (f i : ℕ) → length (walk nx f i) ≤ f
unfolding walk
length_most nx zero i = omega arith
length_most nx (suc f) i = elim (ltb i 256) as (λ b. length (cond b (i ∷ walk nx f (nx i)) []) ≤ suc f) [ true ↦ (let l = length_most nx f (nx i) in omega arith) | false ↦ omega arith ]
