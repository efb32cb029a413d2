-- A free node linked at the head of a chain, and the node after a place taken out of its chain: every chain holds, and each
-- other block leads where it led.
use Rattle.std.proofs.Common.{◌≡◌, ℕ, ◌+◌, ◌<◌, ◌≤◌, true, false, ◌⊎◌, List, [], ◌∷◌, sym, refl, ap, ◌∙◌, subst, ⊎_elim, arith}
use Rattle.std.proofs.lemmas.Bool.{cases_eq, cases_lt, and_from, eq-eqb, eqb-true, ne_eqb, both_ways, or_cases, cond-true, cond-false}
use Rattle.words.specs.Layout.{bucket_of}
use Rattle.words.specs.Points.{at}
use Rattle.chains.specs.Links.{walk, chained, node_with, no_twice, on, cut}
use Rattle.chains.specs.Nodes.{chain_from, Holds, NoTwice, NoneLost, node_for}
use Rattle.chains.proofs.Alone.{twice_framed, twice_cut, gone}
use Rattle.chains.proofs.Cut.{cut_here, on_here, on_there, on_rest, on_cut, on_not_off, before, framed2, bypass, node_cut}
use Rattle.chains.proofs.Walks.{Chained, Off, opened, closed, whole, stepped, once, away, tail, framed, not_head, node_framed, node_here, node_past}

pub at_here : {X : Type 0} (f : ℕ → X) (p : ℕ) (x : X) (q : ℕ) → q ≡ p → at f p x q ≡ x
at_here f p x q e = cond-true _ _ _ (eq-eqb q p e)

pub at_there : {X : Type 0} (f : ℕ → X) (p : ℕ) (x : X) (q : ℕ) → (q ≡ p → ⊥) → at f p x q ≡ f q
at_there f p x q ne = cond-false _ _ _ (ne_eqb q p ne)

-- a chain is settled once its nodes are known
pub settled : (nx hm : ℕ → ℕ) (b i : ℕ) (l : List ℕ) → Chained nx hm b i l → chained nx hm b i (walk nx 256 i) ≡ true
settled nx hm b i l h = subst (λ (m : List ℕ). chained nx hm b i m ≡ true) (sym (whole nx hm b i l h)) (closed nx hm b i l h)

-- a node of a chain is at home there
pub at_home : (nx hm : ℕ → ℕ) (b x i : ℕ) (l : List ℕ) → Chained nx hm b i l → on x l ≡ true → hm x ≡ b
unfolding on
at_home nx hm b x i [] h o = absurd (both_ways false refl o)
at_home nx hm b x i (y ∷ l) (e, lt, hb, r) o = ⊎_elim (λ t. ap hm (sym (eqb-true y x t)) ∙ hb) (λ t. at_home nx hm b x (nx y) l r t) (or_cases _ _ o)

-- the chains before
module _ (nx hm bl : ℕ → ℕ) (sound : Holds nx hm) (single : NoTwice nx bl) (kept : NoneLost nx hm) (most : (i : ℕ) → hm i ≤ 64) where
  was : (b : ℕ) → b < 65 → Chained nx hm b (nx (256 + b)) (chain_from nx b)
  was b lt = opened nx hm b (nx (256 + b)) (chain_from nx b) (sound b lt)

  -- a free node i goes to the head of the chain b of the block
  module _ (block : ℕ) (absent : node_for nx bl block ≡ 256) (room : nx 320 < 256) where
    abbrev i : ℕ
    i = nx 320

    abbrev b₀ : ℕ
    b₀ = bucket_of block

    abbrev one_link : ℕ → ℕ
    one_link = at nx (nx 320) (nx (256 + bucket_of block))

    abbrev two_links : ℕ → ℕ
    two_links = at one_link 320 (nx (nx 320))

    abbrev pub push_next : ℕ → ℕ
    push_next = at two_links (256 + bucket_of block) (nx 320)

    abbrev pub push_home : ℕ → ℕ
    push_home = at hm (nx 320) (bucket_of block)

    abbrev pub push_block : ℕ → ℕ
    push_block = at bl (nx 320) block

    bucket_lt : b₀ < 64
    bucket_lt = omega arith

    next_i : push_next i ≡ nx (256 + b₀)
    next_i =
        let l = bucket_lt in
        at_there two_links (256 + b₀) i i (λ e. omega arith) ∙ at_there one_link 320 (nx i) i (λ e. omega arith) ∙ at_here nx i (nx (256 + b₀)) i refl

    next_other : (y : ℕ) → y < 256 → (y ≡ i → ⊥) → push_next y ≡ nx y
    next_other y lt ne = at_there two_links (256 + b₀) i y (λ e. omega arith) ∙ at_there one_link 320 (nx i) y (λ e. omega arith) ∙ at_there nx i (nx (256 + b₀)) y ne

    head_b₀ : push_next (256 + b₀) ≡ i
    head_b₀ = at_here two_links (256 + b₀) i (256 + b₀) refl

    head_64 : push_next 320 ≡ nx i
    head_64 = let l = bucket_lt in at_there two_links (256 + b₀) i 320 (λ e. omega arith) ∙ at_here one_link 320 (nx i) 320 refl

    head_other : (b : ℕ) → b < 64 → (b ≡ b₀ → ⊥) → push_next (256 + b) ≡ nx (256 + b)
    head_other b lt ne = at_there two_links (256 + b₀) i (256 + b) (λ e. ne (omega arith)) ∙ at_there one_link 320 (nx i) (256 + b) (λ e. omega arith) ∙ at_there nx i (nx (256 + b₀)) (256 + b) (λ e. omega arith)

    same_hm : (y : ℕ) → (y ≡ i → ⊥) → push_home y ≡ hm y
    same_hm y ne = at_there hm i b₀ y ne

    same_bl : (y : ℕ) → (y ≡ i → ⊥) → push_block y ≡ bl y
    same_bl y ne = at_there bl i block y ne

    free_step : (m : List ℕ) × (chain_from nx 64 ≡ i ∷ m) × (hm i ≡ 64) × Chained nx hm 64 (nx i) m
    free_step = stepped nx hm 64 i (chain_from nx 64) room (was 64 (omega arith))

    off : (b : ℕ) → b < 64 → Off i (chain_from nx b)
    off b lt = away nx hm b i (nx (256 + b)) (chain_from nx b) (was b (omega arith)) (λ e. let h = free_step.2 in omega arith)

    stay : (b : ℕ) → b < 64 → Chained push_next push_home b (nx (256 + b)) (chain_from nx b)
    stay b lt = framed nx hm push_next push_home b i next_other same_hm (nx (256 + b)) (chain_from nx b) (off b lt) (was b (omega arith))

    longer : Chained push_next push_home b₀ i (i ∷ chain_from nx b₀)
    longer = (refl, room, at_here hm i b₀ i refl, subst (λ (j : ℕ). Chained push_next push_home b₀ j (chain_from nx b₀)) (sym next_i) (stay b₀ bucket_lt))

    shorter : Chained push_next push_home 64 (nx i) free_step.0
    shorter = framed nx hm push_next push_home 64 i next_other same_hm (nx i) free_step.0 (once nx hm 64 i free_step.0 free_step.3) free_step.3

    abbrev Fine : ℕ → ℕ → Type 0
    Fine b j = chained push_next push_home b j (walk push_next 256 j) ≡ true

    by_chain : (P : ℕ → Type 0) → P b₀ → P 64 → ((b : ℕ) → b < 64 → (b ≡ b₀ → ⊥) → P b) → (b : ℕ) → b ≤ 64 → P b
    by_chain P here free other b le = ⊎_elim
        (λ e. subst P (sym e) here)
        (λ ne. ⊎_elim (λ l. other b l ne) (λ g. subst P (let e : 64 ≡ b = omega arith in e) free) (cases_lt b 64))
        (cases_eq b b₀)

    pub push_sound : Holds push_next push_home
    push_sound b lt = by_chain (λ k. Fine k (push_next (256 + k)))
        (subst (Fine b₀) (sym head_b₀) (settled push_next push_home b₀ i (i ∷ chain_from nx b₀) longer))
        (subst (Fine 64) (sym head_64) (settled push_next push_home 64 (nx i) free_step.0 shorter))
        (λ k l ne. subst (Fine k) (sym (head_other k l ne)) (settled push_next push_home k (nx (256 + k)) (chain_from nx k) (stay k l)))
        b (omega arith)

    pub chain_b₀ : chain_from push_next b₀ ≡ i ∷ chain_from nx b₀
    chain_b₀ = ap (walk push_next 256) head_b₀ ∙ whole push_next push_home b₀ i (i ∷ chain_from nx b₀) longer

    chain_64 : chain_from push_next 64 ≡ free_step.0
    chain_64 = ap (walk push_next 256) head_64 ∙ whole push_next push_home 64 (nx i) free_step.0 shorter

    pub chain_other : (b : ℕ) → b < 64 → (b ≡ b₀ → ⊥) → chain_from push_next b ≡ chain_from nx b
    chain_other b lt ne = ap (walk push_next 256) (head_other b lt ne) ∙ whole push_next push_home b (nx (256 + b)) (chain_from nx b) (stay b lt)

    pub push_here : node_for push_next push_block block ≡ nx 320
    push_here = ap (node_with push_block block) chain_b₀ ∙ node_here push_block block i (chain_from nx b₀) (at_here bl i block i refl)

    pub push_others : (c : ℕ) → (c ≡ block → ⊥) → node_for push_next push_block c ≡ node_for nx bl c
    push_others c ne = by_chain (λ k. k < 64 → node_with push_block c (chain_from push_next k) ≡ node_with bl c (chain_from nx k))
        (λ m. ap (node_with push_block c) chain_b₀
        ∙ node_past push_block c i (chain_from nx b₀) (λ q. ne (sym q ∙ at_here bl i block i refl))
        ∙ node_framed bl push_block i c same_bl (chain_from nx b₀) (off b₀ bucket_lt))
        (λ m. absurd (omega arith))
        (λ k l nk m. ap (node_with push_block c) (chain_other k l nk) ∙ node_framed bl push_block i c same_bl (chain_from nx k) (off k l))
        (bucket_of c) (omega arith) (omega arith)

    pub push_single : NoTwice push_next push_block
    unfolding no_twice
    push_single b lt = by_chain (λ k. k < 64 → no_twice push_block (chain_from push_next k) ≡ true)
        (λ l. subst (λ (m : List ℕ). no_twice push_block m ≡ true) (sym chain_b₀)
        (and_from _ _
        (eq-eqb _ 256
        (ap (λ (v : ℕ). node_with push_block v (chain_from nx b₀)) (at_here bl i block i refl)
        ∙ node_framed bl push_block i block same_bl (chain_from nx b₀) (off b₀ bucket_lt) ∙ absent))
        (twice_framed bl push_block i same_bl (chain_from nx b₀) (off b₀ bucket_lt) (single b₀ bucket_lt))))
        (λ l. absurd (omega arith))
        (λ k l nk m. subst (λ (m : List ℕ). no_twice push_block m ≡ true) (sym (chain_other k l nk)) (twice_framed bl push_block i same_bl (chain_from nx k) (off k l) (single k l)))
        b (omega arith) lt

    pub push_kept : NoneLost push_next push_home
    push_kept y yl = ⊎_elim
        (λ yi. subst (λ (v : ℕ). on v (chain_from push_next (push_home v)) ≡ true) (sym yi)
        (subst (λ (k : ℕ). on i (chain_from push_next k) ≡ true) (sym (at_here hm i b₀ i refl))
        (subst (λ (l : List ℕ). on i l ≡ true) (sym chain_b₀) (on_here i i (chain_from nx b₀) refl))))
        (λ ny. subst (λ (k : ℕ). on y (chain_from push_next k) ≡ true) (sym (same_hm y ny)) (stayed ny (hm y) (most y) (kept y yl)))
        (cases_eq y i)
      where
        stayed : (y ≡ i → ⊥) → (k : ℕ) → k ≤ 64 → on y (chain_from nx k) ≡ true → on y (chain_from push_next k) ≡ true
        stayed ny = by_chain (λ k. on y (chain_from nx k) ≡ true → on y (chain_from push_next k) ≡ true)
            (λ h. subst (λ (l : List ℕ). on y l ≡ true) (sym chain_b₀) (on_there y i (chain_from nx b₀) h))
            (λ h. subst (λ (l : List ℕ). on y l ≡ true) (sym chain_64) (on_rest y i free_step.0 (λ q. ny (sym q)) (subst (λ (l : List ℕ). on y l ≡ true) free_step.1 h)))
            (λ k l ne h. subst (λ (m : List ℕ). on y m ≡ true) (sym (chain_other k l ne)) h)

  -- the node i after the place q, a node of the chain b or its head, goes to the free nodes
  module _ (q b : ℕ) (live : b < 64) (place : (q ≡ 256 + b) ⊎ (on q (chain_from nx b) ≡ true)) (follows : nx q < 256) where
    abbrev j : ℕ
    j = nx q

    abbrev cut_one : ℕ → ℕ
    cut_one = at nx q (nx (nx q))

    abbrev cut_two : ℕ → ℕ
    cut_two = at cut_one (nx q) (nx 320)

    abbrev pub cut_next : ℕ → ℕ
    cut_next = at cut_two 320 (nx q)

    abbrev pub cut_home : ℕ → ℕ
    cut_home = at hm (nx q) 64

    abbrev pub cut_block : ℕ → ℕ
    cut_block = at bl (nx q) 0

    -- the place is a node of the chain
    on_chain : on q (chain_from nx b) ≡ true → (q < 256) × ((m : List ℕ) × Chained nx hm b j m)
    on_chain h =
        let off : Off q (chain_from nx b) → ⊥ = on_not_off q (chain_from nx b) h in
        ⊎_elim
        (λ l. (l, ⊎_elim (λ o. absurd (off o)) (λ s. (s.0, s.2)) (tail nx hm b q (nx (256 + b)) (chain_from nx b) (was b (omega arith)))))
        (λ g. absurd (off (not_head nx hm b q (nx (256 + b)) (chain_from nx b) g (was b (omega arith)))))
        (cases_lt q 256)

    after : (m : List ℕ) × Chained nx hm b j m
    after = ⊎_elim
        (λ e. (chain_from nx b, subst (λ (z : ℕ). Chained nx hm b (nx z) (chain_from nx b)) (sym e) (was b (omega arith))))
        (λ h. (on_chain h).1)
        place

    at_it : (m : List ℕ) × (after.0 ≡ j ∷ m) × (hm j ≡ b) × Chained nx hm b (nx j) m
    at_it = stepped nx hm b j after.0 follows after.1

    apart : q ≡ j → ⊥
    apart e = ⊎_elim
        (λ d. omega arith)
        (λ h. let o : Off q (j ∷ at_it.0) = subst (Off q) at_it.1 (before nx hm b q j after.0 refl after.1) in o.0 (sym e))
        place

    not_320 : q ≡ 320 → ⊥
    not_320 e = ⊎_elim (λ d. omega arith) (λ h. let l = (on_chain h).0 in omega arith) place

    next_q : cut_next q ≡ nx j
    next_q = at_there cut_two 320 j q not_320 ∙ at_there cut_one j (nx 320) q apart ∙ at_here nx q (nx j) q refl

    next_j : cut_next j ≡ nx 320
    next_j = at_there cut_two 320 j j (λ e. omega arith) ∙ at_here cut_one j (nx 320) j refl

    next_320 : cut_next 320 ≡ j
    next_320 = at_here cut_two 320 j 320 refl

    next_any : (y : ℕ) → (y ≡ 320 → ⊥) → (y ≡ q → ⊥) → (y ≡ j → ⊥) → cut_next y ≡ nx y
    next_any y ny nq nj = at_there cut_two 320 j y ny ∙ at_there cut_one j (nx 320) y nj ∙ at_there nx q (nx j) y nq

    rest_nx : (y : ℕ) → y < 256 → (y ≡ q → ⊥) → (y ≡ j → ⊥) → cut_next y ≡ nx y
    rest_nx y lt nq nj = next_any y (λ e. omega arith) nq nj

    rest_hm : (y : ℕ) → (y ≡ j → ⊥) → cut_home y ≡ hm y
    rest_hm y ne = at_there hm j 64 y ne

    -- the chain of the place is without the node
    mine : Chained cut_next cut_home b (cut_next (256 + b)) (cut j (chain_from nx b))
    mine = ⊎_elim head node place
      where
        head : q ≡ 256 + b → Chained cut_next cut_home b (cut_next (256 + b)) (cut j (chain_from nx b))
        head e =
            let s = stepped nx hm b j (chain_from nx b) follows (subst (λ (z : ℕ). Chained nx hm b (nx z) (chain_from nx b)) (sym e) (was b (omega arith))) in
            subst (λ (l : List ℕ). Chained cut_next cut_home b (cut_next (256 + b)) l) (sym (ap (cut j) s.1 ∙ cut_here j j s.0 refl))
            (subst (λ (z : ℕ). Chained cut_next cut_home b z s.0) (sym (ap cut_next (sym e) ∙ next_q))
            (framed2 nx hm cut_next cut_home b q j rest_nx rest_hm (nx j) s.0 (not_head nx hm b q (nx j) s.0 (omega arith) s.3) (once nx hm b j s.0 s.3) s.3))

        node : on q (chain_from nx b) ≡ true → Chained cut_next cut_home b (cut_next (256 + b)) (cut j (chain_from nx b))
        node h =
            let off : Off q (chain_from nx b) → ⊥ = on_not_off q (chain_from nx b) h in
            let l = (on_chain h).0 in
            subst (λ (z : ℕ). Chained cut_next cut_home b z (cut j (chain_from nx b)))
            (sym (next_any (256 + b) (λ e. omega arith) (λ e. omega arith) (λ e. omega arith)))
            (bypass nx hm cut_next cut_home b q j rest_nx rest_hm refl next_q follows (nx (256 + b)) (chain_from nx b)
            (λ e. off (before nx hm b q (nx (256 + b)) (chain_from nx b) (sym e) (was b (omega arith)))) off (was b (omega arith)))

    off_q : (k : ℕ) → k < 65 → (k ≡ b → ⊥) → Off q (chain_from nx k)
    off_q k lt ne = ⊎_elim
        (λ e. not_head nx hm k q (nx (256 + k)) (chain_from nx k) (omega arith) (was k lt))
        (λ h. away nx hm k q (nx (256 + k)) (chain_from nx k) (was k lt) (λ e. ne (sym e ∙ home_q h)))
        place
      where
        home_q : on q (chain_from nx b) ≡ true → hm q ≡ b
        home_q h = at_home nx hm b q (nx (256 + b)) (chain_from nx b) (was b (omega arith)) h

    off_j : (k : ℕ) → k < 65 → (k ≡ b → ⊥) → Off j (chain_from nx k)
    off_j k lt ne = away nx hm k j (nx (256 + k)) (chain_from nx k) (was k lt) (λ e. ne (sym e ∙ at_it.2))

    stays : (k : ℕ) → k < 65 → (k ≡ b → ⊥) → Chained cut_next cut_home k (nx (256 + k)) (chain_from nx k)
    stays k lt ne = framed2 nx hm cut_next cut_home k q j rest_nx rest_hm (nx (256 + k)) (chain_from nx k) (off_q k lt ne) (off_j k lt ne) (was k lt)

    freed : Chained cut_next cut_home 64 j (j ∷ chain_from nx 64)
    freed = (refl, follows, at_here hm j 64 j refl, subst (λ (z : ℕ). Chained cut_next cut_home 64 z (chain_from nx 64)) (sym next_j) (stays 64 (omega arith) (λ e. omega arith)))

    head_k : (k : ℕ) → k < 64 → (k ≡ b → ⊥) → cut_next (256 + k) ≡ nx (256 + k)
    head_k k lt ne = next_any (256 + k) (λ e. omega arith)
        (λ e. ⊎_elim (λ d. ne (omega arith)) (λ h. let l = (on_chain h).0 in omega arith) place)
        (λ e. omega arith)

    pub chain_b : chain_from cut_next b ≡ cut j (chain_from nx b)
    chain_b = whole cut_next cut_home b (cut_next (256 + b)) (cut j (chain_from nx b)) mine

    chain_free : chain_from cut_next 64 ≡ j ∷ chain_from nx 64
    chain_free = ap (walk cut_next 256) next_320 ∙ whole cut_next cut_home 64 j (j ∷ chain_from nx 64) freed

    pub chain_k : (k : ℕ) → k < 64 → (k ≡ b → ⊥) → chain_from cut_next k ≡ chain_from nx k
    chain_k k lt ne = ap (walk cut_next 256) (head_k k lt ne) ∙ whole cut_next cut_home k (nx (256 + k)) (chain_from nx k) (stays k (omega arith) ne)

    by_place : (P : ℕ → Type 0) → P b → P 64 → ((k : ℕ) → k < 64 → (k ≡ b → ⊥) → P k) → (k : ℕ) → k ≤ 64 → P k
    by_place P here free other k le = ⊎_elim
        (λ e. subst P (sym e) here)
        (λ ne. ⊎_elim (λ l. other k l ne) (λ g. subst P (let e : 64 ≡ k = omega arith in e) free) (cases_lt k 64))
        (cases_eq k b)

    pub cut_sound : Holds cut_next cut_home
    cut_sound k lt = by_place (λ z. chained cut_next cut_home z (cut_next (256 + z)) (chain_from cut_next z) ≡ true)
        (settled cut_next cut_home b (cut_next (256 + b)) (cut j (chain_from nx b)) mine)
        (subst (λ (z : ℕ). chained cut_next cut_home 64 z (walk cut_next 256 z) ≡ true) (sym next_320) (settled cut_next cut_home 64 j (j ∷ chain_from nx 64) freed))
        (λ z l ne. subst (λ (w : ℕ). chained cut_next cut_home z w (walk cut_next 256 w) ≡ true) (sym (head_k z l ne)) (settled cut_next cut_home z (nx (256 + z)) (chain_from nx z) (stays z (omega arith) ne)))
        k (omega arith)

    same : (y : ℕ) → (y ≡ j → ⊥) → cut_block y ≡ bl y
    same y ne = at_there bl j 0 y ne

    pub cut_others : (c : ℕ) → (c ≡ bl (nx q) → ⊥) → node_for cut_next cut_block c ≡ node_for nx bl c
    cut_others c ne = by_place (λ k. k < 64 → node_with cut_block c (chain_from cut_next k) ≡ node_with bl c (chain_from nx k))
        (λ m. ap (node_with cut_block c) chain_b ∙ node_cut nx hm bl cut_block b j c same (λ z. ne (sym z)) (nx (256 + b)) (chain_from nx b) (was b (omega arith)))
        (λ m. absurd (omega arith))
        (λ k l nk m. ap (node_with cut_block c) (chain_k k l nk) ∙ node_framed bl cut_block j c same (chain_from nx k) (off_j k (omega arith) nk))
        (bucket_of c) (omega arith) (omega arith)

    pub cut_single : NoTwice cut_next cut_block
    cut_single k lt = by_place (λ z. z < 64 → no_twice cut_block (chain_from cut_next z) ≡ true)
        (λ m. subst (λ (l : List ℕ). no_twice cut_block l ≡ true) (sym chain_b) (twice_cut bl cut_block j same nx hm b (nx (256 + b)) (chain_from nx b) (was b (omega arith)) (single b live)))
        (λ m. absurd (omega arith))
        (λ z l ne m. subst (λ (l : List ℕ). no_twice cut_block l ≡ true) (sym (chain_k z l ne)) (twice_framed bl cut_block j same (chain_from nx z) (off_j z (omega arith) ne) (single z l)))
        k (omega arith) lt

    pub cut_kept : NoneLost cut_next cut_home
    cut_kept y yl = ⊎_elim
        (λ yj. subst (λ (v : ℕ). on v (chain_from cut_next (cut_home v)) ≡ true) (sym yj)
        (subst (λ (k : ℕ). on j (chain_from cut_next k) ≡ true) (sym (at_here hm j 64 j refl))
        (subst (λ (l : List ℕ). on j l ≡ true) (sym chain_free) (on_here j j (chain_from nx 64) refl))))
        (λ ny. subst (λ (k : ℕ). on y (chain_from cut_next k) ≡ true) (sym (rest_hm y ny)) (still ny (hm y) (most y) (kept y yl)))
        (cases_eq y j)
      where
        still : (y ≡ j → ⊥) → (k : ℕ) → k ≤ 64 → on y (chain_from nx k) ≡ true → on y (chain_from cut_next k) ≡ true
        still ny = by_place (λ k. on y (chain_from nx k) ≡ true → on y (chain_from cut_next k) ≡ true)
            (λ h. subst (λ (l : List ℕ). on y l ≡ true) (sym chain_b) (on_cut y j (chain_from nx b) ny h))
            (λ h. subst (λ (l : List ℕ). on y l ≡ true) (sym chain_free) (on_there y j (chain_from nx 64) h))
            (λ k l ne h. subst (λ (m : List ℕ). on y m ≡ true) (sym (chain_k k l ne)) h)

    -- the node's own block is gone
    pub cut_gone : bucket_of (bl (nx q)) ≡ b → node_for cut_next cut_block (bl (nx q)) ≡ 256
    cut_gone e =
        ap (λ (k : ℕ). node_with cut_block (bl j) (chain_from cut_next k)) e
        ∙ ap (node_with cut_block (bl j)) chain_b
        ∙ gone bl cut_block j same nx hm b (nx (256 + b)) (chain_from nx b) (was b (omega arith)) (single b live)
        (on_not_off j (chain_from nx b) (subst (λ (k : ℕ). on j (chain_from nx k) ≡ true) at_it.2 (kept j follows)))
