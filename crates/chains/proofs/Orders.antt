-- The blocks of a chain in their order.
use Rattle.std.proofs.Common.{◌≡◌, ℕ, zero, suc, ◌+◌, ◌<◌, ◌≤◌, true, false, List, [], ◌∷◌, length, map, is_some, Some, None, Option, sym, refl, ap, ◌∙◌, subst, ap₂, ⊎_elim, arith}
use Rattle.std.proofs.lemmas.Bool.{cases_eq, cases_lt, cases_Bool, both_ways, and_parts, eq-eqb, ne_eqb, eqb-true, cond-true, cond-false}
use Rattle.std.proofs.lemmas.List.{get_or_past}
use Rattle.std.specs.List.{slice_get, filter_map, cons_option}
use Rattle.std.specs.Option.{option_map}
use Rattle.words.specs.declared.address.Block.{Block}
use Rattle.words.specs.Layout.{bucket_of}
use Rattle.chains.specs.declared.chains.Chains.{Chains}
use Rattle.chains.specs.Chains.{nodes_of, node_of, order}
use Rattle.chains.specs.Contents.{Node}
use Rattle.chains.specs.Links.{walk, node_with, no_twice, on, cut}
use Rattle.chains.specs.Nodes.{link_number, link_at, owner, is_linked, block_at, home_at, chain_from, Sound}
use Rattle.chains.specs.Orders.{place_in, place_of, cut_out}
use Rattle.chains.proofs.Cut.{cut_here, cut_past, on_here, on_there, on_rest}
use Rattle.chains.proofs.Held.{next_in, home_in, block_in, chain, owned, unowned, node_own, on_under, at_same}
use Rattle.chains.proofs.Walks.{Chained, Off, opened, once, whole, node_here, node_past}

-- the blocks of the nodes, by links and nodes
abbrev pub order_in : List (Option ℕ) → List Node → ℕ → List ℕ
order_in ls ns k = filter_map (λ i. option_map (λ (b : Block). b.number) (owner ns i)) (chain_from (link_at ls) k)

module _ (ls : List (Option ℕ)) (ns : List Node) where
  at_bucket : (i : ℕ) → home_at ns i < 64 → is_linked ns i ≡ true
  at_bucket i l = ⊎_elim (λ t. t) (λ f. let e = cond-false (is_linked ns i) (bucket_of (block_at ns i)) 64 f in absurd (omega arith)) (cases_Bool (is_linked ns i))

  at_free : (i : ℕ) → home_at ns i ≡ 64 → is_linked ns i ≡ false
  at_free i e = ⊎_elim (λ t. let d = cond-true (is_linked ns i) (bucket_of (block_at ns i)) 64 t in absurd (omega arith)) (λ f. f) (cases_Bool (is_linked ns i))

  -- each node of a bucket's chain has a block, and no free node has one
  with_blocks : (k : ℕ) → k < 64 → (i : ℕ) (l : List ℕ) → Chained (link_at ls) (home_at ns) k i l → filter_map (λ i. option_map (λ (b : Block). b.number) (owner ns i)) l ≡ map (block_at ns) l
  with_blocks k lt i [] h = refl
  with_blocks k lt i (x ∷ l) (e, lx, hb, r) =
      ap (λ o. cons_option o (filter_map (λ i. option_map (λ (b : Block). b.number) (owner ns i)) l)) (owned (owner ns x) (at_bucket x (omega arith)))
      ∙ ap (λ m. block_at ns x ∷ m) (with_blocks k lt (link_at ls x) l r)

  without_blocks : (i : ℕ) (l : List ℕ) → Chained (link_at ls) (home_at ns) 64 i l → filter_map (λ i. option_map (λ (b : Block). b.number) (owner ns i)) l ≡ []
  without_blocks i [] h = refl
  without_blocks i (x ∷ l) (e, lx, hb, r) =
      ap (λ o. cons_option o (filter_map (λ i. option_map (λ (b : Block). b.number) (owner ns i)) l)) (unowned (owner ns x) (at_free x hb))
      ∙ without_blocks (link_at ls x) l r

  module _ (sound : Sound ls ns) where
    held : (k : ℕ) → k < 65 → Chained (link_at ls) (home_at ns) k (link_at ls (256 + k)) (chain_from (link_at ls) k)
    held k l = opened (link_at ls) (home_at ns) k (link_at ls (256 + k)) (chain_from (link_at ls) k) (sound k l)

    pub bucket_order : (k : ℕ) → k < 64 → order_in ls ns k ≡ map (block_at ns) (chain_from (link_at ls) k)
    bucket_order k l = with_blocks k l (link_at ls (256 + k)) (chain_from (link_at ls) k) (held k (omega arith))

    -- there are 64 buckets
    pub none_past : length ls ≡ 321 → (k : ℕ) → 64 ≤ k → order_in ls ns k ≡ []
    none_past n k g = ⊎_elim
        (λ e. ap (order_in ls ns) e ∙ without_blocks (link_at ls (256 + 64)) (chain_from (link_at ls) 64) (held 64 (omega arith)))
        (λ ne. ap (filter_map (λ i. option_map (λ (b : Block). b.number) (owner ns i)))
        (ap (walk (link_at ls) 256) (ap link_number (get_or_past ls (256 + k) None (⊎_elim (λ l. absurd (ne (omega arith))) (λ m. omega arith) (cases_lt k 65))))
        ∙ whole (link_at ls) (home_at ns) k 256 [] (omega arith)))
        (cases_eq k 64)

-- nodes that are all free
pub no_blocks : (f : ℕ → Option ℕ) → ((i : ℕ) → f i ≡ None) → (l : List ℕ) → filter_map f l ≡ []
no_blocks f e [] = refl
no_blocks f e (x ∷ l) = ap (λ o. cons_option o (filter_map f l)) (e x) ∙ no_blocks f e l

-- blocks that are the same off x
pub map_framed : (bl bl' : ℕ → ℕ) (x : ℕ) → ((y : ℕ) → (y ≡ x → ⊥) → bl' y ≡ bl y) → (l : List ℕ) → Off x l → map bl' l ≡ map bl l
map_framed bl bl' x same [] o = refl
map_framed bl bl' x same (y ∷ l) (ne, o) = ap₂ (λ z m. z ∷ m) (same y ne) (map_framed bl bl' x same l o)

-- a node of the rest of a chain has another block than the first
first_block : (nx hm bl : ℕ → ℕ) (k i x n : ℕ) (l : List ℕ) → Chained nx hm k i l → no_twice bl (x ∷ l) ≡ true → on n l ≡ true → bl x ≡ bl n → ⊥
unfolding no_twice
first_block nx hm bl k i x n l h s o e =
    let p = and_parts _ _ s in
    let z : node_with bl (bl x) l ≡ 256 = eqb-true _ 256 p.0 in
    let w : node_with bl (bl n) l ≡ n = node_own nx hm bl k i l n h p.1 o in
    let same : node_with bl (bl x) l ≡ node_with bl (bl n) l = ap (λ v. node_with bl v l) e in
    let small = on_under nx hm k i l n h o in
    omega arith

single_rest : (bl : ℕ → ℕ) (x : ℕ) (l : List ℕ) → no_twice bl (x ∷ l) ≡ true → no_twice bl l ≡ true
unfolding no_twice
single_rest bl x l s = (and_parts _ _ s).1

-- the node n is cut out of a chain, and so its block out of the blocks
pub cut_blocks : (nx hm bl bl' : ℕ → ℕ) (k n : ℕ) → ((y : ℕ) → (y ≡ n → ⊥) → bl' y ≡ bl y) → (i : ℕ) (l : List ℕ) → Chained nx hm k i l → no_twice bl l ≡ true → on n l ≡ true
    → map bl' (cut n l) ≡ cut (bl n) (map bl l)
unfolding on
cut_blocks nx hm bl bl' k n same i [] h s o = absurd (both_ways false refl o)
cut_blocks nx hm bl bl' k n same i (x ∷ l) (e, lt, hb, r) s o = ⊎_elim
    (λ xn. ap (map bl') (cut_here n x l xn) ∙ map_framed bl bl' n same l (subst (λ z. Off z l) xn (once nx hm k x l r)) ∙ sym (cut_here (bl n) (bl x) (map bl l) (ap bl xn)))
    (λ ne. let rest = on_rest n x l ne o in
    ap (map bl') (cut_past n x l ne) ∙ ap₂ (λ z m. z ∷ m) (same x ne) (cut_blocks nx hm bl bl' k n same (nx x) l r (single_rest bl x l s) rest)
    ∙ sym (cut_past (bl n) (bl x) (map bl l) (first_block nx hm bl k (nx x) x n l r s rest)))
    (cases_eq x n)

place_here : (b x : ℕ) (l : List ℕ) → x ≡ b → place_in b (x ∷ l) ≡ Some 1
unfolding place_in
place_here b x l e = cond-true _ _ _ (eq-eqb x b e)

place_past : (b x : ℕ) (l : List ℕ) → (x ≡ b → ⊥) → place_in b (x ∷ l) ≡ option_map (λ n. n + 1) (place_in b l)
unfolding place_in
place_past b x l ne = cond-false _ _ _ (ne_eqb x b ne)

there : (l : List ℕ) (n x : ℕ) → slice_get l n ≡ Some x → on x l ≡ true
there [] n x e = cc
there (y ∷ l) zero x e = on_here x y l (cc)
there (y ∷ l) (suc n) x e = on_there x y l (there l n x e)

-- the place of the block of the node after n others
pub place_there : (nx hm bl : ℕ → ℕ) (k i : ℕ) (l : List ℕ) → Chained nx hm k i l → no_twice bl l ≡ true → (n x : ℕ) → slice_get l n ≡ Some x → place_in (bl x) (map bl l) ≡ Some (n + 1)
place_there nx hm bl k i [] h s n x e = cc
place_there nx hm bl k i (y ∷ l) (e', lt, hb, r) s zero x e = place_here (bl x) (bl y) (map bl l) (cc)
place_there nx hm bl k i (y ∷ l) (e', lt, hb, r) s (suc n) x e =
    place_past (bl x) (bl y) (map bl l) (first_block nx hm bl k (nx y) y x l r s (there l n x e))
    ∙ ap (option_map (λ m. m + 1)) (place_there nx hm bl k (nx y) l r (single_rest bl y l s) n x e)
    ∙ ap Some (let z : n + 1 + 1 ≡ suc n + 1 = omega arith in z)

-- a block that no node has is at no place
pub place_nowhere : (nx hm bl : ℕ → ℕ) (k b i : ℕ) (l : List ℕ) → Chained nx hm k i l → node_with bl b l ≡ 256 → place_in b (map bl l) ≡ None
unfolding place_in
place_nowhere nx hm bl k b i [] h e = refl
place_nowhere nx hm bl k b i (x ∷ l) (e', lt, hb, r) e = ⊎_elim
    (λ q. let d = node_here bl b x l q in absurd (omega arith))
    (λ ne. place_past b (bl x) (map bl l) ne ∙ ap (option_map (λ n. n + 1)) (place_nowhere nx hm bl k b (nx x) l r (sym (node_past bl b x l ne) ∙ e)))
    (cases_eq (bl x) b)

-- what is at no place is not cut
cut_nothing : (b : ℕ) (l : List ℕ) → place_in b l ≡ None → cut b l ≡ l
unfolding cut
cut_nothing b [] e = refl
cut_nothing b (x ∷ l) e = ⊎_elim
    (λ q. absurd (both_ways _ (ap is_some e) (ap is_some (place_here b x l q))))
    (λ ne. cut_past b x l ne ∙ ap (λ m. x ∷ m) (cut_nothing b l (each (place_in b l) (sym (place_past b x l ne) ∙ e))))
    (cases_eq x b)
  where
    each : (o : Option ℕ) → option_map (λ (n : ℕ). n + 1) o ≡ None → o ≡ None
    each None q = refl
    each (Some z) q = absurd (both_ways _ (ap is_some q) refl)

module _ (c : Chains) (b : ℕ) where
  own : order c (bucket_of b) ≡ map (block_in c) (chain_from (next_in c) (bucket_of b))
  own = bucket_order c.links (nodes_of c) c.sound (bucket_of b) (omega arith)

  -- the node after n others of the block's chain has the block
  pub placed : (n i : ℕ) → slice_get (chain_from (next_in c) (bucket_of b)) n ≡ Some i → block_in c i ≡ b → place_of (order c) b ≡ Some (n + 1)
  placed n i e q = ap (place_in b) own ∙ ap (λ d. place_in d (map (block_in c) (chain_from (next_in c) (bucket_of b)))) (sym q)
      ∙ place_there (next_in c) (home_in c) (block_in c) (bucket_of b) _ (chain_from (next_in c) (bucket_of b)) (chain c (bucket_of b) (omega arith)) (c.single (bucket_of b) (omega arith)) n i e

  pub placeless : node_of c b ≡ 256 → place_of (order c) b ≡ None
  placeless e = ap (place_in b) own ∙ place_nowhere (next_in c) (home_in c) (block_in c) (bucket_of b) b _ (chain_from (next_in c) (bucket_of b)) (chain c (bucket_of b) (omega arith)) e

  pub uncut : place_of (order c) b ≡ None → order c ≡ cut_out (order c) b
  uncut e = sym (at_same (order c) (bucket_of b) (cut b (order c (bucket_of b))) (sym (cut_nothing b (order c (bucket_of b)) e)))
