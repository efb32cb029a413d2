-- As many nodes are on a chain as there are blocks of its bucket that have one.
use Rattle.std.proofs.Common.{◌≡◌, ℕ, ◌+◌, ◌^◌, ◌<◌, ◌≤◌, Bool, true, false, ◌&&◌, eqb, ltb, List, [], ◌∷◌, length, is_some, Some, None, Option, sym, refl, ap, ◌∙◌, ⊎_elim, arith}
use mathlib.Core.Path.{fun_ext}
use Rattle.std.proofs.lemmas.Bool.{cases_lt, cases_eq, cases_Bool, eq-eqb, ne_eqb, eqb-true, lt-ltb, le-ltb, ltb-true, and_parts}
use Rattle.words.specs.Layout.{bucket_of}
use Rattle.words.specs.Points.{at}
use Rattle.words.specs.declared.address.Block.{Block}
use Rattle.chains.specs.declared.chains.Chains.{Chains}
use Rattle.chains.specs.Blocks.{block_number}
use Rattle.chains.specs.Chains.{nodes_of, body_of, node_of, nodes_in}
use Rattle.chains.specs.Counting.{how_many}
use Rattle.chains.specs.Links.{node_with, no_twice}
use Rattle.chains.specs.Nodes.{owner, is_linked, chain_from}
use Rattle.chains.proofs.Counts.{one, many_at, many_most, many_none}
use Rattle.chains.proofs.Held.{next_in, home_in, block_in, chain, count_all, held_some, flag_of_home, no_body, node_of_block, node_of_most, node_on}
use Rattle.chains.proofs.Linking.{at_here, at_there, at_home}
use Rattle.chains.proofs.Walks.{Chained, node_here, node_past, node_none}

-- the block d is that of a node of the list
abbrev has_node : (ℕ → ℕ) → List ℕ → ℕ → Bool
has_node bl l d = ltb (node_with bl d l) 256

blocks_on : (nx hm bl : ℕ → ℕ) (n k i : ℕ) (l : List ℕ) → ((j : ℕ) → bl j < n) → Chained nx hm k i l → no_twice bl l ≡ true → how_many (has_node bl l) n ≡ length l
unfolding no_twice
blocks_on nx hm bl n k i [] small h s = many_none (has_node bl []) n (λ d l. le-ltb _ 256 (let e = node_none bl d in omega arith))
blocks_on nx hm bl n k i (x ∷ l) small (e, lt, hb, r) s =
    let (z, t) = and_parts _ _ s in
    let y : node_with bl (bl x) l ≡ 256 = eqb-true _ 256 z in
    let m = many_at (has_node bl l) (bl x) true n (small x) in
    let f = ap one (le-ltb (node_with bl (bl x) l) 256 (omega arith)) in
    let g = ap (λ t. how_many t n) (fun_ext more) in
    let ih = blocks_on nx hm bl n k (nx x) l small r t in
    omega arith
  where
    more : (d : ℕ) → has_node bl (x ∷ l) d ≡ at (has_node bl l) (bl x) true d
    more d = ⊎_elim
        (λ q. ap (λ v. ltb v 256) (node_here bl d x l (sym q)) ∙ lt-ltb x 256 lt ∙ sym (at_here (has_node bl l) (bl x) true d q))
        (λ ne. ap (λ v. ltb v 256) (node_past bl d x l (λ q. ne (sym q))) ∙ sym (at_there (has_node bl l) (bl x) true d ne))
        (cases_eq d (bl x))

module _ (c : Chains) (k : ℕ) (lt : k < 64) where
  block_small : (i : ℕ) → block_in c i < 2 ^ 48
  block_small i = each (owner (nodes_of c) i)
    where
      each : (o : Option Block) → block_number o < 2 ^ 48
      each (Some b) = b.within
      each None = omega arith

  own : Chained (next_in c) (home_in c) k (next_in c (256 + k)) (chain_from (next_in c) k)
  own = chain c k (omega arith)

  -- the node that is found on the chain has a block of the bucket
  of_bucket : (d : ℕ) → has_node (block_in c) (chain_from (next_in c) k) d ≡ true → bucket_of d ≡ k
  of_bucket d t =
      let (o, e) = node_on (block_in c) d (chain_from (next_in c) k) (ltb-true _ 256 t) in
      let h = at_home (next_in c) (home_in c) k (node_with (block_in c) d (chain_from (next_in c) k)) _ (chain_from (next_in c) k) own o in
      let f = (flag_of_home c (node_with (block_in c) d (chain_from (next_in c) k)) (omega arith)).1 in
      ap bucket_of (sym e) ∙ sym f ∙ h

  same : (d : ℕ) → has_node (block_in c) (chain_from (next_in c) k) d ≡ (is_some (body_of c d) && eqb (bucket_of d) k)
  same d = ⊎_elim
      (λ e. ap (λ q. has_node (block_in c) (chain_from (next_in c) q) d) (sym e) ∙ sym (held_some c d) ∙ with_true _ _ (eq-eqb (bucket_of d) k e))
      (λ ne. ⊎_elim (λ t. absurd (ne (of_bucket d t))) (λ f. f ∙ with_false _ _ (ne_eqb (bucket_of d) k ne)) (cases_Bool (has_node (block_in c) (chain_from (next_in c) k) d)))
      (cases_eq (bucket_of d) k)
    where
      with_true : (a b : Bool) → b ≡ true → a ≡ (a && b)
      with_true true b e = sym e
      with_true false b e = refl

      with_false : (a b : Bool) → b ≡ false → false ≡ (a && b)
      with_false true b e = sym e
      with_false false b e = refl

  pub chain_count : length (chain_from (next_in c) k) ≡ nodes_in c k
  chain_count = sym (blocks_on (next_in c) (home_in c) (block_in c) (2 ^ 48) k _ (chain_from (next_in c) k) block_small own (c.single k lt)) ∙ ap (λ t. how_many t (2 ^ 48)) (fun_ext same)

-- no block of another number has a node
pub no_body_past : (c : Chains) (d : ℕ) → 2 ^ 48 ≤ d → body_of c d ≡ None
no_body_past c d g = no_body c d (⊎_elim
    (λ l. let s = block_small c 0 (omega arith) (node_of c d) in let e = (node_of_block c d l).1 in absurd (omega arith))
    (λ h. let m = node_of_most c d in omega arith)
    (cases_lt (node_of c d) 256))

-- at most as many blocks have a node as there are nodes
pub held_most : (c : Chains) → how_many (λ b. is_some (body_of c b)) (2 ^ 48) ≤ 256
held_most c = let e = count_all c in let f = c.counted in let m = many_most (is_linked (nodes_of c)) 256 in omega arith
