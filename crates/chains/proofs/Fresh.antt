-- New chains: every node is free.
use mathlib.Core.Path.{fun_ext}
use Rattle.std.specs.List.{slice_get, filter_map}
use Rattle.std.specs.Option.{option_map}
use Rattle.std.proofs.lemmas.Option.{slice_get_past}
use lib.ListN.{length-replicate}
use Rattle.std.proofs.Common.{None, Option, is_some, option_and_then, ◌≡◌, ℕ, zero, suc, ◌+◌, ◌^◌, ◌<◌, ◌≤◌, true, false, List, [], ◌∷◌, replicate, sym, refl, ap, ◌∙◌, subst, ⊎_elim, arith}
use Rattle.std.proofs.lemmas.Bool.{cases_lt, cases_eq, le-ltb, cond-false}
use Rattle.words.specs.Layout.{bucket_of}
use Rattle.words.specs.declared.address.Block.{Block}
use Rattle.chains.specs.Counting.{how_many}
use Rattle.chains.specs.Links.{chained, node_with, no_twice, on}
use Rattle.chains.specs.Contents.{body_in, owner_in, Node}
use Rattle.chains.specs.Nodes.{AllFree, link_at, owner, block_at, is_linked, home_at, chain_from, node_for, is_held, Sound, Single, Kept}
use Rattle.chains.proofs.Counts.{many_none}
use Rattle.chains.proofs.Cut.{on_here, on_there}
use Rattle.chains.specs.Orders.{no_order}
use Rattle.chains.proofs.Linking.{settled}
use Rattle.chains.proofs.Orders.{no_blocks}
use Rattle.chains.proofs.Walks.{Chained, whole, node_none}

up : ℕ → ℕ → List ℕ
up i zero = []
up i (suc n) = i ∷ up (i + 1) n

-- nodes that have no block
module _ (n : Node) (none : owner_in n ≡ None) where
  spare_owner : (m i : ℕ) → owner (replicate m n) i ≡ None
  spare_owner zero i = refl
  spare_owner (suc m) zero = none
  spare_owner (suc m) (suc i) = spare_owner m i

module _ (ls : List (Option ℕ)) (all_free : AllFree ls) (n : Node) (blank : owner_in n ≡ None) where
  free : link_at ls 320 ≡ 0
  free = (all_free 320 (omega arith)).first refl

  rises : (k : ℕ) → k < 256 → link_at ls k ≡ k + 1
  rises k l = (all_free k (omega arith)).next l

  heads : (b : ℕ) → b < 64 → link_at ls (256 + b) ≡ 256
  heads b l = (all_free (256 + b) (omega arith)).empty (omega arith) (omega arith)

  abbrev ns : List Node
  ns = replicate 256 n

  abbrev hm : ℕ → ℕ
  hm = home_at (replicate 256 n)

  unlinked : (i : ℕ) → is_linked (replicate 256 n) i ≡ false
  unlinked i = ap is_some (spare_owner n blank 256 i)

  home : (i : ℕ) → hm i ≡ 64
  home i = cond-false _ _ _ (unlinked i)

  all : (n i : ℕ) → i + n ≡ 256 → Chained (link_at ls) hm 64 i (up i n)
  unfolding up
  all zero i e = omega arith
  all (suc n) i e =
      let lt : i < 256 = omega arith in
      (refl, lt, home i, subst (λ (j : ℕ). Chained (link_at ls) hm 64 j (up (i + 1) n)) (sym (rises i lt)) (all n (i + 1) (omega arith)))

  from_head : Chained (link_at ls) hm 64 (link_at ls (256 + 64)) (up 0 256)
  from_head = subst (λ (j : ℕ). Chained (link_at ls) hm 64 j (up 0 256)) (sym free) (all 256 0 refl)

  none : (b : ℕ) → b < 64 → Chained (link_at ls) hm b (link_at ls (256 + b)) []
  none b lt = let e = heads b lt in omega arith

  pub fresh_sound : Sound ls (replicate 256 n)
  fresh_sound b lt = ⊎_elim
      (λ l. settled (link_at ls) hm b (link_at ls (256 + b)) [] (none b l))
      (λ g. subst (λ (k : ℕ). chained (link_at ls) hm k (link_at ls (256 + k)) (chain_from (link_at ls) k) ≡ true) (let e : 64 ≡ b = omega arith in e)
      (settled (link_at ls) hm 64 (link_at ls (256 + 64)) (up 0 256) from_head))
      (cases_lt b 64)

  pub fresh_single : Single ls (replicate 256 n)
  unfolding no_twice
  fresh_single b lt = subst (λ (l : List ℕ). no_twice (block_at ns) l ≡ true) (sym (whole (link_at ls) hm b (link_at ls (256 + b)) [] (none b lt))) refl

  on_up : (k n i : ℕ) → i ≤ k → k < i + n → on k (up i n) ≡ true
  unfolding up
  on_up k zero i le lt = absurd (omega arith)
  on_up k (suc n) i le lt = ⊎_elim
      (λ e. on_here k i (up (i + 1) n) e)
      (λ ne. on_there k i (up (i + 1) n) (on_up k n (i + 1) (⊎_elim (λ s. (let z : i + 1 ≤ k = omega arith in z)) (λ g. absurd (ne (omega arith))) (cases_lt i k)) (omega arith)))
      (cases_eq i k)

  pub fresh_kept : Kept ls (replicate 256 n)
  fresh_kept k lt = subst (λ (h : ℕ). on k (chain_from (link_at ls) h) ≡ true) (sym (home k))
      (subst (λ (l : List ℕ). on k l ≡ true) (sym (whole (link_at ls) hm 64 (link_at ls (256 + 64)) (up 0 256) from_head)) (on_up k 256 0 (omega arith) (omega arith)))

  pub fresh_node : (b : ℕ) → node_for (link_at ls) (block_at ns) b ≡ 256
  fresh_node b = ap (node_with (block_at ns) b) (whole (link_at ls) hm (bucket_of b) (link_at ls (256 + bucket_of b)) [] (none (bucket_of b) (omega arith))) ∙ node_none (block_at ns) b

  pub fresh_counted : 0 ≡ how_many (is_linked ns) 256
  fresh_counted = sym (many_none (is_linked ns) 256 (λ k l. unlinked k))

  pub fresh_held : 0 ≡ how_many (is_held ls ns) (2 ^ 48)
  fresh_held = sym (many_none (is_held ls ns) (2 ^ 48) (λ b l. le-ltb _ 256 (let e = fresh_node b in omega arith)))

  pub fresh_body : (b : ℕ) → option_and_then body_in (slice_get ns (node_for (link_at ls) (block_at ns) b)) ≡ None
  fresh_body b = ap (option_and_then body_in) (slice_get_past ns (node_for (link_at ls) (block_at ns) b) (let l = length-replicate 256 n in let e = fresh_node b in omega arith))

  pub fresh_order : (λ k. filter_map (λ i. option_map (λ (b : Block). b.number) (owner ns i)) (chain_from (link_at ls) k)) ≡ no_order
  fresh_order = fun_ext (λ k. no_blocks (λ i. option_map (λ (b : Block). b.number) (owner ns i)) (λ i. ap (option_map (λ (b : Block). b.number)) (spare_owner n blank 256 i)) (chain_from (link_at ls) k))
