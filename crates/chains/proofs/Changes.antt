-- What is held of each block after a body is written, a node linked, or a node unlinked.
use Rattle.std.proofs.Common.{is_some, option_and_then, ◌≡◌, ℕ, ◌+◌, ◌^◌, ◌<◌, ◌≤◌, true, false, cond, ltb, ◌⊎◌, List, [], ◌∷◌, length, get_or, set, Some, None, Option, sym, refl, ap, ◌∙◌, subst, ap₂, inl, inr, ⊎_elim, arith, length-set, map, MatchOption}
use mathlib.Core.Path.{fun_ext}
use Rattle.std.proofs.lemmas.Option.{slice_get_past, slice_get-get_or}
use Rattle.std.proofs.lemmas.Bool.{cases_eq, cases_lt, cases_Bool, both_ways, lt-ltb, le-ltb, cond-false}
use Rattle.std.specs.List.{slice_get, filter_map}
use Rattle.std.specs.Option.{option_map}
use Rattle.words.specs.Layout.{bucket_of}
use Rattle.words.specs.Points.{at}
use Rattle.words.specs.declared.address.Block.{Block}
use Rattle.chains.specs.declared.chains.Chains.{Chains}
use Rattle.chains.specs.declared.node.Body.{Body}
use Rattle.chains.specs.declared.node.Content.TheVariants.{Free}
use Rattle.chains.specs.Contents.{Node, body_in, owner_in}
use Rattle.chains.specs.declared.node.Way.{Way}
use Rattle.chains.specs.Chains.{nodes_of, node_of, body_of, block_of_node, order, Leads, Nodes}
use Rattle.chains.specs.Counting.{how_many}
use Rattle.chains.specs.Links.{on, cut}
use Rattle.chains.specs.Orders.{in_front, cut_out}
use Rattle.chains.specs.Blocks.{block_number}
use Rattle.chains.specs.Nodes.{link_number, link_at, owner, is_linked, block_at, home_of, home_at, chain_from, node_for, is_held, Sound, Single, Kept, Holds, NoTwice, NoneLost}
use Rattle.chains.proofs.Counts.{one, many_at, many_all, many_less}
use Rattle.chains.proofs.Cut.{on_not_off}
use Rattle.chains.proofs.Held.{chain, count_all, owned, unowned, node_on, home_of_flag, has_body, owner_of, at_same, next_in, no_node, home_in, block_in, home_most, no_flag_of_home, node_of_block, block_of_linked, at_map, link_set, owner_set, nth_at}
use Rattle.chains.proofs.Linking.{at_here, at_there, chain_b₀, chain_other, chain_b, chain_k, push_next, push_home, push_block, push_sound, push_single, push_kept, push_here, push_others, cut_next, cut_home, cut_block, cut_sound, cut_single, cut_kept, cut_others, cut_gone}
use Rattle.chains.proofs.Orders.{order_in, bucket_order, none_past, map_framed, cut_blocks}
use Rattle.chains.proofs.Steps.{step, over}
use Rattle.chains.proofs.Walks.{Off, away}

-- the body of a node as a function of its place
abbrev pub bodies : List Node → ℕ → Option Body
bodies ns i = option_and_then body_in (slice_get ns i)

pub bodies_set : (ns : List Node) (i : ℕ) (n : Node) → i < length ns → bodies (set ns i n) ≡ at (bodies ns) i (body_in n)
bodies_set ns i n l = ap (λ f k. option_and_then body_in (f k)) (nth_at ns i n l) ∙ at_map (option_and_then body_in) (slice_get ns) i (Some n)

-- a node that is written, seen by its block
module _ (ns : List Node) (i : ℕ) (n : Node) (l : i < length ns) where
  pub linked_set : is_linked (set ns i n) ≡ at (is_linked ns) i (is_some (owner_in n))
  linked_set = ap (λ f k. is_some (f k)) (owner_set ns i n l) ∙ at_map is_some (owner ns) i (owner_in n)

  pub blocks_set : block_at (set ns i n) ≡ at (block_at ns) i (block_number (owner_in n))
  blocks_set = ap (λ f k. block_number (f k)) (owner_set ns i n l) ∙ at_map block_number (owner ns) i (owner_in n)

  -- and by the chain where it is at home
  pub homes_set : home_at (set ns i n) ≡ at (home_at ns) i (cond (is_some (owner_in n)) (bucket_of (block_number (owner_in n))) 64)
  homes_set = ap₂ home_of blocks_set linked_set ∙ fun_ext (λ k. ⊎_elim
      (λ e. ap₂ (λ x y. cond x (bucket_of y) 64) (at_here (is_linked ns) i (is_some (owner_in n)) k e) (at_here (block_at ns) i (block_number (owner_in n)) k e) ∙ sym (at_here (home_at ns) i _ k e))
      (λ ne. ap₂ (λ x y. cond x (bucket_of y) 64) (at_there (is_linked ns) i (is_some (owner_in n)) k ne) (at_there (block_at ns) i (block_number (owner_in n)) k ne) ∙ sym (at_there (home_at ns) i _ k ne))
      (cases_eq k i))

-- a body is written on the node i
module _ (c : Chains) (i : ℕ) (n : Node) (l : i < 256) where
  apart : (b : ℕ) → (node_of c b ≡ i → ⊥) → bodies (set (nodes_of c) i n) (node_of c b) ≡ body_of c b
  apart b ne = let w = c.wide in ap (λ f. f (node_of c b)) (bodies_set (nodes_of c) i n (omega arith)) ∙ at_there (bodies (nodes_of c)) i (body_in n) (node_of c b) ne

  pub rewritten : MatchOption (block_of_node c i) ((λ b. bodies (set (nodes_of c) i n) (node_of c b)) ≡ body_of c) (λ d. (λ b. bodies (set (nodes_of c) i n) (node_of c b)) ≡ at (body_of c) d (body_in n))
  rewritten = ⊎_elim
      (λ t. subst (λ o. MatchOption o ((λ b. bodies (set (nodes_of c) i n) (node_of c b)) ≡ body_of c) (λ d. (λ b. bodies (set (nodes_of c) i n) (node_of c b)) ≡ at (body_of c) d (body_in n))) (sym (owned (owner (nodes_of c) i) t)) (fun_ext (λ b. ⊎_elim
      (λ e. let w = c.wide in
      ap (λ f. f (node_of c b)) (bodies_set (nodes_of c) i n (omega arith)) ∙ at_here (bodies (nodes_of c)) i (body_in n) (node_of c b) (ap (node_of c) e ∙ block_of_linked c i l t)
      ∙ sym (at_here (body_of c) (block_in c i) (body_in n) b e))
      (λ ne. apart b (λ e. ne (sym (node_of_block c b (omega arith)).1 ∙ ap (block_in c) e)) ∙ sym (at_there (body_of c) (block_in c i) (body_in n) b ne))
      (cases_eq b (block_in c i)))))
      (λ f. subst (λ o. MatchOption o ((λ b. bodies (set (nodes_of c) i n) (node_of c b)) ≡ body_of c) (λ d. (λ b. bodies (set (nodes_of c) i n) (node_of c b)) ≡ at (body_of c) d (body_in n))) (sym (unowned (owner (nodes_of c) i) f))
      (fun_ext (λ b. apart b (λ e. both_ways _ f (ap (is_linked (nodes_of c)) (sym e) ∙ (node_of_block c b (omega arith)).0)))))
      (cases_Bool (is_linked (nodes_of c) i))

-- a node that is not free is written, and its block is left
module _ (c : Chains) (i : ℕ) (d n : Node) (y : Body) (l : i < 256) (block : n.block ≡ (get_or (nodes_of c) i d).block) (has : body_in n ≡ Some y)
    (some : is_some (body_in (get_or (nodes_of c) i d)) ≡ true) (ms : List Node) (is : ms ≡ set (nodes_of c) i n) where
  owners : owner ms ≡ owner (nodes_of c)
  owners = let w = c.wide in
      ap owner is ∙ owner_set (nodes_of c) i n (omega arith)
      ∙ at_same (owner (nodes_of c)) i (owner_in n) (ap (option_and_then owner_in) (slice_get-get_or (nodes_of c) i d (omega arith)) ∙ owner_of _ some ∙ ap Some (sym block) ∙ sym (owner_of n (ap is_some has)))

  homes_left : home_at ms ≡ home_at (nodes_of c)
  homes_left = ap (λ f. home_of (λ k. block_number (f k)) (λ k. is_some (f k))) owners

  pub replaced_sound : Sound c.links ms
  replaced_sound = subst (Holds (next_in c)) (sym homes_left) c.sound

  pub replaced_single : Single c.links ms
  replaced_single = subst (λ f. NoTwice (next_in c) (λ k. block_number (f k))) (sym owners) c.single

  pub replaced_kept : Kept c.links ms
  replaced_kept = subst (NoneLost (next_in c)) (sym homes_left) c.kept

  pub replaced_counted : c.count ≡ how_many (is_linked ms) 256
  replaced_counted = c.counted ∙ ap (λ f. how_many (λ k. is_some (f k)) 256) (sym owners)

  pub replaced_held : c.count ≡ how_many (is_held c.links ms) (2 ^ 48)
  replaced_held = c.held ∙ ap (λ f. how_many (λ b. ltb (node_for (next_in c) (λ k. block_number (f k)) b) 256) (2 ^ 48)) (sym owners)

  pub replaced_order : order_in c.links ms ≡ order c
  replaced_order = ap (λ f k. filter_map (λ i. option_map (λ (x : Block). x.number) (f i)) (chain_from (next_in c) k)) owners

  pub replaced_puts : (j : ℕ) → i ≡ j → MatchOption (block_of_node c j) ((λ b. bodies ms (node_for (next_in c) (block_at ms) b)) ≡ body_of c) (λ k. (λ b. bodies ms (node_for (next_in c) (block_at ms) b)) ≡ at (body_of c) k (Some y))
  replaced_puts j e = subst (λ h. MatchOption (block_of_node c h) ((λ b. bodies ms (node_for (next_in c) (block_at ms) b)) ≡ body_of c) (λ k. (λ b. bodies ms (node_for (next_in c) (block_at ms) b)) ≡ at (body_of c) k (Some y))) e
      (subst (λ f. MatchOption (block_of_node c i) ((λ b. bodies ms (node_for (next_in c) (λ k. block_number (f k)) b)) ≡ body_of c) (λ k. (λ b. bodies ms (node_for (next_in c) (λ h. block_number (f h)) b)) ≡ at (body_of c) k (Some y))) (sym owners)
      (subst (λ o. MatchOption (block_of_node c i) ((λ b. bodies ms (node_of c b)) ≡ body_of c) (λ k. (λ b. bodies ms (node_of c b)) ≡ at (body_of c) k o)) has (subst (λ z. MatchOption (block_of_node c i) ((λ b. bodies z (node_of c b)) ≡ body_of c) (λ k. (λ b. bodies z (node_of c b)) ≡ at (body_of c) k (body_in n))) (sym is) (rewritten c i n l))))

-- a free node has no block
pub free_writes : (c : Chains) (i : ℕ) (d : Node) (y : Body) (j : ℕ) → i ≡ j → i < 256 → is_some (body_in (get_or (nodes_of c) i d)) ≡ false → MatchOption (block_of_node c j) (body_of c ≡ body_of c) (λ k. body_of c ≡ at (body_of c) k (Some y))
free_writes c i d y j e l f =
    let w = c.wide in
    subst (λ h. MatchOption (block_of_node c h) (body_of c ≡ body_of c) (λ k. body_of c ≡ at (body_of c) k (Some y))) e
    (subst (λ o. MatchOption o (body_of c ≡ body_of c) (λ k. body_of c ≡ at (body_of c) k (Some y)))
    (sym (unowned (owner (nodes_of c) i) (sym (has_body (slice_get (nodes_of c) i)) ∙ ap (λ o. is_some (option_and_then body_in o)) (slice_get-get_or (nodes_of c) i d (omega arith)) ∙ f))) refl)

-- three links are written
three : (ls : List (Option ℕ)) (i j k : ℕ) (a b d : Option ℕ) → i < length ls → j < length ls → k < length ls
    → link_at (set (set (set ls i a) j b) k d) ≡ at (at (at (link_at ls) i (link_number a)) j (link_number b)) k (link_number d)
three ls i j k a b d x y z =
    let m = length-set ls i a in
    let n = length-set (set ls i a) j b in
    link_set (set (set ls i a) j b) k d (omega arith)
    ∙ ap (λ f. at f k (link_number d)) (link_set (set ls i a) j b (omega arith) ∙ ap (λ f. at f j (link_number b)) (link_set ls i a x))

-- the free nodes have run out: every node is linked
pub all_linked : (c : Chains) → get_or c.links 320 None ≡ None → Nodes c 256
all_linked c none = let g : 256 ≤ next_in c 320 = (let e = ap link_number none in omega arith) in sym (sym (count_all c) ∙ c.counted ∙ many_all (is_linked (nodes_of c)) 256 (λ i l. ⊎_elim
    (λ t. t)
    (λ f. absurd (on_not_off i [] (subst (λ k. on i k ≡ true) (over (next_in c) (home_in c) 64 (next_in c 320) (c.sound 64 (omega arith)) g)
    (subst (λ k. on i (chain_from (next_in c) k) ≡ true) (cond-false (is_linked (nodes_of c) i) (bucket_of (block_in c i)) 64 f) (c.kept i l))) tt))
    (cases_Bool (is_linked (nodes_of c) i))))

-- a node is free, so not every node is linked
pub some_free : (c : Chains) (i : ℕ) → get_or c.links 320 None ≡ Some i → i < 256 → Nodes c 256 → ⊥
some_free c i e l n =
    let f = ap link_number e in
    let free = no_flag_of_home c (next_in c 320) (step (next_in c) (home_in c) 64 (next_in c 320) (c.sound 64 (omega arith)) (omega arith)).4 in
    let m = many_less (is_linked (nodes_of c)) (next_in c 320) 256 (omega arith) free in
    let k = c.counted in
    let a = count_all c in
    omega arith

-- the first free node is linked for the block; i and j are its number
module _ (c : Chains) (block : Block) (n : Node) (y : Body) (h i j : ℕ) (of_block : n.block ≡ block) (has : body_in n ≡ Some y) (bucket : h ≡ bucket_of block.number) (same : i ≡ j) (absent : body_of c block.number ≡ None)
    (free : get_or c.links 320 None ≡ Some j) (room : j < 256) (wl : length c.links ≡ 321) (ns : List Node) (is : ns ≡ set (nodes_of c) i n) where
  abbrev b₀ : ℕ
  b₀ = block.number

  abbrev ls : List (Option ℕ)
  ls = set (set (set c.links i (get_or c.links (256 + h) None)) 320 (get_or c.links i None)) (256 + h) (Some j)

  of_new : owner_in n ≡ Some block
  of_new = owner_of n (ap is_some has) ∙ ap Some of_block

  first : next_in c 320 ≡ i
  first = ap link_number free ∙ sym same

  none : node_of c b₀ ≡ 256
  none = no_node c b₀ absent

  left : next_in c 320 < 256
  left = let e = first in omega arith

  in_nodes : i < length (nodes_of c)
  in_nodes = let w = c.wide in omega arith

  abbrev nx : ℕ → ℕ
  nx = push_next (next_in c) (home_in c) (block_in c) c.sound c.single c.kept (home_most c) block.number none left

  abbrev bl : ℕ → ℕ
  bl = push_block (next_in c) (home_in c) (block_in c) c.sound c.single c.kept (home_most c) block.number none left

  abbrev hm : ℕ → ℕ
  hm = push_home (next_in c) (home_in c) (block_in c) c.sound c.single c.kept (home_most c) block.number none left

  links : link_at ls ≡ nx
  links = three c.links i 320 (256 + h) (get_or c.links (256 + h) None) (get_or c.links i None) (Some j) (omega arith) (omega arith) (omega arith)
      ∙ ap (λ k. at (at (at (next_in c) i (next_in c (256 + k))) 320 (next_in c i)) (256 + k) j) bucket
      ∙ ap (λ k. at (at (at (next_in c) i (next_in c (256 + bucket_of b₀))) 320 (next_in c i)) (256 + bucket_of b₀) k) (sym same)
      ∙ ap (λ k. at (at (at (next_in c) k (next_in c (256 + bucket_of b₀))) 320 (next_in c k)) (256 + bucket_of b₀) k) (sym first)

  blocks : block_at ns ≡ bl
  blocks = ap block_at is ∙ blocks_set (nodes_of c) i n in_nodes ∙ ap (λ o. at (block_in c) i (block_number o)) of_new ∙ ap (λ k. at (block_in c) k b₀) (sym first)

  flags : is_linked ns ≡ at (is_linked (nodes_of c)) i true
  flags = ap is_linked is ∙ linked_set (nodes_of c) i n in_nodes ∙ ap (λ o. at (is_linked (nodes_of c)) i (is_some o)) of_new

  homes : home_at ns ≡ hm
  homes = ap home_at is ∙ homes_set (nodes_of c) i n in_nodes ∙ ap (λ o. at (home_in c) i (cond (is_some o) (bucket_of (block_number o)) 64)) of_new ∙ ap (λ k. at (home_in c) k (bucket_of b₀)) (sym first)

  pub pushed_sound : Sound ls ns
  pushed_sound = subst (λ n. Holds n (home_at ns)) (sym links) (subst (Holds nx) (sym homes)
      (push_sound (next_in c) (home_in c) (block_in c) c.sound c.single c.kept (home_most c) b₀ none left))

  pub pushed_single : Single ls ns
  pushed_single = subst (λ n. NoTwice n (block_at ns)) (sym links) (subst (NoTwice nx) (sym blocks)
      (push_single (next_in c) (home_in c) (block_in c) c.sound c.single c.kept (home_most c) b₀ none left))

  pub pushed_kept : Kept ls ns
  pushed_kept = subst (λ n. NoneLost n (home_at ns)) (sym links) (subst (NoneLost nx) (sym homes)
      (push_kept (next_in c) (home_in c) (block_in c) c.sound c.single c.kept (home_most c) b₀ none left))

  node_after : (b : ℕ) → node_for (link_at ls) (block_at ns) b ≡ node_for nx bl b
  node_after b = ap₂ (λ n m. node_for n m b) links blocks

  node_here : node_for (link_at ls) (block_at ns) b₀ ≡ i
  node_here = node_after b₀ ∙ push_here (next_in c) (home_in c) (block_in c) c.sound c.single c.kept (home_most c) b₀ none left ∙ first

  node_other : (b : ℕ) → (b ≡ b₀ → ⊥) → node_for (link_at ls) (block_at ns) b ≡ node_of c b
  node_other b ne = node_after b ∙ push_others (next_in c) (home_in c) (block_in c) c.sound c.single c.kept (home_most c) b₀ none left b ne

  -- the node was free
  was_free : is_linked (nodes_of c) i ≡ false
  was_free = ap (is_linked (nodes_of c)) (sym first) ∙ no_flag_of_home c (next_in c 320) (step (next_in c) (home_in c) 64 (next_in c 320) (c.sound 64 (omega arith)) left).4

  pub push_room : c.count < 256
  push_room = let e = c.counted in let l = many_less (is_linked (nodes_of c)) i 256 (omega arith) was_free in omega arith

  pub pushed_counted : c.count + 1 ≡ how_many (is_linked ns) 256
  pushed_counted =
      let e = c.counted in
      let m = many_at (is_linked (nodes_of c)) i true 256 (omega arith) in
      let f = ap one was_free in
      let g = ap (λ t. how_many t 256) flags in
      omega arith

  pub pushed_held : c.count + 1 ≡ how_many (is_held ls ns) (2 ^ 48)
  pushed_held =
      let e = c.held in
      let m = many_at (is_held c.links (nodes_of c)) b₀ true (2 ^ 48) block.within in
      let f = ap one (le-ltb (node_of c b₀) 256 (let a = none in omega arith)) in
      let g = ap (λ t. how_many t (2 ^ 48)) (fun_ext holds) in
      omega arith
    where
      holds : (b : ℕ) → is_held ls ns b ≡ at (is_held c.links (nodes_of c)) b₀ true b
      holds b = ⊎_elim
          (λ e. ap (λ x. ltb x 256) (ap (node_for (link_at ls) (block_at ns)) e ∙ node_here) ∙ lt-ltb i 256 (omega arith) ∙ sym (at_here (is_held c.links (nodes_of c)) b₀ true b e))
          (λ ne. ap (λ x. ltb x 256) (node_other b ne) ∙ sym (at_there (is_held c.links (nodes_of c)) b₀ true b ne))
          (cases_eq b b₀)

  pub pushed_puts : (λ b. bodies ns (node_for (link_at ls) (block_at ns) b)) ≡ at (body_of c) b₀ (Some y)
  pushed_puts = fun_ext (λ b. ⊎_elim
      (λ e. ap (bodies ns) (ap (node_for (link_at ls) (block_at ns)) e ∙ node_here)
      ∙ ap (λ z. bodies z i) is ∙ ap (λ f. f i) (bodies_set (nodes_of c) i n in_nodes) ∙ at_here (bodies (nodes_of c)) i (body_in n) i refl ∙ has ∙ sym (at_here (body_of c) b₀ (Some y) b e))
      (λ ne. ap (bodies ns) (node_other b ne)
      ∙ ap (λ z. bodies z (node_of c b)) is ∙ apart c i n (omega arith) b (λ e. both_ways _ was_free (ap (is_linked (nodes_of c)) (sym e) ∙ (node_of_block c b (omega arith)).0))
      ∙ sym (at_there (body_of c) b₀ (Some y) b ne))
      (cases_eq b b₀))

  -- the node is at the head of its chain, and every other chain is as it was
  chain_after : (k : ℕ) → k < 64 → chain_from (link_at ls) k ≡ at (chain_from (next_in c)) (bucket_of b₀) (node_for (link_at ls) (block_at ns) b₀ ∷ chain_from (next_in c) (bucket_of b₀)) k
  chain_after k l = ap (λ f. chain_from f k) links ∙ ⊎_elim
      (λ e. ap (chain_from nx) e ∙ chain_b₀ (next_in c) (home_in c) (block_in c) c.sound c.single c.kept (home_most c) b₀ none left
      ∙ ap (λ x. x ∷ chain_from (next_in c) (bucket_of b₀)) (first ∙ sym node_here) ∙ sym (at_here (chain_from (next_in c)) (bucket_of b₀) _ k e))
      (λ ne. chain_other (next_in c) (home_in c) (block_in c) c.sound c.single c.kept (home_most c) b₀ none left k l ne ∙ sym (at_there (chain_from (next_in c)) (bucket_of b₀) _ k ne))
      (cases_eq k (bucket_of b₀))

  longer : length ls ≡ 321
  longer = let a = length-set c.links i (get_or c.links (256 + h) None) in
      let b = length-set (set c.links i (get_or c.links (256 + h) None)) 320 (get_or c.links i None) in
      let d = length-set (set (set c.links i (get_or c.links (256 + h) None)) 320 (get_or c.links i None)) (256 + h) (Some j) in
      omega arith

  -- the blocks of each chain, seen by the blocks of the nodes as they are now
  same_blocks : (k : ℕ) → k ≡ i ⊎ ((k ≡ i → ⊥) × (block_at ns k ≡ block_in c k))
  same_blocks k = ⊎_elim inl (λ ne. inr (ne, ap (λ f. f k) blocks ∙ at_there (block_in c) (next_in c 320) b₀ k (λ e. ne (e ∙ first)))) (cases_eq k i)

  new_block : block_at ns i ≡ b₀
  new_block = ap (λ f. f i) blocks ∙ at_here (block_in c) (next_in c 320) b₀ i (sym first)

  -- the free node is on no chain of a bucket
  off : (k : ℕ) → k < 64 → Off i (chain_from (next_in c) k)
  off k l = away (next_in c) (home_in c) k i (next_in c (256 + k)) (chain_from (next_in c) k) (chain c k (omega arith))
      (λ e. let f = cond-false (is_linked (nodes_of c) i) (bucket_of (block_in c i)) 64 was_free in omega arith)

  stays : (k : ℕ) → k < 64 → map (block_at ns) (chain_from (next_in c) k) ≡ order c k
  stays k l = map_framed (block_in c) (block_at ns) i (λ y ne. ⊎_elim (λ e. absurd (ne e)) (λ p. p.1) (same_blocks y)) (chain_from (next_in c) k) (off k l)
      ∙ sym (bucket_order c.links (nodes_of c) c.sound k l)

  abbrev chain_now : ℕ → List ℕ
  chain_now = at (chain_from (next_in c)) (bucket_of b₀) (node_for (link_at ls) (block_at ns) b₀ ∷ chain_from (next_in c) (bucket_of b₀))

  -- the block is in front of its bucket
  pub pushed_order : order_in ls ns ≡ in_front (order c) b₀
  pushed_order = fun_ext (λ k. ⊎_elim
      (λ l. bucket_order ls ns pushed_sound k l ∙ ap (map (block_at ns)) (chain_after k l) ∙ ⊎_elim (λ e. here k l e) (λ ne. there k l ne) (cases_eq k (bucket_of b₀)))
      (λ g. none_past ls ns pushed_sound longer k g ∙ sym (at_there (order c) (bucket_of b₀) _ k (λ e. omega arith) ∙ none_past c.links (nodes_of c) c.sound wl k g))
      (cases_lt k 64))
    where
      here : (k : ℕ) → k < 64 → k ≡ bucket_of b₀ → map (block_at ns) (chain_now k) ≡ in_front (order c) b₀ k
      here k l e = ap (map (block_at ns)) (at_here (chain_from (next_in c)) (bucket_of b₀) _ k e)
          ∙ ap₂ (λ x m. x ∷ m) (ap (block_at ns) node_here ∙ new_block) (stays (bucket_of b₀) (omega arith))
          ∙ sym (at_here (order c) (bucket_of b₀) _ k e)

      there : (k : ℕ) → k < 64 → (k ≡ bucket_of b₀ → ⊥) → map (block_at ns) (chain_now k) ≡ in_front (order c) b₀ k
      there k l ne = ap (map (block_at ns)) (at_there (chain_from (next_in c)) (bucket_of b₀) _ k ne) ∙ stays k l ∙ sym (at_there (order c) (bucket_of b₀) _ k ne)

-- the node of the block, to which the place q leads, is unlinked; i and j are its number
module _ (c : Chains) (block : Block) (w : Way) (i : ℕ) (leads : Leads c block.number w) (same : i ≡ w.found.node) (small : w.found.node < 256) (wl : length c.links ≡ 321) (keep : Block) (ns' : List Node) (is' : ns' ≡ set (nodes_of c) i (record { block = keep; content = Free })) where
  abbrev q : ℕ
  q = w.place

  abbrev k₀ : ℕ
  k₀ = block.number

  abbrev j : ℕ
  j = next_in c w.place

  is_i : next_in c q ≡ i
  is_i = ap link_number leads.link ∙ sym same

  follows : next_in c q < 256
  follows = let e = is_i in omega arith

  place : (q ≡ 256 + bucket_of k₀) ⊎ (on q (chain_from (next_in c) (bucket_of k₀)) ≡ true)
  place = ⊎_elim inl (λ h. inr (subst (λ k. on q (chain_from (next_in c) k) ≡ true) h.1 (c.kept q h.0))) leads.place

  live : bucket_of k₀ < 64
  live = omega arith

  q_in : q < 321
  q_in = ⊎_elim (λ e. let l = live in omega arith) (λ h. let l = h.0 in omega arith) leads.place

  in_nodes' : i < length (nodes_of c)
  in_nodes' = let e = c.wide in omega arith

  abbrev ls' : List (Option ℕ)
  ls' = set (set (set c.links w.place (get_or c.links i None)) i (get_or c.links 320 None)) 320 (Some w.found.node)

  abbrev nx' : ℕ → ℕ
  nx' = cut_next (next_in c) (home_in c) (block_in c) c.sound c.single c.kept (home_most c) w.place (bucket_of block.number) live place follows

  abbrev bl' : ℕ → ℕ
  bl' = cut_block (next_in c) (home_in c) (block_in c) c.sound c.single c.kept (home_most c) w.place (bucket_of block.number) live place follows

  abbrev hm' : ℕ → ℕ
  hm' = cut_home (next_in c) (home_in c) (block_in c) c.sound c.single c.kept (home_most c) w.place (bucket_of block.number) live place follows

  links' : link_at ls' ≡ nx'
  links' = let l = q_in in
      three c.links q i 320 (get_or c.links i None) (get_or c.links 320 None) (Some w.found.node) (omega arith) (omega arith) (omega arith)
      ∙ ap (λ k. at (at (at (next_in c) q (next_in c i)) i (next_in c 320)) 320 k) (sym same)
      ∙ ap (λ k. at (at (at (next_in c) q (next_in c k)) k (next_in c 320)) 320 k) (sym is_i)

  blocks' : block_at ns' ≡ bl'
  blocks' = ap block_at is' ∙ blocks_set (nodes_of c) i (record { block = keep; content = Free }) in_nodes' ∙ ap (λ k. at (block_in c) k 0) (sym is_i)

  flags' : is_linked ns' ≡ at (is_linked (nodes_of c)) i false
  flags' = ap is_linked is' ∙ linked_set (nodes_of c) i (record { block = keep; content = Free }) in_nodes'

  homes' : home_at ns' ≡ hm'
  homes' = ap home_at is' ∙ homes_set (nodes_of c) i (record { block = keep; content = Free }) in_nodes' ∙ ap (λ k. at (home_in c) k 64) (sym is_i)

  pub unlinked_sound : Sound ls' ns'
  unlinked_sound = subst (λ n. Holds n (home_at ns')) (sym links') (subst (Holds nx') (sym homes')
      (cut_sound (next_in c) (home_in c) (block_in c) c.sound c.single c.kept (home_most c) q (bucket_of k₀) live place follows))

  pub unlinked_single : Single ls' ns'
  unlinked_single = subst (λ n. NoTwice n (block_at ns')) (sym links') (subst (NoTwice nx') (sym blocks')
      (cut_single (next_in c) (home_in c) (block_in c) c.sound c.single c.kept (home_most c) q (bucket_of k₀) live place follows))

  pub unlinked_kept : Kept ls' ns'
  unlinked_kept = subst (λ n. NoneLost n (home_at ns')) (sym links') (subst (NoneLost nx') (sym homes')
      (cut_kept (next_in c) (home_in c) (block_in c) c.sound c.single c.kept (home_most c) q (bucket_of k₀) live place follows))

  -- the node is that of the block, and linked
  at_q : node_of c k₀ ≡ i
  at_q = leads.found.node ∙ sym same

  own : (is_linked (nodes_of c) i ≡ true) × (block_in c j ≡ k₀)
  own = let e = at_q in let (t, d) = node_of_block c k₀ (omega arith) in (ap (is_linked (nodes_of c)) (sym e) ∙ t, ap (block_in c) (is_i ∙ sym e) ∙ d)

  node_gone : node_for (link_at ls') (block_at ns') k₀ ≡ 256
  node_gone = ap₂ (λ n m. node_for n m k₀) links' blocks' ∙ ap (node_for nx' bl') (sym own.1)
      ∙ cut_gone (next_in c) (home_in c) (block_in c) c.sound c.single c.kept (home_most c) q (bucket_of k₀) live place follows (ap bucket_of own.1)

  node_kept : (b : ℕ) → (b ≡ k₀ → ⊥) → node_for (link_at ls') (block_at ns') b ≡ node_of c b
  node_kept b ne = ap₂ (λ n m. node_for n m b) links' blocks'
      ∙ cut_others (next_in c) (home_in c) (block_in c) c.sound c.single c.kept (home_most c) q (bucket_of k₀) live place follows b (λ e. ne (e ∙ own.1))

  pub unlinked_counted : c.count ≡ how_many (is_linked ns') 256 + 1
  unlinked_counted =
      let e = c.counted in
      let m = many_at (is_linked (nodes_of c)) i false 256 (omega arith) in
      let f = ap one own.0 in
      let g = ap (λ t. how_many t 256) flags' in
      omega arith

  pub unlinked_held : c.count ≡ how_many (is_held ls' ns') (2 ^ 48) + 1
  unlinked_held =
      let e = c.held in
      let m = many_at (is_held c.links (nodes_of c)) k₀ false (2 ^ 48) block.within in
      let f = ap one (lt-ltb (node_of c k₀) 256 (let a = at_q in omega arith)) in
      let g = ap (λ t. how_many t (2 ^ 48)) (fun_ext holds) in
      omega arith
    where
      holds : (b : ℕ) → is_held ls' ns' b ≡ at (is_held c.links (nodes_of c)) k₀ false b
      holds b = ⊎_elim
          (λ e. ap (λ x. ltb x 256) (ap (node_for (link_at ls') (block_at ns')) e ∙ node_gone) ∙ sym (at_here (is_held c.links (nodes_of c)) k₀ false b e))
          (λ ne. ap (λ x. ltb x 256) (node_kept b ne) ∙ sym (at_there (is_held c.links (nodes_of c)) k₀ false b ne))
          (cases_eq b k₀)

  pub unlinked_puts : (λ b. bodies ns' (node_for (link_at ls') (block_at ns') b)) ≡ at (body_of c) k₀ None
  unlinked_puts = fun_ext (λ b. ⊎_elim
      (λ e. ap (bodies ns') (ap (node_for (link_at ls') (block_at ns')) e ∙ node_gone)
      ∙ ap (option_and_then body_in) (slice_get_past ns' 256 (let k = ap length is' in let l = length-set (nodes_of c) i (record { block = keep; content = Free }) in let e = c.wide in omega arith)) ∙ sym (at_here (body_of c) k₀ None b e))
      (λ ne. ap (bodies ns') (node_kept b ne)
      ∙ ap (λ z. bodies z (node_of c b)) is' ∙ apart c i (record { block = keep; content = Free }) (omega arith) b (λ e. ne (sym (node_of_block c b (omega arith)).1 ∙ ap (block_in c) (e ∙ sym is_i) ∙ own.1))
      ∙ sym (at_there (body_of c) k₀ None b ne))
      (cases_eq b k₀))

  -- the node is taken out of its chain, and every other chain is as it was
  chain_after' : (k : ℕ) → k < 64 → chain_from (link_at ls') k ≡ at (chain_from (next_in c)) (bucket_of k₀) (cut (node_of c k₀) (chain_from (next_in c) (bucket_of k₀))) k
  chain_after' k l = ap (λ f. chain_from f k) links' ∙ ⊎_elim
      (λ e. ap (chain_from nx') e ∙ chain_b (next_in c) (home_in c) (block_in c) c.sound c.single c.kept (home_most c) q (bucket_of k₀) live place follows
      ∙ ap (λ x. cut x (chain_from (next_in c) (bucket_of k₀))) (is_i ∙ sym at_q) ∙ sym (at_here (chain_from (next_in c)) (bucket_of k₀) _ k e))
      (λ ne. chain_k (next_in c) (home_in c) (block_in c) c.sound c.single c.kept (home_most c) q (bucket_of k₀) live place follows k l ne ∙ sym (at_there (chain_from (next_in c)) (bucket_of k₀) _ k ne))
      (cases_eq k (bucket_of k₀))

  longer' : length ls' ≡ 321
  longer' = let a = length-set c.links w.place (get_or c.links i None) in
      let b = length-set (set c.links w.place (get_or c.links i None)) i (get_or c.links 320 None) in
      let d = length-set (set (set c.links w.place (get_or c.links i None)) i (get_or c.links 320 None)) 320 (Some w.found.node) in
      omega arith

  same_block' : (y : ℕ) → (y ≡ i → ⊥) → block_at ns' y ≡ block_in c y
  same_block' y ne = ap (λ f. f y) blocks' ∙ at_there (block_in c) (next_in c q) 0 y (λ e. ne (e ∙ is_i))

  own_block' : block_in c (node_of c k₀) ≡ k₀
  own_block' = let e = at_q in (node_of_block c k₀ (omega arith)).1

  abbrev chain_now' : ℕ → List ℕ
  chain_now' = at (chain_from (next_in c)) (bucket_of k₀) (cut (node_of c k₀) (chain_from (next_in c) (bucket_of k₀)))

  -- the block is cut out of its bucket
  pub unlinked_order : order_in ls' ns' ≡ cut_out (order c) k₀
  unlinked_order = fun_ext (λ k. ⊎_elim
      (λ l. bucket_order ls' ns' unlinked_sound k l ∙ ap (map (block_at ns')) (chain_after' k l) ∙ ⊎_elim (λ e. here k l e) (λ ne. there k l ne) (cases_eq k (bucket_of k₀)))
      (λ g. none_past ls' ns' unlinked_sound longer' k g ∙ sym (at_there (order c) (bucket_of k₀) _ k (λ e. omega arith) ∙ none_past c.links (nodes_of c) c.sound wl k g))
      (cases_lt k 64))
    where
      here : (k : ℕ) → k < 64 → k ≡ bucket_of k₀ → map (block_at ns') (chain_now' k) ≡ cut_out (order c) k₀ k
      here k l e = ap (map (block_at ns')) (at_here (chain_from (next_in c)) (bucket_of k₀) _ k e)
          ∙ cut_blocks (next_in c) (home_in c) (block_in c) (block_at ns') (bucket_of k₀) (node_of c k₀) (λ y ne. same_block' y (λ z. ne (z ∙ sym at_q)))
          _ (chain_from (next_in c) (bucket_of k₀)) (chain c (bucket_of k₀) (omega arith)) (c.single (bucket_of k₀) live)
          (node_on (block_in c) k₀ (chain_from (next_in c) (bucket_of k₀)) (let z = at_q in omega arith)).0
          ∙ ap₂ cut own_block' (sym (bucket_order c.links (nodes_of c) c.sound (bucket_of k₀) live))
          ∙ sym (at_here (order c) (bucket_of k₀) _ k e)

      there : (k : ℕ) → k < 64 → (k ≡ bucket_of k₀ → ⊥) → map (block_at ns') (chain_now' k) ≡ cut_out (order c) k₀ k
      there k l ne = ap (map (block_at ns')) (at_there (chain_from (next_in c)) (bucket_of k₀) _ k ne)
          ∙ map_framed (block_in c) (block_at ns') i same_block' (chain_from (next_in c) k)
          (away (next_in c) (home_in c) k i (next_in c (256 + k)) (chain_from (next_in c) k) (chain c k (omega arith)) (λ e. ne (sym e ∙ home_of_flag c i own.0 ∙ ap bucket_of (ap (block_in c) (sym is_i) ∙ own.1))))
          ∙ sym (bucket_order c.links (nodes_of c) c.sound k l) ∙ sym (at_there (order c) (bucket_of k₀) _ k ne)
