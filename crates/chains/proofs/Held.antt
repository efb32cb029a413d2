-- What is held of a block, by its node.
use Rattle.std.proofs.Common.{◌^◌, option_and_then, Option, ◌≡◌, ℕ, zero, suc, ◌+◌, ◌<◌, ◌≤◌, true, false, eqb, ltb, ◌≢◌, List, [], ◌∷◌, length, drop, get_or, set, is_some, Some, None, sym, refl, ap, ◌∙◌, subst, ⊎_elim, arith}
use mathlib.Core.Path.{fun_ext}
use Rattle.std.proofs.lemmas.List.{get_or-set_same, get_or-set_other}
use Rattle.std.proofs.lemmas.Option.{slice_get_past, slice_get-get_or}
use Rattle.std.proofs.lemmas.Bool.{cases_eq, cases_lt, cases_Bool, both_ways, eq-eqb, eqb-true, lt-ltb, le-ltb, and_parts, or_cases, or_left, or_right, cond-true, cond-false}
use Rattle.std.specs.List.{slice_get}
use Rattle.words.specs.Layout.{bucket_of}
use Rattle.words.specs.Points.{at}
use Rattle.chains.specs.declared.chains.Chains.{Chains}
use Rattle.chains.specs.Chains.{nodes_of, node_of, body_of, block_of_node, Finds}
use Rattle.chains.specs.Links.{walk, node_with, no_twice, on}
use Rattle.std.specs.Option.{option_map}
use Rattle.words.specs.declared.address.Block.{Block}
use Rattle.chains.specs.Contents.{Node, body_in, owner_in}
use Rattle.chains.specs.Counting.{how_many}
use Rattle.chains.specs.Blocks.{block_number}
use Rattle.chains.specs.declared.node.Body.{Body}
use Rattle.chains.specs.declared.node.Found.{Found}
use Rattle.chains.specs.Nodes.{link_number, link_at, owner, is_linked, block_at, home_at, chain_from}
use Rattle.chains.proofs.Linking.{at_here, at_there, at_home}
use Rattle.chains.proofs.Steps.{Going, step, falls, passed, here, nowhere}
use Rattle.chains.proofs.Walks.{Chained, opened, node_here, node_past}

-- the functions of a pool of chains
abbrev pub next_in : Chains → ℕ → ℕ
next_in c = link_at c.links

abbrev pub home_in : Chains → ℕ → ℕ
home_in c = home_at (nodes_of c)

abbrev pub block_in : Chains → ℕ → ℕ
block_in c = block_at (nodes_of c)

pub home_most : (c : Chains) (i : ℕ) → home_in c i ≤ 64
home_most c i = ⊎_elim
    (λ t. let e = cond-true (is_linked (nodes_of c) i) (bucket_of (block_in c i)) 64 t in omega arith)
    (λ f. let e = cond-false (is_linked (nodes_of c) i) (bucket_of (block_in c i)) 64 f in omega arith)
    (cases_Bool (is_linked (nodes_of c) i))

-- a node on the chain of a bucket is linked
pub flag_of_home : (c : Chains) (i : ℕ) → home_in c i < 64 → (is_linked (nodes_of c) i ≡ true) × (home_in c i ≡ bucket_of (block_in c i))
flag_of_home c i l = ⊎_elim
    (λ t. (t, cond-true (is_linked (nodes_of c) i) (bucket_of (block_in c i)) 64 t))
    (λ f. let e = cond-false (is_linked (nodes_of c) i) (bucket_of (block_in c i)) 64 f in absurd (omega arith))
    (cases_Bool (is_linked (nodes_of c) i))

pub home_of_flag : (c : Chains) (i : ℕ) → is_linked (nodes_of c) i ≡ true → home_in c i ≡ bucket_of (block_in c i)
home_of_flag c i t = cond-true (is_linked (nodes_of c) i) (bucket_of (block_in c i)) 64 t

pub no_flag_of_home : (c : Chains) (i : ℕ) → home_in c i ≡ 64 → is_linked (nodes_of c) i ≡ false
no_flag_of_home c i e = ⊎_elim
    (λ t. let d = home_of_flag c i t in absurd (omega arith))
    (λ f. f)
    (cases_Bool (is_linked (nodes_of c) i))

-- the node that is found is on the chain, and has the block
pub node_on : (bl : ℕ → ℕ) (b : ℕ) (l : List ℕ) → node_with bl b l < 256 → (on (node_with bl b l) l ≡ true) × (bl (node_with bl b l) ≡ b)
unfolding node_with on
node_on bl b [] h = absurd (omega arith)
node_on bl b (x ∷ l) h = ⊎_elim
    (λ e. let d = node_here bl b x l e in
    (subst (λ z. on z (x ∷ l) ≡ true) (sym d) (or_left _ _ (eq-eqb x x refl)), ap bl d ∙ e))
    (λ ne. let d = node_past bl b x l ne in
    let (o, e) = node_on bl b l (omega arith) in
    (subst (λ z. on z (x ∷ l) ≡ true) (sym d) (or_right _ _ o), ap bl d ∙ e))
    (cases_eq (bl x) b)

pub on_under : (nx hm : ℕ → ℕ) (k i : ℕ) (l : List ℕ) (j : ℕ) → Chained nx hm k i l → on j l ≡ true → j < 256
unfolding on
on_under nx hm k i [] j h o = absurd (both_ways false refl o)
on_under nx hm k i (x ∷ l) j (e, lt, hb, r) o = ⊎_elim (λ t. let d = eqb-true x j t in omega arith) (λ t. on_under nx hm k (nx x) l j r t) (or_cases _ _ o)

node_most : (nx hm bl : ℕ → ℕ) (k b i : ℕ) (l : List ℕ) → Chained nx hm k i l → node_with bl b l ≤ 256
unfolding node_with
node_most nx hm bl k b i [] h = omega arith
node_most nx hm bl k b i (x ∷ l) (e, lt, hb, r) = ⊎_elim
    (λ e. let d = node_here bl b x l e in omega arith)
    (λ ne. let d = node_past bl b x l ne in let m = node_most nx hm bl k b (nx x) l r in omega arith)
    (cases_eq (bl x) b)

-- a node of a chain without a block twice is the one that is found for its block
pub node_own : (nx hm bl : ℕ → ℕ) (k i : ℕ) (l : List ℕ) (j : ℕ) → Chained nx hm k i l → no_twice bl l ≡ true → on j l ≡ true → node_with bl (bl j) l ≡ j
unfolding no_twice on
node_own nx hm bl k i [] j h s o = absurd (both_ways false refl o)
node_own nx hm bl k i (x ∷ l) j (e, lt, hb, r) s o = ⊎_elim
    (λ t. let d = eqb-true x j t in node_here bl (bl j) x l (ap bl d) ∙ d)
    (λ t. let p = and_parts (eqb (node_with bl (bl x) l) 256) (no_twice bl l) s in
    let own : node_with bl (bl j) l ≡ j = node_own nx hm bl k (nx x) l j r p.1 t in
    ⊎_elim
    (λ q. let z : node_with bl (bl x) l ≡ 256 = eqb-true (node_with bl (bl x) l) 256 p.0 in
    let y : node_with bl (bl x) l ≡ node_with bl (bl j) l = ap (λ v. node_with bl v l) q in
    let under = on_under nx hm k (nx x) l j r t in
    absurd (omega arith))
    (λ ne. node_past bl (bl j) x l ne ∙ own)
    (cases_eq (bl x) (bl j)))
    (or_cases _ _ o)

-- a node that has a block has a body
pub has_body : (o : Option Node) → is_some (option_and_then body_in o) ≡ is_some (option_and_then owner_in o)
has_body None = refl
has_body (Some n) = each (body_in n)
  where
    each : (o : Option Body) → is_some o ≡ is_some (option_map (λ (_ : Body). n.block) o)
    each (Some y) = refl
    each None = refl

pub owner_of : (n : Node) → is_some (body_in n) ≡ true → owner_in n ≡ Some n.block
owner_of n = each (body_in n)
  where
    each : (o : Option Body) → is_some o ≡ true → option_map (λ (_ : Body). n.block) o ≡ Some n.block
    each (Some y) t = refl
    each None t = absurd (both_ways false refl t)

module _ (c : Chains) where
  pub chain : (b : ℕ) → b < 65 → Chained (next_in c) (home_in c) b (next_in c (256 + b)) (chain_from (next_in c) b)
  chain b lt = opened (next_in c) (home_in c) b (next_in c (256 + b)) (chain_from (next_in c) b) (c.sound b lt)

  pub node_of_most : (b : ℕ) → node_of c b ≤ 256
  node_of_most b = node_most (next_in c) (home_in c) (block_in c) (bucket_of b) b _ (chain_from (next_in c) (bucket_of b)) (chain (bucket_of b) (omega arith))

  -- the node of a block is linked, and has that block
  pub node_of_block : (b : ℕ) → node_of c b < 256 → (is_linked (nodes_of c) (node_of c b) ≡ true) × (block_in c (node_of c b) ≡ b)
  node_of_block b l =
      let (o, e) = node_on (block_in c) b (chain_from (next_in c) (bucket_of b)) l in
      let h = at_home (next_in c) (home_in c) (bucket_of b) (node_of c b) _ (chain_from (next_in c) (bucket_of b)) (chain (bucket_of b) (omega arith)) o in
      ((flag_of_home c (node_of c b) (omega arith)).0, e)

  -- a node that is linked is the node of its block
  pub block_of_linked : (i : ℕ) → i < 256 → is_linked (nodes_of c) i ≡ true → node_of c (block_in c i) ≡ i
  block_of_linked i l t =
      node_own (next_in c) (home_in c) (block_in c) (bucket_of (block_in c i)) _ (chain_from (next_in c) (bucket_of (block_in c i))) i
      (chain (bucket_of (block_in c i)) (omega arith)) (c.single (bucket_of (block_in c i)) (omega arith))
      (subst (λ k. on i (chain_from (next_in c) k) ≡ true) (home_of_flag c i t) (c.kept i l))

  -- a body for each block with a node, and no other
  pub no_body : (b : ℕ) → node_of c b ≡ 256 → body_of c b ≡ None
  no_body b e = ap (option_and_then body_in) (slice_get_past (nodes_of c) (node_of c b) (let w = c.wide in omega arith))

  pub no_node : (b : ℕ) → body_of c b ≡ None → node_of c b ≡ 256
  no_node b e = ⊎_elim
      (λ l. absurd (both_ways _ (ap is_some e) (has_body (slice_get (nodes_of c) (node_of c b)) ∙ (node_of_block b l).0)))
      (λ g. let m = node_of_most b in omega arith)
      (cases_lt (node_of c b) 256)

  pub held_some : (b : ℕ) → is_some (body_of c b) ≡ ltb (node_of c b) 256
  held_some b = ⊎_elim
      (λ l. has_body (slice_get (nodes_of c) (node_of c b)) ∙ (node_of_block b l).0 ∙ sym (lt-ltb _ 256 l))
      (λ g. ap (λ o. is_some (option_and_then body_in o)) (slice_get_past (nodes_of c) (node_of c b) (let w = c.wide in omega arith)) ∙ sym (le-ltb _ 256 g))
      (cases_lt (node_of c b) 256)

-- a function of a changed function
pub at_map : {X Y : Type 0} (g : X → Y) (f : ℕ → X) (p : ℕ) (x : X) → (λ k. g (at f p x k)) ≡ at (λ k. g (f k)) p (g x)
at_map g f p x = fun_ext (λ k. ⊎_elim
    (λ e. ap g (at_here f p x k e) ∙ sym (at_here (λ k. g (f k)) p (g x) k e))
    (λ ne. ap g (at_there f p x k ne) ∙ sym (at_there (λ k. g (f k)) p (g x) k ne))
    (cases_eq k p))

-- a function that had the value already
pub at_same : {X : Type 0} (f : ℕ → X) (p : ℕ) (x : X) → f p ≡ x → at f p x ≡ f
at_same f p x same = fun_ext (λ k. ⊎_elim
    (λ e. at_here f p x k e ∙ sym same ∙ ap f (sym e))
    (λ ne. at_there f p x k ne)
    (cases_eq k p))

-- a link that is written
pub link_set : (ls : List (Option ℕ)) (i : ℕ) (v : Option ℕ) → i < length ls → link_at (set ls i v) ≡ at (link_at ls) i (link_number v)
link_set ls i v l = fun_ext (λ k. ⊎_elim
    (λ e. ap (link_at (set ls i v)) e ∙ ap link_number (get_or-set_same ls i v None l) ∙ sym (at_here (link_at ls) i (link_number v) k e))
    (λ ne. let n : k ≢ i = ne in ap link_number (get_or-set_other ls i k v None n) ∙ sym (at_there (link_at ls) i (link_number v) k ne))
    (cases_eq k i))

pub nth_at : {X : Type 0} (xs : List X) (i : ℕ) (v : X) → i < length xs → slice_get (set xs i v) ≡ at (slice_get xs) i (Some v)
nth_at {X = X} xs i v l = fun_ext (λ k. ⊎_elim
    (λ e. ap (slice_get (set xs i v)) e ∙ same xs i l ∙ sym (at_here (slice_get xs) i (Some v) k e))
    (λ ne. other xs i k ne ∙ sym (at_there (slice_get xs) i (Some v) k ne))
    (cases_eq k i))
  where
    same : (xs : List X) (i : ℕ) → i < length xs → slice_get (set xs i v) i ≡ Some v
    same [] i l = absurd (omega arith)
    same (x ∷ xs) zero l = refl
    same (x ∷ xs) (suc i) l = same xs i (omega arith)

    other : (xs : List X) (i k : ℕ) → (k ≡ i → ⊥) → slice_get (set xs i v) k ≡ slice_get xs k
    other [] i k ne = refl
    other (x ∷ xs) zero zero ne = absurd (ne refl)
    other (x ∷ xs) zero (suc k) ne = refl
    other (x ∷ xs) (suc i) zero ne = refl
    other (x ∷ xs) (suc i) (suc k) ne = other xs i k (λ e. ne (ap suc e))

-- a node that is written
pub owner_set : (ns : List Node) (i : ℕ) (n : Node) → i < length ns → owner (set ns i n) ≡ at (owner ns) i (owner_in n)
owner_set ns i n l = ap (λ f k. option_and_then owner_in (f k)) (nth_at ns i n l) ∙ at_map (option_and_then owner_in) (slice_get ns) i (Some n)

-- the block of a linked node
pub owned : (o : Option Block) → is_some o ≡ true → option_map (λ (k : Block). k.number) o ≡ Some (block_number o)
owned (Some k) t = refl
owned None t = absurd (both_ways false refl t)

pub unowned : (o : Option Block) → is_some o ≡ false → option_map (λ (k : Block). k.number) o ≡ None
unowned (Some k) f = absurd (both_ways true f refl)
unowned None f = refl

-- the element after k others
dropped : (l : List ℕ) (k x : ℕ) (m : List ℕ) → drop k l ≡ x ∷ m → (k < length l) × (slice_get l k ≡ Some x) × (drop (k + 1) l ≡ m)
dropped [] zero x m e = cc
dropped [] (suc k) x m e = cc
dropped (y ∷ l) zero x m e = (omega arith, cc, cc)
dropped (y ∷ l) (suc k) x m e =
    let (less, own, rest) = dropped l k x m e in
    let more : suc k + 1 ≡ suc (k + 1) = omega arith in
    (omega arith, own, ap (λ j. drop j (y ∷ l)) more ∙ rest)

-- a search for the block b that has come to i, which is a node or an end of its chain
pub record Search (c : Chains) (b i : ℕ) : Type 0 where
  pub going : Going (next_in c) (home_in c) (bucket_of b) i
  pub same : node_with (block_in c) b (walk (next_in c) 256 i) ≡ node_of c b

module _ (c : Chains) (b : ℕ) where
  pub start : (h : ℕ) → h ≡ bucket_of b → Search c b (next_in c (256 + h))
  start h e = subst (λ k. Search c b (next_in c (256 + k))) (sym e) (record { going = c.sound (bucket_of b) (omega arith); same = refl })

  pub at_it : (i : ℕ) → Search c b i → i < 256 → block_in c i ≡ b → node_of c b ≡ i
  at_it i s l e = sym s.same ∙ here (next_in c) (home_in c) (bucket_of b) i s.going (block_in c) b l e

  pub goes_on : (i : ℕ) → Search c b i → i < 256 → (block_in c i ≡ b → ⊥) → Search c b (next_in c i)
  goes_on i s l ne = record {
    going = (step (next_in c) (home_in c) (bucket_of b) i s.going l).3;
    same = passed (next_in c) (home_in c) (bucket_of b) i s.going (block_in c) b l ne ∙ s.same;
  }

  pub home : (i : ℕ) → Search c b i → i < 256 → home_in c i ≡ bucket_of b
  home i s l = (step (next_in c) (home_in c) (bucket_of b) i s.going l).4

  -- the block of a node of the chain
  own_block : (i : ℕ) (d : Node) → Search c b i → i < 256 → block_in c i ≡ (get_or (nodes_of c) i d).block.number
  own_block i d s l =
      let w = c.wide in
      let own = ap (option_and_then owner_in) (slice_get-get_or (nodes_of c) i d (omega arith)) in
      let h = home i s l in
      ap block_number own ∙ each (body_in (get_or (nodes_of c) i d)) (sym (ap is_some own) ∙ (flag_of_home c i (omega arith)).0)
    where
      each : (o : Option Body) → is_some (option_map (λ (_ : Body). (get_or (nodes_of c) i d).block) o) ≡ true → block_number (option_map (λ (_ : Body). (get_or (nodes_of c) i d).block) o) ≡ (get_or (nodes_of c) i d).block.number
      each (Some y) t = refl
      each None t = absurd (both_ways false refl t)

  -- the node is compared with the block
  pub is_it : (i : ℕ) (d : Node) → Search c b i → i < 256 → eqb (get_or (nodes_of c) i d).block.number b ≡ true → block_in c i ≡ b
  is_it i d s l t = own_block i d s l ∙ eqb-true (get_or (nodes_of c) i d).block.number b t

  pub goes_past : (i : ℕ) (d : Node) → Search c b i → i < 256 → eqb (get_or (nodes_of c) i d).block.number b ≡ false → Search c b (next_in c i)
  goes_past i d s l f = goes_on i s l (λ e. both_ways _ f (eq-eqb (get_or (nodes_of c) i d).block.number b (sym (own_block i d s l) ∙ e)))

  pub ends : (i : ℕ) → Search c b i → 256 ≤ i → body_of c b ≡ None
  ends i s l = no_body c b (sym s.same ∙ nowhere (next_in c) (home_in c) (bucket_of b) i s.going (block_in c) b l)

  pub shorter : (i : ℕ) → Search c b i → i < 256 → length (walk (next_in c) 256 i) ≡ length (walk (next_in c) 256 (next_in c i)) + 1
  shorter i s l = falls (next_in c) (home_in c) (bucket_of b) i s.going l

  -- the node i comes after k nodes of the chain
  pub after : (k i : ℕ) → Search c b i → i < 256 → drop k (chain_from (next_in c) (bucket_of b)) ≡ walk (next_in c) 256 i
      → (k < length (chain_from (next_in c) (bucket_of b))) × (slice_get (chain_from (next_in c) (bucket_of b)) k ≡ Some i) × (drop (k + 1) (chain_from (next_in c) (bucket_of b)) ≡ walk (next_in c) 256 (next_in c i))
  after k i s l e =
      let p = step (next_in c) (home_in c) (bucket_of b) i s.going l in
      let (less, own, rest) = dropped (chain_from (next_in c) (bucket_of b)) k i p.0 (e ∙ p.1) in
      (less, own, rest ∙ sym p.2)

-- a linked node's block
pub linked_block : (c : Chains) (b i : ℕ) → Search c b i → i < 256 → block_in c i ≡ b → block_of_node c i ≡ Some b
linked_block c b i s l e =
    let h = home c b i s l in
    each (owner (nodes_of c) i) (flag_of_home c i (omega arith)).0 e
  where
    each : (o : Option Block) → is_some o ≡ true → block_number o ≡ b → option_map (λ k. k.number) o ≡ Some b
    each (Some k) t d = ap Some d
    each None t d = absurd (both_ways false refl t)

-- a node that has a block is one of the 256
pub linked_small : (c : Chains) (i b : ℕ) → block_of_node c i ≡ Some b → i < 256
linked_small c i b e = ⊎_elim
    (λ l. l)
    (λ g. let w = c.wide in
    let none : block_of_node c i ≡ None = ap (λ o. option_map (λ (k : Block). k.number) (option_and_then owner_in o)) (slice_get_past (nodes_of c) i (omega arith)) in
    absurd (both_ways _ (ap is_some none) (ap is_some e)))
    (cases_lt i 256)

-- the counter says how many blocks have a node
pub count_all : (c : Chains) → c.count ≡ how_many (λ b. is_some (body_of c b)) (2 ^ 48)
count_all c = c.held ∙ ap (λ f. how_many f (2 ^ 48)) (fun_ext (λ b. sym (held_some c b)))

-- a block whose node was found has a body
pub found_held : (c : Chains) (b : ℕ) (f : Found) → Finds c b f → f.node < 256 → body_of c b ≡ None → ⊥
found_held c b f e l n = let d = e.node in let m = no_node c b n in omega arith
