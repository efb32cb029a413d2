-- What a change of one page asks for, and when there is room for it.
use Rattle.std.proofs.Common.{Result, Ok, Err, MatchResult, ◌≡◌, ℕ, ◌+◌, ◌^◌, ◌<◌, ◌≤◌, ◌∷◌, true, false, eqb, ltb, List, [], length, Some, None, Option, is_some, sym, refl, ap, ◌∙◌, subst, ⊎_elim, arith}
use Rattle.std.specs.Result.{IsOk}
use Rattle.std.proofs.lemmas.Bool.{cases_eq, cases_Bool, both_ways, lt-ltb}
use Rattle.words.specs.declared.compact.CompactWord.{CompactWord}
use Rattle.words.specs.declared.translation.Translation.{Translation}
use Rattle.words.specs.Layout.{block_of, offset_of, page_at, frame_block_in, attributes_in}
use Rattle.words.specs.Blocks.{Mapping, Used, Compact}
use Rattle.words.specs.Points.{at}
use Rattle.chains.specs.declared.chains.Chains.{Chains}
use Rattle.chains.specs.declared.node.Body.{Body}
use Rattle.chains.specs.declared.node.Body.TheVariants as body
use Rattle.chains.specs.declared.node.RowNumber.{RowNumber}
use Rattle.chains.specs.Chains.{body_of}
use Rattle.chains.specs.Counting.{how_many}
use Rattle.chains.proofs.Buckets.{held_most}
use Rattle.chains.proofs.Counts.{one}
use Rattle.chains.proofs.Linking.{at_here, at_there}
use Rattle.blocks.specs.declared.blocks.Blocks.{Blocks}
use Rattle.blocks.specs.declared.fault.NoRoom.{NoRoom}
use Rattle.blocks.specs.declared.fault.NoRoom.TheVariants.{NoNode, NoRow}
use Rattle.blocks.specs.declared.row.Row.{Row}
use Rattle.blocks.specs.declared.rows.Rows.{Rows}
use Rattle.blocks.specs.declared.shape.Shape.TheVariants.{Mixed}
use Rattle.words.specs.Refusals.{First, Accepted}
use Rattle.blocks.specs.Faults.{room_number}
use Rattle.blocks.specs.Blocks.{held, Rowed, UsedBlocks, RowedBlocks, NodesOut, RowsOut, set_refusals}
use Rattle.blocks.specs.Held.{row_in, is_narrow, has_row, owners, body_pages, block_pages, held_in}
use Rattle.blocks.specs.Rows.{row_pages, occurs}
use Rattle.blocks.specs.Shapes.{Pages, InPlace, Shapes}
use Rattle.blocks.proofs.Counted.{exactly_one, tested}
use Rattle.blocks.proofs.Pages.{in_block, SomePage, mixed_some, held_at, unused, rowed, not_rowed, used_body, word_in_place, exactly_used, exactly_rowed}
use Rattle.blocks.proofs.Steps.{held_after, lent_after, taken_after, narrow_after, mixed_after}

-- the page p of m is mapped to x in n, where there was room for it
abbrev pub Sets : Mapping → ℕ → Option Translation → Mapping → Type 0
Sets m p x n = Accepted (set_refusals m p x) × (n ≡ at m p x)

-- there was no room for it
abbrev pub Refuses : NoRoom → Mapping → ℕ → Option Translation → Type 0
Refuses e m p x = First (set_refusals m p x) (room_number e)

-- no node was wanting, or no row
abbrev Lacks : NoRoom → Mapping → Mapping → ℕ → Type 0
Lacks e m n b = First ((NodesOut m n b, 7) ∷ (RowsOut m n b, 8) ∷ []) (room_number e)

module _ (s : Blocks) (b o : ℕ) (x : Option Translation) (m : o < 16) where
  abbrev pub grown : Mapping
  grown = at (held s) (page_at b o) x

  -- the pages of the block then
  abbrev pub next : Pages
  next = at (block_pages s.chains s.rows.rows b) o x

  pub grown_at : (k : ℕ) → k < 16 → grown (page_at b k) ≡ next k
  grown_at k l = ⊎_elim
      (λ e. at_here (held s) (page_at b o) x (page_at b k) (ap (page_at b) e) ∙ sym (at_here (block_pages s.chains s.rows.rows b) o x k e))
      (λ ne. at_there (held s) (page_at b o) x (page_at b k) (λ q. ne (sym (in_block b k l).1 ∙ ap offset_of q ∙ (in_block b o m).1)) ∙ held_at s b k l
      ∙ sym (at_there (block_pages s.chains s.rows.rows b) o x k ne))
      (cases_eq k o)

  pub used_next : SomePage next → Used grown b
  used_next (k, l, t, e) = (k, l, (t, grown_at k l ∙ e))

  rowed_next : Shapes Mixed next → Rowed grown b
  rowed_next h = (used_next (mixed_some next h), λ c. let (k, a, p) = c in h k a (λ i t l e. p i t l (grown_at i l ∙ e)))

  -- the block has its first page, and there is no node for it
  pub lacks_node : body_of s.chains b ≡ None → SomePage next → how_many (λ d. is_some (body_of s.chains d)) (2 ^ 48) ≡ 256 → Refuses NoNode (held s) (page_at b o) x
  lacks_node none some e = subst (NodesOut (held s) grown) (sym (in_block b o m).0) (used_next some, unused s b none, subst (UsedBlocks (held s)) e (exactly_used s))

  -- the block needs a row, and there is none for it
  pub lacks_row : has_row s.chains b ≡ false → Shapes Mixed next → s.rows.spare.items ≡ [] → (body_of s.chains b ≡ None → how_many (λ d. is_some (body_of s.chains d)) (2 ^ 48) ≡ 256 → ⊥) → Refuses NoRow (held s) (page_at b o) x
  lacks_row f h none node = subst (Lacks NoRow (held s) grown) (sym (in_block b o m).0) (
    (λ q. let (u, nu, n) = q in each (body_of s.chains b) refl nu n),
    (rowed_next h, not_rowed s b f, subst (RowedBlocks (held s)) (let t = s.taken in let z = ap length none in let e : how_many (has_row s.chains) (2 ^ 48) ≡ 128 = omega arith in e) (exactly_rowed s)),
  )
    where
      each : (y : Option Body) → body_of s.chains b ≡ y → (Used (held s) b → ⊥) → UsedBlocks (held s) 256 → ⊥
      each None e nu n = node e (exactly_one _ 256 (2 ^ 48) (Used (held s)) (exactly_used s) n)
      each (Some y) e nu n = nu (used_body s b (ap is_some e))

  -- the block has the body y then
  module _ (c : Chains) (rs : List Row) (y : Option Body) (l : b < 2 ^ 48) (puts : body_of c ≡ at (body_of s.chains) b y)
      (here : (k : ℕ) → k < 16 → body_pages (row_pages rs) y k ≡ next k)
      (left : ltb (row_in y) 128 ≡ true → has_row s.chains b ≡ false → 1 ≤ length s.rows.spare.items) where
    no_pages : y ≡ None → Used grown b → ⊥
    no_pages e (k, i, (t, q)) = both_ways _ (sym (ap is_some q) ∙ ap is_some (grown_at k i ∙ sym (here k i) ∙ ap (λ v. body_pages (row_pages rs) v k) e)) refl

    on_word : (w : CompactWord) → y ≡ Some (body.Compact w) → Rowed grown b → ⊥
    on_word w e (u, nc) = nc (frame_block_in w.bits, attributes_in w.bits, λ i t k q. word_in_place w.bits next (λ j n. sym (here j n) ∙ ap (λ v. body_pages (row_pages rs) v j) e) i t k (sym (grown_at i k) ∙ q))

    no_row : (v : Option Body) → y ≡ v → ltb (row_in v) 128 ≡ false → Rowed grown b → ⊥
    no_row None e f r = no_pages e r.0
    no_row (Some (body.Compact w)) e f r = on_word w e r
    no_row (Some (body.Row r)) e f q = both_ways _ f (lt-ltb r.number 128 r.within)

    node_left : Used grown b → (Used (held s) b → ⊥) → UsedBlocks (held s) 256 → ⊥
    node_left u nu n =
        let f = exactly_one _ 256 (2 ^ 48) (Used (held s)) (exactly_used s) n in
        let t = tested (body_of s.chains) b y is_some (2 ^ 48) l in
        let e = ap (λ g. how_many (λ d. is_some (g d)) (2 ^ 48)) puts in
        let most = held_most c in
        ⊎_elim
        (λ q. nu (used_body s b q))
        (λ q. let z = ap one q in ⊎_elim (λ v. let a = ap one v in absurd (omega arith)) (λ v. no_pages (none_is y v) u) (cases_Bool (is_some y)))
        (cases_Bool (is_some (body_of s.chains b)))
      where
        none_is : (v : Option Body) → is_some v ≡ false → v ≡ None
        none_is None f = refl
        none_is (Some z) f = absurd (both_ways _ f refl)

    row_left : Rowed grown b → (Rowed (held s) b → ⊥) → RowedBlocks (held s) 128 → ⊥
    row_left r nr n =
        let f = exactly_one _ 128 (2 ^ 48) (Rowed (held s)) (exactly_rowed s) n in
        let t = s.taken in
        ⊎_elim
        (λ q. nr (rowed s b q))
        (λ q. ⊎_elim (λ v. let a = left v q in absurd (omega arith)) (λ v. no_row y refl v r) (cases_Bool (ltb (row_in y) 128)))
        (cases_Bool (has_row s.chains b))

    pub room : Accepted (set_refusals (held s) (page_at b o) x)
    room = (
      (λ r. let (u, nu, n) = subst (NodesOut (held s) grown) (in_block b o m).0 r in node_left u nu n),
      ((λ r. let (u, nu, n) = subst (RowsOut (held s) grown) (in_block b o m).0 r in row_left u nu n), tt),
    )

-- one page of the block b was mapped to x, and its body is y now
pub record Step (s : Blocks) (c : Chains) (rs : List Row) (spare : List RowNumber) (b o : ℕ) (x : Option Translation) (y : Option Body) : Type 0 where
  pub small : b < 2 ^ 48
  pub low : o < 16
  pub puts : body_of c ≡ at (body_of s.chains) b y
  pub others : (d : ℕ) → (d ≡ b → ⊥) → body_pages (row_pages rs) (body_of s.chains d) ≡ block_pages s.chains s.rows.rows d
  pub here : (k : ℕ) → k < 16 → body_pages (row_pages rs) y k ≡ at (block_pages s.chains s.rows.rows b) o x k
  pub each : (i : ℕ) → i < 128 → occurs i spare + one (eqb (row_in y) i) ≡ occurs i s.rows.spare.items + one (eqb (row_in (body_of s.chains b)) i)
  pub all : length spare + one (ltb (row_in y) 128) ≡ length s.rows.spare.items + one (ltb (row_in (body_of s.chains b)) 128)
  pub narrow : is_narrow y ≡ true
  pub mixed : ltb (row_in y) 128 ≡ true → Shapes Mixed (at (block_pages s.chains s.rows.rows b) o x)

-- chains and rows go together
pub record Kept (c : Chains) (rs : List Row) (spare : List RowNumber) : Type 0 where
  pub lent : (i : ℕ) → i < 128 → occurs i spare + owners c i ≡ 1
  pub taken : length spare + how_many (has_row c) (2 ^ 48) ≡ 128
  pub narrow : (d : ℕ) → is_narrow (body_of c d) ≡ true
  pub mixed : (d k a : ℕ) → has_row c d ≡ true → InPlace (block_pages c rs d) k a → ⊥

pub kept_same : (s : Blocks) (c : Chains) (rows : Rows) → c ≡ s.chains → rows ≡ s.rows → Kept c rows.rows rows.spare.items
kept_same s c rows e f = subst (λ d. Kept d rows.rows rows.spare.items) (sym e) (subst (λ r. Kept s.chains r.rows r.spare.items) (sym f)
    (record { lent = s.lent; taken = s.taken; narrow = s.narrow; mixed = s.mixed }))

module _ (s : Blocks) (c : Chains) (rs : List Row) (spare : List RowNumber) (b o : ℕ) (x : Option Translation) (y : Option Body) (t : Step s c rs spare b o x y) where
  pub sets : Sets (held s) (page_at b o) x (held_in c rs)
  sets = (
    room s b o x t.low c rs y t.small t.puts t.here (λ v q. let a = t.all in let e = ap one v in let f = ap one q in omega arith),
    held_after s c rs b o x y t.small t.low t.puts t.others t.here,
  )

  pub kept : Kept c rs spare
  kept = record {
    lent = lent_after s c rs b o x y t.small t.low t.puts t.others t.here spare t.each t.all;
    taken = taken_after s c rs b o x y t.small t.low t.puts t.others t.here spare t.each t.all;
    narrow = narrow_after s c rs b o x y t.small t.low t.puts t.others t.here t.narrow;
    mixed = mixed_after s c rs b o x y t.small t.low t.puts t.others t.here (λ v k a p. t.mixed v k a (λ i u l e. p i u l (t.here i l ∙ e)));
  }

-- a page that is named by its block and offset
module _ (s t : Blocks) (b o p : ℕ) (x : Option Translation) (block : b ≡ block_of p) (offset : o ≡ offset_of p) where
  of_page : page_at b o ≡ p
  of_page = omega arith

  pub page_set : (r : Result (Unit {0}) NoRoom) → MatchResult r (λ _. Sets (held s) (page_at b o) x (held t)) (λ e. Refuses e (held s) (page_at b o) x × (t ≡ s))
      → MatchResult r (λ _. Sets (held s) p x (held t)) (λ e. Refuses e (held s) p x × (t ≡ s))
  page_set r = subst (λ q. MatchResult r (λ _. Sets (held s) q x (held t)) (λ e. Refuses e (held s) q x × (t ≡ s))) of_page

  pub page_sets : Sets (held s) (page_at b o) x (held t) → Sets (held s) p x (held t)
  page_sets = subst (λ q. Sets (held s) q x (held t)) of_page

-- a page that is unmapped needs no room
module _ (m : Mapping) (p : ℕ) where
  abbrev less : Mapping
  less = at m p None

  was_mapped : (q : ℕ) (t : Translation) → less q ≡ Some t → m q ≡ Some t
  was_mapped q t e = ⊎_elim
      (λ i. absurd (both_ways _ (ap is_some (at_here m p None q i)) (ap is_some e)))
      (λ ne. sym (at_there m p None q ne) ∙ e)
      (cases_eq q p)

  was_used : (b : ℕ) → Used less b → Used m b
  was_used b (o, l, (t, e)) = (o, l, (t, was_mapped _ t e))

  stays_compact : (b : ℕ) → Compact m b → Compact less b
  stays_compact b (k, a, h) = (k, a, λ o t l e. h o t l (was_mapped _ t e))

  always_room : (e : NoRoom) → First (set_refusals m p None) (room_number e) → ⊥
  always_room NoNode (u, nu, n) = nu (was_used (block_of p) u)
  always_room NoRow (_, ((u, nc), nr, n)) = nr (was_used (block_of p) u, λ c. nc (stays_compact (block_of p) c))

  -- so it is never refused
  pub never_refused : (P S : Type 0) (r : Result (Unit {0}) NoRoom) → MatchResult r (λ _. P) (λ e. First (set_refusals m p None) (room_number e) × S) → IsOk r
  never_refused P S (Ok x) q = refl
  never_refused P S (Err e) (r, _) = absurd (always_room e r)
