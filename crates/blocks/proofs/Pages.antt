-- What is held of a block's pages, and what that says of its body.
use Rattle.std.proofs.Common.{◌≡◌, ℕ, zero, suc, ◌+◌, ◌*◌, ◌/◌, ◌%◌, ◌^◌, ◌<◌, ◌≤◌, Bool, true, false, cond, ltb, Some, None, Option, is_some, length, subst, sym, refl, ap, ◌∙◌, ap₂, ⊎_elim, ◌⊎◌, inl, inr, arith}
use Rattle.std.proofs.lemmas.Bool.{cases_eq, cases_Bool, both_ways, and_parts, eqb-true, eqb-false, ltb-true, lt-ltb}
use Rattle.std.proofs.lemmas.Nat.{mod-pow-add}
use Rattle.words.specs.declared.compact.CompactWord.{CompactWord}
use Rattle.words.specs.declared.translation.Translation.{Translation}
use Rattle.words.specs.declared.form.Form.TheVariants as form
use Rattle.words.specs.Layout.{bit, block_of, offset_of, page_at, compact_word, offsets_in, frame_block_in, attributes_in}
use Rattle.words.specs.Reading.{translation, said}
use Rattle.words.specs.Blocks.{Mapping, Used, Placed, Compact, BlockWord, mapped_offsets}
use Rattle.chains.specs.declared.node.Body.{Body}
use Rattle.chains.specs.declared.node.Body.TheVariants as body
use Rattle.chains.specs.Chains.{body_of}
use Rattle.chains.specs.Counting.{how_many}
use Rattle.chains.proofs.Buckets.{held_most}
use Rattle.blocks.specs.declared.blocks.Blocks.{Blocks}
use Rattle.blocks.specs.declared.shape.Shape.TheVariants.{Mixed}
use Rattle.blocks.specs.Blocks.{held, Rowed, UsedBlocks, RowedBlocks}
use Rattle.blocks.specs.Held.{is_narrow, row_in, has_row, body_pages, block_pages}
use Rattle.blocks.specs.Rows.{row_pages}
use Rattle.blocks.specs.Shapes.{Pages, InPlace, Shapes}
use Rattle.blocks.proofs.Counted.{by_blocks}
use Rattle.blocks.proofs.Bits.{there, some_bit}

-- a page of a block
pub in_block : (b o : ℕ) → o < 16 → (block_of (page_at b o) ≡ b) × (offset_of (page_at b o) ≡ o)
in_block b o l = (omega arith, omega arith)

-- some page is mapped
abbrev pub SomePage : Pages → Type 0
SomePage f = (o : ℕ) × (o < 16) × (t : Translation) × (f o ≡ Some t)

-- the first n pages are none, or one of them is mapped
search_pages : (f : Pages) (n : ℕ) → ((o : ℕ) → o < n → f o ≡ None) ⊎ ((o : ℕ) × (o < n) × (t : Translation) × (f o ≡ Some t))
search_pages f zero = inl (λ o l. absurd (omega arith))
search_pages f (suc n) = ⊎_elim
    (λ none. here (f n) refl none)
    (λ s. let (o, l, t, e) = s in inr (o, omega arith, t, e))
    (search_pages f n)
  where
    here : (x : Option Translation) → f n ≡ x → ((o : ℕ) → o < n → f o ≡ None) → ((o : ℕ) → o < suc n → f o ≡ None) ⊎ ((o : ℕ) × (o < suc n) × (t : Translation) × (f o ≡ Some t))
    here (Some t) e none = inr (n, omega arith, t, e)
    here None e none = inl (λ o l. ⊎_elim (λ i. ap f i ∙ e) (λ ne. none o (omega arith)) (cases_eq o n))

no_page : (f : Pages) (k a : ℕ) → ((o : ℕ) → o < 16 → f o ≡ None) → InPlace f k a
no_page f k a none o t l e = absurd (both_ways _ (sym (ap is_some e) ∙ ap is_some (none o l)) refl)

-- pages that no compact word can have are not none
pub mixed_some : (f : Pages) → Shapes Mixed f → SomePage f
mixed_some f h = ⊎_elim (λ none. absurd (h 0 0 (no_page f 0 0 none))) (λ s. s) (search_pages f 16)

module _ (w : CompactWord) (small : w.bits < 2 ^ 64) where
  pub word_some : SomePage (said form.Compact w.bits)
  word_some =
      let (p, _) = and_parts _ _ w.sound in
      let (o, l, h) = some_bit 16 (offsets_in w.bits) (ltb-true 0 _ p) (omega arith) in
      (o, l, translation (frame_block_in w.bits * 16 + o) (attributes_in w.bits), ap (there (frame_block_in w.bits) (attributes_in w.bits) o) h)

there_parts : (k a o : ℕ) (b : Bool) (t : Translation) → k < 2 ^ 24 → a < 2 ^ 12 → o < 16 → there k a o b ≡ Some t → (offset_of t.frame ≡ o) × (block_of t.frame ≡ k) × (t.attributes ≡ a)
there_parts k a o true t l m n e =
    let f : ℕ = (translation (k * 16 + o) a).frame in
    let i = frame_same (translation (k * 16 + o) a) t e in
    let j = attributes_same (translation (k * 16 + o) a) t e in
    (omega arith, omega arith, omega arith)
  where
    pick : (ℕ → ℕ) → Option Translation → ℕ
    pick g (Some u) = u.frame
    pick g None = 0

    pick_attributes : Option Translation → ℕ
    pick_attributes (Some u) = u.attributes
    pick_attributes None = 0

    frame_same : (u v : Translation) → Some u ≡ Some v → u.frame ≡ v.frame
    frame_same u v q = ap (pick (λ x. x)) q

    attributes_same : (u v : Translation) → Some u ≡ Some v → u.attributes ≡ v.attributes
    attributes_same u v q = ap pick_attributes q
there_parts k a o false t l m n e = absurd (both_ways false refl (ap is_some e))

-- the pages of a compact word are in place
pub word_in_place : (w : ℕ) (f : Pages) → ((o : ℕ) → o < 16 → f o ≡ said form.Compact w o) → InPlace f (frame_block_in w) (attributes_in w)
word_in_place w f s o t l e = there_parts (frame_block_in w) (attributes_in w) o (bit (offsets_in w) o) t (omega arith) (omega arith) l (sym (s o l) ∙ e)

-- the offsets of the mapped pages are those of the word that says them
offsets_said : (m : Mapping) (b x n : ℕ) → ((o : ℕ) → o < n → is_some (m (page_at b o)) ≡ bit x o) → mapped_offsets m b n ≡ x % 2 ^ n
offsets_said m b x zero h = omega arith
offsets_said m b x (suc n) h = each (offsets_said m b x n (λ o l. h o (omega arith))) (is_some (m (page_at b n))) (h n (omega arith))
  where
    split : x % 2 ^ suc n ≡ (x / 2 ^ n % 2) * 2 ^ n + x % 2 ^ n
    split = ap (λ k. x % 2 ^ k) (let e : suc n ≡ 1 + n = omega arith in e) ∙ mod-pow-add x 1 n

    each : mapped_offsets m b n ≡ x % 2 ^ n → (v : Bool) → v ≡ bit x n → mapped_offsets m b n + cond v (2 ^ n) 0 ≡ x % 2 ^ suc n
    each i true e = let d = ap (λ z. z * 2 ^ n + x % 2 ^ n) (eqb-true (x / 2 ^ n % 2) 1 (sym e)) in let p = split in omega arith
    each i false e = let d = ap (λ z. z * 2 ^ n + x % 2 ^ n) (let q = eqb-false (x / 2 ^ n % 2) 1 (sym e) in let z : x / 2 ^ n % 2 ≡ 0 = omega arith in z) in let p = split in omega arith

module _ (s : Blocks) where
  -- what is held of a block is what its body says
  pub held_at : (b o : ℕ) → o < 16 → held s (page_at b o) ≡ block_pages s.chains s.rows.rows b o
  held_at b o l = let (i, j) = in_block b o l in ap₂ (block_pages s.chains s.rows.rows) i j

  narrow : (b : ℕ) (w : CompactWord) → body_of s.chains b ≡ Some (body.Compact w) → w.bits < 2 ^ 64
  narrow b w e = ltb-true w.bits (2 ^ 64) (ap is_narrow (sym e) ∙ s.narrow b)

  -- the pages of the block b
  module _ (b : ℕ) where
    abbrev pub pages : Pages
    pages = block_pages s.chains s.rows.rows b

    pub used_some : SomePage (block_pages s.chains s.rows.rows b) → Used (held s) b
    used_some (o, l, t, e) = (o, l, (t, held_at b o l ∙ e))

    pub in_place : (k a : ℕ) → Placed (held s) b k a → InPlace (block_pages s.chains s.rows.rows b) k a
    in_place k a p o t l e = p o t l (held_at b o l ∙ e)

    pub placed : (k a : ℕ) → InPlace (block_pages s.chains s.rows.rows b) k a → Placed (held s) b k a
    placed k a p o t l e = p o t l (sym (held_at b o l) ∙ e)

    pub unused : body_of s.chains b ≡ None → Used (held s) b → ⊥
    unused n (o, l, (t, e)) = both_ways _ (sym (ap is_some e) ∙ ap is_some (held_at b o l ∙ ap (λ y. body_pages (row_pages s.rows.rows) y o) n)) refl

    pub rowed : has_row s.chains b ≡ true → Rowed (held s) b
    rowed h = (used_some (mixed_some (block_pages s.chains s.rows.rows b) (λ k a p. s.mixed b k a h p)), λ c. let (k, a, p) = c in s.mixed b k a h (in_place k a p))

    compact_word_of : (w : CompactWord) → body_of s.chains b ≡ Some (body.Compact w) → Compact (held s) b
    compact_word_of w e = (frame_block_in w.bits, attributes_in w.bits, placed _ _ (word_in_place w.bits (block_pages s.chains s.rows.rows b) (λ o l. ap (λ y. body_pages (row_pages s.rows.rows) y o) e)))

    pub not_rowed : has_row s.chains b ≡ false → Rowed (held s) b → ⊥
    not_rowed f (u, nc) = each (body_of s.chains b) refl
      where
        each : (y : Option Body) → body_of s.chains b ≡ y → ⊥
        each None e = unused e u
        each (Some (body.Compact w)) e = nc (compact_word_of w e)
        each (Some (body.Row r)) e = both_ways _ f (ap (λ y. ltb (row_in y) 128) e ∙ lt-ltb r.number 128 r.within)

    pub used_body : is_some (body_of s.chains b) ≡ true → Used (held s) b
    used_body h = each (body_of s.chains b) refl h
      where
        each : (y : Option Body) → body_of s.chains b ≡ y → is_some y ≡ true → Used (held s) b
        each None e t = absurd (both_ways false refl t)
        each (Some (body.Compact w)) e t = used_some (let (o, l, u, q) = word_some w (narrow b w e) in (o, l, u, ap (λ y. body_pages (row_pages s.rows.rows) y o) e ∙ q))
        each (Some (body.Row r)) e t = (rowed (ap (λ y. ltb (row_in y) 128) e ∙ lt-ltb r.number 128 r.within)).0

    pub body_used : Used (held s) b → is_some (body_of s.chains b) ≡ true
    body_used u = each (body_of s.chains b) refl
      where
        each : (y : Option Body) → body_of s.chains b ≡ y → is_some y ≡ true
        each None e = absurd (unused e u)
        each (Some y) e = refl

  pub exactly_used : UsedBlocks (held s) (how_many (λ b. is_some (body_of s.chains b)) (2 ^ 48))
  exactly_used = record { test = λ b. is_some (body_of s.chains b); tells = λ b l. (used_body b, body_used b); many = refl }

  pub exactly_rowed : RowedBlocks (held s) (how_many (has_row s.chains) (2 ^ 48))
  exactly_rowed = record { test = has_row s.chains; tells = λ b l. (rowed b, λ r. ⊎_elim (λ t. t) (λ f. absurd (not_rowed b f r)) (cases_Bool (has_row s.chains b))); many = refl }

  -- the word of a compact block
  pub block_word : (b : ℕ) (w : CompactWord) → body_of s.chains b ≡ Some (body.Compact w) → BlockWord (held s) b w.bits
  block_word b w e =
      let says : (o : ℕ) → block_pages s.chains s.rows.rows b o ≡ said form.Compact w.bits o = λ o. ap (λ y. body_pages (row_pages s.rows.rows) y o) e in
      let l = narrow b w e in
      let (_, whole) = and_parts _ _ w.sound in
      let i = eqb-true w.bits (compact_word (offsets_in w.bits) (frame_block_in w.bits) (attributes_in w.bits)) whole in
      let os = offsets_said (held s) b (offsets_in w.bits) 16 (λ o m. ap is_some (held_at b o m ∙ says o) ∙ there_some (frame_block_in w.bits) (attributes_in w.bits) o (bit (offsets_in w.bits) o)) in
      let n : mapped_offsets (held s) b 16 ≡ offsets_in w.bits = os ∙ (let z : offsets_in w.bits % 2 ^ 16 ≡ offsets_in w.bits = omega arith in z) in
      (used_body b (ap is_some e), (frame_block_in w.bits, attributes_in w.bits, placed b _ _ (word_in_place w.bits (block_pages s.chains s.rows.rows b) (λ o _. says o)), i ∙ ap (λ x. compact_word x (frame_block_in w.bits) (attributes_in w.bits)) (sym n)))
    where
      there_some : (k a o : ℕ) (b : Bool) → is_some (there k a o b) ≡ b
      there_some k a o true = refl
      there_some k a o false = refl

  pub used_count : (n : ℕ) → n ≡ how_many (λ b. is_some (body_of s.chains b)) (2 ^ 48) → UsedBlocks (held s) n
  used_count n e = subst (UsedBlocks (held s)) (sym e) exactly_used

  pub rowed_count : (n : ℕ) → n + length s.rows.spare.items ≡ 128 → RowedBlocks (held s) n
  rowed_count n e = let t = s.taken in subst (RowedBlocks (held s)) (let z : how_many (has_row s.chains) (2 ^ 48) ≡ n = omega arith in z) exactly_rowed

  -- at most sixteen pages of each block that is used
  pub pages_most : how_many (λ p. is_some (held s p)) (2 ^ 52) ≤ 4096
  pages_most =
      let n = by_blocks (λ p. is_some (held s p)) (λ b. is_some (body_of s.chains b)) (2 ^ 48) (λ p f. none_here p (body_of s.chains (block_of p)) f) in
      let m = held_most s.chains in
      omega arith
    where
      none_here : (p : ℕ) (y : Option Body) → is_some y ≡ false → is_some (body_pages (row_pages s.rows.rows) y (offset_of p)) ≡ false
      none_here p None f = refl
      none_here p (Some y) f = absurd (both_ways _ f refl)
