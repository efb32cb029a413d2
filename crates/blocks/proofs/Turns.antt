-- What each call makes of a block: its word or its row, and the rows that are spare.
use Rattle.std.proofs.Common.{◌≡◌, ℕ, ◌+◌, ◌^◌, ◌<◌, true, false, eqb, ltb, List, [], ◌∷◌, ◌++◌, length, Some, None, Option, MatchOption, is_some, Result, Ok, Err, MatchResult, sym, refl, ap, ◌∙◌, subst, ap₂, arith}
use mathlib.Core.Path.{fun_ext}
use Rattle.std.proofs.lemmas.Bool.{both_ways, lt-ltb, ne_eqb, eq-eqb}
use Rattle.std.proofs.lemmas.List.{length-append}
use Rattle.words.specs.declared.address.Block.{Block}
use Rattle.words.specs.declared.address.Offset.{Offset}
use Rattle.words.specs.declared.compact.CompactWord.{CompactWord}
use Rattle.words.specs.declared.translation.Translation.{Translation}
use Rattle.words.specs.Points.{at}
use Rattle.chains.specs.declared.chains.Chains.{Chains}
use Rattle.chains.specs.declared.node.Body.{Body}
use Rattle.chains.specs.declared.node.Body.TheVariants as body
use Rattle.chains.specs.declared.node.NoNode.{NoNode}
use Rattle.chains.specs.declared.node.RowNumber.{RowNumber}
use Rattle.words.specs.Refusals.{First, Accepted}
use Rattle.chains.specs.Faults.{no_node_number}
use Rattle.chains.specs.Chains.{body_of, block_of_node, Puts, Writes, insert_refusals}
use Rattle.chains.proofs.Counts.{one}
use Rattle.chains.proofs.Held.{at_same}
use Rattle.chains.proofs.Linking.{at_here}
use Rattle.blocks.specs.declared.blocks.Blocks.{Blocks}
use Rattle.blocks.specs.declared.row.Row.{Row}
use Rattle.blocks.specs.declared.rows.Rows.{Rows}
use Rattle.chains.specs.Counting.{how_many}
use Rattle.blocks.specs.declared.shape.Shape.{Shape}
use Rattle.blocks.specs.declared.shape.Shape.TheVariants.{Empty, Compact, Mixed}
use Rattle.blocks.specs.Held.{row_in, word_body, body_pages, block_pages}
use Rattle.blocks.specs.Rows.{pages_of, row_pages, occurs}
use Rattle.blocks.specs.Shapes.{Pages, Shapes, word_pages}
use Rattle.blocks.proofs.Rooms.{Step, Kept, kept, kept_same}
use Rattle.blocks.proofs.Spare.{at_end}
use Rattle.blocks.proofs.Steps.{other_row, alone, not_spare}

-- a body without a row has the number of none
no_row : (i : ℕ) → i < 128 → one (eqb 128 i) ≡ 0
no_row i l = ap one (ne_eqb 128 i (λ e. omega arith))

last_spare : (xs ys : List RowNumber) (r : RowNumber) → xs ≡ ys ++ r ∷ [] → (length xs ≡ length ys + 1) × ((i : ℕ) → occurs i xs ≡ occurs i ys + one (eqb r.number i))
last_spare xs ys r e = (ap length e ∙ length-append ys (r ∷ []), λ i. ap (occurs i) e ∙ at_end i ys r)

same_at : (f g : Pages) (o : ℕ) (x : Option Translation) → f ≡ g → (s : Shape) → Shapes s (at f o x) → Shapes s (at g o x)
same_at f g o x e s = subst (λ h. Shapes s (at h o x)) e

-- a body that was written on the node of the block
pub written : (c : Chains) (i : ℕ) (y : Body) (d : Chains) (b : ℕ) → block_of_node c i ≡ Some b → Writes c i y d → Puts c b (Some y) d
written c i y d b e = subst (λ o. MatchOption o (body_of d ≡ body_of c) (λ k. Puts c k (Some y) d)) e

pub some_body : (w : Option CompactWord) → is_some w ≡ true → word_body w ≡ None → ⊥
some_body None t e = both_ways false refl t
some_body (Some w) t e = both_ways true (ap is_some e) refl

pub no_word : (w : Option CompactWord) → is_some w ≡ false → w ≡ None
no_word None e = refl
no_word (Some w) e = absurd (both_ways _ e refl)

-- the block has no row: its pages are those of a word, or none
module _ (s : Blocks) (block : Block) (offset : Offset) (word : Option CompactWord) (to : Option Translation) (own : body_of s.chains block.number ≡ word_body word) where
  pub says : block_pages s.chains s.rows.rows block.number ≡ word_pages word
  says = ap (body_pages (row_pages s.rows.rows)) own ∙ fun_ext (each word)
    where
      each : (w : Option CompactWord) (k : ℕ) → body_pages (row_pages s.rows.rows) (word_body w) k ≡ word_pages w k
      each (Some w) k = refl
      each None k = refl

  pub none_yet : row_in (body_of s.chains block.number) ≡ 128
  none_yet = ap row_in own ∙ each word
    where
      each : (w : Option CompactWord) → row_in (word_body w) ≡ 128
      each (Some w) = refl
      each None = refl

  abbrev before : Pages
  before = block_pages s.chains s.rows.rows block.number

  pub shaped : (h : Shape) → Shapes h (at (word_pages word) offset.number to) → Shapes h (at before offset.number to)
  shaped = same_at (word_pages word) before offset.number to (sym says)

  stays : (y : Option Body) → row_in y ≡ 128 → (i : ℕ) → one (eqb (row_in y) i) ≡ one (eqb (row_in (body_of s.chains block.number)) i)
  stays y e i = ap (λ r. one (eqb r i)) (e ∙ sym none_yet)

  stays_all : (y : Option Body) → row_in y ≡ 128 → one (ltb (row_in y) 128) ≡ one (ltb (row_in (body_of s.chains block.number)) 128)
  stays_all y e = ap (λ r. one (ltb r 128)) (e ∙ sym none_yet)

  pub emptied : (c : Chains) → Puts s.chains block.number None c → Shapes Empty (at (word_pages word) offset.number to) → Step s c s.rows.rows s.rows.spare.items block.number offset.number to None
  emptied c puts h = record {
    small = block.within;
    low = offset.within;
    puts = puts;
    others = λ d ne. refl;
    here = λ k l. sym (shaped Empty h k l);
    each = λ i l. (let e = stays None refl i in omega arith);
    all = let e = stays_all None refl in omega arith;
    narrow = refl;
    mixed = λ t. absurd (both_ways false refl t);
  }

  pub worded : (c : Chains) (w : CompactWord) → w.bits < 2 ^ 64 → Puts s.chains block.number (Some (body.Compact w)) c → Shapes (Compact w) (at (word_pages word) offset.number to) → Step s c s.rows.rows s.rows.spare.items block.number offset.number to (Some (body.Compact w))
  worded c w l puts h = record {
    small = block.within;
    low = offset.within;
    puts = puts;
    others = λ d ne. refl;
    here = λ k m. sym (shaped (Compact w) h k m);
    each = λ i m. (let e = stays (Some (body.Compact w)) refl i in omega arith);
    all = let e = stays_all (Some (body.Compact w)) refl in omega arith;
    narrow = lt-ltb w.bits (2 ^ 64) l;
    mixed = λ t. absurd (both_ways false refl t);
  }

  pub given_row : (c : Chains) (rs : List Row) (spare : List RowNumber) (r : RowNumber) (row : Row) → Puts s.chains block.number (Some (body.Row r)) c
      → Shapes Mixed (at (word_pages word) offset.number to) → s.rows.spare.items ≡ spare ++ r ∷ [] → row_pages rs ≡ at (row_pages s.rows.rows) r.number (pages_of row)
      → ((k : ℕ) → k < 16 → pages_of row k ≡ at (word_pages word) offset.number to k) → Step s c rs spare block.number offset.number to (Some (body.Row r))
  given_row c rs spare r row puts h last rows pages =
      let (n, counts) = last_spare s.rows.spare.items spare r last in
      record {
        small = block.within;
        low = offset.within;
        puts = puts;
        others = λ d ne. ap (λ R. body_pages R (body_of s.chains d)) rows ∙ other_row (row_pages s.rows.rows) r.number (pages_of row) (body_of s.chains d)
            (not_spare s d r.number (let e = counts r.number in let f = ap one (eq-eqb r.number r.number refl) in omega arith) r.within);
        here = λ k l. ap (λ R. R r.number k) rows ∙ ap (λ f. f k) (at_here (row_pages s.rows.rows) r.number (pages_of row) r.number refl) ∙ pages k l
            ∙ ap (λ f. at f offset.number to k) (sym says);
        each = λ i l. (let e = counts i in let f = ap (λ q. one (eqb q i)) none_yet in let z = no_row i l in omega arith);
        all = let f = ap (λ q. one (ltb q 128)) none_yet in let t = ap one (lt-ltb r.number 128 r.within) in omega arith;
        narrow = refl;
        mixed = λ t. shaped Mixed h;
      }

  -- the word was inserted, or there was no node for it
  pub inserted_word : (c : Chains) (w : CompactWord) → w.bits < 2 ^ 64 → Shapes (Compact w) (at (word_pages word) offset.number to) → (r : Result (Unit {0}) NoNode)
      → MatchResult r (λ _. Accepted (insert_refusals s.chains block.number) × Puts s.chains block.number (Some (body.Compact w)) c) (λ _. First (insert_refusals s.chains block.number) no_node_number × (c ≡ s.chains)) → Kept c s.rows.rows s.rows.spare.items
  inserted_word c w l h (Ok x) (_, puts) = kept s c s.rows.rows s.rows.spare.items block.number offset.number to (Some (body.Compact w)) (worded c w l puts h)
  inserted_word c w l h (Err e) (_, same) = kept_same s c s.rows same refl

  -- there is no word of pages that are none
  pub no_body : word ≡ None → body_of s.chains block.number ≡ None
  no_body e = own ∙ ap word_body e

  -- the row was taken and then its node was written, where there is one
  pub inserted_row : (c : Chains) (rows : Rows) (r : RowNumber) (row : Row) → Shapes Mixed (at (word_pages word) offset.number to) → s.rows.spare.items ≡ rows.spare.items ++ r ∷ []
      → row_pages rows.rows ≡ at (row_pages s.rows.rows) r.number (pages_of row) → ((k : ℕ) → k < 16 → pages_of row k ≡ at (word_pages word) offset.number to k)
      → (body_of s.chains block.number ≡ None → how_many (λ b. is_some (body_of s.chains b)) (2 ^ 48) ≡ 256 → ⊥) → (q : Result (Unit {0}) NoNode)
      → MatchResult q (λ _. Accepted (insert_refusals s.chains block.number) × Puts s.chains block.number (Some (body.Row r)) c) (λ _. First (insert_refusals s.chains block.number) no_node_number × (c ≡ s.chains)) → Step s c rows.rows rows.spare.items block.number offset.number to (Some (body.Row r))
  inserted_row c rows r row h last set pages room (Ok x) (_, puts) = given_row c rows.rows rows.spare.items r row puts h last set pages
  inserted_row c rows r row h last set pages room (Err e) ((none, full), _) = absurd (room none (sym full))

-- the block has the row r, of which a word was written
module _ (s : Blocks) (block : Block) (offset : Offset) (r : RowNumber) (to : Option Translation) (own : body_of s.chains block.number ≡ Some (body.Row r)) (rs : List Row)
    (set : row_pages rs ≡ at (row_pages s.rows.rows) r.number (at (row_pages s.rows.rows r.number) offset.number to)) where
  abbrev was : Pages
  was = block_pages s.chains s.rows.rows block.number

  pub row_is : row_in (body_of s.chains block.number) ≡ r.number
  row_is = ap row_in own

  row_says : was ≡ row_pages s.rows.rows r.number
  row_says = ap (body_pages (row_pages s.rows.rows)) own

  row_next : row_pages rs r.number ≡ at was offset.number to
  row_next = ap (λ R. R r.number) set ∙ at_here (row_pages s.rows.rows) r.number _ r.number refl ∙ ap (λ f. at f offset.number to) (sym row_says)

  apart : (d : ℕ) → (d ≡ block.number → ⊥) → body_pages (row_pages rs) (body_of s.chains d) ≡ block_pages s.chains s.rows.rows d
  apart d ne = ap (λ R. body_pages R (body_of s.chains d)) set
      ∙ other_row (row_pages s.rows.rows) r.number _ (body_of s.chains d) (alone s block.number d r.number row_is r.within ne)

  pub next_shape : (h : Shape) → Shapes h (row_pages rs r.number) → Shapes h (at was offset.number to)
  next_shape h = subst (Shapes h) row_next

  one_row : one (ltb (row_in (body_of s.chains block.number)) 128) ≡ 1
  one_row = ap (λ q. one (ltb q 128)) row_is ∙ ap one (lt-ltb r.number 128 r.within)

  pub emptied_row : (c : Chains) (spare : List RowNumber) → Puts s.chains block.number None c → Shapes Empty (row_pages rs r.number) → spare ≡ s.rows.spare.items ++ r ∷ [] → Step s c rs spare block.number offset.number to None
  emptied_row c spare puts h last =
      let (n, counts) = last_spare spare s.rows.spare.items r last in
      record {
        small = block.within;
        low = offset.within;
        puts = puts;
        others = apart;
        here = λ k l. sym (next_shape Empty h k l);
        each = λ i l. (let e = counts i in let f = ap (λ q. one (eqb q i)) row_is in let z = no_row i l in omega arith);
        all = let f = one_row in omega arith;
        narrow = refl;
        mixed = λ t. absurd (both_ways false refl t);
      }

  pub worded_row : (c : Chains) (spare : List RowNumber) (w : CompactWord) → w.bits < 2 ^ 64 → Puts s.chains block.number (Some (body.Compact w)) c → Shapes (Compact w) (row_pages rs r.number)
      → spare ≡ s.rows.spare.items ++ r ∷ [] → Step s c rs spare block.number offset.number to (Some (body.Compact w))
  worded_row c spare w l puts h last =
      let (n, counts) = last_spare spare s.rows.spare.items r last in
      record {
        small = block.within;
        low = offset.within;
        puts = puts;
        others = apart;
        here = λ k m. sym (next_shape (Compact w) h k m);
        each = λ i m. (let e = counts i in let f = ap (λ q. one (eqb q i)) row_is in let z = no_row i m in omega arith);
        all = let f = one_row in omega arith;
        narrow = lt-ltb w.bits (2 ^ 64) l;
        mixed = λ t. absurd (both_ways false refl t);
      }

  pub kept_row : (spare : List RowNumber) → Shapes Mixed (row_pages rs r.number) → spare ≡ s.rows.spare.items → Step s s.chains rs spare block.number offset.number to (Some (body.Row r))
  kept_row spare h same = record {
    small = block.within;
    low = offset.within;
    puts = sym (at_same (body_of s.chains) block.number (Some (body.Row r)) own);
    others = apart;
    here = λ k l. ap (λ f. f k) row_next;
    each = λ i l. ap₂ (λ xs y. occurs i xs + one (eqb (row_in y) i)) same (sym own);
    all = ap₂ (λ xs y. length xs + one (ltb (row_in y) 128)) same (sym own);
    narrow = refl;
    mixed = λ t. next_shape Mixed h;
  }
