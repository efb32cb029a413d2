-- A page that is looked up: the word that stands for it, what the reader answers from it, and its block's place.
use Rattle.std.proofs.Common.{◌≡◌, ℕ, ◌<◌, ◌≤◌, true, ◌&&◌, eqb, ltb, Some, None, Option, Ok, Err, is_some, sym, refl, ap, ◌∙◌, subst, arith}
use Rattle.std.proofs.lemmas.Bool.{and_parts, and_from, eqb-true, eq-eqb, lt-ltb, le-leb, cond-true}
use Rattle.words.specs.declared.compact.CompactWord.{CompactWord}
use Rattle.words.specs.declared.full.FullWord.{FullWord}
use Rattle.words.specs.declared.translation.Translation.{Translation}
use Rattle.words.specs.declared.word.Word.{Word}
use Rattle.words.specs.declared.word.Word.TheVariants.{Compact, Full}
use Rattle.words.specs.declared.form.Form.TheVariants as form
use Rattle.words.specs.Layout.{block_of, offset_of, bucket_of}
use Rattle.words.specs.Reading.{form_number, is_word, said, answer_of, reading}
use Rattle.words.specs.Words.{form_of, bits_of}
use Rattle.words.specs.Blocks.{Mapping, StandsFor, page_word}
use Rattle.words.proofs.Blocks.{full_says}
use Rattle.chains.specs.declared.node.Body.{Body}
use Rattle.chains.specs.declared.node.Body.TheVariants as body
use Rattle.chains.specs.declared.node.Found.{Found}
use Rattle.chains.specs.declared.node.RowNumber.{RowNumber}
use Rattle.chains.specs.Chains.{body_at, body_of, nodes_in, Finds}
use Rattle.chains.specs.Orders.{place_of}
use Rattle.blocks.specs.declared.blocks.Blocks.{Blocks}
use Rattle.blocks.specs.declared.blocks.Walked.{Walked}
use Rattle.blocks.specs.Blocks.{held, order, UsedIn, Walks}
use Rattle.blocks.specs.Held.{row_in, body_pages}
use Rattle.blocks.specs.Rows.{row_pages}
use Rattle.blocks.proofs.Pages.{used_body, body_used, rowed, block_word}

-- what the word reader answers, and what the word says
read : (w : Word) → is_word (form_of w) (bits_of w) ≡ true → (o : ℕ) → o < 16 → reading (form_number (form_of w)) (bits_of w) o ≡ answer_of (said (form_of w) (bits_of w) o)
read (Compact w) s o l = cond-true _ _ _ (and_from _ _ s (le-leb o 15 (omega arith)))
read (Full w) s o l = cond-true _ _ _ (and_from _ _ s (le-leb o 15 (omega arith)))

a_word : (w : Word) → is_word (form_of w) (bits_of w) ≡ true
a_word (Compact w) = w.sound
a_word (Full w) = w.sound

answers : (x y : Option Translation) → answer_of x ≡ answer_of y → x ≡ y
answers (Some t) (Some u) e = ap (λ r. elim r [ Ok v ↦ Some v | Err f ↦ None ]) e
answers None None e = refl
answers (Some t) None e = cc
answers None (Some u) e = cc

-- a word says what the reader answers from it
read_says : (w : Word) (o : ℕ) (x : Option Translation) → o < 16 → reading (form_number (form_of w)) (bits_of w) o ≡ answer_of x → said (form_of w) (bits_of w) o ≡ x
read_says w o x l e = answers (said (form_of w) (bits_of w) o) x (sym (read w (a_word w) o l) ∙ e)

-- so the word of a page says what the page is mapped to
pub walk_says : (m : Mapping) (p : ℕ) (w : Walked) → Walks m p w → said (form_of w.word) (bits_of w.word) (offset_of p) ≡ m p
walk_says m p w k = read_says w.word (offset_of p) (m p) (omega arith) k.reads

module _ (s : Blocks) (p : ℕ) where
  used_in : UsedIn (held s) (bucket_of (block_of p)) (nodes_in s.chains (bucket_of (block_of p)))
  used_in = record {
    test = λ b. is_some (body_of s.chains b) && eqb (bucket_of b) (bucket_of (block_of p));
    tells = λ b l. (
      (λ t. let (i, j) = and_parts (is_some (body_of s.chains b)) _ t in (used_body s b i, eqb-true _ _ j)),
      (λ q. and_from (is_some (body_of s.chains b)) _ (body_used s b q.0) (eq-eqb _ _ q.1)),
    );
    many = refl;
  }

  -- what the body of the page's block says of the page
  body_says : (y : Body) → body_of s.chains (block_of p) ≡ Some y → held s p ≡ body_pages (row_pages s.rows.rows) (Some y) (offset_of p)
  body_says y e = ap (λ z. body_pages (row_pages s.rows.rows) z (offset_of p)) e

  -- the block's node was found
  module _ (b : ℕ) (f : Found) (y : Body) (own : b ≡ block_of p) (finds : Finds s.chains b f) (has : body_at s.chains f.node ≡ Some y) where
    pub found_body : body_of s.chains (block_of p) ≡ Some y
    found_body = ap (body_of s.chains) (sym own) ∙ ap (body_at s.chains) finds.node ∙ has

    pub found_place : place_of (order s) (block_of p) ≡ Some f.looked
    found_place = ap (place_of (order s)) (sym own) ∙ finds.place

    walks : (n : ℕ) (v : Word) (t : Translation) → 1 ≤ n → n ≤ f.looked → held s p ≡ Some t → StandsFor (held s) p (form_of v) (bits_of v) → said (form_of v) (bits_of v) (offset_of p) ≡ Some t → Walks (held s) p (record { word = v; looked = n })
    walks n v t low high m w r = record {
      mapped = (t, m);
      word = w;
      reads = read v (a_word v) (offset_of p) (omega arith) ∙ ap answer_of (r ∙ sym m);
      some = low;
      most = (nodes_in s.chains (bucket_of (block_of p)), used_in, (let e = ap (λ d. nodes_in s.chains (bucket_of d)) own in let l = finds.most in omega arith));
    }

    pub walks_word : (n : ℕ) (w : CompactWord) (v : Word) (t : Translation) → 1 ≤ n → n ≤ f.looked → y ≡ body.Compact w → v ≡ Compact w → said (form_of v) (bits_of v) (offset_of p) ≡ Some t → Walks (held s) p (record { word = v; looked = n })
    walks_word n w v t low high e i r =
        let here = found_body ∙ ap Some e in
        walks n v t low high (body_says (body.Compact w) here ∙ ap (λ u. said (form_of u) (bits_of u) (offset_of p)) (sym i) ∙ r)
        (subst (λ u. StandsFor (held s) p (form_of u) (bits_of u)) (sym i) (block_word s (block_of p) w here)) r

    pub walks_row : (n : ℕ) (r : RowNumber) (w : FullWord) (v : Word) (t : Translation) → 1 ≤ n → n ≤ f.looked → y ≡ body.Row r → v ≡ Full w → w.bits ≡ page_word (row_pages s.rows.rows r.number (offset_of p))
        → said (form_of v) (bits_of v) (offset_of p) ≡ Some t → Walks (held s) p (record { word = v; looked = n })
    walks_row n r w v t low high e i bits said_t =
        let here = found_body ∙ ap Some e in
        let says : held s p ≡ row_pages s.rows.rows r.number (offset_of p) = body_says (body.Row r) here in
        let read : said form.Full w.bits (offset_of p) ≡ held s p = ap (λ x. said form.Full x (offset_of p)) bits ∙ full_says (row_pages s.rows.rows r.number (offset_of p)) (offset_of p) ∙ sym says in
        walks n v t low high (sym read ∙ ap (λ u. said (form_of u) (bits_of u) (offset_of p)) (sym i) ∙ said_t)
        (subst (λ u. StandsFor (held s) p (form_of u) (bits_of u)) (sym i)
        ((rowed s (block_of p) (ap (λ z. ltb (row_in z) 128) here ∙ lt-ltb r.number 128 r.within)).1, bits ∙ ap page_word (sym says))) said_t
