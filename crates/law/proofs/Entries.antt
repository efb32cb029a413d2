-- The entry of a walk: what it says of each page is what the map has.
use Rattle.std.proofs.Common.{◌≡◌, ℕ, true, cond, eqb, Some, None, Option, refl, sym, ap, ◌∙◌, inl, ◌⊎◌, arith}
use Rattle.std.proofs.lemmas.Bool.{eqb-true, eq-eqb, cond-true}
use Rattle.std.specs.Option.{MatchOption}
use Rattle.std.specs.Result.{result_ok}
use Rattle.words.specs.declared.form.Form.{Form}
use Rattle.words.specs.declared.form.Form.TheVariants as form
use Rattle.words.specs.declared.translation.Translation.{Translation}
use Rattle.words.specs.Layout.{block_of, offset_of, page_at}
use Rattle.words.specs.Reading.{form_number, reading, answer_of}
use Rattle.words.specs.Words.{form_of, bits_of}
use Rattle.words.specs.Blocks.{Mapping, StandsFor}
use Rattle.words.proofs.Blocks.{compact_reading}
use Rattle.words.proofs.WordLaws.{stands_reading}
use Rattle.tlb.specs.declared.entry.Entry.{Entry}
use Rattle.tlb.specs.Choices.{kept}
use Rattle.tlb.specs.Entries.{reaches, entry_says}
use Rattle.tlb.specs.Meaning.{SamePairs, Takes, Loads}

answered : (o : Option Translation) → result_ok (answer_of o) ≡ o
answered (Some x) = refl
answered None = refl

reaches_own : (g : Form) (p : ℕ) → reaches g p p ≡ true
reaches_own form.Compact p = eq-eqb _ _ refl
reaches_own form.Full p = eq-eqb _ _ refl

-- an entry says of its own page what the map has
pub own_says : (m : Mapping) (e : Entry) → StandsFor m e.page.number (form_of e.word) (bits_of e.word) → entry_says e e.page.number ≡ m e.page.number
own_says m e s =
    cond-true _ _ _ (reaches_own (form_of e.word) e.page.number)
    ∙ ap result_ok (stands_reading m e.page.number (form_of e.word) (bits_of e.word) s)
    ∙ answered (m e.page.number)

-- and of each other page no more than that
pub says_within : (m : Mapping) (g : Form) (w p q : ℕ) (y : Translation) → StandsFor m p g w → cond (reaches g p q) (result_ok (reading (form_number g) w (offset_of q))) None ≡ Some y → m q ≡ Some y
says_within m form.Compact w p q y s e =
    let (same, r) = kept (eqb (block_of q) (block_of p)) _ y e in
    let b : block_of q ≡ block_of p = eqb-true _ _ same in
    let there : page_at (block_of p) (offset_of q) ≡ q = omega arith in
    ap m (sym there) ∙ sym (answered (m (page_at (block_of p) (offset_of q)))) ∙ sym (ap result_ok (compact_reading m (block_of p) w (offset_of q) s (omega arith))) ∙ r
says_within m form.Full w p q y s e =
    let (same, r) = kept (eqb q p) _ y e in
    let i : q ≡ p = eqb-true q p same in
    ap m i ∙ sym (answered (m p)) ∙ sym (ap result_ok (stands_reading m p form.Full w s)) ∙ ap (λ z. result_ok (reading 2 w (offset_of z))) (sym i) ∙ r

-- a pair that is there after a load was there or comes from the entry
pub loaded_from : {A : Type 0} (pairs : A → ℕ → Translation → Type 0) (a b : A) (e : Entry) (p q : ℕ) (y : Translation) → Loads pairs a e p b → pairs b q y → pairs a q y ⊎ (entry_says e q ≡ Some y)
loaded_from {A} pairs a b e p q y loads h = each (entry_says e p) loads
  where
    each : (o : Option Translation) → MatchOption o (SamePairs pairs a b) (λ t. Takes pairs a e p t b) → pairs a q y ⊎ (entry_says e q ≡ Some y)
    each None same = inl ((same q y).0 h)
    each (Some t) took = took.from q y h
