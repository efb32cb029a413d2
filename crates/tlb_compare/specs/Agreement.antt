-- What a comparison shows: calls on a TLB, and at each the answer that a model had for it.
use Rattle.std.specs.Prelude.{◌≡◌, ◌≢◌, ℕ, ◌+◌, cond, is_some, None, Option}
use Rattle.std.specs.Option.{option_map}
use Rattle.words.specs.declared.translation.Translation.{Translation}
use Rattle.words.specs.Words.{form_of, bits_of}
use Rattle.tlb.specs.declared.entry.Entry.{Entry}
use Rattle.tlb.specs.Meaning.{TlbMeaning}
use Rattle.tlb_compare.specs.declared.answers.Answers.{Answers}
use Rattle.tlb_compare.specs.declared.calls.Call.{Call}
use Rattle.tlb_compare.specs.declared.calls.Call.TheVariants.{Probe, Load, Purge, Flush}
use Rattle.tlb_compare.specs.declared.plain.PlainEntry.{PlainEntry}
use Rattle.tlb_compare.specs.declared.plain.PlainPair.{PlainPair}

-- what a model has for each page
abbrev pub Having : Type 0 → Type 0
Having Y = Y → ℕ → Option PlainPair

-- a TLB's answer for a page, as plain numbers
abbrev pub plain : ℕ → Option Translation → Option PlainPair
plain page r = option_map (λ t. record { page = page; frame = t.frame; attributes = t.attributes }) r

abbrev pub IsEntry : Entry → PlainEntry → Type 0
IsEntry e f = (e.page.number ≡ f.page) × (form_of e.word ≡ f.form) × (bits_of e.word ≡ f.word)

abbrev pub NoAnswers : Answers → Type 0
NoAnswers a = (a.tlb ≡ None) × (a.model ≡ None)

module _ {X Y : Type 0} (meaning : TlbMeaning X) (has : Having Y) where
  -- the call led the TLB from s to u: a probe is answered by the TLB, and by the model as it was before
  abbrev pub Made : X → Y → Call → Answers → X → Type 0
  Made s m (Probe page) a u = (r : Option Translation) × meaning.probed s page r u × (a.tlb ≡ plain page r) × (a.model ≡ has m page)
  Made s m (Load entry page) a u = (e : Entry) × IsEntry e entry × meaning.loaded s e page u × NoAnswers a
  Made s m (Purge page) a u = meaning.purged s page u × NoAnswers a
  Made s m Flush a u = meaning.flushed s u × NoAnswers a

  -- so many calls led from the TLB s and the model m to others; at each both had the same answer, and so many of their answers were pairs
  pub data Agreed (s : X) (m : Y) : ℕ → ℕ → X → Y → Type 0 where
    none : Agreed s m 0 0 s m
    next : {n hits : ℕ} {x u : X} {y v : Y} (call : Call) (a : Answers) → Agreed s m n hits x y → Made x y call a u → a.tlb ≡ a.model → Agreed s m (n + 1) (hits + cond (is_some a.tlb) 1 0) u v

  -- after n calls with the same answers the next is answered otherwise by the model
  abbrev pub DiffersAt : X → Y → ℕ → Type 0
  DiffersAt s m n = (x : X) × (y : Y) × (hits : ℕ) × (call : Call) × (a : Answers) × (u : X) × Agreed s m n hits x y × Made x y call a u × (a.tlb ≢ a.model)
