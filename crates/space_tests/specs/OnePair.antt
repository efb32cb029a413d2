-- What the TLB of one pair means, by its slot.
use Rattle.std.specs.Prelude.{◌≡◌, ℕ, Some, None, Option, MatchOption}
use Rattle.words.specs.declared.translation.Translation.{Translation}
use Rattle.tlb.specs.Entries.{entry_says}
use Rattle.tlb.specs.Meaning.{TlbMeaning}
use Rattle.tlb.specs.PageSlots.{page_held, page_dropped}
use Rattle.tlb.specs.Slots.{in_slot, Becomes}
use Rattle.space_tests.specs.declared.one_pair.OnePairTlb.{OnePairTlb}

-- what the slot holds for each page; no more than one page has a translation
abbrev pub held : OnePairTlb → ℕ → Option Translation
held s = in_slot page_held s.slot

-- a load overwrites the slot, and only a purge of the page that it holds empties it
abbrev pub one_pair : TlbMeaning OnePairTlb
one_pair = record {
  pairs = λ s p t. held s p ≡ Some t;
  probed = λ s p r u. (r ≡ held s p) × (u ≡ s);
  loaded = λ s e p u. MatchOption (entry_says e p) (u ≡ s) (λ t. held u p ≡ Some t);
  purged = λ s p u. Becomes (λ x o. page_dropped x p o) s.slot u.slot;
  flushed = λ s u. u.slot ≡ None;
}
