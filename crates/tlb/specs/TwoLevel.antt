-- What two TLBs mean, one before the other.
use Rattle.std.specs.Prelude.{◌≡◌, ℕ, true, ◌⊎◌, is_some, None, Option, MatchOption}
use Rattle.words.specs.declared.translation.Translation.{Translation}
use Rattle.words.specs.declared.form.Form.TheVariants as form
use Rattle.words.specs.Layout.{full_word}
use Rattle.words.specs.Words.{form_of, bits_of}
use Rattle.tlb.specs.declared.entry.Entry.{Entry}
use Rattle.tlb.specs.declared.two_level.TwoLevelTlb.{TwoLevelTlb}
use Rattle.tlb.specs.Meaning.{TlbMeaning}

-- the full-form entry that says t of the page p
pub record PageEntry (e : Entry) (p : ℕ) (t : Translation) : Type 0 where
  pub page : e.page.number ≡ p
  pub full : form_of e.word ≡ form.Full
  pub bits : bits_of e.word ≡ full_word t.frame t.attributes

module _ {X Y : Type 0} (a : TlbMeaning X) (b : TlbMeaning Y) where
  -- the first level answers, and the second is left alone
  pub record HitFirst (s : TwoLevelTlb X Y) (p : ℕ) (r : Option Translation) (u : TwoLevelTlb X Y) : Type 0 where
    pub some : is_some r ≡ true
    pub first : a.probed s.first p r u.first
    pub second : u.second ≡ s.second

  -- the first level, which its probe leaves as f, has none: the second answers, and its translation is loaded into the first
  pub record MissedFirst (s : TwoLevelTlb X Y) (p : ℕ) (r : Option Translation) (u : TwoLevelTlb X Y) (f : X) : Type 0 where
    pub first : a.probed s.first p None f
    pub second : b.probed s.second p r u.second
    pub filled : MatchOption r (u.first ≡ f) (λ t. (e : Entry) × PageEntry e p t × a.loaded f e p u.first)

  -- a pair of either level is a pair, and every other call goes to both
  abbrev pub two_level : TlbMeaning (TwoLevelTlb X Y)
  two_level = record {
    pairs = λ s p t. a.pairs s.first p t ⊎ b.pairs s.second p t;
    probed = λ s p r u. HitFirst s p r u ⊎ ((f : X) × MissedFirst s p r u f);
    loaded = λ s e p u. a.loaded s.first e p u.first × b.loaded s.second e p u.second;
    purged = λ s p u. a.purged s.first p u.first × b.purged s.second p u.second;
    flushed = λ s u. a.flushed s.first u.first × b.flushed s.second u.second;
  }
