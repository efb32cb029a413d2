-- What a TLB that counts its loads means, by the TLB that it is made of.
use Rattle.std.specs.Prelude.{◌≡◌, ◌+◌, ◌-◌, ◌^◌, min}
use Rattle.tlb.specs.Meaning.{TlbMeaning}
use Rattle.space_tests.specs.declared.counted_loads.CountedLoads.{CountedLoads}

abbrev pub counted_loads : {X : Type 0} → TlbMeaning X → TlbMeaning (CountedLoads X)
counted_loads t = record {
  pairs = λ s. t.pairs s.tlb;
  probed = λ s page r u. t.probed s.tlb page r u.tlb × (u.loads ≡ s.loads);
  loaded = λ s entry page u. t.loaded s.tlb entry page u.tlb × (u.loads ≡ min (s.loads + 1) (2 ^ 32 - 1));
  purged = λ s page u. t.purged s.tlb page u.tlb × (u.loads ≡ s.loads);
  flushed = λ s u. t.flushed s.tlb u.tlb × (u.loads ≡ s.loads);
}
