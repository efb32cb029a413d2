-- What a TLB means that counts the loads of another.
use Rattle.std.specs.Prelude.{◌≡◌, ◌+◌, ◌%◌, ◌^◌}
use Rattle.tlb.specs.Meaning.{TlbMeaning}
use Rattle.tlb_tests.specs.declared.counting.CountingTlb.{CountingTlb}

abbrev pub counting : {X : Type 0} → TlbMeaning X → TlbMeaning (CountingTlb X)
counting a = record {
  pairs = λ s. a.pairs s.tlb;
  probed = λ s p r u. a.probed s.tlb p r u.tlb × (u.loads ≡ s.loads);
  loaded = λ s e p u. a.loaded s.tlb e p u.tlb × (u.loads ≡ (s.loads + 1) % 2 ^ 64);
  purged = λ s p u. a.purged s.tlb p u.tlb × (u.loads ≡ s.loads);
  flushed = λ s u. a.flushed s.tlb u.tlb × (u.loads ≡ s.loads);
}
