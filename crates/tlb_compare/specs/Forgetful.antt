-- What a TLB means that forgets everything where another forgets a page.
use Rattle.tlb.specs.Meaning.{TlbMeaning}
use Rattle.tlb_compare.specs.declared.forgetful.ForgetfulTlb.{ForgetfulTlb}

abbrev pub forgetful : {X : Type 0} → TlbMeaning X → TlbMeaning (ForgetfulTlb X)
forgetful a = record {
  pairs = λ s. a.pairs s.tlb;
  probed = λ s p r u. a.probed s.tlb p r u.tlb;
  loaded = λ s e p u. a.loaded s.tlb e p u.tlb;
  purged = λ s p u. a.flushed s.tlb u.tlb;
  flushed = λ s u. a.flushed s.tlb u.tlb;
}
