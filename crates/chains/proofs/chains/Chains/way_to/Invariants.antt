use Rattle.std.proofs.Common.{◌≡◌, length, drop}
use Rattle.words.specs.Layout.{bucket_of}
use Rattle.chains.specs.Chains.{nodes_of}
use Rattle.chains.specs.Links.{walk}
use Rattle.chains.specs.Nodes.{home_at, chain_from, IsPlace}
use Rattle.chains.proofs.Held.{Search, next_in}
use Rattle.chains.proofs.chains.Chains.way_to.Given as goal

abbrev pub invariant-loop-place : goal.invariant-loop-place
invariant-loop-place l = record {
  search : Search l.self l.block.number (next_in l.self l.place);
  place : IsPlace (home_at (nodes_of l.self)) (bucket_of l.block.number) l.place;
  passed : drop l.looked (chain_from (next_in l.self) (bucket_of l.block.number)) ≡ walk (next_in l.self) 256 (next_in l.self l.place);
}

abbrev pub decreases-loop-place : goal.decreases-loop-place
decreases-loop-place l = length (walk (next_in l.self) 256 (next_in l.self l.place))
