pub mod OnePair
pub mod NoFrames
pub mod CountedLoads
pub mod CountedRefusals
