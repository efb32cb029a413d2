use Rattle.blocks.specs.Blocks.{held}
use Rattle.blocks.proofs.Rooms.{never_refused}
use Rattle.blocks.proofs.blocks.Blocks.clear.Goals as goal

pub unwrap-requires : goal.unwrap-requires
unwrap-requires c = never_refused (held c.args.self.now) c.args.page.number _ _ c.set.result c.set.ensures.held
