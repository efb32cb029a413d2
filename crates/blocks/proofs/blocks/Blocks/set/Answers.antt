use Rattle.blocks.proofs.Rooms.{page_set, page_sets}
use Rattle.blocks.proofs.blocks.Blocks.set.Goals as goal

pub returns-in-None-clause-held : goal.returns-in-None-clause-held
returns-in-None-clause-held c =
    page_set c.args.self.now c.set_word.new.self _ _ _ c.args.to c.block-block.ensures c.offset-offset.ensures c.set_word.result c.set_word.ensures.held

pub returns-in-Some-default-Compact-clause-held : goal.returns-in-Some-default-Compact-clause-held
returns-in-Some-default-Compact-clause-held c =
    page_set c.args.self.now c.set_word-in-Some-default-Compact.new.self _ _ _ c.args.to c.block-block.ensures c.offset-offset.ensures c.set_word-in-Some-default-Compact.result c.set_word-in-Some-default-Compact.ensures.held

pub returns-in-Some-default-Row-clause-held : goal.returns-in-Some-default-Row-clause-held
returns-in-Some-default-Row-clause-held c =
    page_sets c.args.self.now c.set_row.new.self _ _ _ c.args.to c.block-block.ensures c.offset-offset.ensures (c.set_row.ensures.room, c.set_row.ensures.held)
