-- Each call has one fill less to begin.
use Rattle.space_tests.proofs.refusals.+begin_beside.Given as goal

abbrev pub decreases-begin_beside : goal.decreases-begin_beside
decreases-begin_beside g l = l.fills
