use Rattle.std.proofs.Common.{vec_len}
use Rattle.chain_tests.proofs.nbd_session_tests.note.Given as goal

abbrev pub decreases-loop-demand : goal.decreases-loop-demand
decreases-loop-demand g l = vec_len l.demands
