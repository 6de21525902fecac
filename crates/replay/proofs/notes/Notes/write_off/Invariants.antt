use Rattle.std.proofs.Common.{vec_len}
use Rattle.replay.proofs.notes.Notes.write_off.Given as goal

abbrev pub decreases-loop-kept : goal.decreases-loop-kept
decreases-loop-kept l = vec_len l.self.kept
