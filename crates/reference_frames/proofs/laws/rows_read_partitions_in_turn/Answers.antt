use Rattle.std.proofs.Common.{length, arith}
use Rattle.std.proofs.Math.Nat.{add-mod_right}
use Rattle.std.proofs.lemmas.List.{get_or-set_other}
use Rattle.reference_frames.specs.FrameTokens.{partition_of}
use Rattle.reference_frames.proofs.laws.rows_read_partitions_in_turn.Goals as goal

pub returns : goal.returns
returns c = record {
  first = λ state row less. grind arith;
  again = λ state row. add-mod_right row (length state.readers);
  only = λ state column row other read none apart. get_or-set_other state.readers (partition_of state row) other read.1 none apart;
}
