use Rattle.std.proofs.Common.{◌≡◌, ◌≤◌, length, take}
use Rattle.frame_session.specs.Answers.{texts_of}
use Rattle.wokureti_c.specs.Openings.{files_from}
use Rattle.wokureti_c.proofs.Cut.{last_end}
use Rattle.wokureti_c.proofs.opening.files_in.Given as goal

abbrev pub invariant-loop-end : goal.invariant-loop-end
invariant-loop-end l = record {
  files : texts_of l.files.items ≡ files_from 0 l.bytes (take l.end-index l.ends);
  count : length l.files.items ≡ l.end-index;
  start : l.start ≡ last_end 0 (take l.end-index l.ends);
  within : l.start ≤ length l.bytes;
}
