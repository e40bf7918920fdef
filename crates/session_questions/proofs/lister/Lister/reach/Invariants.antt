use Rattle.std.proofs.Common.{◌≡◌, ◌-◌, drop, take}
use Rattle.packet_edits.specs.Shown.{stream_of}
use Rattle.macroblock_lists.specs.Known.{progress_over}
use Rattle.session_questions.proofs.lister.Lister.reach.Given as goal

abbrev pub invariant-loop-place : goal.invariant-loop-place
invariant-loop-place l = l.progress ≡ progress_over l.tables l.start l.initial.progress (take (l.place - l.start) (drop l.start (stream_of l.store.list)))
