use Rattle.std.proofs.Common.{◌≡◌, take}
use Rattle.packet_edits.specs.Saved.{packets_of}
use Rattle.stream_checks.specs.Stamps.{shown_stamps}
use Rattle.session_questions.proofs.findings.pace_of.Given as goal

abbrev pub invariant-loop-place : goal.invariant-loop-place
invariant-loop-place l = l.stamps.items ≡ shown_stamps (take l.place (packets_of l.store.list))
