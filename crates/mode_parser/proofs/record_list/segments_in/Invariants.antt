use Rattle.std.proofs.Common.{◌≡◌, map, take}
use Rattle.mode_parser.proofs.record_list.segments_in.Given as goal

abbrev pub invariant-loop-record : goal.invariant-loop-record
invariant-loop-record l = l.segments.items ≡ map (λ r. r.segment) (take l.record-index l.stored)
