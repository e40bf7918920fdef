use Rattle.mode_parser.proofs.RecordLists.{stored-segments}
use Rattle.mode_parser.proofs.record_list.Records.segments.Goals as goal

pub returns : goal.returns
returns c = rw (← c.self.view_is, stored-segments, ← c.deref.ensures.value) c.segments_in.ensures
