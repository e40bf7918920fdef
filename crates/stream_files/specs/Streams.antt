-- Streams.
use Rattle.stream_files.specs.declared.streams.FrameRate.{FrameRate}
use Rattle.stream_files.specs.declared.streams.Head.{Head}

-- the frame rate of a stream whose frames last one unit of its time base each
abbrev pub rate_of : Head → FrameRate
rate_of head = record { rate = head.rate; scale = head.scale }
