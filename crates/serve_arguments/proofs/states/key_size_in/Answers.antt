use Rattle.std.proofs.Common.{◌∙◌, ap}
use Rattle.stream_sources.proofs.OneStream.{agree, stream_refused}
use Rattle.stream_facts.specs.Facts.{first_key_size}
use Rattle.serve_arguments.proofs.states.key_size_in.Goals as goal

pub returns-in-Ok-clause-size : goal.returns-in-Ok-clause-size
returns-in-Ok-clause-size g c = λ file is.
    let same = agree (g.B.FileBytes.bytes c.args.stream.now) c.in-Ok.file file c.in-Ok.ensures is in
    c.first_key_size.ensures ∙ ap first_key_size c.as_slice.ensures ∙ ap first_key_size same.1

-- bytes that are refused otherwise than out of memory are not a stream
pub returns-in_default-clause-size : goal.returns-in_default-clause-size
returns-in_default-clause-size g c = λ file is. absurd (c.in_default.not-NoMemory (stream_refused (g.B.FileBytes.bytes c.args.stream.now) file c.in-Err.fault is c.in-Err.ensures))
