use Rattle.std.proofs.KnownBytes.{Appends-trans}
use Rattle.std.proofs.lemmas.Result.{on_ok_weaker}
use Rattle.stream_files.proofs.ivf_writing.write_record.Goals as goal

pub returns : goal.returns
returns g c = on_ok_weaker c.write_all.result (λ p. Appends-trans _ _ _ _ _ c.in_ok-write_front.ensures p) c.write_all.ensures.bytes
