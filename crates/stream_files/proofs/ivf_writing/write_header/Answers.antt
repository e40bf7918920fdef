use Rattle.std.proofs.KnownBytes.{Appends-trans}
use Rattle.std.proofs.lemmas.Result.{on_ok_weaker}
use Rattle.stream_files.proofs.ivf_writing.write_header.Goals as goal

pub returns : goal.returns
returns g c = on_ok_weaker c.write_u32-4.result
    (λ p. Appends-trans _ _ _ _ _ (Appends-trans _ _ _ _ _ (Appends-trans _ _ _ _ _ (Appends-trans _ _ _ _ _ (Appends-trans _ _ _ _ _ (Appends-trans _ _ _ _ _ c.in_ok-write_all.ensures.bytes c.in_ok-write_u16.ensures.bytes) c.in_ok-write_u16-2.ensures.bytes) c.in_ok-write_u32.ensures.bytes) c.in_ok-write_u32-2.ensures.bytes) c.in_ok-write_u32-3.ensures.bytes) p)
    c.write_u32-4.ensures.bytes
