use Rattle.std.proofs.KnownBytes.{Appends-trans}
use Rattle.std.proofs.lemmas.Result.{on_ok_weaker}
use Rattle.stream_checks.proofs.webm_trouble.write_ends.Goals as goal

pub returns : goal.returns
returns g c = on_ok_weaker c.write_end.result (λ p. Appends-trans _ _ _ _ _ c.in_ok-write_what.ensures p) c.write_end.ensures
