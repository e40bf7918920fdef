use Rattle.std.proofs.KnownBytes.{Appends-trans}
use Rattle.std.proofs.lemmas.Result.{on_ok_weaker}
use Rattle.stream_checks.proofs.objects.write_cut_element.Goals as goal

pub returns : goal.returns
returns g c = on_ok_weaker c.write_number.result (λ p. Appends-trans _ _ _ _ _ c.in_ok-write_byte.ensures p) c.write_number.ensures
