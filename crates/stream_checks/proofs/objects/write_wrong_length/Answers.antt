use Rattle.std.proofs.KnownBytes.{Appends-trans}
use Rattle.std.proofs.lemmas.Result.{on_ok_weaker}
use Rattle.stream_checks.proofs.objects.write_wrong_length.Goals as goal

pub returns : goal.returns
returns g c =
    on_ok_weaker c.write_number-2.result
    (λ p. Appends-trans _ _ _ _ _ (Appends-trans _ _ _ _ _ (Appends-trans _ _ _ _ _ c.in_ok-write_byte.ensures c.in_ok-write_element.ensures) c.in_ok-write_number.ensures) p)
    c.write_number-2.ensures
