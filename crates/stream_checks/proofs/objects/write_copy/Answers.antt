use Rattle.std.proofs.KnownBytes.{Appends-trans}
use Rattle.std.proofs.lemmas.Result.{on_ok_weaker}
use Rattle.stream_checks.proofs.objects.write_copy.Goals as goal

pub returns : goal.returns
returns g c =
    on_ok_weaker c.write_field.result (λ p. Appends-trans _ _ _ _ _ c.in_ok-write_kind.ensures p) c.write_field.ensures
