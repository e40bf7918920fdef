use Rattle.std.proofs.KnownBytes.{Appends-trans}
use Rattle.std.proofs.lemmas.Result.{on_ok_weaker}
use Rattle.stream_facts.proofs.json.write_fields.Goals as goal

pub returns : goal.returns
returns g c =
    on_ok_weaker c.write_references.result
    (λ p. Appends-trans _ _ _ _ _ (Appends-trans _ _ _ _ _ (Appends-trans _ _ _ _ _ c.in_ok-write_number.ensures (rw c.from.ensures at c.in_ok-write_number-2.ensures)) (rw c.from-2.ensures at c.in_ok-write_number-3.ensures)) p)
    c.write_references.ensures
