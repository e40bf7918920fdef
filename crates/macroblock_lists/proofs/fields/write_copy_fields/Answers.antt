use Rattle.std.proofs.KnownBytes.{Appends-trans}
use Rattle.std.proofs.lemmas.Result.{on_ok_weaker}
use Rattle.macroblock_lists.proofs.fields.write_copy_fields.Goals as goal

pub returns : goal.returns
returns g c = on_ok_weaker c.write_number_unless-2.result (λ p. Appends-trans _ _ _ _ _ (rw c.from-golden.ensures at c.in_ok-write_number_unless.ensures) p) (rw c.from-altref.ensures at c.write_number_unless-2.ensures)
