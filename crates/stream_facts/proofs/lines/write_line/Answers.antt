use Rattle.std.proofs.KnownBytes.{Appends-trans}
use Rattle.std.proofs.lemmas.Result.{on_ok_weaker}
use Rattle.stream_facts.proofs.lines.write_line.Goals as goal

pub returns : goal.returns
returns g c =
    on_ok_weaker c.write_colors.result
    (λ p. Appends-trans _ _ _ _ _ (Appends-trans _ _ _ _ _ (Appends-trans _ _ _ _ _ (Appends-trans _ _ _ _ _ (Appends-trans _ _ _ _ _ (Appends-trans _ _ _ _ _
    c.in_ok-write_place.ensures c.in_ok-write_tag.ensures) c.in_ok-write_sizes.ensures) c.in_ok-write_header.ensures) c.in_ok-write_cause_column.ensures) c.in_ok-write_file.ensures) p)
    c.write_colors.ensures
