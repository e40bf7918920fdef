use Rattle.std.proofs.Common.{◌≡◌, ℕ, Option, ap, ◌∙◌}
use Rattle.std.specs.Prelude.{unwrap_or}
use Rattle.packet_edits.specs.Shown.{stream_of}
use Rattle.lossless_cuts.specs.Plans.{key_place}
use Rattle.lossless_cuts.proofs.AcceptedRuns.{key-run}
use Rattle.lossless_cuts.proofs.Keys.{last_key-by}
use Rattle.lossless_cuts.proofs.cuts.key_place.Goals as goal

pub returns-clause-value : goal.returns-clause-value
returns-clause-value c = c.unwrap_or.ensures ∙ ap (λ (o : Option ℕ). unwrap_or o 0) (last_key-by (stream_of c.args.list.now.list) c.args.place c.last_key.result c.last_key.ensures)

pub returns-clause-run : goal.returns-clause-run
returns-clause-run c =
    let value : c.unwrap_or.result ≡ key_place (stream_of c.args.list.now.list) c.args.place =
    c.unwrap_or.ensures ∙ ap (λ (o : Option ℕ). unwrap_or o 0) (last_key-by (stream_of c.args.list.now.list) c.args.place c.last_key.result c.last_key.ensures) in
    value ∙ key-run (stream_of c.args.list.now.list) c.args.place
