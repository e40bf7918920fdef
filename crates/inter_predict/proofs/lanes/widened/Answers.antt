use Rattle.std.specs.Prelude.{slice_index}
use Rattle.std.proofs.Common.{◌≡◌, ℕ, ◌+◌, ◌<◌, map, ◌∙◌}
use lib.Lanes.{chunk}
use Rattle.std.proofs.lemmas.List.{get_or-map}
use Rattle.std.proofs.lemmas.Simd.{length-chunk, get_or-chunk}
use Rattle.inter_predict.proofs.lanes.widened.Goals as goal

pub returns : goal.returns
returns g c =
    let xs = c.args.samples.now in
    let value : (lane : ℕ) → lane < g.row.N → slice_index (map (λ (a : ℕ). a) (chunk c.args.start g.row.N xs)) lane ≡ slice_index xs (c.args.start + lane) = λ lane less.
    get_or-map (λ (a : ℕ). a) (chunk c.args.start g.row.N xs) lane 0 0 (rw (length-chunk c.args.start g.row.N xs c.requires.room) less) ∙ get_or-chunk c.args.start g.row.N xs lane 0 less in
    record { value = value; bytes = λ lane less. rw (value lane less) (c.type_inv.samples (c.args.start + lane)).fits }
