use Rattle.std.proofs.Common.{◌≡◌, ◌<◌, ℕ, length}
use Rattle.std.specs.Prelude.{slice_index}
use Rattle.lossless_cuts.proofs.AllFrames.{exports_show_their_frames}
use Rattle.lossless_cuts.proofs.Leads.{Laws}
use Rattle.lossless_cuts.proofs.laws.exports_show_their_frames.Goals as goal

pub returns : goal.returns
returns c =
    let laws : Laws = record {
      keys = c.keys_step_from_none.ensures;
      hides = c.show_bits_keep_steps.ensures;
      says = c.only_the_show_bit_changes.ensures.says;
      clears = c.holds_clear_biases.ensures;
      anew = c.biases_are_set_anew.ensures;
      holds = c.hold_shows_last.ensures;
    } in
    let count : length c.args.tables.now.updates ≡ 1056 = rw c.updates.ensures at c.prove_length.ensures in
    let small : (place : ℕ) → slice_index c.args.tables.now.updates place < 256 = rw c.updates-2.ensures at c.prove_entries.ensures in
    exports_show_their_frames laws c.outlines_are_headers.ensures c.zeros_keep_steps.ensures.padding c.zeros_keep_headers.ensures.shown c.args.tables.now (count, small)
