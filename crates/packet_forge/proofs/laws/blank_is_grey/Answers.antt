use Rattle.std.proofs.Common.{◌≡◌, ◌<◌, ℕ, length}
use Rattle.std.specs.Prelude.{slice_index}
use Rattle.std.specs.Option.{option_copied}
use Rattle.packet_forge.proofs.BlankStep.{probable_entries, blank_grey}
use Rattle.packet_forge.proofs.laws.blank_is_grey.Goals as goal

pub returns : goal.returns
returns c =
    let count : length c.args.tables.now.updates ≡ 1056 = rw c.updates.ensures at c.prove_length.ensures in
    let small : (place : ℕ) → slice_index c.args.tables.now.updates place < 256 = rw c.updates-2.ensures at c.prove_bytes.ensures in
    blank_grey c.args.tables.now (option_copied c.args.state) c.args.width c.args.height count (probable_entries c.args.tables.now.updates small)
