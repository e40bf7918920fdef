-- The numbers of refusals and errors.
use Rattle.std.specs.Prelude.{ℕ, ◌+◌, ◌*◌}
use Rattle.frame_session.specs.declared.refusal.Refusal.{Refusal}
use Rattle.frame_session.specs.declared.refusal.Refusal.TheVariants as refusals
use Rattle.lossless_cuts.specs.declared.faults.CutFault.{CutFault}
use Rattle.lossless_cuts.specs.declared.faults.CutFault.TheVariants as cuts
use Rattle.stream_sources.specs.declared.faults.StreamFault.{StreamFault}
use Rattle.stream_sources.specs.declared.faults.StreamFault.TheVariants as faults

-- the number of a version, by its three numbers
abbrev pub version_number : (major minor patch : ℕ) → ℕ
version_number major minor patch = 10000 * major + 100 * minor + patch

-- the number of a refusal
abbrev pub number_of_refusal : Refusal → ℕ
number_of_refusal refusals.Line = 16
number_of_refusal refusals.Source = 17
number_of_refusal refusals.Place = 18
number_of_refusal refusals.Full = 19
number_of_refusal refusals.Spent = 20
number_of_refusal refusals.Size = 21
number_of_refusal refusals.TooLarge = 22
number_of_refusal refusals.NoSuchFrame = 23
number_of_refusal (refusals.Packet source place cause) = 24
number_of_refusal refusals.CropOutside = 25
number_of_refusal refusals.SizeDiffers = 26
number_of_refusal refusals.Syntax = 27
number_of_refusal refusals.Nodes = 28
number_of_refusal refusals.Reference = 29
number_of_refusal refusals.Number = 30
number_of_refusal refusals.NoMemory = 31
number_of_refusal refusals.NoBit = 32

-- the number of the error of the packets of an export
abbrev pub number_of_cut_fault : CutFault → ℕ
number_of_cut_fault cuts.Place = 34
number_of_cut_fault cuts.Full = 35
number_of_cut_fault cuts.Size = 36
number_of_cut_fault cuts.TooLarge = 37
number_of_cut_fault cuts.NoMemory = 3

-- the number of the error of a file
abbrev pub number_of_file_fault : StreamFault → ℕ
number_of_file_fault faults.Header = 1
number_of_file_fault faults.Magic = 2
number_of_file_fault faults.FourCc = 3
number_of_file_fault faults.HeaderLength = 4
number_of_file_fault faults.TooMany = 5
number_of_file_fault faults.NoMemory = 6
number_of_file_fault faults.DocType = 7
number_of_file_fault faults.NoTracks = 8
number_of_file_fault faults.NoVideo = 9
number_of_file_fault faults.Encoded = 10
number_of_file_fault faults.Scale = 11
