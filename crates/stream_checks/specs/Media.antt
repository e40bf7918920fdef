-- The findings in a WebM file besides its packets.
use Rattle.std.specs.Prelude.{ℕ, ◌-◌, ◌==◌, ◌&&◌, Bool, if◌then◌else◌, List, ◌++◌, Option, Some, None}
use Rattle.std.specs.List.{flat_map}
use Rattle.webm_files.specs.declared.blocks.Block.{Block}
use Rattle.webm_files.specs.declared.gaps.Gap.{Gap}
use Rattle.webm_files.specs.declared.ids.TheConstants.{CLUSTER}
use Rattle.webm_files.specs.declared.lengths.WrongLength as stated
use Rattle.webm_files.specs.Media.{Kept}
use Rattle.webm_files.specs.Packets.{is_listed, is_packet}
use Rattle.stream_checks.specs.declared.finding.Finding.{Finding}
use Rattle.stream_checks.specs.declared.finding.Trouble.{Trouble}
use Rattle.stream_checks.specs.declared.finding.Trouble.TheVariants.{InWebm}
use Rattle.stream_checks.specs.declared.webm_trouble.WebmTrouble.{WebmTrouble}
use Rattle.stream_checks.specs.declared.webm_trouble.WebmTrouble.TheVariants.{CutElement, Skipped, NoTime, WrongLength, LacedBlock, UnlistedBlock}
use Rattle.stream_checks.specs.Listed.{found_around, listed}

-- bytes that are read as no element, in a file of this size: the end of the file cuts an element there, or they are skipped
abbrev pub gap_trouble : ℕ → Bool → Gap → WebmTrouble
gap_trouble size is_cut gap =
    if is_cut && (gap.end == size) then CutElement gap.start (gap.end - gap.start) else Skipped gap.start (gap.end - gap.start)

abbrev pub gap_findings : ℕ → Bool → List Gap → List Finding
gap_findings size is_cut gaps = flat_map (λ gap. listed (found_around (Some (InWebm (gap_trouble size is_cut gap))))) gaps

-- clusters without a time, which begin at these bytes
abbrev pub cluster_findings : List ℕ → List Finding
cluster_findings places = flat_map (λ place. listed (found_around (Some (InWebm (NoTime place))))) places

-- a length that is wrong
abbrev pub length_trouble : stated.WrongLength → WebmTrouble
length_trouble wrong = WrongLength (wrong.id == CLUSTER) wrong.place wrong.says wrong.ends

abbrev pub length_findings : List stated.WrongLength → List Finding
length_findings lengths = flat_map (λ wrong. listed (found_around (Some (InWebm (length_trouble wrong))))) lengths

-- a block of the video that has several packets, or a block of a track that the file does not list
abbrev pub block_trouble : ℕ → List ℕ → Block → Option Trouble
block_trouble video numbers block =
    if block.track == video then (if is_packet video block then None else Some (InWebm (LacedBlock block.place)))
    else if is_listed numbers block then None
    else Some (InWebm (UnlistedBlock block.place block.track))

abbrev pub block_findings : ℕ → List ℕ → List Block → List Finding
block_findings video numbers blocks = flat_map (λ block. listed (found_around (block_trouble video numbers block))) blocks

-- all of them, in a file of this size
abbrev pub media_findings : ℕ → Kept → List Finding
media_findings size media =
    gap_findings size media.is_cut media.gaps ++ cluster_findings media.timeless ++ length_findings media.lengths
    ++ block_findings media.video media.numbers media.blocks ++ block_findings media.video media.numbers media.unlisted
