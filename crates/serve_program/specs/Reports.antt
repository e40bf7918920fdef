-- What is reported of an export.
use Rattle.std.specs.Prelude.{ℕ, not, List, [], ◌++◌, codes, length, Option, Some, None}
use Rattle.std.specs.Fmt.{decimal}
use Rattle.std.specs.List.{count_by}
use Rattle.frame_header.specs.Tags.{is_shown}
use Rattle.stream_files.specs.declared.packets.Packet.{Packet}
use Rattle.frame_session.specs.ExportSizes.{saved_bytes}
use Rattle.frame_session.specs.declared.export.Export.{Export}

-- the two parts of the line of an export: its packets, and what they take
abbrev pub packets_part : (frames packets hidden : ℕ) → List ℕ
packets_part frames packets hidden = codes "exported " ++ (decimal frames ++ (codes " frames as " ++ (decimal packets ++ (codes " packets, " ++ (decimal hidden ++ codes " of them hidden, ")))))

abbrev pub size_part : (bytes steps : ℕ) → List ℕ
size_part bytes steps = decimal bytes ++ (codes " bytes; " ++ (decimal steps ++ codes " decoding steps\n"))

-- the line with these numbers
abbrev pub numbers_line : (frames packets hidden bytes steps : ℕ) → List ℕ
numbers_line frames packets hidden bytes steps = packets_part frames packets hidden ++ size_part bytes steps

-- the line of an export, with the number of frames of the script and of decoding steps of the run
abbrev pub export_line : Export → (frames : ℕ) → (steps : ℕ) → List ℕ
export_line export frames steps =
    numbers_line frames (length export.packets) (count_by (λ (packet : Packet). not (is_shown packet.bytes)) export.packets) (saved_bytes export.packets) steps

-- it, if the frames were exported
abbrev pub export_report : Option Export → (frames : ℕ) → (steps : ℕ) → List ℕ
export_report None frames steps = []
export_report (Some export) frames steps = export_line export frames steps
