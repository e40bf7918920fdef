-- The line of an export, by its numbers.
use Rattle.std.proofs.Common.{◌≡◌, ℕ, length, not, refl}
use Rattle.std.specs.List.{count_by}
use Rattle.frame_header.specs.Tags.{is_shown}
use Rattle.stream_files.specs.declared.packets.Packet.{Packet}
use Rattle.frame_session.specs.ExportSizes.{saved_bytes}
use Rattle.frame_session.specs.declared.export.Export.{Export}
use Rattle.serve_program.specs.Reports.{export_line, numbers_line}

pub same_line : (export : Export) (frames packets hidden bytes steps : ℕ) → packets ≡ length export.packets → hidden ≡ count_by (λ (packet : Packet). not (is_shown packet.bytes)) export.packets → bytes ≡ saved_bytes export.packets
    → numbers_line frames packets hidden bytes steps ≡ export_line export frames steps
same_line export frames packets hidden bytes steps p h b = rw (p, h, b) refl
