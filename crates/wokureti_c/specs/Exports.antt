-- What an export of the frames leaves.
use Rattle.std.specs.Prelude.{◌≡◌, ℕ, List, map}
use Rattle.stream_files.specs.Texts.{written_text}
use Rattle.frame_header.specs.declared.cause.Cause.{Cause}
use Rattle.frame_session.specs.ExportSizes.{padded_packet}
use Rattle.frame_session.specs.Exported.{IsExportFile, IsNotExported}
use Rattle.frame_session.specs.Sessions.{SessionState}
use Rattle.frame_session.specs.declared.export.Export.{Export}
use Rattle.frame_session.specs.declared.refusal.Refusal.{Refusal}
use Rattle.frame_session.specs.declared.refusal.Refusal.TheVariants as refusals
use Rattle.frame_session.specs.declared.session.exports.ExportFault.{ExportFault}
use Rattle.frame_session.specs.declared.session.exports.ExportFault.TheVariants.{Frame, Changed, Packets}
use Rattle.wokureti_c.specs.declared.engine.Engine.{Engine}
use Rattle.wokureti_c.specs.declared.exporting.Unexported.{Unexported}
use Rattle.wokureti_c.specs.Statuses.{number_of_cut_fault, number_of_refusal}

-- the file of an export: its packets are padded
abbrev pub exported_text : Export → List ℕ
exported_text export = written_text export.head (map padded_packet export.packets)

-- the number of the refusal of a frame, and what is reported of it: the packet that decoding refuses
pub record ReportsRefusal (refusal : Refusal) (number : ℕ) (reported : Unexported) : Type 0 where
  pub numbered : number ≡ number_of_refusal refusal
  pub broken : (source place : ℕ) (cause : Cause) → refusal ≡ refusals.Packet source place cause → (reported.source ≡ source) × (reported.packet ≡ place)

-- the number of an error, and what is reported of it: the frame, and the node that changes it
abbrev pub Reports : ExportFault → ℕ → Unexported → Type 0
Reports (Frame frame refusal) number reported = (reported.frame ≡ frame) × ReportsRefusal refusal number reported
Reports (Changed frame node) number reported = (number ≡ 33) × (reported.frame ≡ frame) × (reported.node ≡ node)
Reports (Packets fault) number reported = number ≡ number_of_cut_fault fault

-- why the frames of a session are not exported
abbrev pub IsUnexported : SessionState → ℕ → Unexported → Type 0
IsUnexported now number reported = (fault : ExportFault) × IsNotExported now fault × Reports fault number reported

-- the file of the frames is the text that is left, and nothing else changes
pub record IsExported (old new : Engine) : Type 0 where
  pub export : Export
  pub is : IsExportFile old.session.state export
  pub text : new.text.items ≡ exported_text export
  pub rest : new ≡ record old { text = new.text }
