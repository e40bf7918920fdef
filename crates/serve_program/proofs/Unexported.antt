-- Why nothing is exported.
use Rattle.std.proofs.Common.{◌≡◌, refl, sym, subst}
use Rattle.frame_session.specs.Exported.{IsNotExported}
use Rattle.frame_session.specs.Sessions.{SessionState}
use Rattle.frame_session.specs.declared.refusal.Refusal.TheVariants as refusals
use Rattle.frame_session.specs.declared.session.exports.ExportFault.{ExportFault}
use Rattle.frame_session.specs.declared.session.exports.ExportFault.TheVariants as exports
use Rattle.lossless_cuts.specs.declared.faults.CutFault.TheVariants as cuts
use Rattle.serve_arguments.specs.declared.fault.Fault.{Fault}
use Rattle.serve_program.specs.Endings.{IsExportFault, fault_by_export}

by_fault : (end : SessionState) (fault : ExportFault) → IsNotExported end fault → IsExportFault end (fault_by_export fault)
by_fault end (exports.Frame frame (refusals.Packet source place cause)) why = (exports.Frame frame (refusals.Packet source place cause), why, refl)
by_fault end (exports.Frame frame refusals.CropOutside) why = (exports.Frame frame refusals.CropOutside, why, refl)
by_fault end (exports.Frame frame _) why = tt
by_fault end (exports.Changed frame node) why = (exports.Changed frame node, why, refl)
by_fault end (exports.Packets cuts.Full) why = (exports.Packets cuts.Full, why, refl)
by_fault end (exports.Packets cuts.Place) why = (exports.Packets cuts.Place, why, refl)
by_fault end (exports.Packets cuts.Size) why = (exports.Packets cuts.Size, why, refl)
by_fault end (exports.Packets cuts.TooLarge) why = (exports.Packets cuts.TooLarge, why, refl)
by_fault end (exports.Packets cuts.NoMemory) why = tt

pub export_refused : (end : SessionState) (why : ExportFault) (fault : Fault) → fault ≡ fault_by_export why → IsNotExported end why → IsExportFault end fault
export_refused end why fault is refused = subst (IsExportFault end) (sym is) (by_fault end why refused)
