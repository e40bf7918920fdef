use Rattle.std.proofs.Common.{◌≡◌, ◌∙◌, ◌&&◌, ℕ, List, Option, Some, sym, ap}
use Rattle.packet_edits.specs.Shown.{stream_of}
use Rattle.lossless_cuts.specs.Faults.{cut_fault_by}
use Rattle.lossless_cuts.specs.Plans.{leaves_last, repeats}
use Rattle.lossless_cuts.specs.declared.faults.CutFault.{CutFault}
use Rattle.lossless_cuts.proofs.Pushed.{frame_faulted}
use Rattle.lossless_cuts.proofs.cuts.plan_of.Goals as goal

pub returns-in-Err-clause-refused : goal.returns-in-Err-clause-refused
returns-in-Err-clause-refused c = λ other.
    let packets : List (List ℕ) = stream_of c.args.list.now.list in
    let held : c.is_held-held.result ≡ (repeats c.args.before c.args.target && leaves_last c.bytes-packet.result.now) = c.is_held-held.ensures ∙ ap (λ (p : List ℕ). repeats c.args.before c.args.target && leaves_last p) c.as_slice.ensures in
    frame_faulted c.args.tables.now packets c.args.before c.args.target c.bytes-packet.result.now c.is_held-held.result (Some c.in-Err.fault) c.bytes-packet.ensures held (c.in-Err.ensures.refused (λ is. other (c.by.ensures ∙ ap cut_fault_by is)))
    ∙ ap (λ (fault : CutFault). let o : Option CutFault = Some fault in o) (sym c.by.ensures)
