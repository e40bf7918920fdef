use Rattle.std.proofs.Common.{◌≡◌, ◌≤◌, ℕ, List, None, length, map, refl, rules, arith, ap, subst, sym, ◌∙◌}
use Rattle.lossless_cuts.specs.Faults.{export_fault}
use Rattle.lossless_cuts.specs.Limits.{file_size}
use Rattle.lossless_cuts.specs.declared.targets.Target.{Target}
use Rattle.lossless_cuts.specs.Plans.{exported}
use Rattle.packet_times.specs.Heads.{IsHeadFor}
use Rattle.packet_times.specs.Stamps.{stamped}
use Rattle.packet_times.specs.Sums.{bases_of, stamps_of}
use Rattle.frame_session.specs.Exported.{HaveTargets, duration_at, export_head, streams_in}
use Rattle.frame_session.specs.Sessions.{SessionState, frame_count}
use Rattle.frame_session.specs.declared.export.Export.{Export}
use Rattle.frame_session.proofs.ExportedFrames.{export_is, packing_fault, stamped_length}
use Rattle.frame_session.proofs.session.Session.export.Goals as goal

pub returns-clause-file : goal.returns-clause-file
returns-clause-file c =
    let now : SessionState = c.args.self.now.state in
    let targets : List Target = c.in_ok-targets.targets.items in
    let bytes : List (List ℕ) = c.in_ok-bytes.bytes.items in
    let file : Export = c.in_ok-file.file in
    let made : bytes ≡ exported now.tables (streams_in now) None targets = c.in_ok-bytes.ensures.value ∙ ap (λ (ts : List Target). exported now.tables (streams_in now) None ts) c.deref.ensures.value in
    let all : length targets ≡ frame_count now = c.in_ok-targets.ensures.count ∙ c.frames-count.ensures in
    let stamps : file.packets ≡ stamped (stamps_of file.head (map (duration_at now) targets)) bytes = c.in_ok-file.ensures.packets ∙ ap (λ (ts : List Target). stamped (stamps_of file.head (map (duration_at now) ts)) bytes) c.deref-2.ensures.value in
    record {
      targets = targets;
      frames = c.in_ok-targets.ensures.targets;
      all = all;
      shows = export_is now.tables now targets c.prove_exports.ensures refl c.in_ok-targets.ensures.targets all;
      head = subst (λ (ts : List Target). IsHeadFor (export_head now.head ts) (bases_of (map (duration_at now) ts)) file.head) c.deref-2.ensures.value c.in_ok-file.ensures.head;
      stamps = stamps ∙ ap (stamped (stamps_of file.head (map (duration_at now) targets))) made;
      allowed = ap (export_fault now.tables (streams_in now)) (sym c.deref.ensures.value) ∙ c.in_ok-bytes.ensures.allowed;
      few = omega (arith, ap length stamps, stamped_length (stamps_of file.head (map (duration_at now) targets)) bytes, c.in_ok-bytes.ensures.few);
      small = subst (λ (ps : List (List ℕ)). file_size ps ≤ 1073741824) made c.in_ok-bytes.ensures.small;
    }

pub returns-in_err-bytes-clause-fault : goal.returns-in_err-bytes-clause-fault
returns-in_err-bytes-clause-fault c =
    let now : SessionState = c.args.self.now.state in
    let targets : List Target = c.deref.result.now in
    let have : HaveTargets now 0 targets = subst (HaveTargets now 0) (sym c.deref.ensures.value) c.in_ok-targets.ensures.targets in
    let all : length targets ≡ frame_count now = ap length c.deref.ensures.value ∙ c.in_ok-targets.ensures.count ∙ c.frames-count.ensures in
    let why = packing_fault now targets c.in_err-bytes.field-0.0 have all c.in_err-bytes.ensures.fault in
    search rules
