use Rattle.std.proofs.Common.{◌≡◌, List, ℕ, None, Some, IfOk, IfErr, map, ap, subst, sym, ◌∙◌}
use Rattle.std.specs.Prelude.{OnOk}
use Rattle.std.proofs.lemmas.Result.{IfErr-weaker, IfOk-weaker, on_ok_weaker}
use Rattle.packet_edits.specs.Shown.{stream_of}
use Rattle.lossless_cuts.specs.Faults.{export_fault}
use Rattle.lossless_cuts.specs.Limits.{IsTooLarge}
use Rattle.lossless_cuts.specs.Plans.{exported, streams_of}
use Rattle.lossless_cuts.specs.declared.faults.CutFault.TheVariants as cuts
use Rattle.frame_session.specs.Cached.{SessionValue, lists_of}
use Rattle.frame_session.specs.Exported.{streams_in}
use Rattle.frame_session.proofs.ExportedFrames.{streams_same}
use Rattle.frame_session.proofs.session.Session.packets_of.Goals as goal

pub returns-clause-value : goal.returns-clause-value
returns-clause-value c =
    let P : SessionValue → Type 0 = λ v. IfOk c.export_packets.result (λ packets. packets.items ≡ exported v.state.tables (streams_in v.state) None c.args.targets.now) in
    let same : streams_of c.deref.result.now ≡ map stream_of (lists_of c.self.inside.stores.items) = ap streams_of c.deref.ensures.value ∙ streams_same c.self.inside.stores.items in
    subst P c.self.view_is (IfOk-weaker c.export_packets.result _ _ (λ packets is. is ∙ ap (λ (ss : List (List (List ℕ))). exported c.self.inside.tables ss None c.args.targets.now) same) c.export_packets.ensures.value)

pub returns-clause-allowed : goal.returns-clause-allowed
returns-clause-allowed c =
    let P : SessionValue → Type 0 = λ v. OnOk c.export_packets.result (export_fault v.state.tables (streams_in v.state) c.args.targets.now ≡ None) in
    let same : streams_of c.deref.result.now ≡ map stream_of (lists_of c.self.inside.stores.items) = ap streams_of c.deref.ensures.value ∙ streams_same c.self.inside.stores.items in
    subst P c.self.view_is (on_ok_weaker c.export_packets.result (λ is. ap (λ (ss : List (List (List ℕ))). export_fault c.self.inside.tables ss c.args.targets.now) (sym same) ∙ is) c.export_packets.ensures.allowed)

pub returns-clause-refused : goal.returns-clause-refused
returns-clause-refused c =
    let P : SessionValue → Type 0 = λ v. IfErr c.export_packets.result (λ fault. (fault ≡ cuts.NoMemory → ⊥) → export_fault v.state.tables (streams_in v.state) c.args.targets.now ≡ Some fault) in
    let same : streams_of c.deref.result.now ≡ map stream_of (lists_of c.self.inside.stores.items) = ap streams_of c.deref.ensures.value ∙ streams_same c.self.inside.stores.items in
    subst P c.self.view_is (IfErr-weaker c.export_packets.result _ _ (λ fault is other. ap (λ (ss : List (List (List ℕ))). export_fault c.self.inside.tables ss c.args.targets.now) (sym same) ∙ is other) c.export_packets.ensures.refused)

pub returns-clause-full : goal.returns-clause-full
returns-clause-full c =
    let P : SessionValue → Type 0 = λ v. IfErr c.export_packets.result (λ fault. fault ≡ cuts.Full → IsTooLarge (exported v.state.tables (streams_in v.state) None c.args.targets.now)) in
    let same : streams_of c.deref.result.now ≡ map stream_of (lists_of c.self.inside.stores.items) = ap streams_of c.deref.ensures.value ∙ streams_same c.self.inside.stores.items in
    subst P c.self.view_is (IfErr-weaker c.export_packets.result _ _ (λ fault is full. subst IsTooLarge (ap (λ (ss : List (List (List ℕ))). exported c.self.inside.tables ss None c.args.targets.now) same) (is full)) c.export_packets.ensures.full)
