use Rattle.std.proofs.Common.{◌≡◌, ◌≢◌, ◌<◌, ◌∙◌, ℕ, List, None, Some, length, get_or, ap, rules, arith}
use Rattle.std.proofs.lemmas.List.{get_or_default}
use Rattle.lossless_cuts.specs.Faults.{export_fault}
use Rattle.lossless_cuts.specs.Limits.{IsTooLarge}
use Rattle.lossless_cuts.specs.Plans.{exported, streams_of}
use Rattle.lossless_cuts.specs.declared.faults.CutFault.{CutFault}
use Rattle.lossless_cuts.specs.declared.faults.CutFault.TheVariants.{Full, NoMemory}
use Rattle.lossless_cuts.specs.declared.targets.Target.{Target}
use Rattle.lossless_cuts.proofs.Pushed.{export_large, exported_next, fault_here, fault_next, next_target}
use Rattle.lossless_cuts.proofs.exports.export_packets.Goals as goal

pub loop-target-preserved : goal.loop-target-preserved
loop-target-preserved c =
    let streams : List (List (List ℕ)) = streams_of c.args.stores.now in
    let none : Target = record { source = 0; place = 0; width = 0; height = 0 } in
    let target : Target = get_or c.args.targets.now c.loop-target.target-index none in
    let within : c.loop-target.target-index < length c.args.targets.now = omega arith in
    let is : target ≡ get_or c.args.targets.now c.loop-target.target-index target = get_or_default c.args.targets.now c.loop-target.target-index none target within in
    let next = next_target c.args.targets.now c.loop-target.target-index target within is in
    record {
      packets = exported_next c.args.tables.now streams c.loop-target.out.packets.items c.push_target.new.out.packets.items _ c.loop-target.before c.args.targets.now c.loop-target.target-index target next c.in_ok-push_target.ensures.value c.loop-target.invariant.packets;
      fault = fault_next c.args.tables.now streams c.loop-target.out.packets.items c.push_target.new.out.packets.items _ c.loop-target.before c.args.targets.now c.loop-target.target-index target next c.in_ok-push_target.ensures.value c.in_ok-push_target.ensures.allowed c.loop-target.invariant.fault;
      room = c.in_ok-push_target.ensures.room;
      fits = c.in_ok-push_target.ensures.fits;
    }

pub returns-in_err-push_target-clause-refused : goal.returns-in_err-push_target-clause-refused
returns-in_err-push_target-clause-refused c =
    let streams : List (List (List ℕ)) = streams_of c.args.stores.now in
    let fault : CutFault = c.in_err-push_target.field-0.0 in
    let none : Target = record { source = 0; place = 0; width = 0; height = 0 } in
    let target : Target = get_or c.args.targets.now c.loop-target.target-index none in
    let within : c.loop-target.target-index < length c.args.targets.now = omega arith in
    let is : target ≡ get_or c.args.targets.now c.loop-target.target-index target = get_or_default c.args.targets.now c.loop-target.target-index none target within in
    let next = next_target c.args.targets.now c.loop-target.target-index target within is in
    let why : fault ≢ NoMemory → export_fault c.args.tables.now streams c.args.targets.now ≡ Some fault =
    λ other. fault_here c.args.tables.now streams c.loop-target.out.packets.items _ c.loop-target.before c.args.targets.now c.loop-target.target-index target fault next (c.in_err-push_target.ensures.refused other) c.loop-target.invariant.fault in
    search rules

pub returns-in_err-push_target-clause-full : goal.returns-in_err-push_target-clause-full
returns-in_err-push_target-clause-full c =
    let streams : List (List (List ℕ)) = streams_of c.args.stores.now in
    let fault : CutFault = c.in_err-push_target.field-0.0 in
    let none : Target = record { source = 0; place = 0; width = 0; height = 0 } in
    let target : Target = get_or c.args.targets.now c.loop-target.target-index none in
    let within : c.loop-target.target-index < length c.args.targets.now = omega arith in
    let is : target ≡ get_or c.args.targets.now c.loop-target.target-index target = get_or_default c.args.targets.now c.loop-target.target-index none target within in
    let next = next_target c.args.targets.now c.loop-target.target-index target within is in
    let why : fault ≡ Full → IsTooLarge (exported c.args.tables.now streams None c.args.targets.now) =
    λ full.
    export_large c.args.tables.now streams c.args.targets.now
    (fault_here c.args.tables.now streams c.loop-target.out.packets.items _ c.loop-target.before c.args.targets.now c.loop-target.target-index target fault next (c.in_err-push_target.ensures.refused (λ memory. cc)) c.loop-target.invariant.fault ∙ ap (λ (f : CutFault). Some f) full) in
    search rules
