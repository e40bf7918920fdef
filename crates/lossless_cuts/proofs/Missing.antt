-- No packet of a frame that is decoded is missing.
use Rattle.std.proofs.Common.{◌≡◌, ℕ, Bool, true, false, List, [], ◌∷◌, ◌++◌, length, Option, Some, None, nat_lt, if◌then◌else◌}
use Rattle.std.specs.Option.{option_map, option_or}
use Rattle.std.proofs.lemmas.Bool.{lt-ltb}
use Rattle.std.proofs.lemmas.Option.{slice_get_within}
use Rattle.vp8_tables.specs.declared.tables.Tables.{Tables}
use Rattle.pixel_planes.specs.Pictures.{PictureSamples}
use Rattle.packet_forge.specs.declared.faults.ForgeFault.{ForgeFault}
use Rattle.packet_forge.specs.declared.faults.ForgeFault.TheVariants as forging
use Rattle.lossless_cuts.specs.Exports.{AreDecoded, IsDecoded}
use Rattle.lossless_cuts.specs.Faults.{cut_fault_by, export_fault, fault_after, frame_fault, shown_fault, target_fault}
use Rattle.lossless_cuts.specs.Limits.{is_too_large}
use Rattle.lossless_cuts.specs.Plans.{frame_packets, is_held, packet_at, stream_at}
use Rattle.lossless_cuts.specs.declared.faults.CutFault.{CutFault}
use Rattle.lossless_cuts.specs.declared.faults.CutFault.TheVariants.{Place, Full}
use Rattle.lossless_cuts.specs.declared.targets.Target.{Target}

forge-never : (fault : Option ForgeFault) → option_map cut_fault_by fault ≡ Some Place → ⊥
forge-never None is = cc
forge-never (Some forging.Size) is = cc
forge-never (Some forging.TooLarge) is = cc
forge-never (Some forging.NoMemory) is = cc

own-never : (within : Bool) (fault : Option ForgeFault) → within ≡ true → (if within then option_map cut_fault_by fault else Some Place) ≡ Some Place → ⊥
own-never true fault here is = forge-never fault is
own-never false fault here is = cc

target-never : (own : Option CutFault) (large : Bool) → (own ≡ Some Place → ⊥) → option_or own (if large then Some Full else None) ≡ Some Place → ⊥
target-never None true never is = cc
target-never None false never is = cc
target-never (Some fault) large never is = never is

after-never : (own after : Option CutFault) → (own ≡ Some Place → ⊥) → (after ≡ Some Place → ⊥) → option_or own after ≡ Some Place → ⊥
after-never None after never later is = later is
after-never (Some fault) after never later is = never is

one-there : (tables : Tables) (streams : List (List (List ℕ))) (done : List (List ℕ)) (before : Option Target) (target : Target) (picture : PictureSamples) → IsDecoded tables (stream_at streams target.source) target picture → target_fault tables streams done before target ≡ Some Place → ⊥
one-there tables streams done before target picture decoded is =
    let packets : List (List ℕ) = stream_at streams target.source in
    let within : nat_lt target.place (length packets) ≡ true = lt-ltb target.place (length packets) (slice_get_within packets target.place decoded.packet decoded.here) in
    target-never (frame_fault tables packets before target) (is_too_large (done ++ frame_packets tables packets before target))
    (own-never (nat_lt target.place (length packets)) (shown_fault tables (packet_at packets target.place) target (is_held packets before target)) within) is

all-there : (tables : Tables) (streams : List (List (List ℕ))) (done : List (List ℕ)) (before : Option Target) (targets : List Target) (pictures : List PictureSamples) → AreDecoded tables streams targets pictures → fault_after tables streams done before targets ≡ Some Place → ⊥
all-there tables streams done before [] pictures decoded is = cc
all-there tables streams done before (target ∷ targets) [] decoded is = absurd decoded
all-there tables streams done before (target ∷ targets) (picture ∷ pictures) decoded is =
    after-never (target_fault tables streams done before target) (fault_after tables streams (done ++ frame_packets tables (stream_at streams target.source) before target) (Some target) targets)
    (one-there tables streams done before target picture decoded.0) (all-there tables streams (done ++ frame_packets tables (stream_at streams target.source) before target) (Some target) targets pictures decoded.1) is

pub none_missing : (tables : Tables) (streams : List (List (List ℕ))) (targets : List Target) (pictures : List PictureSamples) → AreDecoded tables streams targets pictures → export_fault tables streams targets ≡ Some Place → ⊥
none_missing tables streams targets pictures decoded is = all-there tables streams [] None targets pictures decoded is
