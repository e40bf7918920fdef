-- The packets of one frame more.
use Rattle.std.proofs.Common.{◌≡◌, ℕ, suc, zero, ◌+◌, ◌<◌, ◌≤◌, List, [], ◌∷◌, ◌++◌, Bool, true, false, ◌&&◌, length, slice_get, drop, get_or, Option, Some, None, refl, sym, ap, subst, inl, inr, ◌∙◌, append_assoc, arith, nat_lt, if◌then◌else◌}
use Rattle.std.specs.Prelude.{slice_range}
use Rattle.std.specs.Option.{option_map, option_or}
use Rattle.std.proofs.lemmas.Bool.{le-ltb, lt-ltb, ltb-false, ltb-true, or_cases, or_from, or_left, or_parts, or_right}
use Rattle.std.proofs.lemmas.List.{drop_more, length-append}
use Rattle.std.proofs.lemmas.List.Sums.{sum_by-append}
use Rattle.std.proofs.lemmas.Option.{slice_get_within}
use Rattle.vp8_tables.specs.Tables.{TableEntries}
use Rattle.packet_edits.specs.Marks.{StoreValue}
use Rattle.packet_edits.specs.Shown.{stream_of}
use Rattle.packet_forge.specs.declared.faults.ForgeFault.{ForgeFault}
use Rattle.packet_forge.specs.declared.faults.ForgeFault.TheVariants as forging
use Rattle.lossless_cuts.specs.Faults.{cut_fault_by, export_fault, fault_after, frame_fault, shown_fault, target_fault}
use Rattle.lossless_cuts.specs.declared.faults.CutFault.{CutFault}
use Rattle.lossless_cuts.specs.declared.faults.CutFault.TheVariants.{Place, Full}
use Rattle.lossless_cuts.specs.declared.targets.Target.{Target}
use Rattle.lossless_cuts.specs.Limits.{IsTooLarge, file_size, is_too_large, record_size, records_size}
use Rattle.lossless_cuts.specs.Plans.{exported, frame_packets, hidden, is_held, lead, lead_if, leaves_last, packet_at, packet_shown, repeats, stream_at, streams_of}
use Rattle.lossless_cuts.proofs.Frames.{packet-is}

-- ---- sizes

pub size_append : (xs ys : List (List ℕ)) → records_size (xs ++ ys) ≡ records_size xs + records_size ys
size_append xs ys = sum_by-append record_size xs ys

large_more : (xs ys : List (List ℕ)) → IsTooLarge xs → IsTooLarge (xs ++ ys)
large_more xs ys (inl many) = inl (omega (arith, many, length-append xs ys))
large_more xs ys (inr long) = inr (omega (arith, long, size_append xs ys))

large_is : (packets : List (List ℕ)) → is_too_large packets ≡ true → IsTooLarge packets
large_is packets is = elim (or_cases (nat_lt 1048576 (length packets)) (nat_lt 1073741824 (file_size packets)) is) [
  | inl many ↦ inl (ltb-true 1048576 (length packets) many)
  | inr long ↦ inr (ltb-true 1073741824 (file_size packets) long)
]

pub small_is : (packets : List (List ℕ)) → is_too_large packets ≡ false → (length packets ≤ 1048576) × (file_size packets ≤ 1073741824)
small_is packets is =
    let parts = or_parts (nat_lt 1048576 (length packets)) (nat_lt 1073741824 (file_size packets)) is in
    (ltb-false 1048576 (length packets) parts.0, ltb-false 1073741824 (file_size packets) parts.1)

-- packets that were pushed, of which the bytes were counted
pub room_after : (old more new : List (List ℕ)) (left after : ℕ) → new ≡ old ++ more → left + records_size old ≡ 1073741792 → after + records_size more ≡ left → after + records_size new ≡ 1073741792
room_after old more new left after is was now = omega (arith, was, now, ap records_size is, size_append old more)

pub fits_after : (old more new : List (List ℕ)) (left after : ℕ) → new ≡ old ++ more → left + records_size old ≡ 1073741792 → after + records_size more ≡ left → length new ≤ 1048576 → is_too_large (old ++ more) ≡ false
fits_after old more new left after is was now few =
    or_from (nat_lt 1048576 (length (old ++ more))) (nat_lt 1073741824 (file_size (old ++ more))) (le-ltb 1048576 (length (old ++ more)) (omega (arith, few, ap length is)))
    (le-ltb 1073741824 (file_size (old ++ more)) (omega (arith, was, now, size_append old more)))

pub over_after : (old more : List (List ℕ)) (left : ℕ) → left + records_size old ≡ 1073741792 → left < records_size more → is_too_large (old ++ more) ≡ true
over_after old more left was over =
    or_right (nat_lt 1048576 (length (old ++ more))) (nat_lt 1073741824 (file_size (old ++ more))) (lt-ltb 1073741824 (file_size (old ++ more)) (omega (arith, was, over, size_append old more)))

pub many_after : (old more new : List (List ℕ)) → new ≡ old ++ more → 1048576 < length new → is_too_large (old ++ more) ≡ true
many_after old more new is many = or_left (nat_lt 1048576 (length (old ++ more))) (nat_lt 1073741824 (file_size (old ++ more))) (lt-ltb 1048576 (length (old ++ more)) (omega (arith, many, ap length is)))

-- ---- one frame

-- a source's packets by its store
pub stream-is : (stores : List StoreValue) (source : ℕ) (store : StoreValue) → source < length stores → store ≡ get_or stores source store → stream_at (streams_of stores) source ≡ stream_of store.list
stream-is [] source store within is = absurd (omega arith)
stream-is (first ∷ stores) zero store within is = ap (λ (s : StoreValue). stream_of s.list) (sym is)
stream-is (first ∷ stores) (suc source) store within is = stream-is stores source store (omega (arith, within)) is

pub stream-none : (stores : List StoreValue) (source : ℕ) → length stores ≤ source → stream_at (streams_of stores) source ≡ []
stream-none [] source past = refl
stream-none (first ∷ stores) zero past = absurd (omega (arith, past))
stream-none (first ∷ stores) (suc source) past = stream-none stores source (omega (arith, past))

-- whether the frame before is held, by the frame's own packet
held-is : (packets : List (List ℕ)) (before : Option Target) (target : Target) (packet : List ℕ) (held : Bool) → slice_get packets target.place ≡ Some packet → held ≡ (repeats before target && leaves_last packet) → held ≡ is_held packets before target
held-is packets before target packet held here is = is ∙ ap (λ (p : List ℕ). repeats before target && leaves_last p) (sym (packet-is packets target.place packet here))

-- the packets of a frame, its lead and then the packet that shows it
pub frame_planned : (tables : TableEntries) (packets : List (List ℕ)) (before : Option Target) (target : Target) (packet shown : List ℕ) (first : ℕ) (held : Bool) → slice_get packets target.place ≡ Some packet
    → held ≡ (repeats before target && leaves_last packet) → hidden (slice_range packets first target.place) ≡ lead_if packets before target held → shown ≡ packet_shown tables packet target held
    → hidden (slice_range packets first target.place) ++ shown ∷ [] ≡ frame_packets tables packets before target
frame_planned tables packets before target packet shown first held here is led shows =
    ap (λ (ps : List (List ℕ)). ps ++ shown ∷ []) led
    ∙ ap (λ (p : List ℕ). lead_if packets before target held ++ p ∷ []) shows
    ∙ ap (λ (b : Bool). lead_if packets before target b ++ packet_shown tables packet target b ∷ []) (held-is packets before target packet held here is)
    ∙ ap (λ (p : List ℕ). lead packets before target ++ packet_shown tables p target (is_held packets before target) ∷ []) (sym (packet-is packets target.place packet here))

-- its fault
pub frame_faulted : (tables : TableEntries) (packets : List (List ℕ)) (before : Option Target) (target : Target) (packet : List ℕ) (held : Bool) (fault : Option ForgeFault) → slice_get packets target.place ≡ Some packet
    → held ≡ (repeats before target && leaves_last packet) → shown_fault tables packet target held ≡ fault → frame_fault tables packets before target ≡ option_map cut_fault_by fault
frame_faulted tables packets before target packet held fault here is why =
    let within : nat_lt target.place (length packets) ≡ true = lt-ltb target.place (length packets) (slice_get_within packets target.place packet here) in
    ap (λ (b : Bool). if b then option_map cut_fault_by (shown_fault tables (packet_at packets target.place) target (is_held packets before target)) else Some Place) within
    ∙ ap (λ (p : List ℕ). option_map cut_fault_by (shown_fault tables p target (is_held packets before target))) (packet-is packets target.place packet here)
    ∙ ap (λ (b : Bool). option_map cut_fault_by (shown_fault tables packet target b)) (sym (held-is packets before target packet held here is))
    ∙ ap (option_map cut_fault_by) why

-- a packet that does not exist
no_packet : (tables : TableEntries) (packets : List (List ℕ)) (before : Option Target) (target : Target) → length packets ≤ target.place → frame_fault tables packets before target ≡ Some Place
no_packet tables packets before target past =
    ap (λ (b : Bool). if b then option_map cut_fault_by (shown_fault tables (packet_at packets target.place) target (is_held packets before target)) else Some Place) (le-ltb target.place (length packets) past)

pub target_missing : (tables : TableEntries) (streams : List (List (List ℕ))) (done : List (List ℕ)) (before : Option Target) (target : Target) → length (stream_at streams target.source) ≤ target.place → target_fault tables streams done before target ≡ Some Place
target_missing tables streams done before target past =
    ap (λ (own : Option CutFault). option_or own (if is_too_large (done ++ frame_packets tables (stream_at streams target.source) before target) then Some Full else None)) (no_packet tables (stream_at streams target.source) before target past)

-- the fault of a frame whose source has these packets
pub target_own : (tables : TableEntries) (streams : List (List (List ℕ))) (packets done : List (List ℕ)) (before : Option Target) (target : Target) (fault : CutFault) → stream_at streams target.source ≡ packets → frame_fault tables packets before target ≡ Some fault
    → target_fault tables streams done before target ≡ Some fault
target_own tables streams packets done before target fault is why =
    ap (λ (ps : List (List ℕ)). option_or (frame_fault tables ps before target) (if is_too_large (done ++ frame_packets tables ps before target) then Some Full else None)) is
    ∙ ap (λ (own : Option CutFault). option_or own (if is_too_large (done ++ frame_packets tables packets before target) then Some Full else None)) why

pub target_large : (tables : TableEntries) (streams : List (List (List ℕ))) (packets done more : List (List ℕ)) (before : Option Target) (target : Target) (large : Bool) → stream_at streams target.source ≡ packets → frame_fault tables packets before target ≡ None
    → more ≡ frame_packets tables packets before target → is_too_large (done ++ more) ≡ large → target_fault tables streams done before target ≡ (if large then Some Full else None)
target_large tables streams packets done more before target large is own made size =
    ap (λ (ps : List (List ℕ)). option_or (frame_fault tables ps before target) (if is_too_large (done ++ frame_packets tables ps before target) then Some Full else None)) is
    ∙ ap (λ (why : Option CutFault). option_or why (if is_too_large (done ++ frame_packets tables packets before target) then Some Full else None)) own
    ∙ ap (λ (ps : List (List ℕ)). let o : Option CutFault = if is_too_large (done ++ ps) then Some Full else None in o) (sym made)
    ∙ ap (λ (b : Bool). let o : Option CutFault = if b then Some Full else None in o) size

-- ---- all frames

-- the frames that are left
pub next_target : (targets : List Target) (i : ℕ) (target : Target) → i < length targets → target ≡ get_or targets i target → drop i targets ≡ target ∷ drop (i + 1) targets
next_target targets i target within is = drop_more targets i target within ∙ ap (λ (t : Target). t ∷ drop (i + 1) targets) (sym is)

pub exported_next : (tables : TableEntries) (streams : List (List (List ℕ))) (done new all : List (List ℕ)) (before : Option Target) (targets : List Target) (i : ℕ) (target : Target) → drop i targets ≡ target ∷ drop (i + 1) targets
    → new ≡ done ++ frame_packets tables (stream_at streams target.source) before target → done ++ exported tables streams before (drop i targets) ≡ all → new ++ exported tables streams (Some target) (drop (i + 1) targets) ≡ all
exported_next tables streams done new all before targets i target next is was =
    let frame : List (List ℕ) = frame_packets tables (stream_at streams target.source) before target in
    let rest : List (List ℕ) = exported tables streams (Some target) (drop (i + 1) targets) in
    ap (λ (ps : List (List ℕ)). ps ++ rest) is ∙ append_assoc done frame rest ∙ ap (λ (ts : List Target). done ++ exported tables streams before ts) (sym next) ∙ was

pub fault_next : (tables : TableEntries) (streams : List (List (List ℕ))) (done new : List (List ℕ)) (all : Option CutFault) (before : Option Target) (targets : List Target) (i : ℕ) (target : Target) → drop i targets ≡ target ∷ drop (i + 1) targets
    → new ≡ done ++ frame_packets tables (stream_at streams target.source) before target → target_fault tables streams done before target ≡ None → fault_after tables streams done before (drop i targets) ≡ all
    → fault_after tables streams new (Some target) (drop (i + 1) targets) ≡ all
fault_next tables streams done new all before targets i target next is none was =
    let frame : List (List ℕ) = frame_packets tables (stream_at streams target.source) before target in
    let rest : List Target = drop (i + 1) targets in
    ap (λ (ps : List (List ℕ)). fault_after tables streams ps (Some target) rest) is
    ∙ sym (ap (λ (own : Option CutFault). option_or own (fault_after tables streams (done ++ frame) (Some target) rest)) none)
    ∙ ap (fault_after tables streams done before) (sym next)
    ∙ was

pub fault_here : (tables : TableEntries) (streams : List (List (List ℕ))) (done : List (List ℕ)) (all : Option CutFault) (before : Option Target) (targets : List Target) (i : ℕ) (target : Target) (fault : CutFault) → drop i targets ≡ target ∷ drop (i + 1) targets
    → target_fault tables streams done before target ≡ Some fault → fault_after tables streams done before (drop i targets) ≡ all → all ≡ Some fault
fault_here tables streams done all before targets i target fault next some was =
    let frame : List (List ℕ) = frame_packets tables (stream_at streams target.source) before target in
    sym was ∙ ap (fault_after tables streams done before) next ∙ ap (λ (own : Option CutFault). option_or own (fault_after tables streams (done ++ frame) (Some target) (drop (i + 1) targets))) some

-- ---- an export that is too large

forge-never : (fault : Option ForgeFault) → option_map cut_fault_by fault ≡ Some Full → ⊥
forge-never None is = cc
forge-never (Some forging.Size) is = cc
forge-never (Some forging.TooLarge) is = cc
forge-never (Some forging.NoMemory) is = cc

own-never : (within : Bool) (fault : Option ForgeFault) → (if within then option_map cut_fault_by fault else Some Place) ≡ Some Full → ⊥
own-never true fault is = forge-never fault is
own-never false fault is = cc

large-by : (own : Option CutFault) (large : Bool) → (own ≡ Some Full → ⊥) → option_or own (if large then Some Full else None) ≡ Some Full → large ≡ true
large-by None true never is = refl
large-by None false never is = cc
large-by (Some fault) large never is = absurd (never is)

frame-large : (tables : TableEntries) (streams : List (List (List ℕ))) (done : List (List ℕ)) (before : Option Target) (target : Target) → target_fault tables streams done before target ≡ Some Full
    → IsTooLarge (done ++ frame_packets tables (stream_at streams target.source) before target)
frame-large tables streams done before target is =
    let packets : List (List ℕ) = stream_at streams target.source in
    large_is (done ++ frame_packets tables packets before target)
    (large-by (frame_fault tables packets before target) (is_too_large (done ++ frame_packets tables packets before target)) (own-never (nat_lt target.place (length packets)) (shown_fault tables (packet_at packets target.place) target (is_held packets before target))) is)

full-by : (done frame rest : List (List ℕ)) (own after : Option CutFault) → (own ≡ Some Full → IsTooLarge (done ++ frame)) → (after ≡ Some Full → IsTooLarge ((done ++ frame) ++ rest)) → option_or own after ≡ Some Full → IsTooLarge (done ++ (frame ++ rest))
full-by done frame rest None after here later is = subst IsTooLarge (append_assoc done frame rest) (later is)
full-by done frame rest (Some fault) after here later is = subst IsTooLarge (append_assoc done frame rest) (large_more (done ++ frame) rest (here is))

full_after : (tables : TableEntries) (streams : List (List (List ℕ))) (done : List (List ℕ)) (before : Option Target) (targets : List Target) → fault_after tables streams done before targets ≡ Some Full → IsTooLarge (done ++ exported tables streams before targets)
full_after tables streams done before [] is = cc
full_after tables streams done before (target ∷ targets) is =
    let frame : List (List ℕ) = frame_packets tables (stream_at streams target.source) before target in
    full-by done frame (exported tables streams (Some target) targets) (target_fault tables streams done before target) (fault_after tables streams (done ++ frame) (Some target) targets)
    (frame-large tables streams done before target) (full_after tables streams (done ++ frame) (Some target) targets) is

pub export_large : (tables : TableEntries) (streams : List (List (List ℕ))) (targets : List Target) → export_fault tables streams targets ≡ Some Full → IsTooLarge (exported tables streams None targets)
export_large tables streams targets is = full_after tables streams [] None targets is
