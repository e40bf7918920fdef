use Rattle.std.proofs.Common.{◌≡◌, ℕ, ◌+◌, ◌||◌, Bool, is_some, Err, Option, List, [], ◌∷◌, ◌++◌, if◌then◌else◌, drop, ap, sym, subst, ◌∙◌, arith, append-nil}
use Rattle.std.proofs.KnownBytes.{Appends-trans}
use Rattle.std.proofs.lemmas.List.{drop_more, drop_all}
use Rattle.std.specs.Io.KnownBytes.{Appends}
use Rattle.stream_files.specs.declared.packets.Packet.{Packet}
use Rattle.stream_steps.specs.Decoding.{left_by, outcome}
use Rattle.stream_checks.specs.declared.hashes.HashFault.{HashFault}
use Rattle.stream_checks.specs.declared.hashes.HashFault.TheVariants.{NoMemory, Write}
use Rattle.stream_checks.specs.declared.time_bases.TimeBase.{TimeBase}
use Rattle.stream_checks.specs.Frames.{frame_of, frames_from, frames_of}
use Rattle.stream_checks.specs.Hashes.{IsHashFault, added_by, text_of}
use Rattle.stream_checks.specs.HashLines.{Frame, head_lines}
use Rattle.stream_checks.specs.TimeBases.{IsTimeBase}
use Rattle.stream_checks.proofs.HashTexts.{front_of, has_frames-with_frame, last_part, one_more, rest_of, so_far, with_frame, with_frame-append}
use Rattle.stream_checks.proofs.hashes.write_hashes.Goals as goal

pub loop-packet-preserved : goal.loop-packet-preserved
loop-packet-preserved g c =
    let tables = c.args.tables.now in
    let head = c.args.file.now.head in
    let packets = c.args.file.now.packets in
    let i = c.loop-packet.packet-index in
    let before = c.loop-packet.writing in
    let met = c.loop-packet.invariant in
    let packet = c.packet-item.result in
    let rest = drop (i + 1) packets in
    let items = c.as_slice-packet-items.result.now in
    let same : items ≡ packets = c.as_slice-packet-items.ensures in
    let at : drop i packets ≡ packet ∷ rest =
    ap (λ (packets : List Packet). drop i packets) (sym same)
    ∙ drop_more items i packet c.loop-packet-test.true
    ∙ ap (λ (first : Packet). first ∷ drop (i + 1) items) (sym c.packet-item.is)
    ∙ ap (λ (packets : List Packet). packet ∷ drop (i + 1) packets) same in
    let found = outcome tables before.decoding.place before.decoding.progress packet.bytes in
    let frame : Option Frame = frame_of packet found in
    let more = frames_from tables (before.decoding.place + 1) (left_by found) rest in
    record {
      done = with_frame met.done frame;
      whole = rw (c.in_default.ensures.place, c.in_default.ensures.progress)
          (with_frame-append met.done frame more
          ∙ ap (λ (packets : List Packet). met.done ++ frames_from tables before.decoding.place before.decoding.progress packets) (sym at)
          ∙ met.whole);
      said =
          let grown : List ℕ → Type 0 = Appends (g.W.Write.contents c.args.w.now) (g.W.Write.contents c.add.new.w) in
          let text : so_far head before.base met.done ++ added_by before.base before.has_begun frame ≡ so_far head c.add.new.self.base (with_frame met.done frame) =
          ap (λ (begun : Bool). so_far head before.base met.done ++ added_by before.base begun frame) met.begun
          ∙ sym (one_more head before.base met.done frame)
          ∙ ap (λ (base : TimeBase). so_far head base (with_frame met.done frame)) (sym c.in_default.ensures.base) in
          subst grown text (Appends-trans _ _ _ _ _ met.said c.in_default.ensures.added);
      begun = c.in_default.ensures.begun ∙ ap (λ (begun : Bool). begun || is_some frame) met.begun ∙ sym (has_frames-with_frame met.done frame);
      place = c.in_default.ensures.place ∙ ap (λ (n : ℕ). n + 1) met.place;
      unit = subst (IsTimeBase head) (sym c.in_default.ensures.base) met.unit;
    }

pub returns-clause-hashed : goal.returns-clause-hashed
returns-clause-hashed g c =
    let tables = c.args.tables.now in
    let head = c.args.file.now.head in
    let packets = c.args.file.now.packets in
    let i = c.loop-packet.packet-index in
    let after = c.loop-packet.writing in
    let met = c.loop-packet.invariant in
    let items = c.as_slice-packet-items.result.now in
    let same : items ≡ packets = c.as_slice-packet-items.ensures in
    let none : drop i packets ≡ [] = ap (λ (packets : List Packet). drop i packets) (sym same) ∙ drop_all i items (omega (arith, c.loop-packet-test.false)) in
    let all : met.done ≡ frames_of tables packets =
    sym (append-nil met.done)
    ∙ ap (λ (packets : List Packet). met.done ++ frames_from tables after.decoding.place after.decoding.progress packets) (sym none)
    ∙ met.whole in
    let text : so_far head after.base met.done ++ (if after.has_begun then [] else head_lines after.base head.width head.height) ≡ text_of head after.base (frames_of tables packets) =
    ap (λ (begun : Bool). so_far head after.base met.done ++ (if begun then [] else head_lines after.base head.width head.height)) met.begun
    ∙ last_part head after.base met.done
    ∙ ap (λ (frames : List Frame). text_of head after.base frames) all in
    let grown : List ℕ → Type 0 = Appends (g.W.Write.contents c.args.w.now) (g.W.Write.contents c.write_head_once.new.w) in
    record {
      base = after.base;
      unit = met.unit;
      written = subst grown text (Appends-trans _ _ _ _ _ met.said c.in_ok-write_head_once.ensures.head);
    }

pub returns-in-Err-clause-fault : goal.returns-in-Err-clause-fault
returns-in-Err-clause-fault g c =
    let tables = c.args.tables.now in
    let file = c.args.file.now in
    let before = c.loop-packet.writing in
    let met = c.loop-packet.invariant in
    let more = frames_from tables before.decoding.place before.decoding.progress (drop c.loop-packet.packet-index file.packets) in
    let old = g.W.Write.contents c.args.w.now in
    let P : HashFault → Type 0 = λ fault. c.add.result ≡ Err fault → IsHashFault tables file old (g.W.Write.contents c.add.new.w) fault in
    let by_fault : (fault : HashFault) → P fault = λ fault. elim fault as P [
      | NoMemory ↦ λ refused. record {
        base = before.base;
        unit = met.unit;
        gained = so_far file.head before.base met.done;
        rest = rest_of file.head before.base met.done more;
        front = ap (λ (frames : List Frame). text_of file.head before.base frames) (sym met.whole) ∙ front_of file.head before.base met.done more;
        written = subst (λ (held : Option (List ℕ)). Appends old held (so_far file.head before.base met.done)) (sym (c.add.ensures.memory refused)) met.said;
      }
      | Write ↦ λ refused. tt
    ] in
    by_fault c.in-Err.fault c.in-Err.is
