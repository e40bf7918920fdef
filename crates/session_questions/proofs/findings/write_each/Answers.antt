use Rattle.std.proofs.Common.{◌≡◌, ◌+◌, ◌-◌, ◌≤◌, ◌++◌, ◌∷◌, [], ℕ, List, ap, sym, subst, ◌∙◌, drop, take, arith, add-one}
use Rattle.std.proofs.KnownBytes.{Appends-trans}
use Rattle.std.proofs.lemmas.Grind.{flat_map-append}
use Rattle.std.specs.Io.KnownBytes.{Appends}
use Rattle.stream_files.specs.declared.packets.Packet.{Packet}
use Rattle.macroblock_lists.specs.declared.layouts.Form.{Form}
use Rattle.macroblock_lists.specs.Known.{progress_after}
use Rattle.packet_edits.specs.Saved.{packets_of}
use Rattle.stream_checks.specs.declared.checker.Checker.{Checker}
use Rattle.stream_checks.specs.declared.finding.Finding.{Finding}
use Rattle.stream_checks.specs.declared.finding.Tally.{Tally}
use Rattle.stream_checks.specs.declared.packets.PacketsBefore.{PacketsBefore}
use Rattle.stream_checks.specs.declared.stamps.Pace.{Pace}
use Rattle.stream_checks.specs.Checks.{each_after, findings_next}
use Rattle.stream_checks.specs.Packets.{joined}
use Rattle.stream_checks.specs.Severity.{plus, tally_of}
use Rattle.stream_checks.specs.Texts.{text_of, texts_of}
use Rattle.stream_checks.proofs.Steps.{each_more}
use Rattle.stream_checks.proofs.Tallies.{tally_append}
use Rattle.session_questions.proofs.Found.{drop_here, drop_one, joined_more, take_one}
use Rattle.session_questions.proofs.Progressed.{known_more}
use Rattle.session_questions.proofs.Steps.{packet_here}
use Rattle.session_questions.proofs.findings.write_each.Goals as goal

pub loop-at-preserved : goal.loop-at-preserved
loop-at-preserved g c =
    let tables = c.args.tables.now in
    let packets : List Packet = packets_of c.args.store.now.list in
    let at = c.loop-at.at in
    let n = at - c.args.first in
    let all : List (List Finding) = each_after tables c.args.checker.now (drop c.args.first packets) in
    let before : Checker = c.loop-at.checker in
    let after : Checker = c.next.new.self in
    let packet : Packet = record { stamp = c.stamp.result; bytes = c.packet.result.now } in
    let here = packet_here c.args.store.now.list.entries at c.stamp.result c.packet.result.now c.stamp.ensures c.packet.ensures in
    let rest = drop (at + 1) packets in
    let ahead = c.ahead_at-ahead.result in
    let met = c.loop-at.invariant in
    let made = c.in_ok-more.ensures in
    let found : List Finding = findings_next tables before packet ahead in
    let left : drop at packets ≡ packet ∷ rest = drop_here packets at packet here ∙ ap (λ (k : ℕ). packet ∷ drop k packets) (sym (add-one at)) in
    let next : drop n all ≡ found ∷ each_after tables after rest =
    sym met.left ∙ ap (each_after tables before) left ∙ each_more tables before after packet rest ahead made.pace made.position made.reader (c.ahead_at-ahead.ensures packet here) in
    let one : at + 1 - c.args.first ≡ n + 1 = omega arith in
    let some : take (at + 1 - c.args.first) all ≡ take n all ++ found ∷ [] = ap (λ (k : ℕ). take k all) (one ∙ add-one n) ∙ take_one all (each_after tables after rest) n found next in
    let more : joined (take (at + 1 - c.args.first) all) ≡ joined (take n all) ++ found = ap joined some ∙ joined_more (take n all) found in
    let W : Form → Type 0 = λ form. Appends (g.W.Write.contents c.loop-at.w) (g.W.Write.contents c.next.new.w) (texts_of form found) in
    let added : W c.args.checker.now.form = subst W met.form made.written in
    let position : after.position.packets ≡ before.position.packets + 1 = ap (λ (p : PacketsBefore). p.packets) made.position in
    record {
      left = sym (ap (λ (k : ℕ). drop k all) (one ∙ add-one n) ∙ drop_one all (each_after tables after rest) n found next);
      said = rw (more, flat_map-append (text_of c.args.checker.now.form) (joined (take n all)) found) (Appends-trans _ _ _ _ _ met.said added);
      counted = c.plus-tally.ensures ∙ ap (λ (tally : Tally). plus tally c.in_ok-more.more) met.counted ∙ ap (λ (tally : Tally). plus (tally_of (joined (take n all))) tally) made.counted
          ∙ sym (tally_append (joined (take n all)) found) ∙ ap tally_of (sym more);
      few = omega (arith, met.few, made.few, ap (λ (tally : Tally). tally.damage) c.plus-tally.ensures, ap (λ (tally : Tally). tally.notes) c.plus-tally.ensures, one);
      packets = omega (arith, met.packets, position);
      frames = made.frames;
      form = made.form ∙ met.form;
      step = subst (λ (p : Pace). 1 ≤ p.step) (sym made.pace) met.step;
      reader = known_more tables c.args.store.now.list c.args.first at c.args.checker.now.reader c.packet.result.now before.reader after.reader (omega arith) (omega (arith, c.requires.within)) c.packet.ensures met.reader
          (made.reader ∙ ap (λ (k : ℕ). progress_after tables k before.reader c.packet.result.now) met.packets);
    }
