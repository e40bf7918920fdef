use Rattle.std.proofs.Common.{rules, ◌≡◌, ◌+◌, ℕ, List, [], ◌∷◌, ◌++◌, length, ap, refl, sym, subst, ◌∙◌, arith, append_assoc, ◌≤◌}
use Rattle.std.specs.Int.{from_bool}
use Rattle.frame_header.specs.Tags.{is_shown}
use Rattle.std.proofs.KnownBytes.{Appends-nil, Appends-trans}
use Rattle.std.proofs.lemmas.Grind.{flat_map-append}
use Rattle.std.specs.Io.KnownBytes.{Appends}
use Rattle.stream_files.specs.declared.packets.Packet.{Packet}
use Rattle.stream_checks.specs.declared.checker.Checker.{Checker}
use Rattle.stream_checks.specs.declared.finding.Finding.{Finding}
use Rattle.stream_checks.specs.declared.finding.Tally.{Tally}
use Rattle.stream_checks.specs.declared.packets.Ahead.{Ahead}
use Rattle.stream_checks.specs.declared.packets.PacketsBefore.{PacketsBefore}
use Rattle.stream_checks.specs.declared.stamps.Pace.{Pace}
use Rattle.macroblock_lists.specs.declared.layouts.Form.{Form}
use Rattle.stream_checks.specs.Checks.{findings_after, findings_next}
use Rattle.stream_checks.specs.Lines.{frames_of}
use Rattle.stream_checks.specs.Packets.{ahead_of}
use Rattle.stream_checks.specs.Severity.{plus, tally_of}
use Rattle.stream_checks.specs.Texts.{text_of, texts_of}
use Rattle.stream_checks.proofs.Shown.{frames-more}
use Rattle.stream_checks.proofs.Steps.{one_more}
use Rattle.stream_checks.proofs.Tallies.{tally_append}
use Rattle.stream_checks.proofs.checking.write_packets.Goals as goal

pub loop-packet-init : goal.loop-packet-init
loop-packet-init g c = record {
  done = [];
  whole = search rules;
  said = Appends-nil _;
  counted = c.none-tally.ensures;
  few = search rules;
  packets = search rules;
  frames = search rules;
  shown = refl;
  form = search rules;
  step = search rules;
  answers = search rules;
}

pub loop-packet-preserved : goal.loop-packet-preserved
loop-packet-preserved g c =
    let tables = c.args.tables.now in
    let before : Checker = c.loop-packet.checker in
    let after : Checker = c.next.new.self in
    let P : List ℕ → Packet = λ bytes. record { stamp = c.in-Some.packet.now.stamp; bytes = bytes } in
    let packet : Packet = P c.as_slice.result.now in
    let read : c.in-Some.packet.now ≡ packet = ap P (sym c.as_slice.ensures) in
    let following = c.in-Some.following.now in
    let ahead : Ahead = c.ahead_of-ahead.result in
    let is : ahead ≡ ahead_of packet following = c.ahead_of-ahead.ensures ∙ ap (λ (p : Packet). ahead_of p following) read in
    let found : List Finding = findings_next tables before packet ahead in
    let met = c.loop-packet.invariant in
    let at : c.loop-packet.rest.now ≡ packet ∷ following = c.in-Some.ensures.cases.0 ∙ ap (λ (p : Packet). p ∷ following) read in
    let shorter : length following + 1 ≡ length c.loop-packet.rest.now = c.in-Some.ensures.cases.1 in
    let made = c.in-Ok.ensures in
    let next : after.position.packets ≡ before.position.packets + 1 = ap (λ (p : PacketsBefore). p.packets) made.position in
    let shown : after.position.frames ≡ before.position.frames + from_bool (is_shown packet.bytes) = ap (λ (p : PacketsBefore). p.frames) made.position in
    let rest : frames_of c.loop-packet.rest.now ≡ from_bool (is_shown packet.bytes) + frames_of following = ap frames_of at ∙ frames-more packet following in
    let W : Form → Type 0 = λ form. Appends (g.W.Write.contents c.loop-packet.w) (g.W.Write.contents c.next.new.w) (texts_of form found) in
    let added : W c.args.checker.form = subst W met.form made.written in
    record {
      done = met.done ++ found;
      whole = append_assoc met.done found (findings_after tables after following)
          ∙ ap (λ (more : List Finding). met.done ++ more) (sym (one_more tables before after packet following ahead made.pace made.position made.reader is))
          ∙ ap (λ (packets : List Packet). met.done ++ findings_after tables before packets) (sym at)
          ∙ met.whole;
      said = rw (flat_map-append (text_of c.args.checker.form) met.done found) (Appends-trans _ _ _ _ _ met.said added);
      counted = c.plus-tally.ensures ∙ ap (λ (tally : Tally). plus tally c.in-Ok.more) met.counted ∙ ap (λ (tally : Tally). plus (tally_of met.done) tally) made.counted ∙ sym (tally_append met.done found);
      few = omega (arith, met.few, made.few, ap (λ (tally : Tally). tally.damage) c.plus-tally.ensures, ap (λ (tally : Tally). tally.notes) c.plus-tally.ensures, shorter);
      packets = omega (arith, met.packets, shorter, next);
      frames = made.frames;
      shown = omega (arith, met.shown, shown, rest);
      form = made.form ∙ met.form;
      step = subst (λ (p : Pace). 1 ≤ p.step) (sym made.pace) met.step;
      answers = (ap (λ (a : Ahead). a.lost) is, ap (λ (a : Ahead). a.is_unshown) is);
    }
