use Rattle.std.proofs.Common.{◌≡◌, ℕ, List, IfErr, None, Ok, OnOk, ap, subst, sym, ◌∙◌}
use Rattle.std.specs.Io.KnownBytes.{Appends}
use Rattle.macroblock_lists.specs.Fronts.{IsListEnd}
use Rattle.macroblock_lists.specs.Texts.{progress_before}
use Rattle.packet_edits.specs.Saved.{packets_of}
use Rattle.session_questions.proofs.Progressed.{detail_said, key_said}
use Rattle.session_questions.proofs.lister.Lister.write_details.Goals as goal

pub returns-then-has_key_tag-clause-written : goal.returns-then-has_key_tag-clause-written
returns-then-has_key_tag-clause-written g c =
    let said = key_said c.args.what c.args.tables.now c.args.store.now.list c.args.at c.packet-packet.result.now (Ok None) c.packet-packet.ensures (sym c.has_key_tag.ensures ∙ c.if-has_key_tag.true) in
    subst (λ (t : List ℕ). OnOk c.write_packet.result (Appends (g.W.Write.contents c.args.w.now) (g.W.Write.contents c.write_packet.new.w) t)) said c.write_packet.ensures.written

pub returns-then-has_key_tag-clause-early : goal.returns-then-has_key_tag-clause-early
returns-then-has_key_tag-clause-early g c =
    let said = key_said c.args.what c.args.tables.now c.args.store.now.list c.args.at c.packet-packet.result.now (Ok None) c.packet-packet.ensures (sym c.has_key_tag.ensures ∙ c.if-has_key_tag.true) in
    subst (λ (t : List ℕ). IfErr c.write_packet.result (IsListEnd t (g.W.Write.contents c.args.w.now) (g.W.Write.contents c.write_packet.new.w))) said c.write_packet.ensures.early

pub returns-clause-written : goal.returns-clause-written
returns-clause-written g c =
    let reached = c.in_ok-reached.reached in
    let known : reached.progress ≡ progress_before c.args.tables.now (packets_of c.args.store.now.list) c.args.at =
    c.in_ok-reached.ensures.reached.1 ∙ ap (progress_before c.args.tables.now (packets_of c.args.store.now.list)) c.in_ok-reached.ensures.at in
    let said = detail_said c.args.what c.args.tables.now c.args.store.now.list c.args.at c.packet-packet.result.now reached.progress c.packet-packet.ensures known in
    subst (λ (t : List ℕ). OnOk c.write_packet-written.result (Appends (g.W.Write.contents c.args.w.now) (g.W.Write.contents c.write_packet-written.new.w) t)) said c.write_packet-written.ensures.written

pub returns-clause-early : goal.returns-clause-early
returns-clause-early g c =
    let reached = c.in_ok-reached.reached in
    let known : reached.progress ≡ progress_before c.args.tables.now (packets_of c.args.store.now.list) c.args.at =
    c.in_ok-reached.ensures.reached.1 ∙ ap (progress_before c.args.tables.now (packets_of c.args.store.now.list)) c.in_ok-reached.ensures.at in
    let said = detail_said c.args.what c.args.tables.now c.args.store.now.list c.args.at c.packet-packet.result.now reached.progress c.packet-packet.ensures known in
    subst (λ (t : List ℕ). IfErr c.write_packet-written.result (IsListEnd t (g.W.Write.contents c.args.w.now) (g.W.Write.contents c.write_packet-written.new.w))) said c.write_packet-written.ensures.early
