use Rattle.std.proofs.Common.{◌≡◌, ◌<◌, ◌≤◌, ◌+◌, inl, inr, ap, ◌∙◌, arith}
use Rattle.macroblock_lists.specs.Texts.{progress_before}
use Rattle.packet_edits.specs.Saved.{packets_of}
use Rattle.session_questions.proofs.Progressed.{key_leads, key_tagged, known_leads}
use Rattle.session_questions.proofs.lister.Lister.known_for.Goals as goal

pub returns-then-starts_at-clause-known : goal.returns-then-starts_at-clause-known
returns-then-starts_at-clause-known c =
    let list = c.args.store.now.list in
    let first = c.args.first in
    let key = c.starts_at.ensures.key c.if-starts_at.true in
    let some : first < first + c.args.count = omega (arith, c.starts_at.ensures.some c.if-starts_at.true) in
    let within : first ≤ first + c.args.count = omega arith in
    record {
      known = inr key;
      leads = (within, key_leads c.args.tables.now list first (first + c.args.count) c.requires.within (inr (some, key_tagged list first key)));
    }

pub returns-clause-known : goal.returns-clause-known
returns-clause-known c =
    let tables = c.args.tables.now in
    let list = c.args.store.now.list in
    let first = c.args.first in
    let reached = c.in_ok-progress.field-0 in
    let known : reached.progress ≡ progress_before tables (packets_of list) first =
    c.in_ok-progress.ensures.reached.1 ∙ ap (progress_before tables (packets_of list)) c.in_ok-progress.ensures.at in
    let within : first ≤ first + c.args.count = omega arith in
    record { known = inl known; leads = (within, known_leads tables list first (first + c.args.count) reached.progress within c.requires.within known) }
