use Rattle.std.proofs.Common.{ℕ, ap, eqb, length, take, ◌∙◌}
use Rattle.packet_edits.specs.Shown.{shown_indexes, stream_of}
use Rattle.session_questions.proofs.NextKeys.{unshown_is}
use Rattle.session_questions.proofs.ahead.is_unshown.Goals as goal

pub returns : goal.returns
returns c =
    let list = c.args.store.now.list in
    ap (λ (n : ℕ). eqb n c.shown_before-2.result) c.shown_before.ensures ∙ ap (λ (n : ℕ). eqb (length (shown_indexes (take c.args.from (stream_of list)))) n) c.shown_before-2.ensures
    ∙ unshown_is 0 c.args.from c.args.key list.entries c.requires
