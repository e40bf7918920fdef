use Rattle.std.proofs.Common.{◌≡◌, ◌+◌, ◌-◌, ℕ, Bool, ap, ◌∙◌, drop, arith}
use Rattle.packet_edits.specs.Saved.{packets_of}
use Rattle.stream_checks.specs.declared.packets.Ahead.{Ahead}
use Rattle.stream_checks.specs.Packets.{is_unshown, lost_after}
use Rattle.session_questions.proofs.ahead.ahead_at.Goals as goal

pub returns : goal.returns
returns c = λ packet here.
    let rest = drop (c.args.at + 1) (packets_of c.args.store.now.list) in
    let A : ℕ → Bool → Bool → Ahead = λ lost unshown repeated. record { lost = lost; is_unshown = unshown; is_repeated = repeated } in
    let lost : c.next_key-key.result - (c.args.at + 1) ≡ lost_after rest = omega (arith, c.next_key-key.ensures) in
    ap (λ (n : ℕ). A n c.is_unshown.result c.is_repeated.result) lost
    ∙ ap (λ (b : Bool). A (lost_after rest) b c.is_repeated.result) c.is_unshown.ensures
    ∙ ap (λ (b : Bool). A (lost_after rest) (is_unshown rest) b) (c.is_repeated.ensures packet here)
