use Rattle.std.proofs.Common.{◌≡◌, ◌≤◌, ap, sym, ◌∙◌, length, arith}
use Rattle.stream_facts.specs.declared.facts.Position.{Position}
use Rattle.session_questions.specs.Places.{position_at}
use Rattle.session_questions.proofs.Steps.{packets_before}
use Rattle.session_questions.proofs.places.nearest_before.Goals as goal

pub returns-clause-listed : goal.returns-clause-listed
returns-clause-listed c =
    let list = c.args.store.now.list in
    let start = c.after_key_before-start.result in
    let found : Position = c.position_after_key.result in
    let few : start ≤ length list.entries = omega (arith, c.after_key_before-start.ensures.within, c.requires.within) in
    let count : found.packets ≡ start = ap (λ (p : Position). p.packets) c.position_after_key.ensures ∙ packets_before list start few in
    (omega (arith, count, few), c.position_after_key.ensures ∙ ap (position_at list) (sym count))

pub returns-clause-before : goal.returns-clause-before
returns-clause-before c =
    let list = c.args.store.now.list in
    let start = c.after_key_before-start.result in
    let found : Position = c.position_after_key.result in
    let few : start ≤ length list.entries = omega (arith, c.after_key_before-start.ensures.within, c.requires.within) in
    let count : found.packets ≡ start = ap (λ (p : Position). p.packets) c.position_after_key.ensures ∙ packets_before list start few in
    omega (arith, count, c.after_key_before-start.ensures.within)
