use Rattle.std.proofs.Common.{◌≡◌, sym, refl, ap, ◌∙◌, List, ℕ, rules}
use Rattle.wokureti_c.specs.Rooms.{with_bytes}
use Rattle.wokureti_c.specs.declared.engine.Engine.{Engine}
use Rattle.wokureti_c.proofs.exports.wk_text.Goals as goal

pub returns-clause-text : goal.returns-clause-text
returns-clause-text c is =
    let same : c.as_slice.result.now ≡ c.in-Some.engine.value.text.items = c.as_slice.ensures.value ∙ ap (λ (engine : Engine). engine.text.items) c.deref-2.ensures in
    (c.in-Some.engine.value, _, sym c.in-Some.ensures.value, c.put.ensures, (refl, c.copy-status.ensures.copied is ∙ ap (λ (text : List ℕ). with_bytes 0 text c.args.room.now) same, first_of (search rules, cc)))
