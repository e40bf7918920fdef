use Rattle.std.proofs.Common.{◌≡◌, Bool, true, false, not, ◌||◌, ◌==◌, length, sym, ap, ◌∙◌, is_some, refl}
use Rattle.request_lines.specs.Lost.{beginning_at}
use Rattle.request_lines.proofs.Beginnings.{begins_later, goes_on}
use Rattle.request_lines.proofs.lost.Beginning.with.Goals as goal

pub returns-then-is_none : goal.returns-then-is_none
returns-then-is_none c = λ line is. c.beginning_at.ensures ∙ ap beginning_at c.from_word.ensures ∙ begins_later c.args.self line c.args.part.now is (c.is_none.ensures ∙ ap not c.if-is_none.true)

pub returns-then-self : goal.returns-then-self
returns-then-self c = λ line is. goes_on c.args.self line c.args.part.now is (c.is_none.ensures ∙ ap not c.if-is_none.false) c.args.self.has_more (rw c.if-self.true refl)

pub returns-else-self : goal.returns-else-self
returns-else-self c = λ line is. goes_on c.args.self line c.args.part.now is (c.is_none.ensures ∙ ap not c.if-is_none.false) (not c.is_empty.result) (rw (c.if-self.false, c.is_empty.ensures) refl)
