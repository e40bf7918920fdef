use Rattle.std.proofs.Common.{ap}
use Rattle.mode_parser.proofs.PlaceLemmas.{place-on, place-down}
use Rattle.mode_parser.proofs.places.next_place.Goals as goal

pub returns-then-column-place : goal.returns-then-column-place
returns-then-column-place c = λ number is. place-on _ _ _ _ number (ap (λ p. p.column) is) (ap (λ p. p.row) is) c.if-column-place.true

pub returns-else-column-place : goal.returns-else-column-place
returns-else-column-place c = λ number is. place-down _ _ _ _ number (ap (λ p. p.column) is) (ap (λ p. p.row) is) c.requires.across c.if-column-place.false
