use Rattle.std.proofs.Common.{◌≡◌, length}
use Rattle.webm_files.specs.Children.{child_of, children}
use Rattle.webm_files.proofs.children.field.Given as goal

abbrev pub invariant-children : goal.invariant-children
invariant-children l = child_of l.id (children l.text) ≡ child_of l.id (children l.rest)

abbrev pub decreases-children : goal.decreases-children
decreases-children l = length l.rest
