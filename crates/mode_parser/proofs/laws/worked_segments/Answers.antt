use Rattle.std.proofs.Common.{refl}
use Rattle.bool_coder.specs.Reader.{trimmed, renewed, read}
use Rattle.bool_coder.specs.CodeText.{code_renewed, written}
use Rattle.bool_coder.specs.Trees.{leaf_below, leaf}
use Rattle.mode_parser.specs.Segments.{segment_number}
use Rattle.mode_parser.proofs.laws.worked_segments.Goals as goal

pub returns-clause-first : goal.returns-clause-first
unfolding segment_number leaf leaf_below read renewed trimmed code_renewed written
returns-clause-first c = refl

pub returns-clause-second : goal.returns-clause-second
unfolding segment_number leaf leaf_below read renewed trimmed code_renewed written
returns-clause-second c = refl

pub returns-clause-third : goal.returns-clause-third
unfolding segment_number leaf leaf_below read renewed trimmed code_renewed written
returns-clause-third c = refl

pub returns-clause-fourth : goal.returns-clause-fourth
unfolding segment_number leaf leaf_below read renewed trimmed code_renewed written
returns-clause-fourth c = refl
