use Rattle.std.proofs.Common.{refl}
use Rattle.bool_coder.specs.Reader.{trimmed, renewed, read}
use Rattle.bool_coder.specs.CodeText.{code_renewed, written}
use Rattle.bool_coder.specs.Trees.{leaf_below, leaf}
use Rattle.mode_parser.specs.VectorReading.{bits_at, long_size, short_size, vector_size, vector_component, new_vector}
use Rattle.mode_parser.proofs.laws.worked_vectors.Goals as goal

pub returns-clause-zeros : goal.returns-clause-zeros
unfolding new_vector vector_component vector_size short_size long_size bits_at leaf leaf_below read renewed trimmed
returns-clause-zeros c = refl

pub returns-clause-ones : goal.returns-clause-ones
unfolding new_vector vector_component vector_size short_size long_size bits_at leaf leaf_below read renewed trimmed
returns-clause-ones c = refl

pub returns-clause-written : goal.returns-clause-written
unfolding new_vector vector_component vector_size short_size long_size bits_at leaf leaf_below read renewed trimmed code_renewed written
returns-clause-written c = refl
