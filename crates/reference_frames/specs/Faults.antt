-- The names of the errors.
use Rattle.std.specs.Prelude.{ℕ, List, codes}
use Rattle.frame_header.specs.Cause.{cause_word}
use Rattle.reference_frames.specs.declared.step_fault.StepFault.{StepFault}
use Rattle.reference_frames.specs.declared.step_fault.StepFault.TheVariants.{Refused, NoMemory}

abbrev pub step_fault_word : StepFault → List ℕ
step_fault_word (Refused cause) = cause_word cause
step_fault_word NoMemory = codes "NoMemory"
