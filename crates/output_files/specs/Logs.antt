-- The calls of a save that are logged.
use Rattle.std.specs.Prelude.{List, map, Option, Some, None}
use Rattle.std.specs.declared.io.ErrorKind.{ErrorKind}
use Rattle.output_files.specs.declared.log.Log.{Log}
use Rattle.output_files.specs.declared.log.Logged.{Logged}
use Rattle.output_files.specs.declared.saving.Call.{Call}
use Rattle.output_files.specs.declared.saving.Call.TheVariants.{Make, Sync, Rename, Remove}
use Rattle.output_files.specs.Steps.{Step}
use Rattle.output_files.specs.Steps.Step.{Made, Synced, Renamed, Removed, Failed}

-- a call that was made
abbrev pub done : Call → Step
done Make = Made
done Sync = Synced None
done Rename = Renamed
done Remove = Removed

abbrev pub ended : Call → Option ErrorKind → Step
ended call None = done call
ended call (Some kind) = Failed call kind

-- a logged call; of a file of the system no bytes are known
abbrev pub step_of : Logged → Step
step_of logged = ended logged.call logged.error

abbrev pub steps_of : Log → List Step
steps_of log = map step_of log.calls.items
