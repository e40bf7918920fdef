use Rattle.std.proofs.KnownBytes.{Appends-kept}
use Rattle.list_program.proofs.checking.check_to.Goals as goal

pub returns-in-Err-NoMemory-clause-fault : goal.returns-in-Err-NoMemory-clause-fault
returns-in-Err-NoMemory-clause-fault g c = record {
  source = c.in-Ok.source;
  read = c.in-Ok.ensures;
  begun = rw c.as_slice.ensures.value at (rw c.in-Err-NoMemory.field-0-is at c.in-Err-NoMemory.ensures.early);
}

pub returns-clause-checked : goal.returns-clause-checked
returns-clause-checked g c =
    let checked = rw c.as_slice.ensures.value at c.in-Ok-check.ensures.checked in
    record {
      source = c.in-Ok.source;
      read = c.in-Ok.ensures;
      tally = c.in-Ok-check.tally;
      checked = record {
        written = Appends-kept _ _ _ _ checked.written c.in-Ok-flush.ensures.bytes;
        counted = checked.counted;
      };
      counted = c.status_of.ensures.value;
    }
