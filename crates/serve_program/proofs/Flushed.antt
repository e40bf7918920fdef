-- A run whose writers are flushed after it.
use Rattle.std.proofs.Common.{◌≡◌, inr, ℕ, Bool, List, Option}
use Rattle.std.specs.Io.KnownBytes.{Keeps}
use Rattle.std.proofs.KnownBytes.{Appends-kept}
use Rattle.vp8_tables.specs.Tables.{TableEntries}
use Rattle.frame_session.specs.Answers.{Means, frames_of, replies_of}
use Rattle.frame_session.specs.Noted.{MeansNoted}
use Rattle.frame_session.specs.Sessions.{SessionState}
use Rattle.serve_arguments.specs.declared.fault.Fault.{Fault}
use Rattle.serve_arguments.specs.declared.fault.Fault.TheVariants.{CannotWrite}
use Rattle.serve_program.specs.Endings.{IsRefused}

-- the answers remain the same if the writers keep their bytes
abbrev pub flushed : (tables : TableEntries) (sources : List (List ℕ)) (requests : List ℕ) (f f' f'' r r' r'' : Option (List ℕ)) (end : SessionState) → Means tables sources requests f f' r r' end → Keeps f' f'' → Keeps r' r'' → Means tables sources requests f f'' r r'' end
flushed tables sources requests f f' f'' r r' r'' end m kept kept' = record {
  files = m.files;
  are = m.are;
  runs = record {
    answers = m.runs.answers;
    means = m.runs.means;
    shown = Appends-kept f f' f'' (frames_of m.runs.answers) m.runs.shown kept;
    said = Appends-kept r r' r'' (replies_of m.runs.answers) m.runs.said kept';
  };
}

pub flushed_noted : (tables : TableEntries) (sources : List (List ℕ)) (requests : List ℕ) (f f' f'' r r' r'' : Option (List ℕ)) (end : SessionState) (seen seen' : Bool) → MeansNoted tables sources requests f f' r r' end seen seen' → Keeps f' f'' → Keeps r' r'' → MeansNoted tables sources requests f f'' r r'' end seen seen'
flushed_noted tables sources requests f f' f'' r r' r'' end seen seen' m kept kept' = record { means = flushed tables sources requests f f' f'' r r' r'' end m.means kept kept'; noted = m.noted }

-- a writer was not flushed after all answers
pub unflushed : (tables : TableEntries) (sources : List (List ℕ)) (requests : List ℕ) (f f' f'' r r' r'' : Option (List ℕ)) (end : SessionState) (fault : Fault) → fault ≡ CannotWrite → Means tables sources requests f f' r r' end → Keeps f' f'' → Keeps r' r'' → IsRefused tables sources requests f f'' r r'' fault
unflushed tables sources requests f f' f'' r r' r'' end fault is m kept kept' = rw is (inr (end, flushed tables sources requests f f' f'' r r' r'' end m kept kept'))
