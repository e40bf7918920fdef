-- What the program did, by its exit status: 0 or 3 if it did what it was asked for, 2 for a mistake, and 1 for every other error.
use Rattle.std.specs.Prelude.{◌≡◌, ◌⊎◌, ℕ, Bool, false, ◌&&◌, List, Option, Result, Ok, Err, MatchBool, nat_eq}
use Rattle.std.specs.Cmp.Lexicographic.{pointwise}
use Rattle.std.specs.List.{list_any}
use Rattle.clap.specs.declared.error.Error.{Error}
use Rattle.frame_session.specs.Sessions.{SessionState}
use Rattle.command_lines.specs.Endings.{IsHelp, IsHelpFault}
use Rattle.command_lines.specs.declared.fault.ArgumentFault.{ArgumentFault}
use Rattle.serve_arguments.specs.CommandLines.{IsAccepted, IsMistake}
use Rattle.serve_arguments.specs.Locations.{ArePlaced, AreSeparate, IsPlaceFault}
use Rattle.serve_arguments.specs.Statuses.{argument_fault, status_of}
use Rattle.serve_arguments.specs.declared.fault.Fault.{Fault}
use Rattle.serve_arguments.specs.declared.words.Accepted.{Accepted}
use Rattle.serve_arguments.specs.declared.words.Words.{Words}
use Rattle.serve_program.specs.Endings.{AreLiveReplied, AreReplied, IsBatchEnded, IsLiveEnded, IsServed, RunFiles}
use Rattle.serve_program.specs.Noted.{IsNotedAs, status_after}

-- all requests of an accepted command line were answered, as they came or after all of them were read
abbrev pub IsServedAs : RunFiles → Accepted → (left replies replies' : Option (List ℕ)) → SessionState → Type 0
IsServedAs files line left replies replies' new =
    MatchBool line.words.is_live (IsServed files line (AreLiveReplied files line left replies replies') new) (IsServed files line (AreReplied files line left replies replies') new)

-- the command line with these values was accepted, no file that it writes is one that it must not be, and all requests were answered over the sources and
-- the tables that it names, with the frames in OUT; then the packets and the frames were saved as it asks. `has_refused` is whether a request for a frame
-- was refused
pub record IsDone (files : RunFiles) (words : Words) (left replies replies' : Option (List ℕ)) (has_refused : Bool) : Type 0 where
  pub line : Accepted
  pub accepted : IsAccepted words line
  pub placed : ArePlaced files.places line AreSeparate
  pub new : SessionState
  pub served : IsServedAs files line left replies replies' new
  pub noted : IsNotedAs files line left replies replies' false has_refused

-- no request was answered, and this is why: the values of the arguments have a mistake, or a file that an accepted command line writes is one that it must
-- not be; or memory ran out
abbrev pub IsNotBegun : RunFiles → Words → Fault → Type 0
IsNotBegun files words fault = IsMistake words fault ⊎ ((line : Accepted) × IsAccepted words line × IsPlaceFault files.places line fault)

-- why not all was done that an accepted command line asks for, as its requests come or after all of them were read
abbrev pub IsEndedAs : RunFiles → Accepted → (left left' replies replies' : Option (List ℕ)) → Fault → Type 0
IsEndedAs files line left left' replies replies' fault =
    MatchBool line.words.is_live (IsLiveEnded files line left left' replies replies' fault) (IsBatchEnded files line left left' replies replies' fault)

-- the command line with these values was accepted, no file that it writes is one that it must not be, and this is why not all was done
pub record IsGivenUp (files : RunFiles) (words : Words) (left left' replies replies' : Option (List ℕ)) (fault : Fault) : Type 0 where
  pub line : Accepted
  pub accepted : IsAccepted words line
  pub placed : ArePlaced files.places line AreSeparate
  pub ended : IsEndedAs files line left left' replies replies' fault

-- why not all was done that these values ask for: nothing was begun, read or written, or it was given up
abbrev pub IsRunFault : RunFiles → Words → (left left' replies replies' : Option (List ℕ)) → Fault → Type 0
IsRunFault files words left left' replies replies' fault =
    (IsNotBegun files words fault × (left' ≡ left) × (replies' ≡ replies)) ⊎ IsGivenUp files words left left' replies replies' fault

-- arguments that could not be parsed were not answered, with this error
pub record IsUnanswered (error : Error) (replies replies' : Option (List ℕ)) (fault : Fault) : Type 0 where
  pub why : ArgumentFault
  pub reported : fault ≡ argument_fault why
  pub not_helped : IsHelpFault error replies replies' why

-- why a command line was not done: one whose arguments were parsed, or not
abbrev pub IsLineFault : RunFiles → Result Words Error → (left left' replies replies' : Option (List ℕ)) → Fault → Type 0
IsLineFault files (Ok words) left left' replies replies' fault = IsRunFault files words left left' replies replies' fault
IsLineFault files (Err error) left left' replies replies' fault = IsUnanswered error replies replies' fault

-- what the arguments ask for was done: the exit status is 0, and 3 if they have `--fail-refused` and a request for a frame was refused; or they
-- ask for help. `is_named` is whether the option is among them, and their values say whether it was read
abbrev pub IsLineDone : RunFiles → Result Words Error → (is_named : Bool) → (left replies replies' : Option (List ℕ)) → (status : ℕ) → Type 0
IsLineDone files (Ok words) is_named left replies replies' status =
    (has_refused : Bool) × IsDone files words left replies replies' has_refused × (status ≡ status_after (is_named && words.fails_refused) has_refused)
IsLineDone files (Err error) is_named left replies replies' status = IsHelp error × (status ≡ 0)

-- the exit status, for every command line: that of what was done, or that of the error, 2 for a mistake and 1 for any other
abbrev pub IsExitStatus : RunFiles → Result Words Error → (is_named : Bool) → (left left' replies replies' : Option (List ℕ)) → (status : ℕ) → Type 0
IsExitStatus files parsed is_named left left' replies replies' status =
    IsLineDone files parsed is_named left replies replies' status
    ⊎ ((fault : Fault) × IsLineFault files parsed left left' replies replies' fault × (status ≡ status_of fault))

-- whether an option is among the arguments, whose texts `text` gives
abbrev pub names_option : {S : Type 0} → (text : S → List ℕ) → (option : List ℕ) → List S → Bool
names_option {S} text option words = list_any (λ word. pointwise nat_eq (text word) option) words
