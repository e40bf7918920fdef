-- Why the program exits with requests that are answered as they come.
use Rattle.std.proofs.Common.{◌≡◌, ◌⊎◌, inl, inr, ℕ, List, Option, None, refl, subst, sym}
use Rattle.std.specs.Borrow.{Bor}
use Rattle.std.proofs.KnownBytes.{Keeps-refl}
use Rattle.vp8_tables.specs.Tables.{TableEntries}
use Rattle.command_lines.specs.declared.fault.FileFault.{FileFault}
use Rattle.serve_arguments.specs.CommandLines.{source_names, tables_name}
use Rattle.serve_arguments.specs.Readings.{IsInputFault}
use Rattle.serve_arguments.specs.Statuses.{file_fault}
use Rattle.serve_arguments.specs.declared.fault.Fault.{Fault}
use Rattle.serve_arguments.specs.declared.fault.Fault.TheVariants.{CommandLine, NamedTwice, CannotRead, TooLong, Tables, Input, NotExported, CannotWrite, NoMemory}
use Rattle.serve_arguments.specs.declared.words.Accepted.{Accepted}
use Rattle.frame_session.specs.declared.live.LiveFault.{LiveFault}
use Rattle.frame_session.specs.declared.live.LiveFault.TheVariants as lives
use Rattle.frame_session.specs.Live.{LiveMeans, LiveStops}
use Rattle.frame_session.specs.Sessions.{SessionState}
use Rattle.serve_program.specs.Endings.{AreLiveReplied, AreLiveStopped, IsEnded, IsExportFault, IsInput, IsInterrupted, IsLiveEnded, IsLiveFault, IsLiveRefused, IsOver, IsSaveFault, IsUnfinished, IsUnopened, RunFiles, fault_by_live}
use Rattle.serve_program.proofs.Ended.{after_ended, save_ended, unread_ended, unreplied_ended}

-- a live run's error, if it is not known where the frames went
pub live_stopped : (tables : TableEntries) (sources : List (List ℕ)) (given given' f f' r r' : Option (List ℕ)) (fault : LiveFault) → LiveStops tables sources given given' f f' r r' fault → IsLiveFault tables sources given r r' fault
live_stopped tables sources given given' f f' r r' (lives.Source source fault) why = (why.0, why.1.2)
live_stopped tables sources given given' f f' r r' lives.Read why = record { files = why.0; are = why.1; given' = given'; frames = f; frames' = f'; cut = why.2 }
live_stopped tables sources given given' f f' r r' lives.TooLong why = record { files = why.0; are = why.1; given' = given'; frames = f; frames' = f'; cut = why.2 }
live_stopped tables sources given given' f f' r r' lives.Endless why = record { files = why.0; are = why.1; given' = given'; frames = f; frames' = f'; cut = why.2 }
live_stopped tables sources given given' f f' r r' lives.Write why = inr (record { given' = given'; frames = f; frames' = f'; unwritten = inl why })
live_stopped tables sources given given' f f' r r' lives.NoMemory why = why.2.2

-- all lines were answered, and the frames not flushed
pub live_unflushed : (tables : TableEntries) (sources : List (List ℕ)) (given given' f f' r r' : Option (List ℕ)) (end : SessionState) → LiveMeans tables sources given given' f f' r r' end → IsLiveFault tables sources given r r' lives.Write
live_unflushed tables sources given given' f f' r r' end means = inr (record { given' = given'; frames = f; frames' = f'; unwritten = inr (end, means) })

-- the file for the frames was not made, or there was no buffer for it
pub live_unmade : (tables : TableEntries) (sources : List (List ℕ)) (given r : Option (List ℕ)) → IsLiveFault tables sources given r r lives.Write
live_unmade tables sources given r = inl (Keeps-refl r)

pub live_unheld : (tables : TableEntries) (sources : List (List ℕ)) (given r : Option (List ℕ)) (fault : LiveFault) → fault ≡ lives.NoMemory → IsLiveFault tables sources given r r fault
live_unheld tables sources given r fault is = rw is (Keeps-refl r)

module _ (run : RunFiles) (line : Accepted) where
  module _ (tables : TableEntries) (sources : List (List ℕ)) (path : Bor (List ℕ)) (left given replies replies' : Option (List ℕ)) (theirs : path.now ≡ line.words.requests.now) (input : IsInput run.contents line.words.requests.now left given) where
    interrupted : (why : LiveFault) → IsInterrupted tables sources given replies replies' why → IsLiveRefused run line tables sources left replies replies' (fault_by_live path why)
    interrupted why is = inr (inr (record { path = path; is_theirs = theirs; why = why; reported = refl; given = given; input = input; interrupted = is }))

    -- the lines of a reader were not all answered
    pub requests_refused : (why : LiveFault) (fault : Fault) → fault ≡ fault_by_live path why → IsLiveFault tables sources given replies replies' why → IsLiveRefused run line tables sources left replies replies' fault
    requests_refused why fault is refused = rw is (by_fault why refused)
      where
        by_fault : (why : LiveFault) → IsLiveFault tables sources given replies replies' why → IsLiveRefused run line tables sources left replies replies' (fault_by_live path why)
        by_fault (lives.Source source fault) refused = inl refused
        by_fault lives.Read refused = interrupted lives.Read refused
        by_fault lives.TooLong refused = interrupted lives.TooLong refused
        by_fault lives.Endless refused = interrupted lives.Endless refused
        by_fault lives.Write (inl kept) = inl (inl kept)
        by_fault lives.Write (inr stopped) = inl (inr (given, input, stopped))
        by_fault lives.NoMemory refused = inl refused

  -- the file of the requests was not opened
  pub unopened : (tables : TableEntries) (sources : List (List ℕ)) (path : Bor (List ℕ)) (left replies : Option (List ℕ)) → path.now ≡ line.words.requests.now → run.contents.known path.now ≡ None → IsLiveRefused run line tables sources left replies replies (CannotRead path)
  unopened tables sources path left replies theirs unknown = inr (inl (theirs, unknown, refl))

  -- a file that comes before the requests was not read
  pub files_ended : (left replies : Option (List ℕ)) (fault : FileFault) → ((left : Option (List ℕ)) → IsInputFault run.contents (tables_name line) (source_names line) line.words.requests.now left left fault) → IsLiveEnded run line left left replies replies (file_fault fault)
  files_ended left replies fault why =
      inl (unread_ended run line left left replies replies (AreLiveStopped run line left replies replies) (AreLiveReplied run line left replies replies) fault refl (Keeps-refl replies) (why left))

  -- all lines were answered, and the packets were not saved, or the frames not exported
  pub live_unfinished : (left replies replies' : Option (List ℕ)) (tables tables' : TableEntries) (sources sources' : List (List ℕ)) (end : SessionState) (fault : Fault) → tables' ≡ tables → sources' ≡ sources → AreLiveReplied run line left replies replies' end tables' sources' → IsSaveFault fault ⊎ IsExportFault end fault → IsUnfinished run line tables sources left replies replies' fault
  live_unfinished left replies replies' tables tables' sources sources' end fault same same' replied why =
      inr (inr (end, subst (λ (s : List (List ℕ)). AreLiveReplied run line left replies replies' end tables s) same' (subst (λ (t : TableEntries). AreLiveReplied run line left replies replies' end t sources') same replied), why))

  module _ (left left' replies replies' : Option (List ℕ)) where
    unopened_ended : (fault : Fault) → IsUnopened run line replies replies' fault → IsEnded run line left left' replies replies' (AreLiveStopped run line left replies replies') (AreLiveReplied run line left replies replies') fault
    unopened_ended (CommandLine mistake) why = absurd why
    unopened_ended (NamedTwice same) why = absurd why
    unopened_ended (CannotRead path) why = (inr (sym why.0, λ other. why.1), why.2)
    unopened_ended (TooLong path) why = absurd why
    unopened_ended Tables why = absurd why
    unopened_ended (Input source fault) why = absurd why
    unopened_ended (NotExported cause) why = absurd why
    unopened_ended CannotWrite why = absurd why
    unopened_ended NoMemory why = absurd why

    -- the requests were not answered, the packets not saved, or the frames not exported
    pub live_ended : (fault : Fault) (tables : TableEntries) (sources : List (List ℕ)) → IsOver run line tables sources → IsUnfinished run line tables sources left replies replies' fault → IsLiveEnded run line left left' replies replies' fault
    live_ended fault tables sources over (inl (inl refused)) =
        inl (unreplied_ended run line left left' replies replies' (AreLiveStopped run line left replies replies') (AreLiveReplied run line left replies replies') tables sources over (AreLiveStopped run line left replies replies' tables sources) fault (λ stopped. inr (tables, sources, over, stopped)) refused)
    live_ended fault tables sources over (inl (inr (inl shut))) = inl (unopened_ended fault shut)
    live_ended fault tables sources over (inl (inr (inr cut))) = inr (tables, sources, over, cut)
    live_ended fault tables sources over (inr (inl unsaved)) =
        inl (save_ended run line left left' replies replies' (AreLiveStopped run line left replies replies') (AreLiveReplied run line left replies replies') fault unsaved.1 unsaved.0)
    live_ended fault tables sources over (inr (inr unfinished)) =
        inl (after_ended run line left left' replies replies' (AreLiveStopped run line left replies replies') (AreLiveReplied run line left replies replies') tables sources over unfinished.0 unfinished.1 fault unfinished.2)
