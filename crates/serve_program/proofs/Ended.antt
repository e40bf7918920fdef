-- Why the program exits, part by part.
use Rattle.std.proofs.Common.{◌≡◌, ◌⊎◌, inl, inr, ℕ, List, Option, Result, Ok, Err, sym, subst}
use Rattle.std.specs.Prelude.{IfErr, IfOk, IsErrAnd}
use Rattle.std.specs.Io.KnownBytes.{Keeps}
use Rattle.std.proofs.KnownBytes.{Keeps-refl}
use Rattle.vp8_tables.specs.Tables.{TableEntries}
use Rattle.frame_session.specs.Answers.{Means, RunStops}
use Rattle.frame_session.specs.Sessions.{SessionState}
use Rattle.frame_session.specs.declared.serving.RunFault.{RunFault}
use Rattle.frame_session.specs.declared.serving.RunFault.TheVariants as runs
use Rattle.output_files.specs.declared.saving.Unsaved.{Unsaved}
use Rattle.output_files.specs.declared.saving.Unsaved.TheVariants as unsaved
use Rattle.command_lines.specs.declared.fault.FileFault.{FileFault}
use Rattle.command_lines.specs.declared.fault.FileFault.TheVariants as files
use Rattle.serve_arguments.specs.CommandLines.{source_names, tables_name}
use Rattle.serve_arguments.specs.Readings.{AreRequests, IsInputFault}
use Rattle.serve_arguments.specs.Statuses.{fault_of, file_fault}
use Rattle.serve_arguments.specs.declared.fault.Fault.{Fault}
use Rattle.serve_arguments.specs.declared.fault.Fault.TheVariants.{CommandLine, NamedTwice, CannotRead, TooLong, Tables, Input, NotExported, CannotWrite, NoMemory}
use Rattle.serve_arguments.specs.declared.words.Accepted.{Accepted}
use Rattle.serve_program.specs.Endings.{AreReplied, AreStopped, IsBeforeOrAfter, IsEnded, IsExportFault, IsOver, IsRefused, IsReplied, IsSaveFault, IsStopped, IsUnreplied, OverSources, RunFiles, fault_by_run}

-- a run's error
pub run_refused : (tables : TableEntries) (sources : List (List ℕ)) (requests : List ℕ) (f f' r r' : Option (List ℕ)) (fault : RunFault) → RunStops tables sources requests f f' r r' fault → IsRefused tables sources requests f f' r r' (fault_by_run fault)
run_refused tables sources requests f f' r r' (runs.Source source fault) why = why
run_refused tables sources requests f f' r r' runs.Write why = inl why
run_refused tables sources requests f f' r r' runs.NoMemory why = (why.2, why.3)

-- it, if it is not known where the frames went
pub unreplied : (tables : TableEntries) (sources : List (List ℕ)) (requests : List ℕ) (f f' r r' : Option (List ℕ)) (fault : Fault) → IsRefused tables sources requests f f' r r' fault → IsUnreplied sources (IsStopped tables sources requests r r') r r' fault
unreplied tables sources requests f f' r r' (CommandLine mistake) why = absurd why
unreplied tables sources requests f f' r r' (NamedTwice same) why = absurd why
unreplied tables sources requests f f' r r' (CannotRead path) why = absurd why
unreplied tables sources requests f f' r r' (TooLong path) why = absurd why
unreplied tables sources requests f f' r r' Tables why = absurd why
unreplied tables sources requests f f' r r' (Input source fault) why = (why.0, why.2)
unreplied tables sources requests f f' r r' (NotExported cause) why = absurd why
unreplied tables sources requests f f' r r' CannotWrite why = inr (f, f', why)
unreplied tables sources requests f f' r r' NoMemory why = why.1

-- nothing was written: a file was not made, or memory ran out
pub unmade : (sources : List (List ℕ)) (stopped : Type 0) (r : Option (List ℕ)) (fault : Fault) → fault ≡ CannotWrite → IsUnreplied sources stopped r r fault
unmade sources stopped r fault is = rw is (inl (Keeps-refl r))

pub unheld : (sources : List (List ℕ)) (stopped : Type 0) (r : Option (List ℕ)) (fault : Fault) → fault ≡ NoMemory → IsUnreplied sources stopped r r fault
unheld sources stopped r fault is = rw is (Keeps-refl r)

-- all requests were answered, and the file for the frames not flushed
pub unflushed_out : (tables : TableEntries) (sources : List (List ℕ)) (requests : List ℕ) (f f' r r' : Option (List ℕ)) (end : SessionState) (fault : Fault) → fault ≡ CannotWrite → Means tables sources requests f f' r r' end → IsUnreplied sources (IsStopped tables sources requests r r') r r' fault
unflushed_out tables sources requests f f' r r' end fault is means = rw is (inr (f, f', inr (end, means)))

-- a save's error as the program's
pub save_fault : (why : Unsaved) (fault : Fault) → fault ≡ fault_of why → IsSaveFault fault
save_fault unsaved.NoMemory fault is = inr is
save_fault (unsaved.Make error) fault is = inl is
save_fault unsaved.Write fault is = inl is
save_fault (unsaved.Sync error) fault is = inl is
save_fault (unsaved.Rename error) fault is = inl is

-- what holds of the error that `?` returns
pub returned : {T E : Type 0} (r : Result T E) (P : E → Type 0) (e : E) → IsErrAnd r (λ v. v ≡ e) → P e → IfErr r P
returned (Ok x) P e is p = tt
returned (Err v) P e is p = subst P (sym is) p

-- of one result
pub both_ok : {T E : Type 0} (r : Result T E) (P Q S : T → Type 0) → ((x : T) → P x → Q x → S x) → IfOk r P → IfOk r Q → IfOk r S
both_ok (Ok x) P Q S so p q = so x p q
both_ok (Err v) P Q S so p q = tt

module _ (run : RunFiles) (line : Accepted) where
  module _ (left left' : Option (List ℕ)) (replies replies' : Option (List ℕ)) (Stopped : TableEntries → List (List ℕ) → Type 0) (Replied : SessionState → TableEntries → List (List ℕ) → Type 0) where
    -- a file was not read
    pub unread_ended : (fault : FileFault) → replies' ≡ replies → Keeps replies replies' → IsInputFault run.contents (tables_name line) (source_names line) line.words.requests.now left left' fault → IsEnded run line left left' replies replies' Stopped Replied (file_fault fault)
    unread_ended (files.CannotRead path) same kept why = (why, same)
    unread_ended (files.TooLong path) same kept why = (why, same)
    unread_ended files.Tables same kept why = (why.0, why.1, same)
    unread_ended files.NoMemory same kept why = inl kept

    pub memory_ended : (fault : Fault) → Keeps replies replies' → fault ≡ NoMemory → IsEnded run line left left' replies replies' Stopped Replied fault
    memory_ended fault kept is = rw is (inl kept)

    -- nothing was written, and the packets are not saved
    pub save_ended : (fault : Fault) → Keeps replies replies' → IsSaveFault fault → IsEnded run line left left' replies replies' Stopped Replied fault
    save_ended fault kept (inl is) = rw is (inl (inl kept))
    save_ended fault kept (inr is) = rw is (inl kept)

    module _ (tables : TableEntries) (sources : List (List ℕ)) (over : IsOver run line tables sources) where
      -- the requests were not all answered
      pub unreplied_ended : (stopped : Type 0) (fault : Fault) → (stopped → IsBeforeOrAfter run line replies replies' Replied ⊎ OverSources run line Stopped) → IsUnreplied sources stopped replies replies' fault → IsEnded run line left left' replies replies' Stopped Replied fault
      unreplied_ended stopped (CommandLine mistake) so why = absurd why
      unreplied_ended stopped (NamedTwice same) so why = absurd why
      unreplied_ended stopped (CannotRead path) so why = absurd why
      unreplied_ended stopped (TooLong path) so why = absurd why
      unreplied_ended stopped Tables so why = absurd why
      unreplied_ended stopped (Input source fault) so why = (tables, sources, over, why)
      unreplied_ended stopped (NotExported cause) so why = absurd why
      unreplied_ended stopped CannotWrite so (inl kept) = inl (inl kept)
      unreplied_ended stopped CannotWrite so (inr why) = so why
      unreplied_ended stopped NoMemory so why = inl why

      module _ (end : SessionState) (replied : Replied end tables sources) where
        -- all requests were answered, and the packets not saved
        unsaved_ended : (fault : Fault) → IsSaveFault fault → IsEnded run line left left' replies replies' Stopped Replied fault
        unsaved_ended fault (inl is) = rw is (inl (inr (tables, sources, over, (end, replied))))
        unsaved_ended fault (inr is) = rw is (inr (tables, sources, over, (end, replied)))

        -- or the frames not exported
        unexported_ended : (fault : Fault) → IsExportFault end fault → IsEnded run line left left' replies replies' Stopped Replied fault
        unexported_ended (CommandLine mistake) why = absurd why
        unexported_ended (NamedTwice same) why = absurd why
        unexported_ended (CannotRead path) why = absurd why
        unexported_ended (TooLong path) why = absurd why
        unexported_ended Tables why = absurd why
        unexported_ended (Input source fault) why = absurd why
        unexported_ended (NotExported cause) why = (tables, sources, over, (end, replied, why))
        unexported_ended CannotWrite why = absurd why
        unexported_ended NoMemory why = inr (tables, sources, over, (end, replied))

        pub after_ended : (fault : Fault) → IsSaveFault fault ⊎ IsExportFault end fault → IsEnded run line left left' replies replies' Stopped Replied fault
        after_ended fault (inl why) = unsaved_ended fault why
        after_ended fault (inr why) = unexported_ended fault why

  module _ (left left' replies replies' : Option (List ℕ)) (tables : TableEntries) (sources : List (List ℕ)) (over : IsOver run line tables sources) (lines : List ℕ) (are : AreRequests run.contents line.words.requests.now left lines) where
    -- the requests in a list were not all answered
    pub run_ended : (fault : Fault) → IsUnreplied sources (IsStopped tables sources lines replies replies') replies replies' fault → IsEnded run line left left' replies replies' (AreStopped run line left replies replies') (AreReplied run line left replies replies') fault
    run_ended fault why =
        unreplied_ended left left' replies replies' (AreStopped run line left replies replies') (AreReplied run line left replies replies') tables sources over (IsStopped tables sources lines replies replies') fault (λ stopped. inr (tables, sources, over, (lines, are, stopped))) why

    -- they were, and the packets were not saved, or the frames not exported
    pub finish_ended : (end : SessionState) (fault : Fault) → IsReplied (run.out line.words.frames.now) tables sources lines replies replies' end → IsSaveFault fault ⊎ IsExportFault end fault → IsEnded run line left left' replies replies' (AreStopped run line left replies replies') (AreReplied run line left replies replies') fault
    finish_ended end fault replied why =
        after_ended left left' replies replies' (AreStopped run line left replies replies') (AreReplied run line left replies replies') tables sources over end (lines, are, replied) fault why

-- the same over tables, sources and requests that are equal to these
module _ (run : RunFiles) (line : Accepted) (left left' r r' : Option (List ℕ)) (tables tables' : TableEntries) (sources sources' : List (List ℕ)) (lines lines' : List ℕ) (fault : Fault) (same : tables' ≡ tables) (same' : sources' ≡ sources) (same'' : lines' ≡ lines) (over : IsOver run line tables sources) (are : AreRequests run.contents line.words.requests.now left lines) where
  pub run_ended_over : IsUnreplied sources' (IsStopped tables' sources' lines' r r') r r' fault → IsEnded run line left left' r r' (AreStopped run line left r r') (AreReplied run line left r r') fault
  run_ended_over why =
      let a = subst (λ (t : TableEntries). IsUnreplied sources' (IsStopped t sources' lines' r r') r r' fault) same why in
      let b = subst (λ (s : List (List ℕ)). IsUnreplied s (IsStopped tables s lines' r r') r r' fault) same' a in
      run_ended run line left left' r r' tables sources over lines are fault (subst (λ (l : List ℕ). IsUnreplied sources (IsStopped tables sources l r r') r r' fault) same'' b)

  pub finish_ended_over : (end : SessionState) → IsReplied (run.out line.words.frames.now) tables' sources' lines' r r' end → IsSaveFault fault ⊎ IsExportFault end fault → IsEnded run line left left' r r' (AreStopped run line left r r') (AreReplied run line left r r') fault
  finish_ended_over end replied why =
      let a = subst (λ (t : TableEntries). IsReplied (run.out line.words.frames.now) t sources' lines' r r' end) same replied in
      let b = subst (λ (s : List (List ℕ)). IsReplied (run.out line.words.frames.now) tables s lines' r r' end) same' a in
      finish_ended run line left left' r r' tables sources over lines are end fault (subst (λ (l : List ℕ). IsReplied (run.out line.words.frames.now) tables sources l r r' end) same'' b) why
