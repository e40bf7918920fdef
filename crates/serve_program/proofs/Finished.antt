-- Answers whose writers are flushed after them, a file that gained the frames, and what is saved.
use Rattle.std.proofs.Common.{◌≡◌, ◌≤◌, ◌⊎◌, ◌∙◌, inl, inr, ℕ, List, [], ◌++◌, Option, Some, None, Result, Ok, Err, Bool, true, false, refl, sym, ap, subst, arith, append-nil}
use Rattle.std.proofs.lemmas.Bool.{false≢true}
use Rattle.std.specs.Borrow.{Bor}
use Rattle.std.specs.Prelude.{IfErr, IfOk, IfSome, MatchBool, OnOk, codes, is_some}
use Rattle.std.specs.Io.KnownBytes.{Appends, IsAtEnd, Keeps, append_known}
use Rattle.std.proofs.KnownBytes.{Appends-kept, Keeps-refl, Keeps-trans}
use Rattle.clap.specs.declared.error.Error.{Error}
use Rattle.vp8_tables.specs.Tables.{TableEntries}
use Rattle.frame_session.specs.Answers.{Means, frames_of, replies_of}
use Rattle.frame_session.specs.Exported.{IsExportFile}
use Rattle.frame_session.specs.Live.{LiveMeans}
use Rattle.frame_session.specs.Sessions.{SessionState}
use Rattle.frame_session.specs.declared.export.Export.{Export}
use Rattle.serve_arguments.specs.CommandLines.{IsAccepted, IsMistake}
use Rattle.serve_arguments.specs.Locations.{ArePlaced, AreSeparate, IsPlaceFault}
use Rattle.command_lines.specs.Endings.{IsHelpFault, exit_status}
use Rattle.command_lines.specs.declared.fault.ArgumentFault.{ArgumentFault}
use Rattle.serve_arguments.specs.Statuses.{argument_fault, status_of}
use Rattle.serve_arguments.specs.declared.fault.Fault.{Fault}
use Rattle.serve_arguments.specs.declared.fault.Fault.TheVariants.{CannotWrite}
use Rattle.serve_arguments.specs.declared.words.Accepted.{Accepted}
use Rattle.serve_arguments.specs.declared.words.Words.{Words}
use Rattle.serve_program.specs.Done.{IsDone, IsEndedAs, IsExitStatus, IsLineDone, IsLineFault, IsRunFault, IsServedAs, IsUnanswered}
use Rattle.serve_program.specs.Endings.{AreLiveReplied, AreReplied, Gained, IsBatchEnded, IsLiveEnded, IsLiveReplied, IsOut, IsOver, IsReplied, IsServed, OverSources, RunFiles}
use Rattle.serve_program.specs.Noted.{AreLiveNoted, AreNoted, IsLiveNoted, IsNoted, IsNotedAs}
use Rattle.serve_program.specs.Outs.{IsFlushed}
use Rattle.serve_program.specs.Saved.{ArePacketsSaved, AreSaved, IsExportSaved, SavedAt, exported_text}
use Rattle.serve_program.proofs.Flushed.{flushed, flushed_noted}

appends_from : (a b c : Option (List ℕ)) (bs : List ℕ) → Keeps a b → Appends b c bs → Appends a c bs
appends_from None b c bs kept grown = tt
appends_from (Some xs) None c bs kept grown = absurd kept
appends_from (Some xs) (Some ys) None bs kept grown = absurd grown
appends_from (Some xs) (Some ys) (Some zs) bs kept grown = grown ∙ ap (λ (s : List ℕ). s ++ bs) kept

-- ---- a buffer before a file, which is empty at the begin and at the end

-- an empty buffer changes no known bytes
buffer_kept : (known : Option (List ℕ)) (buffer : List ℕ) → buffer ≡ [] → Keeps known (append_known known buffer)
buffer_kept None buffer is = tt
buffer_kept (Some bytes) buffer is = rw is (append-nil bytes)

kept_buffer : (known : Option (List ℕ)) (buffer : List ℕ) → buffer ≡ [] → Keeps (append_known known buffer) known
kept_buffer None buffer is = tt
kept_buffer (Some bytes) buffer is = rw is (sym (append-nil bytes))

-- the same answers, if the writer of the frames kept its bytes before and after them
means_around : (tables : TableEntries) (sources : List (List ℕ)) (requests : List ℕ) (f f' f'' f''' r r' : Option (List ℕ)) (end : SessionState) → Keeps f f' → Means tables sources requests f' f'' r r' end → Keeps f'' f''' → Means tables sources requests f f''' r r' end
means_around tables sources requests f f' f'' f''' r r' end before m after = record {
  files = m.files;
  are = m.are;
  runs = record {
    answers = m.runs.answers;
    means = m.runs.means;
    shown = Appends-kept f f'' f''' (frames_of m.runs.answers) (appends_from f f' f'' (frames_of m.runs.answers) before m.runs.shown) after;
    said = m.runs.said;
  };
}

abbrev live_around : (tables : TableEntries) (sources : List (List ℕ)) (left left' f f' f'' f''' r r' r'' : Option (List ℕ)) (end : SessionState) → Keeps f f' → LiveMeans tables sources left left' f' f'' r r' end → Keeps f'' f''' → Keeps r' r'' → LiveMeans tables sources left left' f f''' r r'' end
live_around tables sources left left' f f' f'' f''' r r' r'' end before m after kept = record {
  text = m.text;
  taken = m.taken;
  all = m.all;
  files = m.files;
  are = m.are;
  answers = record {
    short = m.answers.short;
    requests = m.answers.requests;
    asked = m.answers.asked;
    runs = record {
      answers = m.answers.runs.answers;
      means = m.answers.runs.means;
      shown = Appends-kept f f'' f''' (frames_of m.answers.runs.answers) (appends_from f f' f'' (frames_of m.answers.runs.answers) before m.answers.runs.shown) after;
      said = Appends-kept r r' r'' (replies_of m.answers.runs.answers) m.answers.runs.said kept;
    };
  };
}

module _ {F : Type 0} (contents : F → Option (List ℕ)) (is_made : List ℕ → F → Type 0) (path : List ℕ) (tables : TableEntries) (sources : List (List ℕ)) (r r' : Option (List ℕ)) (end : SessionState) where
  -- no file is named for the frames
  pub dropped : (requests : List ℕ) (f f' : Option (List ℕ)) → path ≡ codes "-" → Means tables sources requests f f' r r' end → IsReplied (IsOut contents is_made path) tables sources requests r r' end
  dropped requests f f' is means = (f, f', (λ named. absurd (named is)), means)

  pub live_dropped : (given given' f f' : Option (List ℕ)) → path ≡ codes "-" → LiveMeans tables sources given given' f f' r r' end → IsLiveReplied (IsOut contents is_made path) tables sources given r r' end
  live_dropped given given' f f' is means = record { given' = given'; frames = f; frames' = f'; gained = λ named. absurd (named is); means = means }

  -- the frames went to the file that was made, through a buffer that was empty and was flushed
  module _ (file file' : F) (made : is_made path file) (empty : IsAtEnd (contents file)) (buffer buffer' : List ℕ) (f' : Option (List ℕ)) (before : buffer ≡ []) (flush : Keeps f' (append_known (contents file') buffer')) (after : buffer' ≡ []) where
    pub gained : (requests : List ℕ) → Means tables sources requests (append_known (contents file) buffer) f' r r' end → IsReplied (IsOut contents is_made path) tables sources requests r r' end
    gained requests means = (
      contents file,
      contents file',
      (λ named. (file, file', made, empty, refl, refl)),
      means_around tables sources requests (contents file) (append_known (contents file) buffer) f' (contents file') r r' end (buffer_kept (contents file) buffer before) means
          (Keeps-trans f' (append_known (contents file') buffer') (contents file') flush (kept_buffer (contents file') buffer' after)),
    )

    pub live_gained : (given given' : Option (List ℕ)) → LiveMeans tables sources given given' (append_known (contents file) buffer) f' r r' end → IsLiveReplied (IsOut contents is_made path) tables sources given r r' end
    live_gained given given' means = record {
      given' = given';
      frames = contents file;
      frames' = contents file';
      gained = λ named. (file, file', made, empty, refl, refl);
      means = live_around tables sources given given' (contents file) (append_known (contents file) buffer) f' (contents file') r r' r' end (buffer_kept (contents file) buffer before) means
          (Keeps-trans f' (append_known (contents file') buffer') (contents file') flush (kept_buffer (contents file') buffer' after)) (Keeps-refl r');
    }

-- ---- frames that are flushed after a run

-- the run answered its requests, and its frames were flushed
pub ended : {T E : Type 0} (unflushed : E) (answered result : Result T E) (P Q : T → Type 0) (flushed kept : Type 0) → ((value : T) → P value → flushed → kept → Q value) → IsFlushed unflushed answered result → IfOk answered P → OnOk result flushed → OnOk result kept → IfOk result Q
ended unflushed (Ok value) (Ok same) P Q flushed kept so is p f k = subst Q (sym is) (so value p f k)
ended unflushed (Ok value) (Err fault) P Q flushed kept so is p f k = tt
ended unflushed (Err fault) (Ok value) P Q flushed kept so is p f k = absurd is
ended unflushed (Err fault) (Err same) P Q flushed kept so is p f k = tt

-- it failed, or its frames were not flushed
pub ended_badly : {T E : Type 0} (unflushed : E) (answered result : Result T E) (P : T → Type 0) (Q R : E → Type 0) → ((value : T) → P value → R unflushed) → ((fault : E) → Q fault → R fault) → IsFlushed unflushed answered result → IfOk answered P → IfErr answered Q → IfErr result R
ended_badly unflushed (Ok value) (Ok same) P Q R so so' is p q = tt
ended_badly unflushed (Ok value) (Err fault) P Q R so so' is p q = subst R (sym is) (so value p)
ended_badly unflushed (Err fault) (Ok value) P Q R so so' is p q = tt
ended_badly unflushed (Err fault) (Err same) P Q R so so' is p q = subst R (sym is) (so' fault q)

-- ---- replies that are flushed after the answers

replied_kept : (out : Gained) (tables : TableEntries) (sources : List (List ℕ)) (requests : List ℕ) (r r' r'' : Option (List ℕ)) (end : SessionState) → IsReplied out tables sources requests r r' end → Keeps r' r'' → IsReplied out tables sources requests r r'' end
replied_kept out tables sources requests r r' r'' end replied kept =
    (replied.0, replied.1, replied.2, flushed tables sources requests replied.0 replied.1 replied.1 r r' r'' end replied.3 (Keeps-refl replied.1) kept)

live_replied_kept : (out : Gained) (tables : TableEntries) (sources : List (List ℕ)) (given r r' r'' : Option (List ℕ)) (end : SessionState) → IsLiveReplied out tables sources given r r' end → Keeps r' r'' → IsLiveReplied out tables sources given r r'' end
live_replied_kept out tables sources given r r' r'' end replied kept = record {
  given' = replied.given';
  frames = replied.frames;
  frames' = replied.frames';
  gained = replied.gained;
  means = live_around tables sources given replied.given' replied.frames replied.frames replied.frames' replied.frames' r r' r'' end (Keeps-refl replied.frames) replied.means (Keeps-refl replied.frames') kept;
}

noted_kept : (tables : TableEntries) (sources : List (List ℕ)) (requests : List ℕ) (r r' r'' : Option (List ℕ)) (seen seen' : Bool) → IsNoted tables sources requests r r' seen seen' → Keeps r' r'' → IsNoted tables sources requests r r'' seen seen'
noted_kept tables sources requests r r' r'' seen seen' noted kept = record {
  frames = noted.frames;
  frames' = noted.frames';
  end = noted.end;
  means = flushed_noted tables sources requests noted.frames noted.frames' noted.frames' r r' r'' noted.end seen seen' noted.means (Keeps-refl noted.frames') kept;
}

live_noted_kept : (tables : TableEntries) (sources : List (List ℕ)) (given r r' r'' : Option (List ℕ)) (seen seen' : Bool) → IsLiveNoted tables sources given r r' seen seen' → Keeps r' r'' → IsLiveNoted tables sources given r r'' seen seen'
live_noted_kept tables sources given r r' r'' seen seen' noted kept = record {
  given' = noted.given';
  frames = noted.frames;
  frames' = noted.frames';
  end = noted.end;
  means = record {
    means = live_around tables sources given noted.given' noted.frames noted.frames noted.frames' noted.frames' r r' r'' noted.end (Keeps-refl noted.frames) noted.means.means (Keeps-refl noted.frames') kept;
    noted = noted.means.noted;
  };
}

module _ (run : RunFiles) (line : Accepted) (left r r' r'' : Option (List ℕ)) (seen seen' : Bool) (kept : Keeps r' r'') where
  over_with : (Holds Holds' : TableEntries → List (List ℕ) → Type 0) → ((tables : TableEntries) (sources : List (List ℕ)) → Holds tables sources → Holds' tables sources) → OverSources run line Holds → OverSources run line Holds'
  over_with Holds Holds' so over = (over.0, over.1, over.2, so over.0 over.1 over.3)

  noted_as_kept : (live : Bool) → MatchBool live (OverSources run line (AreLiveNoted run line left r r' seen seen')) (OverSources run line (AreNoted run line left r r' seen seen')) → MatchBool live (OverSources run line (AreLiveNoted run line left r r'' seen seen')) (OverSources run line (AreNoted run line left r r'' seen seen'))
  noted_as_kept true noted =
      over_with (AreLiveNoted run line left r r' seen seen') (AreLiveNoted run line left r r'' seen seen') (λ tables sources n. record { given = n.given; input = n.input; noted = live_noted_kept tables sources n.given r r' r'' seen seen' n.noted kept }) noted
  noted_as_kept false noted =
      over_with (AreNoted run line left r r' seen seen') (AreNoted run line left r r'' seen seen') (λ tables sources n. record { lines = n.lines; are = n.are; noted = noted_kept tables sources n.lines r r' r'' seen seen' n.noted kept }) noted

module _ (run : RunFiles) (line : Accepted) (new : SessionState) where
  served_with : (Replied Replied' : SessionState → TableEntries → List (List ℕ) → Type 0) → ((end : SessionState) (tables : TableEntries) (sources : List (List ℕ)) → Replied end tables sources → Replied' end tables sources) → IsServed run line Replied new → IsServed run line Replied' new
  served_with Replied Replied' so served = record {
    tables = served.tables;
    sources = served.sources;
    over = served.over;
    end = served.end;
    replied = so served.end served.tables served.sources served.replied;
    saved = served.saved;
  }

  module _ (left r r' r'' : Option (List ℕ)) (kept : Keeps r' r'') where
    batch_kept : IsServed run line (AreReplied run line left r r') new → IsServed run line (AreReplied run line left r r'') new
    batch_kept served = served_with (AreReplied run line left r r') (AreReplied run line left r r'') (λ end tables sources replied. (replied.0, replied.1, replied_kept (run.out line.words.frames.now) tables sources replied.0 r r' r'' end replied.2 kept)) served

    live_kept : IsServed run line (AreLiveReplied run line left r r') new → IsServed run line (AreLiveReplied run line left r r'') new
    live_kept served = served_with (AreLiveReplied run line left r r') (AreLiveReplied run line left r r'') (λ end tables sources replied. (replied.0, replied.1, live_replied_kept (run.out line.words.frames.now) tables sources replied.0 r r' r'' end replied.2 kept)) served

    served_kept : (live : Bool) → MatchBool live (IsServed run line (AreLiveReplied run line left r r') new) (IsServed run line (AreReplied run line left r r') new) → MatchBool live (IsServed run line (AreLiveReplied run line left r r'') new) (IsServed run line (AreReplied run line left r r'') new)
    served_kept true served = live_kept served
    served_kept false served = batch_kept served

    pub done : (words : Words) (seen seen' : Bool) → seen ≡ false → IsAccepted words line → ArePlaced run.places line AreSeparate → IsServedAs run line left r r' new → IsNotedAs run line left r r' seen seen' → IsDone run words left r r'' seen'
    done words seen seen' fresh accepted placed served noted = record {
      line = line;
      accepted = accepted;
      placed = placed;
      new = new;
      served = served_kept line.words.is_live served;
      noted = subst (λ (b : Bool). IsNotedAs run line left r r'' b seen') fresh (noted_as_kept run line left r r' r'' seen seen' kept line.words.is_live noted);
    }

module _ (run : RunFiles) (line : Accepted) (left r r' : Option (List ℕ)) (tables : TableEntries) (sources : List (List ℕ)) (end new : SessionState) (over : IsOver run line tables sources) where
  pub served : AreReplied run line left r r' end tables sources → AreSaved run.saved line.words end new → IsServed run line (AreReplied run line left r r') new
  served replied saved = record { tables = tables; sources = sources; over = over; end = end; replied = replied; saved = saved }

  pub live_served : AreLiveReplied run line left r r' end tables sources → AreSaved run.saved line.words end new → IsServed run line (AreLiveReplied run line left r r') new
  live_served replied saved = record { tables = tables; sources = sources; over = over; end = end; replied = replied; saved = saved }

-- ---- what is saved

frames_saved : (saved : SavedAt) (end : SessionState) (exported : Option (Bor (List ℕ))) (export : Option Export) → is_some export ≡ is_some exported → IfSome export (IsExportFile end) → IfSome export (λ export. IfSome exported (λ path. saved path.now (exported_text export))) → IfSome exported (λ path. (export : Export) × IsExportFile end export × saved path.now (exported_text export))
frames_saved saved end None export same file at = tt
frames_saved saved end (Some path) None same file at = absurd (false≢true same)
frames_saved saved end (Some path) (Some export) same file at = (export, file, at)

pub all_saved : (saved : SavedAt) (words : Words) (export : Option Export) (end new : SessionState) → new ≡ end → is_some export ≡ is_some words.exported → IfSome export (IsExportFile end) → ArePacketsSaved saved words new → IfSome export (IsExportSaved saved words) → AreSaved saved words end new
all_saved saved words export end new kept same file packets at = record {
  same = kept;
  packets = packets;
  frames = frames_saved saved end words.exported export same file at;
}

-- ---- the exit status

pub exits : (run : RunFiles) (parsed : Result Words Error) (is_named : Bool) (left left' r r' : Option (List ℕ)) (answer : Result ℕ Fault) (status : ℕ) → status ≡ exit_status status_of answer → IfOk answer (IsLineDone run parsed is_named left r r') → IfErr answer (IsLineFault run parsed left left' r r') → IsExitStatus run parsed is_named left left' r r' status
exits run parsed is_named left left' r r' (Ok n) status is done why = inl (subst (IsLineDone run parsed is_named left r r') (sym is) done)
exits run parsed is_named left left' r r' (Err fault) status is done why = inr (fault, why, is)

-- ---- why not all was done

-- all was answered, and the replies were not flushed
module _ (run : RunFiles) (line : Accepted) (new : SessionState) (left left' r r' r'' : Option (List ℕ)) (kept : Keeps r' r'') where
  unflushed_as : (live : Bool) → MatchBool live (IsServed run line (AreLiveReplied run line left r r') new) (IsServed run line (AreReplied run line left r r') new) → MatchBool live (IsLiveEnded run line left left' r r'' CannotWrite) (IsBatchEnded run line left left' r r'' CannotWrite)
  unflushed_as true served =
      let all = live_kept run line new left r r' r'' kept served in
      inl (inl (inr (all.tables, all.sources, all.over, (all.end, all.replied))))
  unflushed_as false served =
      let all = batch_kept run line new left r r' r'' kept served in
      inl (inr (all.tables, all.sources, all.over, (all.end, all.replied)))

  pub unflushed_replies : (words : Words) (fault : Fault) → fault ≡ CannotWrite → IsAccepted words line → ArePlaced run.places line AreSeparate → IsServedAs run line left r r' new → IsRunFault run words left left' r r'' fault
  unflushed_replies words fault is accepted placed served = rw is (inr (record { line = line; accepted = accepted; placed = placed; ended = unflushed_as line.words.is_live served }))

module _ (run : RunFiles) (words : Words) (left r : Option (List ℕ)) where
  -- the values of the arguments have a mistake
  pub mistaken : (fault : Fault) → IsMistake words fault → IsRunFault run words left left r r fault
  mistaken fault why = inl (inl why, refl, refl)

  -- a file is one that it must not be
  pub misplaced : (line : Accepted) (fault : Fault) → IsAccepted words line → IsPlaceFault run.places line fault → IsRunFault run words left left r r fault
  misplaced line fault accepted why = inl (inr (line, accepted, why), refl, refl)

  -- requests were not answered, or what was asked for was not saved
  pub given_up : (line : Accepted) (left' r' : Option (List ℕ)) (fault : Fault) → IsAccepted words line → ArePlaced run.places line AreSeparate → IsEndedAs run line left left' r r' fault → IsRunFault run words left left' r r' fault
  given_up line left' r' fault accepted placed ended = inr (record { line = line; accepted = accepted; placed = placed; ended = ended })

-- arguments could not be parsed, and this is why they were not answered
pub unanswered : (error : Error) (r r' : Option (List ℕ)) (why : ArgumentFault) (fault : Fault) → fault ≡ argument_fault why → IsHelpFault error r r' why → IsUnanswered error r r' fault
unanswered error r r' why fault is cause = record { why = why; reported = is; not_helped = cause }
