-- What follows from an exit status of 2.
use Rattle.std.proofs.Common.{◌≡◌, ◌∙◌, inl, inr, ℕ, Bool, true, false, List, Option, ap, arith, refl, sym}
use Rattle.std.specs.Borrow.{Bor}
use Rattle.std.specs.Prelude.{MatchBool}
use Rattle.frame_session.specs.declared.live.LiveFault.{LiveFault}
use Rattle.frame_session.specs.declared.live.LiveFault.TheVariants as lives
use Rattle.frame_session.specs.Sessions.{SessionState}
use Rattle.serve_arguments.specs.Statuses.{status_of}
use Rattle.serve_arguments.specs.declared.fault.Fault.{Fault}
use Rattle.serve_arguments.specs.declared.fault.Fault.TheVariants.{CommandLine, NamedTwice, CannotRead, TooLong, Tables, Input, NotExported, CannotWrite, NoMemory}
use Rattle.serve_arguments.specs.declared.words.Accepted.{Accepted}
use Rattle.serve_arguments.specs.declared.words.Words.{Words}
use Rattle.serve_program.specs.Done.{IsNotBegun, IsRunFault}
use Rattle.serve_program.specs.Endings.{AreLiveReplied, AreLiveStopped, AreReplied, AreStopped, IsBatchEnded, IsEnded, IsLiveEnded, OfSources, RunFiles, fault_by_live}

no_one_is_2 : ◌≡◌ {A = ℕ} 1 2 → ⊥
no_one_is_2 is = omega (arith, is)

module _ (files : RunFiles) (line : Accepted) (left left' r r' : Option (List ℕ)) where
  no_end : (Stopped : OfSources) (Replied : SessionState → OfSources) (fault : Fault) → status_of fault ≡ 2 → IsEnded files line left left' r r' Stopped Replied fault → ⊥
  no_end Stopped Replied (CommandLine mistake) is why = why
  no_end Stopped Replied (NamedTwice same) is why = why
  no_end Stopped Replied (CannotRead path) is why = no_one_is_2 is
  no_end Stopped Replied (TooLong path) is why = no_one_is_2 is
  no_end Stopped Replied Tables is why = no_one_is_2 is
  no_end Stopped Replied (Input source fault) is why = no_one_is_2 is
  no_end Stopped Replied (NotExported cause) is why = no_one_is_2 is
  no_end Stopped Replied CannotWrite is why = no_one_is_2 is
  no_end Stopped Replied NoMemory is why = no_one_is_2 is

  live_status : (path : Bor (List ℕ)) (why : LiveFault) → status_of (fault_by_live path why) ≡ 1
  live_status path (lives.Source source fault) = refl
  live_status path lives.Read = refl
  live_status path lives.TooLong = refl
  live_status path lives.Endless = refl
  live_status path lives.Write = refl
  live_status path lives.NoMemory = refl

  no_ending : (live : Bool) (fault : Fault) → status_of fault ≡ 2 → MatchBool live (IsLiveEnded files line left left' r r' fault) (IsBatchEnded files line left left' r r' fault) → ⊥
  no_ending true fault is (inl ended) = no_end (AreLiveStopped files line left r r') (AreLiveReplied files line left r r') fault is ended
  no_ending true fault is (inr cut) =
      let short = cut.3 in
      no_one_is_2 (sym (live_status short.path short.why) ∙ sym (ap status_of short.reported) ∙ is)
  no_ending false fault is ended = no_end (AreStopped files line left r r') (AreReplied files line left r r') fault is ended

pub mistake_begins_nothing : (files : RunFiles) (words : Words) (left left' r r' : Option (List ℕ)) (fault : Fault) → status_of fault ≡ 2 → IsRunFault files words left left' r r' fault → IsNotBegun files words fault × (left' ≡ left) × (r' ≡ r)
mistake_begins_nothing files words left left' r r' fault is (inl begun) = begun
mistake_begins_nothing files words left left' r r' fault is (inr given) = absurd (no_ending files given.line left left' r r' given.line.words.is_live fault is given.ended)
