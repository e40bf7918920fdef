-- Why the files were not read, part by part.
use Rattle.std.proofs.Common.{ℕ, List, Option, inl, inr, refl, sym}
use Rattle.command_lines.specs.Readings.{IsArgumentFault, IsTablesFault}
use Rattle.command_lines.specs.declared.fault.FileFault.{FileFault}
use Rattle.command_lines.specs.declared.fault.FileFault.TheVariants.{CannotRead, TooLong, Tables, NoMemory}
use Rattle.serve_arguments.specs.Readings.{AreUnread, Contents, IsInputFault}

module _ (contents : Contents) (tables : Option (List ℕ)) (names : List (List ℕ)) (requests : List ℕ) where
  -- the tables were not read
  pub tables_unread : (left : Option (List ℕ)) (fault : FileFault) → IsTablesFault contents.known tables fault → IsInputFault contents tables names requests left left fault
  tables_unread left (CannotRead path) why = inl ((inl why.0, refl), why.1)
  tables_unread left (TooLong path) why = inl ((inl why.0, refl), why.1)
  tables_unread left Tables why = (why, refl)
  tables_unread left NoMemory why = tt

  -- a source was not read
  pub sources_unread : (left : Option (List ℕ)) (fault : FileFault) → AreUnread contents names fault → IsInputFault contents tables names requests left left fault
  sources_unread left (CannotRead path) why = inl ((inr why.0, refl), why.1)
  sources_unread left (TooLong path) why = inl ((inr why.0, refl), why.1)
  sources_unread left Tables why = absurd why
  sources_unread left NoMemory why = tt

  -- the requests were not read
  pub requests_unread : (left left' : Option (List ℕ)) (fault : FileFault) → IsArgumentFault contents.known left requests fault → IsInputFault contents tables names requests left left' fault
  requests_unread left left' (CannotRead path) why = inr (sym why.0, why.1)
  requests_unread left left' (TooLong path) why = inr (sym why.0, why.1, why.2)
  requests_unread left left' Tables why = absurd why
  requests_unread left left' NoMemory why = tt
