-- Files that are read from the bytes of sources.
use Rattle.std.proofs.Common.{◌≡◌, ℕ, zero, suc, ◌+◌, ◌<◌, ◌≤◌, List, [], ◌∷◌, ◌++◌, Some, length, map, slice_get, take, refl, sym, ap, subst, ◌∙◌, arith}
use Rattle.std.proofs.lemmas.List.{map_more}
use Rattle.std.specs.Prelude.{slice_index_or}
use Rattle.stream_files.specs.declared.streams.Stream.{Stream}
use Rattle.stream_sources.specs.declared.faults.StreamFault.{StreamFault}
use Rattle.stream_sources.specs.Sources.{IsStream}
use Rattle.stream_sources.specs.Faults.{StreamRefuses}
use Rattle.stream_sources.proofs.OneStream.{few}
use Rattle.frame_session.specs.Answers.{AreStreams, SourceRefuses}

-- one more file
pub are_more : (texts : List (List ℕ)) (files : List Stream) (bytes : List ℕ) (file : Stream) → AreStreams texts files → IsStream bytes file → AreStreams (texts ++ bytes ∷ []) (files ++ file ∷ [])
are_more [] [] bytes file are is = (is, tt)
are_more [] (f ∷ files) bytes file are is = absurd are
are_more (t ∷ texts) [] bytes file are is = absurd are
are_more (t ∷ texts) (f ∷ files) bytes file are is = (are.0, are_more texts files bytes file are.1 is)

-- one file for each source
pub are_as_many : (texts : List (List ℕ)) (files : List Stream) → AreStreams texts files → length files ≡ length texts
are_as_many [] [] are = refl
are_as_many [] (f ∷ files) are = absurd are
are_as_many (t ∷ texts) [] are = absurd are
are_as_many (t ∷ texts) (f ∷ files) are = ap suc (are_as_many texts files are.1)

-- no file has too many packets
pub are_few : (texts : List (List ℕ)) (files : List Stream) → AreStreams texts files → (k : ℕ) (other : Stream) → k < length files → length (slice_index_or files k other).packets ≤ 1048576
are_few [] [] are k other h = absurd (omega (arith, h))
are_few [] (f ∷ files) are k other h = absurd are
are_few (t ∷ texts) [] are k other h = absurd are
are_few (t ∷ texts) (f ∷ files) are zero other h = few t f are.0
are_few (t ∷ texts) (f ∷ files) are (suc k) other h = are_few texts files are.1 k other (omega (arith, h))

module _ {X : Type 0} (bytes_of : X → List ℕ) where
  -- the bytes of a source
  text_at : (sources : List X) (n : ℕ) (d : X) → n < length sources → slice_get (map bytes_of sources) n ≡ Some (bytes_of (slice_index_or sources n d))
  text_at [] n d h = absurd (omega (arith, h))
  text_at (s ∷ sources) zero d h = refl
  text_at (s ∷ sources) (suc n) d h = text_at sources n d (omega (arith, h))

  take_texts : (sources : List X) (n : ℕ) → map bytes_of (take n sources) ≡ take n (map bytes_of sources)
  take_texts [] zero = refl
  take_texts [] (suc n) = refl
  take_texts (s ∷ sources) zero = refl
  take_texts (s ∷ sources) (suc n) = ap (λ (l : List (List ℕ)). bytes_of s ∷ l) (take_texts sources n)

  as_many : (sources : List X) (n : ℕ) → n < length sources → length (map bytes_of (take n sources)) ≡ n
  as_many [] n h = absurd (omega (arith, h))
  as_many (s ∷ sources) zero h = refl
  as_many (s ∷ sources) (suc n) h = ap suc (as_many sources n (omega (arith, h)))

  -- an error of a source, after files of the sources before it
  pub refused_at : (sources : List X) (n source : ℕ) (d : X) (files : List Stream) (fault : StreamFault) → n < length sources → d ≡ slice_index_or sources n d → source ≡ length files → AreStreams (map bytes_of (take n sources)) files → StreamRefuses (bytes_of d) fault → SourceRefuses (map bytes_of sources) source fault
  refused_at sources n source d files fault within here_is is are refuses =
      let here : source ≡ n = is ∙ are_as_many (map bytes_of (take n sources)) files are ∙ as_many sources n within in
      record {
        bytes = bytes_of d;
        is_its = ap (slice_get (map bytes_of sources)) here ∙ text_at sources n d within ∙ ap (λ (x : X). Some (bytes_of x)) (sym here_is);
        refuses = refuses;
        files = files;
        earlier = subst (λ (k : ℕ). AreStreams (take k (map bytes_of sources)) files) (sym here) (subst (λ (texts : List (List ℕ)). AreStreams texts files) (take_texts sources n) are);
      }

  -- one more source
  pub read_more : (sources : List X) (n : ℕ) (d : X) (files more : List Stream) (file : Stream) → n < length sources → d ≡ slice_index_or sources n d → AreStreams (map bytes_of (take n sources)) files → IsStream (bytes_of d) file → more ≡ files ++ file ∷ [] → AreStreams (map bytes_of (take (n + 1) sources)) more
  read_more sources n d files more file within here_is are is pushed =
      let texts : map bytes_of (take (n + 1) sources) ≡ map bytes_of (take n sources) ++ bytes_of d ∷ [] =
      map_more bytes_of sources n d within ∙ ap (λ (x : X). map bytes_of (take n sources) ++ bytes_of x ∷ []) (sym here_is) in
      subst (λ (l : List Stream). AreStreams (map bytes_of (take (n + 1) sources)) l) (sym pushed)
      (subst (λ (ts : List (List ℕ)). AreStreams ts (files ++ file ∷ [])) (sym texts) (are_more (map bytes_of (take n sources)) files (bytes_of d) file are is))
