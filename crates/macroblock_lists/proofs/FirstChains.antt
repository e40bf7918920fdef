-- What decoding reads of a first partition is a chain of reads.
use Rattle.std.proofs.Common.{◌≡◌, ℕ, Bool, true, false, List, [], ◌∷◌, refl, sym, subst, ◌∙◌, suc, zero}
use Rattle.std.specs.Prelude.{nat_lt, ◌&&◌, Option, Some, None, if◌then◌else◌}
use Rattle.std.proofs.lemmas.Bool.{and_parts, lt-ltb, ltb-true}
use Rattle.bool_coder.specs.Reader.{Reader}
use Rattle.bool_coder.specs.Reading.{Reading, ◌>>=◌, give}
use Rattle.bool_coder.specs.Uncut.{settled}
use Rattle.bool_coder.specs.Chains.{AreProbabilities, IsChain}
use Rattle.bool_coder.proofs.Chains.{are_bytes, probabilities, bind-chain, give-chain}
use Rattle.vp8_tables.specs.Tables.{TableEntries}
use Rattle.frame_header.specs.declared.context.Context.{Context}
use Rattle.frame_header.specs.declared.header.Header.{Header}
use Rattle.frame_header.specs.Contexts.{first_context}
use Rattle.frame_header.specs.Tags.{has_key_tag}
use Rattle.frame_header.specs.Fields.{fields}
use Rattle.frame_header.specs.Header.{header_in}
use Rattle.frame_header.specs.TrailingFields.{trailing_fields}
use Rattle.mode_parser.specs.Chains.{AreRows, FramesAreChains, HaveProbabilities, IsProbability}
use Rattle.macroblock_lists.specs.Known.{Known}
use Rattle.macroblock_lists.specs.FirstChains.{AreBytes, FirstIsChain, columns_of, context_in, header_reading, records_reading, rows_of}
use Rattle.macroblock_lists.proofs.Gives.{Gives, fields-bytes, gives-give, gives-next, trailing-bytes}

-- readings that return the same
pub same-chain : {A : Type 0} {one other : Reading A} → ((r : Reader) → other r ≡ one r) → IsChain one → IsChain other
same-chain same is = record { chain = is.chain; probable = is.probable; same = λ r. same r ∙ is.same r; uncut = λ r some. same (settled r) ∙ is.uncut r some }

-- a reading that need only be a chain where a test passes
if_tested : {A : Type 0} {yes : Reading A} (test : Bool) (other : A) → (test ≡ true → IsChain yes) → IsChain (if test then yes else give other)
if_tested true other is = is refl
if_tested false other is = give-chain other

pub tested-chain : {A B : Type 0} {first : Reading A} {next : A → Reading B} (test : A → Bool) (other : B) → IsChain first → Gives (λ x. test x ≡ true) first → ((x : A) → test x ≡ true → IsChain (next x)) → IsChain (first >>= next)
tested-chain {first = first} {next = next} test other one passes later =
    same-chain {one = first >>= (λ x. if test x then next x else give other)} {other = first >>= next} (λ r. rw (passes.at r) refl)
    (bind-chain one (λ x. if_tested (test x) other (later x)))

-- the probabilities of a header are bytes
bytes_are : (bytes : List ℕ) → AreProbabilities bytes → are_bytes bytes ≡ true
unfolding are_bytes
bytes_are [] small = refl
bytes_are (byte ∷ bytes) small = rw (lt-ltb byte 256 (small 0), bytes_are bytes (λ k. small (suc k))) refl

are_rows : List (List ℕ) → Bool
are_rows [] = true
are_rows (row ∷ rows) = are_bytes row && are_rows rows

rows_are : (rows : List (List ℕ)) → AreRows rows → are_rows rows ≡ true
unfolding are_rows
rows_are [] small = refl
rows_are (row ∷ rows) small = rw (bytes_are row (small 0), rows_are rows (λ k. small (suc k))) refl

of_rows : (rows : List (List ℕ)) → are_rows rows ≡ true → AreRows rows
unfolding are_rows are_bytes
of_rows [] are k = probabilities [] refl
of_rows (row ∷ rows) are zero = probabilities row (and_parts _ _ are).0
of_rows (row ∷ rows) are (suc k) = of_rows rows (and_parts _ _ are).1 k

is_small : Option ℕ → Bool
is_small None = true
is_small (Some prob) = nat_lt prob 256

small_is : (prob : Option ℕ) → IsProbability prob → is_small prob ≡ true
unfolding is_small
small_is None small = refl
small_is (Some prob) small = lt-ltb prob 256 small

of_small : (prob : Option ℕ) → is_small prob ≡ true → IsProbability prob
unfolding is_small
of_small None is = tt
of_small (Some prob) is = ltb-true prob 256 is

both : (a b : Bool) → a ≡ true → b ≡ true → a && b ≡ true
both a b p q = rw (p, q) refl

pub has_bytes : Header → Bool
has_bytes header =
    are_bytes header.segmentation.map_probabilities && (is_small header.skip_probability && (nat_lt header.reference_probabilities.intra 256 && (nat_lt header.reference_probabilities.last 256
    && (nat_lt header.reference_probabilities.golden 256 && (are_bytes header.context.probabilities.y_modes && (are_bytes header.context.probabilities.uv_modes && are_rows header.context.probabilities.vectors))))))

pub has_them : (tables : TableEntries) (header : Header) → HaveProbabilities tables header → has_bytes header ≡ true
unfolding has_bytes
has_them tables header have =
    both _ _ (bytes_are _ have.segments) (both _ _ (small_is _ have.skip) (both _ _ (lt-ltb _ _ have.intra) (both _ _ (lt-ltb _ _ have.last)
    (both _ _ (lt-ltb _ _ have.golden) (both _ _ (bytes_are _ have.y_modes) (both _ _ (bytes_are _ have.uv_modes) (rows_are _ have.vectors)))))))

pub have_them : (tables : TableEntries) (header : Header) → AreProbabilities tables.key_subs → has_bytes header ≡ true → HaveProbabilities tables header
unfolding has_bytes
have_them tables header key_subs has =
    let one = and_parts _ _ has in
    let two = and_parts _ _ one.1 in
    let three = and_parts _ _ two.1 in
    let four = and_parts _ _ three.1 in
    let five = and_parts _ _ four.1 in
    let six = and_parts _ _ five.1 in
    let seven = and_parts _ _ six.1 in
    record {
      key_subs = key_subs;
      segments = probabilities header.segmentation.map_probabilities one.0;
      skip = of_small header.skip_probability two.0;
      intra = ltb-true _ _ three.0;
      last = ltb-true _ _ four.0;
      golden = ltb-true _ _ five.0;
      y_modes = probabilities header.context.probabilities.y_modes six.0;
      uv_modes = probabilities header.context.probabilities.uv_modes seven.0;
      vectors = of_rows header.context.probabilities.vectors seven.1;
    }

-- the header
pub header-gives : (tables : TableEntries) (given : Header) (context : Context) → AreProbabilities tables.key_subs → AreBytes context.probabilities → Gives (HaveProbabilities tables) (header_reading tables given context)
header-gives tables given context key_subs kept =
    gives-next (fields-bytes given.is_key context) (λ first one.
    gives-next (trailing-bytes given.is_key tables.updates first.1 (subst AreBytes (sym one.1) kept)) (λ after two.
    gives-give (header_in (record { tag = record { key = given.is_key; version = given.version; shown = given.is_shown; first_partition = 0 }; place = 0; width = given.width; height = given.height }) first given.partitions (after, given.reader)) (record {
      key_subs = key_subs;
      segments = one.0;
      skip = two.0;
      intra = two.1.intra;
      last = two.1.last;
      golden = two.1.golden;
      y_modes = two.1.kept.y_modes;
      uv_modes = two.1.kept.uv_modes;
      vectors = two.1.kept.vectors;
    })))

header-chain : (tables : TableEntries) (given : Header) (context : Context) → ((before : Context) → IsChain (fields given.is_key before)) → ((before : Context) → IsChain (trailing_fields given.is_key tables.updates before)) → IsChain (header_reading tables given context)
header-chain tables given context first trailing = search (bind-chain, give-chain, first, trailing)

-- the whole partition
pub records_reading-chain : (tables : TableEntries) (given : Header) (context : Context) (columns rows : ℕ) (map : Option (List ℕ)) (n : ℕ)
    → ((before : Context) → IsChain (fields given.is_key before)) → ((before : Context) → IsChain (trailing_fields given.is_key tables.updates before)) → FramesAreChains
    → AreProbabilities tables.key_subs → AreBytes context.probabilities → IsChain (records_reading tables given context columns rows map n)
unfolding records_reading
records_reading-chain tables given context columns rows map n first trailing frames key_subs kept =
    tested-chain has_bytes (given, []) (header-chain tables given context first trailing)
    (record { at = λ r. has_them tables _ ((header-gives tables given context key_subs kept).at r) })
    (λ header has. bind-chain (frames tables header columns rows map n (have_them tables header key_subs has)) (λ records. give-chain (header, records)))

pub first_is_chain : (tables : TableEntries) (state : Option Known) → ((is_key : Bool) (before : Context) → IsChain (fields is_key before)) → ((is_key : Bool) (before : Context) → IsChain (trailing_fields is_key tables.updates before)) → FramesAreChains
    → AreProbabilities tables.key_subs → ((packet : List ℕ) → AreBytes (first_context tables (has_key_tag packet) (context_in state)).probabilities) → FirstIsChain tables state
first_is_chain tables state first trailing frames key_subs bytes packet header =
    records_reading-chain tables header (first_context tables (has_key_tag packet) (context_in state)) (columns_of state packet header) (rows_of state packet header) _ _ (first header.is_key) (trailing header.is_key) frames key_subs (bytes packet)
