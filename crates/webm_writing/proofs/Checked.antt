-- What can be written, by tests.
use Rattle.std.proofs.Common.{◌≡◌, ℕ, ◌+◌, ◌*◌, ◌^◌, ◌<◌, ◌≤◌, ◌==◌, ◌&&◌, ◌||◌, ◌↔◌, Bool, true, false, IsTrue, eqb, inl, inr, List, [], ◌∷◌, ◌++◌, length, drop, get_or, map, min, nat_lt, count_by, refl, sym, ap, ◌∙◌, subst, arith, length-append}
use Rattle.std.specs.List.{list_all, list_any}
use Rattle.std.proofs.lemmas.Bool.{cases_Bool, eqb-true, ltb-true, lt-ltb}
use Rattle.std.proofs.lemmas.List.{at_drop_all, drop_more}
use Rattle.webm_files.specs.declared.ids.TheConstants.{KNOWN, TIMESTAMP}
use Rattle.webm_files.specs.Elements.{is_block, is_known, is_opened}
use Rattle.webm_writing.specs.declared.checks.TheConstants.{NAMES}
use Rattle.webm_writing.specs.declared.samples.Part.{Part}
use Rattle.webm_writing.specs.declared.samples.Sample.{Sample}
use Rattle.webm_writing.specs.Pieces.{IsMarked, piece_text, text_of}
use Rattle.webm_writing.specs.Fitting.{FileFits, PartFits, PartsFit, SampleFits, SamplesFit}
use Rattle.webm_writing.specs.Tests.{each_fits, is_name, part_fits, sample_fits}
use Rattle.webm_writing.specs.Written.{Written, cues_from, groups, part_piece, webm_text}
use Rattle.webm_writing.proofs.Lengths.{cues_long}

-- a fact of each number of a list
abbrev AllOf : (ℕ → Type 0) → List ℕ → Type 0
AllOf P [] = Unit {0}
AllOf P (x ∷ xs) = P x × AllOf P xs

any_is : (P : ℕ → Type 0) (xs : List ℕ) (id : ℕ) → list_any (λ other. other == id) xs ≡ true → AllOf P xs → P id
any_is P [] id e all = let wrong : false ≡ true = e in (cc)
any_is P (x ∷ xs) id e all = elim (cases_Bool (eqb x id)) [
  | inl same ↦ subst P (eqb-true x id same) all.0
  | inr other ↦ any_is P xs id (subst (λ b. (b || list_any (λ n. n == id) xs) ≡ true) other e) all.1
]

-- the names of parts
record IsName (id : ℕ) : Type 0 where
  name : IsMarked 4 id
  known : is_known id ≡ true
  shut : is_opened id ≡ false
  plain : is_block id ≡ false
  timeless : id ≡ TIMESTAMP → ⊥

names_are : AllOf IsName NAMES
unfolding is_known is_opened is_block
names_are = (
  record { name = record { low = omega arith; high = omega arith }; known = refl; shut = refl; plain = refl; timeless = λ e. omega (arith, e) },
  (
    record { name = record { low = omega arith; high = omega arith }; known = refl; shut = refl; plain = refl; timeless = λ e. omega (arith, e) },
    (
      record { name = record { low = omega arith; high = omega arith }; known = refl; shut = refl; plain = refl; timeless = λ e. omega (arith, e) },
      (
        record { name = record { low = omega arith; high = omega arith }; known = refl; shut = refl; plain = refl; timeless = λ e. omega (arith, e) },
        (
          record { name = record { low = omega arith; high = omega arith }; known = refl; shut = refl; plain = refl; timeless = λ e. omega (arith, e) },
          (
            record { name = record { low = omega arith; high = omega arith }; known = refl; shut = refl; plain = refl; timeless = λ e. omega (arith, e) },
            (
              record { name = record { low = omega arith; high = omega arith }; known = refl; shut = refl; plain = refl; timeless = λ e. omega (arith, e) },
              (record { name = record { low = omega arith; high = omega arith }; known = refl; shut = refl; plain = refl; timeless = λ e. omega (arith, e) }, tt),
            ),
          ),
        ),
      ),
    ),
  ),
)

name_is : (id : ℕ) → is_name id ≡ true → IsName id
unfolding is_name
name_is id e = any_is IsName NAMES id e names_are

-- a known name of four bytes that is not opened is one of them
abbrev IsNamed : ℕ → Type 0
IsNamed id = 268435456 ≤ id → is_opened id ≡ false → is_name id ≡ true

short_one : (id : ℕ) → id < 268435456 → IsNamed id
short_one id less = λ low shut. absurd (omega (arith, less, low))

opened_one : (id : ℕ) → is_opened id ≡ true → IsNamed id
opened_one id is = λ low shut. let wrong : true ≡ false = sym is ∙ shut in (cc)

known_are : AllOf IsNamed KNOWN
unfolding is_opened is_name
known_are = (
  opened_one 0x18538067 refl,
  (
    opened_one 0x1F43B675 refl,
    (
      short_one 0xA0 (omega arith),
      (
        short_one 0xE7 (omega arith),
        (
          short_one 0xA3 (omega arith),
          (
            short_one 0xA1 (omega arith),
            (
              λ low shut. refl,
              (
                λ low shut. refl,
                (
                  λ low shut. refl,
                  (
                    λ low shut. refl,
                    (
                      λ low shut. refl,
                      (
                        λ low shut. refl,
                        (
                          λ low shut. refl,
                          (
                            λ low shut. refl,
                            (
                              short_one 0xEC (omega arith),
                              (
                                short_one 0xBF (omega arith),
                                (
                                  short_one 0x5854 (omega arith),
                                  (
                                    short_one 0xA7 (omega arith),
                                    (
                                      short_one 0xAB (omega arith),
                                      (
                                        short_one 0xAF (omega arith),
                                        (
                                          short_one 0xA2 (omega arith),
                                          (
                                            short_one 0x75A1 (omega arith),
                                            (
                                              short_one 0x9B (omega arith),
                                              (
                                                short_one 0xFA (omega arith),
                                                (
                                                  short_one 0xFB (omega arith),
                                                  (
                                                    short_one 0xFD (omega arith),
                                                    (short_one 0xA4 (omega arith), (short_one 0x75A2 (omega arith), (short_one 0x8E (omega arith), (short_one 0xC8 (omega arith), tt)))),
                                                  ),
                                                ),
                                              ),
                                            ),
                                          ),
                                        ),
                                      ),
                                    ),
                                  ),
                                ),
                              ),
                            ),
                          ),
                        ),
                      ),
                    ),
                  ),
                ),
              ),
            ),
          ),
        ),
      ),
    ),
  ),
)

known_name : (id : ℕ) → is_known id ≡ true → IsNamed id
unfolding is_known
known_name id e = any_is IsNamed KNOWN id e known_are

-- tests of both
both_of : (a b : Bool) → (a && b) ≡ true → (a ≡ true) × (b ≡ true)
both_of true b e = (refl, e)
both_of false b e = let wrong : false ≡ true = e in (cc)

both_are : (a b : Bool) → a ≡ true → b ≡ true → (a && b) ≡ true
both_are a b p q = ap (λ x. x && b) p ∙ q

part_is : (part : Part) → part_fits part ≡ true → PartFits part
part_is part e =
    let both = both_of (is_name part.id) (nat_lt (length part.content) 268435455) e in
    let name = name_is part.id both.0 in
    let less : length part.content < 268435455 = ltb-true (length part.content) 268435455 both.1 in
    record { name = name.name; known = name.known; shut = name.shut; plain = name.plain; timeless = name.timeless; size = omega (arith, less) }

fits_part : (part : Part) → PartFits part → part_fits part ≡ true
fits_part part fits =
    both_are (is_name part.id) (nat_lt (length part.content) 268435455) (known_name part.id fits.known (omega (arith, fits.name.low)) fits.shut)
    (lt-ltb (length part.content) 268435455 (omega (arith, fits.size)))

parts_are : (parts : List Part) → list_all part_fits parts ≡ true → PartsFit parts
parts_are [] e = tt
parts_are (part ∷ parts) e = let both = both_of (part_fits part) (list_all part_fits parts) e in (part_is part both.0, parts_are parts both.1)

fits_parts : (parts : List Part) → PartsFit parts → list_all part_fits parts ≡ true
fits_parts [] fit = refl
fits_parts (part ∷ parts) fit = both_are (part_fits part) (list_all part_fits parts) (fits_part part fit.0) (fits_parts parts fit.1)

sample_is : (sample : Sample) → sample.stamp < 2 ^ 64 → sample_fits sample ≡ true → SampleFits sample
sample_is sample stamp e =
    let both = both_of (nat_lt sample.track 127) (nat_lt (length sample.bytes) 72057594037927931) e in
    let less : length sample.bytes < 72057594037927931 = ltb-true (length sample.bytes) 72057594037927931 both.1 in
    record { track = ltb-true sample.track 127 both.0; stamp = stamp; size = omega (arith, less) }

fits_sample : (sample : Sample) → SampleFits sample → sample_fits sample ≡ true
fits_sample sample fits =
    both_are (nat_lt sample.track 127) (nat_lt (length sample.bytes) 72057594037927931) (lt-ltb sample.track 127 fits.track) (lt-ltb (length sample.bytes) 72057594037927931 (omega (arith, fits.size)))

-- the samples are those before an index, which fit, and those from there on
pub record Fit (samples : List Sample) (i : ℕ) : Type 0 where
  pub to : SamplesFit (drop i samples) → SamplesFit samples
  pub from : SamplesFit samples → SamplesFit (drop i samples)

pub fit_none : (samples : List Sample) → Fit samples 0
fit_none samples = record { to = λ rest. rest; from = λ all. all }

pub fit_more : (samples : List Sample) (i : ℕ) (sample : Sample) → i < length samples → sample ≡ get_or samples i sample → sample.stamp < 2 ^ 64 → sample_fits sample ≡ true → Fit samples i → Fit samples (i + 1)
fit_more samples i sample within is stamp e fit =
    let split : drop i samples ≡ sample ∷ drop (i + 1) samples = drop_more samples i sample within ∙ ap (λ s. s ∷ drop (i + 1) samples) (sym is) in
    record { to = λ rest. fit.to (subst SamplesFit (sym split) (sample_is sample stamp e, rest)); from = λ all. (subst SamplesFit split (fit.from all)).1 }

pub fit_never : (samples : List Sample) (i : ℕ) (sample : Sample) → i < length samples → sample ≡ get_or samples i sample → sample_fits sample ≡ false → Fit samples i → IsTrue false ↔ SamplesFit samples
fit_never samples i sample within is e fit =
    let split : drop i samples ≡ sample ∷ drop (i + 1) samples = drop_more samples i sample within ∙ ap (λ s. s ∷ drop (i + 1) samples) (sym is) in
    (λ wrong. let never : false ≡ true = wrong in (cc), λ all. sym e ∙ fits_sample sample (subst SamplesFit split (fit.from all)).0)

pub fit_all : (samples : List Sample) (i : ℕ) → length samples ≤ i → Fit samples i → IsTrue true ↔ SamplesFit samples
fit_all samples i over fit =
    let none : drop i samples ≡ [] = at_drop_all (λ (s : List Sample). s) samples i over in
    (λ sure. fit.to (subst SamplesFit (sym none) tt), λ all. refl)

-- everything but the samples and the length of the file
pub record Each (file : Written) : Type 0 where
  pub parts : PartsFit file.parts
  pub most : file.most < 32768
  pub few : length file.parts < 2 ^ 20
  pub cues : (at : ℕ) → length (cues_from at (groups file.most file.samples)) + 1 < 2 ^ 28

pub each_is : (file : Written) → each_fits file ≡ true → Each file
each_is file e =
    let keys : Bool = nat_lt (count_by (λ sample. sample.is_key) file.samples) 6391321 in
    let few : Bool = nat_lt (length file.parts) 1048576 in
    let most : Bool = nat_lt file.most 32768 in
    let one = both_of (list_all part_fits file.parts) (most && (few && keys)) e in
    let two = both_of most (few && keys) one.1 in
    let three = both_of few keys two.1 in
    let less : file.most < 32768 = ltb-true file.most 32768 two.0 in
    let fewer : length file.parts < 1048576 = ltb-true (length file.parts) 1048576 three.0 in
    let count : count_by (λ sample. sample.is_key) file.samples < 6391321 = ltb-true (count_by (λ sample. sample.is_key) file.samples) 6391321 three.1 in
    record { parts = parts_are file.parts one.0; most = less; few = omega (arith, fewer); cues = λ at. omega (arith, count, cues_long at file.most file.samples) }

each_of : (file : Written) → FileFits file → each_fits file ≡ true
each_of file fits =
    let count : count_by (λ sample. sample.is_key) file.samples < 6391321 = omega (arith, fits.cues 0, cues_long 0 file.most file.samples) in
    let keys : Bool = nat_lt (count_by (λ sample. sample.is_key) file.samples) 6391321 in
    let few : Bool = nat_lt (length file.parts) 1048576 in
    let most : Bool = nat_lt file.most 32768 in
    let three : (few && keys) ≡ true = both_are few keys (lt-ltb (length file.parts) 1048576 (omega (arith, fits.few))) (lt-ltb (count_by (λ sample. sample.is_key) file.samples) 6391321 count) in
    let two : (most && (few && keys)) ≡ true = both_are most (few && keys) (lt-ltb file.most 32768 fits.most) three in
    both_are (list_all part_fits file.parts) (most && (few && keys)) (fits_parts file.parts fits.parts) two

pub not_each : (file : Written) → each_fits file ≡ false → IsTrue false ↔ FileFits file
not_each file e = (λ wrong. let never : false ≡ true = wrong in (cc), λ fits. sym e ∙ each_of file fits)

pub not_samples : (file : Written) (b : Bool) → b ≡ false → IsTrue b ↔ SamplesFit file.samples → IsTrue false ↔ FileFits file
not_samples file b e both = (λ wrong. let never : false ≡ true = wrong in (cc), λ fits. sym e ∙ both.1 fits.samples)

pub short_is : (file : Written) (size : ℕ) → Each file → SamplesFit file.samples → size ≡ min (length (webm_text file)) 18446744073709551615 → IsTrue (nat_lt size 72057594037927935) ↔ FileFits file
short_is file size each samples is = (
  λ e. let less : size < 72057594037927935 = ltb-true size 72057594037927935 e in
      record { parts = each.parts; samples = samples; most = each.most; few = each.few; cues = each.cues; size = omega (arith, less, is) },
  λ fits. lt-ltb size 72057594037927935 (omega (arith, is, fits.size)),
)

-- parts that fit have few bytes
pub parts_few : (parts : List Part) → PartsFit parts → length (text_of (map part_piece parts)) ≤ 268435463 * length parts
parts_few [] fit = omega arith
parts_few (part ∷ parts) fit =
    let first : length (piece_text (part_piece part)) ≡ 8 + length part.content = omega arith in
    let both : length (piece_text (part_piece part) ++ text_of (map part_piece parts)) ≡ length (piece_text (part_piece part)) + length (text_of (map part_piece parts)) = length-append (piece_text (part_piece part)) (text_of (map part_piece parts)) in
    omega (arith, first, both, fit.0.size, parts_few parts fit.1)
